-- A sweep cut anywhere, and the mend after it, leave the text of each heading that they leave: a sweep has cleared the headings that are lost
-- when it begins with text, and a mend clears text only where the heading keeps none.
use mathlib.Core.Bool.{Bool, true, false, cond}
use mathlib.Core.List.{List, ◌++◌, append_assoc}
use mathlib.Core.Logic.{◌⊎◌, inl, inr, ◌≢◌, by_cases}
use mathlib.Core.Path.{◌≡◌, refl, sym, ◌∙◌}
use Prim.Native.Nat.{ℕ, zero, suc, ◌-◌, ◌≤◌, ◌<◌}
use native.Mathlib.Omega.{arith}
use native.Mathlib.Decide.{dec_le}
use lib.ListN.{length, take}
use lib.Seq.{take-append-le}
use borrow.Author.Tests.{eqb-true, not-true}
use Rattle.paper.specs.Record.{byte, is_kind, heading_of, blank}
use Rattle.paper.specs.Table.{rooms, rec}
use Rattle.paper.specs.Store.{Store, clears, run}
use Rattle.paper.specs.Count.{recounts}
use Rattle.paper.specs.Mend.{adrift, keeps_text, orphan, stray, wiped, after₁, after₂, round, rounds_stores, cleared}
use Rattle.paper.specs.Sweep.{reached, lost_entry, lost_heading, lost_text, sweep_clears, live, sweep_stores}
use Rattle.laws.proofs.Tests.{not-both, and_left, and_right, true-by}
use Rattle.laws.proofs.Lists.{Every, every_append, every-imp, every_take, take_past}
use Rattle.laws.proofs.Lay.{Whole, within, kind-blank}
use Rattle.laws.proofs.Runs.{Lays, run-each, run-append, length_run, rooms-run}
use Rattle.laws.proofs.Recounts.{Recount, every-recounts}
use Rattle.demands.proofs.Mending.Wipe.{rec-wiped, Blanks, every-clears, round_is, rounds-next, cleared-is}
use Rattle.demands.proofs.Mending.Part.{Kept, Below, free, stays, Less}
use Rattle.demands.proofs.Mending.Counts.{alike-keeps}
use Rattle.demands.proofs.Mending.Less.{less-trans, below, less₁, less₁₂, round-less}
use Rattle.sweep_demands.proofs.Live.{clears-at, heading-live, live-less, live-stays, live-was}
use Rattle.sweep_demands.proofs.Lesser.{TextsStay}

-- what is there after a step was there before, and did not pass
pub was : (u : List ℕ) (p : ℕ → Bool) (n i k : ℕ) → n ≡ rooms u → i < n → byte (rec (run u (clears p n)) i) 0 ≡ suc k
    → (p i ≡ false) × (rec (run u (clears p n)) i ≡ rec u i)
was u p n i k r l e = go (p i) refl (clears-at u p n i r l)
  where
    go : (b : Bool) → p i ≡ b → rec (run u (clears p n)) i ≡ cond b blank (rec u i) → (p i ≡ false) × (rec (run u (clears p n)) i ≡ rec u i)
    go true q z = let y : ⊥ = omega (arith, kind-blank (rec (run u (clears p n)) i) z) in absurd y
    go false q z = (q, z)

-- ---- mending

module _ (s : List ℕ) (w : Whole s) (k : Kept s) where
  -- a step that clears text only where the heading keeps none
  step-texts : (u : List ℕ) (p : ℕ → Bool) → Less s u → ((i : ℕ) → p i ≡ true → byte (rec u i) 0 ≡ 3 → keeps_text (rec u (heading_of (rec u i))) ≡ false)
      → TextsStay s u → TextsStay s (wiped p u)
  step-texts u p d f x i l q z = go (p i) refl (rec-wiped u p i (rw d.long l))
    where
      wu : Whole (wiped p u)
      wu = rw (length_run u (clears p (rooms u)), d.long) w

      inside : heading_of (rec s i) < rooms u
      inside =
          rw (rooms-run u (clears p (rooms u))) at
          (within (wiped p u) (heading_of (rec s i)) wu (λ (y : byte (rec (wiped p u) (heading_of (rec s i))) 0 ≡ 0). omega arith))

      head : byte (rec u (heading_of (rec s i))) 0 ≡ 1
      head = rw (was u p (rooms u) (heading_of (rec s i)) 0 refl inside z).1 at z

      same : rec u i ≡ rec s i
      same = x i l q head

      keeps : keeps_text (rec u (heading_of (rec s i))) ≡ true
      keeps = on (below s u w d (heading_of (rec s i)))
        where
          on : Below (rec s (heading_of (rec s i))) (rec u (heading_of (rec s i))) → keeps_text (rec u (heading_of (rec s i))) ≡ true
          on (free e) = let y : ⊥ = omega (arith, head, kind-blank (rec u (heading_of (rec s i))) e) in absurd y
          on (stays a) = alike-keeps (rec s (heading_of (rec s i))) (rec u (heading_of (rec s i))) a ∙ k.texts i l q

      go : (b : Bool) → p i ≡ b → rec (wiped p u) i ≡ cond b blank (rec u i) → rec (wiped p u) i ≡ rec s i
      go false e y = y ∙ same
      go true e y = absurd (not-both keeps (rw same at (f i e (rw (same, q)))))

  round-texts : (u : List ℕ) → Less s u → TextsStay s u → TextsStay s (round u)
  round-texts u d x =
      rw (round_is u) (step-texts (after₂ u) (stray (after₂ u)) d₂ (λ i e _. not-true _ (and_right (is_kind 3 (rec (after₂ u) i)) _ e)) x₂)
    where
      never : (j : ℕ) (r : List ℕ) {X : Type 0} → j ≢ 3 → is_kind j r ≡ true → byte r 0 ≡ 3 → X
      never j r n e z = absurd (n (sym (eqb-true _ _ e) ∙ z))

      d₁ : Less s (after₁ u)
      d₁ = less-trans s u (after₁ u) d (less₁ u)

      d₂ : Less s (after₂ u)
      d₂ = less-trans s u (after₂ u) d (less₁₂ u)

      x₁ : TextsStay s (after₁ u)
      x₁ = unfold after₁ in step-texts u (adrift u) d (λ i e. never 2 (rec u i) (λ z. omega (arith, z)) (and_left (is_kind 2 (rec u i)) _ e)) x

      x₂ : TextsStay s (after₂ u)
      x₂ =
          unfold after₂ in step-texts (after₁ u) (orphan (after₁ u)) d₁
          (λ i e. never 1 (rec (after₁ u) i) (λ z. omega (arith, z)) (and_left (is_kind 1 (rec (after₁ u) i)) _ e)) x₁

  rounds-texts : (n : ℕ) (u : List ℕ) → Less s u → TextsStay s u → TextsStay s (run u (rounds_stores n u))
  unfolding rounds_stores run
  rounds-texts zero u d x = x
  rounds-texts (suc n) u d x =
      rw (rounds-next n u) (rounds-texts n (round u) (less-trans s u (round u) d (round-less u)) (round-texts u d x))

  pub cleared-texts : (u : List ℕ) → Less s u → TextsStay s u → TextsStay s (cleared u)
  cleared-texts u d x = rw (cleared-is u) (rounds-texts (rooms u) u d x)

-- ---- a sweep

module _ (s : List ℕ) (w : Whole s) where
  pub live-texts : TextsStay s (live s)
  live-texts i l q z =
      let x = live-was s w 0 (heading_of (rec s i)) z in
      let e = heading-live s (heading_of (rec s i)) (rw x.1 at z) x.0 in
      live-stays s w i (rw (q, e))

  -- before text: no text is touched
  upper : List Store
  upper = clears (lost_entry s) (rooms s) ++ clears (lost_heading s) (rooms s)

  lower : List Store
  lower = clears (lost_text s) (rooms s) ++ recounts (live s)

  split : sweep_stores s ≡ upper ++ lower
  unfolding upper lower sweep_stores sweep_clears
  split =
      append_assoc (clears (lost_entry s) (rooms s)) (clears (lost_heading s) (rooms s) ++ clears (lost_text s) (rooms s)) (recounts (live s))
      ∙ rw (append_assoc (clears (lost_heading s) (rooms s)) (clears (lost_text s) (rooms s)) (recounts (live s)))
      (sym (append_assoc (clears (lost_entry s) (rooms s)) (clears (lost_heading s) (rooms s)) (clears (lost_text s) (rooms s) ++ recounts (live s))))

  upper-spares : Every (Lays (λ i _. byte (rec s i) 0 ≢ 3) (rooms s)) upper
  unfolding upper
  upper-spares =
      every_append (Lays (λ i _. byte (rec s i) 0 ≢ 3) (rooms s)) (clears (lost_entry s) (rooms s)) (clears (lost_heading s) (rooms s))
      (part (lost_entry s) 2 (λ i e. eqb-true _ _ (and_left (is_kind 2 (rec s i)) _ e)) (λ z. omega (arith, z)))
      (part (lost_heading s) 1 (λ i e. eqb-true _ _ (and_left (is_kind 1 (rec s i)) _ e)) (λ z. omega (arith, z)))
    where
      part : (p : ℕ → Bool) (j : ℕ) → ((i : ℕ) → p i ≡ true → byte (rec s i) 0 ≡ j) → j ≢ 3
          → Every (Lays (λ i _. byte (rec s i) 0 ≢ 3) (rooms s)) (clears p (rooms s))
      part p j k n =
          every-imp (Lays (Blanks p) (rooms s)) _ (clears p (rooms s))
          (λ y h. record { within = h.within; size = h.size; holds = λ z. n (sym (k y.at h.holds.1) ∙ z) }) (every-clears p (rooms s))

  spared : (ss : List Store) → Every (Lays (λ i _. byte (rec s i) 0 ≢ 3) (rooms s)) ss
      → (i : ℕ) → i < rooms s → byte (rec s i) 0 ≡ 3 → rec (run s ss) i ≡ rec s i
  spared ss h i l q = go (run-each (λ i _. byte (rec s i) 0 ≢ 3) s ss h i l)
    where
      go : (rec (run s ss) i ≡ rec s i) ⊎ (byte (rec s i) 0 ≢ 3) → rec (run s ss) i ≡ rec s i
      go (inl e) = e
      go (inr n) = absurd (n q)

  -- after it: every heading there is reached
  u : List ℕ
  u = run s upper

  rooms-u : rooms u ≡ rooms s
  unfolding u
  rooms-u = rooms-run s upper

  u-is : u ≡ run (wiped (lost_entry s) s) (clears (lost_heading s) (rooms s))
  unfolding u upper
  u-is = run-append s (clears (lost_entry s) (rooms s)) (clears (lost_heading s) (rooms s))

  u-reached : (h : ℕ) → h < rooms s → byte (rec u h) 0 ≡ 1 → reached s h ≡ true
  u-reached h l z =
      let x = was (wiped (lost_entry s) s) (lost_heading s) (rooms s) h 0 (sym (rooms-run s (clears (lost_entry s) (rooms s)))) l (rw u-is at z) in
      let y : byte (rec (wiped (lost_entry s) s) h) 0 ≡ 1 = rw (u-is, x.1) at z in
      let e = was s (lost_entry s) (rooms s) h 0 refl l y in
      let q : byte (rec s h) 0 ≡ 1 = rw e.1 at y in
      true-by (reached s h) (λ n. not-both (rw (q, n)) x.0)

  -- text that is lost, or the counts of a heading that stays
  abbrev Later : ℕ → List ℕ → Type 0
  Later i r = Blanks (lost_text s) i r ⊎ (byte (rec (live s) i) 0 ≡ 1)

  later : Every (Lays Later (rooms u)) lower
  unfolding lower
  later =
      rw rooms-u (every_append (Lays Later (rooms s)) (clears (lost_text s) (rooms s)) (recounts (live s))
      (every-imp (Lays (Blanks (lost_text s)) (rooms s)) (Lays Later (rooms s)) (clears (lost_text s) (rooms s))
      (λ y h. record { within = h.within; size = h.size; holds = inl h.holds }) (every-clears (lost_text s) (rooms s)))
      (every-imp (Lays (Recount (live s)) (rooms (live s))) (Lays Later (rooms s)) (recounts (live s))
      (λ y h. record { within = rw (live-less s w).long at h.within; size = h.size; holds = inr h.holds.1.0 }) (every-recounts (live s))))

  module _ (ss : List Store) (hs : Every (Lays Later (rooms u)) ss) where
    after : (i : ℕ) → i < rooms s → (rec (run u ss) i ≡ rec u i) ⊎ Later i (rec (run u ss) i)
    after i l = run-each Later u ss hs i (rw rooms-u l)

    head : (h : ℕ) → h < rooms s → byte (rec (run u ss) h) 0 ≡ 1 → reached s h ≡ true
    head h l z = go (after h l)
      where
        go : (rec (run u ss) h ≡ rec u h) ⊎ Later h (rec (run u ss) h) → reached s h ≡ true
        go (inl e) = u-reached h l (rw e at z)
        go (inr (inl b)) = let n : ⊥ = omega (arith, kind-blank (rec (run u ss) h) b.0) in absurd n
        go (inr (inr y)) = let x = live-was s w 0 h y in heading-live s h (rw x.1 at y) x.0

    lower-texts : TextsStay s (run u ss)
    lower-texts i l q z = go (after i l)
      where
        long : length (run u ss) ≡ length s
        long = length_run u ss ∙ (unfold u in length_run s upper)

        e : reached s (heading_of (rec s i)) ≡ true
        e =
            head (heading_of (rec s i)) (rw long at (within (run u ss) (heading_of (rec s i)) (rw long w)
            (λ (y : byte (rec (run u ss) (heading_of (rec s i))) 0 ≡ 0). omega arith))) z

        go : (rec (run u ss) i ≡ rec u i) ⊎ Later i (rec (run u ss) i) → rec (run u ss) i ≡ rec s i
        go (inl y) = y ∙ (unfold u in spared upper upper-spares i l q)
        go (inr (inl b)) = absurd (not-both b.1 (rw (q, e)))
        go (inr (inr y)) = let x = live-was s w 0 i y in let n : ⊥ = omega (arith, rw x.1 at y) in absurd n

  -- cut after n stores
  pub cut-texts : (n : ℕ) → TextsStay s (run s (take n (sweep_stores s)))
  cut-texts n =
      rw split
      (by_cases (dec_le n (length upper))
      (λ (l : n ≤ length upper).
      rw (take-append-le n upper) (λ i m q z. spared (take n upper) (every_take _ n upper upper-spares) i m q))
      (λ (l : ¬ (n ≤ length upper)).
      rw (take_past n upper lower (omega arith), run-append s upper (take (n - length upper) lower))
      (unfold u in lower-texts (take (n - length upper) lower) (every_take _ (n - length upper) lower later))))
