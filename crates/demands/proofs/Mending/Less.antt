-- Mending is monotone. Clearing takes headings and names away and brings none, so each test that holds still holds when more is cleared:
-- what goes still goes. So each step, each round and any number of rounds of a lesser table leave a lesser table.
use mathlib.Core.Bool.{Bool, true, false, ◌||◌, not, cond}
use mathlib.Core.List.{List}
use mathlib.Core.Logic.{◌⊎◌, inl, inr, by_cases}
use mathlib.Core.Path.{◌≡◌, refl, sym, ◌∙◌}
use Prim.Native.Nat.{ℕ, zero, suc, ◌<◌}
use native.Mathlib.Omega.{arith}
use native.Mathlib.Decide.{dec_lt}
use borrow.Author.Tests.{eqb-true}
use Rattle.paper.specs.Record.{byte, is_kind, names, holder_of, heading_named, heading_of, blank}
use Rattle.paper.specs.Table.{rooms, rec}
use Rattle.paper.specs.Entry.{named}
use Rattle.paper.specs.Store.{run}
use Rattle.paper.specs.Count.{recounts}
use Rattle.paper.specs.Sound.{is_base}
use Rattle.paper.specs.Mend.{anchored, adrift, keeps_text, orphan, stray, wiped, after₁, after₂, round, rounds_stores, cleared, mended}
use Rattle.laws.proofs.Tests.{truth, not-both, and_left, and_right, and_both, or_cases, or_left, or_right, either}
use Rattle.laws.proofs.Scans.{any-true, any_here}
use Rattle.laws.proofs.Lay.{Whole, rec-past}
use Rattle.laws.proofs.Runs.{length_run, rooms-run}
use Rattle.demands.proofs.Mending.Wipe.{rec-wiped, round_is, rounds-next, cleared-is, mended-is}
use Rattle.demands.proofs.Mending.Part.{Alike, equal, Below, free, stays, Less}
use Rattle.demands.proofs.Mending.Counts.{alike-sym, alike-trans, alike-kind, alike-keeps, alike_same, is-blank, alike-names, recounts-each}

-- ---- the order

pub below-trans : (x y z : List ℕ) → Below x y → Below y z → Below x z
below-trans x y z p (free e) = free e
below-trans x y z (free e) (stays b) = free (is-blank z (rw e at b))
below-trans x y z (stays a) (stays b) = stays (alike-trans x y z a b)

pub less-refl : (s : List ℕ) → Less s s
less-refl s = record { long = refl; each = λ i l. stays (equal refl) }

pub less-trans : (s a b : List ℕ) → Less s a → Less a b → Less s b
less-trans s a b p q =
    record {
      long = q.long ∙ p.long;
      each = λ i l. below-trans (rec s i) (rec a i) (rec b i) (p.each i l) (q.each i (rw p.long l));
    }

-- both ways round: alike
pub less_both : (s a : List ℕ) → Less s a → Less a s → (i : ℕ) → i < rooms s → Alike (rec s i) (rec a i)
less_both s a p q i l = go (p.each i l) (q.each i (rw p.long l))
  where
    go : Below (rec s i) (rec a i) → Below (rec a i) (rec s i) → Alike (rec s i) (rec a i)
    go (stays x) y = x
    go (free e) (free f) = equal (e ∙ sym f)
    go (free e) (stays y) = equal (e ∙ sym (is-blank (rec s i) (rw e at y)))

-- what is free stays free
pub less-free : (s a : List ℕ) → Less s a → (i : ℕ) → i < rooms s → rec s i ≡ blank → rec a i ≡ blank
less-free s a d i l e = go (d.each i l)
  where
    go : Below (rec s i) (rec a i) → rec a i ≡ blank
    go (free z) = z
    go (stays x) = is-blank (rec a i) (rw e at x)

-- ---- a test that a blank record does not pass: what passes it passed before

pub up : (q : List ℕ → Bool) → q blank ≡ false → ((x r : List ℕ) → Alike x r → q r ≡ q x) → (x r : List ℕ) → Below x r → q r ≡ true → q x ≡ true
up q z k x r (free e) t = absurd (not-both t (rw e z))
up q z k x r (stays a) t = sym (k x r a) ∙ t

pub up-keeps : (x r : List ℕ) → Below x r → keeps_text r ≡ true → keeps_text x ≡ true
up-keeps = up keeps_text (unfold blank keeps_text in refl) alike-keeps

pub up-heading : (x r : List ℕ) → Below x r → is_kind 1 r ≡ true → is_kind 1 x ≡ true
up-heading = up (is_kind 1) (unfold blank in refl) (λ x r a. rw (alike-kind x r a))

pub up-names : (h : ℕ) (x r : List ℕ) → Below x r → names h r ≡ true → names h x ≡ true
up-names h = up (names h) (unfold blank in refl) (alike-names h)

not-down : (a b : Bool) → (a ≡ true → b ≡ true) → not b ≡ true → not a ≡ true
not-down a true h e = absurd (not-both e refl)
not-down true false h e = absurd (not-both (h refl) refl)
not-down false false h e = refl

module _ (s a : List ℕ) (w : Whole s) (d : Less s a) where
  -- past the table both have nothing
  pub below : (h : ℕ) → Below (rec s h) (rec a h)
  below h =
      by_cases (dec_lt h (rooms s)) (d.each h)
      (λ (n : ¬ (h < rooms s)). stays (equal (rec-past a h (rw d.long w) (rw d.long (omega arith)) ∙ sym (rec-past s h w (omega arith)))))

  pub up_named : (h : ℕ) → named a h ≡ true → named s h ≡ true
  unfolding named
  up_named h e =
      let x = any-true (λ j. names h (rec a j)) (rooms s) (rw d.long at e) in
      any_here (λ j. names h (rec s j)) (rooms s) x.0 x.1 (up-names h (rec s x.0) (rec a x.0) (below x.0) x.2)

  up-anchored : (r : List ℕ) → anchored a r ≡ true → anchored s r ≡ true
  unfolding anchored
  up-anchored r e =
      and_both (is_kind 1 (rec s (heading_named r))) _ (heading (heading_named r) (and_left (is_kind 1 (rec a (heading_named r))) _ e))
      (go (or_cases (is_base r) (is_kind 1 (rec a (holder_of r))) (and_right (is_kind 1 (rec a (heading_named r))) _ e)))
    where
      heading : (h : ℕ) → is_kind 1 (rec a h) ≡ true → is_kind 1 (rec s h) ≡ true
      heading h = up-heading (rec s h) (rec a h) (below h)

      go : (is_base r ≡ true) ⊎ (is_kind 1 (rec a (holder_of r)) ≡ true) → (is_base r || is_kind 1 (rec s (holder_of r))) ≡ true
      go (inl b) = or_left (is_base r) _ b
      go (inr k) = or_right (is_base r) _ (heading (holder_of r) k)

  -- ---- what goes still goes

  pub adrift-still : (i : ℕ) → Alike (rec s i) (rec a i) → adrift s i ≡ true → adrift a i ≡ true
  adrift-still i x g =
      let k : byte (rec s i) 0 ≡ 2 = eqb-true _ _ (and_left (is_kind 2 (rec s i)) _ g) in
      rw (alike_same (rec s i) (rec a i) x (rw k)) (and_both (is_kind 2 (rec s i)) _ (rw k)
      (not-down (anchored a (rec s i)) (anchored s (rec s i)) (up-anchored (rec s i)) (and_right (is_kind 2 (rec s i)) _ g)))

  pub orphan-still : (i : ℕ) → Alike (rec s i) (rec a i) → orphan s i ≡ true → orphan a i ≡ true
  orphan-still i x g =
      rw (alike-kind (rec s i) (rec a i) x) (and_both (is_kind 1 (rec s i)) _ (and_left (is_kind 1 (rec s i)) _ g)
      (not-down (named a i) (named s i) (up_named i) (and_right (is_kind 1 (rec s i)) _ g)))

  pub stray-still : (i : ℕ) → Alike (rec s i) (rec a i) → stray s i ≡ true → stray a i ≡ true
  stray-still i x g =
      let k : byte (rec s i) 0 ≡ 3 = eqb-true _ _ (and_left (is_kind 3 (rec s i)) _ g) in
      let h : ℕ = heading_of (rec s i) in
      rw (alike_same (rec s i) (rec a i) x (rw k)) (and_both (is_kind 3 (rec s i)) _ (rw k)
      (not-down (keeps_text (rec a h)) (keeps_text (rec s h)) (up-keeps (rec s h) (rec a h) (below h)) (and_right (is_kind 3 (rec s i)) _ g)))

-- ---- a step

free-either : (b : Bool) → cond b blank blank ≡ blank
free-either true = refl
free-either false = refl

pub wiped-less : (t : List ℕ) (p : ℕ → Bool) → Less t (wiped p t)
wiped-less t p = record { long = length_run t _; each = λ i l. rw (rec-wiped t p i l) (go i (p i)) }
  where
    go : (i : ℕ) (b : Bool) → Below (rec t i) (cond b blank (rec t i))
    go i true = free refl
    go i false = stays (equal refl)

pub wiped-mono : (s a : List ℕ) (p q : ℕ → Bool) → Less s a → ((i : ℕ) → Alike (rec s i) (rec a i) → p i ≡ true → q i ≡ true)
    → Less (wiped p s) (wiped q a)
wiped-mono s a p q d h = record { long = rw (length_run s _, length_run a _) d.long; each = at }
  where
    go : (i : ℕ) → Below (rec s i) (rec a i) → (p i ≡ true) ⊎ (p i ≡ false) → Below (cond (p i) blank (rec s i)) (cond (q i) blank (rec a i))
    go i (free e) c = rw e (free (free-either (q i)))
    go i (stays x) (inl c) = rw (c, h i x c) (free refl)
    go i (stays x) (inr c) = rw c (either (λ (r : List ℕ). Below (rec s i) r) (q i) blank (rec a i) (free refl) (stays x))

    at : (i : ℕ) → i < rooms (wiped p s) → Below (rec (wiped p s) i) (rec (wiped q a) i)
    at i l =
        let m : i < rooms s = rw (rooms-run s _) at l in
        rw (rec-wiped s p i m, rec-wiped a q i (rw d.long m)) (go i (d.each i m) (truth (p i)))

-- ---- the three steps of a round, and rounds

pub less₁ : (t : List ℕ) → Less t (after₁ t)
unfolding after₁
less₁ t = wiped-less t (adrift t)

pub less₂ : (t : List ℕ) → Less (after₁ t) (after₂ t)
unfolding after₂
less₂ t = wiped-less (after₁ t) (orphan (after₁ t))

pub less₃ : (t : List ℕ) → Less (after₂ t) (round t)
less₃ t = rw (round_is t) (wiped-less (after₂ t) (stray (after₂ t)))

pub less₁₂ : (t : List ℕ) → Less t (after₂ t)
less₁₂ t = less-trans t (after₁ t) (after₂ t) (less₁ t) (less₂ t)

pub round-less : (t : List ℕ) → Less t (round t)
round-less t = less-trans t (after₂ t) (round t) (less₁₂ t) (less₃ t)

pub round_mono : (s a : List ℕ) → Whole s → Less s a → Less (round s) (round a)
round_mono s a w d =
    rw (round_is s, round_is a) (wiped-mono (after₂ s) (after₂ a) (stray (after₂ s)) (stray (after₂ a)) d₂ (stray-still (after₂ s) (after₂ a) w₂ d₂))
  where
    w₁ : Whole (after₁ s)
    w₁ = rw (less₁ s).long w

    d₁ : Less (after₁ s) (after₁ a)
    d₁ = unfold after₁ in wiped-mono s a (adrift s) (adrift a) d (adrift-still s a w d)

    w₂ : Whole (after₂ s)
    w₂ = rw (less₂ s).long w₁

    d₂ : Less (after₂ s) (after₂ a)
    d₂ = unfold after₂ in wiped-mono (after₁ s) (after₁ a) (orphan (after₁ s)) (orphan (after₁ a)) d₁ (orphan-still (after₁ s) (after₁ a) w₁ d₁)

pub rounds-less : (n : ℕ) (t : List ℕ) → Less t (run t (rounds_stores n t))
unfolding rounds_stores run
rounds-less zero t = less-refl t
rounds-less (suc n) t = rw (rounds-next n t) (less-trans t (round t) _ (round-less t) (rounds-less n (round t)))

pub rounds-mono : (n : ℕ) (s a : List ℕ) → Whole s → Less s a → Less (run s (rounds_stores n s)) (run a (rounds_stores n a))
unfolding rounds_stores run
rounds-mono zero s a w d = d
rounds-mono (suc n) s a w d =
    rw (rounds-next n s, rounds-next n a) (rounds-mono n (round s) (round a) (rw (round-less s).long w) (round_mono s a w d))

pub cleared-less : (t : List ℕ) → Less t (cleared t)
cleared-less t = rw (cleared-is t) (rounds-less (rooms t) t)

pub cleared-mono : (s a : List ℕ) → Whole s → Less s a → Less (cleared s) (cleared a)
cleared-mono s a w d = rw (cleared-is s, cleared-is a, d.long) (rounds-mono (rooms s) s a w d)

-- ---- and the counts

pub recounts-less : (t : List ℕ) → Less t (run t (recounts t))
recounts-less t = record { long = length_run t _; each = λ i l. stays (recounts-each t i l) }

pub recounts-more : (t : List ℕ) → Less (run t (recounts t)) t
recounts-more t =
    record {
      long = sym (length_run t _);
      each = λ i l. stays (alike-sym (rec t i) (rec (run t (recounts t)) i) (recounts-each t i (rw (rooms-run t _) at l)));
    }

pub mended-less : (t : List ℕ) → Less t (mended t)
mended-less t = rw (mended-is t) (less-trans t (cleared t) _ (cleared-less t) (recounts-less (cleared t)))
