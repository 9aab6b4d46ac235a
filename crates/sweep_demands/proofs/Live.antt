-- What a sweep leaves, record by record. What is reached stays and its chain with it, so what is left reaches the same headings and has
-- nothing lost; and of a lesser table it leaves a lesser one, since that reaches less.
use mathlib.Core.Bool.{Bool, true, false, ◌||◌, cond}
use mathlib.Core.List.{List, [], ◌++◌}
use mathlib.Core.Logic.{◌⊎◌, inl, inr, by_cases}
use mathlib.Core.Path.{◌≡◌, refl, sym, ◌∙◌}
use Prim.Native.Nat.{ℕ, zero, suc, ◌<◌}
use native.Mathlib.Omega.{arith}
use native.Mathlib.Decide.{dec_lt}
use lib.ListN.{length}
use borrow.Author.Tests.{eqb-true, not-true}
use Rattle.paper.specs.Record.{byte, is_kind, holder_of, names, heading_named, heading_of, blank}
use Rattle.paper.specs.Table.{rooms, rec}
use Rattle.paper.specs.Sound.{is_base}
use Rattle.paper.specs.Store.{clears, run}
use Rattle.paper.specs.Mend.{wiped}
use Rattle.paper.specs.Sweep.{reached_in, reached, lost_entry, lost_heading, lost_text, sweep_clears, live}
use Rattle.laws.proofs.Tests.{not-both, and_left, and_right, and_both, or_cases, or_left, or_right, or-none, or-no-left, or-no-right, false-by, true-by, same_truth}
use Rattle.laws.proofs.Scans.{any-true, any_here}
use Rattle.laws.proofs.Entries.{names-kind}
use Rattle.laws.proofs.Lay.{Whole, rec-past, within, kind-blank, ext-table}
use Rattle.laws.proofs.Runs.{run-append, length_run, rooms-run}
use Rattle.demands.proofs.Mending.Wipe.{rec-wiped, clears-none}
use Rattle.demands.proofs.Mending.Part.{Alike, Less}
use Rattle.demands.proofs.Mending.Counts.{alike-kind, alike_same}
use Rattle.demands.proofs.Mending.Less.{wiped-less, wiped-mono}
use Rattle.sweep_demands.proofs.Reach.{Leads, or-up, reached-mono, reached-heading, in-reached}

-- record i is cleared
abbrev pub lost : List ℕ → ℕ → Bool
lost t i = lost_text t i || (lost_heading t i || lost_entry t i)

-- what is lost, by its kind
pub data Lost (t : List ℕ) (i : ℕ) : Type 0 where
  entry : byte (rec t i) 0 ≡ 2 → is_base (rec t i) ≡ false → reached t (holder_of (rec t i)) ≡ false → Lost t i
  heading : byte (rec t i) 0 ≡ 1 → reached t i ≡ false → Lost t i
  text : byte (rec t i) 0 ≡ 3 → reached t (heading_of (rec t i)) ≡ false → Lost t i

pub lost-by : (t : List ℕ) (i : ℕ) → Lost t i → lost t i ≡ true
lost-by t i (entry k b n) = or_right (lost_text t i) _ (or_right (lost_heading t i) _ (rw (k, b, n)))
lost-by t i (heading k n) = or_right (lost_text t i) _ (or_left (lost_heading t i) _ (rw (k, n)))
lost-by t i (text k n) = or_left (lost_text t i) _ (rw (k, n))

pub lost-is : (t : List ℕ) (i : ℕ) → lost t i ≡ true → Lost t i
lost-is t i e = go (or_cases (lost_text t i) _ e)
  where
    more : (lost_heading t i ≡ true) ⊎ (lost_entry t i ≡ true) → Lost t i
    more (inl y) = heading (eqb-true _ _ (and_left (is_kind 1 (rec t i)) _ y)) (not-true _ (and_right (is_kind 1 (rec t i)) _ y))
    more (inr y) =
        let o : (is_base (rec t i) || reached t (holder_of (rec t i))) ≡ false = not-true _ (and_right (is_kind 2 (rec t i)) _ y) in
        entry (eqb-true _ _ (and_left (is_kind 2 (rec t i)) _ y)) (or-no-left (is_base (rec t i)) _ o) (or-no-right (is_base (rec t i)) _ o)

    go : (lost_text t i ≡ true) ⊎ ((lost_heading t i || lost_entry t i) ≡ true) → Lost t i
    go (inl y) = text (eqb-true _ _ (and_left (is_kind 3 (rec t i)) _ y)) (not-true _ (and_right (is_kind 3 (rec t i)) _ y))
    go (inr y) = more (or_cases (lost_heading t i) _ y)

-- what is not
pub entry-stays : (t : List ℕ) (i : ℕ) → byte (rec t i) 0 ≡ 2 → (is_base (rec t i) || reached t (holder_of (rec t i))) ≡ true → lost t i ≡ false
entry-stays t i k o = rw (k, o)

pub heading-stays : (t : List ℕ) (i : ℕ) → byte (rec t i) 0 ≡ 1 → reached t i ≡ true → lost t i ≡ false
heading-stays t i k o = rw (k, o)

pub entry-live : (t : List ℕ) (i : ℕ) → byte (rec t i) 0 ≡ 2 → lost t i ≡ false → (is_base (rec t i) || reached t (holder_of (rec t i))) ≡ true
entry-live t i k e =
    true-by (is_base (rec t i) || reached t (holder_of (rec t i))) (λ o.
    not-both (lost-by t i (entry k (or-no-left (is_base (rec t i)) _ o) (or-no-right (is_base (rec t i)) _ o))) e)

pub heading-live : (t : List ℕ) (i : ℕ) → byte (rec t i) 0 ≡ 1 → lost t i ≡ false → reached t i ≡ true
heading-live t i k e = true-by (reached t i) (λ o. not-both (lost-by t i (heading k o)) e)

pub text-live : (t : List ℕ) (i : ℕ) → byte (rec t i) 0 ≡ 3 → lost t i ≡ false → reached t (heading_of (rec t i)) ≡ true
text-live t i k e = true-by (reached t (heading_of (rec t i))) (λ o. not-both (lost-by t i (text k o)) e)

-- ---- the sweep's clearings are one

twice : (a b : Bool) (r : List ℕ) → cond a blank (cond b blank r) ≡ cond (a || b) blank r
twice true b r = refl
twice false b r = refl

pub clears-at : (u : List ℕ) (p : ℕ → Bool) (n i : ℕ) → n ≡ rooms u → i < n → rec (run u (clears p n)) i ≡ cond (p i) blank (rec u i)
clears-at u p n i e l = rw e (rec-wiped u p i (rw e at l))

pub live-is : (t : List ℕ) → Whole t → live t ≡ wiped (lost t) t
unfolding live sweep_clears
live-is t w =
    run-append t (clears (lost_entry t) (rooms t)) (clears (lost_heading t) (rooms t) ++ clears (lost_text t) (rooms t))
    ∙ run-append t₁ (clears (lost_heading t) (rooms t)) (clears (lost_text t) (rooms t))
    ∙ ext-table t₃ (wiped (lost t) t) (long ∙ sym (length_run t _)) (rw long w) each
  where
    t₁ : List ℕ
    t₁ = wiped (lost_entry t) t

    t₂ : List ℕ
    t₂ = run t₁ (clears (lost_heading t) (rooms t))

    t₃ : List ℕ
    t₃ = run t₂ (clears (lost_text t) (rooms t))

    rooms₁ : rooms t₁ ≡ rooms t
    rooms₁ = rooms-run t _

    rooms₂ : rooms t₂ ≡ rooms t
    rooms₂ = rooms-run t₁ _ ∙ rooms₁

    long : length t₃ ≡ length t
    long = length_run t₂ _ ∙ length_run t₁ _ ∙ length_run t _

    each : (i : ℕ) → i < rooms t₃ → rec t₃ i ≡ rec (wiped (lost t) t) i
    each i l =
        let m : i < rooms t = rw long at l in
        clears-at t₂ (lost_text t) (rooms t) i (sym rooms₂) m
        ∙ rw (clears-at t₁ (lost_heading t) (rooms t) i (sym rooms₁) m, rec-wiped t (lost_entry t) i m, twice (lost_heading t i) (lost_entry t i) (rec t i))
        (twice (lost_text t i) (lost_heading t i || lost_entry t i) (rec t i)) ∙ sym (rec-wiped t (lost t) i m)

-- where nothing is lost nothing is cleared
pub none-clears : (t : List ℕ) → ((i : ℕ) → lost t i ≡ false) → sweep_clears t ≡ []
unfolding sweep_clears
none-clears t n =
    rw (
      clears-none (lost_entry t) (rooms t) (λ i l. or-no-right (lost_heading t i) _ (or-no-right (lost_text t i) _ (n i))),
      clears-none (lost_heading t) (rooms t) (λ i l. or-no-left (lost_heading t i) _ (or-no-right (lost_text t i) _ (n i))),
    )
    (clears-none (lost_text t) (rooms t) (λ i l. or-no-left (lost_text t i) _ (n i)))

-- ---- clearings that spare what is reached and the entries that lead there

pub record Spares (t : List ℕ) (p : ℕ → Bool) : Type 0 where
  pub headings : (h : ℕ) → reached t h ≡ true → p h ≡ false
  pub entries : (i : ℕ) → byte (rec t i) 0 ≡ 2 → byte (rec t (heading_named (rec t i))) 0 ≡ 1
      → (is_base (rec t i) || reached t (holder_of (rec t i))) ≡ true → p i ≡ false

module _ (t : List ℕ) (w : Whole t) (p : ℕ → Bool) where
  -- what does not pass stays, past the table too
  wiped-stays : (i : ℕ) → p i ≡ false → rec (wiped p t) i ≡ rec t i
  wiped-stays i e =
      by_cases (dec_lt i (rooms t)) (λ (l : i < rooms t). rec-wiped t p i l ∙ rw e)
      (λ (l : ¬ (i < rooms t)).
      rec-past (wiped p t) i (rw (length_run t (clears p (rooms t))) w) (rw (rooms-run t (clears p (rooms t))) (omega arith)) ∙ sym (rec-past t i w (omega arith)))

  module _ (f : Spares t p) where
    -- a chain stays
    in-wiped : (n h : ℕ) → reached_in n t h ≡ true → reached_in n (wiped p t) h ≡ true
    unfolding reached_in
    in-wiped zero h e = e
    in-wiped (suc n) h e =
        let x = any-true (Leads t (reached_in n t) h) (rooms t) (and_right (is_kind 1 (rec t h)) _ e) in
        let k : byte (rec t h) 0 ≡ 1 = eqb-true _ _ (and_left (is_kind 1 (rec t h)) _ e) in
        let r : rec (wiped p t) h ≡ rec t h = wiped-stays h (f.headings h (in-reached t w (suc n) h e)) in
        and_both (is_kind 1 (rec (wiped p t) h)) _ (rw (r, k))
        (any_here (Leads (wiped p t) (reached_in n (wiped p t)) h) (rooms (wiped p t)) x.0 (rw (rooms-run t (clears p (rooms t))) x.1)
        (at (in-wiped n) k x.0 x.2))
      where
        at : ((d : ℕ) → reached_in n t d ≡ true → reached_in n (wiped p t) d ≡ true) → byte (rec t h) 0 ≡ 1
            → (i : ℕ) → Leads t (reached_in n t) h i ≡ true → Leads (wiped p t) (reached_in n (wiped p t)) h i ≡ true
        at more k i y =
            let m : names h (rec t i) ≡ true = and_left (names h (rec t i)) _ y in
            let o : (is_base (rec t i) || reached_in n t (holder_of (rec t i))) ≡ true = and_right (names h (rec t i)) _ y in
            let g : heading_named (rec t i) ≡ h = eqb-true _ _ (and_right (is_kind 2 (rec t i)) _ m) in
            let r : rec (wiped p t) i ≡ rec t i =
            wiped-stays i (f.entries i (names-kind h (rec t i) m) (rw g k)
            (or-up (is_base (rec t i)) (reached_in n t (holder_of (rec t i))) _ (in-reached t w n (holder_of (rec t i))) o)) in
            rw r (and_both (names h (rec t i)) _ m (or-up (is_base (rec t i)) (reached_in n t (holder_of (rec t i))) _ (more (holder_of (rec t i))) o))

    pub reached-wiped : (h : ℕ) → reached (wiped p t) h ≡ reached t h
    reached-wiped h =
        same_truth _ _ (reached-mono t (wiped p t) w (wiped-less t p) h)
        (unfold reached in λ e. rw (rooms-run t (clears p (rooms t))) (in-wiped (rooms t) h e))

-- ---- what a sweep leaves

module _ (t : List ℕ) (w : Whole t) where
  pub live-less : Less t (live t)
  live-less = rw (live-is t w) (wiped-less t (lost t))

  pub live-each : (i : ℕ) → i < rooms t → rec (live t) i ≡ cond (lost t i) blank (rec t i)
  live-each i l = rw (live-is t w) (rec-wiped t (lost t) i l)

  live-whole : Whole (live t)
  live-whole = rw live-less.long w

  -- what is not lost stays
  pub live-stays : (i : ℕ) → lost t i ≡ false → rec (live t) i ≡ rec t i
  live-stays i e = rw (live-is t w) (wiped-stays t w (lost t) i e)

  -- what is there was not lost
  pub live-was : (k i : ℕ) → byte (rec (live t) i) 0 ≡ suc k → (lost t i ≡ false) × (rec (live t) i ≡ rec t i)
  live-was k i q = go (lost t i) refl (live-each i (rw live-less.long at (within (live t) i live-whole (λ (z : byte (rec (live t) i) 0 ≡ 0). omega arith))))
    where
      go : (b : Bool) → lost t i ≡ b → rec (live t) i ≡ cond b blank (rec t i) → (lost t i ≡ false) × (rec (live t) i ≡ rec t i)
      go true e z = let n : ⊥ = omega (arith, kind-blank (rec (live t) i) z) in absurd n
      go false e z = (e, z)

  pub reached-live : (h : ℕ) → reached (live t) h ≡ reached t h
  reached-live h =
      rw (live-is t w)
      (reached-wiped t w (lost t)
      (record { headings = λ h e. heading-stays t h (reached-heading t w h e) e; entries = λ i k _ o. entry-stays t i k o }) h)

  -- so nothing is lost there
  pub live-none : (i : ℕ) → lost (live t) i ≡ false
  live-none i = false-by (lost (live t) i) (λ e. go (lost-is (live t) i e))
    where
      go : Lost (live t) i → ⊥
      go (entry k b n) =
          let x = live-was 1 i k in
          let o = entry-live t i (rw x.1 at k) x.0 in
          not-both o (or-none (is_base (rec t i)) _ (rw x.1 at b) (sym (reached-live (holder_of (rec t i))) ∙ (rw x.1 at n)))
      go (heading k n) = let x = live-was 0 i k in not-both (heading-live t i (rw x.1 at k) x.0) (sym (reached-live i) ∙ n)
      go (text k n) =
          let x = live-was 2 i k in
          not-both (text-live t i (rw x.1 at k) x.0) (sym (reached-live (heading_of (rec t i))) ∙ (rw x.1 at n))

  pub live-clears : sweep_clears (live t) ≡ []
  live-clears = none-clears (live t) live-none

  pub live-twice : live (live t) ≡ live t
  live-twice = unfold live run in rw live-clears

-- ---- what is lost is lost still when more is cleared

module _ (s a : List ℕ) (w : Whole s) (d : Less s a) where
  pub lost-still : (i : ℕ) → Alike (rec s i) (rec a i) → lost s i ≡ true → lost a i ≡ true
  lost-still i x e = lost-by a i (go (lost-is s i e))
    where
      less : (h : ℕ) → reached s h ≡ false → reached a h ≡ false
      less h n = false-by (reached a h) (λ y. not-both (reached-mono s a w d h y) n)

      same : is_kind 1 (rec s i) ≡ false → rec a i ≡ rec s i
      same = alike_same (rec s i) (rec a i) x

      go : Lost s i → Lost a i
      go (entry k b n) = let r = same (rw k) in entry (rw (r, k)) (rw r b) (rw r (less (holder_of (rec s i)) n))
      go (heading k n) = heading (alike-kind (rec s i) (rec a i) x ∙ k) (less i n)
      go (text k n) = let r = same (rw k) in text (rw (r, k)) (rw r (less (heading_of (rec s i)) n))

  -- so of a lesser table it leaves a lesser one
  pub live-mono : Less (live s) (live a)
  live-mono = rw (live-is s w, live-is a (rw d.long w)) (wiped-mono s a (lost s) (lost a) d lost-still)
