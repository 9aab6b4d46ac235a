-- The four ways of mending, by the number that the judge gives for the table without the records that go and by the count of stores.
-- Each way is one line of the definition, with the table and stores of the order for mending's own.
use mathlib.Core.Bool.{true, false, cond}
use mathlib.Core.List.{List, []}
use mathlib.Core.Logic.{◌⊎◌, inl, inr, ◌≢◌}
use mathlib.Core.Path.{◌≡◌, ap, ◌∙◌}
use Prim.Native.Nat.{ℕ, ◌≤◌, ◌<◌}
use native.Mathlib.Omega.{arith}
use lib.ListN.{length, take}
use lib.Seq.{take_all}
use borrow.Author.Tests.{le-leb, lt-leb}
use Rattle.paper.specs.Layout.{boxed}
use Rattle.paper.specs.Answer.{plain, mending, mendable}
use Rattle.paper.specs.Check as place
use Rattle.paper.specs.Check.{verdict}
use Rattle.paper.specs.Mend.{clear_stores, cleared, mend_stores, mended}
use Rattle.paper.specs.Sound.{sound}
use Rattle.paper.specs.Store.{run}
use Rattle.paper.specs.Table.{sized}
use Rattle.judge.specs.Judged.{judged_shape}
use Rattle.judge_laws.specs.Mask.{without}
use Rattle.laws.proofs.Runs.{length_run}
use Rattle.laws.proofs.Tests.{truth, false-by}
use Rattle.demands.proofs.MendAnswered.{MendCame, unsized, unsound, whole, cut_off, mend-came}
use Rattle.mending.specs.declared.Mended.{Mended}
use Rattle.effects.specs.Allowed.{Allowed}
use Rattle.mending.specs.Found.{Found, all_stores}
use Rattle.mending.specs.Shown.{mend_shown}
use Rattle.mending.proofs.Corrected.{sound-mended}
use Rattle.mending.proofs.Rounds.{without-found}

-- what `mend` promises of its answer and of the table after it
abbrev pub Mends : List ℕ → ℕ → Mended → List ℕ → Type 0
Mends t k r u = (r ≡ mend_shown (mending boxed t k).answer) × (u ≡ (mending boxed t k).table)

pub mends-unsized : (t : List ℕ) (k : ℕ) → sized t ≡ false → Mends t k (record { number = 1; stores = 0 }) t
unfolding mending mendable verdict
mends-unsized t k e = (rw e, rw e)

module _ (t gone order : List ℕ) (count k n : ℕ) (s : sized t ≡ true) (g : Found t gone order count (clear_stores t))
    (e : n ≡ judged_shape (without gone t)) where
  number-mended : n ≡ cond (sound boxed (mended t)) 0 2
  unfolding judged_shape
  number-mended =
      let z : sized (cleared t) ≡ true = unfold cleared in rw length_run s in
      e ∙ rw (without-found t gone order count g, z, sound-mended t s)

  sound-after : n ≡ 0 → sound boxed (mended t) ≡ true
  sound-after q = go (truth (sound boxed (mended t)))
    where
      go : (sound boxed (mended t) ≡ true) ⊎ (sound boxed (mended t) ≡ false) → sound boxed (mended t) ≡ true
      go (inl y) = y
      go (inr y) = let z : n ≡ 2 = number-mended ∙ rw y in let x : ⊥ = omega arith in absurd x

  pub mends-refused : n ≢ 0 → Mends t k (record { number = 2; stores = 0 }) t
  unfolding mending mendable verdict
  mends-refused q =
      let y : sound boxed (mended t) ≡ false = false-by (sound boxed (mended t)) (λ y. q (number-mended ∙ rw y)) in
      (rw (s, y), rw (s, y))

  module _ (q : n ≡ 0) (u : List ℕ) (m : ℕ) (c : Allowed t u k m (all_stores order count t)) where
    stores-mended : all_stores order count t ≡ mend_stores t
    unfolding all_stores mend_stores cleared
    stores-mended = rw g.made

    table-mended : u ≡ run t (take k (mend_stores t))
    table-mended = c.table ∙ rw stores-mended

    pub mends-stopped : k < m → Mends t k (record { number = 22; stores = k }) u
    unfolding mending mendable verdict
    mends-stopped l =
        let y = lt-leb (length (mend_stores t)) k (rw (← stores-mended) (c.more l)) in
        (rw (s, sound-after q, y), table-mended ∙ rw (s, sound-after q, y))

    pub mends-whole : m ≤ k → Mends t k (record { number = 0; stores = m }) u
    unfolding mending mendable verdict
    mends-whole l =
        let f : m ≡ length (mend_stores t) = c.all l ∙ ap length stores-mended in
        let b : length (mend_stores t) ≤ k = omega arith in
        let y = le-leb (length (mend_stores t)) k b in
        (rw (s, sound-after q, y, f), table-mended ∙ rw (s, sound-after q, y, take_all k (mend_stores t) b))

-- "Its answer has place, names and bytes 0, displaced no, and the stores made", and there is no reply
pub mend-answer : (t : List ℕ) (k : ℕ)
    → (mending boxed t k).answer ≡ plain (mending boxed t k).answer.number (place.whole 0) 0 (mending boxed t k).answer.stores
mend-answer t k = go (mend-came t k)
  where
    go : MendCame t k (mending boxed t k)
        → (mending boxed t k).answer ≡ plain (mending boxed t k).answer.number (place.whole 0) 0 (mending boxed t k).answer.stores
    go (unsized a e) = rw e
    go (unsound a b e) = rw e
    go (whole a b l e) = rw e
    go (cut_off a b l e) = rw e

pub mend-reply : (t : List ℕ) (k : ℕ) → [] ≡ (mending boxed t k).reply
mend-reply t k = go (mend-came t k)
  where
    go : MendCame t k (mending boxed t k) → [] ≡ (mending boxed t k).reply
    go (unsized a e) = rw e
    go (unsound a b e) = rw e
    go (whole a b l e) = rw e
    go (cut_off a b l e) = rw e
