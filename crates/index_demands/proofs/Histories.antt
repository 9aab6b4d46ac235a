-- From a sound table with its true index every table of a history mends to a sound one and the list has a place for each record. So a mend that is
-- run to its end answers 0 and makes the index true again, and wherever nothing is left to mend the index is true: no request or sweep is answered 26.
use mathlib.Core.Bool.{Bool, true, false, ◌||◌, true≢false}
use mathlib.Core.List.{List, [], ◌∷◌}
use mathlib.Core.Logic.{◌⊎◌, inl, inr, ◌≢◌}
use mathlib.Core.Path.{◌≡◌, refl, sym, ap, ◌∙◌}
use Prim.Native.Nat.{ℕ, ◌≤◌}
use native.Mathlib.Omega.{arith}
use lib.ListN.{length, take}
use borrow.Author.Tests.{eqb-false, not-true}
use Rattle.paper.specs.Layout.{boxed}
use Rattle.paper.specs.Table.{sized, rooms}
use Rattle.paper.specs.Mend.{mend_stores, mended}
use Rattle.paper.specs.Answer.{mending}
use Rattle.paper.specs.Index.{Kept, mend_keeping}
use Rattle.paper.specs.Sweep.{sweep_stores, sweeping}
use Rattle.laws.proofs.Tests.{and_left, and_right, not-both}
use Rattle.laws.proofs.Runs.{length_run, rooms-run}
use Rattle.demands.proofs.Sound.Right.{sound-right, right-sound}
use Rattle.demands.proofs.MendAnswered.{MendCame, unsized, unsound, whole, cut_off, mend-came}
use Rattle.demands.proofs.Mending.{mend-whole}
use Rattle.demands.proofs.Stops.{Uncut}
use Rattle.sweep_demands.proofs.Calls.{SweepCame, unsized, unsound, untrue, done, cut_off, sweep-came, sweep_sound, left_by_lem}
use Rattle.histories.specs.History.{Call, asks, mends, sweeps, called}
use Rattle.histories.proofs.Calls.Mendable.{Mendable, sound-mendable, called-mendable}
use Rattle.index_laws.proofs.Truth.{true-length}
use Rattle.index_laws.proofs.Good.{Good, true-index}
use Rattle.index_demands.specs.Tended.{kept_call, is_mend, ended, tended}
use Rattle.index_demands.proofs.Requests.{kept-as-before, only-26, stays-true}
use Rattle.index_demands.proofs.Mends.{length-alone, mend-any, mend-length, kept-length}

-- a table that mends to a sound one, and a list with a place for each record
pub record Curable (t x : List ℕ) : Type 0 where
  pub mendable : Mendable t
  pub length : length x ≡ rooms t

-- a mend whose stop number covers its stores answers 0, and leaves the true index of a sound table
pub mend-cures : (t x : List ℕ) (k : ℕ) → Curable t x → length (mend_stores t) ≤ k
    → ((mend_keeping t x k).outcome.answer.number ≡ 0) × Good (mend_keeping t x k).outcome.table (mend_keeping t x k).index
mend-cures t x k c l =
    let s = right-sound (mended t) c.mendable in
    let q : (mend_keeping t x k).outcome.answer.number ≡ 0 = rw (length-alone t x k c.length, mend-whole t k s.0 s.1 l) in
    (q, mend-any t x k q)

pub good-curable : (t x : List ℕ) → Good t x → Curable t x
good-curable t x g = record { mendable = sound-mendable t (sound-right t g.sized g.sound); length = true-length t x g.index }

-- a mend of such a table answers 0 or 22
mend-number : (t : List ℕ) (k : ℕ) → Mendable t → ((mending boxed t k).answer.number ≡ 0) ⊎ ((mending boxed t k).answer.number ≡ 22)
unfolding mended
mend-number t k m = go (mend-came t k)
  where
    size : sized t ≡ true
    size = rw (length_run t (mend_stores t)) at (right-sound (mended t) m).0

    go : MendCame t k (mending boxed t k) → ((mending boxed t k).answer.number ≡ 0) ⊎ ((mending boxed t k).answer.number ≡ 22)
    go (unsized a e) = absurd (not-both size a)
    go (unsound a b e) = absurd (not-both (right-sound (mended t) m).1 b)
    go (whole a b l e) = inl (rw e)
    go (cut_off a b l e) = inr (rw e)

-- ---- one call, where a request or a sweep finds the true index

-- with it a call answers and stores as in a history of tables alone
pub kept-called : (t x : List ℕ) (c : Call) → Good t x → (kept_call t x c).outcome ≡ called t c
kept-called t x (asks line text reply u k) g = kept-as-before t x line text reply u k g.index
kept-called t x (mends k) g = length-alone t x k (true-length t x g.index)
kept-called t x (sweeps k) g = ap (λ (y : List ℕ). (sweeping t y k).outcome) (true-index t x g.index)

module _ (t x : List ℕ) (h : Curable t x) where
  pub call-curable : (c : Call) → (is_mend c ≡ false → Good t x) → Curable (kept_call t x c).outcome.table (kept_call t x c).index
  call-curable (asks line text reply u k) g =
      record {
        mendable = rw (kept-called t x (asks line text reply u k) (g refl)) (called-mendable t (asks line text reply u k) h.mendable);
        length = kept-length t x line text reply u k (g refl);
      }
  call-curable (mends k) g =
      record { mendable = rw (length-alone t x k h.length) (called-mendable t (mends k) h.mendable); length = mend-length t x k h.length }
  call-curable (sweeps k) g =
      let l = left_by_lem t x k (g refl) in
      record {
        mendable = rw (kept-called t x (sweeps k) (g refl)) (called-mendable t (sweeps k) h.mendable);
        length = l.index ∙ rw l.table (sym (rooms-run t (take l.stores (sweep_stores t))));
      }

  call-good : (c : Call) → (is_mend c ≡ false → Good t x) → Uncut (kept_call t x c).outcome → Good (kept_call t x c).outcome.table (kept_call t x c).index
  call-good (asks line text reply u k) g n = stays-true t x line text reply u k (g refl) n
  call-good (mends k) g n = go (mend-number t k h.mendable)
    where
      go : ((mending boxed t k).answer.number ≡ 0) ⊎ ((mending boxed t k).answer.number ≡ 22)
          → Good (mend_keeping t x k).outcome.table (mend_keeping t x k).index
      go (inl e) = mend-any t x k (rw (length-alone t x k h.length) e)
      go (inr e) = absurd (n (rw (length-alone t x k h.length) e))
  call-good (sweeps k) g n = go (sweep-came t x k)
    where
      go : SweepCame t x k (sweeping t x k) → Good (sweeping t x k).outcome.table (sweeping t x k).index
      go (unsized a e) = rw e (g refl)
      go (unsound a b e) = rw e (g refl)
      go (untrue a b c e) = rw e (g refl)
      go (done f l e) = sweep_sound t x k (rw e)
      go (cut_off f l e) = absurd (n (rw e))

  call-26 : (c : Call) → (is_mend c ≡ false → Good t x) → (kept_call t x c).outcome.answer.number ≢ 26
  call-26 (asks line text reply u k) g e = not-both (g refl).index (only-26 t x line text reply u k e).1
  call-26 (mends k) g e = go (mend-number t k h.mendable)
    where
      q : (mending boxed t k).answer.number ≡ 26
      q = rw (length-alone t x k h.length) at e

      go : ((mending boxed t k).answer.number ≡ 0) ⊎ ((mending boxed t k).answer.number ≡ 22) → ⊥
      go (inl z) = omega (arith, q)
      go (inr z) = omega (arith, q)
  call-26 (sweeps k) g e = go (sweep-came t x k)
    where
      go : SweepCame t x k (sweeping t x k) → ⊥
      go (unsized a q) = not-both (g refl).sized a
      go (unsound a b q) = not-both (g refl).sound b
      go (untrue a b c q) = not-both (g refl).index c
      go (done f l q) = omega (arith, rw q at e)
      go (cut_off f l q) = omega (arith, rw q at e)

-- ---- any calls

-- each request and each sweep finds a sound table and its true index, so that none is refused with 1, 2 or 26; and no mend is answered 26
abbrev pub Heard : (t x : List ℕ) → List Call → Type 0
Heard t x [] = Unit
Heard t x (c ∷ cs) =
    (is_mend c ≡ false → Good t x) × ((kept_call t x c).outcome.answer.number ≢ 26) × Heard (kept_call t x c).outcome.table (kept_call t x c).index cs

heard : (b : Bool) (t x : List ℕ) (cs : List Call) → Curable t x → (b ≡ true → Good t x) → tended b t x cs ≡ true → Heard t x cs
unfolding tended
heard b t x [] h g e = tt
heard b t x (c ∷ cs) h g e =
    let r : is_mend c ≡ false → Good t x = λ q. g (asked b (is_mend c) q (and_left (b || is_mend c) _ e)) in (
      r,
      call-26 t x h c r,
      heard (ended (kept_call t x c)) _ _ cs (call-curable t x h c r) (λ q. call-good t x h c r (eqb-false _ _ (not-true _ q)))
          (and_right (b || is_mend c) _ e),
    )
  where
    asked : (b a : Bool) → a ≡ false → (b || a) ≡ true → b ≡ true
    asked true a q z = refl
    asked false a q z = absurd (true≢false (sym z ∙ rw q))

-- from a sound table and its true index
pub never-26 : (t x : List ℕ) (cs : List Call) → Good t x → tended true t x cs ≡ true → Heard t x cs
never-26 t x cs g e = heard true t x cs (good-curable t x g) (λ _. g) e

-- a request or a sweep, or a mend, cut anywhere or not, and then mended: 0, and the true index of a sound table
pub mend-true : (t x : List ℕ) (c : Call) (j : ℕ) → Good t x → length (mend_stores (kept_call t x c).outcome.table) ≤ j
    → let r : Kept = kept_call t x c in
    let m : Kept = mend_keeping r.outcome.table r.index j in (m.outcome.answer.number ≡ 0) × Good m.outcome.table m.index
mend-true t x c j g l = mend-cures _ _ j (call-curable t x (good-curable t x g) c (λ _. g)) l
