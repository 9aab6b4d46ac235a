-- Mending twins: each step clears by a test that is the same on both, on tables that are twins after the step before, in each round, and the counts are
-- corrected alike. So the stores are alike, the tables after any first part of them are twins, and the result is sound on both or on neither.
use mathlib.Core.Bool.{Bool}
use mathlib.Core.List.{List}
use mathlib.Core.Path.{◌≡◌, refl}
use Prim.Native.Nat.{ℕ, zero, suc}
use native.Mathlib.Omega.{arith}
use lib.Dec.{leb}
use lib.ListN.{length}
use Rattle.paper.specs.Record.{holder_of, heading_named, heading_of}
use Rattle.paper.specs.Layout.{Layout}
use Rattle.paper.specs.Table.{rooms, rec}
use Rattle.paper.specs.Check.{Verdict, passed, refused}
use Rattle.paper.specs.Store.{clears}
use Rattle.paper.specs.Mend.{anchored, adrift, orphan, keeps_text, stray, mend_first, mend_second, mend_third, after₁, after₂, round_stores, round, rounds_stores, clear_stores, cleared, mend_stores, mended}
use Rattle.paper.specs.Answer.{mend_run, mendable, mending}
use Rattle.layouts.proofs.Twin.{same_number, same_kind, same-simple, same-marked}
use Rattle.layouts.proofs.Twins.{Twins, Alike, none, run-twins, alike-length, alike-append, alike-take, alike-clears}
use Rattle.layouts.proofs.Shown.{named-twin, recounts-twin}
use Rattle.layouts.proofs.Sound.{sound-twin, sized-twin}
use Rattle.layouts.proofs.Outcomes.{both_ways, Same}

module _ {A B : Layout} {t s : List ℕ} (w : Twins A B t s) where
  adrift-twin : (i : ℕ) → adrift t i ≡ adrift s i
  unfolding anchored
  adrift-twin i =
      let h : heading_named (rec t i) ≡ heading_named (rec s i) = same_number (w.each i) 2 4 (omega arith) in
      let d : holder_of (rec t i) ≡ holder_of (rec s i) = same_number (w.each i) 2 2 (omega arith) in
      rw (same_kind (w.each i) 2, h, same_kind (w.each (heading_named (rec s i))) 1, d, same_kind (w.each (holder_of (rec s i))) 1)

  orphan-twin : (i : ℕ) → orphan t i ≡ orphan s i
  orphan-twin i = rw (same_kind (w.each i) 1, named-twin w i)

  stray-twin : (i : ℕ) → stray t i ≡ stray s i
  unfolding keeps_text
  stray-twin i =
      let h : heading_of (rec t i) ≡ heading_of (rec s i) = same_number (w.each i) 2 2 (omega arith) in
      rw (same_kind (w.each i) 3, h, same-simple (w.each (heading_of (rec s i))), same-marked (w.each (heading_of (rec s i))))

  -- each step
  clears-twin : (p q : ℕ → Bool) → ((i : ℕ) → p i ≡ q i) → Alike A B (clears p (rooms t)) (clears q (rooms s))
  clears-twin p q h = rw (← w.size) (alike-clears p q (rooms t) (λ i _. h i))

module _ {A B : Layout} {t s : List ℕ} (w : Twins A B t s) where
  first-twin : Alike A B (mend_first t) (mend_first s)
  first-twin = clears-twin w (adrift t) (adrift s) (adrift-twin w)

  one : Twins A B (after₁ t) (after₁ s)
  unfolding after₁
  one = run-twins first-twin w

  second-twin : Alike A B (mend_second (after₁ t)) (mend_second (after₁ s))
  second-twin = clears-twin one (orphan (after₁ t)) (orphan (after₁ s)) (orphan-twin one)

  two : Twins A B (after₂ t) (after₂ s)
  unfolding after₂
  two = run-twins second-twin one

  third-twin : Alike A B (mend_third (after₂ t)) (mend_third (after₂ s))
  third-twin = clears-twin two (stray (after₂ t)) (stray (after₂ s)) (stray-twin two)

  round-twin : Alike A B (round_stores t) (round_stores s)
  unfolding round_stores
  round-twin = alike-append first-twin (alike-append second-twin third-twin)

  next-twin : Twins A B (round t) (round s)
  unfolding round
  next-twin = run-twins round-twin w

rounds-twin : {A B : Layout} (n : ℕ) {t s : List ℕ} → Twins A B t s → Alike A B (rounds_stores n t) (rounds_stores n s)
unfolding rounds_stores
rounds-twin zero w = none
rounds-twin (suc n) w = alike-append (round-twin w) (rounds-twin n (next-twin w))

module _ {A B : Layout} {t s : List ℕ} (w : Twins A B t s) where
  clear-twin : Alike A B (clear_stores t) (clear_stores s)
  unfolding clear_stores
  clear-twin = rw (← w.size) (rounds-twin (rooms t) w)

  cleared-twin : Twins A B (cleared t) (cleared s)
  unfolding cleared
  cleared-twin = run-twins clear-twin w

  mend-stores-twin : Alike A B (mend_stores t) (mend_stores s)
  unfolding mend_stores
  mend-stores-twin = alike-append clear-twin (recounts-twin cleared-twin)

  mended-twin : Twins A B (mended t) (mended s)
  unfolding mended
  mended-twin = run-twins mend-stores-twin w

  mendable-twin : mendable A t ≡ mendable B s
  unfolding mendable
  mendable-twin = rw (sized-twin w, sound-twin mended-twin)

  -- mending, cut anywhere
  pub mending-twin : (k : ℕ) → Same A B (mending A t k) (mending B s k)
  unfolding mending
  mending-twin k = rw mendable-twin (go (mendable B s))
    where
      go : (v : Verdict) → Same A B (mend_run t k (mend_stores t) v) (mend_run s k (mend_stores s) v)
      go (refused f) = record { answer = refl; reply = refl; table = w }
      go passed =
          both_ways (Same A B) (leb (length (mend_stores t)) k) (leb (length (mend_stores s)) k) (rw (alike-length mend-stores-twin))
          (record { answer = rw (alike-length mend-stores-twin); reply = refl; table = run-twins mend-stores-twin w })
          (record { answer = refl; reply = refl; table = run-twins (alike-take k mend-stores-twin) w })
