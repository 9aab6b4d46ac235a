-- Where entries are as above their numbers are below 2^60, and there a number and the name that it packs tell each other.
-- So twins are entries that bear one name in one place.
use mathlib.Core.Bool.{true, false, ◌&&◌, not}
use mathlib.Core.List.{List}
use mathlib.Core.Logic.{◌⊎◌, inl, inr}
use mathlib.Core.Path.{◌≡◌, sym, ap, ◌∙◌}
use Prim.Native.Nat.{ℕ, ◌^◌, ◌<◌}
use native.Mathlib.Omega.{arith}
use lib.Dec.{eqb, leb}
use borrow.Author.Tests.{eqb-true, eq-eqb}
use Rattle.judge_laws.specs.Twins.{twin, twin_to, single, no_twins}
use Rattle.paper.specs.Entry.{holder, stands, bears}
use Rattle.paper.specs.Name.{same}
use Rattle.paper.specs.Record.{is_kind, entry_code}
use Rattle.paper.specs.Layout.{name_of, packed, unpacked, packed_name, six_name, boxed}
use Rattle.paper.specs.Sound.{implies, entry_as_above, not_twice, none_twice}
use Rattle.paper.specs.Table.{rooms, rec}
use Rattle.judge_laws.proofs.Clauses.{Clauses}
use Rattle.judge_laws.proofs.Crowds.{beside_same}
use Rattle.judge_laws.proofs.Shapes.{above-number}
use Rattle.laws.proofs.Packing.{packed-unpacked}
use Rattle.laws.proofs.Scans.{any-cong, all-cong}
use Rattle.laws.proofs.Tests.{truth, same_truth, and_right}
use Rattle.laws.proofs.Sound.{above_view, every_true}
use Rattle.laws.proofs.Entries.{same_true, eq-same}

-- equal numbers, equal names
pub name-literal : (a b : List ℕ) → packed_name a < 2 ^ 60 → packed_name b < 2 ^ 60
    → eqb (packed_name a) (packed_name b) ≡ same (name_of boxed a) (name_of boxed b)
unfolding six_name
name-literal a b l m =
    same_truth (eqb (packed_name a) (packed_name b)) (same (name_of boxed a) (name_of boxed b))
    (λ q. eq-same _ _ (ap unpacked (eqb-true (packed_name a) (packed_name b) q)))
    (λ q. eq-eqb _ _
    (sym (packed-unpacked (packed_name a) l) ∙ ap packed (same_true (name_of boxed a) (name_of boxed b) q) ∙ packed-unpacked (packed_name b) m))

-- twins are what the paper forbids
module _ (t : List ℕ) (h : Clauses t) where
  number-low : (i : ℕ) → i < rooms t → is_kind 2 (rec t i) ≡ true → packed_name (rec t i) < 2 ^ 60
  number-low i l k =
      let e : entry_as_above boxed 0 (rec t i) ≡ true = every_true 2 (entry_as_above boxed) t (above_view t h.above).entry i l (eqb-true _ _ k) in
      above-number (rec t i) (and_right (leb (entry_code (rec t i)) 7) _ e)

  twin-bears : (i j : ℕ) → i < rooms t → j < rooms t → is_kind 2 (rec t i) ≡ true
      → twin (rec t i) (rec t j) ≡ bears boxed (holder (rec t i)) (name_of boxed (rec t i)) (rec t j)
  unfolding bears
  twin-bears i j l m k = go (truth (stands (holder (rec t i)) (rec t j)))
    where
      go : (stands (holder (rec t i)) (rec t j) ≡ true) ⊎ (stands (holder (rec t i)) (rec t j) ≡ false)
          → (stands (holder (rec t i)) (rec t j) && eqb (packed_name (rec t i)) (packed_name (rec t j)))
          ≡ (stands (holder (rec t i)) (rec t j) && same (name_of boxed (rec t i)) (name_of boxed (rec t j)))
      go (inr e) = rw e
      go (inl e) = rw e (name-literal (rec t i) (rec t j) (number-low i l k) (number-low j m (beside_same (rec t i) (rec t j) e).0))

  pub twins-literal : no_twins t ≡ none_twice boxed t
  unfolding no_twins none_twice
  twins-literal =
      all-cong (single t) (λ i. implies (is_kind 2 (rec t i)) (not_twice boxed t i (rec t i))) (rooms t) (λ i l. go i l (truth (is_kind 2 (rec t i))))
    where
      go : (i : ℕ) → i < rooms t → (is_kind 2 (rec t i) ≡ true) ⊎ (is_kind 2 (rec t i) ≡ false)
          → single t i ≡ implies (is_kind 2 (rec t i)) (not_twice boxed t i (rec t i))
      go i l (inr k) = rw k
      go i l (inl k) =
          rw k
          (ap not (any-cong (twin_to t i) (λ j. bears boxed (holder (rec t i)) (name_of boxed (rec t i)) (rec t j)) i (λ j m. twin-bears i j l (omega arith) k)))
