-- A name that an entry bears comes back from its number, since only 60 bits of a number show in its name.
-- So no entry bears a name that does not.
use mathlib.Core.Bool.{false}
use mathlib.Core.List.{List}
use mathlib.Core.Path.{◌≡◌, sym, ap, ◌∙◌}
use Prim.Native.Nat.{ℕ, ◌%◌, ◌^◌}
use native.Mathlib.Nat.{mod-lt, zero-lt-suc}
use Rattle.paper.specs.Scan.{nowhere}
use Rattle.paper.specs.Layout.{packed, unpacked, packed_name, six_name, boxed}
use Rattle.paper.specs.Name.{same}
use Rattle.paper.specs.Table.{rooms, rec}
use Rattle.paper.specs.Entry.{Holder, stands, bears, find}
use Rattle.laws.proofs.Entries.{same_true, eq-same}
use Rattle.laws.proofs.Packing.{packed-unpacked}
use Rattle.laws.proofs.Scans.{any_none, first-none}
use Rattle.laws.proofs.Tests.{false-by, not-both, and-no-right}
use Rattle.records.proofs.Packed.{unpacked-low}

comes_back : (name : List ℕ) (x : ℕ) → name ≡ unpacked x → unpacked (packed name) ≡ name
comes_back name x e =
    ap (λ (n : List ℕ). unpacked (packed n)) (e ∙ sym (unpacked-low x))
    ∙ ap unpacked (packed-unpacked (x % 2 ^ 60) (mod-lt x (zero-lt-suc 1152921504606846975)))
    ∙ unpacked-low x
    ∙ sym e

-- y is the name's number
module _ (t : List ℕ) (d : Holder) (name : List ℕ) (y : ℕ) (p : y ≡ packed name) (e : same name (unpacked y) ≡ false) where
  unborne : (r : List ℕ) → bears boxed d name r ≡ false
  unfolding bears six_name
  unborne r =
      and-no-right (stands d r) (same name (unpacked (packed_name r)))
      (false-by (same name (unpacked (packed_name r)))
      (λ q.
      let b : unpacked y ≡ name = ap unpacked p ∙ comes_back name (packed_name r) (same_true name (unpacked (packed_name r)) q) in
      not-both (eq-same name (unpacked y) (sym b)) e))

  pub find_none : find boxed t d name ≡ nowhere
  unfolding find
  find_none = first-none (λ i. bears boxed d name (rec t i)) (rooms t) (any_none (λ i. bears boxed d name (rec t i)) (rooms t) (λ i l. unborne (rec t i)))
