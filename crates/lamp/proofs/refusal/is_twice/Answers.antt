-- Whether some sheet before it bears its name: the numbers of those sheets in turn, up to the first that does.
-- Assumes nothing.
use mathlib.Core.Bool.{Bool, true, false, ◌||◌}
use mathlib.Core.Path.{◌≡◌, refl, ◌∙◌}
use Prim.Native.Nat.{ℕ, zero, suc, ◌+◌}
use native.Mathlib.Nat.{add-zero}
use native.Mathlib.Omega.{arith}
use Rattle.std.specs.List.{list_any, range_with_len}
use Rattle.std.proofs.Common.{rules, tests}
use Rattle.std.proofs.lemmas.Iterator.{YieldsList-from_range}
use Rattle.std.proofs.lemmas.Iterator.Search.{any_from_yields_List}
use Rattle.paper.specs.Name.{same}
use Rattle.paper.specs.Scan.{any_below}
use Rattle.paper.specs.Table.{rec}
use Rattle.job.specs.Sheet.{link_of}
use Rattle.lamp.proofs.refusal.is_twice.Goals as goal

or-assoc : (a b c : Bool) → (a || (b || c)) ≡ ((a || b) || c)
or-assoc true b c = refl
or-assoc false b c = refl

or-false : (a : Bool) → (a || false) ≡ a
or-false true = refl
or-false false = refl

or-comm : (a b : Bool) → (a || b) ≡ (b || a)
or-comm true true = refl
or-comm true false = refl
or-comm false true = refl
or-comm false false = refl

module _ (p : ℕ → Bool) where
  range-more : (a n : ℕ) → list_any p (range_with_len a (suc n)) ≡ (list_any p (range_with_len a n) || p (a + n))
  range-more a zero = rw add-zero (or-false (p a))
  range-more a (suc n) =
      let e : a + 1 + n ≡ a + suc n = omega arith in
      rw (range-more (a + 1) n, e) (or-assoc (p a) (list_any p (range_with_len (a + 1) n)) (p (a + suc n)))

  range-any : (n : ℕ) → list_any p (range_with_len 0 n) ≡ any_below p n
  unfolding any_below
  range-any zero = refl
  range-any (suc n) =
      let e : 0 + n ≡ n = omega arith in
      range-more 0 n ∙ rw (range-any n, e) (or-comm (any_below p n) (p n))

pub returns : goal.returns
returns c =
    let s = c.args in
    let p : ℕ → Bool = λ j. same (link_of (rec s.sheets.now s.i)) (link_of (rec s.sheets.now j)) in
    let e : c.any.result ≡ list_any p (range_with_len 0 s.i) =
    any_from_yields_List p _ _ c.any.result c.any.ensures.ran (YieldsList-from_range 0 s.i s.i refl (omega arith)) (λ x b q k. search (rules, tests)) in
    e ∙ range-any p s.i
