-- A test of the numbers below n in ascending order, as a chain over a range makes it, and the newest first, as the paper has it.
-- They are the same, since a test joined is the same in either order.
use Rattle.std.proofs.Common.{List, [], ◌∷◌, ◌++◌, Bool, true, false, ◌&&◌, ◌≡◌, ℕ, zero, suc, ◌+◌, refl, ap, ◌∙◌, arith}
use Rattle.std.specs.List.{list_all, range_with_len}
use Rattle.std.proofs.lemmas.List.Folds.{list_all-append}
use Rattle.paper.specs.Scan.{all_below}

range-more : (a n : ℕ) → range_with_len a (suc n) ≡ range_with_len a n ++ (a + n) ∷ []
range-more a zero = let e : a + 0 ≡ a = omega arith in rw e
range-more a (suc n) = let e : a + 1 + n ≡ a + suc n = omega arith in ap (λ (xs : List ℕ). a ∷ xs) (range-more (a + 1) n ∙ rw e)

pub all_numbers : (p : ℕ → Bool) (n : ℕ) → list_all p (range_with_len 0 n) ≡ all_below p n
unfolding all_below
all_numbers p zero = refl
all_numbers p (suc n) =
    let e : 0 + n ≡ n = omega arith in
    let m : range_with_len 0 (suc n) ≡ range_with_len 0 n ++ n ∷ [] = range-more 0 n ∙ rw e in
    ap (list_all p) m ∙ list_all-append p (range_with_len 0 n) (n ∷ []) ∙ rw (all_numbers p n) (go (p n) (all_below p n))
  where
    go : (x y : Bool) → (y && (x && true)) ≡ (x && y)
    go true true = refl
    go true false = refl
    go false true = refl
    go false false = refl
