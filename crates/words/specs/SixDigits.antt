-- What `number_of` requires: digits, six at most, in a base from one to ten.
use Rattle.std.specs.Prelude.{true, List, ◌≡◌, ℕ, ◌≤◌, length}
use Rattle.paper.specs.Name.{all, in_number}

pub record SixDigits (base : ℕ) (s : List ℕ) : Type 0 where
  pub least : 1 ≤ base
  pub most : base ≤ 10
  pub digits : all in_number s ≡ true
  pub six : length s ≤ 6
