-- Refusals, and checks in number order: the first that holds refuses.
use Rattle.std.specs.Prelude.{Bool, cond, List, [], ◌∷◌, ℕ}

-- document 02: "The place becomes argument and link, the link counted from 1"; the argument too, and 0 for none
pub record Place : Type 0 where
  pub argument : ℕ
  pub link : ℕ

-- a link of the chain that is this argument
abbrev pub at_link : (argument link : ℕ) → Place
at_link argument link = record { argument = argument; link = link }

-- "0 for .. any argument that is no chain, and place 0"
abbrev pub whole : ℕ → Place
whole argument = at_link argument 0

-- a reply number and its place
pub record Refusal : Type 0 where
  pub number : ℕ
  pub place : Place

abbrev pub refusal_at : ℕ → Place → Refusal
refusal_at number place = record { number = number; place = place }

-- a refusal, and when it is given
pub record Check : Type 0 where
  pub when : Bool
  pub refusal : Refusal

-- this number at this place, when
abbrev pub check : Bool → ℕ → Place → Check
check when number place = record { when = when; refusal = refusal_at number place }

pub data Verdict : Type 0 where
  passed : Verdict
  refused : Refusal → Verdict

unfoldable pub verdict : List Check → Verdict
verdict [] = passed
verdict (c ∷ cs) = cond c.when (refused c.refusal) (verdict cs)
