-- Entries in chains by a hash f of the record: head b is one more than the last entry of bucket b, next j one more than the entry
-- before j in its bucket; 0 is none.
use Rattle.std.specs.Prelude.{Bool, true, ◌&&◌, List, ◌≡◌, ℕ, ◌<◌, eqb, get_or, length}
use Rattle.paper.specs.Record.{is_kind}
use Rattle.paper.specs.Table.{rec}
use Rattle.judge_laws.specs.Tally.{last_below}

-- record j is an entry of bucket b
abbrev pub in_bucket : (List ℕ → ℕ) → List ℕ → ℕ → ℕ → Bool
in_bucket f t b j = is_kind 2 (rec t j) && eqb (f (rec t j)) b

-- the last entry of bucket b below i
unfoldable pub last_in : (List ℕ → ℕ) → List ℕ → ℕ → ℕ → ℕ
last_in f t b i = last_below (in_bucket f t b) i

-- each entry below i has the one before it in its bucket
pub record Linked (f : List ℕ → ℕ) (t next : List ℕ) (i : ℕ) : Type 0 where
  pub at : (j : ℕ) → j < i → is_kind 2 (rec t j) ≡ true → get_or next j 0 ≡ last_in f t (f (rec t j)) j
  pub long : length next ≡ 2048

-- the chains of the entries below i
pub record Chains (f : List ℕ → ℕ) (t head next : List ℕ) (i : ℕ) : Type 0 where
  pub heads : (b : ℕ) → b < 2048 → get_or head b 0 ≡ last_in f t b i
  pub nexts : Linked f t next i
  pub long : length head ≡ 2048

-- the same as long as there are steps left to walk them; with none left they are given up
pub record Chained (f : List ℕ → ℕ) (t head next : List ℕ) (left i : ℕ) : Type 0 where
  pub chains : 0 < left → Chains f t head next i
  pub head_long : length head ≡ 2048
  pub next_long : length next ≡ 2048
