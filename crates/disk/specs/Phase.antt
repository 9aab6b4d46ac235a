-- The order in which a request's records are written to a disk that keeps writes back until it is flushed: in three phases, a flush after
-- each. What a record holds before and after says its phase.
use Rattle.std.specs.Prelude.{Bool, ◌&&◌, ◌||◌, cond, List, ℕ, eqb, ltb, length, take, drop}
use Rattle.paper.specs.Record.{is_kind}
use Rattle.paper.specs.Table.{rooms, rec}
use Rattle.paper.specs.Name.{same}

-- "0 same, 1 first, 2 entry, 3 last"
abbrev pub still : ℕ
still = 0

abbrev pub first : ℕ
first = 1

abbrev pub entry : ℕ
entry = 2

abbrev pub last : ℕ
last = 3

-- a heading that holds x before and r after: the same but for its counts, bytes 12 to 15
abbrev pub only_counts : List ℕ → List ℕ → Bool
only_counts x r = is_kind 1 x && (same (take 12 x) (take 12 r) && same (drop 16 x) (drop 16 r))

-- a record that holds x before and r after. "entry": it "is an entry" before or after, "or, for DPR, the heading", which is held before
-- and after; "first": "free" before, and "no entry" after; "last": "free" after, or a heading whose counts alone are others
unfoldable pub phase_of : List ℕ → List ℕ → ℕ
phase_of x r =
    cond (same x r) still
    (cond (is_kind 2 x || is_kind 2 r) entry (cond (is_kind 0 x) first (cond (is_kind 0 r || only_counts x r) last entry)))

-- record i from the table t to the table u; tables of two lengths have no record to write, nor has either one past its last
unfoldable pub phase : (t u : List ℕ) → ℕ → ℕ
phase t u i = cond (eqb (length t) (length u) && ltb i (rooms t)) (phase_of (rec t i) (rec u i)) still
