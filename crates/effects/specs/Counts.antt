-- Document 02: "Each function corrects every heading whose counts its entry store made untrue .., one store each, by record number". By the
-- headings whose counts move; on a sound table these are the paper's stores (`placing`: `counts-corrected`).
use Rattle.std.specs.Prelude.{Bool, ◌&&◌, ◌||◌, not, cond, List, [], ◌∷◌, ◌++◌, ℕ, ◌+◌, ◌-◌, min, max, eqb, ltb, Option, Some, None}
use Rattle.paper.specs.Record.{padded}
use Rattle.paper.specs.Table.{rooms, rec}
use Rattle.paper.specs.Store.{Store, puts, run}
use Rattle.paper.specs.Answer.{yes_no}
use Rattle.records.specs.Counts.{named_count, held_count, counted}
use Rattle.records.specs.declared.bytes.Room.{Room}
use Rattle.effects.specs.declared.counts.Moves.{Moves}

-- the number of a heading; where there is none, one that no table's record has
abbrev pub number_of : Option Room → ℕ
number_of None = 65535
number_of (Some r) = r.0

-- the two headings whose counts move, where at most one of either pair is given: an entry that comes is named and held, one that goes is
-- lost and held no more, and where one comes for another the holder stays
abbrev pub one_of : Moves → ℕ
one_of m = min (number_of m.named) (number_of m.less)

abbrev pub other_of : Moves → ℕ
other_of m = min (number_of m.lost) (number_of m.more)

-- the count n of heading i, where `up` has one more and `down` one less; and whether it is another count
abbrev pub count_after : ℕ → ℕ → ℕ → ℕ → ℕ
count_after n i up down = n + yes_no (eqb i up) - yes_no (eqb i down)

abbrev pub turned : ℕ → ℕ → ℕ → Bool
turned i up down = cond (eqb i up) (not (eqb i down)) (eqb i down)

-- a count of heading i moves, in a table of n records
unfoldable pub moved : ℕ → Moves → ℕ → Bool
moved n m i = ltb i n && (turned i (number_of m.named) (number_of m.lost) || turned i (number_of m.more) (number_of m.less))

-- heading i with its counts after the moves
abbrev pub recount : List ℕ → Moves → ℕ → List ℕ
recount t m i =
    counted (padded 32 (rec t i)) (count_after (named_count (rec t i)) i (number_of m.named) (number_of m.lost))
    (count_after (held_count (rec t i)) i (number_of m.more) (number_of m.less))

-- "counts still true get no store"
unfoldable pub count_store : List ℕ → Moves → ℕ → List Store
count_store t m i = cond (moved (rooms t) m i) (puts i (recount t m i) ∷ []) []

-- the stores of both headings, "by record number"
unfoldable pub count_stores : List ℕ → Moves → List Store
count_stores t m =
    count_store t m (min (one_of m) (other_of m))
    ++ cond (eqb (one_of m) (other_of m)) []
    (count_store (run t (count_store t m (min (one_of m) (other_of m)))) m (max (one_of m) (other_of m)))

-- how many these are in a table of n records
unfoldable pub count_moves : ℕ → Moves → ℕ
count_moves n m =
    yes_no (moved n m (min (one_of m) (other_of m)))
    + cond (eqb (one_of m) (other_of m)) 0 (yes_no (moved n m (max (one_of m) (other_of m))))
