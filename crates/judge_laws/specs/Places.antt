-- Text by slots: heading h has the slots from `starts t h` on, one for each position of its text.
use Rattle.std.specs.Prelude.{Bool, true, ◌&&◌, cond, List, ◌≡◌, ℕ, ◌+◌, ◌≤◌, ◌<◌, ◌%◌, length, get_or, eqb, leb}
use Rattle.paper.specs.Scan.{count_below}
use Rattle.paper.specs.Record.{is_kind, simple, text_length, heading_of, position}
use Rattle.paper.specs.Table.{rooms, rec}
use Rattle.paper.specs.Block.{blocks}
use Rattle.paper.specs.Sound.{implies, in_place, texts_whole, no_other_text}
use Rattle.judge_laws.specs.Tally.{sum_below}

-- text record i is in place in a simple file
abbrev pub text_fits : List ℕ → ℕ → Bool
text_fits t i = implies (is_kind 3 (rec t i)) (in_place (rec t (heading_of (rec t i))) (rec t i))

-- the length of heading i is no more than a simple file may have
abbrev pub short_at : List ℕ → ℕ → Bool
short_at t i = implies (simple (rec t i)) (leb (text_length (rec t i)) 24000)

-- the two clauses on text
unfoldable pub text_sound : List ℕ → Bool
text_sound t = texts_whole t && no_other_text t

-- how many text records record r asks for
abbrev pub weight : List ℕ → ℕ
weight r = cond (simple r) (blocks (text_length r)) 0

-- how many the records before record h ask for
unfoldable pub starts : List ℕ → ℕ → ℕ
starts t h = sum_below (λ j. weight (rec t j)) h

-- the slot of text record i
abbrev pub slot_of : List ℕ → ℕ → ℕ
slot_of t i = starts t (heading_of (rec t i)) + position (rec t i)

-- how many text records below m have slot s
unfoldable pub marks_at : List ℕ → ℕ → ℕ → ℕ
marks_at t s m = count_below (λ i. is_kind 3 (rec t i) && eqb (slot_of t i) s) m

-- how many text records there are below m
unfoldable pub texts : List ℕ → ℕ → ℕ
texts t m = count_below (λ i. is_kind 3 (rec t i)) m

-- a table of at most 2,048 whole records, with no more slots than records, and each heading's first slot in `start`
pub record Laid (t start : List ℕ) : Type 0 where
  pub whole : length t % 32 ≡ 0
  pub small : length t ≤ 65536
  pub room : starts t (rooms t) ≤ rooms t
  pub at : (h : ℕ) → h < rooms t → is_kind 1 (rec t h) ≡ true → get_or start h 0 ≡ starts t h

-- the first i records are judged: their text is in place, and each slot is marked as often as it is taken, at most once
pub record Marked (t mark : List ℕ) (i : ℕ) : Type 0 where
  pub fits : (j : ℕ) → j < i → text_fits t j ≡ true
  pub marks : (s : ℕ) → s < starts t (rooms t) → get_or mark s 0 ≡ marks_at t s i
  pub once : (s : ℕ) → s < starts t (rooms t) → marks_at t s i ≤ 1
  pub long : length mark ≡ 2048

-- text record i may be marked
abbrev pub fresh : List ℕ → List ℕ → ℕ → Bool
fresh t mark i = text_fits t i && implies (is_kind 3 (rec t i)) (eqb (get_or mark (slot_of t i) 0) 0)
