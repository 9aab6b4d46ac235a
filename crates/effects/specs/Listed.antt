-- Record numbers in lists of two-byte numbers, which every number of a table of fit size is; and the text of the records listed.
use Rattle.std.specs.Prelude.{Bool, ◌&&◌, cond, List, ◌≡◌, ℕ, ◌+◌, ◌-◌, ◌%◌, ◌≤◌, ◌<◌, eqb, ltb, get_or, length}
use Rattle.paper.specs.Scan.{first_below, count_below, each_below, join_below}
use Rattle.paper.specs.Record.{is_kind, heading_of, text_at, held}
use Rattle.paper.specs.Table.{sized, rooms, rec, place, room, text_room}

-- a list of n numbers: these at the first k places, and d at the others
abbrev pub at_front : (ℕ → ℕ) → ℕ → ℕ → ℕ → List ℕ
at_front f k d n = each_below (λ m. cond (ltb m k) (f m) d) n

-- the first k records that new ones take, and 0 after them: a heading, 1,000 text records and an entry are as many as a request can need
abbrev pub free_rooms : List ℕ → ℕ → List ℕ
free_rooms t k = at_front (λ m. room t m % 65536) k 0 1002

-- the text records of heading h at the first k positions, of 1,000 ("24,000 takes 1,000"), and one past the last record where there is none
-- and at the others; a table of no fit size has none at any
abbrev pub text_rooms : List ℕ → ℕ → ℕ → List ℕ
text_rooms t h k = at_front (text_room t h) (cond (sized t) k 0) (rooms t % 65536) 1000

-- the record is text of heading h
abbrev pub text_of : ℕ → List ℕ → Bool
text_of h r = is_kind 3 r && eqb (heading_of r) h

-- the text of heading h at position p among the first i records, or one past the table's last
abbrev pub text_among : List ℕ → ℕ → ℕ → ℕ → ℕ
text_among t h p i = place t (first_below (λ j. text_at h p (rec t j)) i)

-- list a has, at each of the first k positions, the text among the first i records, and none at the others; n of the first have none
pub record Placed (t : List ℕ) (h k : ℕ) (a : List ℕ) (n i : ℕ) : Type 0 where
  pub size : length a ≡ 1000
  pub holds : (p : ℕ) → p < k → get_or a p 0 ≡ text_among t h p i
  pub rest : (p : ℕ) → k ≤ p → p < 1000 → get_or a p 0 ≡ rooms t
  pub left : n ≡ count_below (λ p. eqb (text_among t h p i) (rooms t)) k

-- lists from one number up to another, one after the other
abbrev pub between : (ℕ → List ℕ) → ℕ → ℕ → List ℕ
between f p q = join_below (λ i. f (p + i)) (q - p)

-- what the records listed from place p up to place q hold
abbrev pub gathered : List ℕ → List ℕ → ℕ → ℕ → List ℕ
gathered t r p q = between (λ k. held (rec t (get_or r k 0))) p q
