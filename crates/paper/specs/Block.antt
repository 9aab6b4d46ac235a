-- The block rule: "The room sheet counts records and the text length counts bytes".
use Rattle.std.specs.Prelude.{cond, List, ℕ, ◌+◌, ◌-◌, ◌*◌, ◌/◌, ltb, take, drop}
use Rattle.paper.specs.Scan.{join_below}
use Rattle.paper.specs.Record.{text_length, held}
use Rattle.paper.specs.Table.{rec, text_room}

-- the text records of n bytes: "n/24 rounded up"
abbrev pub blocks : ℕ → ℕ
blocks n = (n + 23) / 24

-- what position p of n bytes holds: "24 bytes in each but the last, which holds the rest"
unfoldable pub share : ℕ → ℕ → ℕ
share n p = cond (ltb (p + 1) (blocks n)) 24 (n - p * 24)

-- the bytes of a text at position p
unfoldable pub block : List ℕ → ℕ → List ℕ
block text p = take 24 (drop (p * 24) text)

-- how many text records heading h has
abbrev pub blocks_of : List ℕ → ℕ → ℕ
blocks_of t h = blocks (text_length (rec t h))

-- the text of heading h, by position
unfoldable pub file_text : List ℕ → ℕ → List ℕ
file_text t h = join_below (λ p. held (rec t (text_room t h p))) (blocks_of t h)
