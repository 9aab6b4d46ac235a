-- "Exactly the first k stores are made": the stores of a request as stages, one after the other, each with the stores still allowed.
use Rattle.std.specs.Prelude.{List, ◌∷◌, ◌++◌, ◌≡◌, ℕ, ◌+◌, ◌-◌, get_or, length, take, replicate}
use Rattle.paper.specs.Scan.{each_below}
use Rattle.paper.specs.Number.{bytes_of}
use Rattle.paper.specs.Record.{text_record}
use Rattle.paper.specs.Block.{blocks, block}
use Rattle.paper.specs.Store.{Store, puts, clear, run}

-- table t has become u by exactly the first k stores of a stage, and l of the k are still allowed after it
pub record Made (t u : List ℕ) (k l : ℕ) (stage : List Store) : Type 0 where
  pub table : u ≡ run t (take k stage)
  pub left : l ≡ k - length stage

-- the first eight bytes of a text record of heading h at position p that holds a whole block
unfoldable pub text_front : ℕ → ℕ → List ℕ
text_front h p = 3 ∷ 24 ∷ bytes_of 2 h ++ bytes_of 2 p ++ replicate 2 0

-- "text by position" of heading h: the numbers in r from place m on are the records of its text
abbrev pub text_store : ℕ → List ℕ → ℕ → List ℕ → ℕ → Store
text_store h r m text p = puts (get_or r (p + m) 0) (text_record h p (block text p))

unfoldable pub text_stores : ℕ → List ℕ → ℕ → List ℕ → List Store
text_stores h r m text = each_below (text_store h r m text) (blocks (length text))

-- text cleared "by position": n text records, whose numbers are in r
abbrev pub clear_texts : List ℕ → ℕ → List Store
clear_texts r n = each_below (λ p. clear (get_or r p 0)) n

-- "its heading cleared, then its text by position"
unfoldable pub clear_stores : ℕ → List ℕ → ℕ → List Store
clear_stores h r n = clear h ∷ clear_texts r n
