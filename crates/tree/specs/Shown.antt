-- What is written, as bytes: document 02's tree, but that each line is `line_shown` and of each directory at most 112 entries are listed.
use Rattle.std.specs.Prelude.{Bool, cond, ◌&&◌, List, [], ◌++◌, ◌≡◌, ℕ, zero, suc, ◌+◌, ◌*◌, ◌≤◌, leb, length, replicate, Option, Some, None}
use Rattle.std.proofs.lemmas.List.Edits.{sets}
use Rattle.paper.specs.Record.{heading_named}
use Rattle.paper.specs.Table.{rooms, rec}
use Rattle.paper.specs.Entry.{in_directory, stands}
use Rattle.paper.specs.Listing.{opens, lines_by}
use Rattle.listing.specs.Ordered.{line_shown}
use Rattle.tree.specs.declared.Chains.{Chains}
use Rattle.tree.specs.Gathered.{Whole, gathered}

-- an entry's own line, so many blanks in front
abbrev pub sub_shown : List ℕ → (blanks : ℕ) → ℕ → List ℕ
sub_shown t blanks e = replicate blanks 32 ++ line_shown t e

-- an entry's lines, by a lister of directories
unfoldable pub entry_over : (ℕ → List ℕ) → List ℕ → (blanks : ℕ) → ℕ → List ℕ
entry_over below t blanks e = sub_shown t blanks e ++ cond (opens t e) (below (heading_named (rec t e))) []

-- the lines of the entries that pass the test, to a depth
unfoldable pub tree_shown : List ℕ → (depth blanks : ℕ) → (List ℕ → Bool) → List ℕ
tree_shown t zero blanks test = []
tree_shown t (suc depth) blanks test =
    lines_by (entry_over (λ h. tree_shown t depth (blanks + 2) (stands (in_directory h))) t blanks) (gathered t test [])

-- the lines of an entry, to a depth below it
abbrev pub entry_shown : List ℕ → (depth blanks : ℕ) → ℕ → List ℕ
entry_shown t depth blanks e = entry_over (λ h. tree_shown t depth (blanks + 2) (stands (in_directory h))) t blanks e

-- the place after n bytes from a place on, where a buffer of so many bytes has room for them
unfoldable pub placed : (at end n : ℕ) → Option ℕ
placed at end n = cond (leb (at + n) end) (Some (at + n)) None

-- what the lister stands on: chained records, a depth whose lines are not too far in, a place in the buffer
pub record Ready (c : Chains) (depth blanks at end : ℕ) : Type 0 where
  pub chains : Whole c
  pub narrow : blanks + depth * 2 ≤ 600
  pub here : at ≤ end
  pub small : end ≤ 18446744073709551615

-- the bytes s are listed from a place on, to the end of a buffer that may be shorter: the place after them, and the buffer, where they fit
pub record Lists (s reply : List ℕ) (at end : ℕ) (r : Option ℕ) (after : List ℕ) : Type 0 where
  pub place : r ≡ placed at end (length s)
  pub bytes : at + length s ≤ end → after ≡ sets reply at s

-- "The needed length is judged before anything is written"
unfoldable pub answered : List ℕ → (s reply : List ℕ) → Option ℕ
answered t s reply = cond (leb (rooms t) 2048) (placed 0 (length reply) (length s)) None

unfoldable pub replied : List ℕ → (s reply : List ℕ) → List ℕ
replied t s reply = cond (leb (rooms t) 2048 && leb (length s) (length reply)) (sets reply 0 s) reply
