-- A table that is sound by any layout: the clauses that say what entries name, and how their names lie.
use mathlib.Core.Bool.{Bool, true}
use mathlib.Core.List.{List, [], ◌∷◌}
use mathlib.Core.Path.{◌≡◌}
use Prim.Native.Nat.{ℕ}
use lib.Dec.{leb}
use Rattle.paper.specs.Record.{byte}
use Rattle.paper.specs.Layout.{Layout}
use Rattle.paper.specs.Table.{rooms, rec}
use Rattle.paper.specs.Scan.{all_below}
use Rattle.paper.specs.Sound.{every, free_as_above, heading_as_above, entry_as_above, text_as_above, as_above, holders_there, heading_there, headings_there, users_right, name_padded, names_padded, none_twice, all_named, none_crowded, directories_plain, texts_whole, no_other_text, name_legal, names_legal, counts_true, shaped, sound}
use Rattle.laws.proofs.Tests.{and_left, joined, joined-first, joined-part}

module _ (L : Layout) (t : List ℕ) (e : sound L t ≡ true) where
  later : List Bool
  later =
      holders_there t ∷ headings_there t ∷ users_right t ∷ names_padded L t ∷ none_twice L t ∷ all_named t ∷ none_crowded t ∷ directories_plain t ∷ texts_whole t
      ∷ no_other_text t ∷ names_legal L t ∷ []

  all-clauses : joined (as_above L t) later ≡ true
  unfolding sound shaped joined later
  all-clauses = and_left (shaped L t) (counts_true t) e

  pub entries-above : every 2 (entry_as_above L) t ≡ true
  unfolding as_above joined
  entries-above =
      joined-part (all_below (λ i. leb (byte (rec t i) 0) 3) (rooms t))
      (every 0 free_as_above t ∷ every 1 heading_as_above t ∷ every 2 (entry_as_above L) t ∷ every 3 text_as_above t ∷ []) 2
      (joined-first (as_above L t) later all-clauses)

  pub headings-there : every 2 (heading_there t) t ≡ true
  unfolding headings_there later
  headings-there = joined-part (as_above L t) later 1 all-clauses

  pub names-padded : every 2 (name_padded L) t ≡ true
  unfolding names_padded later
  names-padded = joined-part (as_above L t) later 3 all-clauses

  pub names-legal : every 2 (name_legal L) t ≡ true
  unfolding names_legal later
  names-legal = joined-part (as_above L t) later 10 all-clauses
