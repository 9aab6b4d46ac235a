-- A directory's measure is twice the depth allowed, an entry's one more than twice the depth allowed below it: a directory calls an
-- entry at one less, an entry a directory at its own. What is left to list, listed from where it stands, is always the whole.
use Prim.Native.Nat.{◌+◌, ◌*◌, ◌-◌}
use Rattle.tree.specs.Shown.{entry_shown}
use Rattle.tree.proofs.Places.{Going}
use Rattle.tree.proofs.Chains.+list_directory_list_entry.Given as goal

abbrev pub decreases-list_directory : goal.decreases-list_directory
decreases-list_directory l = l.depth * 2

abbrev pub decreases-list_entry : goal.decreases-list_entry
decreases-list_entry l = l.depth * 2 + 1

abbrev pub invariant-list_directory-loop-e : goal.invariant-list_directory-loop-e
invariant-list_directory-loop-e l =
    Going (entry_shown l.self.table.now (l.depth - 1) l.blanks) l.e-items l.initial.reply l.at l.end l.reply l.place l.e-index
