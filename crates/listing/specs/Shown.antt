-- What this crate's arguments stand for on paper.
use Rattle.std.specs.Prelude.{Bool, ◌&&◌, not, List, ℕ}
use Rattle.paper.specs.Layout.{name_of, boxed}
use Rattle.paper.specs.Name.{same, dot_w}
use Rattle.paper.specs.Entry.{stands, base_list, in_directory}
use Rattle.listing.specs.declared.Listed.{Listed}
use Rattle.listing.specs.declared.Listed.TheVariants.{Directory, Base}

-- the entries that are listed: a directory's, or "the user's base files other than `.W`"
abbrev pub is_listed : Listed → List ℕ → Bool
is_listed (Directory h) = stands (in_directory h.0)
is_listed (Base u) = λ r. stands (base_list u) r && not (same dot_w (name_of boxed r))
