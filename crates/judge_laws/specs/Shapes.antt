-- What each record shows by itself and by the records it names: all the clauses on its kind together.
use Rattle.std.specs.Prelude.{Bool, ◌&&◌, cond, List, ℕ, eqb, leb}
use Rattle.paper.specs.Name.{link_name, legal_base}
use Rattle.paper.specs.Record.{is_kind, heading_type, lifetime, text_length, directory, holder_of, heading_named, user_of, zeros}
use Rattle.paper.specs.Layout.{name_of, boxed}
use Rattle.paper.specs.Sound.{implies, heading_as_above, entry_as_above, text_as_above, as_above, is_base, holders_there, headings_there, users_right, names_padded, directories_plain, names_legal}
use Rattle.paper.specs.Table.{rec}

-- a directory's heading has lifetime M and length 0
abbrev pub plain_test : List ℕ → Bool
plain_test r = implies (eqb (heading_type r) 0) (eqb (lifetime r) 1 && eqb (text_length r) 0)

-- a simple file's heading holds nothing
abbrev pub bare_test : List ℕ → Bool
bare_test r = implies (eqb (heading_type r) 1) (zeros 14 2 r)

-- a heading that is as above, and plain if it is a directory's
unfoldable pub heading_right : List ℕ → Bool
heading_right r = heading_as_above 0 r && plain_test r

-- a base file's entry has a fit user and a legal base name
unfoldable pub base_right : List ℕ → Bool
base_right r = leb (user_of r) 999999 && legal_base (name_of boxed r)

-- any other entry stands in a directory and has no user
unfoldable pub inside_right : List ℕ → List ℕ → Bool
inside_right t r = directory (rec t (holder_of r)) && eqb (user_of r) 0

-- an entry that is as above, names a heading, bears a link name and stands where it may
unfoldable pub entry_right : List ℕ → List ℕ → Bool
entry_right t r =
    entry_as_above boxed 0 r && is_kind 1 (rec t (heading_named r)) && link_name (name_of boxed r) && cond (is_base r) (base_right r) (inside_right t r)

-- record i by its kind; what is of no other kind is free, and all zero
unfoldable pub right_at : List ℕ → ℕ → Bool
right_at t i =
    cond (is_kind 1 (rec t i)) (heading_right (rec t i))
    (cond (is_kind 2 (rec t i)) (entry_right t (rec t i)) (cond (is_kind 3 (rec t i)) (text_as_above 0 (rec t i)) (zeros 0 32 (rec t i))))

-- the clauses that the records show one by one
unfoldable pub each_right : List ℕ → Bool
each_right t =
    as_above boxed t && holders_there t && headings_there t && users_right t && names_padded boxed t && directories_plain t && names_legal boxed t
