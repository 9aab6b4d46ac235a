-- Conversions that are computed, as the cases of Cases are: to six-bit names and back, and who gets 1 or 2 and stays.
use mathlib.Core.Bool.{Bool, true, ◌&&◌}
use mathlib.Core.List.{List, [], ◌∷◌, ◌++◌}
use mathlib.Core.Path.{◌≡◌, refl}
use Prim.Native.Nat.{ℕ}
use lib.Dec.{eqb}
use lib.ListN.{replicate, take}
use Rattle.paper.specs.Number.{number_at, bytes_of}
use Rattle.paper.specs.Scan.{all_below, any_below, count_below, join_below}
use Rattle.paper.specs.Record.{zeros, blank}
use Rattle.paper.specs.Layout.{Layout, old, old_name, old_field, packing, ahead, unpacking, six_name, six_field, six}
use Rattle.paper.specs.Table.{rec, lay}
use Rattle.paper.specs.Name.{same, all, link_name, pointed, legal_base}
use Rattle.paper.specs.Entry.{stands, bears, crowd, named}
use Rattle.paper.specs.Block.{share}
use Rattle.paper.specs.Sound.{as_above, holders_there, headings_there, users_right, names_padded, none_twice, all_named, none_crowded, directories_plain, texts_whole, no_other_text, names_legal, counts_true, shaped, sound}
use Rattle.paper.specs.Store.{fills, run}
use Rattle.paper.specs.Count.{namings, counts_right}
use Rattle.paper.specs.Effect.{renamed}
use Rattle.paper.specs.Convert.{moved, converted, converting}
use Rattle.paper.specs.Case.{box}

-- the call answers this number and leaves this table
unfoldable pub comes : Layout → Layout → List ℕ → ℕ → List ℕ → Bool
unfolding number_at bytes_of all_below any_below count_below join_below zeros blank old_name old_field packing ahead unpacking six_name six_field rec lay same all link_name pointed legal_base stands bears crowd named share as_above holders_there headings_there users_right names_padded none_twice all_named none_crowded directories_plain texts_whole no_other_text names_legal counts_true shaped sound fills run namings counts_right renamed moved converted converting
comes A B t number after = eqb (converting A B t).number number && same (converting A B t).table after

-- an entry of user 1 that names record 0: by document 01 a name of so many bytes, by document 02 the number in its last two bytes
by01 : ℕ → List ℕ → List ℕ
by01 n name = 2 ∷ 0 ∷ 255 ∷ 255 ∷ 0 ∷ 0 ∷ 1 ∷ 0 ∷ 0 ∷ n ∷ take 22 (name ++ replicate 22 0)

by02 : ℕ → ℕ → ℕ → List ℕ
by02 low high above = 2 ∷ 0 ∷ 255 ∷ 255 ∷ 0 ∷ 0 ∷ 1 ∷ replicate 8 0 ++ low ∷ high ∷ above ∷ replicate 14 0

there : comes old six (box 1 0 ++ by01 2 (46 ∷ 82 ∷ [])) 0 (box 1 0 ++ by02 0 178 3) ≡ true
unfolding comes by01 by02
there = refl

back : comes six old (box 1 0 ++ by02 0 178 3) 0 (box 1 0 ++ by01 2 (46 ∷ 82 ∷ [])) ≡ true
unfolding comes by01 by02
back = refl

-- twice gets 2, as a name with a code 0 inside or a number of 61 bits does; a free table is sound by both; a length of 33 gets 1
twice : comes old six (box 1 0 ++ by02 0 178 3) 2 (box 1 0 ++ by02 0 178 3) ≡ true
unfolding comes by01 by02
twice = refl

inside : comes six old (box 1 0 ++ by02 200 128 3) 2 (box 1 0 ++ by02 200 128 3) ≡ true
unfolding comes by01 by02
inside = refl

too-high : comes six old (box 1 0 ++ by02 0 178 19) 2 (box 1 0 ++ by02 0 178 19) ≡ true
unfolding comes by01 by02
too-high = refl

free : comes six old (replicate 64 0) 0 (replicate 64 0) ≡ true
unfolding comes
free = refl

odd : comes six old (replicate 33 0) 1 (replicate 33 0) ≡ true
unfolding comes
odd = refl
