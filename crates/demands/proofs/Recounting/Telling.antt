-- What a delete and a new entry ask of the whole table, the counts in the headings tell: whether a file loses its last entry, whether a
-- directory has entries, and whether it is full. On a table with true counts bytes 12-15 are the numbers counted.
use mathlib.Core.Bool.{Bool, true, false, ◌&&◌, not}
use mathlib.Core.List.{List}
use mathlib.Core.Logic.{◌≢◌, by_cases}
use mathlib.Core.Path.{◌≡◌, refl}
use Prim.Native.Nat.{ℕ, ◌+◌, ◌≤◌, ◌<◌}
use native.Mathlib.Omega.{arith}
use native.Mathlib.Decide.{ℕ_discrete}
use lib.Dec.{eqb, leb}
use borrow.Author.Tests.{eqb-true, eq-eqb, ne_eqb}
use Rattle.paper.specs.Record.{byte, two, is_kind, directory, heading_named, names}
use Rattle.paper.specs.Table.{rooms, rec, lay}
use Rattle.paper.specs.Entry.{in_directory, full, peopled}
use Rattle.paper.specs.Sound.{counts_true}
use Rattle.paper.specs.Count.{namings, holdings}
use Rattle.paper.specs.Effect.{lost}
use Rattle.paper.specs.Answer.{yes_no}
use Rattle.laws.proofs.Tests.{and_left}
use Rattle.laws.proofs.Counts.{count-least}
use Rattle.laws.proofs.Entries.{names-by}
use Rattle.demands.proofs.Recounting.Numbers.{bytes-named, bytes-held, named_count_lem, peopled-count}
use Rattle.demands.proofs.Recounting.After.{Entering, namings-after}

-- "its file .. is now named by no entry": it was named once, and the new entry does not name it
module _ (t : List ℕ) (e : ℕ) (r : List ℕ) (g : Entering t e r) (k : byte (rec t e) 0 ≡ 2) where
  abbrev h : ℕ
  h = heading_named (rec t e)

  names-it : names h (rec t e) ≡ true
  names-it = names-by h (rec t e) k refl

  some : 1 ≤ namings t h
  unfolding namings
  some = count-least (λ i. names h (rec t i)) (rooms t) e g.within names-it

  pub lost-count : h < rooms t → byte (rec t h) 0 ≡ 1 → lost t e r ≡ (not (names h r) && eqb (two (rec t h) 12) 1)
  unfolding lost
  lost-count l q =
      rw (named_count_lem (lay t e r) h, bytes-named t g.few g.counts h l q)
      (go (names h r) (rw names-it at (namings-after t e r g h)))
    where
      go : (b : Bool) → namings (lay t e r) h + 1 ≡ namings t h + yes_no b
          → not (not (eqb (namings (lay t e r) h) 0)) ≡ (not b && eqb (namings t h) 1)
      go true x = rw (ne_eqb (namings (lay t e r) h) 0 (omega (arith, some)))
      go false x =
          by_cases (ℕ_discrete (namings t h) 1)
          (λ (y : namings t h ≡ 1). rw (eq-eqb (namings t h) 1 y, eq-eqb (namings (lay t e r) h) 0 (omega arith)))
          (λ (y : namings t h ≢ 1). rw (ne_eqb (namings t h) 1 y, ne_eqb (namings (lay t e r) h) 0 (omega (arith, some))))

-- a directory's entries
module _ (t : List ℕ) (few : rooms t ≤ 2048) (c : counts_true t ≡ true) (h : ℕ) (l : h < rooms t) (d : directory (rec t h) ≡ true) where
  held : two (rec t h) 14 ≡ holdings t h
  held = bytes-held t few c h l (eqb-true _ _ (and_left (is_kind 1 (rec t h)) _ d)) d

  -- "a directory with entries"
  pub peopled-bytes : peopled t h ≡ not (eqb (two (rec t h) 14) 0)
  peopled-bytes = rw held (peopled-count t h)

  -- "directory .. full": "at most 112 entries"
  pub full-bytes : full t (in_directory h) ≡ leb 112 (two (rec t h) 14)
  full-bytes = rw (held, ne_eqb h 65535 (omega arith))
