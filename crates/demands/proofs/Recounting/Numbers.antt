-- What a heading's bytes say of its counts, on a table with true counts: they are the numbers counted, since no table has so many records
-- that two bytes would not hold them.
use mathlib.Core.Bool.{Bool, true, false, ◌||◌, not}
use mathlib.Core.List.{List, ◌++◌}
use mathlib.Core.Logic.{◌⊎◌, inl, inr}
use mathlib.Core.Path.{◌≡◌, sym, ap, ◌∙◌}
use Prim.Native.Nat.{ℕ, ◌^◌, ◌≤◌, ◌<◌}
use native.Mathlib.Omega.{arith}
use lib.ListN.{take, drop, take-append-drop}
use lib.Dec.{eqb}
use borrow.Author.Tests.{ne_eqb}
use Rattle.paper.specs.Number.{bytes_of}
use Rattle.paper.specs.Scan.{any_below, count_below}
use Rattle.paper.specs.Record.{byte, two, directory, names}
use Rattle.paper.specs.Table.{rooms, rec}
use Rattle.paper.specs.Entry.{in_directory, stands, crowd, named, peopled}
use Rattle.paper.specs.Sound.{counts_true}
use Rattle.paper.specs.Count.{namings, holdings, says, counts_right}
use Rattle.laws.proofs.Tests.{truth, and_left, and_right}
use Rattle.laws.proofs.Scans.{any-true, any_false}
use Rattle.laws.proofs.Counts.{count_most, count-least, count_none}
use Rattle.laws.proofs.Entries.{same_true}
use Rattle.laws.proofs.Fields.{number-field}
use Rattle.demands.proofs.Mending.Counts.{counts-at}

pub says-number : (n j : ℕ) (r : List ℕ) → n < 256 ^ 2 → says n j r ≡ true → two r j ≡ n
says-number n j r l s =
    number-field 2 n j r (drop 2 (drop j r)) l
    (sym (take-append-drop 2 (drop j r)) ∙ ap (λ (x : List ℕ). x ++ drop 2 (drop j r)) (same_true (take 2 (drop j r)) (bytes_of 2 n) s))

-- some number passes exactly where the count is not 0
any-count : (p : ℕ → Bool) (n : ℕ) → any_below p n ≡ not (eqb (count_below p n) 0)
any-count p n = go (truth (any_below p n))
  where
    go : (any_below p n ≡ true) ⊎ (any_below p n ≡ false) → any_below p n ≡ not (eqb (count_below p n) 0)
    go (inl e) =
        let w = any-true p n e in
        e ∙ rw (ne_eqb (count_below p n) 0 (λ (z : count_below p n ≡ 0). omega (arith, count-least p n w.0 w.1 w.2)))
    go (inr e) = e ∙ rw (count_none p n (λ i l. any_false p n i l e))

-- "named by an entry" and "a directory with entries", by the counts
pub named_count_lem : (t : List ℕ) (h : ℕ) → named t h ≡ not (eqb (namings t h) 0)
unfolding named namings
named_count_lem t h = any-count (λ i. names h (rec t i)) (rooms t)

pub peopled-count : (t : List ℕ) (h : ℕ) → peopled t h ≡ not (eqb (holdings t h) 0)
unfolding peopled crowd
peopled-count t h = any-count (λ i. stands (in_directory h) (rec t i)) (rooms t)

module _ (t : List ℕ) (few : rooms t ≤ 2048) where
  pub namings-small : (h : ℕ) → namings t h < 256 ^ 2
  unfolding namings
  namings-small h = omega (arith, count_most (λ i. names h (rec t i)) (rooms t))

  pub holdings-small : (h : ℕ) → holdings t h < 256 ^ 2
  unfolding crowd
  holdings-small h = omega (arith, count_most (λ i. stands (in_directory h) (rec t i)) (rooms t))

  module _ (c : counts_true t ≡ true) (h : ℕ) (l : h < rooms t) (k : byte (rec t h) 0 ≡ 1) where
    right : counts_right t h (rec t h) ≡ true
    right = counts-at t c h l k

    -- "how many entries name it (bytes 12-13)"
    pub bytes-named : two (rec t h) 12 ≡ namings t h
    unfolding counts_right
    bytes-named = says-number (namings t h) 12 (rec t h) (namings-small h) (and_left (says (namings t h) 12 (rec t h)) _ right)

    -- "for a directory, how many it holds (bytes 14-15)"
    pub bytes-held : directory (rec t h) ≡ true → two (rec t h) 14 ≡ holdings t h
    unfolding counts_right
    bytes-held d =
        says-number (holdings t h) 14 (rec t h) (holdings-small h)
        (rw d at (and_right (says (namings t h) 12 (rec t h)) (not (directory (rec t h)) || says (holdings t h) 14 (rec t h)) right))
