-- What the lamp's four refusals let through: each is tried on every sheet, so where none is given every sheet has a legal link name
-- and a text that fits the buffer, and no two have one name.
use mathlib.Core.Bool.{true}
use mathlib.Core.List.{List, [], ◌∷◌, ◌++◌}
use mathlib.Core.Logic.{◌≢◌}
use mathlib.Core.Path.{◌≡◌, sym}
use Prim.Native.Nat.{ℕ, zero, suc, ◌≤◌, ◌<◌}
use native.Mathlib.Omega.{arith}
use lib.ListN.{length, take, drop, length-take}
use lib.Dec.{eqb}
use borrow.Author.Tests.{not-false, ltb-false}
use Rattle.paper.specs.Check.{passed}
use Rattle.paper.specs.Name.{link_name, same}
use Rattle.paper.specs.Scan.{join_below, each_below}
use Rattle.paper.specs.Table.{rec}
use Rattle.job.specs.Sheet.{Sheet, count, link_of, length_of, formed, start, sheet, job}
use Rattle.job.specs.Refusal.{malformed, twice, too_long, admission}
use Rattle.laws.proofs.Tests.{clash, and_left, and_right, not-both}
use Rattle.laws.proofs.Scans.{any_false}
use Rattle.laws.proofs.Lists.{Every, every-each}
use Rattle.laws.proofs.Entries.{eq-same}
use Rattle.job_demands.proofs.Admitting.{Passes, tests, Admitted, admits, refuses, admitted}

-- a sheet with a legal link name, whose text fits a buffer of m bytes
pub record Proper (m : ℕ) (x : Sheet) : Type 0 where
  pub legal : link_name x.link ≡ true
  pub fits : length x.text ≤ m

-- the sheet bears another name
abbrev pub Other : Sheet → Sheet → Type 0
Other x y = y.link ≢ x.link

-- each sheet of the list bears another name than those of ys and those before it
abbrev pub Apart : List Sheet → List Sheet → Type 0
Apart ys [] = Unit {0}
Apart ys (x ∷ xs) = Every (Other x) ys × Apart (x ∷ ys) xs

apart-last : (ys xs : List Sheet) (z : Sheet) → Apart ys xs → Every (Other z) ys → Every (Other z) xs → Apart ys (xs ++ z ∷ [])
apart-last ys [] z a b c = (b, tt)
apart-last ys (x ∷ xs) z a b c = (a.0, apart-last (x ∷ ys) xs z a.1 (c.0, b) c.1)

apart-each : (f : ℕ → Sheet) (n : ℕ) → ((i j : ℕ) → i < n → j < i → (f j).link ≢ (f i).link) → Apart [] (each_below f n)
unfolding join_below
apart-each f zero h = tt
apart-each f (suc n) h =
    apart-last [] (each_below f n) (f n) (apart-each f n (λ i j l. h i j (omega arith))) tt
    (every-each (Other (f n)) f n (λ j l. h n j (omega arith) l))

module _ (sheets texts back : List ℕ) (e : admission sheets texts back ≡ passed) where
  none : Passes (count sheets) (tests sheets texts back)
  none = go (admitted sheets texts back)
    where
      go : Admitted sheets texts back (admission sheets texts back) → Passes (count sheets) (tests sheets texts back)
      go (admits h q) = h
      go (refuses m i f q) = clash (cc)

  legal-at : (i : ℕ) → i < count sheets → link_name (link_of (rec sheets i)) ≡ true
  unfolding formed
  legal-at i l =
      let f : formed (rec sheets i) ≡ true =
      not-false (formed (rec sheets i)) (any_false (malformed sheets) (count sheets) i l (none 0)) in
      and_right (eqb (length (rec sheets i)) 32) _ (and_left _ _ (and_left _ _ f))

  fits-at : (i : ℕ) → i < count sheets → length (take (length_of (rec sheets i)) (drop (start sheets i) texts)) ≤ length back
  fits-at i l =
      rw length-take
      (omega (arith, ltb-false (length back) (length_of (rec sheets i)) (any_false (too_long sheets back) (count sheets) i l (none 3))))

  other_at : (i j : ℕ) → i < count sheets → j < i → link_of (rec sheets j) ≢ link_of (rec sheets i)
  other_at i j l m q =
      not-both (eq-same (link_of (rec sheets i)) (link_of (rec sheets j)) (sym q))
      (any_false (λ z. same (link_of (rec sheets i)) (link_of (rec sheets z))) i j m (any_false (twice sheets) (count sheets) i l (none 1)))

  pub job-proper : Every (Proper (length back)) (job sheets texts)
  unfolding job sheet
  job-proper = every-each _ (sheet sheets texts) (count sheets) (λ i l. record { legal = legal-at i l; fits = fits-at i l })

  pub job-apart : Apart [] (job sheets texts)
  unfolding job sheet
  job-apart = apart-each (sheet sheets texts) (count sheets) other_at
