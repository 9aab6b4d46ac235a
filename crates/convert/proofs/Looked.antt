-- An entry that is as an entry of its name would be has the bytes that this name lays; and one that has the bytes of a link name bears it, so that
-- it is found legible. So a sound table is, and what is not legible is not sound.
use mathlib.Core.Bool.{Bool, true, false}
use mathlib.Core.List.{List, ◌++◌}
use mathlib.Core.Logic.{◌≢◌}
use mathlib.Core.Path.{◌≡◌, sym, ap, ◌∙◌}
use Prim.Native.Nat.{ℕ, ◌+◌, ◌<◌}
use native.Mathlib.Omega.{arith}
use native.Mathlib.Numerals.{add-one}
use lib.ListN.{length, take, drop, length-take, take-append-drop}
use lib.Seq.{drop_at}
use borrow.Author.Tests.{eqb-true, eq-eqb, ne_eqb}
use Rattle.paper.specs.Scan.{all_below}
use Rattle.paper.specs.Record.{byte, is_kind}
use Rattle.paper.specs.Layout.{Layout, name_of, old}
use Rattle.paper.specs.Table.{rooms, rec}
use Rattle.paper.specs.Name.{same, link_name}
use Rattle.paper.specs.Sound.{sound}
use Rattle.paper.specs.Effect.{renamed}
use Rattle.laws.proofs.Tests.{and_parts, and_both, and-no-left, implies-use, implies-by, not-both, false-by}
use Rattle.laws.proofs.Scans.{all_true, all_here, all-false}
use Rattle.laws.proofs.Entries.{same_true, eq-same}
use Rattle.laws.proofs.Lay.{length-rec}
use Rattle.layouts.proofs.Lawful.{Laid, Lawful, old-lawful}
use Rattle.layouts.proofs.Converted.{Reads, Legible}
use Rattle.layouts.proofs.SoundReads.{old-legible}
use Rattle.convert.specs.Looked.{legible, legible_at, all_legible}

module _ (L : Layout) (r : List ℕ) (e : length r ≡ 32) where
  nine : length (take 9 r) ≡ 9
  nine = rw length-take (omega arith)

  legible-reads : legible L r ≡ true → Reads L r
  unfolding legible renamed
  legible-reads q =
      let f = and_parts (link_name (name_of L r)) (same r (take 9 r ++ L.field (name_of L r))) q in
      let g : r ≡ take 9 r ++ L.field (name_of L r) = same_true _ _ f.1 in
      record { name = name_of L r; link = f.0; bytes = ap (drop 9) g ∙ drop_at (take 9 r) (L.field (name_of L r)) 9 nine }

  reads-legible : Lawful L → Reads L r → legible L r ≡ true
  unfolding legible renamed
  reads-legible a x =
      let q : take 9 r ++ L.field x.name ≡ r = rw (← x.bytes) (take-append-drop 9 r) in
      let y : Laid L x.name r = rw q at (a.lays (take 9 r) x.name nine x.link) in
      rw y.borne (and_both (link_name x.name) _ x.link (eq-same _ _ (sym q)))

pub legible-all : (L : Layout) (t : List ℕ) → all_legible L t ≡ true → Legible L t
unfolding all_legible legible_at
legible-all L t e i l k =
    legible-reads L (rec t i) (length-rec t i l) (implies-use (is_kind 2 (rec t i)) _ (all_true (legible_at L t) (rooms t) i l e) (eq-eqb _ _ k))

all-legible : (L : Layout) (t : List ℕ) → Lawful L → Legible L t → all_legible L t ≡ true
unfolding all_legible legible_at
all-legible L t a h =
    all_here (legible_at L t) (rooms t)
    (λ i l.
    implies-by (is_kind 2 (rec t i)) (legible L (rec t i)) (λ q. reads-legible L (rec t i) (length-rec t i l) a (h i l (eqb-true (byte (rec t i) 0) 2 q))))

pub not-legible : (t : List ℕ) → all_legible old t ≡ false → sound old t ≡ false
not-legible t e = false-by (sound old t) (λ q. not-both (all-legible old t old-lawful (old-legible t q)) e)

-- ---- as it is looked at

pub legible-no : (L : Layout) (r name : List ℕ) → name ≡ name_of L r → link_name name ≡ false → false ≡ legible L r
unfolding legible
legible-no L r name e f = sym (and-no-left (link_name (name_of L r)) _ (rw e at f))

pub legible-by : (L : Layout) (r name : List ℕ) → name ≡ name_of L r → link_name name ≡ true → same r (renamed L r name) ≡ legible L r
unfolding legible
legible-by L r name e f = rw (← e, f)

pub at_other : (L : Layout) (t : List ℕ) (i : ℕ) → byte (rec t i) 0 ≢ 2 → true ≡ legible_at L t i
unfolding legible_at
at_other L t i n = rw (ne_eqb (byte (rec t i) 0) 2 n)

pub at_entry : (L : Layout) (t : List ℕ) (i : ℕ) → byte (rec t i) 0 ≡ 2 → legible L (rec t i) ≡ legible_at L t i
unfolding legible_at
at_entry L t i k = rw (eq-eqb (byte (rec t i) 0) 2 k)

pub all-next : (p : ℕ → Bool) (i : ℕ) → all_below p i ≡ true → p i ≡ true → all_below p (i + 1) ≡ true
unfolding all_below
all-next p i e f = rw (add-one, f) e

pub all-no : (L : Layout) (t : List ℕ) (i : ℕ) → i < rooms t → legible_at L t i ≡ false → false ≡ all_legible L t
unfolding all_legible
all-no L t i l e = sym (all-false (legible_at L t) (rooms t) i l e)

pub all_yes : (L : Layout) (t : List ℕ) (n : ℕ) → n ≡ rooms t → all_below (legible_at L t) n ≡ true → true ≡ all_legible L t
unfolding all_legible
all_yes L t n q e = sym (rw q at e)
