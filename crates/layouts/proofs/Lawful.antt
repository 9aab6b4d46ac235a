-- What a layout owes (`Lawful`): a link name that is laid is borne and passes the layout's tests. And what passes them has exactly the bytes that its
-- name lays (`Exact`): document 01's reads a length and as many bytes, document 02's one number from eight bytes, and each comes back from them.
use mathlib.Core.Bool.{true, ◌&&◌}
use mathlib.Core.List.{List, ◌∷◌, ◌++◌}
use mathlib.Core.Path.{◌≡◌, refl, sym, ◌∙◌}
use Prim.Native.Nat.{ℕ, ◌+◌, ◌-◌, ◌^◌, ◌≤◌, ◌<◌}
use native.Mathlib.Omega.{arith}
use lib.ListN.{length, get_or, take, drop, replicate, length-take, length-drop, length-replicate, take-append-drop}
use lib.Seq.{ext_get_or, get_or-drop, get_or-take, drop_at, drop-cons, drop-drop}
use lib.Dec.{eqb, leb, ltb}
use borrow.Author.Tests.{eqb-true, leb-true, ltb-true, le-leb}
use Rattle.paper.specs.Record.{byte, zeros}
use Rattle.paper.specs.Layout.{Layout, name_length, old_name, old_field, old, packed_name, six_name, six_field, six}
use Rattle.paper.specs.Name.{link_name}
use Rattle.laws.proofs.Tests.{and_left, and_right, and_both, and_parts}
use Rattle.laws.proofs.Scans.{all_true}
use Rattle.laws.proofs.Fields.{zero-at, name-total, name-above, name-there}
use Rattle.laws.proofs.Entries.{link-short}
use Rattle.laws.proofs.Packing.{packed-unpacked, bytes-number}
use Rattle.layouts.proofs.OldNames.{old-size, old-zeros, old-padded, old-total, old-there}

-- r is an entry's record of this link name, by the layout L
pub record Laid (L : Layout) (name r : List ℕ) : Type 0 where
  pub link : link_name name ≡ true
  pub size : length r ≡ 32
  pub bytes : drop 9 r ≡ L.field name
  pub borne : L.borne r ≡ name
  pub above : L.as_above r ≡ true
  pub padded : L.padded r ≡ true

-- a link name may be laid behind any nine bytes
pub record Lawful (L : Layout) : Type 0 where
  pub lays : (front name : List ℕ) → length front ≡ 9 → link_name name ≡ true → Laid L name (front ++ L.field name)

-- what passes the tests is what its name lays, where P holds of the record
abbrev pub Exact : (List ℕ → Type 0) → Layout → Type 0
Exact P L =
    (r : List ℕ) → length r ≡ 32 → P r → L.as_above r ≡ true → L.padded r ≡ true → link_name (L.borne r) ≡ true → drop 9 r ≡ L.field (L.borne r)

-- nothing is asked; or that the numbers are bytes, which those of a slice are
abbrev pub Any : List ℕ → Type 0
Any r = Unit {0}

abbrev pub Bytes : List ℕ → Type 0
Bytes r = (j : ℕ) → get_or r j 0 < 256

-- bytes that are zero
zeros-at : (j n i : ℕ) (r : List ℕ) → zeros j n r ≡ true → i < n → byte r (j + i) ≡ 0
unfolding zeros
zeros-at j n i r e l = eqb-true _ _ (all_true (λ i. eqb (byte r (j + i)) 0) n i l e)

-- ---- document 01's

old-lays : (front name : List ℕ) → length front ≡ 9 → link_name name ≡ true → Laid old name (front ++ old_field name)
old-lays front name e k =
    let l = (link-short name k).1 in
    record {
      link = k;
      size = old-total front name e l;
      bytes = drop_at front (old_field name) 9 e;
      borne = old-there front name e l;
      above =
          and_both (leb (name_length (front ++ old_field name)) 10) _ (le-leb (name_length (front ++ old_field name)) 10 (rw (old-size front name e) l))
          (old-zeros front name e 20 12 (omega arith));
      padded = old-padded front name e;
    }

-- a list of zeros
all-zero : (n : ℕ) (s : List ℕ) → length s ≡ n → ((i : ℕ) → i < n → get_or s i 0 ≡ 0) → s ≡ replicate n 0
all-zero n s e h = ext_get_or 0 s (replicate n 0) (e ∙ sym (length-replicate n 0)) (λ i l. h i (omega arith) ∙ sym (zero-at n i))

-- the bytes of a record from j on, up to its end, where they are zero
zero-tail : (j n : ℕ) (r : List ℕ) → length r ≡ 32 → j + n ≡ 32 → zeros j n r ≡ true → drop j r ≡ replicate n 0
zero-tail j n r e f z = all-zero n (drop j r) (rw length-drop (omega arith)) (λ i l. get_or-drop j r i 0 ∙ zeros-at j n i r z l)

-- the record past its ninth byte
past-nine : (r : List ℕ) → length r ≡ 32 → drop 9 r ≡ byte r 9 ∷ drop 10 r
past-nine r e = drop-cons r 9 0 (omega arith)

-- n bytes, and those after them
cut_at : (j n : ℕ) (r : List ℕ) → drop j r ≡ take n (drop j r) ++ drop (j + n) r
cut_at j n r = rw (← (drop-drop n j r)) (sym (take-append-drop n (drop j r)))

module _ (r : List ℕ) (e : length r ≡ 32) (l : name_length r ≤ 10) where
  ten : List ℕ
  ten = take 10 (drop 10 r)

  length-ten : length ten ≡ 10
  unfolding ten
  length-ten = simp (length-take, length-drop) (omega arith)

  old-length : length (old_name r) ≡ name_length r
  unfolding old_name
  old-length = simp (length-take, length-drop) (omega arith)

  old-rest : zeros (10 + name_length r) (10 - name_length r) r ≡ true → drop (name_length r) ten ≡ replicate (10 - name_length r) 0
  unfolding ten
  old-rest z =
      all-zero (10 - name_length r) (drop (name_length r) (take 10 (drop 10 r))) (rw (length-drop, length-ten))
      (λ i m.
      let p : 10 + (name_length r + i) ≡ 10 + name_length r + i = omega arith in
      rw (get_or-drop, get_or-take 10 (drop 10 r) (name_length r + i) 0 (omega arith), get_or-drop, p) (zeros-at (10 + name_length r) (10 - name_length r) i r z m))

  old-again : zeros 20 12 r ≡ true → zeros (10 + name_length r) (10 - name_length r) r ≡ true → drop 9 r ≡ old_field (old_name r)
  unfolding old_field
  old-again y z =
      rw (old-length, past-nine r e, cut_at 10 10 r, zero-tail 20 12 r e refl y, ← (old-rest z))
      (unfold old_name ten in rw (take-append-drop (name_length r) (take 10 (drop 10 r))))

pub old-lawful : Lawful old
old-lawful = record { lays = old-lays }

pub old-exact : Exact Any old
old-exact r e h a z k = old-again r e (leb-true _ _ (and_left (leb (name_length r) 10) _ a)) (and_right (leb (name_length r) 10) _ a) z

-- ---- document 02's

six-lays : (front name : List ℕ) → length front ≡ 9 → link_name name ≡ true → Laid six name (front ++ six_field name)
six-lays front name e k =
    record {
      link = k;
      size = name-total front name e;
      bytes = drop_at front (six_field name) 9 e;
      borne = name-there front name e k;
      above = name-above front name e;
      padded = refl;
    }

six-again : (r : List ℕ) → length r ≡ 32 → Bytes r → byte r 9 ≡ 0 → packed_name r < 2 ^ 60 → zeros 18 14 r ≡ true → drop 9 r ≡ six_field (six_name r)
unfolding six_field six_name
six-again r e h a l z =
    rw (packed-unpacked (packed_name r) l, past-nine r e, a, cut_at 10 8 r, zero-tail 18 14 r e refl z, bytes-number 8 10 r (omega arith) h)

pub six-lawful : Lawful six
six-lawful = record { lays = six-lays }

pub six-exact : Exact Bytes six
six-exact r e h a z k =
    let f = and_parts (eqb (byte r 9) 0 && ltb (packed_name r) (2 ^ 60)) (zeros 18 14 r) a in
    let g = and_parts (eqb (byte r 9) 0) (ltb (packed_name r) (2 ^ 60)) f.0 in
    six-again r e h (eqb-true _ _ g.0) (ltb-true _ _ g.1) f.1
