-- Records built from their fields: a number that fits its bytes comes back from them, a link name from its number, and what was
-- padded with zeros by its length. So each record has 32 bytes and reads in each field what was put there.
use mathlib.Core.Bool.{true}
use mathlib.Core.List.{List, ◌∷◌, ◌++◌}
use mathlib.Core.Logic.{by_cases}
use mathlib.Core.Path.{◌≡◌, refl, sym, ap, ◌∙◌}
use Prim.Native.Nat.{ℕ, suc, ◌+◌, ◌-◌, ◌^◌, ◌≤◌, ◌<◌}
use native.Mathlib.Omega.{arith}
use native.Mathlib.Decide.{dec_lt}
use lib.ListN.{length, get_or, drop, replicate, length-append, length-replicate, get_or-replicate, get_or-eq_default}
use lib.Seq.{get_or_at, drop-append-add, get_or-append-add, get_or-drop, take-append_seam}
use lib.Dec.{eqb}
use borrow.Author.Tests.{eq-eqb, lt-ltb}
use Rattle.paper.specs.Number.{number_at, bytes_of}
use Rattle.paper.specs.Scan.{all_below}
use Rattle.paper.specs.Record.{byte, heading_type, heading_code, mark, text_length, entry_code, holder_of, heading_named, user_of, bytes_held, heading_of, position, held, zeros, padded, heading_record, text_record}
use Rattle.paper.specs.Layout.{name_of, name_field, entry_record, packed, packed_name, six_name, six_field, boxed}
use Rattle.paper.specs.Name.{link_name}
use Rattle.laws.proofs.Tests.{and_both}
use Rattle.laws.proofs.Numbers.{length-bytes, number-drop, number-bytes}
use Rattle.laws.proofs.Scans.{all_here}
use Rattle.laws.proofs.Packing.{packed-less, unpacked-packed}

-- ---- zeros, and what is padded with them

pub zero-at : (n i : ℕ) → ◌≡◌ {A = ℕ} (get_or (replicate n 0) i 0) 0
zero-at n i =
    by_cases (dec_lt i n) (λ (l : i < n). get_or-replicate n i 0 0 l)
    (λ (l : ¬ (i < n)). get_or-eq_default (replicate n 0) 0 (rw length-replicate (omega arith)))

pub zero-after : (s : List ℕ) (n i : ℕ) → get_or (s ++ replicate n 0) (length s + i) 0 ≡ 0
zero-after s n i = get_or-append-add s (replicate n 0) i 0 ∙ zero-at n i

pub zeros_by : (j n : ℕ) (r : List ℕ) → ((i : ℕ) → i < n → byte r (j + i) ≡ 0) → zeros j n r ≡ true
unfolding zeros
zeros_by j n r h = all_here (λ i. eqb (byte r (j + i)) 0) n (λ i l. eq-eqb _ _ (h i l))

pub length-padded : (n : ℕ) (s : List ℕ) → length s ≤ n → length (padded n s) ≡ n
length-padded n s l = rw (length-append, length-replicate) (omega arith)

-- the number in w bytes at place j of r, where r has from j on those of n
pub number-field : (w n j : ℕ) (r rest : List ℕ) → n < 256 ^ w → drop j r ≡ bytes_of w n ++ rest → number_at w r j ≡ n
number-field w n j r rest l e =
    let p : j + 0 ≡ j = omega arith in
    let q : number_at w r j ≡ number_at w (drop j r) 0 = ap (number_at w r) (sym p) ∙ sym (number-drop w r j 0) in
    q ∙ ap (λ (s : List ℕ). number_at w s 0) e ∙ number-bytes w n rest l

-- ---- a heading

module _ (type lev code life n : ℕ) where
  pub length-heading : length (heading_record type lev code life n) ≡ 32
  unfolding heading_record bytes_of
  length-heading = refl

  pub heading-record-kind : byte (heading_record type lev code life n) 0 ≡ 1
  unfolding heading_record
  heading-record-kind = refl

  pub heading-type : heading_type (heading_record type lev code life n) ≡ type
  unfolding heading_record
  heading-type = refl

  pub heading-code : heading_code (heading_record type lev code life n) ≡ code
  unfolding heading_record
  heading-code = refl

  pub heading-mark : mark (heading_record type lev code life n) ≡ 0
  unfolding heading_record
  heading-mark = refl

  pub heading-length : n < 256 ^ 2 → text_length (heading_record type lev code life n) ≡ n
  unfolding heading_record bytes_of
  heading-length l = number-field 2 n 10 (heading_record type lev code life n) (replicate 20 0) l refl

-- ---- an entry

-- bytes 9-31 begin with byte 9 and the number of the name, nine bytes in all
length-number : (name : List ℕ) → length (0 ∷ bytes_of 8 (packed name)) ≡ 9
length-number name = ap suc (length-bytes 8 (packed name))

pub length-name : (name : List ℕ) → length (name_field boxed name) ≡ 23
unfolding six_field
length-name name = rw (length-append, length-bytes)

-- a record whose first nine bytes are followed by a name
module _ (front name : List ℕ) (e : length front ≡ 9) where
  pub name-total : length (front ++ name_field boxed name) ≡ 32
  name-total = rw (length-append, length-name name, e)

  -- its number
  pub name-number : packed_name (front ++ name_field boxed name) ≡ packed name
  unfolding six_field
  name-number =
      number-field 8 (packed name) 10 (front ++ name_field boxed name) (replicate 14 0) (omega (arith, packed-less name))
      (rw e at (drop-append-add front (name_field boxed name) 1))

  -- before the number a zero, after it zeros
  pub name-first : byte (front ++ name_field boxed name) 9 ≡ 0
  unfolding six_field
  name-first = get_or_at front 0 (bytes_of 8 (packed name) ++ replicate 14 0) 0 9 e

  pub name-zeros : zeros 18 14 (front ++ name_field boxed name) ≡ true
  unfolding six_field
  name-zeros =
      zeros_by 18 14 (front ++ name_field boxed name)
      (λ i _.
      let p : 18 + i ≡ length front + (9 + i) = omega arith in
      rw (p, get_or-append-add front (name_field boxed name) (9 + i) 0)
      (rw (length-number name) at (zero-after (0 ∷ bytes_of 8 (packed name)) 14 i)))

  -- so it is "as above", and a link name comes back
  pub name-above : boxed.as_above (front ++ name_field boxed name) ≡ true
  name-above =
      let l : packed_name (front ++ name_field boxed name) < 2 ^ 60 = rw name-number (packed-less name) in
      and_both _ _ (and_both _ _ (eq-eqb _ _ name-first) (lt-ltb _ _ l)) name-zeros

  pub name-there : link_name name ≡ true → name_of boxed (front ++ name_field boxed name) ≡ name
  unfolding six_name
  name-there k = rw name-number (unpacked-packed name k)

module _ (code holder heading user : ℕ) (name : List ℕ) where
  -- the bytes before the name
  abbrev front : List ℕ
  front = 2 ∷ code ∷ bytes_of 2 holder ++ bytes_of 2 heading ++ bytes_of 3 user

  is-entry : entry_record boxed code holder heading user name ≡ front ++ name_field boxed name
  unfolding entry_record bytes_of
  is-entry = refl

  front-nine : length front ≡ 9
  unfolding bytes_of
  front-nine = refl

  pub entry-record-kind : byte (entry_record boxed code holder heading user name) 0 ≡ 2
  unfolding entry_record
  entry-record-kind = refl

  pub entry-code : entry_code (entry_record boxed code holder heading user name) ≡ code
  unfolding entry_record
  entry-code = refl

  pub length-entry : length (entry_record boxed code holder heading user name) ≡ 32
  length-entry = rw is-entry (name-total front name front-nine)

  pub entry-name : link_name name ≡ true → name_of boxed (entry_record boxed code holder heading user name) ≡ name
  entry-name k = rw is-entry (name-there front name front-nine k)

  pub entry-number : packed_name (entry_record boxed code holder heading user name) ≡ packed name
  entry-number = rw is-entry (name-number front name front-nine)

  -- the name's bytes are "as above"
  pub entry-above : boxed.as_above (entry_record boxed code holder heading user name) ≡ true
  entry-above = rw is-entry (name-above front name front-nine)

  pub entry-holder : holder < 256 ^ 2 → holder_of (entry_record boxed code holder heading user name) ≡ holder
  unfolding entry_record bytes_of
  entry-holder l =
      number-field 2 holder 2 (entry_record boxed code holder heading user name) (bytes_of 2 heading ++ bytes_of 3 user ++ name_field boxed name) l refl

  pub entry-heading : heading < 256 ^ 2 → heading_named (entry_record boxed code holder heading user name) ≡ heading
  unfolding entry_record bytes_of
  entry-heading l = number-field 2 heading 4 (entry_record boxed code holder heading user name) (bytes_of 3 user ++ name_field boxed name) l refl

  pub entry-user : user < 256 ^ 3 → user_of (entry_record boxed code holder heading user name) ≡ user
  unfolding entry_record bytes_of
  entry-user l = number-field 3 user 6 (entry_record boxed code holder heading user name) (name_field boxed name) l refl

-- ---- a text record

module _ (heading place : ℕ) (bytes : List ℕ) where
  pub text-record-kind : byte (text_record heading place bytes) 0 ≡ 3
  unfolding text_record
  text-record-kind = refl

  pub text-size : bytes_held (text_record heading place bytes) ≡ length bytes
  unfolding text_record
  text-size = refl

  pub text-heading : heading < 256 ^ 2 → heading_of (text_record heading place bytes) ≡ heading
  unfolding text_record bytes_of
  text-heading l = number-field 2 heading 2 (text_record heading place bytes) (bytes_of 2 place ++ replicate 2 0 ++ padded 24 bytes) l refl

  pub text-position : place < 256 ^ 2 → position (text_record heading place bytes) ≡ place
  unfolding text_record bytes_of
  text-position l = number-field 2 place 4 (text_record heading place bytes) (replicate 2 0 ++ padded 24 bytes) l refl

  pub length-text : length bytes ≤ 24 → length (text_record heading place bytes) ≡ 32
  unfolding text_record bytes_of
  length-text l = ap (λ (n : ℕ). suc (suc (suc (suc (suc (suc (suc (suc n)))))))) (length-padded 24 bytes l)

  pub text-held : held (text_record heading place bytes) ≡ bytes
  unfolding held text_record bytes_of
  text-held = take-append_seam bytes (replicate (24 - length bytes) 0)

  pub text-gap : zeros 6 2 (text_record heading place bytes) ≡ true
  unfolding text_record bytes_of zeros all_below
  text-gap = refl

  pub text-rest : zeros (8 + length bytes) (24 - length bytes) (text_record heading place bytes) ≡ true
  unfolding text_record bytes_of
  text-rest =
      zeros_by (8 + length bytes) (24 - length bytes) (text_record heading place bytes)
      (λ i _.
      let p : 8 + length bytes + i ≡ 8 + (length bytes + i) = omega arith in
      rw p (sym (get_or-drop 8 (text_record heading place bytes) (length bytes + i) 0) ∙ zero-after bytes (24 - length bytes) i))
