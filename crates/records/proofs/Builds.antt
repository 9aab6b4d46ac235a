-- A record is built on zeros: what is copied over them leaves the zeros after it, so that the bytes are padded as they should be;
-- what is copied up to the record's end leaves only what stands before it.
use mathlib.Core.List.{List, [], ◌∷◌, ◌++◌, append_assoc, append-nil}
use mathlib.Core.Path.{◌≡◌, sym, ap, ◌∙◌}
use Prim.Native.Nat.{ℕ, zero, suc, ◌+◌, ◌*◌, ◌-◌, ◌/◌, ◌%◌, ◌≤◌, ◌<◌}
use native.Mathlib.Omega.{arith}
use native.Mathlib.Nat.{sub-zero, zero-sub, suc-sub-suc}
use lib.ListN.{length, take, drop, replicate, length-append, length-replicate, length-take, replicate-append-replicate, drop_of_length-le}
use lib.Seq.{sets, sets-eq, take-append_seam, drop-append-add, take_all}
use Rattle.paper.specs.Number.{bytes_of}
use Rattle.paper.specs.Record.{padded, text_record}
use Rattle.paper.specs.Layout.{name_field, six_field, packed, boxed}
use Rattle.paper.specs.Table.{rooms, rec}
use Rattle.laws.proofs.Fields.{length-padded, length-name}
use Rattle.laws.proofs.Lay.{length-rec}
use Rattle.laws.proofs.Numbers.{length-bytes}
use Rattle.records.proofs.Packed.{packed-take}
use Rattle.paper.specs.Block.{block}

drop-zeros : (k n : ℕ) → drop k (replicate {A = ℕ} n 0) ≡ replicate (n - k) 0
drop-zeros zero n = rw sub-zero
drop-zeros (suc k) zero = rw zero-sub
drop-zeros (suc k) (suc n) = rw suc-sub-suc (drop-zeros k n)

-- bytes over zeros
over_zeros : (head s : List ℕ) (n m : ℕ) → length s ≤ n
    → sets (head ++ replicate (n + m) 0) (length head) s ≡ head ++ (padded n s ++ replicate m 0)
over_zeros head s n m h =
    sets-eq s (head ++ replicate (n + m) 0) (length head) (rw (length-append, length-replicate) (omega arith))
    ∙ rw (take-append_seam, drop-append-add, drop-zeros (length s) (n + m), append_assoc head)
    (ap (λ (z : List ℕ). head ++ z) zeros-split)
  where
    zeros-split : s ++ replicate (n + m - length s) 0 ≡ padded n s ++ replicate m 0
    zeros-split =
        let e : n + m - length s ≡ n - length s + m = omega arith in
        rw (e, ← (replicate-append-replicate {A = ℕ} (n - length s) m 0))
        (sym (append_assoc s (replicate (n - length s) 0) (replicate m 0)))

-- bytes up to the end
to_end_lem : (l s : List ℕ) (i : ℕ) → i + length s ≡ length l → sets l i s ≡ take i l ++ s
to_end_lem l s i e =
    sets-eq s l i (omega arith) ∙ rw (drop_of_length-le l {i = i + length s} (omega arith), append-nil)

pub length_cut : (n : ℕ) (s : List ℕ) → length (take n s) ≤ n
length_cut n s = rw length-take (omega arith)

-- a stretch of at most n bytes
pub length-kept : (n : ℕ) (s kept : List ℕ) → kept ≡ take n s → length kept ≤ n
length-kept n s kept e = rw e (length_cut n s)

-- a record's 32 bytes
pub whole-over : (t : List ℕ) (i : ℕ) → sets (replicate 32 0) 0 (rec t i) ≡ padded 32 (rec t i)
unfolding rec
whole-over t i =
    over_zeros [] (rec t i) 32 0 (length_cut 32 (drop (i * 32) t)) ∙ append-nil (padded 32 (rec t i))

pub length_whole : (t : List ℕ) (i : ℕ) → length (padded 32 (rec t i)) ≡ 32
unfolding rec
length_whole t i = length-padded 32 (rec t i) (length_cut 32 (drop (i * 32) t))

-- .. which are the record, where the table has it
pub whole-there : (t : List ℕ) (i : ℕ) → i < rooms t → padded 32 (rec t i) ≡ rec t i
whole-there t i h = rw (length-rec t i h) (append-nil (rec t i))

pub name-over : (name : List ℕ) → sets (replicate 23 0) 1 (bytes_of 8 (packed name)) ≡ name_field boxed (take 10 name)
unfolding six_field
name-over name =
    over_zeros (0 ∷ []) (bytes_of 8 (packed name)) 8 14 (omega (arith, length-bytes 8 (packed name)))
    ∙ rw (length-bytes 8 (packed name), append-nil (bytes_of 8 (packed name)), packed-take name)

-- a name put at the end of 32 bytes
pub name-end : (r name : List ℕ) → length r ≡ 32
    → sets r 9 (name_field boxed (take 10 name)) ≡ take 9 r ++ name_field boxed (take 10 name)
name-end r name e = to_end_lem r (name_field boxed (take 10 name)) 9 (rw (length-name (take 10 name), e))

pub text-over : (h p : ℕ) (bytes kept : List ℕ) → kept ≡ take 24 bytes
    → sets (3 ∷ length kept ∷ h % 256 ∷ h / 256 % 256 ∷ p % 256 ∷ p / 256 % 256 ∷ 0 ∷ 0 ∷ replicate 24 0) 8 kept
    ≡ text_record h p (take 24 bytes)
unfolding text_record bytes_of
text-over h p bytes kept e =
    over_zeros (3 ∷ length kept ∷ h % 256 ∷ h / 256 % 256 ∷ p % 256 ∷ p / 256 % 256 ∷ 0 ∷ 0 ∷ []) kept 24 0
    (length-kept 24 bytes kept e)
    ∙ rw (append-nil, e)

-- a block of a text is no longer than its field
pub take-block : (t : List ℕ) (p : ℕ) → take 24 (block t p) ≡ block t p
unfolding block
take-block t p = take_all 24 (block t p) (length_cut 24 (drop (p * 24) t))
