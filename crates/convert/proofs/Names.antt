-- A name of at most 10 bytes laid by document 01's layout: its length and the name, copied over zeros; and what is kept of an old name is all.
use mathlib.Core.List.{List, ◌∷◌, ◌++◌, append_assoc, append-nil}
use mathlib.Core.Path.{◌≡◌, sym, ap, ◌∙◌}
use Prim.Native.Nat.{ℕ, zero, suc, ◌+◌, ◌-◌, ◌≤◌}
use native.Mathlib.Omega.{arith}
use native.Mathlib.Nat.{sub-zero, zero-sub, suc-sub-suc}
use lib.ListN.{length, take, drop, replicate, length-append, replicate-append-replicate, drop_of_length-le}
use lib.Seq.{sets, sets-eq, take_all}
use Rattle.paper.specs.Record.{padded}
use Rattle.paper.specs.Layout.{old, old_name, old_field}
use Rattle.paper.specs.Effect.{renamed}
use Rattle.laws.proofs.Fields.{length-padded}
use Rattle.layouts.proofs.Lengths.{old-short}

-- ---- what is kept of a name

pub old-taken : (r : List ℕ) → take 10 (old_name r) ≡ old_name r
old-taken r = take_all 10 (old_name r) (old-short r)

-- ---- the bytes as they are copied

drop-zeros : (k n : ℕ) → drop k (replicate {A = ℕ} n 0) ≡ replicate (n - k) 0
drop-zeros zero n = rw sub-zero
drop-zeros (suc k) zero = rw zero-sub
drop-zeros (suc k) (suc n) = rw suc-sub-suc (drop-zeros k n)

pub old-over : (name : List ℕ) → length name ≤ 10 → sets (length name ∷ replicate 22 0) 1 name ≡ old_field name
unfolding old_field
old-over name l =
    let e : 1 + length name ≡ suc (length name) = omega arith in
    let f : sets (length name ∷ replicate 22 0) 1 name ≡ length name ∷ (name ++ drop (length name) (replicate 22 0)) =
    sets-eq name (length name ∷ replicate 22 0) 1 (omega arith) ∙ rw e in
    f ∙ ap (λ (z : List ℕ). length name ∷ (name ++ z)) (drop-zeros (length name) 22 ∙ split)
    ∙ ap (λ (z : List ℕ). length name ∷ z) (sym (append_assoc name (replicate (10 - length name) 0) (replicate 12 0)))
  where
    split : replicate {A = ℕ} (22 - length name) 0 ≡ replicate (10 - length name) 0 ++ replicate 12 0
    split =
        let e : 22 - length name ≡ 10 - length name + 12 = omega arith in
        rw e (sym (replicate-append-replicate {A = ℕ} (10 - length name) 12 0))

length-field : (name : List ℕ) → length name ≤ 10 → length (old_field name) ≡ 23
unfolding old_field
length-field name l = ap suc (length-append (padded 10 name) (replicate 12 0) ∙ rw (length-padded 10 name l))

-- a name put at the end of 32 bytes
pub old-end : (r name : List ℕ) → length r ≡ 32 → length name ≤ 10 → sets r 9 (old_field name) ≡ renamed old r name
unfolding renamed
old-end r name e l =
    sets-eq (old_field name) r 9 (omega (arith, length-field name l))
    ∙ rw (drop_of_length-le r {i = 9 + length (old_field name)} (rw (length-field name l) (omega arith)), append-nil)
