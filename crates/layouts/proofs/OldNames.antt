-- Document 01's names: a length, as many of the ten bytes after it, and zeros. A record whose first nine bytes are followed by a name
-- has 32 bytes, says the length, bears the name, and is zero past it.
use mathlib.Core.Bool.{true}
use mathlib.Core.List.{List, ◌++◌, append_assoc}
use mathlib.Core.Path.{◌≡◌}
use Prim.Native.Nat.{ℕ, suc, ◌+◌, ◌-◌, ◌≤◌}
use native.Mathlib.Omega.{arith}
use lib.ListN.{length, drop, replicate, length-append, replicate-append-replicate}
use lib.Seq.{get_or_at, drop-append-add, get_or-append-add, take-append_seam, take_at}
use Rattle.paper.specs.Record.{byte, zeros, padded}
use Rattle.paper.specs.Layout.{name_length, old_name, old_field}
use Rattle.laws.proofs.Fields.{zero-after, zeros_by, length-padded}

module _ (front name : List ℕ) (e : length front ≡ 9) where
  pub old-size : name_length (front ++ old_field name) ≡ length name
  unfolding old_field
  old-size = get_or_at front (length name) (padded 10 name ++ replicate 12 0) 0 9 e

  old-after : (i : ℕ) → byte (front ++ old_field name) (10 + (length name + i)) ≡ 0
  unfolding old_field
  old-after i =
      let p : 10 + (length name + i) ≡ length front + suc (length name + i) = omega arith in
      rw (p, get_or-append-add front (old_field name) (suc (length name + i)) 0)
      (rw (append_assoc name, replicate-append-replicate) (zero-after name (10 - length name + 12) i))

  -- past the name all is zero
  pub old-zeros : (j m : ℕ) → 10 + length name ≤ j → zeros j m (front ++ old_field name) ≡ true
  old-zeros j m l =
      zeros_by j m (front ++ old_field name)
      (λ i _.
      let k : ℕ = j - (10 + length name) + i in
      let p : j + i ≡ 10 + (length name + k) = omega arith in
      rw p (old-after k))

  pub old-padded : zeros (10 + name_length (front ++ old_field name)) (10 - name_length (front ++ old_field name)) (front ++ old_field name) ≡ true
  old-padded = rw old-size (old-zeros (10 + length name) (10 - length name) (omega arith))

  module _ (l : length name ≤ 10) where
    pub old-total : length (front ++ old_field name) ≡ 32
    unfolding old_field
    old-total = rw (length-append, e) (rw (length-append, length-padded 10 name l))

    pub old-there : old_name (front ++ old_field name) ≡ name
    unfolding old_name old_field
    old-there =
        let d : drop 10 (front ++ old_field name) ≡ padded 10 name ++ replicate 12 0 = rw e at (drop-append-add front (old_field name) 1) in
        rw (old-size, d, take_at (padded 10 name) (replicate 12 0) 10 (length-padded 10 name l))
        (take-append_seam name (replicate (10 - length name) 0))
