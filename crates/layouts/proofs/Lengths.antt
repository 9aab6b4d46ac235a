-- A name read from either layout has at most 10 characters, so that an entry moved either way has 32 bytes again.
use mathlib.Core.Bool.{Bool, true, false, cond}
use mathlib.Core.List.{List, [], ◌∷◌}
use mathlib.Core.Path.{◌≡◌}
use Prim.Native.Nat.{ℕ, zero, suc, ◌+◌, ◌/◌, ◌%◌, ◌^◌, ◌≤◌}
use native.Mathlib.Omega.{arith}
use lib.ListN.{length, take, length-take}
use lib.Dec.{eqb}
use Rattle.paper.specs.Record.{is_kind}
use Rattle.paper.specs.Layout.{Layout, name_of, old, six, old_name, six_name, ahead, unpacking, packed_name}
use Rattle.paper.specs.Effect.{renamed}
use Rattle.paper.specs.Convert.{moved}
use Rattle.laws.proofs.Fields.{name-total}
use Rattle.layouts.proofs.OldNames.{old-total}

-- ---- at most 10 characters

pub old-short : (r : List ℕ) → length (old_name r) ≤ 10
unfolding old_name
old-short r = simp (length-take) (omega arith)

ahead-short : (c w : ℕ) (name : List ℕ) → length name ≤ w → length (ahead c name) ≤ suc w
unfolding ahead
ahead-short c w [] l = go (eqb c 0)
  where
    go : (b : Bool) → length (cond b [] ((c + 32) ∷ [])) ≤ suc w
    go true = omega arith
    go false = omega arith
ahead-short c w (b ∷ name) l = omega arith

unpacking-short : (w x : ℕ) → length (unpacking w x) ≤ w
unfolding unpacking
unpacking-short zero x = omega arith
unpacking-short (suc w) x = ahead-short (x / 64 ^ w % 64) w (unpacking w x) (unpacking-short w x)

pub six-short : (r : List ℕ) → length (six_name r) ≤ 10
unfolding six_name
six-short r = unpacking-short 10 (packed_name r)

-- ---- 32 bytes

-- a record of 32 bytes that is moved has 32 again
abbrev pub Fits : Layout → Layout → Type 0
Fits A B = (r : List ℕ) → length r ≡ 32 → length (moved A B r) ≡ 32

fits_by : (A B : Layout) → ((r : List ℕ) → length r ≡ 32 → length (renamed B r (name_of A r)) ≡ 32) → Fits A B
unfolding moved
fits_by A B h r e = go (is_kind 2 r)
  where
    go : (c : Bool) → length (cond c (renamed B r (name_of A r)) r) ≡ 32
    go true = h r e
    go false = e

nine : (r : List ℕ) → length r ≡ 32 → length (take 9 r) ≡ 9
nine r e = rw length-take (omega arith)

pub fits-to : Fits old six
fits-to = fits_by old six (λ r e. unfold renamed in name-total (take 9 r) (old_name r) (nine r e))

pub fits-from : Fits six old
fits-from = fits_by six old (λ r e. unfold renamed in old-total (take 9 r) (six_name r) (nine r e) (six-short r))
