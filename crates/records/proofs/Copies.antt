-- Bytes laid one after the other: one more is one store at the next place, and those past the end change nothing,
-- since a store there changes nothing.
use mathlib.Core.List.{List, [], ◌∷◌, ◌++◌, append_assoc}
use mathlib.Core.Logic.{by_cases}
use mathlib.Core.Path.{◌≡◌, refl, sym, ap, ◌∙◌}
use Prim.Native.Nat.{ℕ, zero, suc, ◌+◌, ◌-◌, ◌≤◌, ◌<◌, min}
use native.Mathlib.Omega.{arith}
use native.Mathlib.Decide.{dec_le}
use native.Mathlib.Nat.{add-zero, suc-add, add-suc}
use native.Mathlib.Numerals.{add-one}
use lib.ListN.{get_or, length, take, set, length-set, length-take}
use lib.Seq.{sets, sets-eq, set_out, take-nil, drop-drop}
use borrow.Rule.Slice.PartMut.{put_mid}

pub sets-out : (vs l : List ℕ) (i : ℕ) → length l ≤ i → sets l i vs ≡ l
sets-out [] l i h = refl
sets-out (a ∷ vs) l i h = rw (set_out l i a h) (sets-out vs l (suc i) (omega arith))

-- past the end one place is as good as another
pub sets-near : (vs l : List ℕ) (a b k : ℕ) → b ≡ min a k → length l ≤ k → sets l b vs ≡ sets l a vs
sets-near vs l a b k e h =
    by_cases (dec_le a k)
    (λ (m : a ≤ k). let q : b ≡ a = omega arith in rw q)
    (λ (m : ¬ (a ≤ k)). rw (sets-out vs l b (omega arith), sets-out vs l a (omega arith)))

-- as many as fit
pub sets-fit : (vs l : List ℕ) (i n : ℕ) → length l - i ≤ n → sets l i (take n vs) ≡ sets l i vs
sets-fit [] l i n h = rw (take-nil n)
sets-fit (a ∷ vs) l i zero h = sym (sets-out (a ∷ vs) l i (omega arith))
sets-fit (a ∷ vs) l i (suc n) h = sets-fit vs (set l i a) (suc i) n (rw length-set (omega arith))

-- one more
pub sets_more : (vs l : List ℕ) (i j : ℕ) → j < length vs
    → set (sets l i (take j vs)) (i + j) (get_or vs j 0) ≡ sets l i (take (j + 1) vs)
sets_more [] l i j h = let z : ⊥ = omega arith in absurd z
sets_more (a ∷ vs) l i zero h = rw add-zero
sets_more (a ∷ vs) l i (suc j) h =
    rw (add-one, add-suc, ← suc-add) (rw add-one at (sets_more vs (set l i a) (suc i) j (omega arith)))

-- one list after the other
pub sets-append : (a b l : List ℕ) (i : ℕ) → sets l i (a ++ b) ≡ sets (sets l i a) (i + length a) b
sets-append [] b l i = rw add-zero
sets-append (x ∷ a) b l i = sets-append a b (set l i x) (suc i) ∙ rw (add-suc, ← suc-add)

-- .. and a stretch of the list taken out and another of its length put in its place
pub sets-put : (l s : List ℕ) (i k : ℕ) → length s ≡ k → i + k ≤ length l → put_mid i k l s ≡ sets l i s
sets-put l s i k e h = rw (sets-eq s l i (omega arith), e, drop-drop k i l, append_assoc (take i l) s)

-- a stretch that is as much of s as fits
module _ (l s fit : List ℕ) (at : ℕ) (e : fit ≡ take (length l - at) s) where
  pub fit_length : at < length l → at + length fit ≤ length l
  fit_length h = omega (arith, ap length e ∙ length-take (length l - at) s)

  pub fit-sets : sets l at fit ≡ sets l at s
  fit-sets = rw e (sets-fit s l at (length l - at) (omega arith))
