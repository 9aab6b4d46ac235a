-- A reach moves one byte at a time: it stays where the test fails or the line ends, and else goes on from the next place.
-- All other facts about it follow by going over the places from the end.
use mathlib.Core.Bool.{Bool, true, false, ◌&&◌, cond}
use mathlib.Core.List.{List, [], ◌∷◌}
use mathlib.Core.Logic.{◌⊎◌, inl, inr}
use mathlib.Core.Path.{◌≡◌, refl, ap}
use Prim.Native.Nat.{ℕ, suc, ◌+◌, ◌≤◌, ◌<◌}
use native.Mathlib.Omega.{arith}
use native.Mathlib.Nat.{add-zero}
use Rattle.std.proofs.lemmas.List.Folds.{length-prefix_len}
use Rattle.std.specs.List.{take_while, prefix_len, list_all}
use lib.ListN.{length, get_or, drop, drop_of_length-le, length-drop}
use lib.Seq.{drop-cons}
use Rattle.paper.specs.Name.{all}
use Rattle.words.specs.Place.{lead, reach}
use Rattle.laws.proofs.Tests.{truth}
use Rattle.words.proofs.Tests.{side, places}

module _ (test : ℕ → Bool) (line : List ℕ) where
  pub reach-end : (p : ℕ) → length line ≤ p → reach test line p ≡ p
  unfolding reach lead
  reach-end p l = rw (drop_of_length-le line l, add-zero)

  pub reach-stop : (p : ℕ) → test (get_or line p 0) ≡ false → reach test line p ≡ p
  unfolding reach lead
  reach-stop p e = go (side p (length line))
    where
      go : (p < length line) ⊎ (length line ≤ p) → p + lead test (drop p line) ≡ p
      go (inl l) = rw (drop-cons line p 0 l, e, add-zero)
      go (inr l) = rw (drop_of_length-le line l, add-zero)

  pub reach-go : (p : ℕ) → p < length line → test (get_or line p 0) ≡ true → reach test line p ≡ reach test line (suc p)
  unfolding reach lead
  reach-go p l e = rw (drop-cons line p 0 l, e) (omega arith)

  pub reach-le : (p : ℕ) → p ≤ reach test line p
  unfolding reach
  reach-le p = omega arith

  pub reach-more : (p : ℕ) → p < length line → test (get_or line p 0) ≡ true → p < reach test line p
  reach-more p l e = rw (reach-go p l e) (omega (arith, reach-le (suc p)))

  pub reach-inside : (p : ℕ) → p ≤ length line → reach test line p ≤ length line
  unfolding reach lead
  reach-inside p l = omega (arith, within (drop p line), length-drop p line)
    where
      within : (s : List ℕ) → lead test s ≤ length s
      within [] = omega arith
      within (b ∷ s) = go (test b) (within s)
        where
          go : (t : Bool) → lead test s ≤ length s → cond t (suc (lead test s)) 0 ≤ suc (length s)
          go true h = omega arith
          go false h = omega arith

  Stopped : ℕ → Type 0
  Stopped p = reach test line p < length line → test (get_or line (reach test line p) 0) ≡ false

  -- where a reach stops, the test fails
  pub reach-stopped : (p : ℕ) → reach test line p < length line → test (get_or line (reach test line p) 0) ≡ false
  unfolding Stopped
  reach-stopped = places Stopped (length line) over one
    where
      over : (p : ℕ) → length line ≤ p → Stopped p
      over p l h = let z : ⊥ = omega (arith, reach-le p) in absurd z

      one : (p : ℕ) → p < length line → Stopped (suc p) → Stopped p
      one p l r = go (truth (test (get_or line p 0)))
        where
          go : (test (get_or line p 0) ≡ true) ⊎ (test (get_or line p 0) ≡ false) → Stopped p
          go (inl e) = rw (reach-go p l e) r
          go (inr e) = λ h. rw (reach-stop p e) e

  -- so a reach from there stays
  pub reach-again : (p : ℕ) → reach test line (reach test line p) ≡ reach test line p
  reach-again p = go (side (reach test line p) (length line))
    where
      go : (reach test line p < length line) ⊎ (length line ≤ reach test line p) → reach test line (reach test line p) ≡ reach test line p
      go (inl l) = reach-stop (reach test line p) (reach-stopped p l)
      go (inr l) = reach-end (reach test line p) l

-- a reach ends past the bytes at the front that pass
pub reach_taken : (test : ℕ → Bool) (line : List ℕ) (p : ℕ) → reach test line p ≡ p + length (take_while test (drop p line))
unfolding reach lead
reach_taken test line p = rw (length-prefix_len test (drop p line)) (ap (λ (n : ℕ). p + n) (go (drop p line)))
  where
    go : (s : List ℕ) → lead test s ≡ prefix_len test s
    go [] = refl
    go (b ∷ s) = by (test b) (go s)
      where
        by : (t : Bool) → lead test s ≡ prefix_len test s → cond t (suc (lead test s)) 0 ≡ cond t (1 + prefix_len test s) 0
        by true e = omega arith
        by false e = refl

-- every byte passes
pub all_list : (test : ℕ → Bool) (s : List ℕ) → all test s ≡ list_all test s
unfolding all
all_list test [] = refl
all_list test (b ∷ s) = ap (λ (t : Bool). test b && t) (all_list test s)

pub ruleset reaches = (reach-le, reach-inside, reach-end)
