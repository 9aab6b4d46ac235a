-- The block rule: a text of n bytes is cut every 24 bytes, so that position p has 24 of them or, at the last, the rest.
-- That is what `share` says, and at a position that the text has it is 1 to 24.
use mathlib.Core.Bool.{true, false, cond}
use mathlib.Core.List.{List}
use mathlib.Core.Logic.{◌⊎◌, inl, inr}
use mathlib.Core.Path.{◌≡◌, refl, ◌∙◌}
use Prim.Native.Nat.{ℕ, zero, suc, ◌+◌, ◌-◌, ◌*◌, ◌≤◌, ◌<◌, min}
use native.Mathlib.Omega.{arith}
use native.Mathlib.Nat.{suc-mul}
use lib.ListN.{length, take, length-take, length-drop}
use lib.Seq.{take_all, take-add}
use lib.Dec.{ltb}
use borrow.Author.Tests.{ltb-true, ltb-false}
use Rattle.paper.specs.Scan.{join_below}
use Rattle.paper.specs.Record.{held}
use Rattle.paper.specs.Table.{rec, text_room}
use Rattle.paper.specs.Block.{blocks, share, block, blocks_of, file_text}
use Rattle.laws.proofs.Tests.{truth}
use Rattle.laws.proofs.Lists.{join-most}

module _ (n p : ℕ) (l : p < blocks n) where
  share-cases : (ltb (p + 1) (blocks n) ≡ true) ⊎ (ltb (p + 1) (blocks n) ≡ false) → (1 ≤ share n p) × (share n p ≤ 24)
  unfolding share
  share-cases (inl e) = rw e (omega arith, omega arith)
  share-cases (inr e) = let b : blocks n ≤ p + 1 = ltb-false (p + 1) (blocks n) e in rw e (omega arith, omega arith)

  pub share-least : 1 ≤ share n p
  share-least = (share-cases (truth (ltb (p + 1) (blocks n)))).0

  pub share-most : share n p ≤ 24
  share-most = (share-cases (truth (ltb (p + 1) (blocks n)))).1

pub length-block : (text : List ℕ) (p : ℕ) → p < blocks (length text) → length (block text p) ≡ share (length text) p
unfolding block share
length-block text p l = rw (length-take, length-drop) (go (truth (ltb (p + 1) (blocks (length text)))))
  where
    n : ℕ
    n = length text

    go : (ltb (p + 1) (blocks n) ≡ true) ⊎ (ltb (p + 1) (blocks n) ≡ false) → min 24 (n - p * 24) ≡ cond (ltb (p + 1) (blocks n)) 24 (n - p * 24)
    go (inl e) = let b : p + 1 < blocks n = ltb-true (p + 1) (blocks n) e in rw e (omega arith)
    go (inr e) = let b : blocks n ≤ p + 1 = ltb-false (p + 1) (blocks n) e in rw e (omega arith)

-- no position has more than 24
pub block-most : (text : List ℕ) (p : ℕ) → length (block text p) ≤ 24
unfolding block
block-most text p = rw length-take (omega arith)

pub held-most : (t : List ℕ) (i : ℕ) → length (held (rec t i)) ≤ 24
unfolding held rec
held-most t i = rw (length-take, length-drop, length-take) (omega arith)

-- so that a file has at most 24 bytes a text record
pub file-most : (t : List ℕ) (h : ℕ) → length (file_text t h) ≤ blocks_of t h * 24
unfolding file_text
file-most t h = join-most _ (blocks_of t h) 24 (λ p. held-most t (text_room t h p))

-- the blocks of a text, joined, are the text
join-take : (text : List ℕ) (n : ℕ) → join_below (block text) n ≡ take (n * 24) text
unfolding join_below block
join-take text zero = refl
join-take text (suc n) =
    let e : suc n * 24 ≡ n * 24 + 24 = suc-mul n 24 in
    rw (e, take-add (n * 24) 24 text, join-take text n)

pub join-blocks : (text : List ℕ) → join_below (block text) (blocks (length text)) ≡ text
join-blocks text = join-take text (blocks (length text)) ∙ take_all (blocks (length text) * 24) text (omega arith)
