-- A heading counted again, as code writes it: bytes 12-13 are laid, and in a directory bytes 14-15, over the heading that was there.
-- A list with a stretch laid is what stands before it, the stretch, and what stands after it.
use mathlib.Core.Bool.{true, false}
use mathlib.Core.List.{List, ◌++◌, append_assoc}
use mathlib.Core.Path.{◌≡◌, sym, ap, ◌∙◌}
use Prim.Native.Nat.{ℕ, ◌+◌}
use native.Mathlib.Omega.{arith}
use lib.ListN.{length, take, drop, take-append-drop, length-take, length-append}
use lib.Seq.{sets, sets-eq, length-sets, drop-drop, take_at, drop_at}
use Rattle.paper.specs.Number.{bytes_of}
use Rattle.paper.specs.Record.{directory}
use Rattle.paper.specs.Count.{namings, holdings, recounted}
use Rattle.laws.proofs.Numbers.{length-bytes}

module _ (t : List ℕ) (i : ℕ) (r : List ℕ) (l : length r ≡ 32) where
  -- the bytes from 14 on
  back : take 2 (drop 14 r) ++ drop 16 r ≡ drop 14 r
  back = ap (λ (s : List ℕ). take 2 (drop 14 r) ++ s) (sym (drop-drop 2 14 r)) ∙ take-append-drop 2 (drop 14 r)

  first : sets r 12 (bytes_of 2 (namings t i)) ≡ take 12 r ++ (bytes_of 2 (namings t i) ++ drop 14 r)
  first =
      let n : length (bytes_of 2 (namings t i)) ≡ 2 = length-bytes 2 (namings t i) in
      sets-eq (bytes_of 2 (namings t i)) r 12 (omega arith) ∙ rw n (append_assoc (take 12 r) (bytes_of 2 (namings t i)) (drop 14 r))

  -- a simple file
  pub file-sets : directory r ≡ false → recounted t i r ≡ sets r 12 (bytes_of 2 (namings t i))
  unfolding recounted
  file-sets d = rw (d, back) (sym first)

  -- a directory
  pub directory-sets : directory r ≡ true → recounted t i r ≡ sets (sets r 12 (bytes_of 2 (namings t i))) 14 (bytes_of 2 (holdings t i))
  unfolding recounted
  directory-sets d = rw d (sym (sets-eq (bytes_of 2 (holdings t i)) s 14 (rw (length-bytes 2 (holdings t i), size) (omega arith)) ∙ laid))
    where
      a : List ℕ
      a = take 12 r ++ bytes_of 2 (namings t i)

      s : List ℕ
      s = sets r 12 (bytes_of 2 (namings t i))

      size : length s ≡ 32
      size = length-sets r 12 (bytes_of 2 (namings t i)) ∙ l

      parts : s ≡ a ++ drop 14 r
      parts = first ∙ sym (append_assoc (take 12 r) (bytes_of 2 (namings t i)) (drop 14 r))

      front : length a ≡ 14
      front = simp (length-append, length-take, length-bytes) (omega arith)

      before : take 14 s ≡ a
      before = ap (take 14) parts ∙ take_at a (drop 14 r) 14 front

      after : drop 16 s ≡ drop 16 r
      after = sym (drop-drop 2 14 s) ∙ ap (drop 2) (ap (drop 14) parts ∙ drop_at a (drop 14 r) 14 front) ∙ drop-drop 2 14 r

      laid : take 14 s ++ bytes_of 2 (holdings t i) ++ drop (14 + length (bytes_of 2 (holdings t i))) s
          ≡ take 12 r ++ (bytes_of 2 (namings t i) ++ (bytes_of 2 (holdings t i) ++ drop 16 r))
      laid =
          rw (before, length-bytes 2 (holdings t i), after)
          (append_assoc a (bytes_of 2 (holdings t i)) (drop 16 r)
          ∙ append_assoc (take 12 r) (bytes_of 2 (namings t i)) (bytes_of 2 (holdings t i) ++ drop 16 r))
