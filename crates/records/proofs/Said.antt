-- Counts read: two bytes below 256, the low one first, say a number exactly where they are it.
-- What a heading tells goes by its type.
use mathlib.Core.Bool.{true, false}
use mathlib.Core.List.{List}
use mathlib.Core.Path.{◌≡◌, refl, sym, ap, ◌∙◌}
use Prim.Native.Nat.{ℕ, zero, suc, ◌+◌, ◌*◌, ◌/◌, ◌%◌, ◌<◌}
use native.Mathlib.Omega.{arith}
use native.Mathlib.Nat.{add-zero, div-add-mod'}
use lib.ListN.{length, get_or, take, drop, length-take, length-drop}
use lib.Seq.{get_or-take, get_or-drop, ext_get_or}
use lib.Dec.{eqb}
use borrow.Author.Tests.{eqb-true, eq-eqb}
use Rattle.paper.specs.Count.{says}
use Rattle.paper.specs.Number.{bytes_of}
use Rattle.paper.specs.Record.{byte, directory}
use Rattle.laws.proofs.Entries.{same_true, eq-same}
use Rattle.laws.proofs.Numbers.{length-bytes}
use Rattle.laws.proofs.Tests.{and-no-left, same_truth}
use Rattle.records.specs.Counts.{tells}

-- the two bytes of a number
low_byte : (n : ℕ) → get_or (bytes_of 2 n) 0 0 ≡ n % 256
unfolding bytes_of
low_byte n = refl

high_byte : (n : ℕ) → get_or (bytes_of 2 n) 1 0 ≡ n / 256 % 256
unfolding bytes_of
high_byte n = refl

module _ (r : List ℕ) (j : ℕ) (long : length r ≡ 32) (l : j < 31) where
  pair-length : length (take 2 (drop j r)) ≡ 2
  pair-length = simp (length-take, length-drop) (omega arith)

  pair-at : (k : ℕ) → k < 2 → get_or (take 2 (drop j r)) k 0 ≡ byte r (j + k)
  pair-at k b = get_or-take 2 (drop j r) k 0 b ∙ get_or-drop j r k 0

  low : get_or (take 2 (drop j r)) 0 0 ≡ byte r j
  low = simp add-zero at (pair-at 0 (omega arith))

  -- two bytes are the number, or not
  pub says-number : (n : ℕ) → byte r j < 256 → byte r (j + 1) < 256 → n < 65536 → says n j r ≡ eqb (byte r j + byte r (j + 1) * 256) n
  says-number n a b s = same_truth (says n j r) (eqb (byte r j + byte r (j + 1) * 256) n) there back
    where
      there : says n j r ≡ true → eqb (byte r j + byte r (j + 1) * 256) n ≡ true
      there e =
          let q : take 2 (drop j r) ≡ bytes_of 2 n = same_true _ _ e in
          let x : byte r j ≡ n % 256 = sym low ∙ ap (λ (s : List ℕ). get_or s 0 0) q ∙ low_byte n in
          let y : byte r (j + 1) ≡ n / 256 % 256 = sym (pair-at 1 (omega arith)) ∙ ap (λ (s : List ℕ). get_or s 1 0) q ∙ high_byte n in
          let z : byte r j + byte r (j + 1) * 256 ≡ n = omega (arith, div-add-mod' n 256) in
          eq-eqb _ _ z

      at : byte r j + byte r (j + 1) * 256 ≡ n → (k : ℕ) → k < length (take 2 (drop j r)) → get_or (take 2 (drop j r)) k 0 ≡ get_or (bytes_of 2 n) k 0
      at q zero m = let x : byte r j ≡ n % 256 = omega arith in low ∙ x ∙ sym (low_byte n)
      at q (suc zero) m = let x : byte r (j + 1) ≡ n / 256 % 256 = omega arith in pair-at 1 (omega arith) ∙ x ∙ sym (high_byte n)
      at q (suc (suc k)) m = let z : ⊥ = omega (arith, pair-length) in absurd z

      back : eqb (byte r j + byte r (j + 1) * 256) n ≡ true → says n j r ≡ true
      back e = eq-same _ _ (ext_get_or 0 (take 2 (drop j r)) (bytes_of 2 n) (pair-length ∙ sym (length-bytes 2 n)) (at (eqb-true _ _ e)))

-- what a heading says, by its type
module _ (n m : ℕ) (r : List ℕ) where
  pub tells-not : says n 12 r ≡ false → tells n m r ≡ false
  unfolding tells
  tells-not e = and-no-left (says n 12 r) _ e

  pub tells-file : says n 12 r ≡ true → directory r ≡ false → tells n m r ≡ true
  unfolding tells
  tells-file e d = rw (e, d)

  pub tells-directory : says n 12 r ≡ true → directory r ≡ true → tells n m r ≡ says m 14 r
  unfolding tells
  tells-directory e d = rw (e, d)
