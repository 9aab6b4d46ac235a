-- What RDS writes is the text of document 01: on a sound table a simple file has at most 1,000 blocks, which the list of rooms holds, and its
-- text is as long as its heading says.
use mathlib.Core.Bool.{true}
use mathlib.Core.List.{List}
use mathlib.Core.Path.{◌≡◌}
use Prim.Native.Nat.{ℕ, ◌+◌, ◌/◌, ◌%◌, ◌≤◌}
use native.Mathlib.Omega.{arith}
use lib.ListN.{length, take, drop}
use lib.Seq.{sets, take_all}
use Rattle.paper.specs.Record.{text_length, simple}
use Rattle.paper.specs.Table.{rec}
use Rattle.paper.specs.Block.{blocks, file_text}
use Rattle.effects.specs.Listed.{text_rooms, gathered}
use Rattle.effects.proofs.Papers.{taken-front}
use Rattle.effects.proofs.Lengths.{length-few, text-length, text-part}
use Rattle.elephant.specs.Done.{Fit}

module _ (t : List ℕ) (h : ℕ) (f : Fit t) (s : simple (rec t h) ≡ true) where
  pub text-few : length (file_text t h) ≤ 24000
  text-few = rw (text-length t h f.sized f.sound s) (length-few t h f.sized f.sound s)

  -- the part gathered from its own rooms: b is one past the last
  pub part-there : (r : List ℕ) (a k b : ℕ) → r ≡ text_rooms t h b → b ≡ blocks (a + k) → a + k ≤ text_length (rec t h)
      → take k (drop (a % 24) (gathered t r (a / 24) b)) ≡ take k (drop a (file_text t h))
  part-there r a k b p q l = rw (p, q) (text-part t h f.sized f.sound s a k l)

  -- the whole is a part
  pub all_there : (n : ℕ) → n ≡ text_length (rec t h) → take n (drop 0 (file_text t h)) ≡ file_text t h
  all_there n q = take_all n (file_text t h) (omega (arith, text-length t h f.sized f.sound s))

  -- .. and copied to the front of z, from where it is taken again
  pub text-copied : (z l : List ℕ) (n : ℕ) → 24000 ≤ length z → l ≡ sets z 0 (file_text t h) → n ≡ text_length (rec t h) → take n (drop 0 l) ≡ file_text t h
  text-copied z l n m p q = rw (p, q, ← text-length t h f.sized f.sound s) (taken-front z (file_text t h) (omega (arith, text-few)))
