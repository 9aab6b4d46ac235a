-- A text record with a whole block is its first eight bytes and then the block.
-- So it is these two laid one after the other over 32 bytes.
use mathlib.Core.List.{List, [], ◌++◌, append-nil}
use mathlib.Core.Path.{◌≡◌, refl, ap, ◌∙◌}
use Prim.Native.Nat.{ℕ, ◌+◌, ◌≤◌}
use native.Mathlib.Omega.{arith}
use lib.ListN.{length, drop, length-append}
use lib.Seq.{sets-eq, take_at, drop-length}
use Rattle.paper.specs.Number.{bytes_of}
use Rattle.paper.specs.Record.{text_record}
use Rattle.records.proofs.Copies.{sets-put}
use borrow.Rule.Slice.PartMut.{put_mid}
use Rattle.effects.specs.Stage.{text_front}

-- a text record with a whole block is its first eight bytes and the block
text-whole : (h p : ℕ) (b : List ℕ) → length b ≡ 24 → text_record h p b ≡ text_front h p ++ b
unfolding text_record text_front bytes_of
text-whole h p b e = rw e (ap (λ (s : List ℕ). text_front h p ++ s) (append-nil b))

front_length : (h p : ℕ) → length (text_front h p) ≡ 8
unfolding text_front bytes_of
front_length h p = refl

-- .. laid one after the other over 32 bytes
pub block-put : (f g z b : List ℕ) (h p : ℕ) → f ≡ text_front h p → g ≡ f → length z ≡ 24 → length b ≡ 24
    → put_mid 8 24 (g ++ z) b ≡ text_record h p b
block-put f g z b h p e d m n =
    let l : length g ≡ 8 = rw (d, e) (front_length h p) in
    let a : 8 + 24 ≤ length (g ++ z) = omega (arith, length-append g z) in
    let w : length (g ++ z) ≡ 8 + 24 = omega (arith, length-append g z) in
    let past : drop (8 + 24) (g ++ z) ≡ [] = rw w at (drop-length (g ++ z)) in
    sets-put (g ++ z) b 8 24 n a
    ∙ sets-eq b (g ++ z) 8 (omega arith)
    ∙ rw (n, take_at g z 8 l, past, append-nil, d, e, text-whole h p b n)
