-- A line that is put together in an array is cut where the array ends: what is put after a cut line is cut away too.
-- So the array has as much of the whole line as it holds, whatever the parts are.
use mathlib.Core.List.{List, [], ◌∷◌, ◌++◌, append_assoc}
use mathlib.Core.Path.{◌≡◌, refl, sym, ap, ◌∙◌}
use Prim.Native.Nat.{ℕ, zero, suc, ◌+◌, ◌-◌, ◌≤◌, ◌<◌, min}
use mathlib.Core.Logic.{by_cases}
use native.Mathlib.Decide.{dec_lt}
use native.Mathlib.Omega.{arith}
use lib.ListN.{length, take, length-append, length-take, length-drop}
use lib.Seq.{take_all, take-nil, length-take-le}
use borrow.Rule.Slice.PartMut.{put_mid}
use Rattle.std.proofs.lemmas.Slice.{take-put_mid}
use Rattle.laws.proofs.Lists.{take_past}
use Rattle.job.specs.Filing.{below}
use Rattle.lamp.specs.Runs.{Grown}

-- what is put after a line that was cut at n
take-over : (n : ℕ) (a b : List ℕ) → take n (take n a ++ b) ≡ take n (a ++ b)
take-over zero a b = refl
take-over (suc n) [] b = refl
take-over (suc n) (x ∷ a) b = ap (λ (s : List ℕ). x ∷ s) (take-over n a b)

take-min : (s : List ℕ) (m k : ℕ) → k ≡ min (length s) m → take k s ≡ take m s
take-min s m k e =
    by_cases (dec_lt m (length s)) (λ (h : m < length s). let z : k ≡ m = omega arith in rw z)
    (λ h. let z : length s ≤ m = omega arith in take_all k s (omega arith) ∙ sym (take_all m s z))

-- so many bytes of s as there is room for after the first n of a line l, put there
pub grown : (l s y : List ℕ) (n r k : ℕ) → n ≤ length l → r ≡ min (length s) (length l - n) → k ≡ r → y ≡ take k s → Grown l n s (put_mid n k l y) (n + r)
grown l s y n r k h e z q =
    let front : length (take n l) ≡ n = length-take-le n l h in
    let c : length (take k s) ≡ k = length-take-le k s (omega arith) in
    let d : length y ≡ k = ap length q ∙ c in
    let fit : take k s ≡ take (length l - n) s = take-min s (length l - n) k (z ∙ e) in
    let whole : take (length l) (take n l ++ s) ≡ take n l ++ take (length l - n) s = take_past (length l) (take n l) s (omega arith) ∙ rw front in
    record {
      bytes = take-put_mid n k l y (n + r) (omega arith) h ∙ rw (q, fit) (sym whole);
      size = rw (length-append, length-append, length-take, length-drop, length-drop) (omega arith);
      most = omega arith;
    }

-- ---- a line put together in an array of n bytes: its first r bytes are as much of s as the array holds

record Holds (n : ℕ) (s l : List ℕ) (r : ℕ) : Type 0 where
  bytes : take r l ≡ take n s
  size : length l ≡ n
  most : r ≤ n

holds_more : (n : ℕ) (s p l m : List ℕ) (a r : ℕ) → Holds n s l a → Grown l a p m r → Holds n (s ++ p) m r
holds_more n s p l m a r h g =
    let e : length l ≡ n = h.size in
    record {
      bytes = g.bytes ∙ rw (h.bytes, e, take-over n s p);
      size = g.size ∙ h.size;
      most = omega (arith, g.most, h.size);
    }

holds-none : (n : ℕ) (l : List ℕ) → length l ≡ n → Holds n [] l 0
holds-none n l e = record { bytes = sym (take-nil n); size = e; most = omega arith }

holds-first : (w l m : List ℕ) (r : ℕ) → Grown l 0 w m r → Holds (length l) w m r
holds-first w l m r g = holds_more (length l) [] w l m 0 r (holds-none (length l) l refl) g

-- the four parts of a request's line
holds-line : (n : ℕ) (w c k l : List ℕ) (r : ℕ) → Holds n (((w ++ c) ++ 58 ∷ []) ++ k) l r → Holds n (w ++ below c k) l r
holds-line n w c k l r h = record { bytes = h.bytes ∙ simp append_assoc; size = h.size; most = h.most }

-- .. each put after the ones before it
pub line-is : (w c k l m₁ m₂ m₃ m₄ : List ℕ) (a b d r : ℕ) → Grown l 0 w m₁ a → Grown m₁ a c m₂ b → Grown m₂ b (58 ∷ []) m₃ d → Grown m₃ d k m₄ r
    → take r m₄ ≡ take (length l) (w ++ below c k)
line-is w c k l m₁ m₂ m₃ m₄ a b d r g₁ g₂ g₃ g₄ =
    let n = length l in
    let h₂ = holds_more n w c m₁ m₂ a b (holds-first w l m₁ a g₁) g₂ in
    let h₃ = holds_more n (w ++ c) (58 ∷ []) m₂ m₃ b d h₂ g₃ in
    (holds-line n w c k m₄ r (holds_more n ((w ++ c) ++ 58 ∷ []) k m₃ m₄ d r h₃ g₄)).bytes
