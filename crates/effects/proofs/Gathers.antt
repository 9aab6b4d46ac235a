-- The lists from one number up to another, joined, are the first and then the rest; so are the bytes copied of them. A stretch of the
-- whole join lies within the lists that it meets, where each but the last is 24 long, as what a file's text records hold is.
use mathlib.Core.List.{List, [], ◌∷◌, ◌++◌, append-nil, append_assoc}
use mathlib.Core.Logic.{by_cases}
use mathlib.Core.Path.{◌≡◌, refl, sym, ap, ◌∙◌}
use Prim.Native.Nat.{ℕ, zero, suc, ◌+◌, ◌*◌, ◌-◌, ◌/◌, ◌%◌, ◌≤◌, ◌<◌}
use native.Mathlib.Omega.{arith}
use native.Mathlib.Decide.{dec_lt}
use native.Mathlib.Nat.{add-zero, add-suc}
use lib.ListN.{length, take, drop, length-append, length-take, length-drop}
use lib.Seq.{sets, take-nil, drop-nil, take-append-le, drop-append-le, drop-append-add}
use Rattle.paper.specs.Scan.{join_below}
use Rattle.paper.specs.Block.{blocks}
use Rattle.laws.proofs.Lists.{join-cong, sets-append}
use Rattle.effects.specs.Listed.{between}

pub join-split : {A : Type 0} (f : ℕ → List A) (p m : ℕ) → join_below f (p + m) ≡ join_below f p ++ join_below (λ i. f (p + i)) m
unfolding join_below
join-split f p zero = rw add-zero (sym (append-nil (join_below f p)))
join-split f p (suc m) = rw (add-suc, join-split f p m) (append_assoc (join_below f p) (join_below (λ i. f (p + i)) m) (f (p + m)))

-- ---- a stretch of two lists

drop-both : (k : ℕ) (x y : List ℕ) → drop k (x ++ y) ≡ drop k x ++ drop (k - length x) y
drop-both zero x y = let z : 0 ≡ 0 - length x = omega arith in ap (λ (j : ℕ). x ++ drop j y) z
drop-both (suc k) [] y = let z : suc k ≡ suc k - 0 = omega arith in ap (λ (j : ℕ). drop j y) z
drop-both (suc k) (a ∷ x) y =
    let z : k - length x ≡ suc k - suc (length x) = omega arith in drop-both k x y ∙ ap (λ (j : ℕ). drop k x ++ drop j y) z

take-both : (k : ℕ) (x y : List ℕ) → take k (x ++ y) ≡ take k x ++ take (k - length (take k x)) y
take-both zero x y = let z : 0 ≡ 0 - 0 = omega arith in ap (λ (j : ℕ). take j y) z
take-both (suc k) [] y = let z : suc k ≡ suc k - 0 = omega arith in ap (λ (j : ℕ). take j y) z
take-both (suc k) (a ∷ x) y =
    let z : k - length (take k x) ≡ suc k - suc (length (take k x)) = omega arith in
    ap (λ (s : List ℕ). a ∷ s) (take-both k x y ∙ ap (λ (j : ℕ). take k x ++ take j y) z)

stretch : (x y l : List ℕ) (at left skip : ℕ) → sets l at (take left (drop skip (x ++ y)))
    ≡ sets (sets l at (take left (drop skip x))) (at + length (take left (drop skip x)))
    (take (left - length (take left (drop skip x))) (drop (skip - length x) y))
stretch x y l at left skip =
    let b : List ℕ = drop (skip - length x) y in
    ap (λ (s : List ℕ). sets l at (take left s)) (drop-both skip x y)
    ∙ ap (sets l at) (take-both left (drop skip x) b)
    ∙ sets-append (take left (drop skip x)) (take (left - length (take left (drop skip x))) b) l at

-- ---- list by list

between_first : (f : ℕ → List ℕ) (q last : ℕ) → q < last → between f q last ≡ f q ++ between f (q + 1) last
between_first f q last h =
    let m : ℕ = last - (q + 1) in
    let e : last - q ≡ 1 + m = omega arith in
    let z : q + 0 ≡ q = omega arith in
    ap (join_below (λ i. f (q + i))) e
    ∙ join-split (λ i. f (q + i)) 1 m
    ∙ ap (λ (s : List ℕ). s ++ join_below (λ i. f (q + (1 + i))) m) (one (λ i. f (q + i)) ∙ ap f z)
    ∙ ap (λ (s : List ℕ). f q ++ s) (join-cong (λ i. f (q + (1 + i))) (λ i. f (q + 1 + i)) m (λ i l. next i))
  where
    one : (g : ℕ → List ℕ) → join_below g 1 ≡ g 0
    one g = unfold join_below in refl

    next : (i : ℕ) → f (q + (1 + i)) ≡ f (q + 1 + i)
    next i = let z : q + (1 + i) ≡ q + 1 + i = omega arith in ap f z

between_none : (f : ℕ → List ℕ) (q last : ℕ) → last ≤ q → between f q last ≡ []
unfolding join_below
between_none f q last h = let z : last - q ≡ 0 = omega arith in rw z

-- nothing copied yet
pub part_none : (l s : List ℕ) (n : ℕ) → sets l (n - n) s ≡ sets l 0 s
part_none l s n = let z : n - n ≡ 0 = omega arith in ap (λ (k : ℕ). sets l k s) z

pub part-most : (s x : List ℕ) (left : ℕ) → s ≡ take left x → length s ≤ left
part-most s x left e = rw e (omega (arith, length-take left x))

-- one more list copied: x is list q, s the bytes of it that are to be copied, left the bytes of n that are still to be
pub part-more : (f : ℕ → List ℕ) (l v s x : List ℕ) (n left skip q last : ℕ) → q < last → left ≤ n → x ≡ f q → s ≡ take left (drop skip x)
    → v ≡ sets l (n - left) s
    → sets v (n - (left - length s)) (take (left - length s) (drop (skip - length x) (between f (q + 1) last)))
    ≡ sets l (n - left) (take left (drop skip (between f q last)))
part-more f l v s x n left skip q last h o a b c =
    let m : length s ≤ left = part-most s (drop skip x) left b in
    let d : n - (left - length s) ≡ n - left + length s = omega arith in
    rw (d, c, b, a)
    (sym
    (ap (λ (z : List ℕ). sets l (n - left) (take left (drop skip z))) (between_first f q last h)
    ∙ stretch (f q) (between f (q + 1) last) l (n - left) left skip))

pub part-done : (f : ℕ → List ℕ) (l : List ℕ) (at left skip q last : ℕ) → last ≤ q
    → sets l at (take left (drop skip (between f q last))) ≡ l
part-done f l at left skip q last h = rw (between_none f q last h, drop-nil, take-nil)

-- ---- a stretch of the whole

module _ (f : ℕ → List ℕ) (n : ℕ) (before : (p : ℕ) → p < blocks n → length (join_below f p) ≡ p * 24)
    (whole : length (join_below f (blocks n)) ≡ n) where
  -- the first p lists have k bytes, where there are k and p lists can have them
  least : (p k : ℕ) → p ≤ blocks n → k ≤ n → k ≤ p * 24 → k ≤ length (join_below f p)
  least p k l h m =
      by_cases (dec_lt p (blocks n)) (λ (o : p < blocks n). omega (arith, before p o)) (λ (o : ¬ (p < blocks n)). all p (omega arith))
    where
      all : (p : ℕ) → p ≡ blocks n → k ≤ length (join_below f p)
      all p e = rw e (omega (arith, whole))

  front : (a : ℕ) → a ≤ n → length (join_below f (a / 24)) ≡ a / 24 * 24
  front a h =
      by_cases (dec_lt (a / 24) (blocks n)) (λ (o : a / 24 < blocks n). before (a / 24) o)
      (λ (o : ¬ (a / 24 < blocks n)). all (a / 24) (omega arith) (omega arith))
    where
      all : (p : ℕ) → p ≡ blocks n → p * 24 ≡ n → length (join_below f p) ≡ p * 24
      all p e m = ap (λ (j : ℕ). length (join_below f j)) e ∙ whole ∙ sym m

  pub part-between : (a k : ℕ) → a + k ≤ n
      → take k (drop (a % 24) (between f (a / 24) (blocks (a + k)))) ≡ take k (drop a (join_below f (blocks n)))
  part-between a k h =
      go (a / 24) (blocks (a + k)) (front a (omega arith)) (least (blocks (a + k)) (a + k) (omega arith) h (omega arith))
      (omega arith) (omega arith) (omega arith)
    where
      go : (p q : ℕ) → length (join_below f p) ≡ p * 24 → a + k ≤ length (join_below f q) → a ≡ p * 24 + a % 24 → p ≤ q → q ≤ blocks n
          → take k (drop (a % 24) (between f p q)) ≡ take k (drop a (join_below f (blocks n)))
      go p q lp lq e pq qb =
          let g : ℕ → List ℕ = λ i. f (p + i) in
          let s : List ℕ = join_below (λ i. g (q - p + i)) (blocks n - q) in
          let c : q ≡ p + (q - p) = omega arith in
          let x : join_below f q ≡ join_below f p ++ between f p q = ap (join_below f) c ∙ join-split f p (q - p) in
          let lx : length (join_below f q) ≡ length (join_below f p) + length (between f p q) =
          ap length x ∙ length-append (join_below f p) (between f p q) in
          let b : blocks n ≡ p + (q - p + (blocks n - q)) = omega arith in
          let y : join_below f (blocks n) ≡ join_below f p ++ (between f p q ++ s) =
          ap (join_below f) b
          ∙ join-split f p (q - p + (blocks n - q))
          ∙ ap (λ (z : List ℕ). join_below f p ++ z) (join-split g (q - p) (blocks n - q)) in
          let d : a ≡ length (join_below f p) + a % 24 = omega arith in
          let l : a % 24 ≤ length (between f p q) = omega (arith, lx) in
          let m : k ≤ length (drop (a % 24) (between f p q)) = omega (arith, lx, length-drop (a % 24) (between f p q)) in
          sym
          (ap (λ (z : List ℕ). take k (drop a z)) y
          ∙ ap (λ (z : ℕ). take k (drop z (join_below f p ++ (between f p q ++ s)))) d
          ∙ ap (take k) (drop-append-add (join_below f p) (between f p q ++ s) (a % 24) ∙ drop-append-le (a % 24) (between f p q) s l)
          ∙ take-append-le k (drop (a % 24) (between f p q)) s m)
