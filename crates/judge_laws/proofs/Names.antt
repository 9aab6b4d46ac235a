-- Names by their codes: a number without the blanks at its end has a code for each character, so that every test on the name is a walk over
-- its codes, the lowest first; and the four short base names are four numbers.
use mathlib.Core.Bool.{Bool, true, false, ◌&&◌, ◌||◌, cond, true≢false}
use mathlib.Core.List.{List, [], ◌∷◌}
use mathlib.Core.Logic.{◌≢◌, ◌⊎◌, inl, inr, by_cases}
use mathlib.Core.Path.{◌≡◌, refl, sym, ap, ◌∙◌}
use Prim.Native.Nat.{ℕ, zero, suc, ◌+◌, ◌-◌, ◌*◌, ◌/◌, ◌%◌, ◌^◌, ◌≤◌, ◌<◌}
use native.Mathlib.Omega.{arith}
use native.Mathlib.Decide.{ℕ_discrete}
use native.Mathlib.Numerals.{add-one}
use native.Mathlib.Nat.{pow-zero, pow-suc, pow-succ', div-one, div-div-eq-div-mul, div-lt_iff_lt-mul, mod-eq_of_lt, zero-lt-suc}
use lib.ListN.{length, get_or, set, replicate}
use lib.Pow.{pow_mono}
use lib.Dec.{eqb, leb}
use borrow.Author.Tests.{eqb-true, eq-eqb, ne_eqb, le-leb, lt-leb}
use Rattle.judge_laws.specs.Codes.{spelled, class_of, Classed, class_bits, area}
use Rattle.paper.specs.Layout.{packed, ahead, unpacking, unpacked, packed_name, six_name, name_of, boxed}
use Rattle.paper.specs.Scan.{all_below}
use Rattle.paper.specs.Name.{same, all, in_name, link_name, pointed, in_base, legal_base, dot_r, dot_w, dot_g, dot_t}
use Rattle.laws.proofs.Entries.{same_true, eq-same, link-short}
use Rattle.laws.proofs.Scans.{all_true}
use Rattle.laws.proofs.Packing.{packed-unpacked, unpacked-packed}
use Rattle.laws.proofs.Tests.{and_left, and_right, and_both, and-no-right, false-by, same_truth, clash}

-- ---- without the lowest code

lowest : (x : ℕ) → x / 64 ^ 0 ≡ x
lowest x = rw pow-zero (div-one x)

-- the codes above it are those of what is left
above : (w x : ℕ) → x / 64 / 64 ^ w ≡ x / 64 ^ suc w
above w x = div-div-eq-div-mul x 64 (64 ^ w) ∙ rw (pow-succ' 64 w)

-- a blank at the end is padding
blank-drops : (w x : ℕ) → x % 64 ≡ 0 → unpacking (suc w) x ≡ unpacking w (x / 64)
unfolding unpacking ahead
blank-drops zero x e = rw (lowest x, e)
blank-drops (suc w) x e =
    ap (ahead (x / 64 ^ suc w % 64)) (blank-drops w x e) ∙ ap (λ (c : ℕ). ahead (c % 64) (unpacking w (x / 64))) (sym (above w x))

pub blank-off : (n x : ℕ) → 0 < n → x % 64 ≡ 0 → unpacking n x ≡ unpacking (n - 1) (x / 64)
blank-off zero x l e = let z : ⊥ = omega arith in absurd z
blank-off (suc w) x l e = let q : suc w - 1 ≡ w = omega arith in rw q (blank-drops w x e)

-- .. and the number loses a place
pub blank-room : (n x : ℕ) → 0 < x → x < 64 ^ n → 0 < n
blank-room zero x a l = let z : ⊥ = omega (arith, rw pow-zero at l) in absurd z
blank-room (suc w) x a l = omega arith

pub blank-less : (n x : ℕ) → 0 < n → x < 64 ^ n → x / 64 < 64 ^ (n - 1)
blank-less zero x a l = let z : ⊥ = omega arith in absurd z
blank-less (suc w) x a l = let q : suc w - 1 ≡ w = omega arith in rw q ((div-lt_iff_lt-mul (zero-lt-suc 63)).1 (rw pow-suc at l))

-- with none at the end every code is a character
spells : (w x : ℕ) → x % 64 ≢ 0 → spelled (suc w) x ≡ unpacking (suc w) x
unfolding unpacking ahead spelled
spells zero x n = rw (lowest x, ne_eqb (x % 64) 0 n)
spells (suc w) x n = ap (ahead (x / 64 ^ suc w % 64)) (spells w x n)

pub spelled_out : (n x : ℕ) → 0 < n → (x % 64 ≡ 0 → ⊥) → spelled n x ≡ unpacking n x
spelled_out zero x l n = let z : ⊥ = omega arith in absurd z
spelled_out (suc w) x l n = spells w x n

-- ---- a test of all characters, the lowest code first

all-lowest : (p : ℕ → Bool) (w x : ℕ) → all p (spelled (suc w) x) ≡ (p (x % 64 + 32) && all p (spelled w (x / 64)))
unfolding spelled all
all-lowest p zero x = rw (lowest x)
all-lowest p (suc w) x =
    ap (λ (b : Bool). p (x / 64 ^ suc w % 64 + 32) && b) (all-lowest p w x)
    ∙ swap (p (x / 64 ^ suc w % 64 + 32)) (p (x % 64 + 32)) (all p (spelled w (x / 64)))
    ∙ ap (λ (c : ℕ). p (x % 64 + 32) && (p (c % 64 + 32) && all p (spelled w (x / 64)))) (sym (above w x))
  where
    swap : (a b c : Bool) → (a && (b && c)) ≡ (b && (a && c))
    swap true b c = refl
    swap false b c = sym (and-no-right b false refl)

-- the first that fails refutes the test, and one that passes leaves it to those above
pub all-stops : (p : ℕ → Bool) (n x : ℕ) → 0 < n → p (x % 64 + 32) ≡ false → all p (spelled n x) ≡ false
all-stops p zero x l e = let z : ⊥ = omega arith in absurd z
all-stops p (suc w) x l e = all-lowest p w x ∙ rw e

pub all-goes : (p : ℕ → Bool) (n x : ℕ) → 0 < n → p (x % 64 + 32) ≡ true → all p (spelled n x) ≡ all p (spelled (n - 1) (x / 64))
all-goes p zero x l e = let z : ⊥ = omega arith in absurd z
all-goes p (suc w) x l e = let q : suc w - 1 ≡ w = omega arith in rw q (all-lowest p w x ∙ rw e)

pub all_none : (p : ℕ → Bool) (x : ℕ) → all p (spelled 0 x) ≡ true
unfolding spelled all
all_none p x = refl

length-spelled : (w x : ℕ) → length (spelled w x) ≡ w
unfolding spelled
length-spelled zero x = refl
length-spelled (suc w) x = ap suc (length-spelled w x)

-- ---- link names

pub named_by : (r : List ℕ) (x : ℕ) → x ≡ packed_name r → unpacked x ≡ name_of boxed r
unfolding six_name
named_by r x e = ap unpacked e

pub class-most : (c : ℕ) → class_of c ≤ 2
class-most c = go (in_name (c + 32)) (eqb c 0)
  where
    go : (x y : Bool) → cond x 1 (cond y 0 2) ≤ 2
    go true y = omega arith
    go false true = omega arith
    go false false = omega arith

class-one : (c : ℕ) → class_of c ≡ 1 → in_name (c + 32) ≡ true
class-one c e = go (in_name (c + 32)) (eqb c 0) e
  where
    go : (x y : Bool) → ◌≡◌ {A = ℕ} (cond x 1 (cond y 0 2)) 1 → x ≡ true
    go true y e = refl
    go false true e = clash e
    go false false e = let z : ⊥ = omega arith in absurd z

class-none : (c : ℕ) → class_of c ≡ 0 → c ≡ 0
class-none c e = eqb-true c 0 (go (in_name (c + 32)) (eqb c 0) e)
  where
    go : (x y : Bool) → ◌≡◌ {A = ℕ} (cond x 1 (cond y 0 2)) 0 → y ≡ true
    go true y e = let z : ⊥ = omega arith in absurd z
    go false true e = refl
    go false false e = let z : ⊥ = omega arith in absurd z

class-in : (c : ℕ) → in_name (c + 32) ≡ true → class_of c ≡ 1
class-in c e = go (in_name (c + 32)) e
  where
    go : (x : Bool) → x ≡ true → ◌≡◌ {A = ℕ} (cond x 1 (cond (eqb c 0) 0 2)) 1
    go x e = rw e

-- a code before the characters after it
ahead_in : (c : ℕ) (s : List ℕ) → (c ≡ 0 → ⊥) → ahead c s ≡ (c + 32) ∷ s
unfolding ahead
ahead_in c [] n = rw (ne_eqb c 0 n)
ahead_in c (b ∷ s) n = refl

ahead_more : (c b : ℕ) (s : List ℕ) → ahead c (b ∷ s) ≡ (c + 32) ∷ b ∷ s
unfolding ahead
ahead_more c b s = refl

ahead_none : (c : ℕ) (s : List ℕ) → c ≡ 0 → length s ≡ 0 → ahead c s ≡ []
unfolding ahead
ahead_none c [] e l = rw e
ahead_none c (b ∷ s) e l = let z : ⊥ = omega arith in absurd z

-- the classes are one less than a power of 2 exactly where there are so many characters, all of them of names
bits-name : (w x n : ℕ) → class_bits w x + 1 ≡ 2 ^ n → (length (unpacking w x) ≡ n) × (all in_name (unpacking w x) ≡ true)
unfolding class_bits unpacking all
bits-name zero x zero e = (refl, refl)
bits-name zero x (suc n) e = let z : ⊥ = omega (arith, rw pow-suc at e) in absurd z
bits-name (suc w) x zero e =
    let c = x / 64 ^ w % 64 in
    let f : class_bits w x * 2 + class_of c + 1 ≡ 1 = e ∙ pow-zero 2 in
    let h = bits-name w x 0 (omega (arith, pow-zero 2)) in
    rw (ahead_none c (unpacking w x) (class-none c (omega arith)) h.0) (refl, refl)
bits-name (suc w) x (suc n) e =
    let c = x / 64 ^ w % 64 in
    let f : class_bits w x * 2 + class_of c + 1 ≡ 2 ^ n * 2 = rw pow-suc at e in
    let o : class_of c ≡ 1 = omega (arith, class-most c) in
    let h = bits-name w x n (omega arith) in
    let i = class-one c o in
    let k : c ≡ 0 → ⊥ = λ q. let z : ◌≡◌ {A = ℕ} 0 1 = rw q at o in omega arith in
    rw (ahead_in c (unpacking w x) k) (ap suc h.0, and_both (in_name (c + 32)) (all in_name (unpacking w x)) i h.1)

name-bits : (w x : ℕ) → all in_name (unpacking w x) ≡ true → class_bits w x + 1 ≡ 2 ^ length (unpacking w x)
unfolding class_bits unpacking all
name-bits zero x e = refl
name-bits (suc w) x e = go (x / 64 ^ w % 64) (class_bits w x) (unpacking w x) e (name-bits w x)
  where
    tail : (c b a : ℕ) (s : List ℕ) → all in_name ((c + 32) ∷ a ∷ s) ≡ true → (all in_name (a ∷ s) ≡ true → b + 1 ≡ 2 ^ length (a ∷ s))
        → b * 2 + class_of c + 1 ≡ 2 ^ suc (length (a ∷ s))
    tail c b a s e h =
        let o = class-in c (and_left (in_name (c + 32)) (all in_name (a ∷ s)) e) in
        let f = h (and_right (in_name (c + 32)) (all in_name (a ∷ s)) e) in
        let p : 2 ^ suc (length (a ∷ s)) ≡ 2 ^ length (a ∷ s) * 2 = rw pow-suc in
        omega arith

    go : (c b : ℕ) (s : List ℕ) → all in_name (ahead c s) ≡ true → (all in_name s ≡ true → b + 1 ≡ 2 ^ length s)
        → b * 2 + class_of c + 1 ≡ 2 ^ length (ahead c s)
    go c b [] e h =
        by_cases (ℕ_discrete c 0)
        (λ (q : c ≡ 0). let o : class_of c ≡ 0 = rw q in rw (ahead_none c [] q refl) (omega (arith, h refl)))
        (λ (q : c ≢ 0). let o = class-in c (and_left (in_name (c + 32)) true (rw (ahead_in c [] q) at e)) in
        rw (ahead_in c [] q) (omega (arith, h refl)))
    go c b (a ∷ s) e h = tail c b a s (rw (ahead_more c a s) at e) h ∙ rw (ahead_more c a s)

-- they are read from the lowest code on, and are no more than twos
pub bits_none : (x : ℕ) → class_bits 0 x ≡ 0
unfolding class_bits
bits_none x = refl

pub bits-more : (x m : ℕ) → class_bits (m + 1) x ≡ class_bits m x * 2 + class_of (x / 64 ^ m % 64)
unfolding class_bits
bits-more x m = rw (add-one m)

pub rest_more : (x m : ℕ) → x / 64 ^ m / 64 ≡ x / 64 ^ (m + 1)
rest_more x m = div-div-eq-div-mul x (64 ^ m) 64 ∙ rw (add-one m, pow-suc)

bits-bound : (x m : ℕ) → class_bits m x + 2 ≤ 2 ^ (m + 1)
unfolding class_bits
bits-bound x zero = omega arith
bits-bound x (suc m) =
    let h = bits-bound x m in
    let c = class-most (x / 64 ^ m % 64) in
    let p : 2 ^ (suc m + 1) ≡ 2 ^ (m + 1) * 2 = rw (add-one (suc m), pow-suc, add-one m) in
    omega arith

pub bits_most : (x m : ℕ) → m ≤ 10 → class_bits m x ≤ 2046
bits_most x m l = let p : 2 ^ (m + 1) ≤ 2 ^ 11 = pow_mono {i = m + 1} {j = 11} (omega arith) in omega (arith, bits-bound x m)

-- the table of classes, code by code
pub classed : Classed (set (set (set (replicate 64 1) 0 0) 26 2) 32 2)
unfolding all_below
classed =
    record {
      at = λ c l. eqb-true _ _ (all_true (λ (k : ℕ). eqb (get_or (set (set (set (replicate 64 1) 0 0) 26 2) 32 2) k 0) (class_of k)) 64 c l refl);
      long = refl;
    }

pub link-bits : (x n : ℕ) → 1 ≤ n → n ≤ 10 → class_bits 10 x + 1 ≡ 2 ^ n → link_name (unpacked x) ≡ true
unfolding link_name
link-bits x n l m e = let h = bits-name 10 x n e in rw (h.0, le-leb 1 n l, le-leb n 10 m) h.1

pub link-other : (x : ℕ) → ((n : ℕ) → 1 ≤ n → n ≤ 10 → class_bits 10 x + 1 ≡ 2 ^ n → ⊥) → link_name (unpacked x) ≡ false
unfolding link_name
link-other x h =
    false-by (link_name (unpacked x))
    (λ e. let s = link-short (unpacked x) e in
    h (length (unpacked x)) s.0 s.1 (name-bits 10 x (and_right (leb 1 (length (unpacked x)) && leb (length (unpacked x)) 10) _ e)))

-- the numbers up to the tenth power of 2, less one
pub ones : (s n : ℕ) → 1 ≤ n → n ≤ 10 → s + 1 ≡ 2 ^ n
    → (s ≡ 1) ⊎ ((s ≡ 3) ⊎ ((s ≡ 7) ⊎ ((s ≡ 15) ⊎ ((s ≡ 31) ⊎ ((s ≡ 63) ⊎ ((s ≡ 127) ⊎ ((s ≡ 255) ⊎ ((s ≡ 511) ⊎ ((s ≡ 1023))))))))))
ones s zero a b e = let z : ⊥ = omega arith in absurd z
ones s (suc zero) a b e = inl (omega arith)
ones s (suc (suc zero)) a b e = inr (inl (omega arith))
ones s (suc (suc (suc zero))) a b e = inr (inr (inl (omega arith)))
ones s (suc (suc (suc (suc zero)))) a b e = inr (inr (inr (inl (omega arith))))
ones s (suc (suc (suc (suc (suc zero))))) a b e = inr (inr (inr (inr (inl (omega arith)))))
ones s (suc (suc (suc (suc (suc (suc zero)))))) a b e = inr (inr (inr (inr (inr (inl (omega arith))))))
ones s (suc (suc (suc (suc (suc (suc (suc zero))))))) a b e = inr (inr (inr (inr (inr (inr (inl (omega arith)))))))
ones s (suc (suc (suc (suc (suc (suc (suc (suc zero)))))))) a b e = inr (inr (inr (inr (inr (inr (inr (inl (omega arith))))))))
ones s (suc (suc (suc (suc (suc (suc (suc (suc (suc zero))))))))) a b e = inr (inr (inr (inr (inr (inr (inr (inr (inl (omega arith)))))))))
ones s (suc (suc (suc (suc (suc (suc (suc (suc (suc (suc zero)))))))))) a b e = inr (inr (inr (inr (inr (inr (inr (inr (inr (omega arith)))))))))
ones s (suc (suc (suc (suc (suc (suc (suc (suc (suc (suc (suc n))))))))))) a b e = let z : ⊥ = omega arith in absurd z

-- ---- base names

-- the same name, by its number
short-number : (x : ℕ) (m : List ℕ) → link_name m ≡ true → x < 2 ^ 60 → same (unpacked x) m ≡ eqb x (packed m)
short-number x m e l =
    same_truth (same (unpacked x) m) (eqb x (packed m))
    (λ q. eq-eqb _ _ (sym (packed-unpacked x l) ∙ ap packed (same_true (unpacked x) m q)))
    (λ q. eq-same _ _ (ap unpacked (eqb-true x (packed m) q) ∙ unpacked-packed m e))

eqb-less : (c : ℕ) → eqb (c + 32) 46 ≡ eqb c 14
eqb-less c =
    same_truth (eqb (c + 32) 46) (eqb c 14) (λ q. eq-eqb c 14 (omega (arith, eqb-true (c + 32) 46 q)))
    (λ q. eq-eqb (c + 32) 46 (omega (arith, eqb-true c 14 q)))

ahead-first : (c : ℕ) (s : List ℕ) → eqb (get_or (ahead c s) 0 0) 46 ≡ eqb c 14
unfolding ahead
ahead-first c (b ∷ s) = eqb-less c
ahead-first c [] = by_cases (ℕ_discrete c 0) (λ (e : c ≡ 0). rw e) (λ (e : c ≢ 0). rw (ne_eqb c 0 e) (eqb-less c))

module _ (x : ℕ) (l : x < 2 ^ 60) where
  -- a leading point is the highest code
  point-first : pointed (unpacked x) ≡ eqb (x / 64 ^ 9) 14
  unfolding pointed unpacking
  point-first =
      let e : x / 64 ^ 9 % 64 ≡ x / 64 ^ 9 = mod-eq_of_lt (omega arith) in
      ap (λ (c : ℕ). eqb (get_or (ahead c (unpacking 9 x)) 0 0) 46) e ∙ ahead-first (x / 64 ^ 9) (unpacking 9 x)

  pub base_area : area x ≡ true → legal_base (unpacked x) ≡ true
  unfolding legal_base area link_name all
  base_area e =
      rw (short-number x dot_r refl l, short-number x dot_w refl l, short-number x dot_g refl l, short-number x dot_t refl l)
      (go (eqb x (packed dot_r)) (eqb x (packed dot_w)) (eqb x (packed dot_g)) (eqb x (packed dot_t)) rest e)
    where
      rest : Bool
      rest = pointed (unpacked x) && (leb 3 (length (unpacked x)) && all in_base (unpacked x))

      go : (a b c d z : Bool) → (a || b || c || d) ≡ true → (a || b || c || d || z) ≡ true
      go true b c d z e = refl
      go false true c d z e = refl
      go false false true d z e = refl
      go false false false true z e = refl
      go false false false false z e = absurd (true≢false (sym e))

  module _ (e : area x ≡ false) where
    others : legal_base (unpacked x) ≡ (pointed (unpacked x) && (leb 3 (length (unpacked x)) && all in_base (unpacked x)))
    unfolding legal_base area link_name all
    others =
        rw (short-number x dot_r refl l, short-number x dot_w refl l, short-number x dot_g refl l, short-number x dot_t refl l)
        (go (eqb x (packed dot_r)) (eqb x (packed dot_w)) (eqb x (packed dot_g)) (eqb x (packed dot_t)) rest e)
      where
        rest : Bool
        rest = pointed (unpacked x) && (leb 3 (length (unpacked x)) && all in_base (unpacked x))

        go : (a b c d z : Bool) → (a || b || c || d) ≡ false → (a || b || c || d || z) ≡ z
        go true b c d z e = absurd (true≢false e)
        go false true c d z e = absurd (true≢false e)
        go false false true d z e = absurd (true≢false e)
        go false false false true z e = absurd (true≢false e)
        go false false false false z e = refl

    pub base-plain : (x / 64 ^ 9 ≡ 14 → ⊥) → legal_base (unpacked x) ≡ false
    base-plain n = rw (others, point-first, ne_eqb (x / 64 ^ 9) 14 n)

    module _ (n y : ℕ) (q : spelled n y ≡ unpacked x) where
      pub base_short : n < 3 → legal_base (unpacked x) ≡ false
      base_short s =
          rw (others, ← q, length-spelled n y, lt-leb 3 n s) (and-no-right (pointed (spelled n y)) false refl)

      pub base-long : x / 64 ^ 9 ≡ 14 → 3 ≤ n → legal_base (unpacked x) ≡ all in_base (spelled n y)
      base-long f s = rw (others, point-first, eq-eqb (x / 64 ^ 9) 14 f, ← q, length-spelled n y, le-leb 3 n s)
