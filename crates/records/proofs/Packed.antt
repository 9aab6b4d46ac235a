-- Six-bit names as the code goes over them: packing from the highest place down, each code shifted in below those before it, and unpacking
-- from the lowest place up, where the codes of 0 before the first other one are padding. Only 60 bits of a number show in its name.
use mathlib.Core.List.{List, [], ◌∷◌}
use mathlib.Core.Logic.{◌≢◌, by_cases}
use mathlib.Core.Path.{◌≡◌, refl, sym, ap, ◌∙◌}
use Prim.Native.Nat.{ℕ, zero, suc, ◌+◌, ◌*◌, ◌-◌, ◌/◌, ◌%◌, ◌^◌, ◌≤◌, ◌<◌}
use native.Mathlib.Omega.{arith}
use native.Mathlib.Nat.{pow-zero, pow-suc, pow-succ', zero-lt-suc, mul_assoc, zero-mul, div-one, div-div-eq-div-mul, div-add-mod', mod-lt, add-mul, lt_of_lt_of_le, pow-le-pow_right, one-le-pow, mul-add-div_right, mul-add-mod_self_right}
use native.Mathlib.Numerals.{add-one}
use native.Mathlib.Decide.{ℕ_discrete, dec_lt}
use lib.ListN.{length, get_or, take, drop, set, length-set, drop_of_length-le, get_or-eq_default}
use lib.Seq.{drop-cons, get_or-set_same, drop-set-lt}
use lib.Dec.{eqb}
use borrow.Author.Tests.{eqb-true, eq-eqb, ne_eqb}
use Rattle.paper.specs.Layout.{code_of, packing, packed, ahead, unpacking, unpacked}
use Rattle.paper.specs.Name.{same}
use Rattle.paper.specs.Number.{number_at}
use Rattle.laws.proofs.Entries.{same_true, eq-same}
use Rattle.laws.proofs.Packing.{packed-unpacked}
use Rattle.laws.proofs.Tests.{same_truth}
use Rattle.records.specs.Characters.{characters}

-- ---- packing

packing-nothing : (w : ℕ) → packing w [] ≡ 0
unfolding packing
packing-nothing zero = refl
packing-nothing (suc w) = refl

-- the codes from place j on: the one there, and those after it
packing-next : (w j : ℕ) (name : List ℕ) → packing (suc w) (drop j name) ≡ code_of (get_or name j 0) * 64 ^ w + packing w (drop (j + 1) name)
unfolding packing
packing-next w j name =
    by_cases (dec_lt j (length name))
    (λ (l : j < length name). rw (add-one, drop-cons name j 0 l))
    (λ (l : ¬ (j < length name)).
    rw (
      drop_of_length-le name {i = j} (omega arith),
      drop_of_length-le name {i = j + 1} (omega arith),
      get_or-eq_default name 0 {n = j} (omega arith),
      packing-nothing w,
      zero-mul,
    ))

-- what is packed, before the next code and after it
pub pack-turn : (name : List ℕ) (x c p j : ℕ) → j < 10 → c ≡ code_of (get_or name j 0)
    → x * 64 ^ (10 - j) + packing (10 - j) (drop j name) ≡ p
    → (x * 64 + c) * 64 ^ (10 - (j + 1)) + packing (10 - (j + 1)) (drop (j + 1) name) ≡ p
pack-turn name x c p j l e q = go (10 - (j + 1)) (omega arith)
  where
    go : (w : ℕ) → 10 - j ≡ suc w → (x * 64 + c) * 64 ^ w + packing w (drop (j + 1) name) ≡ p
    go w s =
        let h : x * 64 ^ suc w + (c * 64 ^ w + packing w (drop (j + 1) name)) ≡ p = rw (e, ← (packing-next w j name), ← s) q in
        let k : x * 64 ^ suc w ≡ x * 64 * 64 ^ w = rw (pow-succ') (sym (mul_assoc x 64 (64 ^ w))) in
        let m : (x * 64 + c) * 64 ^ w ≡ x * 64 * 64 ^ w + c * 64 ^ w = add-mul (x * 64) c (64 ^ w) in
        omega arith

-- a code more is six bits more
pub pack-fits : (x c j : ℕ) → x < 64 ^ j → c < 64 → x * 64 + c < 64 ^ (j + 1)
pack-fits x c j l m = rw (add-one, pow-suc) (omega arith)

pub pack-room : (x j : ℕ) → j < 10 → x < 64 ^ j → x < 2 ^ 54
pack-room x j l h = lt_of_lt_of_le h (pow-le-pow_right {n = 64} (zero-lt-suc 63) {i = j} {j = 9} (omega arith))

pub pack-end : (name : List ℕ) (x p j : ℕ) → j ≡ 10 → x * 64 ^ (10 - j) + packing (10 - j) (drop j name) ≡ p → x ≡ p
unfolding packing
pack-end name x p j e q = omega (arith, rw e at q)

-- what a name has past its places is not packed
packing-take : (w : ℕ) (name : List ℕ) → packing w (take w name) ≡ packing w name
unfolding packing
packing-take zero name = refl
packing-take (suc w) [] = refl
packing-take (suc w) (b ∷ name) = rw (packing-take w name)

pub packed-take : (name : List ℕ) → packed (take 10 name) ≡ packed name
packed-take name = packing-take 10 name

-- ---- unpacking

-- a last code of 0 is padding
pub last_none : (w x : ℕ) → x % 64 ≡ 0 → unpacking (suc w) x ≡ unpacking w (x / 64)
unfolding unpacking ahead
last_none zero x e = rw (pow-zero, div-one, e)
last_none (suc w) x e =
    let s : x / 64 ^ suc w ≡ x / 64 / 64 ^ w = rw pow-succ' (sym (div-div-eq-div-mul x 64 (64 ^ w))) in
    rw (last_none w x e, s)

-- another one shows all
last_some : (w x : ℕ) → (x % 64 ≡ 0 → ⊥) → unpacking (suc w) x ≡ characters (suc w) x
unfolding unpacking ahead characters
last_some zero x e = rw (pow-zero, div-one, ne_eqb (x % 64) 0 e)
last_some (suc w) x e = rw (last_some w x e)

pub length-characters : (w x : ℕ) → length (characters w x) ≡ w
unfolding characters
length-characters zero x = refl
length-characters (suc w) x = ap suc (length-characters w x)

pub last-shown : (w x : ℕ) → (x % 64 ≡ 0 → ⊥) → length (unpacking (suc w) x) ≡ suc w
last-shown w x e = rw (last_some w x e) (length-characters (suc w) x)

-- the name is the first of the characters
unpacking-first : (w x : ℕ) → take (length (unpacking w x)) (characters w x) ≡ unpacking w x
unfolding unpacking characters ahead
unpacking-first zero x = refl
unpacking-first (suc w) x = go (x / 64 ^ w % 64) (unpacking w x) (unpacking-first w x)
  where
    go : (c : ℕ) (s : List ℕ) → take (length s) (characters w x) ≡ s → take (length (ahead c s)) ((c + 32) ∷ characters w x) ≡ ahead c s
    go c (b ∷ s) e = rw e
    go c [] e = by_cases (ℕ_discrete c 0) (λ (z : c ≡ 0). rw (eq-eqb c 0 z)) (λ (z : c ≢ 0). rw (ne_eqb c 0 z))

pub unpacked-first : (x : ℕ) → take (length (unpacked x)) (characters 10 x) ≡ unpacked x
unpacked-first x = unpacking-first 10 x

-- the name's length, place by place from the lowest
module _ (rest n : ℕ) (p : List ℕ) (l : 0 < n) (h : unpacking n rest ≡ p) where
  pub length-turn : rest % 64 ≡ 0 → unpacking (n - 1) (rest / 64) ≡ p
  length-turn e = go (n - 1) (omega arith)
    where
      go : (w : ℕ) → n ≡ suc w → unpacking w (rest / 64) ≡ p
      go w s = sym (last_none w rest e) ∙ ap (λ (k : ℕ). unpacking k rest) (sym s) ∙ h

  pub length-here : (rest % 64 ≡ 0 → ⊥) → n ≡ length p
  length-here e = go (n - 1) (omega arith)
    where
      go : (w : ℕ) → n ≡ suc w → n ≡ length p
      go w s = s ∙ sym (last-shown w rest e) ∙ ap (λ (k : ℕ). length (unpacking k rest)) (sym s) ∙ ap length h

pub length_none : (rest n : ℕ) (p : List ℕ) → n ≡ 0 → unpacking n rest ≡ p → 0 ≡ length p
unfolding unpacking
length_none rest n p e h = ap length (rw e at h)

-- one character more, from the lowest place up
module _ (r : List ℕ) (x rest k : ℕ) (l : 0 < k) (m : k ≤ 10) (e : rest ≡ x / 64 ^ (10 - k)) where
  pub characters-turn : (v : ℕ) → length r ≡ 10 → v ≡ rest % 64 → drop k r ≡ characters (10 - k) x
      → drop (k - 1) (set r (k - 1) (v + 32)) ≡ characters (10 - (k - 1)) x
  unfolding characters
  characters-turn v n q h = go (k - 1) (10 - k) (omega arith) (omega arith) refl
    where
      go : (i w : ℕ) → k ≡ suc i → 10 - i ≡ suc w → w ≡ 10 - k → drop i (set r i (v + 32)) ≡ characters (10 - i) x
      go i w s t u =
          let f : i < length r = omega arith in
          let g : i < length (set r i (v + 32)) = rw length-set f in
          let d : drop (suc i) (set r i (v + 32)) ≡ characters w x = drop-set-lt (suc i) r i (v + 32) (omega arith) ∙ rw (← s, u) h in
          drop-cons (set r i (v + 32)) i 0 g ∙ rw (get_or-set_same r i (v + 32) 0 f, d, t, q, e, u)

  pub rest-turn : rest / 64 ≡ x / 64 ^ (10 - (k - 1))
  rest-turn =
      let s : 10 - (k - 1) ≡ suc (10 - k) = omega arith in
      rw (e, s, pow-suc) (div-div-eq-div-mul x (64 ^ (10 - k)) 64)

-- ---- sixty bits

-- what stands above w places does not show in them
above : (w c y : ℕ) → unpacking w (c * 64 ^ w + y) ≡ unpacking w y
unfolding unpacking
above zero c y = refl
above (suc w) c y =
    let p : 0 < 64 ^ w = one-le-pow w 64 (zero-lt-suc 63) in
    let e : c * 64 ^ suc w ≡ c * 64 * 64 ^ w = rw pow-succ' (sym (mul_assoc c 64 (64 ^ w))) in
    rw (e, mul-add-div_right p (c * 64) y, mul-add-mod_self_right c 64 (y / 64 ^ w), above w (c * 64) y)

pub unpacked-low : (x : ℕ) → unpacked (x % 2 ^ 60) ≡ unpacked x
unpacked-low x = sym (above 10 (x / 64 ^ 10) (x % 64 ^ 10)) ∙ ap unpacked (div-add-mod' x (64 ^ 10))

pub same_low : (x y : ℕ) → same (unpacked x) (unpacked y) ≡ eqb (x % 2 ^ 60) (y % 2 ^ 60)
same_low x y =
    same_truth (same (unpacked x) (unpacked y)) (eqb (x % 2 ^ 60) (y % 2 ^ 60))
    (λ q. eq-eqb _ _ (sym (back x) ∙ ap packed (same_true (unpacked x) (unpacked y) q) ∙ back y))
    (λ q. eq-same _ _ (sym (unpacked-low x) ∙ ap unpacked (eqb-true (x % 2 ^ 60) (y % 2 ^ 60) q) ∙ unpacked-low y))
  where
    back : (z : ℕ) → packed (unpacked z) ≡ z % 2 ^ 60
    back z = rw (← (unpacked-low z)) (packed-unpacked (z % 2 ^ 60) (mod-lt z (zero-lt-suc 1152921504606846975)))

-- ---- eight bytes

pub number-halves : (s : List ℕ) (j : ℕ) → number_at 8 s j ≡ number_at 4 s j + number_at 4 s (j + 4) * 4294967296
unfolding number_at
number-halves s j =
    let a : j + 4 ≡ suc (suc (suc (suc j))) = omega arith in
    rw a (omega arith)
