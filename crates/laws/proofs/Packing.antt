-- Six-bit names, once over the number of places: a number below 64 ^ (w + 1) is its highest code times 64 ^ w and a number below 64 ^ w,
-- whose codes are those after the first. So packing and unpacking are inverse, and names go before each other as their numbers do.
use mathlib.Core.Bool.{true, false, ◌&&◌, ◌||◌}
use mathlib.Core.List.{List, [], ◌∷◌, ◌++◌}
use mathlib.Core.Logic.{◌≢◌, by_cases}
use mathlib.Core.Path.{◌≡◌, refl, sym, ap, ◌∙◌}
use Prim.Native.Nat.{ℕ, zero, suc, ◌+◌, ◌*◌, ◌-◌, ◌/◌, ◌%◌, ◌^◌, ◌≤◌, ◌<◌}
use native.Mathlib.Omega.{arith}
use native.Mathlib.Nat.{pow-zero, pow-suc, one-le-pow, zero-lt-suc, mul_assoc, mul_comm, zero-mul, zero-div, mul-add-div_right, div-eq_of_lt, add-zero, mod-lt, mod-eq_of_lt, div-add-mod', div-lt_iff_lt-mul, mul-le-mul_right, mul-add-mod_self_right, suc-mul}
use native.Mathlib.Decide.{ℕ_discrete, dec_lt}
use lib.ListN.{length, get_or, take, drop}
use lib.Seq.{drop-cons}
use lib.Dec.{eqb, leb, ltb}
use borrow.Author.Tests.{eqb-true, leb-true, eq-eqb, ne_eqb, lt-ltb, le-ltb}
use Rattle.paper.specs.Number.{number_at, bytes_of}
use Rattle.paper.specs.Layout.{code_of, packing, packed, ahead, unpacking, unpacked}
use Rattle.paper.specs.Name.{same, all, in_name, link_name, before}
use Rattle.laws.proofs.Tests.{and_left, and_right, and-no-right, same_truth}
use Rattle.laws.proofs.Numbers.{number-bytes}
use Rattle.laws.proofs.Entries.{same_true, eq-same, link-short}

-- ---- one code and the number below it

places-pos : (w : ℕ) → 0 < 64 ^ w
places-pos w = one-le-pow w 64 (zero-lt-suc 63)

-- a code and a number below 64 ^ w fit w + 1 places
fits : (w c y : ℕ) → c < 64 → y < 64 ^ w → c * 64 ^ w + y < 64 ^ suc w
fits w c y l m =
    let k : suc c * 64 ^ w ≤ 64 * 64 ^ w = mul-le-mul_right (64 ^ w) l in
    rw (pow-suc, mul_comm (64 ^ w) 64) (omega (arith, suc-mul c (64 ^ w)))

-- the highest code of such a number
highest : (w c y : ℕ) → c < 64 → y < 64 ^ w → (c * 64 ^ w + y) / 64 ^ w % 64 ≡ c
highest w c y l m = rw (mul-add-div_right (places-pos w) c y, div-eq_of_lt m, add-zero) (mod-eq_of_lt l)

-- what stands above w places does not show in them
below-places : (w c y : ℕ) → unpacking w (c * 64 ^ w + y) ≡ unpacking w y
unfolding unpacking
below-places zero c y = refl
below-places (suc w) c y =
    let e : c * 64 ^ suc w ≡ c * 64 * 64 ^ w = rw (pow-suc, mul_comm (64 ^ w) 64) (sym (mul_assoc c 64 (64 ^ w))) in
    rw (e, mul-add-div_right (places-pos w) (c * 64) y, mul-add-mod_self_right c 64 (y / 64 ^ w), below-places w (c * 64) y)

-- so that a number's codes are its highest and those of the rest
unpacking-split : (w c y : ℕ) → c < 64 → y < 64 ^ w → unpacking (suc w) (c * 64 ^ w + y) ≡ ahead c (unpacking w y)
unfolding unpacking
unpacking-split w c y l m = rw (highest w c y l m, below-places w c y)

-- ---- packing and back

packing-none : (w : ℕ) → packing w [] ≡ 0
unfolding packing
packing-none zero = refl
packing-none (suc w) = refl

packing-less : (w : ℕ) (name : List ℕ) → packing w name < 64 ^ w
unfolding packing
packing-less zero name = rw pow-zero (omega arith)
packing-less (suc w) [] = places-pos (suc w)
packing-less (suc w) (b ∷ name) = fits w (code_of b) (packing w name) (mod-lt (b - 32) (zero-lt-suc 63)) (packing-less w name)

unpacking-zero : (w : ℕ) → unpacking w 0 ≡ []
unfolding unpacking ahead
unpacking-zero zero = refl
unpacking-zero (suc w) = rw (zero-div (64 ^ w), unpacking-zero w)

ahead-byte : (b : ℕ) (name : List ℕ) → 33 ≤ b → ahead (b - 32) name ≡ b ∷ name
unfolding ahead
ahead-byte b [] l = rw (ne_eqb (b - 32) 0 (omega arith)) (ap (λ (x : ℕ). x ∷ []) (omega arith))
ahead-byte b (a ∷ name) l = ap (λ (x : ℕ). x ∷ a ∷ name) (omega arith)

unpacking-packing : (w : ℕ) (name : List ℕ) → length name ≤ w → all in_name name ≡ true → unpacking w (packing w name) ≡ name
unfolding packing all
unpacking-packing zero [] l e = unpacking-zero 0
unpacking-packing zero (b ∷ name) l e = let z : ⊥ = omega arith in absurd z
unpacking-packing (suc w) [] l e = unpacking-zero (suc w)
unpacking-packing (suc w) (b ∷ name) l e =
    let f = and_left (in_name b) (all in_name name) e in
    let lo = leb-true 33 b (and_left (leb 33 b) _ (and_left _ _ (and_left _ _ f))) in
    let hi = leb-true b 95 (and_right (leb 33 b) _ (and_left _ _ (and_left _ _ f))) in
    let c : code_of b ≡ b - 32 = mod-eq_of_lt (omega arith) in
    unpacking-split w (code_of b) (packing w name) (mod-lt (b - 32) (zero-lt-suc 63)) (packing-less w name)
    ∙ rw (c, unpacking-packing w name (omega arith) (and_right (in_name b) _ e)) (ahead-byte b name lo)

-- ---- unpacking and back

code-back : (c : ℕ) → c < 64 → code_of (c + 32) ≡ c
code-back c l = let e : c + 32 - 32 ≡ c = omega arith in rw e (mod-eq_of_lt l)

packing-ahead : (w c : ℕ) (name : List ℕ) → c < 64 → packing (suc w) (ahead c name) ≡ c * 64 ^ w + packing w name
unfolding packing ahead
packing-ahead w c (b ∷ name) l = rw (code-back c l)
packing-ahead w c [] l =
    by_cases (ℕ_discrete c 0)
    (λ (e : c ≡ 0). rw (eq-eqb c 0 e, packing-none w, e, zero-mul))
    (λ (e : c ≢ 0). rw (ne_eqb c 0 e, code-back c l))

module _ (w x : ℕ) (l : x < 64 ^ suc w) where
  abbrev high : ℕ
  high = x / 64 ^ w

  abbrev rest : ℕ
  rest = x % 64 ^ w

  high_small : high < 64
  high_small = (div-lt_iff_lt-mul (places-pos w)).1 (rw (pow-suc, mul_comm (64 ^ w) 64) at l)

  rest-less : rest < 64 ^ w
  rest-less = mod-lt x (places-pos w)

  taken-apart : x ≡ high * 64 ^ w + rest
  taken-apart = sym (div-add-mod' x (64 ^ w))

  unpacking-apart : unpacking (suc w) x ≡ ahead high (unpacking w rest)
  unpacking-apart = ap (unpacking (suc w)) taken-apart ∙ unpacking-split w high rest high_small rest-less

packing-unpacking : (w x : ℕ) → x < 64 ^ w → packing w (unpacking w x) ≡ x
packing-unpacking zero x l = unfold packing in omega (arith, rw pow-zero at l)
packing-unpacking (suc w) x l =
    rw (unpacking-apart w x l, packing-ahead w (high w x l) (unpacking w (rest w x l)) (high_small w x l), packing-unpacking w (rest w x l) (rest-less w x l))
    (sym (taken-apart w x l))

-- ---- the order

ltb-shift : (c d : ℕ) → ltb (c + 32) (d + 32) ≡ ltb c d
ltb-shift c d =
    by_cases (dec_lt c d)
    (λ (l : c < d). rw (lt-ltb c d l, lt-ltb (c + 32) (d + 32) (omega arith)))
    (λ (l : ¬ (c < d)). rw (le-ltb c d (omega arith), le-ltb (c + 32) (d + 32) (omega arith)))

eqb-shift : (c d : ℕ) → eqb (c + 32) (d + 32) ≡ eqb c d
eqb-shift c d =
    by_cases (ℕ_discrete c d)
    (λ (e : c ≡ d). rw (eq-eqb c d e, eq-eqb (c + 32) (d + 32) (omega arith)))
    (λ (e : c ≢ d). rw (ne_eqb c d e, ne_eqb (c + 32) (d + 32) (omega arith)))

before-shift : (c d : ℕ) (s t : List ℕ) → before ((c + 32) ∷ s) ((d + 32) ∷ t) ≡ (ltb c d || eqb c d && before s t)
unfolding before
before-shift c d s t = rw (ltb-shift c d, eqb-shift c d)

-- where a code stands, or where it is padding
data Shown (c : ℕ) (s : List ℕ) : Type 0 where
  padding : c ≡ 0 → s ≡ [] → Shown c s
  shown : ahead c s ≡ (c + 32) ∷ s → 0 < c + length s → Shown c s

shows : (c : ℕ) (s : List ℕ) → Shown c s
unfolding ahead
shows c [] = by_cases (ℕ_discrete c 0) (λ (e : c ≡ 0). padding e refl) (λ (e : c ≢ 0). shown (rw (ne_eqb c 0 e)) (omega arith))
shows c (b ∷ s) = shown refl (omega arith)

-- a name of no characters is before any but itself
first-before : (d : ℕ) (t : List ℕ) → 0 < d + length t → (ltb 0 d || eqb 0 d && before [] t) ≡ true
unfolding before
first-before d [] l = rw (lt-ltb 0 d (omega arith))
first-before d (b ∷ t) l =
    by_cases (ℕ_discrete d 0)
    (λ (e : d ≡ 0). rw e)
    (λ (e : d ≢ 0). rw (lt-ltb 0 d (omega arith)))

never-before : (c : ℕ) (s : List ℕ) → 0 < c + length s → (ltb c 0 || eqb c 0 && before s []) ≡ false
unfolding before
never-before c [] l = rw (le-ltb c 0 (omega arith), ne_eqb c 0 (omega arith))
never-before c (b ∷ s) l = rw (le-ltb c 0 (omega arith)) (and-no-right (eqb c 0) false refl)

ahead_before : (c d : ℕ) (s t : List ℕ) → before (ahead c s) (ahead d t) ≡ (ltb c d || eqb c d && before s t)
unfolding before
ahead_before c d s t = go (shows c s) (shows d t)
  where
    none : (c : ℕ) (s : List ℕ) → c ≡ 0 → s ≡ [] → ahead c s ≡ []
    none c s e f = unfold ahead in rw (e, f)

    go : Shown c s → Shown d t → before (ahead c s) (ahead d t) ≡ (ltb c d || eqb c d && before s t)
    go (padding e f) (padding g h) = rw (none c s e f, none d t g h, e, f, g, h)
    go (padding e f) (shown g h) = rw (none c s e f, g, e, f) (sym (first-before d t h))
    go (shown e f) (padding g h) = rw (e, none d t g h, g, h) (sym (never-before c s f))
    go (shown e f) (shown g h) = rw (e, g) (before-shift c d s t)

-- numbers go by their highest code, and then by the rest
ltb-split : (n c d x y : ℕ) → x < n → y < n → ltb (c * n + x) (d * n + y) ≡ (ltb c d || eqb c d && ltb x y)
ltb-split n c d x y l m =
    by_cases (dec_lt c d)
    (λ (k : c < d). rw (lt-ltb c d k) (lt-ltb (c * n + x) (d * n + y) (omega (arith, higher c d k))))
    (λ (k : ¬ (c < d)).
    by_cases (ℕ_discrete c d)
    (λ (e : c ≡ d). rw (le-ltb c d (omega arith), eq-eqb c d e, e) (lower (d * n)))
    (λ (e : c ≢ d). rw (le-ltb c d (omega arith), ne_eqb c d e) (le-ltb (c * n + x) (d * n + y) (omega (arith, higher d c (omega arith))))))
  where
    higher : (a b : ℕ) → a < b → a * n + n ≤ b * n
    higher a b k = omega (arith, mul-le-mul_right n k, suc-mul a n)

    lower : (a : ℕ) → ltb (a + x) (a + y) ≡ ltb x y
    lower a =
        by_cases (dec_lt x y)
        (λ (k : x < y). rw (lt-ltb x y k, lt-ltb (a + x) (a + y) (omega arith)))
        (λ (k : ¬ (x < y)). rw (le-ltb x y (omega arith), le-ltb (a + x) (a + y) (omega arith)))

unpacking-before : (w x y : ℕ) → x < 64 ^ w → y < 64 ^ w → before (unpacking w x) (unpacking w y) ≡ ltb x y
unpacking-before zero x y l m = unfold unpacking before in sym (le-ltb x y (omega (arith, rw pow-zero at l)))
unpacking-before (suc w) x y l m =
    rw (
      unpacking-apart w x l,
      unpacking-apart w y m,
      ahead_before (high w x l) (high w y m) (unpacking w (rest w x l)) (unpacking w (rest w y m)),
      unpacking-before w (rest w x l) (rest w y m) (rest-less w x l) (rest-less w y m),
    )
    (sym (ltb-split (64 ^ w) (high w x l) (high w y m) (rest w x l) (rest w y m) (rest-less w x l) (rest-less w y m))
    ∙ rw (← (taken-apart w x l), ← (taken-apart w y m)))

-- ---- ten places

ten : 2 ^ 60 ≡ 64 ^ 10
ten = refl

pub packed-less : (name : List ℕ) → packed name < 2 ^ 60
packed-less name = packing-less 10 name

pub unpacked-packed : (name : List ℕ) → link_name name ≡ true → unpacked (packed name) ≡ name
unfolding link_name
unpacked-packed name e =
    unpacking-packing 10 name (link-short name e).1 (and_right (leb 1 (length name) && leb (length name) 10) _ e)

pub packed-unpacked : (x : ℕ) → x < 2 ^ 60 → packed (unpacked x) ≡ x
packed-unpacked x l = packing-unpacking 10 x l

-- "Number order is then listing order."
pub number-order : (x y : ℕ) → x < 2 ^ 60 → y < 2 ^ 60 → before (unpacked x) (unpacked y) ≡ ltb x y
number-order x y l m = unpacking-before 10 x y l m

-- equal numbers, equal names
pub same_number : (name : List ℕ) (x : ℕ) → link_name name ≡ true → x < 2 ^ 60 → same name (unpacked x) ≡ eqb (packed name) x
same_number name x e l =
    same_truth (same name (unpacked x)) (eqb (packed name) x)
    (λ q. eq-eqb _ _ (ap packed (same_true name (unpacked x) q) ∙ packed-unpacked x l))
    (λ q. eq-same _ _ (sym (unpacked-packed name e) ∙ ap unpacked (eqb-true (packed name) x q)))

-- eight bytes hold it
pub number-eight : (x : ℕ) (rest : List ℕ) → x < 2 ^ 60 → number_at 8 (bytes_of 8 x ++ rest) 0 ≡ x
number-eight x rest l = number-bytes 8 x rest (omega arith)

-- .. and bytes come back from the number that they make
pub bytes-number : (w j : ℕ) (s : List ℕ) → j + w ≤ length s → ((i : ℕ) → get_or s i 0 < 256) → take w (drop j s) ≡ bytes_of w (number_at w s j)
unfolding number_at bytes_of
bytes-number zero j s l h = refl
bytes-number (suc w) j s l h =
    let m : j < length s = omega arith in
    let low : (get_or s j 0 + number_at w s (suc j) * 256) % 256 ≡ get_or s j 0 = omega (arith, h j) in
    let above : (get_or s j 0 + number_at w s (suc j) * 256) / 256 ≡ number_at w s (suc j) = omega (arith, h j) in
    rw (low, above, drop-cons s j 0 m, bytes-number w (suc j) s (omega arith) h)
