-- Lists by a scan: by induction on the bound, the newest number's items stand last.
-- What holds of each item of a list holds of its parts, and of what is mapped from it.
use mathlib.Core.Bool.{Bool, true, false, cond}
use mathlib.Core.List.{List, [], ◌∷◌, ◌++◌, map, append-nil}
use mathlib.Core.Logic.{◌≢◌, by_cases}
use mathlib.Core.Path.{◌≡◌, refl, ap, ◌∙◌}
use Prim.Native.Nat.{ℕ, zero, suc, ◌+◌, ◌*◌, ◌-◌, ◌≤◌, ◌<◌}
use native.Mathlib.Omega.{arith}
use native.Mathlib.Numerals.{add-one}
use native.Mathlib.Decide.{ℕ_discrete}
use native.Mathlib.Nat.{add-zero, suc-mul}
use lib.ListN.{length, take, drop, get_or, set, length-append, get_or-append}
use lib.Seq.{sets, get_or_at, get_or-append_seam, take-append-add}
use Rattle.paper.specs.Scan.{join_below, list_below, each_below, count_below}

-- ---- what holds of every item

abbrev pub Every {ℓ} : {A : Type ℓ} → (A → Type 0) → List A → Type 0
Every P [] = Unit {0}
Every P (x ∷ xs) = P x × Every P xs

pub every_append {ℓ} : {A : Type ℓ} (P : A → Type 0) (xs ys : List A) → Every P xs → Every P ys → Every P (xs ++ ys)
every_append P [] ys h k = k
every_append P (x ∷ xs) ys h k = (h.0, every_append P xs ys h.1 k)

pub every_take {ℓ} : {A : Type ℓ} (P : A → Type 0) (n : ℕ) (xs : List A) → Every P xs → Every P (take n xs)
every_take P zero xs h = tt
every_take P (suc n) [] h = tt
every_take P (suc n) (x ∷ xs) h = (h.0, every_take P n xs h.1)

pub every_drop {ℓ} : {A : Type ℓ} (P : A → Type 0) (n : ℕ) (xs : List A) → Every P xs → Every P (drop n xs)
every_drop P zero xs h = h
every_drop P (suc n) [] h = tt
every_drop P (suc n) (x ∷ xs) h = every_drop P n xs h.1

pub every_map {ℓ} : {A : Type ℓ} {B : Type ℓ} (P : B → Type 0) (f : A → B) (xs : List A) → Every (λ x. P (f x)) xs → Every P (map f xs)
every_map P f [] h = tt
every_map P f (x ∷ xs) h = (h.0, every_map P f xs h.1)

pub every-imp {ℓ} : {A : Type ℓ} (P Q : A → Type 0) (xs : List A) → ((x : A) → P x → Q x) → Every P xs → Every Q xs
every-imp P Q [] f h = tt
every-imp P Q (x ∷ xs) f h = (f x h.0, every-imp P Q xs f h.1)

pub every-at {ℓ} : {A : Type ℓ} (P : A → Type 0) (xs : List A) (m : ℕ) (d : A) → m < length xs → Every P xs → P (get_or xs m d)
every-at P [] m d l h = let z : ⊥ = omega arith in absurd z
every-at P (x ∷ xs) zero d l h = h.0
every-at P (x ∷ xs) (suc m) d l h = every-at P xs m d (omega arith) h.1

-- in the two parts of a list; and two such facts of the same items make a third
pub every-parts {ℓ} : {A : Type ℓ} (P : A → Type 0) (xs ys : List A) → Every P (xs ++ ys) → Every P xs × Every P ys
every-parts P [] ys h = (tt, h)
every-parts P (x ∷ xs) ys h = let r = every-parts P xs ys h.1 in ((h.0, r.0), r.1)

pub every-both {ℓ} : {A : Type ℓ} (P Q R : A → Type 0) (xs : List A) → ((x : A) → P x → Q x → R x) → Every P xs → Every Q xs → Every R xs
every-both P Q R [] f h k = tt
every-both P Q R (x ∷ xs) f h k = (f x h.0 k.0, every-both P Q R xs f h.1 k.1)

-- ---- joined lists

pub join-cong : {A : Type 0} (f g : ℕ → List A) (n : ℕ) → ((i : ℕ) → i < n → f i ≡ g i) → join_below f n ≡ join_below g n
unfolding join_below
join-cong f g zero h = refl
join-cong f g (suc n) h = rw (join-cong f g n (λ i l. h i (omega arith)), h n (omega arith))

pub join_more : {A : Type 0} (f : ℕ → List A) (n : ℕ) → join_below f (n + 1) ≡ join_below f n ++ f n
unfolding join_below
join_more f n = rw add-one

pub every-join : {A : Type 0} (P : A → Type 0) (f : ℕ → List A) (n : ℕ) → ((i : ℕ) → i < n → Every P (f i)) → Every P (join_below f n)
unfolding join_below
every-join P f zero h = tt
every-join P f (suc n) h = every_append P (join_below f n) (f n) (every-join P f n (λ i l. h i (omega arith))) (h n (omega arith))

-- lists of at most m items each
pub join-most : {A : Type 0} (f : ℕ → List A) (n m : ℕ) → ((i : ℕ) → length (f i) ≤ m) → length (join_below f n) ≤ n * m
unfolding join_below
join-most f zero m h = omega arith
join-most f (suc n) m h = rw (length-append, suc-mul) (omega (arith, join-most f n m h, h n))

-- one item for each number
pub length-each : {A : Type 0} (f : ℕ → A) (n : ℕ) → length (each_below f n) ≡ n
unfolding join_below
length-each f zero = refl
length-each f (suc n) = rw (length-append, length-each f n) (omega arith)

pub get_d-each : {A : Type 0} (f : ℕ → A) (n i : ℕ) (d : A) → i < n → get_or (each_below f n) i d ≡ f i
unfolding join_below
get_d-each f zero i d l = let z : ⊥ = omega arith in absurd z
get_d-each f (suc n) i d l =
    by_cases (ℕ_discrete i n)
    (λ (q : i ≡ n). rw q (get_or_at (each_below f n) (f n) [] d n (length-each f n)))
    (λ (q : i ≢ n). get_or-append (each_below f n) (f n ∷ []) d i (rw (length-each f n) (omega arith)) ∙ get_d-each f n i d (omega arith))

pub every-each : {A : Type 0} (P : A → Type 0) (f : ℕ → A) (n : ℕ) → ((i : ℕ) → i < n → P (f i)) → Every P (each_below f n)
every-each P f n h = every-join P (λ i. f i ∷ []) n (λ i l. (h i l, tt))

-- the numbers listed are below the bound and pass
pub every-below : (p : ℕ → Bool) (n : ℕ) → Every (λ i. (i < n) × (p i ≡ true)) (list_below p n)
every-below p n = every-join _ (λ i. cond (p i) (i ∷ []) []) n (λ i l. go i l (p i) refl)
  where
    go : (i : ℕ) → i < n → (b : Bool) → p i ≡ b → Every (λ i. (i < n) × (p i ≡ true)) (cond b (i ∷ []) [])
    go i l true e = ((l, e), tt)
    go i l false e = tt

pub list-cong : (p q : ℕ → Bool) (n : ℕ) → ((i : ℕ) → i < n → p i ≡ q i) → list_below p n ≡ list_below q n
list-cong p q n h = join-cong _ _ n (λ i l. rw (h i l))

pub list-more : (p : ℕ → Bool) (n : ℕ) → list_below p (n + 1) ≡ list_below p n ++ cond (p n) (n ∷ []) []
list-more p n = join_more (λ i. cond (p i) (i ∷ []) []) n

-- as many are listed as are counted
pub length-list : (p : ℕ → Bool) (n : ℕ) → length (list_below p n) ≡ count_below p n
unfolding join_below count_below
length-list p zero = refl
length-list p (suc n) = rw length-append (go (p n) (length-list p n))
  where
    go : (b : Bool) → length (list_below p n) ≡ count_below p n
        → length (list_below p n) + length (cond b (n ∷ []) []) ≡ cond b (count_below p n + 1) (count_below p n)
    go true e = omega arith
    go false e = omega arith

-- the numbers listed rise
pub rising : (p : ℕ → Bool) (n d a b : ℕ) → a < b → b < length (list_below p n) → get_or (list_below p n) a d < get_or (list_below p n) b d
unfolding join_below
rising p zero d a b h l = let z : ⊥ = omega arith in absurd z
rising p (suc n) d a b h l = go (p n) (rising p n d a b h) l
  where
    xs : List ℕ
    xs = list_below p n

    go : (c : Bool) → (b < length xs → get_or xs a d < get_or xs b d) → b < length (xs ++ cond c (n ∷ []) [])
        → get_or (xs ++ cond c (n ∷ []) []) a d < get_or (xs ++ cond c (n ∷ []) []) b d
    go false r k = rw append-nil (r (rw append-nil at k))
    go true r k =
        let m : b < length xs + 1 = rw length-append at k in
        by_cases (ℕ_discrete b (length xs))
        (λ (q : b ≡ length xs). rw (q, get_or-append_seam xs n [] d, get_or-append xs (n ∷ []) d a (omega arith))
        (every-at _ xs a d (omega arith) (every-below p n)).0)
        (λ (q : b ≢ length xs). rw (get_or-append xs (n ∷ []) d b (omega arith), get_or-append xs (n ∷ []) d a (omega arith)) (r (omega arith)))

-- a list taken past the end of its first part
pub take_past {ℓ} : {A : Type ℓ} (k : ℕ) (xs ys : List A) → length xs ≤ k → take k (xs ++ ys) ≡ xs ++ take (k - length xs) ys
take_past k xs ys h =
    let e : k ≡ length xs + (k - length xs) = omega arith in
    ap (λ (n : ℕ). take n (xs ++ ys)) e ∙ take-append-add xs ys (k - length xs)

-- two lists set one after the other are their join set at once
pub sets-append : (a b l : List ℕ) (i : ℕ) → sets l i (a ++ b) ≡ sets (sets l i a) (i + length a) b
sets-append [] b l i = rw add-zero
sets-append (x ∷ a) b l i =
    let e : i + suc (length a) ≡ suc i + length a = omega arith in
    sets-append a b (set l i x) (suc i) ∙ rw e
