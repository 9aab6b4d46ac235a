-- Link names, chains, base names, and the order of names.
use Rattle.std.specs.Prelude.{Bool, true, false, ◌&&◌, ◌||◌, not, cond, List, [], ◌∷◌, ℕ, ◌+◌, ◌*◌, ◌-◌, length, get_or, drop, eqb, leb, ltb}

-- two names are the same
unfoldable pub same : List ℕ → List ℕ → Bool
same [] [] = true
same [] (b ∷ t) = false
same (a ∷ s) [] = false
same (a ∷ s) (b ∷ t) = eqb a b && same s t

-- every byte passes
unfoldable pub all : (ℕ → Bool) → List ℕ → Bool
all test [] = true
all test (b ∷ s) = test b && all test s

-- "characters from 33..95 except @ and :"
abbrev pub in_name : ℕ → Bool
in_name b = leb 33 b && leb b 95 && not (eqb b 64) && not (eqb b 58)

-- "A link name has 1 to 10 characters"
unfoldable pub link_name : List ℕ → Bool
link_name n = leb 1 (length n) && leb (length n) 10 && all in_name n

-- the name has "a leading point"
unfoldable pub pointed : List ℕ → Bool
pointed n = eqb (get_or n 0 0) 46

-- `.R`, `.W`, `.G`, `.T`
abbrev pub dot_r : List ℕ
dot_r = 46 ∷ 82 ∷ []

abbrev pub dot_w : List ℕ
dot_w = 46 ∷ 87 ∷ []

abbrev pub dot_g : List ℕ
dot_g = 46 ∷ 71 ∷ []

abbrev pub dot_t : List ℕ
dot_t = 46 ∷ 84 ∷ []

-- "A chain whose first name lacks a leading point has `.W` put before it (and counted)."
unfoldable pub chain : List (List ℕ) → List (List ℕ)
chain [] = []
chain (n ∷ ns) = cond (pointed n) (n ∷ ns) (dot_w ∷ n ∷ ns)

-- the argument is this one name
abbrev pub alone : List ℕ → List (List ℕ) → Bool
alone s [] = false
alone s (n ∷ []) = same n s
alone s (n ∷ m ∷ ns) = false

-- "An argument of one dash"
abbrev pub dash : List (List ℕ) → Bool
dash = alone (45 ∷ [])

-- "a lone point"
abbrev pub lone_point : List (List ℕ) → Bool
lone_point = alone (46 ∷ [])

-- every name of an argument is a link name
unfoldable pub link_names : List (List ℕ) → Bool
link_names [] = true
link_names (n ∷ ns) = link_name n && link_names ns

-- "A chain is names joined by colons, at most 16." "An argument of one dash is .. a malformed name."
unfoldable pub well_formed : List (List ℕ) → Bool
well_formed ns = link_names ns && leb (length (chain ns)) 16 && not (dash ns)

-- "letters and points"
abbrev pub in_base : ℕ → Bool
in_base b = leb 65 b && leb b 90 || eqb b 46

-- "A base name is legal if it is .R, .W, .G or .T, or begins with a point and has at least three characters, all letters and points."
unfoldable pub legal_base : List ℕ → Bool
legal_base n =
    same n dot_r || same n dot_w || same n dot_g || same n dot_t
    || pointed n && (leb 3 (length n) && all in_base n)

-- the base name of a chain
abbrev pub base_name : List (List ℕ) → List ℕ
base_name ns = get_or (chain ns) 0 []

-- "`.nnnnnn` .. (six digits)": a point and exactly six digits
abbrev pub in_number : ℕ → Bool
in_number b = leb 48 b && leb b 57

unfoldable pub user_name : List ℕ → Bool
user_name n = pointed n && eqb (length n) 7 && all in_number (drop 1 n)

-- the number that digits make in a base, after the number k
unfoldable pub counting : ℕ → ℕ → List ℕ → ℕ
counting base k [] = k
counting base k (b ∷ s) = counting base (k * base + (b - 48)) s

-- .. and of `.nnnnnn`: "that user"
unfoldable pub user_number : List ℕ → ℕ
user_number n = counting 10 0 (drop 1 n)

-- "names in ascending byte order, a name before its longer continuations"
unfoldable pub before : List ℕ → List ℕ → Bool
before [] [] = false
before [] (b ∷ t) = true
before (a ∷ s) [] = false
before (a ∷ s) (b ∷ t) = ltb a b || eqb a b && before s t
