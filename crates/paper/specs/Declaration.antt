-- "A declaration is, in this order and without blanks: D or F; S, M or L; a point; U, P, A or S; a digit 0..7."
use Rattle.std.specs.Prelude.{Bool, true, false, ◌&&◌, ◌||◌, not, cond, List, [], ◌∷◌, ℕ, ◌+◌, ◌-◌, eqb, leb, length, get_or}
use Rattle.paper.specs.Name.{dash}

-- "Each part is either given or not given"
pub data Part : Type 0 where
  given : ℕ → Part
  not_given : Part

abbrev pub is_given : Part → Bool
is_given (given n) = true
is_given not_given = false

-- "given, else": the part's number, or n
abbrev pub or_else : Part → ℕ → ℕ
or_else (given m) n = m
or_else not_given n = n

-- the letters: D 0, F 1; S 0, M 1, L 2; U 0, P 1, A 2, S 3; the digits 0 to 7
unfoldable pub type_letter : ℕ → Part
type_letter b = cond (eqb b 68) (given 0) (cond (eqb b 70) (given 1) not_given)

unfoldable pub lifetime_letter : ℕ → Part
lifetime_letter b = cond (eqb b 83) (given 0) (cond (eqb b 77) (given 1) (cond (eqb b 76) (given 2) not_given))

unfoldable pub level_letter : ℕ → Part
level_letter b =
    cond (eqb b 85) (given 0) (cond (eqb b 80) (given 1) (cond (eqb b 65) (given 2) (cond (eqb b 83) (given 3) not_given)))

unfoldable pub digit : ℕ → Part
digit b = cond (leb 48 b && leb b 55) (given (b - 48)) not_given

pub record Parts : Type 0 where
  pub type : Part
  pub lifetime : Part
  pub level : Part
  pub code : Part

pub data Declared : Type 0 where
  right : Parts → Declared
  wrong : Declared

abbrev pub nothing : Parts
nothing = record { type = not_given; lifetime = not_given; level = not_given; code = not_given }

-- how many bytes a part takes
abbrev pub width : Part → ℕ
width (given n) = 1
width not_given = 0

abbrev pub byte_at : List ℕ → ℕ → ℕ
byte_at w i = get_or w i 0

-- the digit stands at place i, and ends the declaration
unfoldable pub code_at : List ℕ → Parts → ℕ → Declared
code_at w p i =
    cond (eqb (i + width (digit (byte_at w i))) (length w))
    (right (record { type = p.type; lifetime = p.lifetime; level = p.level; code = digit (byte_at w i) }))
    wrong

-- after the point, the level stands at place i
unfoldable pub level_at : List ℕ → Parts → ℕ → Declared
level_at w p i =
    code_at w (record { type = p.type; lifetime = p.lifetime; level = level_letter (byte_at w i); code = not_given })
    (i + width (level_letter (byte_at w i)))

-- "level or digit need the point; a point alone gives nothing"
unfoldable pub point_at : List ℕ → Parts → ℕ → Declared
point_at w p i = cond (eqb i (length w)) (right p) (cond (eqb (byte_at w i) 46) (level_at w p (i + 1)) wrong)

-- the lifetime stands at place i
unfoldable pub lifetime_at : List ℕ → Parts → ℕ → Declared
lifetime_at w p i =
    point_at w (record { type = p.type; lifetime = lifetime_letter (byte_at w i); level = not_given; code = not_given })
    (i + width (lifetime_letter (byte_at w i)))

-- the declaration that the bytes w are; the type stands at place 0
unfoldable pub declaration : List ℕ → Declared
declaration w =
    lifetime_at w (record { type = type_letter (byte_at w 0); lifetime = not_given; level = not_given; code = not_given })
    (width (type_letter (byte_at w 0)))

-- a declaration has no colon
abbrev pub lone : List (List ℕ) → Declared
lone [] = wrong
lone (w ∷ []) = declaration w
lone (w ∷ v ∷ ws) = wrong

-- the declaration that an argument is: "An argument of one dash is an omitted declaration"
unfoldable pub declared : List (List ℕ) → Declared
declared ns = cond (dash ns) (right nothing) (lone ns)

-- what a declaration gives
abbrev pub parts_of : Declared → Parts
parts_of (right p) = p
parts_of wrong = nothing

-- the declaration is right, and its parts pass
abbrev pub fits : (Parts → Bool) → Declared → Bool
fits test (right p) = test p
fits test wrong = false

-- a part of a declaration that fits
abbrev pub taking : (Parts → Bool) → (Parts → Part) → Declared → Part
taking test part (right p) = cond (test p) (part p) not_given
taking test part wrong = not_given

-- "M or L"
abbrev pub medium_or_long : Part → Bool
medium_or_long (given n) = leb 1 n
medium_or_long not_given = false

-- "CRD and CPY and WRS refuse a type. CRD refuses a lifetime"
abbrev pub fit_crd : Parts → Bool
fit_crd p = not (is_given p.type) && not (is_given p.lifetime)

-- "WRS needs one, M or L"
abbrev pub fit_wrs : Parts → Bool
fit_wrs p = not (is_given p.type) && medium_or_long p.lifetime

abbrev pub wrs_lifetime : Declared → Part
wrs_lifetime = taking fit_wrs (λ p. p.lifetime)

-- document 02: `WRS*`, "so the declaration may be only M"
abbrev pub medium : Part → Bool
medium (given n) = eqb n 1
medium not_given = false

abbrev pub fit_rewrite : Parts → Bool
fit_rewrite p = not (is_given p.type) && (medium p.lifetime && (not (is_given p.level) && not (is_given p.code)))

-- "CPY may have M or L"
abbrev pub fit_cpy : Parts → Bool
fit_cpy p = not (is_given p.type) && (not (is_given p.lifetime) || medium_or_long p.lifetime)

-- "DUP allows a digit only."
abbrev pub fit_dup : Parts → Bool
fit_dup p = not (is_given p.type) && (not (is_given p.lifetime) && not (is_given p.level))

-- "DPR needs a digit and allows nothing else."
abbrev pub dpr_code : Declared → Part
dpr_code = taking fit_dup (λ p. p.code)
