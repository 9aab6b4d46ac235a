-- What the forms of names and declarations give: a chain's last name is one of its names, or the `.W` put before them.
-- A declared part is the number of one of its letters, since each part is read from one byte by its own table.
use mathlib.Core.Bool.{Bool, true, false, ◌&&◌, ◌||◌, not, cond, true≢false}
use mathlib.Core.List.{List, [], ◌∷◌}
use mathlib.Core.Logic.{◌⊎◌, inl, inr}
use mathlib.Core.Path.{◌≡◌, refl, sym}
use Prim.Native.Nat.{ℕ, zero, suc, ◌+◌, ◌-◌, ◌≤◌, ◌<◌}
use native.Mathlib.Omega.{arith}
use lib.ListN.{length, get_or}
use lib.Dec.{eqb, leb, ltb}
use borrow.Author.Tests.{leb-true}
use Rattle.paper.specs.Name.{all, link_name, link_names, pointed, chain, dash, well_formed, legal_base, base_name, dot_w, same}
use Rattle.paper.specs.Declaration.{Part, given, not_given, is_given, or_else, Parts, Declared, right, wrong, nothing, lifetime_letter, level_letter, digit, width, byte_at, code_at, level_at, point_at, lifetime_at, declaration, lone, declared, parts_of, fits, taking, medium_or_long}
use Rattle.paper.specs.Line.{Word, words, word}
use Rattle.paper.specs.Request.{declared_at, parts_at}
use Rattle.paper.specs.Walk.{last_name}
use Rattle.laws.proofs.Tests.{truth, and_left, and_right, either, clash}
use Rattle.laws.proofs.Entries.{link-short}

-- ---- names

-- an argument that reading lets through as a name
pub record Named (w : Word) : Type 0 where
  pub formed : well_formed w.names ≡ true
  pub legal : legal_base (base_name w.names) ≡ true

-- what the last name of a chain then is
pub record Last (w : Word) : Type 0 where
  pub link : link_name (last_name (chain w.names)) ≡ true
  pub short : length (last_name (chain w.names)) ≤ 10
  pub base : length (chain w.names) ≡ 1 → legal_base (last_name (chain w.names)) ≡ true

pub named-links : (w : Word) → Named w → link_names w.names ≡ true
unfolding well_formed
named-links w n = and_left (link_names w.names) _ (and_left (link_names w.names && leb (length (chain w.names)) 16) _ n.formed)

-- each of some link names is one
links-at : (ns : List (List ℕ)) (k : ℕ) → k < length ns → link_names ns ≡ true → link_name (get_or ns k []) ≡ true
unfolding link_names
links-at [] k l e = let z : ⊥ = omega arith in absurd z
links-at (n ∷ ns) zero l e = and_left (link_name n) _ e
links-at (n ∷ ns) (suc k) l e = links-at ns k (omega arith) (and_right (link_name n) _ e)

-- `.W` put before link names leaves link names
links-chain : (ns : List (List ℕ)) → link_names ns ≡ true → link_names (chain ns) ≡ true
unfolding chain link_names link_name all
links-chain [] e = e
links-chain (n ∷ ns) e = go (pointed n)
  where
    go : (b : Bool) → link_names (cond b (n ∷ ns) (dot_w ∷ n ∷ ns)) ≡ true
    go true = e
    go false = e

-- where there is a name there is a chain
pub chain-some : (ns : List (List ℕ)) → 0 < length ns → 0 < length (chain ns)
unfolding chain
chain-some [] l = l
chain-some (n ∷ ns) l = either (λ (s : List (List ℕ)). 0 < length s) (pointed n) (n ∷ ns) (dot_w ∷ n ∷ ns) l (omega arith)

-- a legal base name is a name
based-some : (ns : List (List ℕ)) → legal_base (base_name ns) ≡ true → 0 < length ns
unfolding chain legal_base same pointed
based-some [] e = absurd (true≢false (sym e))
based-some (n ∷ ns) e = omega arith

pub named_some : (w : Word) → Named w → 0 < length (chain w.names)
named_some w n = chain-some w.names (based-some w.names n.legal)

pub named-last : (w : Word) → Named w → Last w
unfolding last_name
named-last w n =
    let some = named_some w n in
    let link = links-at (chain w.names) (length (chain w.names) - 1) (omega arith) (links-chain w.names (named-links w n)) in
    record { link = link; short = (link-short _ link).1; base = λ one. rw one n.legal }

-- ---- declared parts

-- a part that is given lies from a to b
abbrev pub Within : ℕ → ℕ → Part → Type 0
Within a b (given n) = (a ≤ n) × (n ≤ b)
Within a b not_given = Unit {0}

-- .. and so does the number taken where it is not given
pub within-else : (a b d : ℕ) (p : Part) → Within a b p → a ≤ d → d ≤ b → (a ≤ or_else p d) × (or_else p d ≤ b)
within-else a b d (given n) h l m = h
within-else a b d not_given h l m = (l, m)

-- a part's number, each part by itself
pub record Lettered (p : Parts) : Type 0 where
  pub lifetime : Within 0 2 p.lifetime
  pub level : Within 0 3 p.level
  pub code : Within 0 7 p.code

within-lifetime : (b : ℕ) → Within 0 2 (lifetime_letter b)
unfolding lifetime_letter
within-lifetime b =
    either (Within 0 2) (eqb b 83) _ _ (omega arith, omega arith)
    (either (Within 0 2) (eqb b 77) _ _ (omega arith, omega arith)
    (either (Within 0 2) (eqb b 76) _ _ (omega arith, omega arith) tt))

within_level : (b : ℕ) → Within 0 3 (level_letter b)
unfolding level_letter
within_level b =
    either (Within 0 3) (eqb b 85) _ _ (omega arith, omega arith)
    (either (Within 0 3) (eqb b 80) _ _ (omega arith, omega arith)
    (either (Within 0 3) (eqb b 65) _ _ (omega arith, omega arith)
    (either (Within 0 3) (eqb b 83) _ _ (omega arith, omega arith) tt)))

within-digit : (b : ℕ) → Within 0 7 (digit b)
unfolding digit
within-digit b = go (truth (leb 48 b && leb b 55))
  where
    go : ((leb 48 b && leb b 55) ≡ true) ⊎ ((leb 48 b && leb b 55) ≡ false) → Within 0 7 (digit b)
    go (inl e) = let l = leb-true b 55 (and_right (leb 48 b) _ e) in rw e (omega arith, omega arith)
    go (inr e) = rw e tt

none : Lettered nothing
none = record { lifetime = tt; level = tt; code = tt }

Right : Declared → Type 0
Right d = Lettered (parts_of d)

-- each part in its turn
lettered-code : (w : List ℕ) (p : Parts) (i : ℕ) → Lettered p → Right (code_at w p i)
unfolding code_at Right
lettered-code w p i h =
    either Right (eqb (i + width (digit (byte_at w i))) (length w)) _ _
    (record { lifetime = h.lifetime; level = h.level; code = within-digit (byte_at w i) }) none

lettered-level : (w : List ℕ) (p : Parts) (i : ℕ) → Lettered p → Right (level_at w p i)
unfolding level_at
lettered-level w p i h =
    lettered-code w _ _ (record { lifetime = h.lifetime; level = within_level (byte_at w i); code = tt })

lettered-point : (w : List ℕ) (p : Parts) (i : ℕ) → Lettered p → Right (point_at w p i)
unfolding point_at Right
lettered-point w p i h =
    either Right (eqb i (length w)) _ _ h (either Right (eqb (byte_at w i) 46) _ _ (lettered-level w p (i + 1) h) none)

lettered-word : (w : List ℕ) → Right (declaration w)
unfolding declaration lifetime_at
lettered-word w = lettered-point w _ _ (record { lifetime = within-lifetime _; level = tt; code = tt })

lettered-lone : (ns : List (List ℕ)) → Right (lone ns)
unfolding Right
lettered-lone [] = none
lettered-lone (w ∷ []) = lettered-word w
lettered-lone (w ∷ v ∷ ws) = none

lettered : (ns : List (List ℕ)) → Right (declared ns)
unfolding declared Right
lettered ns = either Right (dash ns) _ _ none (lettered-lone ns)

-- the declaration of word k, or none
pub lettered-at : (line : List ℕ) (k : ℕ) → Lettered (parts_at line k)
unfolding declared_at Right
lettered-at line k = either Right (ltb k (length (words line))) _ _ (lettered (word line k).names) none

-- a declaration that fits is right
pub fits-parts : (test : Parts → Bool) (d : Declared) → fits test d ≡ true → test (parts_of d) ≡ true
fits-parts test (right p) e = e
fits-parts test wrong e = absurd (true≢false (sym e))

-- a part that is taken of a declaration is a part of one that fits
pub taking-given : (test : Parts → Bool) (part : Parts → Part) (d : Declared) (n : ℕ) → taking test part d ≡ given n
    → (test (parts_of d) ≡ true) × (part (parts_of d) ≡ given n)
taking-given test part (right p) n e = go (test p) e
  where
    go : (b : Bool) → cond b (part p) not_given ≡ given n → (b ≡ true) × (part p ≡ given n)
    go true f = (refl, f)
    go false f = clash (cc)
taking-given test part wrong n e = clash (cc)

-- "M or L"
pub medium-long : (p : Part) (n : ℕ) → p ≡ given n → medium_or_long p ≡ true → Within 0 2 p → (1 ≤ n) × (n ≤ 2)
medium-long p n q e h = let l : Within 0 2 (given n) = rw q at h in (leb-true 1 n (rw q at e), l.1)

pub may-medium-long : (p : Part) → (not (is_given p) || medium_or_long p) ≡ true → Within 0 2 p → Within 1 2 p
may-medium-long (given n) e h = (leb-true _ _ e, h.1)
may-medium-long not_given e h = tt
