-- What an argument that starts with `.nnnnnn` is: no legal base name, and the chain that starts at `.T` or `.G` is well-formed
-- as the one read was, since `.nnnnnn` is one name and has a leading point as they have.
use mathlib.Core.Bool.{Bool, true, false, ◌&&◌, ◌||◌, not, cond, true≢false}
use mathlib.Core.List.{List, [], ◌∷◌}
use mathlib.Core.Path.{◌≡◌, refl, sym, ◌∙◌}
use Prim.Native.Nat.{ℕ, ◌≤◌}
use native.Mathlib.Omega.{arith}
use lib.ListN.{length, get_or, drop, length-drop}
use lib.Dec.{eqb, leb}
use borrow.Author.Tests.{eqb-true, leb-true, lt-leb, ne_eqb, not-false}
use Rattle.paper.specs.Name.{same, all, in_number, link_name, link_names, pointed, chain, dash, well_formed, legal_base, base_name, dot_t, dot_g, user_name, user_number}
use Rattle.paper.specs.Line.{Word}
use Rattle.paper.specs.Request.{Begin, own, take_of, give_to, first_name, old_from, new_to, is_give, malformed, illegal_but}
use Rattle.paper.specs.Effect.{list_of, instead, begun}
use Rattle.laws.proofs.Tests.{and_left, and_right}
use Rattle.laws.proofs.Digits.{user-most}
use Rattle.demands.proofs.Request.Formed.{Named}
use Rattle.demands.proofs.Request.Fair.{Idle}

-- ---- a user's name

user-pointed : (n : List ℕ) → user_name n ≡ true → pointed n ≡ true
unfolding user_name
user-pointed n e = and_left (pointed n) _ (and_left (pointed n && eqb (length n) 7) _ e)

-- a digit is no letter and no point, so `.nnnnnn` is no legal base name
digit-illegal : (a : ℕ) (s : List ℕ) → in_number a ≡ true → legal_base (46 ∷ a ∷ s) ≡ false
unfolding legal_base same pointed all
digit-illegal a s e =
    let l = leb-true 48 a (and_left (leb 48 a) _ e) in
    let m = leb-true a 57 (and_right (leb 48 a) _ e) in
    rw (
      ne_eqb a 82 (λ (z : a ≡ 82). omega arith),
      ne_eqb a 87 (λ (z : a ≡ 87). omega arith),
      ne_eqb a 71 (λ (z : a ≡ 71). omega arith),
      ne_eqb a 84 (λ (z : a ≡ 84). omega arith),
      lt-leb 65 a (omega arith),
      ne_eqb a 46 (λ (z : a ≡ 46). omega arith),
    ) (and_none (leb 3 (length (46 ∷ a ∷ s))))
  where
    and_none : (b : Bool) → (b && false) ≡ false
    and_none true = refl
    and_none false = refl

user-illegal : (ns : List (List ℕ)) → user_name (get_or ns 0 []) ≡ true → legal_base (base_name ns) ≡ false
unfolding chain user_name pointed all
user-illegal [] e = absurd (true≢false (sym e))
user-illegal ([] ∷ ms) e = absurd (true≢false (sym e))
user-illegal ((x ∷ []) ∷ ms) e =
    let f = and_right (eqb x 46) _ (and_left (eqb x 46 && eqb (length (x ∷ [])) 7) _ e) in absurd (true≢false (sym f))
user-illegal ((x ∷ a ∷ s) ∷ ms) e =
    let p = and_left (eqb x 46) _ (and_left (eqb x 46 && eqb (length (x ∷ a ∷ s)) 7) _ e) in
    let d = and_left (in_number a) _ (and_right (eqb x 46 && eqb (length (x ∷ a ∷ s)) 7) _ e) in
    rw (eqb-true x 46 p) (digit-illegal a s d)

-- ---- `.T` or `.G` in its place

-- a base name that stands before any names
record Shelf (n : List ℕ) : Type 0 where
  link : link_name n ≡ true
  point : pointed n ≡ true
  legal : legal_base n ≡ true
  dash : (ns : List (List ℕ)) → dash (n ∷ ns) ≡ false

take-shelf : Shelf dot_t
unfolding link_name pointed legal_base same all
take-shelf = record { link = refl; point = refl; legal = refl; dash = go }
  where
    go : (ns : List (List ℕ)) → dash (dot_t ∷ ns) ≡ false
    go [] = refl
    go (m ∷ ns) = refl

give-shelf : Shelf dot_g
unfolding link_name pointed legal_base same all
give-shelf = record { link = refl; point = refl; legal = refl; dash = go }
  where
    go : (ns : List (List ℕ)) → dash (dot_g ∷ ns) ≡ false
    go [] = refl
    go (m ∷ ns) = refl

instead-formed : (n : List ℕ) → Shelf n → (ns : List (List ℕ)) → pointed (get_or ns 0 []) ≡ true → well_formed ns ≡ true
    → well_formed (n ∷ drop 1 ns) ≡ true
unfolding well_formed chain link_names pointed
instead-formed n s [] p e = absurd (true≢false (sym p))
instead-formed n s (m ∷ ms) p e =
    let a = and_left (link_names (m ∷ ms) && leb (length (chain (m ∷ ms))) 16) _ e in
    let b = and_right (link_name m) _ (and_left (link_names (m ∷ ms)) _ a) in
    let c : leb (length (m ∷ ms)) 16 ≡ true = rw p at (and_right (link_names (m ∷ ms)) _ a) in
    let q = s.point in
    rw (s.link, b, q, c, s.dash ms)

-- .. and as long
instead-long : (n : List ℕ) → Shelf n → (ns : List (List ℕ)) → pointed (get_or ns 0 []) ≡ true → length (chain ns) ≡ length (chain (n ∷ drop 1 ns))
unfolding chain pointed
instead-long n s [] p = absurd (true≢false (sym p))
instead-long n s (m ∷ ms) p = let q = s.point in rw (p, q)

begun-long : (n : List ℕ) → Shelf n → (from : Begin) (w : Word) → begun from w ≡ instead n w
    → length (chain w.names) ≡ length (chain (begun (cond (user_name (first_name w)) from own) w).names)
begun-long n s from w q = go (user_name (first_name w)) refl
  where
    go : (b : Bool) → user_name (first_name w) ≡ b → length (chain w.names) ≡ length (chain (begun (cond b from own) w).names)
    go true e = rw q (instead-long n s w.names (user-pointed _ e))
    go false e = refl

pub old-long : (w : Word) → length (chain w.names) ≡ length (chain (begun (old_from w) w).names)
unfolding old_from
old-long w = begun-long dot_t take-shelf (take_of (user_number (first_name w))) w refl

pub new-long : (w : Word) → length (chain w.names) ≡ length (chain (begun (new_to w) w).names)
unfolding new_to
new-long w = begun-long dot_g give-shelf (give_to (user_number (first_name w))) w refl

instead-legal : (n : List ℕ) → Shelf n → (ns : List (List ℕ)) → legal_base (base_name (n ∷ ns)) ≡ true
unfolding chain
instead-legal n s ns = rw s.point s.legal

instead-named : (n : List ℕ) → Shelf n → (w : Word) → user_name (first_name w) ≡ true → well_formed w.names ≡ true → Named (instead n w)
instead-named n s w e f =
    record { formed = instead-formed n s w.names (user-pointed _ e) f; legal = instead-legal n s (drop 1 w.names) }

-- a legal base name is one's own
pub legal-own : (w : Word) → legal_base (base_name w.names) ≡ true → old_from w ≡ own
unfolding old_from
legal-own w e = go (user_name (first_name w)) refl
  where
    go : (b : Bool) → user_name (first_name w) ≡ b → cond b (take_of (user_number (first_name w))) own ≡ own
    go true f = absurd (true≢false (sym e ∙ user-illegal w.names f))
    go false f = refl

-- ---- what the checks give

-- an argument that does not start so has a legal base name
otherwise : (a b c : Bool) → (a ≡ true → b ≡ true) → b ≡ false → not (a || c) ≡ false → c ≡ true
otherwise true b c h e f = absurd (true≢false (sym (h refl) ∙ e))
otherwise false b c h e f = not-false c f

module _ (starts : Word → Bool) (place : ℕ) (w : Word) (h : starts w ≡ true → user_name (first_name w) ≡ true)
    (f : Idle (malformed place w)) (g : Idle (illegal_but starts place w)) where
  -- an old name: one's own, or from `.T` on
  pub old-named : Named (begun (old_from w) w)
  unfolding old_from
  old-named = go (user_name (first_name w)) refl
    where
      go : (b : Bool) → user_name (first_name w) ≡ b → Named (begun (cond b (take_of (user_number (first_name w))) own) w)
      go true e = instead-named dot_t take-shelf w e (not-false _ f)
      go false e = record { formed = not-false _ f; legal = otherwise (starts w) (user_name (first_name w)) _ h e g }

-- a new name starts in one's own base list, or, with one link, at another user's `.G`
abbrev pub Gives : Begin → Word → Type 0
Gives own w = Unit {0}
Gives (take_of n) w = ⊥
Gives (give_to n) w = (n ≤ 999999) × (length w.names ≡ 2)

module _ (place : ℕ) (w : Word) (f : Idle (malformed place w)) (g : Idle (illegal_but is_give place w)) where
  abbrev New : Begin → Type 0
  New to = Named (begun to w) × Gives to (begun to w)

  pub new-named : New (new_to w)
  unfolding new_to
  new-named = go (user_name (first_name w)) refl
    where
      -- `.nnnnnn` is no legal base name, so it is a give
      gives : (a c : Bool) → c ≡ false → not (a || c) ≡ false → a ≡ true
      gives true c e x = refl
      gives false c e x = absurd (true≢false (sym (not-false c x) ∙ e))

      two : user_name (first_name w) ≡ true → length w.names ≡ 2
      two e = eqb-true _ _ (and_right (user_name (first_name w)) _ (gives (is_give w) _ (user-illegal w.names e) g))

      go : (b : Bool) → user_name (first_name w) ≡ b
          → New (cond b (give_to (user_number (first_name w))) own)
      go true e = (instead-named dot_g give-shelf w e (not-false _ f), (user-most (first_name w) e, omega (arith, length-drop 1 w.names, two e)))
      go false e =
          (record { formed = not-false _ f; legal = otherwise (is_give w) (user_name (first_name w)) _ (λ x. and_left (user_name (first_name w)) _ x) e g }, tt)

-- .. and so in the base list of a user there is
pub list-most : (u : ℕ) (to : Begin) (w : Word) → Gives to w → u ≤ 999999 → list_of u to ≤ 999999
list-most u own w g l = l
list-most u (take_of n) w g l = absurd g
list-most u (give_to n) w g l = g.0
