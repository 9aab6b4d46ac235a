-- Checks in number order: a verdict passes only where no check holds, and refuses only with the refusal of one of them.
-- A refusal is fair when its number is on the list, its argument is 0 where the list says, and its link is one of the argument's chain.
use mathlib.Core.Bool.{Bool, true, false, ◌&&◌, ◌||◌, not, cond, or-false}
use mathlib.Core.List.{List, [], ◌∷◌}
use mathlib.Core.Logic.{◌≢◌, ◌⊎◌, inl, inr}
use mathlib.Core.Path.{◌≡◌, sym, refl, ◌∙◌, subst}
use Prim.Native.Nat.{ℕ, suc, ◌+◌, ◌-◌, ◌≤◌}
use native.Mathlib.Omega.{arith}
use lib.ListN.{length}
use lib.Dec.{eqb, leb}
use borrow.Author.Tests.{eqb-true, leb-true, ne_eqb, not-true}
use Rattle.paper.specs.Name.{link_name, link_names, pointed, chain, dot_w}
use Rattle.paper.specs.Line.{Word}
use Rattle.paper.specs.Check.{at_link, whole, Check, passed, refused, verdict, Refusal, refusal_at}
use Rattle.paper.specs.Request.{first_wrong, first_link}
use Rattle.paper.specs.Effect.{chain_of, end_of}
use Rattle.laws.proofs.Tests.{not-both, and_left, and_right, or_cases, or_left, or_right, clash}
use Rattle.laws.proofs.Lists.{Every}

-- a check that does not hold
abbrev pub Idle : Check → Type 0
Idle c = c.when ≡ false

pub verdict-idle : (cs : List Check) → verdict cs ≡ passed → Every Idle cs
unfolding verdict
verdict-idle [] e = tt
verdict-idle (c ∷ cs) e = go c.when refl e (λ f. verdict-idle cs f)
  where
    go : (b : Bool) → c.when ≡ b → cond b (refused c.refusal) (verdict cs) ≡ passed → (verdict cs ≡ passed → Every Idle cs)
        → Every Idle (c ∷ cs)
    go true f g r = clash (cc)
    go false f g r = (f, r g)

-- ---- the first wrong name

-- 0 exactly where each name is a link name
wrong-zero : (k : ℕ) (ns : List (List ℕ)) → 1 ≤ k → eqb (first_wrong k ns) 0 ≡ link_names ns
unfolding first_wrong link_names
wrong-zero k [] l = refl
wrong-zero k (n ∷ ns) l = go (link_name n) (wrong-zero (suc k) ns (omega arith))
  where
    go : (b : Bool) → eqb (first_wrong (suc k) ns) 0 ≡ link_names ns → eqb (cond b (first_wrong (suc k) ns) k) 0 ≡ (b && link_names ns)
    go true e = e
    go false e = ne_eqb k 0 (λ (z : k ≡ 0). omega arith)

wrong-below : (k : ℕ) (ns : List (List ℕ)) → first_wrong k ns ≤ k + length ns - 1
unfolding first_wrong
wrong-below k [] = omega arith
wrong-below k (n ∷ ns) = go (link_name n) (wrong-below (suc k) ns)
  where
    go : (b : Bool) → first_wrong (suc k) ns ≤ suc k + length ns - 1 → cond b (first_wrong (suc k) ns) k ≤ k + length (n ∷ ns) - 1
    go true e = omega arith
    go false e = omega arith

-- a chain's first written name is its first or, after `.W`, its second
wrong-most : (ns : List (List ℕ)) → first_wrong (first_link ns) ns ≤ length (chain ns)
unfolding chain first_wrong
wrong-most [] = omega arith
wrong-most (n ∷ ns) = go (pointed n)
  where
    go : (b : Bool) → first_wrong (cond b 1 2) (n ∷ ns) ≤ length (cond b (n ∷ ns) (dot_w ∷ n ∷ ns))
    go true = omega (arith, wrong-below 1 (n ∷ ns))
    go false = omega (arith, wrong-below 2 (n ∷ ns))

wrong-none : (ns : List (List ℕ)) → eqb (first_wrong (first_link ns) ns) 0 ≡ (eqb (length (chain ns)) 0 || link_names ns)
unfolding chain first_wrong
wrong-none [] = refl
wrong-none (n ∷ ns) = go (pointed n)
  where
    go : (b : Bool) → eqb (first_wrong (cond b 1 2) (n ∷ ns)) 0 ≡ (eqb (length (cond b (n ∷ ns) (dot_w ∷ n ∷ ns))) 0 || link_names (n ∷ ns))
    go true = rw (ne_eqb (length (n ∷ ns)) 0 (λ (z : length (n ∷ ns) ≡ 0). omega arith)) (wrong-zero 1 (n ∷ ns) (omega arith))
    go false = rw (ne_eqb (length (dot_w ∷ n ∷ ns)) 0 (λ (z : length (dot_w ∷ n ∷ ns) ≡ 0). omega arith)) (wrong-zero 2 (n ∷ ns) (omega arith))

-- ---- fair refusals

-- "place (argument from 1; 0 for numbers 0..6, 10, 19, 20, 22)"
abbrev pub placeless : ℕ → Bool
placeless n = leb n 6 || eqb n 10 || eqb n 19 || eqb n 20 || eqb n 22

-- the numbers that refuse: 1 to 21 of document 01, then 23 to 25, 27 and 28
abbrev pub later : ℕ → Bool
later n = leb 23 n && leb n 25 || eqb n 27 || eqb n 28

abbrev pub refuses : ℕ → Bool
refuses n = leb 1 n && leb n 21 || later n

-- the numbers of answers: granted, refused, and "stop number reached with stores left"
abbrev pub answers : ℕ → Bool
answers n = eqb n 0 || (refuses n || eqb n 22)

refuses-some : (n : ℕ) → refuses n ≡ true → 1 ≤ n
refuses-some n e = go (or_cases (leb 1 n && leb n 21) (later n) e)
  where
    one : ((leb 23 n && leb n 25) ≡ true) ⊎ (eqb n 27 ≡ true) → 1 ≤ n
    one (inl f) = omega (arith, leb-true 23 n (and_left (leb 23 n) _ f))
    one (inr f) = omega (arith, eqb-true n 27 f)

    late : ((leb 23 n && leb n 25 || eqb n 27) ≡ true) ⊎ (eqb n 28 ≡ true) → 1 ≤ n
    late (inl f) = one (or_cases (leb 23 n && leb n 25) (eqb n 27) f)
    late (inr f) = omega (arith, eqb-true n 28 f)

    go : ((leb 1 n && leb n 21) ≡ true) ⊎ (later n ≡ true) → 1 ≤ n
    go (inl f) = leb-true _ _ (and_left (leb 1 n) _ f)
    go (inr f) = late (or_cases (leb 23 n && leb n 25 || eqb n 27) (eqb n 28) f)

-- "0 for a lone dash, a chain only too long, any argument that is no chain, and place 0", where an argument that is no chain has no names:
-- a malformed chain each name of which is a link name is a lone dash, or only too long
abbrev pub linkless : (ℕ → List (List ℕ)) → (number argument : ℕ) → Bool
linkless names number argument =
    eqb argument 0 || (eqb (length (chain (names argument))) 0 || eqb number 7 && link_names (names argument))

-- a refusal's number is one of these, its argument is 0 exactly where the list says, and its link is one of the argument's chain
pub record Fair (names : ℕ → List (List ℕ)) (f : Refusal) : Type 0 where
  pub refuses : refuses f.number ≡ true
  pub place : eqb f.place.argument 0 ≡ placeless f.number
  pub most : f.place.link ≤ length (chain (names f.place.argument))
  pub none : eqb f.place.link 0 ≡ linkless names f.number f.place.argument

-- argument a is a chain as long as that of w
pub record Chained (names : ℕ → List (List ℕ)) (a : ℕ) (w : Word) : Type 0 where
  pub from : 1 ≤ a
  pub long : length (chain (names a)) ≡ length (chain_of w)

-- the refusal of a whole line, and that of an argument: the number is tested by computing
abbrev pub of_line : ℕ → Bool
of_line n = refuses n && placeless n

abbrev pub of_argument : ℕ → Bool
of_argument n = refuses n && not (placeless n)

-- .. and the number is not 7
abbrev pub of_chain : ℕ → Bool
of_chain n = of_argument n && not (eqb n 7)

module _ (names : ℕ → List (List ℕ)) where
  pub fair-some : (f : Refusal) → Fair names f → 1 ≤ f.number
  fair-some f h = refuses-some f.number h.refuses

  pub fair-uncut : (f : Refusal) → Fair names f → f.number ≢ 22
  fair-uncut f h e = not-both h.refuses (rw e)

  pub fair-answers : (f : Refusal) → Fair names f → answers f.number ≡ true
  fair-answers f h = or_right (eqb f.number 0) _ (or_left _ (eqb f.number 22) h.refuses)

  abbrev pub FairCheck : Check → Type 0
  FairCheck c = Fair names c.refusal

  pub verdict-fair : (cs : List Check) (f : Refusal) → Every FairCheck cs → verdict cs ≡ refused f → Fair names f
  unfolding verdict
  verdict-fair [] f h e = clash (cc)
  verdict-fair (c ∷ cs) f h e = go c.when e (verdict-fair cs f h.1)
    where
      go : (b : Bool) → cond b (refused c.refusal) (verdict cs) ≡ refused f → (verdict cs ≡ refused f → Fair names f) → Fair names f
      go true p r = let q : c.refusal ≡ f = cc in subst (Fair names) q h.0
      go false p r = r p

  pub fair-line : (n : ℕ) → of_line n ≡ true → Fair names (refusal_at n (whole 0))
  fair-line n e =
      record { refuses = and_left (refuses n) _ e; place = sym (and_right (refuses n) _ e); most = omega arith; none = refl }

  -- an argument's, at a link
  fair-at : (n a link : ℕ) → of_argument n ≡ true → 1 ≤ a → link ≤ length (chain (names a)) → eqb link 0 ≡ linkless names n a
      → Fair names (refusal_at n (at_link a link))
  fair-at n a link e l m z =
      record {
        refuses = and_left (refuses n) _ e;
        place = ne_eqb a 0 (λ (z : a ≡ 0). omega arith) ∙ sym (not-true _ (and_right (refuses n) _ e));
        most = m;
        none = z;
      }

  -- .. but for 7: 0 only where there is no chain
  pub fair-linked : (n a link : ℕ) → of_chain n ≡ true → 1 ≤ a → link ≤ length (chain (names a)) → eqb link 0 ≡ eqb (length (chain (names a))) 0
      → Fair names (refusal_at n (at_link a link))
  fair-linked n a link e l m z =
      fair-at n a link (and_left (of_argument n) _ e) l m
      (rw (ne_eqb a 0 (λ (z : a ≡ 0). omega arith), not-true (eqb n 7) (and_right (of_argument n) _ e), or-false) z)

  -- .. in an end check, the chain's last link
  pub fair-end : (n a : ℕ) (w : Word) → of_chain n ≡ true → Chained names a w → Fair names (refusal_at n (end_of a w))
  fair-end n a w e c = fair-linked n a (length (chain_of w)) e c.from (omega (arith, c.long)) (rw c.long)

  -- .. for 7, the first wrong name
  pub fair-wrong : (a : ℕ) → 1 ≤ a → Fair names (refusal_at 7 (at_link a (first_wrong (first_link (names a)) (names a))))
  fair-wrong a l = fair-at 7 a _ refl l (wrong-most (names a)) (rw (ne_eqb a 0 (λ (z : a ≡ 0). omega arith)) (wrong-none (names a)))

  -- .. and of one that is no chain
  pub fair-whole : (n a : ℕ) → of_argument n ≡ true → 1 ≤ a → names a ≡ [] → Fair names (refusal_at n (whole a))
  unfolding chain
  fair-whole n a e l z = fair-at n a 0 e l (omega arith) (rw (z, ne_eqb a 0 (λ (z : a ≡ 0). omega arith)))
