-- An `Option` and the paper's part carry the same numbers, so each goes to the other and back unchanged; a declaration is then
-- read part by part, each from the place where the widths of the parts before it end.
use mathlib.Core.Bool.{Bool, true, false, cond}
use mathlib.Core.List.{List}
use mathlib.Core.Path.{◌≡◌, refl, sym, ap, ◌∙◌}
use Prim.Native.Nat.{ℕ, ◌+◌}
use lib.ListN.{length}
use borrow.Author.Tests.{eq-eqb, ne_eqb}
use Rattle.std.specs.Prelude.{Option, Some, None}
use Rattle.paper.specs.Declaration as paper
use Rattle.paper.specs.Declaration.{Part, given, not_given, Declared, right, wrong, parts_of, fits, width, byte_at, type_letter, lifetime_letter, level_letter, digit, code_at, level_at, point_at, lifetime_at, declaration}
use Rattle.laws.proofs.Tests.{clash}
use Rattle.records.specs.Part.{shown_part, meant_part}
use Rattle.declarations.specs.Given.{shown_parts, shown_declared, paper_parts, taken}
use Rattle.declarations.specs.declared.declaration.Parts.{Parts}

-- a part shown and taken back, and the other way round
pub part-back : (p : Part) → meant_part (shown_part p) ≡ p
part-back (given n) = refl
part-back not_given = refl

pub part-again : (p : Option ℕ) → shown_part (meant_part p) ≡ p
part-again (Some n) = refl
part-again None = refl

parts-back : (p : paper.Parts) → paper_parts (shown_parts p) ≡ p
parts-back p = simp part-back

-- what a declaration that is shown was
pub declared-back : (d : Declared) (q : Parts) → shown_declared d ≡ Some q → d ≡ right (paper_parts q)
declared-back (right p) q e = let h : shown_parts p ≡ q = cc in rw (← h, parts-back p)
declared-back wrong q e = clash (cc)

pub declared-parts : (d : Declared) (q : Parts) → shown_declared d ≡ Some q → q ≡ shown_parts (parts_of d)
declared-parts (right p) q e = cc
declared-parts wrong q e = clash (cc)

pub declared-wrong : (d : Declared) → shown_declared d ≡ None → d ≡ wrong
declared-wrong (right p) e = clash (cc)
declared-wrong wrong e = refl

-- a function takes the parts that pass its test
pub taken-right : (test : paper.Parts → Bool) (p q : Parts) → taken test (Some p) ≡ Some q → (p ≡ q) × (test (paper_parts p) ≡ true)
taken-right test p q e = go (test (paper_parts p)) e
  where
    go : (b : Bool) → cond b (Some p) None ≡ Some q → (p ≡ q) × (b ≡ true)
    go true f = (cc, refl)
    go false f = clash (cc)

pub taken-wrong : (test : paper.Parts → Bool) (p : Parts) → taken test (Some p) ≡ None → test (paper_parts p) ≡ false
taken-wrong test p e = go (test (paper_parts p)) e
  where
    go : (b : Bool) → cond b (Some p) None ≡ None → b ≡ false
    go true f = clash (cc)
    go false f = refl

-- so a declaration fits a function exactly where the function takes it
pub fits_not : (test : paper.Parts → Bool) (d : Declared) → taken test (shown_declared d) ≡ None → fits test d ≡ false
fits_not test (right p) e = rw (parts-back p) at (taken-wrong test (shown_parts p) e)
fits_not test wrong e = refl

pub fits-taken : (test : paper.Parts → Bool) (d : Declared) (q : Parts) → taken test (shown_declared d) ≡ Some q
    → (fits test d ≡ true) × (q ≡ shown_parts (parts_of d))
fits-taken test (right p) q e = let t = taken-right test (shown_parts p) q e in (rw (parts-back p) at t.1, sym t.0)
fits-taken test wrong q e = clash (cc)

-- after the point: level v of n bytes at place i, then digit g of m bytes
module _ (w : List ℕ) (front : Parts) (i : ℕ) (v : Option ℕ) (n : ℕ) (g : Option ℕ) (m : ℕ)
    (is-level : v ≡ shown_part (level_letter (byte_at w i))) (past-level : n ≡ width (meant_part v))
    (is_digit : g ≡ shown_part (digit (byte_at w (i + n)))) (past-digit : m ≡ width (meant_part g)) where
  level-width : width (level_letter (byte_at w i)) ≡ n
  level-width = sym (past-level ∙ rw is-level (ap width (part-back (level_letter (byte_at w i)))))

  digit-width : width (digit (byte_at w (i + n))) ≡ m
  digit-width = sym (past-digit ∙ rw is_digit (ap width (part-back (digit (byte_at w (i + n))))))

  pub ends : i + n + m ≡ length w
      → Some (record { kind = front.kind; lifetime = front.lifetime; level = v; digit = g })
      ≡ shown_declared (level_at w (paper_parts front) i)
  unfolding level_at code_at
  ends e = rw (level-width, digit-width, eq-eqb (i + n + m) (length w) e, ← is-level, ← is_digit) (simp part-again)

  pub goes_on_lem : (i + n + m ≡ length w → ⊥) → None ≡ shown_declared (level_at w (paper_parts front) i)
  unfolding level_at code_at
  goes_on_lem e = rw (level-width, digit-width, ne_eqb (i + n + m) (length w) e)

-- before the point: type k of a bytes, then lifetime f of n bytes
abbrev pub fore : Option ℕ → Option ℕ → Parts
fore k f = record { kind = k; lifetime = f; level = None; digit = None }

module _ (w : List ℕ) (k : Option ℕ) (a : ℕ) (f : Option ℕ) (n : ℕ)
    (is-kind : k ≡ shown_part (type_letter (byte_at w 0))) (past-kind : a ≡ width (meant_part k))
    (is-lifetime : f ≡ shown_part (lifetime_letter (byte_at w a))) (past-lifetime : n ≡ width (meant_part f)) where
  kind-width : width (type_letter (byte_at w 0)) ≡ a
  kind-width = sym (past-kind ∙ rw is-kind (ap width (part-back (type_letter (byte_at w 0)))))

  lifetime-width : width (lifetime_letter (byte_at w a)) ≡ n
  lifetime-width = sym (past-lifetime ∙ rw is-lifetime (ap width (part-back (lifetime_letter (byte_at w a)))))

  reads : declaration w ≡ point_at w (paper_parts (fore k f)) (a + n)
  unfolding declaration lifetime_at
  reads = rw (kind-width, lifetime-width, is-kind, is-lifetime) (simp part-back)

  pub unpointed : a + n ≡ length w → Some (fore k f) ≡ shown_declared (declaration w)
  unfolding point_at
  unpointed e = rw (reads, eq-eqb (a + n) (length w) e) (simp part-again)

  pub misplaced : (a + n ≡ length w → ⊥) → (byte_at w (a + n) ≡ 46 → ⊥) → None ≡ shown_declared (declaration w)
  unfolding point_at
  misplaced e g = rw (reads, ne_eqb (a + n) (length w) e, ne_eqb (byte_at w (a + n)) 46 g)

  pub pointed-on : (a + n ≡ length w → ⊥) → byte_at w (a + n) ≡ 46
      → shown_declared (level_at w (paper_parts (fore k f)) (a + n + 1)) ≡ shown_declared (declaration w)
  unfolding point_at
  pointed-on e g = rw (reads, ne_eqb (a + n) (length w) e, eq-eqb (byte_at w (a + n)) 46 g)
