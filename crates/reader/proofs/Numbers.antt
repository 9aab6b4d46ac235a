-- RDS's two numbers are tried after its name, the first before the count: where the checks before them passed, the first that is
-- no number refuses, and of both, given or not, the request has what they give.
use mathlib.Core.Bool.{Bool, true, false, not, cond}
use mathlib.Core.List.{List, [], ◌∷◌, ◌++◌}
use mathlib.Core.Path.{◌≡◌, refl, sym}
use Prim.Native.Nat.{ℕ}
use lib.Dec.{leb}
use Rattle.paper.specs.Name.{same}
use Rattle.paper.specs.Declaration.{given, not_given}
use Rattle.paper.specs.Octal as paper
use Rattle.paper.specs.Octal.{number, no_number, digits, octal, part_of, is_number, is_count}
use Rattle.paper.specs.Check as paper_check
use Rattle.paper.specs.Check.{whole, refusal_at, Check, check, passed, refused, verdict}
use Rattle.paper.specs.Request as asked
use Rattle.paper.specs.Line.{word}
use Rattle.words.specs.Place.{word_at}
use Rattle.paper.specs.Request.{octal_at, read_as, bad_number}
use Rattle.laws.proofs.Tests.{clash}
use Rattle.words.specs.Place.{lone_of}
use Rattle.records.specs.Part.{shown_part}
use Rattle.words.specs.Shown.{shown_octal}
use Rattle.words.specs.declared.octal.NoNumber.{NoNumber}
use Rattle.reader.specs.Asked.{old_checks, count_of, shown_verdict, shown_request, shown_read}
use Rattle.std.specs.Prelude.{Option, Some, Result, Ok, Err}
use Rattle.reader.proofs.Verdicts.{old-form, first-refused, first-passed, read-refused}

-- the number of a word is known by its stretch
pub octal-lone : (ns : List (List ℕ)) → octal (lone_of ns ∷ []) ≡ octal ns
unfolding octal digits same
octal-lone [] = refl
octal-lone (n ∷ []) = refl
octal-lone (n ∷ m ∷ ns) = refl

abbrev numbers : paper.Octal → paper.Octal → List Check
numbers f c = bad_number 2 (is_number f) ∷ bad_number 3 (is_count c) ∷ []

bad-first : (f c : paper.Octal) → shown_octal f ≡ Err (record {}) → verdict (numbers f c) ≡ refused (refusal_at 27 (whole 2))
unfolding verdict
bad-first (number p) c e = clash (cc)
bad-first no_number c e = refl

bad-count : (f c : paper.Octal) (p : Option ℕ) → shown_octal f ≡ Ok p → count_of (shown_octal c) ≡ Err (record {})
    → verdict (numbers f c) ≡ refused (refusal_at 27 (whole 3))
unfolding verdict
bad-count no_number c p e h = clash (cc)
bad-count (number x) no_number p e h = refl
bad-count (number x) (number not_given) p e h = clash (cc)
bad-count (number x) (number (given n)) p e h = go (leb 1 n) h
  where
    go : (b : Bool) → cond {A = Result (Option ℕ) NoNumber} b (Ok (Some n)) (Err (record {})) ≡ Err (record {})
        → verdict (check false 27 (whole 2) ∷ check (not b) 27 (whole 3) ∷ []) ≡ refused (refusal_at 27 (whole 3))
    go true k = clash (cc)
    go false k = refl

good : (f c : paper.Octal) (p q : Option ℕ) → shown_octal f ≡ Ok p → count_of (shown_octal c) ≡ Ok q
    → (verdict (numbers f c) ≡ passed) × ((p ≡ shown_part (part_of f)) × (q ≡ shown_part (part_of c)))
unfolding verdict
good no_number c p q e h = clash (cc)
good (number x) no_number p q e h = clash (cc)
good (number x) (number not_given) p q e h = (refl, (cc, cc))
good (number x) (number (given n)) p q e h = go (leb 1 n) h
  where
    go : (b : Bool) → cond {A = Result (Option ℕ) NoNumber} b (Ok (Some n)) (Err (record {})) ≡ Ok q
        → (verdict (check false 27 (whole 2) ∷ check (not b) 27 (whole 3) ∷ []) ≡ passed) × ((p ≡ shown_part x) × (q ≡ Some n))
    go true k = (refl, (cc, cc))
    go false k = clash (cc)

-- the checks of RDS's name, word 1, which starts at p, then its numbers, words 2 and 3
abbrev named : List ℕ → List Check
named line = old_checks 1 3 line (word line 1)

abbrev rds_read : asked.Request → List ℕ → asked.Read
rds_read r line = read_as r (verdict (named line ++ numbers (octal_at line 2) (octal_at line 3)))

module _ (r : asked.Request) (line : List ℕ) (p : ℕ) (old : p ≡ (word line 1).start) where
  pub name-refused : {e : paper_check.Refusal} → Err e ≡ shown_verdict (verdict (old_checks 1 3 line (word_at line p))) → Err e ≡ shown_read (rds_read r line)
  name-refused {e} h = read-refused _ _ (first-refused e (numbers (octal_at line 2) (octal_at line 3)) (named line) (old-form 1 3 line p _ old h))

  module _ (u : Unit) (h : Ok u ≡ shown_verdict (verdict (old_checks 1 3 line (word_at line p)))) where
    past-name : verdict (named line ++ numbers (octal_at line 2) (octal_at line 3)) ≡ verdict (numbers (octal_at line 2) (octal_at line 3))
    past-name = first-passed u (numbers (octal_at line 2) (octal_at line 3)) (named line) (old-form 1 3 line p _ old h)

    pub no-first : Err (record {}) ≡ shown_octal (octal_at line 2) → Err (refusal_at 27 (whole 2)) ≡ shown_read (rds_read r line)
    no-first e = rw (past-name, bad-first (octal_at line 2) (octal_at line 3) (sym e))

    pub no-count : (x : Option ℕ) → Ok x ≡ shown_octal (octal_at line 2) → Err (record {}) ≡ count_of (shown_octal (octal_at line 3))
        → Err (refusal_at 27 (whole 3)) ≡ shown_read (rds_read r line)
    no-count x e f = rw (past-name, bad-count (octal_at line 2) (octal_at line 3) x (sym e) (sym f))

    pub numbers-passed : (x y : Option ℕ) → Ok x ≡ shown_octal (octal_at line 2) → Ok y ≡ count_of (shown_octal (octal_at line 3))
        → (Ok (shown_request r) ≡ shown_read (rds_read r line))
        × ((x ≡ shown_part (part_of (octal_at line 2))) × (y ≡ shown_part (part_of (octal_at line 3))))
    numbers-passed x y e f =
        let g = good (octal_at line 2) (octal_at line 3) x y (sym e) (sym f) in (rw (past-name, g.0), g.1)
