-- The lamp's own refusal: each test is tried over all sheets before the next, so it is the first test that some sheet fails, at the
-- first sheet that fails it. One law over a list of tests, each of them numbered one more than the last.
use mathlib.Core.Bool.{Bool, true, false}
use mathlib.Core.List.{List, [], ◌∷◌, ◌++◌, append_assoc, append-nil}
use mathlib.Core.Logic.{◌⊎◌, inl, inr, ◌≢◌, by_cases}
use mathlib.Core.Path.{◌≡◌, refl, ◌∙◌}
use Prim.Native.Nat.{ℕ, zero, suc, ◌+◌, ◌<◌}
use native.Mathlib.Omega.{arith}
use native.Mathlib.Decide.{ℕ_discrete}
use lib.ListN.{get_or}
use Rattle.paper.specs.Check.{whole, refusal_at, Check, check, Verdict, passed, refused, verdict}
use Rattle.paper.specs.Scan.{any_below, join_below}
use Rattle.laws.proofs.Tests.{truth, or-no-left, or-no-right}
use Rattle.laws.proofs.Scans.{First, least, any_none}
use Rattle.job.specs.Sheet.{count}
use Rattle.job.specs.Refusal.{malformed, twice, missing, too_long, each, admission}

-- ---- one test over n sheets

pub each_none : (a : ℕ) (p : ℕ → Bool) (n : ℕ) (cs : List Check) → any_below p n ≡ false → verdict (each a p n ++ cs) ≡ verdict cs
unfolding each join_below any_below verdict
each_none a p zero cs e = refl
each_none a p (suc n) cs e =
    rw append_assoc (each_none a p n (check (p n) a (whole (suc n)) ∷ cs) (or-no-right (p n) (any_below p n) e) ∙ rw (or-no-left (p n) (any_below p n) e))

pub each_first : (a : ℕ) (p : ℕ → Bool) (n i : ℕ) (cs : List Check) → First p n i
    → verdict (each a p n ++ cs) ≡ refused (refusal_at a (whole (suc i)))
unfolding each join_below verdict
each_first a p zero i cs f = let z : ⊥ = omega (arith, f.below) in absurd z
each_first a p (suc n) i cs f =
    rw append_assoc
    (by_cases (ℕ_discrete i n)
    (λ (q : i ≡ n). each_none a p n (check (p n) a (whole (suc n)) ∷ cs) (rw q at f.none) ∙ rw (← q, f.passes))
    (λ (q : i ≢ n). let l : i < n = omega (arith, f.below) in
    each_first a p n i (check (p n) a (whole (suc n)) ∷ cs) (record { below = l; passes = f.passes; none = f.none })))

-- ---- a list of tests

tries : ℕ → ℕ → List (ℕ → Bool) → List Check
tries n a [] = []
tries n a (p ∷ ps) = each a p n ++ tries n (suc a) ps

-- test m of a list; past the last, one that no sheet fails
abbrev pub test : List (ℕ → Bool) → ℕ → ℕ → Bool
test ps m = get_or ps m (λ _. false)

-- a refusal: test m is the first that some sheet fails, and sheet i the first that fails it
pub record Fails (n : ℕ) (ps : List (ℕ → Bool)) (m i : ℕ) : Type 0 where
  pub first : First (test ps m) n i
  pub earlier : (h : ℕ) → h < m → any_below (test ps h) n ≡ false

abbrev pub Passes : ℕ → List (ℕ → Bool) → Type 0
Passes n ps = (m : ℕ) → any_below (test ps m) n ≡ false

data Tried (n a : ℕ) (ps : List (ℕ → Bool)) (v : Verdict) : Type 0 where
  passes : Passes n ps → v ≡ passed → Tried n a ps v
  fails : (m i : ℕ) → Fails n ps m i → v ≡ refused (refusal_at (a + m) (whole (suc i))) → Tried n a ps v

none-later : (n : ℕ) (p : ℕ → Bool) (ps : List (ℕ → Bool)) (k : ℕ) → any_below p n ≡ false → ((h : ℕ) → h < k → any_below (test ps h) n ≡ false)
    → (h : ℕ) → h < suc k → any_below (test (p ∷ ps) h) n ≡ false
none-later n p ps k e f zero l = e
none-later n p ps k e f (suc h) l = f h (omega arith)

tried : (n a : ℕ) (ps : List (ℕ → Bool)) → Tried n a ps (verdict (tries n a ps))
unfolding tries verdict
tried n a [] = passes (λ m. any_none (λ _. false) n (λ i l. refl)) refl
tried n a (p ∷ ps) = go (truth (any_below p n)) (tried n (suc a) ps)
  where
    later : any_below p n ≡ false → Tried n (suc a) ps (verdict (tries n (suc a) ps)) → Tried n a (p ∷ ps) (verdict (tries n a (p ∷ ps)))
    later e (passes h q) =
        passes (λ m. none-later n p ps m e (λ k _. h k) m (omega arith)) (each_none a p n (tries n (suc a) ps) e ∙ q)
    later e (fails m i g q) =
        let z : suc a + m ≡ a + suc m = omega arith in
        fails (suc m) i (record { first = g.first; earlier = none-later n p ps m e g.earlier })
        (each_none a p n (tries n (suc a) ps) e ∙ rw z at q)

    go : (any_below p n ≡ true) ⊎ (any_below p n ≡ false) → Tried n (suc a) ps (verdict (tries n (suc a) ps))
        → Tried n a (p ∷ ps) (verdict (tries n a (p ∷ ps)))
    go (inr e) r = later e r
    go (inl e) r =
        let f = least p n e in
        let z : a ≡ a + 0 = omega arith in
        fails 0 f.0 (record { first = f.1; earlier = λ h l. let o : ⊥ = omega arith in absurd o })
        (rw (← z) (each_first a p n f.0 (tries n (suc a) ps) f.1))

-- ---- the lamp's four

module _ (sheets texts back : List ℕ) where
  -- "1 sheet malformed", "2 name twice", "3 texts shorter than the lengths' sum", "4 read-back buffer shorter than the longest text"
  abbrev pub tests : List (ℕ → Bool)
  tests = malformed sheets ∷ twice sheets ∷ missing sheets texts ∷ too_long sheets back ∷ []

  pub data Admitted (v : Verdict) : Type 0 where
    admits : Passes (count sheets) tests → v ≡ passed → Admitted v
    refuses : (m i : ℕ) → Fails (count sheets) tests m i → v ≡ refused (refusal_at (suc m) (whole (suc i))) → Admitted v

  pub admitted : Admitted (admission sheets texts back)
  unfolding admission tries
  admitted = go (tried (count sheets) 1 tests)
    where
      joined : admission sheets texts back ≡ verdict (tries (count sheets) 1 tests)
      joined = simp (append_assoc, append-nil)

      go : Tried (count sheets) 1 tests (verdict (tries (count sheets) 1 tests)) → Admitted (admission sheets texts back)
      go (passes h q) = admits h (joined ∙ q)
      go (fails m i f q) = let z : 1 + m ≡ suc m = omega arith in refuses m i f (joined ∙ rw z at q)
