-- How a plan ends at a stop number: refused at a walk or a check, whole, or cut. Whether it is refused, and with what, and what its
-- stores are, does not go by the stop number; that says only whether they are all made.
use mathlib.Core.Bool.{Bool, true, false, cond}
use mathlib.Core.Path.{◌≡◌, refl}
use Prim.Native.Nat.{ℕ, ◌≤◌, ◌<◌}
use lib.ListN.{length}
use lib.Dec.{leb}
use borrow.Author.Tests.{leb-true, leb-false, le-leb, lt-leb}
use Rattle.paper.specs.Check.{Refusal, Verdict, passed, refused, verdict}
use Rattle.paper.specs.Effect.{Plan, Planned, plan, halted}
use Rattle.paper.specs.Answer.{Ran, refused_by, done, cut, stores, ran}

-- the plan is refused with f
pub data Refused (x : Planned) (f : Refusal) : Type 0 where
  walking : x ≡ halted f → Refused x f
  checked : (p : Plan) → x ≡ plan p → verdict p.checks ≡ refused f → Refused x f

-- the plan is p, and its checks pass
pub record Passed (x : Planned) (p : Plan) : Type 0 where
  pub plan : x ≡ plan p
  pub checks : verdict p.checks ≡ passed

pub ran-by : (X : Ran → Type 0) (k : ℕ) (x : Planned) → ((f : Refusal) → Refused x f → X (refused_by f))
    → ((p : Plan) → Passed x p → length p.stores ≤ k → X (done p))
    → ((p : Plan) → Passed x p → k < length p.stores → X (cut p))
    → X (ran k x)
ran-by X k (halted f) a b c = a f (walking refl)
ran-by X k (plan p) a b c = go (verdict p.checks) refl
  where
    counted : verdict p.checks ≡ passed → (y : Bool) → leb (length p.stores) k ≡ y → X (cond y (done p) (cut p))
    counted e true f = b p (record { plan = refl; checks = e }) (leb-true _ _ f)
    counted e false f = c p (record { plan = refl; checks = e }) (leb-false _ _ f)

    go : (v : Verdict) → verdict p.checks ≡ v → X (stores k p v)
    go passed e = counted e _ refl
    go (refused f) e = a f (checked p refl e)

-- and at every stop number it ends so
pub refuses : (k : ℕ) (x : Planned) (f : Refusal) → Refused x f → ran k x ≡ refused_by f
refuses k x f (walking e) = rw e
refuses k x f (checked p e v) = rw (e, v)

pub passes : (k : ℕ) (x : Planned) (p : Plan) → Passed x p → length p.stores ≤ k → ran k x ≡ done p
passes k x p v l = rw (v.plan, v.checks, le-leb _ _ l)

pub cuts : (k : ℕ) (x : Planned) (p : Plan) → Passed x p → k < length p.stores → ran k x ≡ cut p
cuts k x p v l = rw (v.plan, v.checks, lt-leb _ _ l)
