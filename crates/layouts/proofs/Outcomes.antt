-- Two outcomes that are the same to whoever asked: the same seven numbers, the same reply, and twin tables.
-- Two plans that lead to them: the same checks and reply, and stores alike, so that whatever the stop number is, what was stored is.
use mathlib.Core.Bool.{Bool, true, false, cond, true≢false}
use mathlib.Core.List.{List}
use mathlib.Core.Path.{◌≡◌, refl, sym, ap, subst}
use Prim.Native.Nat.{ℕ}
use lib.Dec.{leb}
use lib.ListN.{length}
use Rattle.paper.specs.Layout.{Layout}
use Rattle.paper.specs.Check.{Refusal, Verdict, passed, refused, verdict}
use Rattle.paper.specs.Effect.{Plan, Planned, plan, halted}
use Rattle.paper.specs.Answer.{Outcome, Ran, refused_by, done, cut, stores, ran, single}
use Rattle.layouts.proofs.Twins.{Twins, Alike, run-twins, alike-length, alike-take}

-- tests that are equal go the same way
pub both_ways : {X : Type 0} (R : X → X → Type 0) (b c : Bool) {x x₁ y y₁ : X} → b ≡ c → R x y → R x₁ y₁ → R (cond b x x₁) (cond c y y₁)
both_ways R true true e h k = h
both_ways R false false e h k = k
both_ways R true false e h k = absurd (true≢false e)
both_ways R false true e h k = absurd (true≢false (sym e))

pub record Same (A B : Layout) (o p : Outcome) : Type 0 where
  pub answer : o.answer ≡ p.answer
  pub reply : o.reply ≡ p.reply
  pub table : Twins A B o.table p.table

pub record SamePlan (A B : Layout) (p q : Plan) : Type 0 where
  pub checks : p.checks ≡ q.checks
  pub stores : Alike A B p.stores q.stores
  pub displaced : p.displaced ≡ q.displaced
  pub reply : p.reply ≡ q.reply

pub data Agree (A B : Layout) : Planned → Planned → Type 0 where
  halts : (f : Refusal) → Agree A B (halted f) (halted f)
  plans : {p q : Plan} → SamePlan A B p q → Agree A B (plan p) (plan q)

-- how both end: refused alike, or both done, or both cut
pub data Ends (A B : Layout) : Ran → Ran → Type 0 where
  refuses : (f : Refusal) → Ends A B (refused_by f) (refused_by f)
  finish : {p q : Plan} → SamePlan A B p q → Ends A B (done p) (done q)
  breaks : {p q : Plan} → SamePlan A B p q → Ends A B (cut p) (cut q)

module _ {A B : Layout} where
  pub ran-twin : (k : ℕ) {x y : Planned} → Agree A B x y → Ends A B (ran k x) (ran k y)
  ran-twin k (halts f) = refuses f
  ran-twin k (plans {p} {q} h) =
      subst (λ (v : Verdict). Ends A B (stores k p v) (stores k q (verdict q.checks))) (sym (ap verdict h.checks)) (go (verdict q.checks))
    where
      go : (v : Verdict) → Ends A B (stores k p v) (stores k q v)
      go passed = both_ways (Ends A B) (leb (length p.stores) k) (leb (length q.stores) k) (rw (alike-length h.stores)) (finish h) (breaks h)
      go (refused f) = refuses f

  pub single-twin : {t s : List ℕ} → Twins A B t s → (reply : List ℕ) (k : ℕ) {x y : Ran} → Ends A B x y → Same A B (single t reply k x) (single s reply k y)
  single-twin w reply k (refuses f) = record { answer = refl; reply = refl; table = w }
  single-twin w reply k (finish h) =
      record { answer = rw (h.displaced, h.reply, alike-length h.stores); reply = rw h.reply; table = run-twins h.stores w }
  single-twin w reply k (breaks h) = record { answer = refl; reply = refl; table = run-twins (alike-take k h.stores) w }
