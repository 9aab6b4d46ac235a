-- A granted request is one plan of the shape of the power cut, or leaves the table as it is; so is one name of a DEL. So each of its records
-- has a turn, both tables are sound, and what a disk may hold, mended, is the one or the other.
use mathlib.Core.Bool.{true}
use mathlib.Core.List.{List, [], ◌∷◌}
use mathlib.Core.Logic.{◌⊎◌, inl, inr}
use mathlib.Core.Path.{◌≡◌, refl, sym, ◌∙◌}
use Prim.Native.Nat.{ℕ, ◌+◌, ◌≤◌}
use native.Mathlib.Omega.{arith}
use lib.ListN.{length}
use Rattle.paper.specs.Layout.{boxed}
use Rattle.paper.specs.Table.{sized, rec}
use Rattle.paper.specs.Line.{Word}
use Rattle.paper.specs.Sound.{sound}
use Rattle.paper.specs.Store.{run}
use Rattle.paper.specs.Effect.{Plan, Planned, del_plan}
use Rattle.paper.specs.Mend.{mend_stores, mended}
use Rattle.paper.specs.Answer.{Outcome, Ran, ran, single, one_name, deleting, requested, mending}
use Rattle.laws.proofs.Runs.{length_run}
use Rattle.demands.proofs.Sound.Right.{Right, sound-right, right-sound}
use Rattle.demands.proofs.Request.Several.{deletion, destruction}
use Rattle.demands.proofs.Request.Ended.{Passed, ran-by}
use Rattle.demands.proofs.SoundKept.Kept.{Keeps, passed-sound, del-keeps}
use Rattle.demands.proofs.Mending.{mended_whole, mend-whole}
use Rattle.demands.proofs.Mending.Part.{equal}
use Rattle.demands.proofs.PowerCut.Plans.{Safe, del-safe}
use Rattle.demands.proofs.PowerCut.Landing.{passed-shaped}
use Rattle.demands.proofs.Tried.{Tried, lent, by-plan, by_names, by-rewrite, ways}
use Rattle.disk.specs.Phase.{entry, phase}
use Rattle.disk.specs.Disk.{Granted, whole, name, InOrder}
use Rattle.disk_demands.proofs.Turns.{kept, Turns, shaped-turns}
use Rattle.disk_demands.proofs.Mended.{counts-there, not_there, there, either-one}

-- u is sound, as long as t, and each record has a turn
pub record Turned (t u : List ℕ) : Type 0 where
  pub sound : Right u
  pub long : length u ≡ length t
  pub turns : Turns t u

-- nothing is stored
unturned : (t u : List ℕ) → Right t → u ≡ t → Turned t u
unturned t u c e = rw e (record { sound = c; long = refl; turns = record { at = 0; each = λ i l. kept (equal refl) } })

plan-turned : (t : List ℕ) (x : Planned) (p : Plan) → Safe t x → Keeps t x → Passed x p → Turned t (run t p.stores)
plan-turned t x p safe keeps v =
    record {
      sound = passed-sound t x p keeps v;
      long = length_run t p.stores;
      turns = shaped-turns t p.stores (passed-shaped t x p safe v);
    }

-- an answer of 0 of one plan, and of one name
single-turned : (t reply : List ℕ) (k : ℕ) → Right t → (x : Planned) → Safe t x → Keeps t x
    → (single t reply k (ran k x)).answer.number ≡ 0 → Turned t (single t reply k (ran k x)).table
single-turned t reply k c x safe keeps =
    ran-by (λ y. (single t reply k y).answer.number ≡ 0 → Turned t (single t reply k y).table) k x
    (λ _ _ _. unturned t t c refl) (λ p v _ _. plan-turned t x p safe keeps v) (λ p v l z. let n : ⊥ = omega (arith, z) in absurd n)

name-turned : (t : List ℕ) (u k n made : ℕ) (w : Word) → Right t → (deleting (del_plan boxed) t u [] k n made (w ∷ [])).answer.number ≡ 0
    → Turned t (deleting (del_plan boxed) t u [] k n made (w ∷ [])).table
unfolding deleting
name-turned t u k n made w c =
    ran-by (λ y. (after y).answer.number ≡ 0 → Turned t (after y).table) k (del_plan boxed t u (n + 1) w)
    (λ _ _ _. unturned t t c refl)
    (λ p v _ _. plan-turned t (del_plan boxed t u (n + 1) w) p (del-safe t c.clauses u (n + 1) w) (del-keeps t u (n + 1) w c.clauses) v)
    (λ p v l z. let b : ⊥ = omega (arith, z) in absurd b)
  where
    after : Ran → Outcome
    after y = one_name t [] k n made (λ t₁ k₁ n₁ made₁. deleting (del_plan boxed) t₁ u [] k₁ n₁ made₁ []) y

pub granted-turned : (t u : List ℕ) → Right t → Granted t u → Turned t u
granted-turned t u c (name user stop n made w z e) = rw e (name-turned t user stop n made w c z)
granted-turned t u c (whole line text reply user stop alone all whole-file z e) = rw e (go (ways t line text reply user))
  where
    go : Tried t line text reply user → Turned t (requested boxed t line text reply user stop).table
    go (lent f q) = rw (q stop) (unturned t t c refl)
    go (by-plan x safe keeps q) = rw (q stop) (single-turned t reply stop c x safe keeps (rw (q stop) at z))
    go (by_names deletion names a q) = absurd (alone names a)
    go (by_names destruction names a q) = absurd (all names a)
    go (by-rewrite w a b q) = absurd (whole-file w a)

-- "mending x answers 0 and gives t or" u, "byte for byte, and it is" u "once the entry is there"
pub record Mends (t u x : List ℕ) : Type 0 where
  pub either : (mended x ≡ t) ⊎ (mended x ≡ u)
  pub not_there : (i : ℕ) → phase t u i ≡ entry → rec x i ≡ rec t i → mended x ≡ t
  pub there : (i : ℕ) → phase t u i ≡ entry → rec x i ≡ rec u i → mended x ≡ u
  pub answers : (k : ℕ) → length (mend_stores x) ≤ k → mending boxed x k ≡ mended_whole x

pub on-disk : (t u x : List ℕ) → sized t ≡ true → sound boxed t ≡ true → Granted t u → InOrder t u x → Mends t u x
on-disk t u x s e g o =
    record {
      either = one;
      not_there = not_there t u d.long d.turns c d.sound x o;
      there = there t u d.long d.turns c d.sound x o;
      answers = λ k. mend-whole x k f.0 f.1;
    }
  where
    c : Right t
    c = sound-right t s e

    d : Turned t u
    d = granted-turned t u c g

    one : (mended x ≡ t) ⊎ (mended x ≡ u)
    one = either-one t u d.long d.turns c d.sound x o

    end : (mended x ≡ t) ⊎ (mended x ≡ u) → Right (mended x)
    end (inl q) = rw q c
    end (inr q) = rw q d.sound

    f : (sized (mended x) ≡ true) × (sound boxed (mended x) ≡ true)
    f = right-sound (mended x) (end one)

-- "the one record"
pub one_entry : (t u : List ℕ) → sized t ≡ true → sound boxed t ≡ true → Granted t u
    → (i j : ℕ) → phase t u i ≡ entry → phase t u j ≡ entry → i ≡ j
one_entry t u s e g i j p q =
    let d = granted-turned t u (sound-right t s e) g in
    counts-there t u d.long d.turns i p ∙ sym (counts-there t u d.long d.turns j q)
