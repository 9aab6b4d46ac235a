-- The two courses of a request, each the same for every stop number: refused at the entrance or by the reader, with a fair refusal,
-- or tried with what was read, on a table and for a user that the entrance let through.
use mathlib.Core.Bool.{true}
use mathlib.Core.List.{List}
use mathlib.Core.Path.{◌≡◌, refl}
use Prim.Native.Nat.{ℕ, ◌≤◌}
use borrow.Author.Tests.{le-ltb, not-false, ltb-false}
use Rattle.paper.specs.Layout.{boxed}
use Rattle.paper.specs.Table.{sized}
use Rattle.paper.specs.Check.{Refusal, Verdict, passed, refused, verdict}
use Rattle.paper.specs.Request.{Request, Read, request, unread, asked}
use Rattle.paper.specs.Sound.{sound}
use Rattle.paper.specs.Answer.{refusing, granted, entrance, requested}
use Rattle.demands.proofs.Request.Fair.{Fair, verdict-idle, verdict-fair, fair-line}
use Rattle.demands.proofs.Request.Chains.{names_at}
use Rattle.demands.proofs.Request.Spoken.{Spoken, Said, said}
use Rattle.demands.proofs.Request.Read.{Told, Right, read_right}

-- what the entrance let through, and the reader gave
pub record Admitted (t line text : List ℕ) (u : ℕ) (r : Request) : Type 0 where
  pub sized : sized t ≡ true
  pub sound : sound boxed t ≡ true
  pub user : u ≤ 999999
  pub asked : asked line text ≡ request r
  pub told : Told text r
  pub spoken : Spoken (names_at line) r

-- 1, 2 and 3
pub entrance-fair : (names : ℕ → List (List ℕ)) (t : List ℕ) (u : ℕ) (f : Refusal) → entrance boxed t u ≡ refused f → Fair names f
unfolding entrance
entrance-fair names t u f p = verdict-fair names _ f (fair-line names 1 refl, (fair-line names 2 refl, (fair-line names 3 refl, tt))) p

-- what was read is tried where the entrance lets it through
pub admits : (t line text reply : List ℕ) (u k : ℕ) (r : Request) → sized t ≡ true → sound boxed t ≡ true → u ≤ 999999 → asked line text ≡ request r
    → requested boxed t line text reply u k ≡ granted boxed t text reply u k r
unfolding requested entrance verdict
admits t line text reply u k r z c l q = rw (z, c, le-ltb 999999 u l, q)

pub data Course (t line text reply : List ℕ) (u : ℕ) : Type 0 where
  untried : (f : Refusal) → Fair (names_at line) f → ((k : ℕ) → requested boxed t line text reply u k ≡ refusing t reply f) → Course t line text reply u
  tried : (r : Request) → Admitted t line text u r → ((k : ℕ) → requested boxed t line text reply u k ≡ granted boxed t text reply u k r)
      → Course t line text reply u

pub course : (t line text reply : List ℕ) (u : ℕ) → Course t line text reply u
unfolding requested entrance
course t line text reply u = enters (entrance boxed t u) refl
  where
    reads : entrance boxed t u ≡ passed → (x : Read) → asked line text ≡ x → Right text x → Said (names_at line) x → Course t line text reply u
    reads p (unread f) q h s = untried f s (λ k. rw (p, q))
    reads p (request r) q h s =
        let i = verdict-idle _ p in
        tried r (record {
          sized = not-false (sized t) i.0;
          sound = not-false (sound boxed t) i.1.0;
          user = ltb-false _ _ i.1.1.0;
          asked = q;
          told = h;
          spoken = s;
        })
        (λ k. rw (p, q))

    enters : (v : Verdict) → entrance boxed t u ≡ v → Course t line text reply u
    enters passed p = reads p (asked line text) refl (read_right line text) (said line text)
    enters (refused f) p =
        untried f (entrance-fair (names_at line) t u f p) (λ k. rw p)

-- what was read is one request
pub same-request : {r s : Request} → request r ≡ request s → r ≡ s
same-request e = cc
