-- An RDS goes by the length of the reply buffer alone, and by no text and no stop number: it makes no store, and of the buffer it asks
-- only whether the file's text fits. So a text once read is read by every RDS of that name, into any buffer that is long enough.
use mathlib.Core.List.{List, []}
use mathlib.Core.Path.{◌≡◌, refl, sym, ap, ◌∙◌}
use Prim.Native.Nat.{ℕ, ◌≤◌}
use native.Mathlib.Omega.{arith}
use lib.ListN.{length, take, drop}
use lib.Seq.{take-append_seam}
use Rattle.paper.specs.Layout.{boxed}
use Rattle.paper.specs.Declaration.{Part}
use Rattle.paper.specs.Line.{Word}
use Rattle.paper.specs.Check.{Refusal, Verdict, passed, refused, verdict}
use Rattle.paper.specs.Request.{Begin, old_from, rds, Read, request, unread, read, asked}
use Rattle.paper.specs.Effect.{list_of, begun, part, rds_plan}
use Rattle.paper.specs.Answer.{Outcome, Ran, refused_by, done, cut, ran, refusing, single, granted, entrance, requested}
use Rattle.demands.proofs.Request.Fair.{Fair, fair-some}
use Rattle.demands.proofs.Request.Chains.{names_at}
use Rattle.demands.proofs.Request.Spoken.{said}
use Rattle.demands.proofs.Request.Course.{entrance-fair}
use Rattle.demands.proofs.Parts.{bringing, granted_text, part-read, part-shown}
use Rattle.job.specs.Reading.{rds_line}
use Rattle.job_demands.proofs.Lines.{rds-read}

-- ---- the two ways of a reading line

-- for every text, buffer and stop number at once
data Came (t line : List ℕ) (u : ℕ) : Type 0 where
  lent : (f : Refusal) → Fair (names_at line) f → ((text b : List ℕ) (k : ℕ) → requested boxed t line text b u k ≡ refusing t b f) → Came t line u
  tried : (from : Begin) (w : Word) (first count : Part) → read line ≡ request (rds from w first count)
      → ((text b : List ℕ) (k : ℕ) → requested boxed t line text b u k ≡ single t b k (ran k (rds_plan boxed t (list_of u from) b (begun from w) first count)))
      → Came t line u

came : (t chain link : List ℕ) (u : ℕ) → Came t (rds_line chain link) u
unfolding requested entrance asked granted verdict
came t chain link u = enters (entrance boxed t u) refl
  where
    line : List ℕ
    line = rds_line chain link

    by : entrance boxed t u ≡ passed → (from : Begin) (w : Word) (first count : Part) → read line ≡ request (rds from w first count) → Came t line u
    by p from w first count q = tried from w first count q (λ text b k. rw (p, q))

    reads : entrance boxed t u ≡ passed → (x : Read) → read line ≡ x → Came t line u
    reads p (unread f) q = lent f (rw q at (said line [])) (λ text b k. rw (p, q))
    reads p (request r) q = let w = rds-read chain link r q in by p (old_from w.0) w.0 w.1 w.2 (q ∙ ap request w.3)

    enters : (v : Verdict) → entrance boxed t u ≡ v → Came t line u
    enters passed p = reads p (read line) refl
    enters (refused f) p = lent f (entrance-fair (names_at line) t u f p) (λ text b k. rw p)

-- ---- two buffers of one length

-- the answer, and what stands in the bytes written
pub record Alike (o p : Outcome) : Type 0 where
  pub answer : o.answer ≡ p.answer
  pub text : take o.answer.bytes o.reply ≡ take p.answer.bytes p.reply

plan-length : (t : List ℕ) (u : ℕ) (w : Word) (first count : Part) (b c : List ℕ) → length b ≡ length c
    → rds_plan boxed t u b w first count ≡ rds_plan boxed t u c w first count
unfolding rds_plan
plan-length t u w first count b c e = simp e

pub buffer-length : (t chain link text b c : List ℕ) (u k : ℕ) → length b ≡ length c
    → Alike (requested boxed t (rds_line chain link) text b u k) (requested boxed t (rds_line chain link) text c u k)
buffer-length t chain link text b c u k e = go (came t chain link u)
  where
    by : (x : Ran) → Alike (single t b k x) (single t c k x)
    by (refused_by f) = record { answer = refl; text = refl }
    by (done p) =
        record {
          answer = refl;
          text = take-append_seam p.reply (drop (length p.reply) b) ∙ sym (take-append_seam p.reply (drop (length p.reply) c));
        }
    by (cut p) = record { answer = refl; text = refl }

    go : Came t (rds_line chain link) u → Alike (requested boxed t (rds_line chain link) text b u k) (requested boxed t (rds_line chain link) text c u k)
    go (lent f h q) = rw (q text b k, q text c k) (record { answer = refl; text = refl })
    go (tried from w first count _ q) =
        rw (q text b k, q text c k, plan-length t (list_of u from) (begun from w) first count b c e)
        (by (ran k (rds_plan boxed t (list_of u from) c (begun from w) first count)))

-- ---- any buffer that is long enough

-- a text once read is read with every text, buffer and stop number
pub read_again : (t chain link text b s : List ℕ) (u k : ℕ) → (requested boxed t (rds_line chain link) text b u k).answer.number ≡ 0
    → take (requested boxed t (rds_line chain link) text b u k).answer.bytes (requested boxed t (rds_line chain link) text b u k).reply ≡ s
    → (x c : List ℕ) (j : ℕ) → length s ≤ length c → requested boxed t (rds_line chain link) x c u j ≡ bringing t s c
unfolding asked verdict
read_again t chain link text b s u k n e x c j l = go (came t chain link u)
  where
    line : List ℕ
    line = rds_line chain link

    go : Came t line u → requested boxed t line x c u j ≡ bringing t s c
    go (lent f h q) = let z : f.number ≡ 0 = rw (q text b k) at n in let o : ⊥ = omega (arith, fair-some (names_at line) f h) in absurd o
    go (tried from w first count r q) =
        let p = part-shown t line text b u k from w first count (rw r) n in
        let y : List ℕ = part (granted_text t u from w p.0) first count in
        let o : y ≡ s = sym (take-append_seam y (drop (length y) b)) ∙ rw p.2 at e in
        part-read t line x c u j from w first count (rw r) p.0 (record { within = p.1.within; fits = rw o l }) ∙ rw o
