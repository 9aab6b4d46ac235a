-- A refusal's promise, and a function's: made without the reply or without the stop number, it is `granted`'s for each of three kinds of
-- request, those that store, those that write, and those of several names.
use mathlib.Core.List.{List, []}
use mathlib.Core.Path.{◌≡◌, sym, ap, ◌∙◌}
use Prim.Native.Nat.{ℕ}
use Rattle.paper.specs.Line.{Word}
use Rattle.paper.specs.Effect.{Planned}
use Rattle.paper.specs.Check.{Refusal}
use Rattle.paper.specs.Answer.{Outcome, plain, refusing, ran, single, NamePlan, deleting}
use Rattle.answers.specs.Shown.{shown}
use Rattle.elephant.specs.Done.{Did, Wrote}
use Rattle.answers.specs.Promised.{Promised}
use Rattle.answers.specs.declared.Answer.{Answer}
use Rattle.elephant.proofs.Grants.{Silent, Storeless, same_answer_lem, same-table, reply-kept, any-stop, table_kept, deleting-same}

-- a refusal leaves both
pub promised-refusing : (t reply : List ℕ) (o : Outcome) (f : Refusal) (r : Answer) → o ≡ refusing t reply f → r ≡ shown (plain f.number f.place 0 0)
    → Promised o r t reply
promised-refusing t reply o f r e a =
    record {
      answer = a ∙ sym (ap (λ (x : Outcome). shown x.answer) e);
      table = sym (ap (λ (x : Outcome). x.table) e);
      reply = sym (ap (λ (x : Outcome). x.reply) e);
    }

pub promised-storing : (t reply : List ℕ) (k : ℕ) (x : Planned) (r : Answer) (v : List ℕ) → Silent x → Did t k x r v
    → Promised (single t reply k (ran k x)) r v reply
promised-storing t reply k x r v s d =
    record {
      answer = d.answer ∙ sym (ap shown (same_answer_lem t reply k (ran k x)));
      table = d.table ∙ sym (same-table t reply k (ran k x));
      reply = sym (reply-kept t reply k x s);
    }

pub promised-writing : (t reply : List ℕ) (k : ℕ) (x : Planned) (r : Answer) (w : List ℕ) → Storeless x → Wrote t reply x r w
    → Promised (single t reply k (ran k x)) r t w
promised-writing t reply k x r w s d =
    let e = any-stop t reply k x s in
    record {
      answer = d.answer ∙ sym (ap (λ (o : Outcome). shown o.answer) e);
      table = sym (ap (λ (o : Outcome). o.table) e ∙ table_kept t reply x s);
      reply = d.reply ∙ sym (ap (λ (o : Outcome). o.reply) e);
    }

pub promised-names : (one : NamePlan) (t : List ℕ) (u : ℕ) (reply : List ℕ) (k : ℕ) (ws : List Word) (r : Answer) (v : List ℕ)
    → r ≡ shown (deleting one t u [] k 0 0 ws).answer → v ≡ (deleting one t u [] k 0 0 ws).table → Promised (deleting one t u reply k 0 0 ws) r v reply
promised-names one t u reply k ws r v a b =
    let e = deleting-same one ws t u reply k 0 0 in
    record { answer = a ∙ sym (ap shown e.answer); table = b ∙ sym e.table; reply = sym e.reply }
