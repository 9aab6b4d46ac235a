-- What `request` itself refuses: at the entrance, by the reader, and a text too long; and what it knows where it refuses nothing.
-- Each is one law of `Requests`, from what the code's tests say.
use mathlib.Core.Bool.{true, false}
use mathlib.Core.List.{List}
use mathlib.Core.Path.{◌≡◌, refl, sym, ap, ◌∙◌}
use Prim.Native.Nat.{ℕ}
use Rattle.std.specs.Prelude.{Result, Ok, Err}
use Rattle.paper.specs.Layout.{boxed}
use Rattle.paper.specs.Check as check
use Rattle.paper.specs.Check.{whole, refusal_at}
use Rattle.paper.specs.Request as paper
use Rattle.paper.specs.Request.{request, unread, read, text_too_long}
use Rattle.paper.specs.Answer.{Outcome, refusing, requested, entrance}
use Rattle.laws.proofs.Tests.{clash}
use Rattle.reader.specs.declared.request.Request.{Request}
use Rattle.answers.specs.Shown.{refusal_meant, verdict_shown, answer_of}
use Rattle.answers.specs.Promised.{Promised}
use Rattle.answers.specs.declared.Answer.{Answer}
use Rattle.answers.specs.declared.Refusal.{Refusal}
use Rattle.elephant.specs.Meant.{request_meant}
use Rattle.reader.specs.Asked.{shown_read}
use Rattle.elephant.specs.Admitted.{Admitted}
use Rattle.elephant.proofs.Entering.{entered}
use Rattle.elephant.proofs.Verdicts.{refused-by}
use Rattle.elephant.proofs.Promises.{promised-refusing}
use Rattle.elephant.proofs.Requests.{requested-out, requested-unread, requested-long}

unread-by : (x : paper.Read) (g : check.Refusal) → Err g ≡ shown_read x → x ≡ unread g
unread-by (request q) g e = clash (cc)
unread-by (unread f) g e = let z : g ≡ f = cc in ap unread (sym z)

module _ (t line text reply : List ℕ) (u k : ℕ) where
  abbrev asks : Outcome
  asks = requested boxed t line text reply u k

  -- what refuses is the answer
  refuses : (h : Refusal) → asks ≡ refusing t reply (refusal_meant h) → (z : Result Answer Refusal) → z ≡ Err h → Promised asks (answer_of z) t reply
  refuses h e z a = promised-refusing t reply asks (refusal_meant h) (answer_of z) e (ap answer_of a)

  -- 1, 2, 3
  pub refused-out : (h : Refusal) → Err (refusal_meant h) ≡ verdict_shown (entrance boxed t u) → (z : Result Answer Refusal) → z ≡ Err h
      → Promised asks (answer_of z) t reply
  refused-out h e z a =
      refuses h (requested-out t line text reply u k (refusal_meant h) (refused-by (entrance boxed t u) (refusal_meant h) e)) z a

  module _ (o : Unit {0}) (i : Ok o ≡ verdict_shown (entrance boxed t u)) where
    -- 4 to 9
    pub refused-unread : (h : Refusal) → Err (refusal_meant h) ≡ shown_read (read line) → (z : Result Answer Refusal) → z ≡ Err h → Promised asks (answer_of z) t reply
    refused-unread h q z a =
        refuses h (requested-unread t line text reply u k (entered t u o i).passed (refusal_meant h) (unread-by (read line) (refusal_meant h) q)) z a

    module _ (r : Request) (q : Ok r ≡ shown_read (read line)) where
      -- 10
      pub refused-long : text_too_long (request_meant line r) text ≡ true → (h : Refusal) → refusal_meant h ≡ refusal_at 10 (whole 0)
          → Promised asks (answer_of (Err h)) t reply
      refused-long b h e =
          refuses h (requested-long t line text reply u k (entered t u o i).passed r q b ∙ ap (refusing t reply) (sym e)) (Err h) refl

      -- none
      pub let_through : text_too_long (request_meant line r) text ≡ false → Admitted t line text u r
      let_through b =
          let x = entered t u o i in
          record { fit = x.fit; passed = x.passed; read = q; short = b }
