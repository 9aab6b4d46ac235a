-- Only one answer meets a contract: `Promised` names the answer, the table after and the reply after by an equation each.
-- So two that meet it agree in each of the three with the one outcome of the paper.
use mathlib.Core.List.{List, []}
use mathlib.Core.Path.{◌≡◌, sym, ◌∙◌}
use Prim.Native.Nat.{ℕ}
use Rattle.paper.specs.Layout.{boxed}
use Rattle.paper.specs.Answer.{Outcome, requested, mending}
use Rattle.answers.specs.declared.Answer.{Answer}
use Rattle.answers.specs.Promised.{Promised}

one-promise : (o : Outcome) (a b : Answer) (v w x y : List ℕ) → Promised o a v x → Promised o b w y → (a ≡ b) × (v ≡ w) × (x ≡ y)
one-promise o a b v w x y p q = (p.answer ∙ sym q.answer, p.table ∙ sym q.table, p.reply ∙ sym q.reply)

-- `request`: no second answer, table or reply meets its contract
pub one_answer : (t line text reply : List ℕ) (u k : ℕ) (a b : Answer) (v w x y : List ℕ) → Promised (requested boxed t line text reply u k) a v x
    → Promised (requested boxed t line text reply u k) b w y → (a ≡ b) × (v ≡ w) × (x ≡ y)
one_answer t line text reply u k = one-promise (requested boxed t line text reply u k)

-- `mend`: no second answer or table meets its contract
pub one-mending : (t : List ℕ) (k : ℕ) (a b : Answer) (v w : List ℕ) → Promised (mending boxed t k) a v [] → Promised (mending boxed t k) b w []
    → (a ≡ b) × (v ≡ w)
one-mending t k a b v w p q = let r = one-promise (mending boxed t k) a b v w [] [] p q in (r.0, r.1)
