-- The other numbers of a mending's answer are 0, and there is no reply.
-- So the two numbers that `mending` answers are the whole answer.
use mathlib.Core.List.{List, []}
use mathlib.Core.Path.{◌≡◌, sym, ap, ◌∙◌}
use Prim.Native.Nat.{ℕ}
use Rattle.paper.specs.Layout.{boxed}
use Rattle.paper.specs.Answer.{plain, mending}
use Rattle.paper.specs.Check.{whole}
use Rattle.mending.specs.Shown.{mend_shown}
use Rattle.mending.specs.declared.Mended.{Mended}
use Rattle.mending.proofs.Answers.{mend-answer, mend-reply}
use Rattle.answers.specs.declared.Answer.{Answer}
use Rattle.answers.specs.Promised.{Promised}
use Rattle.answers.specs.Shown.{shown}
use Rattle.elephant.proofs.mend.Goals as goal

promised : (t : List ℕ) (k : ℕ) (m : Mended) (r : Answer) (u : List ℕ) → m ≡ mend_shown (mending boxed t k).answer → u ≡ (mending boxed t k).table
    → r ≡ shown (plain m.number (whole 0) 0 m.stores) → Promised (mending boxed t k) r u []
promised t k m r u e f g =
    record { answer = g ∙ rw e (ap shown (sym (mend-answer t k))); table = f; reply = mend-reply t k }

pub returns : goal.returns
returns c =
    promised _ _ c.mend-mended.result c.placeless.result c.mend-mended.new.table c.mend-mended.ensures.0 c.mend-mended.ensures.1 c.placeless.ensures
