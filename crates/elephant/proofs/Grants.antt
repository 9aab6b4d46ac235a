-- From each function's promise to `granted`: the answer and the table do not depend on the reply, a plan that writes nothing leaves the
-- reply, one that stores nothing does not depend on the stop number, and the word at a request's offset is the paper's.
use mathlib.Core.List.{List, [], ◌∷◌}
use mathlib.Core.Path.{◌≡◌, refl, sym, ◌∙◌}
use Prim.Native.Nat.{ℕ, ◌+◌}
use native.Mathlib.Omega.{arith}
use lib.Dec.{leb}
use lib.ListN.{length}
use borrow.Author.Tests.{le-leb}
use mathlib.Core.Bool.{Bool, true, false, cond}
use Rattle.paper.specs.Layout.{boxed}
use Rattle.paper.specs.Check.{Check, Verdict, passed, refused, verdict}
use Rattle.paper.specs.Declaration.{Part}
use Rattle.paper.specs.Line.{Word, word}
use Rattle.paper.specs.Request.{Begin}
use Rattle.paper.specs.Effect.{Planned, plan, halted, Making, making, crd_plan, wrs_plan, cpy_plan, dup_plan, chn_plan, dpr_plan, rds_plan, lst_plan, lst_base_plan, lst_tree_plan, lst_base_tree_plan, rewrite_plan}
use Rattle.paper.specs.Answer.{Outcome, Ran, refused_by, done, cut, stores, ran, single, one_name, NamePlan, deleting}
use Rattle.paper.specs.Store.{run}
use Rattle.words.specs.Place.{word_at}
use Rattle.words.proofs.Words.{word-here}
use Rattle.demands.proofs.Request.Steps.{holder-by, end_by}

-- the word at the offset of a word of the line
pub word-there : (line : List ℕ) (k : ℕ) (w : Word) → w ≡ word line k → word_at line w.start ≡ w
word-there line k w e = word-here line k w.start (rw e) ∙ sym e

-- ---- another reply

pub same_answer_lem : (t reply : List ℕ) (k : ℕ) (x : Ran) → (single t reply k x).answer ≡ (single t [] k x).answer
same_answer_lem t reply k (refused_by f) = refl
same_answer_lem t reply k (done p) = refl
same_answer_lem t reply k (cut p) = refl

pub same-table : (t reply : List ℕ) (k : ℕ) (x : Ran) → (single t reply k x).table ≡ (single t [] k x).table
same-table t reply k (refused_by f) = refl
same-table t reply k (done p) = refl
same-table t reply k (cut p) = refl

-- a plan that writes nothing
abbrev pub Silent : Planned → Type 0
Silent (plan p) = p.reply ≡ []
Silent (halted f) = Unit {0}

pub reply-kept : (t reply : List ℕ) (k : ℕ) (x : Planned) → Silent x → (single t reply k (ran k x)).reply ≡ reply
reply-kept t reply k (halted f) h = refl
reply-kept t reply k (plan p) h = go (verdict p.checks)
  where
    made : (b : Bool) → (single t reply k (cond b (done p) (cut p))).reply ≡ reply
    made true = rw h
    made false = refl

    go : (v : Verdict) → (single t reply k (stores k p v)).reply ≡ reply
    go passed = made (leb (length p.stores) k)
    go (refused f) = refl

-- a new entry's plan writes nothing
making-silent : (t : List ℕ) (m : Making) (thirteen fifteen late : List Check) → Silent (making boxed t m thirteen fifteen late)
unfolding making
making-silent t m thirteen fifteen late = refl

pub crd-silent : (t : List ℕ) (u : ℕ) (name : Word) (level code : Part) → Silent (crd_plan boxed t u name level code)
unfolding crd_plan
crd-silent t u name level code = holder-by Silent 1 (λ _ _ _. tt) t u name _ (λ d _. making-silent t _ _ _ _)

pub wrs-silent : (t : List ℕ) (u : ℕ) (text : List ℕ) (lifetime : ℕ) (level code : Part) (name : Word)
    → Silent (wrs_plan boxed t u text lifetime level code name)
unfolding wrs_plan
wrs-silent t u text lifetime level code name = holder-by Silent 2 (λ _ _ _. tt) t u name _ (λ d _. making-silent t _ _ _ _)

pub cpy-silent : (t : List ℕ) (v u : ℕ) (old new : Word) (lifetime level code : Part) → Silent (cpy_plan boxed t v u old new lifetime level code)
unfolding cpy_plan
cpy-silent t v u old new lifetime level code =
    end_by Silent 1 (λ _ _ _. tt) t v old _ (λ _ f _ _. holder-by Silent 2 (λ _ _ _. tt) t u new _ (λ d _. making-silent t _ _ _ _))

pub dup-silent : (t : List ℕ) (v u : ℕ) (to : Begin) (old new : Word) (code : Part) → Silent (dup_plan boxed t v u to old new code)
unfolding dup_plan
dup-silent t v u to old new code =
    end_by Silent 1 (λ _ _ _. tt) t v old _ (λ _ f _ _. holder-by Silent 2 (λ _ _ _. tt) t u new _ (λ d _. making-silent t _ _ _ _))

pub chn-silent : (t : List ℕ) (u : ℕ) (old link : Word) → Silent (chn_plan boxed t u old link)
unfolding chn_plan
chn-silent t u old link = end_by Silent 1 (λ _ _ _. tt) t u old _ (λ d f _ _. refl)

pub dpr-silent : (t : List ℕ) (u : ℕ) (name : Word) (code : ℕ) → Silent (dpr_plan boxed t u name code)
unfolding dpr_plan
dpr-silent t u name code = end_by Silent 1 (λ _ _ _. tt) t u name _ (λ d f _ _. refl)

pub rewrite-silent : (t : List ℕ) (u : ℕ) (text : List ℕ) (name : Word) → Silent (rewrite_plan boxed t u text name)
unfolding rewrite_plan
rewrite-silent t u text name = end_by Silent 2 (λ _ _ _. tt) t u name _ (λ d f _ _. refl)

-- ---- another stop number

-- a plan that stores nothing
abbrev pub Storeless : Planned → Type 0
Storeless (plan p) = p.stores ≡ []
Storeless (halted f) = Unit {0}

pub any-stop : (t reply : List ℕ) (k : ℕ) (x : Planned) → Storeless x → single t reply k (ran k x) ≡ single t reply 0 (ran 0 x)
any-stop t reply k (halted f) h = refl
any-stop t reply k (plan p) h = go (verdict p.checks)
  where
    go : (v : Verdict) → single t reply k (stores k p v) ≡ single t reply 0 (stores 0 p v)
    go passed =
        let z : length p.stores ≡ 0 = rw h in
        rw (le-leb (length p.stores) k (omega arith), le-leb (length p.stores) 0 (omega arith))
    go (refused f) = refl

pub rds-storeless : (t : List ℕ) (u : ℕ) (reply : List ℕ) (name : Word) (first count : Part) → Storeless (rds_plan boxed t u reply name first count)
unfolding rds_plan
rds-storeless t u reply name first count = end_by Storeless 1 (λ _ _ _. tt) t u name _ (λ d f _ _. refl)

pub lst-storeless : (t : List ℕ) (u : ℕ) (reply : List ℕ) (name : Word) → Storeless (lst_plan boxed t u reply name)
unfolding lst_plan
lst-storeless t u reply name = end_by Storeless 1 (λ _ _ _. tt) t u name _ (λ d f _ _. refl)

pub lst-base-storeless : (t : List ℕ) (u : ℕ) (reply : List ℕ) → Storeless (lst_base_plan boxed t u reply)
unfolding lst_base_plan
lst-base-storeless t u reply = refl

pub lst-tree-storeless : (t : List ℕ) (u : ℕ) (reply : List ℕ) (name : Word) (depth : ℕ) → Storeless (lst_tree_plan boxed t u reply name depth)
unfolding lst_tree_plan
lst-tree-storeless t u reply name depth = end_by Storeless 1 (λ _ _ _. tt) t u name _ (λ d f _ _. refl)

pub lst-base-tree-storeless : (t : List ℕ) (u : ℕ) (reply : List ℕ) (depth : ℕ) → Storeless (lst_base_tree_plan boxed t u reply depth)
unfolding lst_base_tree_plan
lst-base-tree-storeless t u reply depth = refl

-- .. leaves the table
pub table_kept : (t reply : List ℕ) (x : Planned) → Storeless x → (single t reply 0 (ran 0 x)).table ≡ t
unfolding run
table_kept t reply (halted f) h = refl
table_kept t reply (plan p) h = go (verdict p.checks)
  where
    go : (v : Verdict) → (single t reply 0 (stores 0 p v)).table ≡ t
    go passed = let z : length p.stores ≡ 0 = rw h in rw (le-leb (length p.stores) 0 (omega arith), h)
    go (refused f) = refl

-- ---- DEL and DST

-- one of them with one reply and with none
pub record Same (kept : List ℕ) (a b : Outcome) : Type 0 where
  pub answer : a.answer ≡ b.answer
  pub table : a.table ≡ b.table
  pub reply : a.reply ≡ kept

pub deleting-same : (one : NamePlan) (ws : List Word) (t : List ℕ) (u : ℕ) (reply : List ℕ) (k n m : ℕ)
    → Same reply (deleting one t u reply k n m ws) (deleting one t u [] k n m ws)
unfolding deleting
deleting-same one [] t u reply k n m = record { answer = refl; table = refl; reply = refl }
deleting-same one (w ∷ ws) t u reply k n m = go (ran k (one t u (n + 1) w)) (deleting-same one ws)
  where
    go : (x : Ran) → ((t : List ℕ) (u : ℕ) (reply : List ℕ) (k n m : ℕ) → Same reply (deleting one t u reply k n m ws) (deleting one t u [] k n m ws))
        → Same reply (one_name t reply k n m (λ t₁ k₁ n₁ made₁. deleting one t₁ u reply k₁ n₁ made₁ ws) x)
        (one_name t [] k n m (λ t₁ k₁ n₁ made₁. deleting one t₁ u [] k₁ n₁ made₁ ws) x)
    go (refused_by f) h = record { answer = refl; table = refl; reply = refl }
    go (done p) h = h _ u reply _ _ _
    go (cut p) h = record { answer = refl; table = refl; reply = refl }
