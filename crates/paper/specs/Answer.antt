-- What `request` and `mend` promise for every input: the answer's seven numbers, the table after and the reply after.
use Rattle.std.specs.Prelude.{Bool, true, false, not, cond, List, [], ◌∷◌, ◌++◌, ℕ, ◌+◌, ◌-◌, leb, ltb, length, take, drop}
use Rattle.paper.specs.Layout.{Layout}
use Rattle.paper.specs.Table.{sized}
use Rattle.paper.specs.Line.{Word}
use Rattle.paper.specs.Check.{Place, whole, Refusal, check, Verdict, passed, refused, verdict}
use Rattle.paper.specs.Request.{Request, crd, wrs, rds, cpy, dup, chn, del, dst, dpr, lst, lst_base, lst_tree, lst_base_tree, rewrite, Read, request, unread, asked}
use Rattle.paper.specs.Sound.{sound}
use Rattle.paper.specs.Store.{Store, run}
use Rattle.paper.specs.Effect.{Plan, Planned, plan, halted, crd_plan, wrs_plan, rds_plan, cpy_plan, dup_plan, chn_plan, del_plan, dst_plan, dpr_plan, lst_plan, lst_base_plan, lst_tree_plan, lst_base_tree_plan, rewrite_plan, list_of, begun}
use Rattle.paper.specs.Mend.{mend_stores, mended}

-- "An answer has: number; place ..; names done; displaced or not; bytes written; stores made." The place is two numbers
pub record Answer : Type 0 where
  pub number : ℕ
  pub place : Place
  pub names : ℕ
  pub displaced : ℕ
  pub bytes : ℕ
  pub stores : ℕ

pub record Outcome : Type 0 where
  pub answer : Answer
  pub table : List ℕ
  pub reply : List ℕ

-- "On any number but 0, displaced is no and bytes are 0."
abbrev pub plain : (number : ℕ) (place : Place) (names stores : ℕ) → Answer
plain number place names stores =
    record { number = number; place = place; names = names; displaced = 0; bytes = 0; stores = stores }

abbrev pub yes_no : Bool → ℕ
yes_no true = 1
yes_no false = 0

-- one name was granted all that it asks
abbrev pub granting : (displaced : Bool) (bytes stores : ℕ) → Answer
granting displaced bytes stores =
    record { number = 0; place = whole 0; names = 1; displaced = yes_no displaced; bytes = bytes; stores = stores }

-- a refusal changes nothing
abbrev pub refusing : List ℕ → List ℕ → Refusal → Outcome
refusing t reply f = record { answer = plain f.number f.place 0 0; table = t; reply = reply }

-- how a plan ends on a table: refused, done, or cut by the stop number
pub data Ran : Type 0 where
  refused_by : Refusal → Ran
  done : Plan → Ran
  cut : Plan → Ran

-- "Exactly the first k stores are made. If more were needed, the answer is 22"
abbrev pub stores : ℕ → Plan → Verdict → Ran
stores k p passed = cond (leb (length p.stores) k) (done p) (cut p)
stores k p (refused f) = refused_by f

abbrev pub ran : ℕ → Planned → Ran
ran k (halted f) = refused_by f
ran k (plan p) = stores k p (verdict p.checks)

-- every function but DEL and DST: "The rest of the buffer is unchanged."
abbrev pub single : List ℕ → List ℕ → ℕ → Ran → Outcome
single t reply k (refused_by f) = refusing t reply f
single t reply k (done p) =
    record {
      answer = granting p.displaced (length p.reply) (length p.stores);
      table = run t p.stores;
      reply = p.reply ++ drop (length p.reply) reply;
    }
single t reply k (cut p) = record { answer = plain 22 (whole 0) 0 k; table = run t (take k p.stores); reply = reply }

-- "DEL does walk and end checks name by name and stops at the first refusal": after some names are done and their stores made,
-- with k stores left
abbrev pub one_name : List ℕ → List ℕ → (k done made : ℕ) → (List ℕ → ℕ → ℕ → ℕ → Outcome) → Ran → Outcome
one_name t reply k n made more (refused_by f) =
    record { answer = plain f.number f.place n made; table = t; reply = reply }
one_name t reply k n made more (done p) =
    more (run t p.stores) (k - length p.stores) (n + 1) (made + length p.stores)
one_name t reply k n made more (cut p) =
    record { answer = plain 22 (whole 0) n (made + k); table = run t (take k p.stores); reply = reply }

-- what one name does on a table: that of a user, the argument of this number
abbrev pub NamePlan : Type 0
NamePlan = List ℕ → ℕ → ℕ → Word → Planned

-- all the names, each by the plan of one; document 02: "whatever .. document 01 .. say for a DEL of several names holds for DST too"
unfoldable pub deleting : NamePlan → List ℕ → ℕ → List ℕ → (k done made : ℕ) → List Word → Outcome
deleting one t u reply k n made [] = record { answer = plain 0 (whole 0) n made; table = t; reply = reply }
deleting one t u reply k n made (w ∷ ws) =
    one_name t reply k n made (λ t₁ k₁ n₁ made₁. deleting one t₁ u reply k₁ n₁ made₁ ws) (ran k (one t u (n + 1) w))

-- what a request does on a sound table
unfoldable pub granted : Layout → List ℕ → List ℕ → List ℕ → ℕ → ℕ → Request → Outcome
granted L t text reply u k (crd name level code) = single t reply k (ran k (crd_plan L t u name level code))
granted L t text reply u k (wrs lifetime level code name) =
    single t reply k (ran k (wrs_plan L t u text lifetime level code name))
granted L t text reply u k (rds from name first count) =
    single t reply k (ran k (rds_plan L t (list_of u from) reply (begun from name) first count))
granted L t text reply u k (cpy from old new lifetime level code) =
    single t reply k (ran k (cpy_plan L t (list_of u from) u (begun from old) new lifetime level code))
granted L t text reply u k (dup from old to new code) =
    single t reply k (ran k (dup_plan L t (list_of u from) (list_of u to) to (begun from old) (begun to new) code))
granted L t text reply u k (chn old link) = single t reply k (ran k (chn_plan L t u old link))
granted L t text reply u k (del names) = deleting (del_plan L) t u reply k 0 0 names
granted L t text reply u k (dst names) = deleting (dst_plan L) t u reply k 0 0 names
granted L t text reply u k (dpr name code) = single t reply k (ran k (dpr_plan L t u name code))
granted L t text reply u k (lst from name) = single t reply k (ran k (lst_plan L t (list_of u from) reply (begun from name)))
granted L t text reply u k lst_base = single t reply k (ran k (lst_base_plan L t u reply))
granted L t text reply u k (lst_tree from name depth) =
    single t reply k (ran k (lst_tree_plan L t (list_of u from) reply (begun from name) depth))
granted L t text reply u k (lst_base_tree depth) = single t reply k (ran k (lst_base_tree_plan L t u reply depth))
granted L t text reply u k (rewrite name) = single t reply k (ran k (rewrite_plan L t u text name))

-- numbers 1, 2 and 3: "table length no multiple of 32, or above 65,536", "table not sound", "user above 999,999"
unfoldable pub entrance : Layout → List ℕ → ℕ → Verdict
entrance L t u = verdict (check (not (sized t)) 1 (whole 0) ∷ check (not (sound L t)) 2 (whole 0) ∷ check (ltb 999999 u) 3 (whole 0) ∷ [])

abbrev pub acted : Layout → List ℕ → List ℕ → List ℕ → ℕ → ℕ → Read → Outcome
acted L t text reply u k (unread f) = refusing t reply f
acted L t text reply u k (request r) = granted L t text reply u k r

abbrev pub admitted : Layout → List ℕ → List ℕ → List ℕ → List ℕ → ℕ → ℕ → Verdict → Outcome
admitted L t line text reply u k (refused f) = refusing t reply f
admitted L t line text reply u k passed = acted L t text reply u k (asked line text)

-- the promise of `request`, at the layout `boxed`
unfoldable pub requested : Layout → (table line text reply : List ℕ) (user stop : ℕ) → Outcome
requested L t line text reply u k = admitted L t line text reply u k (entrance L t u)

-- "If the result wouldn't be sound, answer 2 and leave the table as found."
unfoldable pub mendable : Layout → List ℕ → Verdict
mendable L t = verdict (check (not (sized t)) 1 (whole 0) ∷ check (not (sound L (mended t))) 2 (whole 0) ∷ [])

-- "Mending takes a stop number too": its answer and the table after
abbrev pub mend_run : List ℕ → ℕ → List Store → Verdict → Outcome
mend_run t k ss (refused f) = refusing t [] f
mend_run t k ss passed =
    cond (leb (length ss) k)
    (record { answer = plain 0 (whole 0) 0 (length ss); table = run t ss; reply = [] })
    (record { answer = plain 22 (whole 0) 0 k; table = run t (take k ss); reply = [] })

-- the promise of `mend`, at the layout `boxed`; it has no reply buffer
unfoldable pub mending : Layout → (table : List ℕ) (stop : ℕ) → Outcome
mending L t k = mend_run t k (mend_stores t) (mendable L t)
