-- The three ways of a request: refused before it is tried, tried by one plan, or a DEL or a DST name by name; each the same for every stop number.
-- What is tried is one of the requests, and its plan is fair.
use mathlib.Core.Bool.{Bool, false, ◌||◌}
use mathlib.Core.List.{List}
use mathlib.Core.Path.{◌≡◌, refl}
use Prim.Native.Nat.{ℕ}
use lib.Dec.{eqb}
use Rattle.paper.specs.Layout.{boxed}
use Rattle.paper.specs.Line.{Word}
use Rattle.paper.specs.Check.{Refusal}
use Rattle.paper.specs.Request.{Request, crd, wrs, rds, cpy, dup, chn, del, dst, dpr, lst, lst_base, lst_tree, lst_base_tree, rewrite, request, asked}
use Rattle.paper.specs.Effect.{list_of, begun, Planned, crd_plan, wrs_plan, rds_plan, cpy_plan, dup_plan, chn_plan, dpr_plan, lst_plan, lst_base_plan, lst_tree_plan, lst_base_tree_plan, rewrite_plan}
use Rattle.paper.specs.Answer.{refusing, ran, single, deleting, granted, requested}
use Rattle.demands.proofs.Request.Fair.{Fair}
use Rattle.demands.proofs.Request.Chains.{names_at}
use Rattle.demands.proofs.Request.Several.{Several, deletion, destruction, asking, plan_of}
use Rattle.demands.proofs.Request.Spoken.{Chains, Spoken}
use Rattle.demands.proofs.Request.Course.{Course, untried, tried, course}
use Rattle.demands.proofs.Answered.Numbered.{FairPlanned, fair-crd_plan, fair-wrs_plan, fair-rds_plan, fair-cpy_plan, fair-dup_plan, fair-chn_plan, fair-dpr_plan, fair-lst_plan, fair-lst_base_plan, fair-lst_tree_plan, fair-lst_base_tree_plan, fair-rewrite_plan}

-- the function of a request, by number
abbrev pub function : Request → ℕ
function (crd w level code) = 0
function (wrs lifetime level code w) = 1
function (rds from w first count) = 2
function (cpy from old new lifetime level code) = 3
function (dup from old to new code) = 4
function (chn old link) = 5
function (del ws) = 6
function (dst ws) = 7
function (dpr w code) = 8
function (lst from w) = 9
function lst_base = 10
function (lst_tree from w depth) = 11
function (lst_base_tree depth) = 12
function (rewrite w) = 13

abbrev pub is_del : Request → Bool
is_del r = eqb (function r) 6

abbrev pub is_dst : Request → Bool
is_dst r = eqb (function r) 7

abbrev pub is_several : Request → Bool
is_several r = is_del r || is_dst r

-- the three ways of a request, each the same for every stop number
pub data Came (t line text reply : List ℕ) (u : ℕ) : Type 0 where
  -- refused before it is tried
  lent : (f : Refusal) → Fair (names_at line) f → ((k : ℕ) → requested boxed t line text reply u k ≡ refusing t reply f) → Came t line text reply u
  -- tried by one plan
  planned : (r : Request) → asked line text ≡ request r → is_several r ≡ false → (p : Planned) → FairPlanned (names_at line) reply p
      → ((k : ℕ) → requested boxed t line text reply u k ≡ single t reply k (ran k p)) → Came t line text reply u
  -- a DEL or a DST
  deletes : (s : Several) (ws : List Word) → asked line text ≡ request (asking s ws) → Chains (names_at line) ws
      → ((k : ℕ) → requested boxed t line text reply u k ≡ deleting (plan_of s) t u reply k 0 0 ws)
      → Came t line text reply u

pub came : (t line text reply : List ℕ) (u : ℕ) → Came t line text reply u
unfolding granted
came t line text reply u = go (course t line text reply u)
  where
    names : ℕ → List (List ℕ)
    names = names_at line

    grants : (r : Request) → asked line text ≡ request r → Spoken names r → ((k : ℕ) → requested boxed t line text reply u k ≡ granted boxed t text reply u k r)
        → Came t line text reply u
    grants (crd w level code) q s = planned (crd w level code) q refl (crd_plan boxed t u w level code) (fair-crd_plan names t reply u w level code s)
    grants (wrs lifetime level code w) q s =
        planned (wrs lifetime level code w) q refl (wrs_plan boxed t u text lifetime level code w) (fair-wrs_plan names t reply u text lifetime level code w s)
    grants (rds from w first count) q s =
        planned (rds from w first count) q refl (rds_plan boxed t (list_of u from) reply (begun from w) first count)
        (fair-rds_plan names t reply (list_of u from) (begun from w) first count s.0 s.1)
    grants (cpy from old new lifetime level code) q s =
        planned (cpy from old new lifetime level code) q refl (cpy_plan boxed t (list_of u from) u (begun from old) new lifetime level code)
        (fair-cpy_plan names t reply u (list_of u from) (begun from old) new lifetime level code s.0 s.1.0 s.1.1)
    grants (dup from old to new code) q s =
        planned (dup from old to new code) q refl (dup_plan boxed t (list_of u from) (list_of u to) to (begun from old) (begun to new) code)
        (fair-dup_plan names t reply (list_of u to) (list_of u from) to (begun from old) (begun to new) code s.0 s.1)
    grants (chn old link) q s = planned (chn old link) q refl (chn_plan boxed t u old link) (fair-chn_plan names t reply u old link s.0 s.1)
    grants (del ws) q s = deletes deletion ws q s
    grants (dst ws) q s = deletes destruction ws q s
    grants (dpr w code) q s = planned (dpr w code) q refl (dpr_plan boxed t u w code) (fair-dpr_plan names t reply u w code s.0 s.1)
    grants (lst from w) q s =
        planned (lst from w) q refl (lst_plan boxed t (list_of u from) reply (begun from w)) (fair-lst_plan names t reply (list_of u from) (begun from w) s)
    grants lst_base q s = planned lst_base q refl (lst_base_plan boxed t u reply) (fair-lst_base_plan names t reply u)
    grants (lst_tree from w depth) q s =
        planned (lst_tree from w depth) q refl (lst_tree_plan boxed t (list_of u from) reply (begun from w) depth)
        (fair-lst_tree_plan names t reply (list_of u from) (begun from w) depth s)
    grants (lst_base_tree depth) q s = planned (lst_base_tree depth) q refl (lst_base_tree_plan boxed t u reply depth) (fair-lst_base_tree_plan names t reply u depth)
    grants (rewrite w) q s = planned (rewrite w) q refl (rewrite_plan boxed t u text w) (fair-rewrite_plan names t reply u text w s)

    go : Course t line text reply u → Came t line text reply u
    go (untried f h e) = lent f h e
    go (tried r h e) = grants r h.asked h.spoken e
