-- The ways of a request, each the same for every stop number: refused with the table as lent, or, on a sound table alone, one plan that has
-- the shape of the stores, or DEL or DST, a plan for each name. Each function is told what it needs, and a name that was read fits its field.
use mathlib.Core.Bool.{false}
use mathlib.Core.List.{List}
use mathlib.Core.Path.{◌≡◌}
use Prim.Native.Nat.{ℕ}
use Rattle.paper.specs.Layout.{boxed}
use Rattle.paper.specs.Line.{Word}
use Rattle.paper.specs.Request.{Request, crd, wrs, rds, cpy, dup, chn, del, dst, dpr, lst, lst_base, lst_tree, lst_base_tree, rewrite, request, asked}
use Rattle.paper.specs.Effect.{Planned, crd_plan, wrs_plan, rds_plan, cpy_plan, dup_plan, chn_plan, dpr_plan, lst_plan, lst_base_plan, lst_tree_plan, lst_base_tree_plan, rewrite_plan, list_of, begun}
use Rattle.paper.specs.Answer.{ran, single, deleting, granted, requested}
use Rattle.demands.proofs.Sound.Clauses.{Sound, sound-clauses}
use Rattle.demands.proofs.Request.Several.{Several, deletion, destruction, asking, plan_of}
use Rattle.demands.proofs.Request.Read.{Told}
use Rattle.demands.proofs.Request.Course.{Course, untried, tried, course}
use Rattle.histories.proofs.Calls.Shapes.{Shape, crd-shape, wrs-shape, cpy-shape, dup-shape, chn-shape, dpr-shape, rds-shape, lst-shape, lst-base-shape, lst-tree-shape, lst-base-tree-shape, rewrite-shape}

pub data Way (t line text reply : List ℕ) (u : ℕ) : Type 0 where
  lent : ((k : ℕ) → (requested boxed t line text reply u k).table ≡ t) → Way t line text reply u
  by-plan : Sound t → (x : Planned) → Shape false t x → ((k : ℕ) → requested boxed t line text reply u k ≡ single t reply k (ran k x)) → Way t line text reply u
  by_names : Sound t → (v : Several) (names : List Word) → asked line text ≡ request (asking v names)
      → ((k : ℕ) → requested boxed t line text reply u k ≡ deleting (plan_of v) t u reply k 0 0 names) → Way t line text reply u

module _ (t line text reply : List ℕ) (u : ℕ) where
  granted-way : Sound t → (r : Request) → asked line text ≡ request r → Told text r
      → ((k : ℕ) → requested boxed t line text reply u k ≡ granted boxed t text reply u k r)
      → Way t line text reply u
  unfolding granted
  granted-way c (crd name level code) a h =
      by-plan c (crd_plan boxed t u name level code) (crd-shape t c u name level code)
  granted-way c (wrs lifetime level code name) a h =
      by-plan c (wrs_plan boxed t u text lifetime level code name) (wrs-shape t c u text lifetime level code name)
  granted-way c (rds from name first count) a h =
      by-plan c (rds_plan boxed t (list_of u from) reply (begun from name) first count) (rds-shape t c (list_of u from) reply (begun from name) first count)
  granted-way c (cpy from old new lifetime level code) a h =
      by-plan c (cpy_plan boxed t (list_of u from) u (begun from old) new lifetime level code)
      (cpy-shape t c (list_of u from) u (begun from old) new lifetime level code)
  granted-way c (dup from old to new code) a h =
      by-plan c (dup_plan boxed t (list_of u from) (list_of u to) to (begun from old) (begun to new) code)
      (dup-shape t c (list_of u from) (list_of u to) to (begun from old) (begun to new) code)
  granted-way c (chn old link) a h = by-plan c (chn_plan boxed t u old link) (chn-shape t c u old link)
  granted-way c (del names) a h = by_names c deletion names a
  granted-way c (dst names) a h = by_names c destruction names a
  granted-way c (dpr name code) a h = by-plan c (dpr_plan boxed t u name code) (dpr-shape t c u name code h.code)
  granted-way c (lst from name) a h =
      by-plan c (lst_plan boxed t (list_of u from) reply (begun from name)) (lst-shape t c (list_of u from) reply (begun from name))
  granted-way c lst_base a h = by-plan c (lst_base_plan boxed t u reply) (lst-base-shape t c u reply)
  granted-way c (lst_tree from name depth) a h =
      by-plan c (lst_tree_plan boxed t (list_of u from) reply (begun from name) depth) (lst-tree-shape t c (list_of u from) reply (begun from name) depth)
  granted-way c (lst_base_tree depth) a h = by-plan c (lst_base_tree_plan boxed t u reply depth) (lst-base-tree-shape t c u reply depth)
  granted-way c (rewrite name) a h = by-plan c (rewrite_plan boxed t u text name) (rewrite-shape t c u text name h.text)

  pub ways : Way t line text reply u
  ways = go (course t line text reply u)
    where
      go : Course t line text reply u → Way t line text reply u
      go (untried f h e) = lent (λ k. rw (e k))
      go (tried r h e) = granted-way (sound-clauses t h.sized h.sound) r h.asked h.told e
