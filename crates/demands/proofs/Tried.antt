-- A request that is tried on a sound table is one plan, which keeps soundness and has the shape of the power cut, or DEL or
-- DST, a plan for each name, or `WRS*`, whose shape is its own: each function is told what it needs, and a name that was read fits its field.
use mathlib.Core.List.{List}
use mathlib.Core.Path.{◌≡◌}
use Prim.Native.Nat.{ℕ, ◌≤◌}
use lib.ListN.{length}
use Rattle.paper.specs.Layout.{boxed}
use Rattle.paper.specs.Line.{Word}
use Rattle.paper.specs.Check.{Refusal}
use Rattle.paper.specs.Request.{Request, crd, wrs, rds, cpy, dup, chn, del, dst, dpr, lst, lst_base, lst_tree, lst_base_tree, rewrite, request, asked}
use Rattle.paper.specs.Effect.{list_of, begun, Planned, crd_plan, wrs_plan, rds_plan, cpy_plan, dup_plan, chn_plan, dpr_plan, lst_plan, lst_base_plan, lst_tree_plan, lst_base_tree_plan, rewrite_plan}
use Rattle.paper.specs.Answer.{refusing, ran, single, deleting, granted, requested}
use Rattle.demands.proofs.Sound.Right.{Right, sound-right}
use Rattle.demands.proofs.Request.Several.{Several, deletion, destruction, asking, plan_of}
use Rattle.demands.proofs.Request.Begun.{list-most}
use Rattle.demands.proofs.Request.Read.{Told}
use Rattle.demands.proofs.Request.Course.{Course, untried, tried, course}
use Rattle.demands.proofs.SoundKept.Kept.{Keeps, dpr-keeps, rds-keeps, lst-keeps, lst_base-keeps, lst_tree-keeps, lst_base_tree-keeps}
use Rattle.demands.proofs.SoundKept.Keeping.{crd-keeps, wrs-keeps, cpy-keeps, dup-keeps, chn-kept}
use Rattle.demands.proofs.PowerCut.Plans.{Safe, crd-safe, wrs-safe, cpy-safe, dup-safe, chn-safe, dpr-safe, rds-safe, lst-safe, lst-base-safe, lst-tree-safe, lst-base-tree-safe}

pub data Tried (t line text reply : List ℕ) (u : ℕ) : Type 0 where
  lent : (f : Refusal) → ((k : ℕ) → requested boxed t line text reply u k ≡ refusing t reply f) → Tried t line text reply u
  by-plan : (x : Planned) → Safe t x → Keeps t x
      → ((k : ℕ) → requested boxed t line text reply u k ≡ single t reply k (ran k x)) → Tried t line text reply u
  by_names : (s : Several) (names : List Word) → asked line text ≡ request (asking s names)
      → ((k : ℕ) → requested boxed t line text reply u k ≡ deleting (plan_of s) t u reply k 0 0 names) → Tried t line text reply u
  by-rewrite : (name : Word) → asked line text ≡ request (rewrite name) → length text ≤ 24000
      → ((k : ℕ) → requested boxed t line text reply u k ≡ single t reply k (ran k (rewrite_plan boxed t u text name))) → Tried t line text reply u

module _ (t line text reply : List ℕ) (u : ℕ) where
  tries : Right t → u ≤ 999999 → (r : Request) → asked line text ≡ request r → Told text r
      → ((k : ℕ) → requested boxed t line text reply u k ≡ granted boxed t text reply u k r) → Tried t line text reply u
  unfolding granted
  tries c m (crd name level code) a h =
      by-plan (crd_plan boxed t u name level code) (crd-safe t c.clauses u name level code)
      (crd-keeps t c.clauses u name level code m h)
  tries c m (wrs lifetime level code name) a h =
      by-plan (wrs_plan boxed t u text lifetime level code name)
      (wrs-safe t c.clauses u text lifetime level code name)
      (wrs-keeps t c.clauses u text lifetime level code name m h)
  tries c m (rds from name first count) a h =
      by-plan (rds_plan boxed t (list_of u from) reply (begun from name) first count)
      (rds-safe t c.clauses (list_of u from) reply (begun from name) first count)
      (rds-keeps t (list_of u from) reply (begun from name) first count c)
  tries c m (cpy from old new lifetime level code) a h =
      by-plan (cpy_plan boxed t (list_of u from) u (begun from old) new lifetime level code)
      (cpy-safe t c.clauses (list_of u from) u (begun from old) new lifetime level code)
      (cpy-keeps t c.clauses (list_of u from) u (begun from old) new lifetime level code m h)
  tries c m (dup from old to new code) a h =
      by-plan (dup_plan boxed t (list_of u from) (list_of u to) to (begun from old) (begun to new) code)
      (dup-safe t c.clauses (list_of u from) (list_of u to) to (begun from old) (begun to new) code)
      (dup-keeps t c.clauses (list_of u from) (list_of u to) to (begun from old) (begun to new) code (list-most u to (begun to new) h.gives m) h)
  tries c m (chn old link) a h =
      by-plan (chn_plan boxed t u old link) (chn-safe t c.clauses u old link)
      (chn-kept t c.clauses c.counts u old link h)
  tries c m (del names) a h = by_names deletion names a
  tries c m (dst names) a h = by_names destruction names a
  tries c m (dpr name code) a h =
      by-plan (dpr_plan boxed t u name code) (dpr-safe t c.clauses u name code) (dpr-keeps t u name code c h.code)
  tries c m (lst from name) a h =
      by-plan (lst_plan boxed t (list_of u from) reply (begun from name)) (lst-safe t c.clauses (list_of u from) reply (begun from name))
      (lst-keeps t (list_of u from) reply (begun from name) c)
  tries c m lst_base a h = by-plan (lst_base_plan boxed t u reply) (lst-base-safe t c.clauses u reply) (lst_base-keeps t u reply c)
  tries c m (lst_tree from name depth) a h =
      by-plan (lst_tree_plan boxed t (list_of u from) reply (begun from name) depth) (lst-tree-safe t c.clauses (list_of u from) reply (begun from name) depth)
      (lst_tree-keeps t (list_of u from) reply (begun from name) depth c)
  tries c m (lst_base_tree depth) a h =
      by-plan (lst_base_tree_plan boxed t u reply depth) (lst-base-tree-safe t c.clauses u reply depth) (lst_base_tree-keeps t u reply depth c)
  tries c m (rewrite name) a h = by-rewrite name a h.text

  pub ways : Tried t line text reply u
  ways = go (course t line text reply u)
    where
      go : Course t line text reply u → Tried t line text reply u
      go (untried f h e) = lent f e
      go (tried r h e) = tries (sound-right t h.sized h.sound) h.user r h.asked h.told e
