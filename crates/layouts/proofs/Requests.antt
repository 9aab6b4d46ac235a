-- Every request on twins: the same answer and reply, and twin tables after it, whatever the stop number. The entrance lets both in or neither;
-- a sound table's entries name headings, so that each function's plan agrees.
use mathlib.Core.Bool.{true}
use mathlib.Core.List.{List}
use mathlib.Core.Path.{◌≡◌, refl}
use Prim.Native.Nat.{ℕ}
use native.Mathlib.Omega.{arith}
use borrow.Author.Tests.{eqb-true, not-false}
use Rattle.paper.specs.Record.{names}
use Rattle.paper.specs.Layout.{Layout}
use Rattle.paper.specs.Check.{Verdict, passed, refused}
use Rattle.paper.specs.Request.{Request, crd, wrs, rds, cpy, dup, chn, del, dst, dpr, lst, lst_base, lst_tree, lst_base_tree, rewrite, Read, request, unread, asked}
use Rattle.paper.specs.Sound.{heading_there, sound}
use Rattle.paper.specs.Effect.{list_of, begun, del_plan, dst_plan}
use Rattle.paper.specs.Answer.{granted, entrance, acted, admitted, requested}
use Rattle.laws.proofs.Lay.{Whole, within}
use Rattle.laws.proofs.Sound.{every_true}
use Rattle.demands.proofs.Request.Fair.{verdict-idle}
use Rattle.demands.proofs.Request.Formed.{named-last}
use Rattle.demands.proofs.Request.Read.{Told, Right, read_right}
use Rattle.layouts.proofs.Lawful.{Lawful}
use Rattle.layouts.proofs.Twins.{Twins}
use Rattle.layouts.proofs.Sound.{sound-twin, sized-twin}
use Rattle.layouts.proofs.Outcomes.{Same, ran-twin, single-twin}
use Rattle.layouts.proofs.Clauses.{headings-there}
use Rattle.layouts.proofs.Deleting.{deleting-twin, deletion, destruction}
use Rattle.layouts.proofs.Plans.{Anchors, anchors-aimed, crd-twin, wrs-twin, cpy-twin, dup-twin, chn-twin, rds-twin, lst-twin, lst-base-twin, tree-agrees, base-tree-agrees, dpr-twin, rewrite-twin}

-- a sound table's entries name headings
sound-anchors : (L : Layout) (t : List ℕ) → Whole t → sound L t ≡ true → Anchors t
sound-anchors L t w e i k = eqb-true _ _ (every_true 2 (heading_there t) t (headings-there L t e) i (within t i w (λ z. omega arith)) k)

module _ {A B : Layout} (a : Lawful A) (b : Lawful B) {t s : List ℕ} (w : Twins A B t s) (text reply : List ℕ) (u k : ℕ) where
  granted-twin : Anchors t → (r : Request) → Told text r → Same A B (granted A t text reply u k r) (granted B s text reply u k r)
  unfolding granted
  granted-twin h (crd name lev code) p =
      single-twin w reply k (ran-twin k (crd-twin a b w (anchors-aimed t h) u name lev code (named-last name p.name).link))
  granted-twin h (wrs life lev code name) p =
      single-twin w reply k (ran-twin k (wrs-twin a b w (anchors-aimed t h) u text life lev code name (named-last name p.name).link))
  granted-twin h (rds from name first count) p =
      single-twin w reply k (ran-twin k (rds-twin w (anchors-aimed t h) (list_of u from) reply (begun from name) first count))
  granted-twin h (cpy from old new life lev code) p =
      single-twin w reply k
      (ran-twin k (cpy-twin a b w (anchors-aimed t h) (list_of u from) u (begun from old) new life lev code (named-last new p.new).link))
  granted-twin h (dup from old to new code) p =
      single-twin w reply k
      (ran-twin k
      (dup-twin a b w (anchors-aimed t h) (list_of u from) (list_of u to) to (begun from old) (begun to new) code (named-last (begun to new) p.new).link))
  granted-twin h (chn old link) p = single-twin w reply k (ran-twin k (chn-twin a b w (anchors-aimed t h) u old link p.link))
  granted-twin h (del names) p = deleting-twin (del_plan A) (del_plan B) (deletion A B) u reply t s w (anchors-aimed t h) k 0 0 names
  granted-twin h (dst names) p = deleting-twin (dst_plan A) (dst_plan B) (destruction A B) u reply t s w (anchors-aimed t h) k 0 0 names
  granted-twin h (dpr name code) p = single-twin w reply k (ran-twin k (dpr-twin w h u name code))
  granted-twin h (lst from name) p = single-twin w reply k (ran-twin k (lst-twin w (anchors-aimed t h) (list_of u from) reply (begun from name)))
  granted-twin h lst_base p = single-twin w reply k (ran-twin k (lst-base-twin w (anchors-aimed t h) u reply))
  granted-twin h (lst_tree from name depth) p =
      single-twin w reply k (ran-twin k (tree-agrees w (anchors-aimed t h) (list_of u from) reply (begun from name) depth))
  granted-twin h (lst_base_tree depth) p = single-twin w reply k (ran-twin k (base-tree-agrees w (anchors-aimed t h) u reply depth))
  granted-twin h (rewrite name) p = single-twin w reply k (ran-twin k (rewrite-twin w h u text name))

  pub requested-twin : (line : List ℕ) → Same A B (requested A t line text reply u k) (requested B s line text reply u k)
  unfolding requested entrance
  requested-twin line = rw (← entrance-twin) (enters (entrance A t u) refl)
    where
      entrance-twin : entrance A t u ≡ entrance B s u
      entrance-twin = rw (sized-twin w, sound-twin w)

      reads : sound A t ≡ true → (x : Read) → Right text x → Same A B (acted A t text reply u k x) (acted B s text reply u k x)
      reads e (unread f) h = record { answer = refl; reply = refl; table = w }
      reads e (request r) h = granted-twin (sound-anchors A t w.whole e) r h

      enters : (v : Verdict) → entrance A t u ≡ v → Same A B (admitted A t line text reply u k v) (admitted B s line text reply u k v)
      enters (refused f) e = record { answer = refl; reply = refl; table = w }
      enters passed e = reads (not-false (sound A t) (verdict-idle _ e).1.0) (asked line text) (read_right line text)
