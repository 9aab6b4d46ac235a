-- What LST* writes is document 02's tree: on a sound table no directory has more than 112 entries, no user more than 100 base files, and every
-- entry's code is a digit. What `list_tree` answers is then `writing`'s two cases.
use mathlib.Core.Bool.{Bool, true, false, ◌&&◌, not, cond}
use mathlib.Core.List.{List, []}
use mathlib.Core.Path.{◌≡◌, refl, ap, ◌∙◌}
use Prim.Native.Nat.{ℕ, ◌≤◌, ◌<◌}
use native.Mathlib.Nat.{zero-add}
use native.Mathlib.Omega.{arith}
use lib.Dec.{eqb, leb}
use Rattle.std.specs.Prelude.{Some, None}
use lib.ListN.{length}
use lib.Seq.{sets}
use borrow.Author.Tests.{le-leb, leb-true, leb-false}
use Rattle.paper.specs.Scan.{count_below}
use Rattle.paper.specs.Record.{byte, entry_code}
use Rattle.paper.specs.Layout.{name_of, boxed}
use Rattle.paper.specs.Table.{rooms, rec}
use Rattle.paper.specs.Name.{same, dot_w}
use Rattle.paper.specs.Entry.{base_list, in_directory, stands, crowd}
use Rattle.paper.specs.Check.{whole}
use Rattle.paper.specs.Listing.{tree}
use Rattle.paper.specs.Effect.{writing}
use Rattle.paper.specs.Answer.{plain, granting}
use Rattle.laws.proofs.Tests.{and_left, clash}
use Rattle.laws.proofs.Counts.{count-mono}
use Rattle.laws.proofs.Entries.{stands-true}
use Rattle.demands.proofs.Sound.Clauses.{Sound, sound-clauses, entry-code}
use Rattle.effects.proofs.Places.{sized-most}
use Rattle.answers.specs.Shown.{shown}
use Rattle.listing.specs.Shown.{is_listed}
use Rattle.listing.specs.declared.Listed.{Listed}
use Rattle.listing.specs.declared.Listed.TheVariants.{Directory, Base}
use Rattle.listing.proofs.Promised.{sets-front}
use Rattle.tree.specs.Gathered.{inside}
use Rattle.tree.specs.Shown.{tree_shown, placed, answered, replied}
use Rattle.tree.proofs.Promised.{tree-shown}
use Rattle.elephant.specs.Done.{Fit, Wrote}
use Rattle.elephant.proofs.Verdicts.{none_left, wrote-short, wrote-out}

module _ (t : List ℕ) (f : Fit t) where
  c : Sound t
  c = sound-clauses t f.sized f.sound

  few : (h : ℕ) → count_below (inside t h) (rooms t) ≤ 112
  unfolding crowd
  few h = go (eqb h 65535) (c.crowds (in_directory h))
    where
      go : (b : Bool) → count_below (inside t h) (rooms t) ≤ cond b 100 112 → count_below (inside t h) (rooms t) ≤ 112
      go true l = omega arith
      go false l = l

  base-few : (u : ℕ) → count_below (λ i. stands (base_list u) (rec t i) && not (same dot_w (name_of boxed (rec t i)))) (rooms t) ≤ 112
  unfolding crowd
  base-few u =
      omega (
        arith,
        c.crowds (base_list u),
        count-mono (λ i. stands (base_list u) (rec t i) && not (same dot_w (name_of boxed (rec t i)))) (λ i. stands (base_list u) (rec t i)) (rooms t)
            (λ i _ x. and_left (stands (base_list u) (rec t i)) _ x),
      )

  digits : (e : ℕ) → e < rooms t → byte (rec t e) 0 ≡ 2 → entry_code (rec t e) ≤ 7
  digits e l k = entry-code (rec t e) ((c.own e l).entry k)

  sound-tree : (w : Listed) (depth : ℕ) → tree_shown t depth 0 (is_listed w) ≡ tree boxed t depth 0 (is_listed w)
  sound-tree (Directory h) depth =
      tree-shown t few digits depth 0 (stands (in_directory h.0)) (λ r x. (stands-true (in_directory h.0) r x).kind) (few h.0)
  sound-tree (Base u) depth =
      tree-shown t few digits depth 0 (λ r. stands (base_list u) r && not (same dot_w (name_of boxed r)))
      (λ r x. (stands-true (base_list u) r (and_left (stands (base_list u) r) _ x)).kind) (base-few u)

-- what `list_tree` answered: too long, and the reply as it was; or all of it at the front
module _ (t s reply after : List ℕ) (most : rooms t ≤ 2048) (e : after ≡ replied t s reply) where
  tree-short : None ≡ answered t s reply → (length reply < length s) × (after ≡ reply)
  unfolding answered replied placed
  tree-short q = go (leb (length s) (length reply)) refl (rw (le-leb (rooms t) 2048 most, zero-add) at q) (rw (le-leb (rooms t) 2048 most) at e)
    where
      go : (b : Bool) → leb (length s) (length reply) ≡ b → None ≡ cond b (Some (length s)) None → after ≡ cond b (sets reply 0 s) reply
          → (length reply < length s) × (after ≡ reply)
      go true x y z = clash (cc)
      go false x y z = (leb-false (length s) (length reply) x, z)

  tree-out : (n : ℕ) → Some n ≡ answered t s reply → (length s ≤ length reply) × ((n ≡ length s) × (after ≡ sets reply 0 s))
  unfolding answered replied placed
  tree-out n q = go (leb (length s) (length reply)) refl (rw (le-leb (rooms t) 2048 most, zero-add) at q) (rw (le-leb (rooms t) 2048 most) at e)
    where
      go : (b : Bool) → leb (length s) (length reply) ≡ b → Some n ≡ cond b (Some (length s)) None → after ≡ cond b (sets reply 0 s) reply
          → (length s ≤ length reply) × ((n ≡ length s) × (after ≡ sets reply 0 s))
      go true x y z = (leb-true (length s) (length reply) x, (cc, z))
      go false x y z = clash (cc)

-- .. as `writing`
module _ (t reply after : List ℕ) (f : Fit t) (w : Listed) (depth : ℕ) (e : after ≡ replied t (tree_shown t depth 0 (is_listed w)) reply) where
  abbrev out : List ℕ
  out = tree boxed t depth 0 (is_listed w)

  left : after ≡ replied t out reply
  left = e ∙ ap (λ (s : List ℕ). replied t s reply) (sound-tree t f w depth)

  answers : answered t (tree_shown t depth 0 (is_listed w)) reply ≡ answered t out reply
  answers = ap (λ (s : List ℕ). answered t s reply) (sound-tree t f w depth)

  pub deep-short : None ≡ answered t (tree_shown t depth 0 (is_listed w)) reply
      → Wrote t reply (writing [] out reply) (shown (plain 20 (whole 0) 0 0)) after
  deep-short q =
      let h = tree-short t out reply after (sized-most t f.sized) left (q ∙ answers) in
      rw h.1 (wrote-short t reply out [] h.0)

  pub deep_out : (n : ℕ) → Some n ≡ answered t (tree_shown t depth 0 (is_listed w)) reply
      → Wrote t reply (writing [] out reply) (shown (granting false n 0)) after
  deep_out n q =
      let h = tree-out t out reply after (sized-most t f.sized) left n (q ∙ answers) in
      rw h.1.0 (wrote-out t reply out [] after h.0 none_left (h.1.1 ∙ sets-front out reply h.0))
