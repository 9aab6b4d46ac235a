-- Every refusal of a walk or a plan has a number of the list and the place that goes with it, argument and link.
-- Each stands in one check with its number and its place written there, and a walk stops with 11, 12 or 13 alone, at a link of its chain.
use mathlib.Core.Bool.{Bool, true}
use mathlib.Core.List.{List, [], ◌∷◌, ◌++◌}
use mathlib.Core.Logic.{inl, inr}
use mathlib.Core.Path.{◌≡◌, refl}
use Prim.Native.Nat.{ℕ, ◌+◌, ◌≤◌}
use native.Mathlib.Omega.{arith}
use lib.ListN.{length}
use borrow.Author.Tests.{ltb-false}
use Rattle.paper.specs.Layout.{boxed}
use Rattle.paper.specs.Declaration.{Part}
use Rattle.paper.specs.Line.{Word}
use Rattle.paper.specs.Check.{at_link, Refusal, refusal_at, Check, check}
use Rattle.paper.specs.Request.{Begin, own, take_of, give_to}
use Rattle.paper.specs.Walk.{State}
use Rattle.paper.specs.Store.{Store}
use Rattle.paper.specs.Effect.{Plan, Planned, plan, halted, chain_of, end_of, to_holder, to_end, Making, making, link_taken, linking, storing, showing, read_inhibited, not_simple, no_directory, write_inhibited, too_short, crd_plan, wrs_plan, rds_plan, cpy_plan, dup_plan, chn_plan, del_plan, dst_plan, dpr_plan, lst_plan, lst_base_plan, lst_tree_plan, lst_base_tree_plan, rewrite_plan}
use Rattle.laws.proofs.Lists.{Every, every_append, every-parts}
use Rattle.demands.proofs.Request.Fair.{Idle, Fair, FairCheck, Chained, of_chain, verdict-fair, fair-line, fair-linked, fair-end, fair-whole}
use Rattle.demands.proofs.Request.Several.{Several, deletion, destruction, plan_of}
use Rattle.demands.proofs.Request.Steps.{Walks, Halts, holder-within, end-within}
use Rattle.demands.proofs.Request.Ended.{Refused, walking, checked}

-- a plan's refusals are fair, and what it writes fits the reply buffer where no check holds
pub record FairPlan (names : ℕ → List (List ℕ)) (reply : List ℕ) (p : Plan) : Type 0 where
  pub checks : Every (FairCheck names) p.checks
  pub fits : Every Idle p.checks → length p.reply ≤ length reply

abbrev pub FairPlanned : (ℕ → List (List ℕ)) → List ℕ → Planned → Type 0
FairPlanned names reply (plan p) = FairPlan names reply p
FairPlanned names reply (halted f) = Fair names f

walks-chain : (n : ℕ) → Walks n → of_chain n ≡ true
walks-chain n (inl (inl e)) = rw e
walks-chain n (inl (inr e)) = rw e
walks-chain n (inr e) = rw e

module _ (names : ℕ → List (List ℕ)) (reply : List ℕ) where
  -- the refusal of a plan, at its walks or its checks
  pub fair-refused : (x : Planned) (f : Refusal) → FairPlanned names reply x → Refused x f → Fair names f
  fair-refused x f h (walking e) = rw e at h
  fair-refused x f h (checked p e v) = let g : FairPlan names reply p = rw e at h in verdict-fair names p.checks f g.checks v

  -- a walk, and what follows it
  module _ (a : ℕ) (w : Word) (c : Chained names a w) where
    fair-walk : (n link : ℕ) → Halts (chain_of w) n link → Fair names (refusal_at n (at_link a link))
    fair-walk n link h = fair-linked names n a link (walks-chain n h.number) c.from (rw c.long h.most) (rw c.long h.none)

    fair-to_end : (t : List ℕ) (u : ℕ) (f : State → State → Planned) → ((d s : State) → FairPlanned names reply (f d s))
        → FairPlanned names reply (to_end boxed t u a w f)
    fair-to_end t u f g = end-within (FairPlanned names reply) a w fair-walk t u f (λ d s _ _. g d s)

    fair-to_holder : (t : List ℕ) (u : ℕ) (f : State → Planned) → ((d : State) → FairPlanned names reply (f d))
        → FairPlanned names reply (to_holder boxed t u a w f)
    fair-to_holder t u f g = holder-within (FairPlanned names reply) a w fair-walk t u f (λ d _. g d)

module _ (names : ℕ → List (List ℕ)) (t reply : List ℕ) (u : ℕ) where
  -- a new entry: 14, 17 and 18 at its place, 19 of the whole; 13 and 15 of the old name, and what is tried after 19
  fair-making : (m : Making) (thirteen fifteen late : List Check) → ((n : ℕ) → of_chain n ≡ true → Fair names (refusal_at n m.place))
      → Every (FairCheck names) thirteen → Every (FairCheck names) fifteen → Every (FairCheck names) late
      → FairPlanned names reply (making boxed t m thirteen fifteen late)
  unfolding making
  fair-making m thirteen fifteen late at a b c =
      record {
        checks =
            every_append (FairCheck names) (thirteen ++ write_inhibited m.place m.directory ∷ fifteen) _
            (every_append (FairCheck names) thirteen _ a (at 14 refl, b))
            (at 17 refl, (at 18 refl, (fair-line names 19 refl, c)));
        fits = λ h. omega arith;
      }

  pub fair-crd_plan : (w : Word) (level code : Part) → Chained names 1 w → FairPlanned names reply (crd_plan boxed t u w level code)
  unfolding crd_plan
  fair-crd_plan w level code c =
      fair-to_holder names reply 1 w c t u _ (λ d. fair-making _ [] [] [] (λ n e. fair-end names n 1 w e c) tt tt tt)

  pub fair-wrs_plan : (text : List ℕ) (lifetime : ℕ) (level code : Part) (w : Word) → Chained names 2 w
      → FairPlanned names reply (wrs_plan boxed t u text lifetime level code w)
  unfolding wrs_plan
  fair-wrs_plan text lifetime level code w c =
      fair-to_holder names reply 2 w c t u _ (λ d. fair-making _ [] [] [] (λ n e. fair-end names n 2 w e c) tt tt tt)

  pub fair-cpy_plan : (v : ℕ) (old new : Word) (life lev code : Part) → Chained names 1 old → Chained names 2 new → names 3 ≡ []
      → FairPlanned names reply (cpy_plan boxed t v u old new life lev code)
  unfolding cpy_plan
  fair-cpy_plan v old new life lev code c d z =
      fair-to_end names reply 1 old c t v _ (λ _ f.
      fair-to_holder names reply 2 new d t u _ (λ _.
      fair-making _ _ _ _ (λ n e. fair-end names n 2 new e d) (fair-end names 13 1 old refl c, tt) (fair-end names 15 1 old refl c, tt)
      (fair-end names 23 1 old refl c, (fair-whole names 25 3 refl (omega arith) z, tt))))

  -- a give: 16 at its place
  fair-taken : (to : Begin) (m : Making) → Fair names (refusal_at 16 m.place) → Every (FairCheck names) (link_taken boxed t to m)
  fair-taken own m h = tt
  fair-taken (take_of n) m h = tt
  fair-taken (give_to n) m h = (h, tt)

  pub fair-dup_plan : (v : ℕ) (to : Begin) (old new : Word) (code : Part) → Chained names 1 old → Chained names 2 new
      → FairPlanned names reply (dup_plan boxed t v u to old new code)
  unfolding dup_plan
  fair-dup_plan v to old new code c d =
      fair-to_end names reply 1 old c t v _ (λ _ f.
      fair-to_holder names reply 2 new d t u _ (λ s.
      fair-making _ [] _ [] (λ n e. fair-end names n 2 new e d) tt (fair-taken to (linking boxed t f s new code) (fair-end names 16 2 new refl d)) tt))

  -- a plan of two checks that writes nothing
  pub fair-chn_plan : (old link : Word) → Chained names 1 old → names 2 ≡ [] → FairPlanned names reply (chn_plan boxed t u old link)
  unfolding chn_plan
  fair-chn_plan old link c z =
      fair-to_end names reply 1 old c t u _ (λ _ _.
      record { checks = (fair-end names 14 1 old refl c, (fair-whole names 16 2 refl (omega arith) z, tt)); fits = λ h. omega arith })

  pub fair-dpr_plan : (w : Word) (code : ℕ) → Chained names 1 w → names 2 ≡ [] → FairPlanned names reply (dpr_plan boxed t u w code)
  unfolding dpr_plan
  fair-dpr_plan w code c z =
      fair-to_end names reply 1 w c t u _ (λ _ _.
      record { checks = (fair-end names 14 1 w refl c, (fair-whole names 21 2 refl (omega arith) z, tt)); fits = λ h. omega arith })

  -- 14 and 18 at its end
  fair-clearing : (a : ℕ) (w : Word) → Chained names a w → {one other : Bool} {ss : List Store}
      → FairPlanned names reply (storing (check one 14 (end_of a w) ∷ check other 18 (end_of a w) ∷ []) ss)
  fair-clearing a w c = record { checks = (fair-end names 14 a w refl c, (fair-end names 18 a w refl c, tt)); fits = λ h. omega arith }

  -- one name of DEL or DST
  pub fair-named : (s : Several) (a : ℕ) (w : Word) → Chained names a w → FairPlanned names reply (plan_of s t u a w)
  unfolding del_plan dst_plan
  fair-named deletion a w c = fair-to_end names reply a w c t u _ (λ _ _. fair-clearing a w c)
  fair-named destruction a w c = fair-to_end names reply a w c t u _ (λ _ _. fair-clearing a w c)

  -- a plan that writes: 20 where the buffer is too short
  fair-showing : (cs late : List Check) (out : List ℕ) → Every (FairCheck names) cs → Every (FairCheck names) late
      → FairPlanned names reply (showing cs out reply late)
  fair-showing cs late out h l =
      record {
        checks = every_append (FairCheck names) cs _ h (fair-line names 20 refl, l);
        fits = λ i. ltb-false _ _ (every-parts Idle cs (too_short out reply ∷ late) i).1.0;
      }

  -- 13 and 15 of the name read or listed
  fair-reading : (w : Word) → Chained names 1 w → (s : State) (fifteen : Check) (late : List Check) (out : List ℕ) → Fair names fifteen.refusal
      → Every (FairCheck names) late → FairPlanned names reply (showing (read_inhibited (end_of 1 w) s ∷ fifteen ∷ []) out reply late)
  fair-reading w c s fifteen late out h l =
      fair-showing (read_inhibited (end_of 1 w) s ∷ fifteen ∷ []) late out (fair-end names 13 1 w refl c, (h, tt)) l

  -- .. and 23 and 28
  pub fair-rds_plan : (w : Word) (first count : Part) → Chained names 1 w → names 2 ≡ [] → FairPlanned names reply (rds_plan boxed t u reply w first count)
  unfolding rds_plan
  fair-rds_plan w first count c z =
      fair-to_end names reply 1 w c t u _ (λ _ f.
      fair-reading w c f (not_simple (end_of 1 w) t f) _ _ (fair-end names 15 1 w refl c)
      (fair-end names 23 1 w refl c, (fair-whole names 28 2 refl (omega arith) z, tt)))

  pub fair-lst_plan : (w : Word) → Chained names 1 w → FairPlanned names reply (lst_plan boxed t u reply w)
  unfolding lst_plan
  fair-lst_plan w c =
      fair-to_end names reply 1 w c t u _ (λ _ f. fair-reading w c f (no_directory (end_of 1 w) t f) [] _ (fair-end names 15 1 w refl c) tt)

  pub fair-lst_base_plan : FairPlanned names reply (lst_base_plan boxed t u reply)
  unfolding lst_base_plan
  fair-lst_base_plan = fair-showing [] [] _ tt tt

  pub fair-lst_tree_plan : (w : Word) (depth : ℕ) → Chained names 1 w → FairPlanned names reply (lst_tree_plan boxed t u reply w depth)
  unfolding lst_tree_plan
  fair-lst_tree_plan w depth c =
      fair-to_end names reply 1 w c t u _ (λ _ f. fair-reading w c f (no_directory (end_of 1 w) t f) [] _ (fair-end names 15 1 w refl c) tt)

  pub fair-lst_base_tree_plan : (depth : ℕ) → FairPlanned names reply (lst_base_tree_plan boxed t u reply depth)
  unfolding lst_base_tree_plan
  fair-lst_base_tree_plan depth = fair-showing [] [] _ tt tt

  -- a plan of four checks that writes nothing
  pub fair-rewrite_plan : (text : List ℕ) (w : Word) → Chained names 2 w → FairPlanned names reply (rewrite_plan boxed t u text w)
  unfolding rewrite_plan
  fair-rewrite_plan text w c =
      fair-to_end names reply 2 w c t u _ (λ _ _.
      record {
        checks = (
          fair-end names 14 2 w refl c,
          (fair-end names 15 2 w refl c, (fair-line names 19 refl, (fair-end names 24 2 w refl c, tt))),
        );
        fits = λ h. omega arith;
      })

-- a refusal of one name of DEL or DST, whatever line it stands in
pub named-refused : (s : Several) (t : List ℕ) (u n : ℕ) (w : Word) (f : Refusal) → Refused (plan_of s t u (n + 1) w) f → Fair (λ _. w.names) f
named-refused s t u n w f =
    fair-refused (λ _. w.names) [] (plan_of s t u (n + 1) w) f (fair-named (λ _. w.names) t [] u s (n + 1) w (record { from = omega arith; long = refl }))
