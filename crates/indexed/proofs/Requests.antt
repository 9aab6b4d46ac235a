-- A list that `is_true` refuses is not the true index, or the table is refused first: 1, 2 or 26. One that it passes is asked of `elephant`, and what
-- was stored uncut left a sound table, which has no rank twice: so the repaired list is its true index.
use mathlib.Core.Bool.{Bool, true, false, ◌&&◌, cond}
use mathlib.Core.List.{List}
use mathlib.Core.Logic.{◌≢◌}
use mathlib.Core.Path.{◌≡◌, refl, sym, ap, ◌∙◌}
use Prim.Native.Nat.{ℕ, ◌/◌}
use lib.Dec.{eqb}
use lib.ListN.{length}
use borrow.Author.Tests.{eq-eqb}
use Rattle.paper.specs.Layout.{boxed}
use Rattle.paper.specs.Check.{whole, refusal_at, verdict}
use Rattle.paper.specs.Table.{sized, rooms}
use Rattle.paper.specs.Sound.{sound}
use Rattle.paper.specs.Answer.{Outcome, plain, refusing, entrance, requested}
use Rattle.paper.specs.Index.{true_index, is_true, Kept, keeping}
use Rattle.laws.proofs.Tests.{and_both, and_left, and_right, not-both}
use Rattle.answers.specs.Shown.{shown}
use Rattle.answers.specs.declared.Answer.{Answer}
use Rattle.answers.specs.Promised.{Promised, Keeps}
use Rattle.demands.proofs.Answered.{answered}
use Rattle.index_laws.specs.Judged.{apart, judged, fitting}
use Rattle.index_laws.proofs.Truth.{true-length}
use Rattle.index_laws.proofs.Good.{Good, true-index}
use Rattle.index_demands.proofs.Apart.{sound-apart, sound-judged}
use Rattle.index_demands.proofs.Requests.{Ways, unfit, untrue, taken, ways, kept-as-before, stays-true, cut-as-lent}
use Rattle.indexed.specs.Refused.{refused_with}
use Rattle.indexed.proofs.Unstored.{unstored}

-- what a repair stands on: no rank twice, and a place for each record
pub record Ready (t x : List ℕ) : Type 0 where
  pub apart : apart t ≡ true
  pub fitting : fitting t x ≡ true

pub ready : (t x : List ℕ) → sized t ≡ true → sound boxed t ≡ true → length x ≡ rooms t → Ready t x
unfolding fitting
ready t x s e l = record { apart = sound-apart t s e; fitting = and_both (sized t) _ s (eq-eqb _ _ l) }

pub judged-true : (t x : List ℕ) → judged t x ≡ true → is_true t x ≡ true
unfolding judged
judged-true t x e = and_right (apart t) _ e

module _ (t x line text reply : List ℕ) (u k : ℕ) where
  abbrev before : Outcome
  before = requested boxed t line text reply u k

  abbrev kept : Kept
  kept = keeping t x line text reply u k

  -- a table that no request takes is refused with 1 or 2
  unfit-refused : (sized t && sound boxed t) ≡ false → before ≡ refusing t reply (refusal_at (refused_with t) (whole 0))
  unfolding refused_with requested entrance verdict
  unfit-refused e = go (sized t) refl (sound boxed t) refl
    where
      go : (a : Bool) → sized t ≡ a → (b : Bool) → sound boxed t ≡ b → before ≡ refusing t reply (refusal_at (refused_with t) (whole 0))
      go false p b q = rw p
      go true p false q = rw (p, q)
      go true p true q = absurd (not-both (and_both (sized t) (sound boxed t) p q) e)

  fit-26 : (sized t && sound boxed t) ≡ true → refused_with t ≡ 26
  unfolding refused_with
  fit-26 e = rw (and_left (sized t) _ e, and_right (sized t) _ e)

  refused-kept : judged t x ≡ false → kept ≡ record { outcome = refusing t reply (refusal_at (refused_with t) (whole 0)); index = x }
  refused-kept e = go (ways t x line text reply u k)
    where
      go : Ways t x reply before kept → kept ≡ record { outcome = refusing t reply (refusal_at (refused_with t) (whole 0)); index = x }
      go (unfit f q) = q ∙ rw (unfit-refused f)
      go (untrue f g q) = q ∙ rw (fit-26 f)
      go (taken g q) = absurd (not-both (sound-judged t x g.sized g.sound ∙ g.index) e)

  -- the list is not the true index, or the table is not sound
  pub refuses : (r : Answer) → judged t x ≡ false → r ≡ shown (plain (refused_with t) (whole 0) 0 0) → Keeps kept r t x reply
  refuses r e q = rw (refused-kept e) (record { promised = record { answer = q; table = refl; reply = refl }; index = refl })

  module _ (e : is_true t x ≡ true) (r : Answer) (v w : List ℕ) (p : Promised before r v w) where
    -- the answer, the table and the reply are those of a request without an index
    keeps-by : (y : List ℕ) → y ≡ kept.index → Keeps kept r v y w
    keeps-by y q = record { promised = rw (kept-as-before t x line text reply u k e) p; index = q }

    -- cut, or nothing was stored: as lent
    pub keeps_cut : r.number ≡ 22 → Keeps kept r v x w
    keeps_cut n =
        keeps-by x (sym (cut-as-lent t x line text reply u k (rw (kept-as-before t x line text reply u k e) (sym (ap (λ a. a.number) p.answer) ∙ n))))

    pub keeps-still : r.stores ≡ 0 → Keeps kept r v x w
    keeps-still z = keeps-by x (go (ways t x line text reply u k))
      where
        still : before.table ≡ t
        still = unstored t line text reply u k (sym (ap (λ a. a.stores) p.answer) ∙ z)

        either_way : (b : Bool) → x ≡ cond b x (true_index before.table)
        either_way true = refl
        either_way false = true-index t x e ∙ ap true_index (sym still)

        go : Ways t x reply before kept → x ≡ kept.index
        go (unfit f q) = rw q
        go (untrue f g q) = rw q
        go (taken g q) = either_way (eqb before.answer.number 22) ∙ rw q

    -- stored and not cut: repaired
    module _ (n : r.number ≢ 22) (z : r.stores ≢ 0) where
      good : Good t x
      good = go (ways t x line text reply u k)
        where
          go : Ways t x reply before kept → Good t x
          go (unfit f q) = absurd (z (ap (λ a. a.stores) p.answer ∙ rw (unfit-refused f)))
          go (untrue f g q) = absurd (not-both e g)
          go (taken g q) = g

      after : Good v kept.index
      after =
          let b = kept-as-before t x line text reply u k e in
          rw (p.table, sym b)
          (stays-true t x line text reply u k good (rw b (λ m. n (ap (λ a. a.number) p.answer ∙ m))))

      pub repair-ready : Ready v x
      repair-ready =
          ready v x after.sized after.sound
          (true-length t x e ∙ ap (λ i. i / 32) (sym (answered t line text reply u k).table ∙ ap length (sym p.table)))

      pub keeps-repaired : (y : List ℕ) → y ≡ true_index v → Keeps kept r v y w
      keeps-repaired y q = keeps-by y (q ∙ sym (true-index v kept.index after.index))
