-- A request with an index goes one of three ways: the table is not of fit size or not sound and it is refused as before, the list is not the
-- true index and it is refused with 26, or the list is and it is the request of before, after which the index is the true one, or, on 22, as lent.
use mathlib.Core.Bool.{Bool, true, false, ◌&&◌, cond, true≢false}
use mathlib.Core.List.{List}
use mathlib.Core.Logic.{◌≢◌}
use mathlib.Core.Path.{◌≡◌, refl, sym, ap}
use Prim.Native.Nat.{ℕ}
use lib.Dec.{eqb, ltb}
use borrow.Author.Tests.{eq-eqb, ne_eqb}
use Rattle.paper.specs.Layout.{boxed}
use Rattle.paper.specs.Table.{sized}
use Rattle.paper.specs.Check.{whole, refusal_at, verdict}
use Rattle.paper.specs.Sound.{sound}
use Rattle.paper.specs.Answer.{Outcome, refusing, entrance, requested}
use Rattle.paper.specs.Index.{true_index, is_true, Kept, kept_after, admission, keeping}
use Rattle.laws.proofs.Tests.{and_both, not-both}
use Rattle.demands.proofs.Stops.{Uncut}
use Rattle.demands.proofs.Answered.{answered}
use Rattle.demands.proofs.SoundKept.{sound-kept}
use Rattle.index_laws.proofs.Truth.{true-one}
use Rattle.index_laws.proofs.Good.{Good, true-index, is_true_lem}

-- only one list is the true index
pub one_index : (t x y : List ℕ) → is_true t x ≡ true → is_true t y ≡ true → x ≡ y
one_index = true-one

-- the three ways
pub data Ways (t x reply : List ℕ) (o : Outcome) (r : Kept) : Type 0 where
  unfit : (sized t && sound boxed t) ≡ false → r ≡ record { outcome = o; index = x } → Ways t x reply o r
  untrue : (sized t && sound boxed t) ≡ true → is_true t x ≡ false → r ≡ record { outcome = refusing t reply (refusal_at 26 (whole 0)); index = x }
      → Ways t x reply o r
  taken : Good t x → r ≡ kept_after x o → Ways t x reply o r

pub ways : (t x line text reply : List ℕ) (u k : ℕ) → Ways t x reply (requested boxed t line text reply u k) (keeping t x line text reply u k)
unfolding keeping admission requested entrance verdict
ways t x line text reply u k = go (sized t) refl (sound boxed t) refl (is_true t x) refl (ltb 999999 u) refl
  where
    go : (a : Bool) → sized t ≡ a → (b : Bool) → sound boxed t ≡ b → (c : Bool) → is_true t x ≡ c → (d : Bool) → ltb 999999 u ≡ d
        → Ways t x reply (requested boxed t line text reply u k) (keeping t x line text reply u k)
    go false p b q c r d w = unfit (rw p) (rw p)
    go true p false q c r d w = unfit (rw (p, q)) (rw (p, q))
    go true p true q false r d w = untrue (rw (p, q)) r (rw (p, q, r))
    go true p true q true r false w = taken (record { sized = p; sound = q; index = r }) (rw (p, q, r, w))
    go true p true q true r true w =
        taken (record { sized = p; sound = q; index = r })
        (rw (p, q, r, w) (ap (λ (y : List ℕ). record { outcome = refusing t reply (refusal_at 3 (whole 0)); index = y }) (true-index t x r)))

module _ (t x line text reply : List ℕ) (u k : ℕ) where
  abbrev before : Outcome
  before = requested boxed t line text reply u k

  abbrev kept : Kept
  kept = keeping t x line text reply u k

  -- with a true index a request is what it was without one; and on a table that no request takes
  pub kept-as-before : is_true t x ≡ true → kept.outcome ≡ before
  kept-as-before e = go (ways t x line text reply u k)
    where
      go : Ways t x reply before kept → kept.outcome ≡ before
      go (unfit f q) = rw q
      go (untrue f g q) = absurd (not-both e g)
      go (taken g q) = rw q

  pub unfit-as-before : (sized t && sound boxed t) ≡ false → kept ≡ record { outcome = before; index = x }
  unfit-as-before e = go (ways t x line text reply u k)
    where
      go : Ways t x reply before kept → kept ≡ record { outcome = before; index = x }
      go (unfit f q) = q
      go (untrue f g q) = absurd (not-both f e)
      go (taken g q) = absurd (not-both (and_both (sized t) (sound boxed t) g.sized g.sound) e)

  -- "26, exactly when .. differs from this": a refusal of every user and line, and nothing is changed
  pub not-true-26 : sized t ≡ true → sound boxed t ≡ true → is_true t x ≡ false
      → kept ≡ record { outcome = refusing t reply (refusal_at 26 (whole 0)); index = x }
  not-true-26 a b e = go (ways t x line text reply u k)
    where
      go : Ways t x reply before kept → kept ≡ record { outcome = refusing t reply (refusal_at 26 (whole 0)); index = x }
      go (unfit f q) = absurd (not-both (and_both (sized t) (sound boxed t) a b) f)
      go (untrue f g q) = q
      go (taken g q) = absurd (not-both g.index e)

  -- no request without an index has this number
  none-26 : before.answer.number ≢ 26
  none-26 e = true≢false (sym (rw e at (answered t line text reply u k).number))

  pub only-26 : kept.outcome.answer.number ≡ 26 → ((sized t && sound boxed t) ≡ true) × (is_true t x ≡ false)
  only-26 e = go (ways t x line text reply u k)
    where
      go : Ways t x reply before kept → ((sized t && sound boxed t) ≡ true) × (is_true t x ≡ false)
      go (unfit f q) = absurd (none-26 (rw q at e))
      go (untrue f g q) = (f, g)
      go (taken g q) = absurd (none-26 (rw q at e))

  -- "Every request keeps the index true"
  pub stays-true : Good t x → Uncut kept.outcome → Good kept.outcome.table kept.index
  stays-true g n = go (ways t x line text reply u k)
    where
      whole-after : Uncut before → Good before.table (cond (eqb before.answer.number 22) x (true_index before.table))
      whole-after m =
          let s = sound-kept t line text reply u k g.sized g.sound m in
          rw (ne_eqb before.answer.number 22 m) (record { sized = s.0; sound = s.1; index = is_true_lem before.table })

      go : Ways t x reply before kept → Good kept.outcome.table kept.index
      go (unfit f q) = absurd (not-both (and_both (sized t) (sound boxed t) g.sized g.sound) f)
      go (untrue f h q) = absurd (not-both g.index h)
      go (taken h q) = rw q (whole-after (rw q at n))

  -- "A run that answers 22 leaves the index as it was lent"
  pub cut-as-lent : kept.outcome.answer.number ≡ 22 → kept.index ≡ x
  cut-as-lent e = go (ways t x line text reply u k)
    where
      go : Ways t x reply before kept → kept.index ≡ x
      go (unfit f q) = rw q
      go (untrue f g q) = rw q
      go (taken g q) = let z : before.answer.number ≡ 22 = rw q at e in rw (q, eq-eqb before.answer.number 22 z)
