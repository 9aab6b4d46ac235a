-- Every heading is named and says its counts exactly where each is and does, and a record that goes is no heading.
-- So the shape and the headings are all of soundness.
use mathlib.Core.Bool.{Bool, true, false, ◌&&◌}
use mathlib.Core.List.{List}
use mathlib.Core.Path.{◌≡◌, refl}
use Prim.Native.Nat.{ℕ, ◌<◌}
use borrow.Author.Tests.{eqb-true, eq-eqb, ne_eqb}
use Rattle.judge_laws.specs.Counts.{headed, all_headed, sound_but}
use Rattle.judge_laws.specs.Mask.{stays, without}
use Rattle.paper.specs.Count.{counts_right}
use Rattle.paper.specs.Entry.{named}
use Rattle.paper.specs.Record.{byte, is_kind}
use Rattle.paper.specs.Layout.{boxed}
use Rattle.paper.specs.Scan.{all_below}
use Rattle.paper.specs.Sound.{implies, all_named, is_named, counts_true, shaped, sound}
use Rattle.paper.specs.Table.{rooms, rec}
use Rattle.laws.proofs.Lay.{Whole}
use Rattle.laws.proofs.Sound.{every_true, every_here, tested}
use Rattle.laws.proofs.Scans.{all_true, all_here}
use Rattle.laws.proofs.Tests.{and_left, and_right, and_both, and-no-left, false-by, true-by, same_truth, implies-use, implies-by, not-both}
use Rattle.judge_laws.proofs.Mask.{rec-stays, heading-without}

-- ---- headings of a table without the records that go

module _ (gone t : List ℕ) (w : Whole t) (counted : Bool) (i : ℕ) where
  pub headed-other : (byte (rec t i) 0 ≡ 1 → ⊥) → headed counted (without gone t) i ≡ true
  headed-other k = rw (heading-without gone t w i, ne_eqb (byte (rec t i) 0) 1 k)

  pub headed-gone : byte (rec t i) 0 ≡ 1 → stays gone i ≡ false → headed counted (without gone t) i ≡ true
  headed-gone k s = rw (heading-without gone t w i, k, s)

  pub headed-stays : byte (rec t i) 0 ≡ 1 → stays gone i ≡ true
      → headed counted (without gone t) i ≡ (named (without gone t) i && implies counted (counts_right (without gone t) i (rec t i)))
  headed-stays k s = rw (rec-stays gone t w i s, k)

-- ---- every heading

module _ (counted : Bool) (t : List ℕ) where
  pub all-headed : ((i : ℕ) → i < rooms t → headed counted t i ≡ true) → all_headed counted t ≡ true
  unfolding all_headed all_named counts_true
  all-headed h =
      and_both (all_named t) _ (every_here 1 (is_named t) t (λ i l k. and_left (named t i) _ (asked i l k)))
      (implies-by counted _ (λ c. every_here 1 (counts_right t) t (λ i l k. implies-use counted _ (and_right (named t i) _ (asked i l k)) c)))
    where
      asked : (i : ℕ) → i < rooms t → byte (rec t i) 0 ≡ 1 → (named t i && implies counted (counts_right t i (rec t i))) ≡ true
      asked i l k = implies-use (is_kind 1 (rec t i)) _ (h i l) (eq-eqb _ _ k)

  pub one-bare : (i : ℕ) → i < rooms t → headed counted t i ≡ false → all_headed counted t ≡ false
  unfolding all_headed all_named counts_true
  one-bare i l f = false-by (all_headed counted t) (λ e. not-both (passes e) f)
    where
      passes : all_headed counted t ≡ true → headed counted t i ≡ true
      passes e =
          implies-by (is_kind 1 (rec t i)) _ (λ k.
          and_both (named t i) _ (every_true 1 (is_named t) t (and_left (all_named t) _ e) i l (eqb-true _ _ k))
          (implies-by counted _ (λ c.
          every_true 1 (counts_right t) t (implies-use counted _ (and_right (all_named t) _ e) c) i l (eqb-true _ _ k))))

  -- all of them, as one test of each record
  pub headed-below : all_below (headed counted t) (rooms t) ≡ all_headed counted t
  headed-below =
      same_truth (all_below (headed counted t) (rooms t)) (all_headed counted t)
      (λ e. all-headed (λ i l. all_true (headed counted t) (rooms t) i l e))
      (λ e. all_here (headed counted t) (rooms t) (λ i l. true-by (headed counted t i) (λ f. not-both e (one-bare i l f))))

  -- soundness from the shape and the headings
  pub sound-not-shaped : shaped boxed t ≡ false → sound_but counted t ≡ false
  unfolding sound_but
  sound-not-shaped f = and-no-left (shaped boxed t) _ f

  pub sound-not-headed : all_headed counted t ≡ false → sound_but counted t ≡ false
  unfolding sound_but all_headed
  sound-not-headed f =
      false-by (sound_but counted t) (λ e.
      not-both (and_both (all_named t) _ (tested t (and_left (shaped boxed t) _ e)).named (and_right (shaped boxed t) _ e)) f)

  pub headed-named : all_headed counted t ≡ true → all_named t ≡ true
  unfolding all_headed
  headed-named e = and_left (all_named t) _ e

  pub sound-headed : all_headed counted t ≡ true → sound_but counted t ≡ shaped boxed t
  unfolding sound_but all_headed
  sound-headed e = rw (and_right (all_named t) (implies counted (counts_true t)) e) (go (shaped boxed t))
    where
      go : (b : Bool) → (b && true) ≡ b
      go true = refl
      go false = refl

-- with counts it is soundness, and without them the shape
pub sound-counted : (t : List ℕ) → sound_but true t ≡ sound boxed t
unfolding sound_but sound
sound-counted t = refl

pub sound-uncounted : (t : List ℕ) → sound_but false t ≡ shaped boxed t
unfolding sound_but
sound-uncounted t = go (shaped boxed t)
  where
    go : (b : Bool) → (b && true) ≡ b
    go true = refl
    go false = refl
