-- One request with an index: on a fit and sound table with its true index it is the request without one, and the index follows the
-- table unless it is cut; on any other table it is the same refusal, and with any other list it is 26. The tests come in that order.
use mathlib.Core.Bool.{Bool, true, false, ◌&&◌, cond}
use mathlib.Core.List.{List}
use mathlib.Core.Logic.{◌⊎◌, inl, inr}
use mathlib.Core.Path.{◌≡◌, refl, ap}
use Prim.Native.Nat.{ℕ}
use lib.Dec.{ltb}
use Rattle.paper.specs.Layout.{boxed}
use Rattle.paper.specs.Table.{sized}
use Rattle.paper.specs.Check.{whole, refusal_at, passed, refused, verdict}
use Rattle.paper.specs.Sound.{sound}
use Rattle.paper.specs.Answer.{Outcome, refusing, entrance, admitted, requested}
use Rattle.paper.specs.Index.{true_index, is_true, admission, kept_after, kept_by, keeping}
use Rattle.laws.proofs.Tests.{truth, not-both, and_both}
use Rattle.laws.proofs.Entries.{eq-same}

module _ (t x line text reply : List ℕ) (u k : ℕ) where
  abbrev o : Outcome
  o = requested boxed t line text reply u k

  pub kept-true : sized t ≡ true → sound boxed t ≡ true → x ≡ true_index t → keeping t x line text reply u k ≡ kept_after x o
  unfolding keeping admission is_true verdict requested entrance
  kept-true s e q = let z = eq-same x (true_index t) q in rw (s, e, z) (go (ltb 999999 u))
    where
      go : (b : Bool)
          → kept_by t x reply (admitted boxed t line text reply u k (cond b (refused (refusal_at 3 (whole 0))) passed))
          (cond b (refused (refusal_at 3 (whole 0))) passed)
          ≡ kept_after x (admitted boxed t line text reply u k (cond b (refused (refusal_at 3 (whole 0))) passed))
      go true = ap (λ (y : List ℕ). record { outcome = refusing t reply (refusal_at 3 (whole 0)); index = y }) q
      go false = refl

  -- 1 or 2, with the index and without it
  pub kept-unfit : sized t && sound boxed t ≡ false
      → (o ≡ refusing t reply (refusal_at (cond (sized t) 2 1) (whole 0))) × (keeping t x line text reply u k ≡ record { outcome = o; index = x })
  unfolding keeping admission verdict requested entrance
  kept-unfit n = go (truth (sized t)) (truth (sound boxed t))
    where
      go : (sized t ≡ true) ⊎ (sized t ≡ false) → (sound boxed t ≡ true) ⊎ (sound boxed t ≡ false)
          → (o ≡ refusing t reply (refusal_at (cond (sized t) 2 1) (whole 0))) × (keeping t x line text reply u k ≡ record { outcome = o; index = x })
      go (inr s) _ = (rw s, rw s)
      go (inl s) (inr e) = (rw (s, e), rw (s, e))
      go (inl s) (inl e) = absurd (not-both (and_both (sized t) (sound boxed t) s e) n)

  pub kept-untrue : sized t ≡ true → sound boxed t ≡ true → is_true t x ≡ false
      → keeping t x line text reply u k ≡ record { outcome = refusing t reply (refusal_at 26 (whole 0)); index = x }
  unfolding keeping admission verdict
  kept-untrue s e q = rw (s, e, q)
