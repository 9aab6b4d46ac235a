-- Where a round takes no store none of its tests passes: the first step takes none and leaves the table, and so do the second and the third;
-- and a step that takes none clears no record, though every record that passes would be free after it.
use mathlib.Core.Bool.{Bool, true, false}
use mathlib.Core.List.{List, [], ◌∷◌, ◌++◌}
use mathlib.Core.Logic.{◌≢◌}
use mathlib.Core.Path.{◌≡◌, refl, sym, ◌∙◌}
use Prim.Native.Nat.{ℕ, ◌<◌}
use native.Mathlib.Omega.{arith}
use borrow.Author.Tests.{eqb-true}
use Rattle.paper.specs.Record.{byte, is_kind}
use Rattle.paper.specs.Table.{rooms, rec}
use Rattle.paper.specs.Store.{Store, clears, run}
use Rattle.paper.specs.Mend.{adrift, orphan, stray, wiped, mend_first, mend_second, mend_third, after₁, after₂, round_stores}
use Rattle.laws.proofs.Tests.{and_left, false-by, clash}
use Rattle.laws.proofs.Lay.{kind-blank}
use Rattle.demands.proofs.Mending.Wipe.{rec-wiped}

nil-left : (a b : List Store) → a ++ b ≡ [] → a ≡ []
nil-left [] b e = refl
nil-left (x ∷ a) b e = clash cc

nil-right : (a b : List Store) → a ++ b ≡ [] → b ≡ []
nil-right [] b e = e
nil-right (x ∷ a) b e = clash cc

-- a step that takes no store
idle : (t : List ℕ) (p : ℕ → Bool) → clears p (rooms t) ≡ [] → ((i : ℕ) → p i ≡ true → byte (rec t i) 0 ≢ 0) → (i : ℕ) → i < rooms t → p i ≡ false
idle t p e k i l =
    false-by (p i) (λ y.
    let z : rec (wiped p t) i ≡ rec t i = unfold run in rw e in
    k i y (kind-blank (rec t i) (sym z ∙ rec-wiped t p i l ∙ rw y)))

kind-not : (k : ℕ) (r : List ℕ) → k ≢ 0 → is_kind k r ≡ true → byte r 0 ≢ 0
kind-not k r n e z = n (sym (eqb-true _ _ e) ∙ z)

module _ (t : List ℕ) (e : round_stores t ≡ []) where
  first : mend_first t ≡ []
  unfolding round_stores
  first = nil-left (mend_first t) (mend_second (after₁ t) ++ mend_third (after₂ t)) e

  same₁ : after₁ t ≡ t
  unfolding after₁ run
  same₁ = rw first

  second : mend_second t ≡ []
  unfolding round_stores
  second = rw same₁ at (nil-left (mend_second (after₁ t)) (mend_third (after₂ t)) (nil-right (mend_first t) (mend_second (after₁ t) ++ mend_third (after₂ t)) e))

  same₂ : after₂ t ≡ t
  unfolding after₂ run
  same₂ = rw (same₁, second)

  third : mend_third t ≡ []
  unfolding round_stores
  third = rw same₂ at (nil-right (mend_second (after₁ t)) (mend_third (after₂ t)) (nil-right (mend_first t) (mend_second (after₁ t) ++ mend_third (after₂ t)) e))

  pub no-adrift : (i : ℕ) → i < rooms t → adrift t i ≡ false
  no-adrift = idle t (adrift t) first (λ i y. kind-not 2 (rec t i) (λ z. omega (arith, z)) (and_left (is_kind 2 (rec t i)) _ y))

  pub no-orphan : (i : ℕ) → i < rooms t → orphan t i ≡ false
  no-orphan = idle t (orphan t) second (λ i y. kind-not 1 (rec t i) (λ z. omega (arith, z)) (and_left (is_kind 1 (rec t i)) _ y))

  pub no_stray : (i : ℕ) → i < rooms t → stray t i ≡ false
  no_stray = idle t (stray t) third (λ i y. kind-not 3 (rec t i) (λ z. omega (arith, z)) (and_left (is_kind 3 (rec t i)) _ y))
