-- The bytes before the first zero, or all of them.
-- Assumes nothing.
use lib.Dec.{eqb, ltb}
use lib.ListN.{length, take}
use lib.Seq.{take_all}
use mathlib.Core.Bool.{Bool, true, false, cond}
use mathlib.Core.List.{List, [], ◌∷◌}
use mathlib.Core.Path.{◌≡◌, refl, sym, ap, ◌∙◌}
use Prim.Native.Nat.{ℕ, suc, ◌+◌, ◌≤◌}
use native.Mathlib.Omega.{arith}
use borrow.Author.Tests.{ltb-false}
use Rattle.std.specs.Prelude.{Option, Some, None}
use Rattle.std.specs.List.{position, position_or_len}
use Rattle.std.proofs.Common.{rules, tests}
use Rattle.std.proofs.lemmas.Iterator.{YieldsList-from_slice}
use Rattle.std.proofs.lemmas.Iterator.Search.{position_from_yields_List}
use Rattle.job.specs.Sheet.{unpadded}
use Rattle.lamp.proofs.sheet.unpadded.Goals as goal

abbrev zero_at : List ℕ → ℕ
zero_at s = position_or_len (λ b. eqb b 0) s

unpadded-is : (s : List ℕ) → unpadded s ≡ take (zero_at s) s
unfolding unpadded
unpadded-is [] = refl
unpadded-is (b ∷ s) = go (unpadded-is s) (eqb b 0) refl
  where
    go : unpadded s ≡ take (zero_at s) s → (t : Bool) → eqb b 0 ≡ t → cond (eqb b 0) [] (b ∷ unpadded s) ≡ take (zero_at (b ∷ s)) (b ∷ s)
    go h true q = rw q
    go h false q = let one : 1 + zero_at s ≡ suc (zero_at s) = omega arith in rw (q, one) (ap (λ (l : List ℕ). b ∷ l) h)

some-at : (s : List ℕ) (n : ℕ) → Some n ≡ position (λ b. eqb b 0) s → n ≡ zero_at s
some-at s n e = go (ltb (zero_at s) (length s)) e
  where
    go : (t : Bool) → Some n ≡ cond t (Some (zero_at s)) None → n ≡ zero_at s
    go true q = cc
    go false q = cc

none-at : (s : List ℕ) → None ≡ position (λ b. eqb b 0) s → length s ≤ zero_at s
none-at s e = go (ltb (zero_at s) (length s)) refl e
  where
    go : (t : Bool) → ltb (zero_at s) (length s) ≡ t → ◌≡◌ {A = Option ℕ} None (cond t (Some (zero_at s)) None) → length s ≤ zero_at s
    go true h q = cc
    go false h q = ltb-false (zero_at s) (length s) h

pub returns-in-Some : goal.returns-in-Some
returns-in-Some c =
    let s = c.args.s.now in
    let bytes = YieldsList-from_slice s c.iter.ensures.rest in
    let e : c.position.result ≡ position (λ b. eqb b 0) s =
    position_from_yields_List (λ b. eqb b 0) _ _ c.position.result c.position.ensures.ran bytes (λ x b q k. search (rules, tests)) in
    rw (some-at s c.in-Some.n (sym c.in-Some.is ∙ e)) (sym (unpadded-is s))

pub returns-in-None : goal.returns-in-None
returns-in-None c =
    let s = c.args.s.now in
    let bytes = YieldsList-from_slice s c.iter.ensures.rest in
    let e : c.position.result ≡ position (λ b. eqb b 0) s =
    position_from_yields_List (λ b. eqb b 0) _ _ c.position.result c.position.ensures.ran bytes (λ x b q k. search (rules, tests)) in
    sym (unpadded-is s ∙ take_all (zero_at s) s (none-at s (sym c.in-None.is ∙ e)))
