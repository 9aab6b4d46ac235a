-- A mend, cut anywhere, tidies: its rounds clear entries that are adrift, headings that no entry names and text whose heading keeps none, each
-- judged on the table by then.
use mathlib.Core.List.{List, ◌++◌}
use mathlib.Core.Path.{refl}
use Prim.Native.Nat.{ℕ, zero, suc}
use native.Mathlib.Omega.{arith}
use borrow.Author.Tests.{not-true}
use Rattle.paper.specs.Record.{is_kind}
use Rattle.paper.specs.Layout.{boxed}
use Rattle.paper.specs.Table.{rooms, rec}
use Rattle.paper.specs.Count.{recounts}
use Rattle.paper.specs.Mend.{adrift, orphan, stray, mend_first, mend_second, mend_third, after₁, after₂, round_stores, round, rounds_stores, clear_stores, cleared, mend_stores}
use Rattle.paper.specs.Answer.{mendable, mending}
use Rattle.laws.proofs.Tests.{and_left, and_right}
use Rattle.laws.proofs.Lay.{Whole}
use Rattle.laws.proofs.Runs.{length_run}
use Rattle.demands.proofs.Mending.Less.{round-less}
use Rattle.histories.proofs.Calls.Tidied.{Tidied, Fine, kind-apart, Cuts, cuts-nil, cuts-append, step-cuts, counts-cuts, run-tidied}

module _ (t : List ℕ) where
  adrift-fine : Fine t (adrift t)
  adrift-fine =
      record {
        headings = λ i e. kind-apart 2 1 (rec t i) (λ z. omega (arith, z)) (and_left (is_kind 2 (rec t i)) _ e);
        texts = λ i e. kind-apart 2 3 (rec t i) (λ z. omega (arith, z)) (and_left (is_kind 2 (rec t i)) _ e);
      }

  orphan-fine : Fine t (orphan t)
  orphan-fine =
      record {
        headings = λ i e _. not-true _ (and_right (is_kind 1 (rec t i)) _ e);
        texts = λ i e. kind-apart 1 3 (rec t i) (λ z. omega (arith, z)) (and_left (is_kind 1 (rec t i)) _ e);
      }

  stray-fine : Fine t (stray t)
  stray-fine =
      record {
        headings = λ i e. kind-apart 3 1 (rec t i) (λ z. omega (arith, z)) (and_left (is_kind 3 (rec t i)) _ e);
        texts = λ i e _. not-true _ (and_right (is_kind 3 (rec t i)) _ e);
      }

-- ---- its stores, cut anywhere

round-cuts : (t : List ℕ) → Whole t → Cuts t (round_stores t)
unfolding round_stores after₁ after₂
round-cuts t w =
    cuts-append t w (mend_first t) (mend_second (after₁ t) ++ mend_third (after₂ t)) (step-cuts t w (adrift t) (rooms t) refl (adrift-fine t))
    (cuts-append (after₁ t) w₁ (mend_second (after₁ t)) (mend_third (after₂ t))
    (step-cuts (after₁ t) w₁ (orphan (after₁ t)) (rooms (after₁ t)) refl (orphan-fine (after₁ t)))
    (step-cuts (after₂ t) (rw (length_run (after₁ t) (mend_second (after₁ t))) w₁) (stray (after₂ t)) (rooms (after₂ t)) refl (stray-fine (after₂ t))))
  where
    w₁ : Whole (after₁ t)
    w₁ = unfold after₁ in rw (length_run t (mend_first t)) w

rounds-cuts : (n : ℕ) (t : List ℕ) → Whole t → Cuts t (rounds_stores n t)
unfolding rounds_stores round
rounds-cuts zero t w = cuts-nil t
rounds-cuts (suc n) t w =
    cuts-append t w (round_stores t) (rounds_stores n (round t)) (round-cuts t w) (rounds-cuts n (round t) (rw (round-less t).long w))

module _ (t : List ℕ) (w : Whole t) where
  -- cut after k stores
  stores-tidied : Cuts t (mend_stores t)
  unfolding mend_stores cleared clear_stores
  stores-tidied =
      cuts-append t w (clear_stores t) (recounts (cleared t)) (rounds-cuts (rooms t) t w) (counts-cuts (cleared t) (rw (length_run t (clear_stores t)) w))

  pub mend-tidied : (k : ℕ) → Tidied t (mending boxed t k).table
  unfolding mending
  mend-tidied k = run-tidied t (mend_stores t) stores-tidied k (mendable boxed t)
