-- A sweep, cut anywhere, tidies: an entry that names a heading which is not reached is of no directory that is, so it is cleared before that
-- heading; and text whose heading is not reached is cleared after it.
use mathlib.Core.Bool.{true, false, ◌||◌}
use mathlib.Core.List.{List, [], ◌++◌}
use mathlib.Core.Path.{◌≡◌, refl, sym, ◌∙◌}
use Prim.Native.Nat.{ℕ, suc, ◌<◌}
use native.Mathlib.Omega.{arith}
use borrow.Author.Tests.{not-true}
use Rattle.paper.specs.Record.{byte, is_kind, holder_of, heading_of, names}
use Rattle.paper.specs.Table.{rooms, rec}
use Rattle.paper.specs.Check.{Verdict, passed, refused}
use Rattle.paper.specs.Entry.{named}
use Rattle.paper.specs.Sound.{is_base}
use Rattle.paper.specs.Store.{Store, clears, run}
use Rattle.paper.specs.Count.{recounts}
use Rattle.paper.specs.Mend.{keeps_text}
use Rattle.paper.specs.Answer.{mend_run}
use Rattle.paper.specs.Index.{true_index, kept_by}
use Rattle.paper.specs.Sweep.{reached, lost_entry, lost_heading, lost_text, sweep_clears, live, sweep_stores, sweepable, sweeping}
use Rattle.laws.proofs.Tests.{not-both, and_left, and_right, true-by, false-by}
use Rattle.laws.proofs.Scans.{any-true}
use Rattle.laws.proofs.Entries.{names-kind}
use Rattle.laws.proofs.Lay.{Whole, within}
use Rattle.laws.proofs.Runs.{length_run, rooms-run}
use Rattle.demands.proofs.Mending.Part.{Less}
use Rattle.demands.proofs.Mending.Counts.{alike-kind}
use Rattle.demands.proofs.Mending.Less.{less-trans}
use Rattle.sweep_demands.proofs.Reach.{reached-by}
use Rattle.sweep_demands.proofs.Texts.{was}
use Rattle.histories.specs.History.{sweeps, called}
use Rattle.histories.proofs.Calls.Stores.{less-stays, less-same}
use Rattle.histories.proofs.Calls.Tidied.{Tidied, Fine, keeps-kind, kind-apart, Cuts, cuts-none, cuts-append, step-cuts, counts-cuts, run-tidied}

-- a sweep answers and stores as a mend does, by its own stores and its own checks
pub sweep-run : (t x : List ℕ) (k : ℕ) → (sweeping t x k).outcome ≡ mend_run t k (sweep_stores t) (sweepable t x)
unfolding sweeping
sweep-run t x k = go (sweepable t x)
  where
    go : (v : Verdict) → (kept_by t x [] (mend_run t k (sweep_stores t) passed) v).outcome ≡ mend_run t k (sweep_stores t) v
    go passed = refl
    go (refused f) = refl

-- ---- its stores, cut anywhere

module _ (t : List ℕ) (w : Whole t) where
  entries : List Store
  entries = clears (lost_entry t) (rooms t)

  headings : List Store
  headings = clears (lost_heading t) (rooms t)

  -- without what is lost of the entries, and of the headings
  t₁ : List ℕ
  t₁ = run t entries

  t₂ : List ℕ
  t₂ = run t₁ headings

  rooms₁ : rooms t₁ ≡ rooms t
  unfolding t₁
  rooms₁ = rooms-run t entries

  rooms₂ : rooms t₂ ≡ rooms t
  unfolding t₂
  rooms₂ = rooms-run t₁ headings ∙ rooms₁

  w₁ : Whole t₁
  unfolding t₁
  w₁ = rw (length_run t entries) w

  w₂ : Whole t₂
  unfolding t₂
  w₂ = rw (length_run t₁ headings) w₁

  entry-fine : Fine t (lost_entry t)
  entry-fine =
      record {
        headings = λ i e. kind-apart 2 1 (rec t i) (λ z. omega (arith, z)) (and_left (is_kind 2 (rec t i)) _ e);
        texts = λ i e. kind-apart 2 3 (rec t i) (λ z. omega (arith, z)) (and_left (is_kind 2 (rec t i)) _ e);
      }

  first : Cuts t entries
  unfolding entries
  first = step-cuts t w (lost_entry t) (rooms t) refl entry-fine

  less₁ : Less t t₁
  unfolding t₁
  less₁ = (cuts-none t entries first).less

  -- what is left was there
  was₁ : (i k : ℕ) → byte (rec t₁ i) 0 ≡ suc k → byte (rec t i) 0 ≡ suc k
  was₁ i k z = sym (alike-kind (rec t i) (rec t₁ i) (less-stays t t₁ w less₁ i (omega arith))) ∙ z

  -- an entry that is left and names a heading leads to it
  heading-fine : Fine t₁ (lost_heading t)
  unfolding t₁ entries named
  heading-fine = record { headings = unnamed; texts = texts }
    where
      texts : (i : ℕ) → lost_heading t i ≡ true → byte (rec t₁ i) 0 ≡ 3 → keeps_text (rec t₁ (heading_of (rec t₁ i))) ≡ false
      texts i e k = kind-apart 1 3 (rec t i) (λ z. omega (arith, z)) (and_left (is_kind 1 (rec t i)) _ e) (was₁ i 2 k)

      leads : (i j : ℕ) → j < rooms t → names i (rec t₁ j) ≡ true → byte (rec t i) 0 ≡ 1 → reached t i ≡ true
      leads i j l n k =
          let x = was t (lost_entry t) (rooms t) j 1 refl l (names-kind i (rec t₁ j) n) in
          let m : names i (rec t j) ≡ true = rw x.1 at n in
          let o : (is_base (rec t j) || reached t (holder_of (rec t j))) ≡ true =
          true-by (is_base (rec t j) || reached t (holder_of (rec t j))) (λ z. not-both (rw (names-kind i (rec t j) m, z)) x.0) in
          reached-by t w i j k l m o

      unnamed : (i : ℕ) → lost_heading t i ≡ true → byte (rec t₁ i) 0 ≡ 1 → named t₁ i ≡ false
      unnamed i e k =
          false-by (named t₁ i) (λ y.
          let x = any-true (λ j. names i (rec t₁ j)) (rooms t) (rw rooms₁ at y) in
          not-both (leads i x.0 x.1 x.2 (was₁ i 0 k)) (not-true _ (and_right (is_kind 1 (rec t i)) _ e)))

  second : Cuts t₁ headings
  unfolding headings
  second = step-cuts t₁ w₁ (lost_heading t) (rooms t) (sym rooms₁) heading-fine

  less₂ : Less t t₂
  unfolding t₂
  less₂ = less-trans t t₁ t₂ less₁ (cuts-none t₁ headings second).less

  -- a heading that is left is reached
  text-fine : Fine t₂ (lost_text t)
  unfolding t₂ headings
  text-fine = record { headings = λ i e k. kind-apart 3 1 (rec t i) (λ z. omega (arith, z)) (and_left (is_kind 3 (rec t i)) _ e) (was₂ i 0 k); texts = texts }
    where
      was₂ : (i k : ℕ) → byte (rec t₂ i) 0 ≡ suc k → byte (rec t i) 0 ≡ suc k
      was₂ i k z = sym (alike-kind (rec t i) (rec t₂ i) (less-stays t t₂ w less₂ i (omega arith))) ∙ z

      left : (h : ℕ) → byte (rec t₂ h) 0 ≡ 1 → reached t h ≡ true
      left h z =
          let l : h < rooms t = rw rooms₂ at (within t₂ h w₂ (omega arith)) in
          let x = was t₁ (lost_heading t) (rooms t) h 0 (sym rooms₁) l z in
          true-by (reached t h) (λ n. not-both (rw (was₂ h 0 z, n)) x.0)

      texts : (i : ℕ) → lost_text t i ≡ true → byte (rec t₂ i) 0 ≡ 3 → keeps_text (rec t₂ (heading_of (rec t₂ i))) ≡ false
      texts i e k =
          let r : rec t₂ i ≡ rec t i = less-same t t₂ w less₂ i 1 k in
          false-by (keeps_text (rec t₂ (heading_of (rec t₂ i)))) (λ y.
          not-both (rw r at (left (heading_of (rec t₂ i)) (keeps-kind _ y))) (not-true _ (and_right (is_kind 3 (rec t i)) _ e)))

  stores-tidied : Cuts t (sweep_stores t)
  unfolding sweep_stores sweep_clears live entries headings t₁ t₂
  stores-tidied =
      cuts-append t w (sweep_clears t) (recounts (live t))
      (cuts-append t w entries (headings ++ clears (lost_text t) (rooms t)) first
      (cuts-append t₁ w₁ headings (clears (lost_text t) (rooms t)) second (step-cuts t₂ w₂ (lost_text t) (rooms t) (sym rooms₂) text-fine)))
      (counts-cuts (live t) (rw (length_run t (sweep_clears t)) w))

  pub sweep-tidied : (k : ℕ) → Tidied t (called t (sweeps k)).table
  sweep-tidied k = rw (sweep-run t (true_index t) k) (run-tidied t (sweep_stores t) stores-tidied k (sweepable t (true_index t)))
