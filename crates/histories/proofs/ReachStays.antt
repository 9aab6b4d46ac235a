-- "A sweep clears exactly what no chain of entries from any user's base files reaches": a mend and a sweep, cut anywhere, leave a table between the
-- one that they find and the one without all that they may clear; that one reaches the same headings, so every table between does.
use mathlib.Core.Bool.{true, false}
use mathlib.Core.List.{List, [], ◌∷◌}
use mathlib.Core.Path.{◌≡◌, refl, ◌∙◌}
use Prim.Native.Nat.{ℕ, zero, suc}
use lib.Dec.{leb}
use lib.ListN.{length, take}
use borrow.Author.Tests.{eq-eqb}
use Rattle.paper.specs.Record.{is_kind, names, holder_of}
use Rattle.paper.specs.Layout.{boxed}
use Rattle.paper.specs.Table.{sized, rooms, rec}
use Rattle.paper.specs.Check.{Verdict, passed, refused}
use Rattle.paper.specs.Entry.{named}
use Rattle.paper.specs.Sound.{is_base, sound}
use Rattle.paper.specs.Store.{Store, run}
use Rattle.paper.specs.Mend.{anchored, adrift, orphan, stray, after₁, after₂, round, rounds_stores, cleared, mend_stores}
use Rattle.paper.specs.Answer.{Outcome, mendable, mend_run, mending}
use Rattle.paper.specs.Index.{true_index}
use Rattle.paper.specs.Sweep.{reached, live, sweep_stores, sweepable}
use Rattle.laws.proofs.Tests.{not-both, false-by, same_truth, either}
use Rattle.laws.proofs.Scans.{any_here}
use Rattle.laws.proofs.Lists.{Every, every_take}
use Rattle.laws.proofs.Lay.{Whole}
use Rattle.laws.proofs.Runs.{length_run}
use Rattle.demands.proofs.Sound.Right.{sound-right}
use Rattle.demands.proofs.Mending.Wipe.{round_is, rounds-next, cleared-is}
use Rattle.demands.proofs.Mending.Part.{Less}
use Rattle.demands.proofs.Mending.Less.{less₁, less₁₂, round-less, cleared-less}
use Rattle.demands.proofs.Mending.Again.{Tidies, tidied, tidy-less, tidy-over, mend-tidies}
use Rattle.sweep_demands.proofs.Reach.{or-up, reached-mono, reached-heading, reached-from}
use Rattle.sweep_demands.proofs.Live.{Spares, reached-wiped, live-less, reached-live}
use Rattle.sweep_demands.proofs.Again.{sweep-tidies}
use Rattle.histories.specs.History.{Call, asks, mends, sweeps, is_request, called, after, heads}
use Rattle.histories.proofs.Calls.Sweeps.{sweep-run}
use Rattle.histories.proofs.Calls.Mendable.{Mendable, mendable-whole, sound-mendable, called-mendable, after-mendable}

-- ---- what a mend may clear: each of its steps spares what is reached

module _ (t : List ℕ) (w : Whole t) where
  adrift-spares : Spares t (adrift t)
  unfolding anchored
  adrift-spares =
      record {
        headings = λ h e. rw (reached-heading t w h e);
        entries = λ i k g o. rw (k, g, or-up (is_base (rec t i)) (reached t (holder_of (rec t i))) _ (held (holder_of (rec t i))) o);
      }
    where
      held : (d : ℕ) → reached t d ≡ true → is_kind 1 (rec t d) ≡ true
      held d e = rw (reached-heading t w d e)

  orphan-spares : Spares t (orphan t)
  orphan-spares = record { headings = λ h e. rw (reached-heading t w h e, name h e); entries = λ i k _ _. rw k }
    where
      name : (h : ℕ) → reached t h ≡ true → named t h ≡ true
      name h e = let x = reached-from t w h e in unfold named in any_here (λ i. names h (rec t i)) (rooms t) x.0 x.1 x.2

  stray-spares : Spares t (stray t)
  stray-spares = record { headings = λ h e. rw (reached-heading t w h e); entries = λ i k _ _. rw k }

reached-round : (t : List ℕ) → Whole t → (h : ℕ) → reached (round t) h ≡ reached t h
reached-round t w h = rw (round_is t) (reached-wiped (after₂ t) w₂ (stray (after₂ t)) (stray-spares (after₂ t) w₂) h) ∙ second ∙ first
  where
    w₁ : Whole (after₁ t)
    w₁ = rw (less₁ t).long w

    w₂ : Whole (after₂ t)
    w₂ = rw (less₁₂ t).long w

    first : reached (after₁ t) h ≡ reached t h
    first = unfold after₁ in reached-wiped t w (adrift t) (adrift-spares t w) h

    second : reached (after₂ t) h ≡ reached (after₁ t) h
    second = unfold after₂ in reached-wiped (after₁ t) w₁ (orphan (after₁ t)) (orphan-spares (after₁ t) w₁) h

reached-rounds : (n : ℕ) (t : List ℕ) → Whole t → (h : ℕ) → reached (run t (rounds_stores n t)) h ≡ reached t h
unfolding rounds_stores run
reached-rounds zero t w h = refl
reached-rounds (suc n) t w h = rw (rounds-next n t) (reached-rounds n (round t) (rw (round-less t).long w) h ∙ reached-round t w h)

reached-cleared : (t : List ℕ) → Whole t → (h : ℕ) → reached (cleared t) h ≡ reached t h
reached-cleared t w h = rw (cleared-is t) (reached-rounds (rooms t) t w h)

-- ---- one call that is no request

module _ (t f : List ℕ) (w : Whole t) (d : Less t f) (same : (h : ℕ) → reached f h ≡ reached t h) where
  -- stores that tidy t over f, cut anywhere
  made-reach : (ss : List Store) → Every (Tidies f t) ss → (h : ℕ) → reached (run t ss) h ≡ reached t h
  made-reach ss e h =
      same_truth _ _ (reached-mono t (run t ss) w (tidy-less f t (run t ss) d (length_run t ss) (tidied f t ss e)) h)
      (λ z.
      reached-mono (run t ss) f (rw (length_run t ss) w) (tidy-over f t (run t ss) d (length_run t ss) (tidied f t ss e)) h (same h ∙ z))

  run-reach : (ss : List Store) → Every (Tidies f t) ss → (k : ℕ) (v : Verdict) (h : ℕ) → reached (mend_run t k ss v).table h ≡ reached t h
  run-reach ss e k (refused r) h = refl
  run-reach ss e k passed h =
      either (λ (o : Outcome). reached o.table h ≡ reached t h) (leb (length ss) k) _ _ (made-reach ss e h)
      (made-reach (take k ss) (every_take _ k ss e) h)

called-reach : (t : List ℕ) (c : Call) → Whole t → is_request c ≡ false → (h : ℕ) → reached (called t c).table h ≡ reached t h
unfolding mending
called-reach t (mends k) w n h = run-reach t (cleared t) w (cleared-less t) (reached-cleared t w) (mend_stores t) (mend-tidies t) k (mendable boxed t) h
called-reach t (sweeps k) w n h =
    rw (sweep-run t (true_index t) k)
    (run-reach t (live t) w (live-less t w) (reached-live t w) (sweep_stores t) (sweep-tidies t w) k (sweepable t (true_index t)) h)
called-reach t (asks line text reply u k) w n h = absurd (not-both refl n)

-- ---- over a history

reach-on : (t : List ℕ) (cs : List Call) → Mendable t → Every (λ c. is_request c ≡ false) cs → (h : ℕ) → reached (after t cs) h ≡ reached t h
unfolding after
reach-on t [] m n h = refl
reach-on t (c ∷ cs) m n h = reach-on (called t c).table cs (called-mendable t c m) n.1 h ∙ called-reach t c (mendable-whole t m) n.0 h

-- from a sound table any calls, and then mends and sweeps alone, each cut or whole: chains reach the same headings before these and after
pub reach-stays : (t : List ℕ) (h : ℕ) (cs ds : List Call) → sized t ≡ true → sound boxed t ≡ true → Every (λ c. is_request c ≡ false) ds
    → reached (after (after t cs) ds) h ≡ reached (after t cs) h
reach-stays t h cs ds a b n = reach-on (after t cs) ds (after-mendable t cs (sound-mendable t (sound-right t a b))) n h

-- so a heading that a sweep clears, or a mend after one that was cut, was not reached when the sweep began
pub cleared-unreached : (t : List ℕ) (h : ℕ) (cs ds : List Call) → sized t ≡ true → sound boxed t ≡ true → Every (λ c. is_request c ≡ false) ds
    → heads h (after (after t cs) ds) ≡ false → reached (after t cs) h ≡ false
cleared-unreached t h cs ds a b n z =
    let s : List ℕ = after (after t cs) ds in
    let m : Mendable (after (after t cs) ds) = after-mendable (after t cs) ds (after-mendable t cs (sound-mendable t (sound-right t a b))) in
    false-by (reached (after t cs) h) (λ y. not-both (eq-eqb _ _ (reached-heading s (mendable-whole s m) h (reach-stays t h cs ds a b n ∙ y))) z)
