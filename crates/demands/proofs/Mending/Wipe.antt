-- Records cleared by a test, law by law those of records laid by a test: what passes is free afterwards and every other is as it was.
-- A round of mending is three such steps, each on the table that the last left; the rounds come first, and then the counts.
use mathlib.Core.Bool.{Bool, true, false, cond}
use mathlib.Core.List.{List, [], ◌++◌}
use mathlib.Core.Logic.{◌⊎◌}
use mathlib.Core.Path.{◌≡◌, refl, sym, ◌∙◌}
use Prim.Native.Nat.{ℕ, suc, ◌<◌}
use lib.ListN.{length, take}
use Rattle.paper.specs.Record.{blank}
use Rattle.paper.specs.Table.{rooms, rec}
use Rattle.paper.specs.Store.{clears, run}
use Rattle.paper.specs.Count.{recounts}
use Rattle.paper.specs.Mend.{stray, wiped, mend_first, mend_second, mend_third, after₁, after₂, round_stores, round, rounds_stores, clear_stores, cleared, mend_stores, mended}
use Rattle.laws.proofs.Lists.{Every, every_take}
use Rattle.laws.proofs.Lay.{Whole, length-blank, ext-table}
use Rattle.laws.proofs.Runs.{Lays, run-each, run-append, length_run, rooms-run}
use Rattle.laws.proofs.Fills.{rec-filled, every-fills, fills-none}

-- what a wiped table holds
pub rec-wiped : (t : List ℕ) (p : ℕ → Bool) (i : ℕ) → i < rooms t → rec (wiped p t) i ≡ cond (p i) blank (rec t i)
rec-wiped t p i l = rec-filled t p (λ _. blank) (λ _ _. length-blank) i l

-- the wiped tables are equal when each record comes to the same
pub wiped-by : (p q : ℕ → Bool) (a b : List ℕ) → length a ≡ length b → Whole b
    → ((i : ℕ) → i < rooms b → cond (p i) blank (rec a i) ≡ cond (q i) blank (rec b i)) → wiped p a ≡ wiped q b
wiped-by p q a b e w h = ext-table (wiped p a) (wiped q b) (rw (length_run a _, length_run b _) e) (rw (length_run a _, e) w) at-record
  where
    at-record : (i : ℕ) → i < rooms (wiped p a) → rec (wiped p a) i ≡ rec (wiped q b) i
    at-record i l =
        let la : i < rooms a = rw (rooms-run a _) at l in
        let lb : i < rooms b = rw e at la in
        rec-wiped a p i la ∙ h i lb ∙ sym (rec-wiped b q i lb)

-- where nothing passes, nothing is cleared
pub clears-none : (p : ℕ → Bool) (n : ℕ) → ((i : ℕ) → i < n → p i ≡ false) → clears p n ≡ []
clears-none p n = fills-none p (λ _. blank) n

-- a clearing of a record that passes
abbrev pub Blanks : (ℕ → Bool) → ℕ → List ℕ → Type 0
Blanks p i r = (r ≡ blank) × (p i ≡ true)

pub every-clears : (p : ℕ → Bool) (n : ℕ) → Every (Lays (Blanks p) n) (clears p n)
every-clears p n = every-fills p (λ _. blank) n (λ _ _. length-blank)

-- cut after k stores, each record is as it was, or passes and is cleared
pub cut-wipe : (t : List ℕ) (p : ℕ → Bool) (k i : ℕ) → i < rooms t
    → (rec (run t (take k (clears p (rooms t)))) i ≡ rec t i) ⊎ Blanks p i (rec (run t (take k (clears p (rooms t)))) i)
cut-wipe t p k = run-each (Blanks p) t _ (every_take _ k _ (every-clears p (rooms t)))

-- the table after the three steps of a round
pub round_is : (t : List ℕ) → round t ≡ wiped (stray (after₂ t)) (after₂ t)
unfolding round round_stores after₂ after₁
round_is t =
    run-append t (mend_first t) (mend_second (after₁ t) ++ mend_third (after₂ t))
    ∙ run-append (after₁ t) (mend_second (after₁ t)) (mend_third (after₂ t))

-- after one round more
pub rounds-next : (n : ℕ) (t : List ℕ) → run t (rounds_stores (suc n) t) ≡ run (round t) (rounds_stores n (round t))
unfolding rounds_stores round
rounds-next n t = run-append t (round_stores t) (rounds_stores n (round t))

-- after all of them
pub cleared-is : (t : List ℕ) → cleared t ≡ run t (rounds_stores (rooms t) t)
unfolding cleared clear_stores
cleared-is t = refl

-- and after the counts
pub mended-is : (t : List ℕ) → mended t ≡ run (cleared t) (recounts (cleared t))
unfolding mended mend_stores cleared
mended-is t = run-append t (clear_stores t) (recounts (cleared t))
