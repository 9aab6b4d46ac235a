-- The rounds come to an end: a round that takes a store leaves fewer records that hold something, so that after as many rounds as there are
-- records one more takes no store.
use mathlib.Core.Bool.{Bool, true, false, ◌&&◌, not}
use mathlib.Core.List.{List, []}
use mathlib.Core.Logic.{◌⊎◌, inl, inr}
use mathlib.Core.Path.{◌≡◌, refl, ◌∙◌}
use Prim.Native.Nat.{ℕ, zero, suc, ◌≤◌, ◌<◌}
use native.Mathlib.Omega.{arith}
use lib.Dec.{eqb}
use borrow.Author.Tests.{eqb-true}
use Rattle.paper.specs.Scan.{any_below, count_below}
use Rattle.paper.specs.Record.{byte, is_kind, blank}
use Rattle.paper.specs.Table.{rooms, rec}
use Rattle.paper.specs.Store.{clears, run}
use Rattle.paper.specs.Mend.{adrift, orphan, stray, wiped, mend_first, mend_second, mend_third, after₁, after₂, round_stores, round, rounds_stores, clear_stores, cleared}
use Rattle.laws.proofs.Tests.{truth, and_left}
use Rattle.laws.proofs.Scans.{any-true, any_false}
use Rattle.laws.proofs.Counts.{count_most, count_less}
use Rattle.laws.proofs.Runs.{rooms-run}
use Rattle.demands.proofs.Mending.Wipe.{rec-wiped, clears-none, round_is, rounds-next, cleared-is}
use Rattle.demands.proofs.Mending.Part.{Below, Less}
use Rattle.demands.proofs.Mending.Counts.{alike-kind}
use Rattle.demands.proofs.Mending.Less.{up, less-refl, less-trans, less-free, wiped-less, less₁, less₂, less₁₂, less₃}

-- a record that holds something, and how many do
abbrev taken : List ℕ → Bool
taken r = not (is_kind 0 r)

abbrev busy : List ℕ → ℕ
busy t = count_below (λ i. taken (rec t i)) (rooms t)

up-taken : (x r : List ℕ) → Below x r → taken r ≡ true → taken x ≡ true
up-taken = up taken (unfold blank in refl) (λ x r a. rw (alike-kind x r a))

busy-falls : (s a : List ℕ) → Less s a → (i : ℕ) → i < rooms s → taken (rec s i) ≡ true → rec a i ≡ blank → busy a < busy s
busy-falls s a d i l t z =
    rw d.long (count_less (λ j. taken (rec a j)) (λ j. taken (rec s j)) (rooms s) i l (rw z (unfold blank in refl)) t
    (λ j m. up-taken (rec s j) (rec a j) (d.each j m)))

-- a step on u, between t and v, has nothing to clear, or v holds less than t
step : (t u v : List ℕ) (p : ℕ → Bool) → Less t u → Less (wiped p u) v → ((i : ℕ) → p i ≡ true → taken (rec u i) ≡ true)
    → (clears p (rooms u) ≡ []) ⊎ (busy v < busy t)
step t u v p d e k = go (truth (any_below p (rooms u)))
  where
    at : (i : ℕ) → i < rooms u → p i ≡ true → busy v < busy t
    at i m y =
        let l : i < rooms t = rw d.long at m in
        busy-falls t v (less-trans t u v d (less-trans u (wiped p u) v (wiped-less u p) e)) i l
        (up-taken (rec t i) (rec u i) (d.each i l) (k i y))
        (less-free (wiped p u) v e i (rw (rooms-run u _) m) (rec-wiped u p i m ∙ rw y))

    go : (any_below p (rooms u) ≡ true) ⊎ (any_below p (rooms u) ≡ false) → (clears p (rooms u) ≡ []) ⊎ (busy v < busy t)
    go (inr n) = inl (clears-none p (rooms u) (λ i l. any_false p (rooms u) i l n))
    go (inl y) = let x = any-true p (rooms u) y in inr (at x.0 x.1 x.2)

taken-by : (k : ℕ) (r : List ℕ) (b : Bool) → eqb k 0 ≡ false → (is_kind k r && b) ≡ true → taken r ≡ true
taken-by k r b z e = let q : byte r 0 ≡ k = eqb-true _ _ (and_left (is_kind k r) b e) in rw (q, z)

-- a round takes no store, or less is held after it
quiet : (t : List ℕ) → (round_stores t ≡ []) ⊎ (busy (round t) < busy t)
unfolding round_stores
quiet t = go first second third
  where
    first : (mend_first t ≡ []) ⊎ (busy (round t) < busy t)
    first =
        step t t (round t) (adrift t) (less-refl t) (unfold after₁ in less-trans (after₁ t) (after₂ t) (round t) (less₂ t) (less₃ t))
        (λ i e. taken-by 2 (rec t i) _ refl e)

    second : (mend_second (after₁ t) ≡ []) ⊎ (busy (round t) < busy t)
    second = step t (after₁ t) (round t) (orphan (after₁ t)) (less₁ t) (unfold after₂ in less₃ t) (λ i e. taken-by 1 (rec (after₁ t) i) _ refl e)

    third : (mend_third (after₂ t) ≡ []) ⊎ (busy (round t) < busy t)
    third =
        step t (after₂ t) (round t) (stray (after₂ t)) (less₁₂ t) (rw (round_is t) (less-refl _))
        (λ i e. taken-by 3 (rec (after₂ t) i) _ refl e)

    go : (mend_first t ≡ []) ⊎ (busy (round t) < busy t) → (mend_second (after₁ t) ≡ []) ⊎ (busy (round t) < busy t)
        → (mend_third (after₂ t) ≡ []) ⊎ (busy (round t) < busy t) → (round_stores t ≡ []) ⊎ (busy (round t) < busy t)
    go (inr l) b c = inr l
    go (inl a) (inr l) c = inr l
    go (inl a) (inl b) (inr l) = inr l
    go (inl a) (inl b) (inl c) = inl (rw (a, b, c))

-- after a round without stores nothing changes
pub still-rounds : (n : ℕ) (t : List ℕ) → round_stores t ≡ [] → rounds_stores n t ≡ []
unfolding rounds_stores round run
still-rounds zero t e = refl
still-rounds (suc n) t e = rw e (still-rounds n t e)

pub still-run : (n : ℕ) (t : List ℕ) → round_stores t ≡ [] → run t (rounds_stores n t) ≡ t
unfolding run
still-run n t e = rw (still-rounds n t e)

pub still-round : (t : List ℕ) → round_stores t ≡ [] → round t ≡ t
unfolding round run
still-round t e = rw e

pub still-stores : (t : List ℕ) → round_stores t ≡ [] → clear_stores t ≡ []
unfolding clear_stores
still-stores t e = still-rounds (rooms t) t e

pub still : (t : List ℕ) → round_stores t ≡ [] → cleared t ≡ t
still t e = cleared-is t ∙ still-run (rooms t) t e

enough : (n : ℕ) (t : List ℕ) → busy t ≤ n → round_stores (run t (rounds_stores n t)) ≡ []
unfolding rounds_stores run
enough zero t l = go (quiet t)
  where
    go : (round_stores t ≡ []) ⊎ (busy (round t) < busy t) → round_stores t ≡ []
    go (inl e) = e
    go (inr x) = let z : ⊥ = omega arith in absurd z
enough (suc n) t l = go (quiet t) (enough n (round t))
  where
    go : (round_stores t ≡ []) ⊎ (busy (round t) < busy t) → (busy (round t) ≤ n → round_stores (run (round t) (rounds_stores n (round t))) ≡ [])
        → round_stores (run t (rounds_stores (suc n) t)) ≡ []
    go (inl e) r = rw (still-run (suc n) t e) e
    go (inr x) r = rw (rounds-next n t) (r (omega arith))

-- "until nothing changes"
pub settled : (t : List ℕ) → round_stores (cleared t) ≡ []
settled t = rw (cleared-is t) (enough (rooms t) t (count_most (λ i. taken (rec t i)) (rooms t)))
