-- Records laid by a test: by induction on the bound, a record below it that passes holds what was laid and every other is as it was.
-- So with no record that passes there is no store, and each store lays a record that passes.
use mathlib.Core.Bool.{Bool, true, false, cond}
use mathlib.Core.List.{List, [], ◌∷◌, ◌++◌, map, append-nil, map-append}
use mathlib.Core.Logic.{◌⊎◌, inl, inr, ◌≢◌, by_cases, ⊎_elim}
use mathlib.Core.Path.{◌≡◌, refl, sym, ap, ◌∙◌}
use Prim.Native.Nat.{ℕ, zero, suc, ◌≤◌, ◌<◌}
use native.Mathlib.Omega.{arith}
use native.Mathlib.Decide.{ℕ_discrete}
use lib.ListN.{length}
use Rattle.paper.specs.Scan.{join_below, list_below}
use Rattle.paper.specs.Table.{rooms, rec, lay}
use Rattle.paper.specs.Store.{Store, puts, fills, run}
use Rattle.laws.proofs.Tests.{not-both}
use Rattle.laws.proofs.Lists.{Every, every_map, every-imp, every-below}
use Rattle.laws.proofs.Lay.{lay-same, lay-other}
use Rattle.laws.proofs.Runs.{Lays, run-append, rooms-run}

-- one more number to look at
fills-next : (t : List ℕ) (p : ℕ → Bool) (b : ℕ → List ℕ) (n : ℕ)
    → run t (fills p b (suc n)) ≡ cond (p n) (lay (run t (fills p b n)) n (b n)) (run t (fills p b n))
unfolding fills join_below run
fills-next t p b n = go (p n)
  where
    at : ℕ → Store
    at i = puts i (b i)

    ss : List Store
    ss = map at (list_below p n)

    go : (c : Bool) → run t (map at (list_below p n ++ cond c (n ∷ []) [])) ≡ cond c (lay (run t ss) n (b n)) (run t ss)
    go true = rw (map-append, run-append)
    go false = rw append-nil

module _ (t : List ℕ) (p : ℕ → Bool) (b : ℕ → List ℕ) (size : (i : ℕ) → i < rooms t → length (b i) ≡ 32) where
  -- a record apart from the one looked at keeps what it held
  step : (u : List ℕ) (c : Bool) (n i : ℕ) (x : List ℕ) → n < rooms t → i < rooms u → (c ≡ true → i ≢ n) → rec u i ≡ x
      → rec (cond c (lay u n (b n)) u) i ≡ x
  step u true n i x m l d e = lay-other u n (b n) i (size n m) (d refl) l ∙ e
  step u false n i x m l d e = e

  -- a record that is not below n, or does not pass, is kept
  kept : (n i : ℕ) → n ≤ rooms t → i < rooms t → (p i ≡ false) ⊎ (n ≤ i) → rec (run t (fills p b n)) i ≡ rec t i
  unfolding fills join_below run
  kept zero i m l w = refl
  kept (suc n) i m l w =
      rw fills-next
      (step (run t (fills p b n)) (p n) n i (rec t i) (omega arith) (rw rooms-run l)
      (λ e q. ⊎_elim (λ f. not-both e (ap p (sym q) ∙ f)) (λ (m : suc n ≤ i). omega arith) w)
      (kept n i (omega arith) l (⊎_elim (λ e. inl e) (λ (m : suc n ≤ i). inr (omega arith)) w)))

  -- one below n that passes is laid
  laid : (n i : ℕ) → n ≤ rooms t → i < n → p i ≡ true → rec (run t (fills p b n)) i ≡ b i
  laid zero i m l e = let z : ⊥ = omega arith in absurd z
  laid (suc n) i m l e =
      rw fills-next
      (by_cases (ℕ_discrete i n)
      (λ (q : i ≡ n). rw (← q, e) (lay-same (run t (fills p b i)) i (b i) (size i (omega arith)) (rw rooms-run (omega arith))))
      (λ (q : i ≢ n).
      step (run t (fills p b n)) (p n) n i (b i) (omega arith) (rw rooms-run (omega arith)) (λ _. q) (laid n i (omega arith) (omega arith) e)))

  -- what the table holds afterwards
  pub rec-filled : (i : ℕ) → i < rooms t → rec (run t (fills p b (rooms t))) i ≡ cond (p i) (b i) (rec t i)
  rec-filled i l = go (p i) refl
    where
      go : (c : Bool) → p i ≡ c → rec (run t (fills p b (rooms t))) i ≡ cond c (b i) (rec t i)
      go true e = laid (rooms t) i (omega arith) l e
      go false e = kept (rooms t) i (omega arith) l (inl e)

-- each store lays the record that passes
pub every-fills : (p : ℕ → Bool) (b : ℕ → List ℕ) (n : ℕ) → ((i : ℕ) → i < n → length (b i) ≡ 32)
    → Every (Lays (λ i r. (r ≡ b i) × (p i ≡ true)) n) (fills p b n)
unfolding fills
every-fills p b n size =
    every_map _ (λ i. puts i (b i)) (list_below p n)
    (every-imp _ _ (list_below p n) (λ i h. record { within = h.0; size = size i h.0; holds = (refl, h.1) }) (every-below p n))

-- where nothing passes, nothing is laid
pub fills-none : (p : ℕ → Bool) (b : ℕ → List ℕ) (n : ℕ) → ((i : ℕ) → i < n → p i ≡ false) → fills p b n ≡ []
unfolding fills join_below
fills-none p b zero h = refl
fills-none p b (suc n) h = rw (h n (omega arith), append-nil) (fills-none p b n (λ i l. h i (omega arith)))
