-- A mend of whose stores any have been made, in any order, and run again ends as an uncut one: each store clears a record that mending
-- clears, or lays a heading with other counts, so every such table stands between the table and what is left of it once cleared.
use mathlib.Core.Bool.{Bool}
use mathlib.Core.List.{List, ◌++◌}
use mathlib.Core.Logic.{◌⊎◌, inl, inr}
use mathlib.Core.Path.{◌≡◌, refl, sym, ◌∙◌}
use Prim.Native.Nat.{ℕ, zero, suc, ◌<◌}
use native.Mathlib.Omega.{arith}
use lib.ListN.{length, take}
use Rattle.paper.specs.Record.{blank}
use Rattle.paper.specs.Table.{rooms, rec}
use Rattle.paper.specs.Store.{Store, clears, run}
use Rattle.paper.specs.Count.{recounted, recounts}
use Rattle.paper.specs.Mend.{adrift, orphan, stray, wiped, mend_first, mend_second, mend_third, after₁, after₂, round_stores, round, rounds_stores, clear_stores, cleared, mend_stores, mended}
use Rattle.laws.proofs.Lists.{Every, every_append, every-imp, every_take}
use Rattle.laws.proofs.Lay.{Whole, length-rec, kind-blank}
use Rattle.laws.proofs.Runs.{Lays, run-each, length_run, rooms-run}
use Rattle.laws.proofs.Recounts.{Recount, every-recounts}
use Rattle.demands.proofs.Mending.Wipe.{rec-wiped, Blanks, every-clears, round_is, rounds-next, mended-is}
use Rattle.demands.proofs.Mending.Part.{Alike, equal, counts, Below, free, stays, Less}
use Rattle.demands.proofs.Mending.Counts.{alike-sym, alike-trans, is-blank, but-recount, recounts-each}
use Rattle.demands.proofs.Mending.Less.{less-trans, below-trans, less-free, less₁, less₂, less₁₂, less₃, round-less, rounds-less, cleared-less, mended-less}
use Rattle.demands.proofs.Mending.Squeeze.{squeeze}

-- ---- stores that tidy s over f: each lays a record alike to the one there, or clears one that is free in f

-- r tidies record i, which holds x and is y in f
abbrev pub Tidy : (x y r : List ℕ) → Type 0
Tidy x y r = Alike x r ⊎ ((r ≡ blank) × (y ≡ blank))

abbrev pub Tidies : (f s : List ℕ) → Store → Type 0
Tidies f s = Lays (λ i r. Tidy (rec s i) (rec f i) r) (rooms s)

-- a table each of whose records is as in s or tidied stands between s and f
module _ (f s x : List ℕ) (d : Less s f) (long : length x ≡ length s) (h : (i : ℕ) → i < rooms s → Tidy (rec s i) (rec f i) (rec x i)) where
  pub tidy-less : Less s x
  tidy-less = record { long = long; each = λ i l. go i (h i l) }
    where
      go : (i : ℕ) → Tidy (rec s i) (rec f i) (rec x i) → Below (rec s i) (rec x i)
      go i (inl a) = stays a
      go i (inr c) = free c.0

  pub tidy-over : Less x f
  tidy-over = record { long = d.long ∙ sym long; each = λ i l. at i (rw long at l) }
    where
      go : (i : ℕ) → Tidy (rec s i) (rec f i) (rec x i) → Below (rec s i) (rec f i) → Below (rec x i) (rec f i)
      go i (inl a) b = below-trans (rec x i) (rec s i) (rec f i) (stays (alike-sym (rec s i) (rec x i) a)) b
      go i (inr c) b = free c.1

      at : (i : ℕ) → i < rooms s → Below (rec x i) (rec f i)
      at i l = go i (h i l) (d.each i l)

-- after any such stores each record is so
pub tidied : (f s : List ℕ) (ss : List Store) → Every (Tidies f s) ss → (i : ℕ) → i < rooms s → Tidy (rec s i) (rec f i) (rec (run s ss) i)
tidied f s ss h i l = go (run-each (λ j r. Tidy (rec s j) (rec f j) r) s ss h i l)
  where
    go : (rec (run s ss) i ≡ rec s i) ⊎ Tidy (rec s i) (rec f i) (rec (run s ss) i) → Tidy (rec s i) (rec f i) (rec (run s ss) i)
    go (inl e) = inl (equal e)
    go (inr p) = p

-- ---- mended again

-- each record as it was, but for its counts, or cleared where mending clears it
pub again-tidy : (s x : List ℕ) → Whole s → length x ≡ length s
    → ((i : ℕ) → i < rooms s → Tidy (rec s i) (rec (cleared s) i) (rec x i)) → mended x ≡ mended s
again-tidy s x w long h = squeeze s x w (tidy-less (cleared s) s x (cleared-less s) long h) (tidy-over (cleared s) s x (cleared-less s) long h)

-- each record as it was or as it ends
pub again-any : (s x : List ℕ) → Whole s → length x ≡ length s
    → ((i : ℕ) → i < rooms s → (rec x i ≡ rec s i) ⊎ (rec x i ≡ rec (mended s) i)) → mended x ≡ mended s
again-any s x w long each = again-tidy s x w long (λ i l. go i l (each i l) ((cleared-less s).each i l))
  where
    -- the end is what is left but for the counts
    last : (i : ℕ) → i < rooms s → Alike (rec (cleared s) i) (rec (mended s) i)
    last i l = rw (mended-is s) (recounts-each (cleared s) i (rw (cleared-less s).long l))

    go : (i : ℕ) → i < rooms s → (rec x i ≡ rec s i) ⊎ (rec x i ≡ rec (mended s) i) → Below (rec s i) (rec (cleared s) i)
        → Tidy (rec s i) (rec (cleared s) i) (rec x i)
    go i l (inl e) y = inl (equal e)
    go i l (inr e) (stays a) = inl (rw e (alike-trans (rec s i) (rec (cleared s) i) (rec (mended s) i) a (last i l)))
    go i l (inr e) (free z) = inr (e ∙ is-blank (rec (mended s) i) (rw z at (last i l)), z)

-- a mend run again changes nothing
pub mended-twice : (s : List ℕ) → Whole s → mended (mended s) ≡ mended s
mended-twice s w = again-any s (mended s) w (mended-less s).long (λ i l. inr refl)

-- ---- the stores of a mend tidy

-- a step on u, which comes to f
pub step-tidies : (s u f : List ℕ) (p : ℕ → Bool) → rooms u ≡ rooms s → Less (wiped p u) f → Every (Tidies f s) (clears p (rooms u))
step-tidies s u f p e d = every-imp (Lays (Blanks p) (rooms u)) (Tidies f s) (clears p (rooms u)) one (every-clears p (rooms u))
  where
    one : (x : Store) → Lays (Blanks p) (rooms u) x → Tidies f s x
    one x h =
        record {
          within = rw (← e) h.within;
          size = h.size;
          holds = inr (
            h.holds.0,
            less-free (wiped p u) f d x.at (rw (rooms-run u _) h.within) (rec-wiped u p x.at h.within ∙ rw h.holds.1),
          );
        }

-- the round of u, and rounds, whatever comes after them
round-tidies : (s u f : List ℕ) → rooms u ≡ rooms s → Less (round u) f → Every (Tidies f s) (round_stores u)
unfolding round_stores
round-tidies s u f e d =
    every_append (Tidies f s) (mend_first u) (mend_second (after₁ u) ++ mend_third (after₂ u))
    (step-tidies s u f (adrift u) e
    (unfold after₁ in less-trans (after₁ u) (after₂ u) f (less₂ u) (less-trans (after₂ u) (round u) f (less₃ u) d)))
    (every_append (Tidies f s) (mend_second (after₁ u)) (mend_third (after₂ u))
    (step-tidies s (after₁ u) f (orphan (after₁ u)) (rw (less₁ u).long e) (unfold after₂ in less-trans (after₂ u) (round u) f (less₃ u) d))
    (step-tidies s (after₂ u) f (stray (after₂ u)) (rw (less₁₂ u).long e) (rw (round_is u) at d)))

rounds-tidy : (n : ℕ) (s u : List ℕ) → rooms u ≡ rooms s → Every (Tidies (run u (rounds_stores n u)) s) (rounds_stores n u)
unfolding rounds_stores
rounds-tidy zero s u e = tt
rounds-tidy (suc n) s u e =
    rw (rounds-next n u)
    (every_append (Tidies last s) (round_stores u) (rounds_stores n (round u)) (round-tidies s u last e (rounds-less n (round u)))
    (rounds-tidy n s (round u) (rw (round-less u).long e)))
  where
    last : List ℕ
    last = run (round u) (rounds_stores n (round u))

-- the counts of what is left: a heading there is one of s
pub count-tidies : (s c : List ℕ) → Less s c → Every (Tidies c s) (recounts c)
count-tidies s c d = every-imp (Lays (Recount c) (rooms c)) (Tidies c s) (recounts c) one (every-recounts c)
  where
    laid : (i : ℕ) (r : List ℕ) → i < rooms s → Recount c i r → Below (rec s i) (rec c i) → Alike (rec s i) r
    laid i r l h (free z) = let n : ⊥ = omega (arith, kind-blank (rec c i) z, h.1.0) in absurd n
    laid i r l h (stays y) =
        rw h.0 (alike-trans (rec s i) (rec c i) (recounted c i (rec c i)) y
        (counts (but-recount c i (rec c i) (length-rec c i (rw d.long l)) h.1.0)))

    one : (x : Store) → Lays (Recount c) (rooms c) x → Tidies c s x
    one x h =
        let l : x.at < rooms s = rw d.long at h.within in
        record { within = l; size = h.size; holds = inl (laid x.at x.bytes l h.holds (d.each x.at l)) }

module _ (s : List ℕ) where
  clear-tidies : Every (Tidies (cleared s) s) (clear_stores s)
  unfolding clear_stores cleared
  clear-tidies = rounds-tidy (rooms s) s s refl

  pub mend-tidies : Every (Tidies (cleared s) s) (mend_stores s)
  unfolding mend_stores
  mend-tidies = every_append (Tidies (cleared s) s) (clear_stores s) (recounts (cleared s)) clear-tidies (count-tidies s (cleared s) (cleared-less s))

-- any of its stores made, in any order
pub again-run : (s : List ℕ) → Whole s → (ss : List Store) → Every (Tidies (cleared s) s) ss → mended (run s ss) ≡ mended s
again-run s w ss h = again-tidy s (run s ss) w (length_run s ss) (tidied (cleared s) s ss h)

-- cut after k stores
pub again : (s : List ℕ) → Whole s → (k : ℕ) → mended (run s (take k (mend_stores s))) ≡ mended s
again s w k = again-run s w (take k (mend_stores s)) (every_take _ k (mend_stores s) (mend-tidies s))
