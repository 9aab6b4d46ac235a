-- The power cut, for every list of stores of one shape: stores of debris, one store that counts, counts and clearings of what is debris then.
-- A cut before the store that counts is the table before with debris; a cut after it is the table after with debris.
use mathlib.Core.List.{List, [], ◌∷◌, ◌++◌, append_assoc}
use mathlib.Core.Logic.{◌⊎◌, inl, inr, by_cases, ⊎_elim}
use mathlib.Core.Path.{◌≡◌, refl, sym, ◌∙◌}
use Prim.Native.Nat.{ℕ, zero, suc, ◌+◌, ◌-◌, ◌≤◌, ◌<◌}
use native.Mathlib.Omega.{arith}
use native.Mathlib.Decide.{dec_le}
use lib.ListN.{length, take}
use lib.Seq.{take-append-le, take-append-add}
use Rattle.paper.specs.Record.{byte, blank}
use Rattle.paper.specs.Table.{rooms, rec, lay}
use Rattle.paper.specs.Store.{Store, run}
use Rattle.paper.specs.Count.{recounts}
use Rattle.paper.specs.Effect.{with_counts}
use Rattle.paper.specs.Mend.{mended}
use Rattle.laws.proofs.Lists.{Every, every-imp, every_take}
use Rattle.laws.proofs.Lay.{Whole, rooms-lay, length-lay, length-rec}
use Rattle.laws.proofs.Runs.{Lays, run-each, run-append, length_run, rooms-run}
use Rattle.laws.proofs.Recounts.{Recount, every-recounts}
use Rattle.demands.proofs.Mending.Part.{Alike, equal, counts, Parts, Kept, Less}
use Rattle.demands.proofs.Mending.Counts.{alike-sym, but-recount}
use Rattle.demands.proofs.Mending.Debris.{Once, kept-once, mended-kept, part-less, between, between-once, Loose, Debris, laid, Left, ours, litter, left-parts, left-mends, left-once}
use Rattle.demands.proofs.Mending.Again.{Tidy, Tidies, tidied, tidy-less, tidy-over}

-- a store that lays debris in a free record of t
abbrev pub Litters : List ℕ → Store → Type 0
Litters t = Lays (λ i r. (rec t i ≡ blank) × Loose t r) (rooms t)

-- a store to m, which comes to f: it lays what is there but for its counts, or clears debris that is free in f
abbrev pub Sweep : (f x y r : List ℕ) → Type 0
Sweep f x y r = Alike x r ⊎ ((r ≡ blank) × ((y ≡ blank) × Loose f x))

abbrev pub Sweeps : (f m : List ℕ) → Store → Type 0
Sweeps f m = Lays (λ i r. Sweep f (rec m i) (rec f i) r) (rooms m)

-- .. or, in a DST, clears an entry that names no heading of m
abbrev pub Rid : (f m x y r : List ℕ) → Type 0
Rid f m x y r = Alike x r ⊎ ((r ≡ blank) × ((y ≡ blank) × Debris f m x))

abbrev pub Rids : (f m : List ℕ) → Store → Type 0
Rids f m = Lays (λ i r. Rid f m (rec m i) (rec f i) r) (rooms m)

-- what the store that counts lays over what: an entry, over an entry, or a heading over a heading
pub data Counts (x r : List ℕ) : Type 0 where
  entered : byte r 0 ≡ 2 → Counts x r
  over : byte x 0 ≡ 2 → Counts x r
  again : byte x 0 ≡ 1 → byte r 0 ≡ 1 → Counts x r

-- the table at the store that counts
abbrev pub counted : List ℕ → List Store → Store → List ℕ
counted t pre s = lay (run t pre) s.at s.bytes

pub run-counted : (t : List ℕ) (pre : List Store) (s : Store) (rest : List Store) → run t (pre ++ s ∷ rest) ≡ run (counted t pre s) rest
unfolding run
run-counted t pre s rest = run-append t pre (s ∷ rest)

pub rooms-counted : (t : List ℕ) (pre : List Store) (s : Store) → rooms (counted t pre s) ≡ rooms t
rooms-counted t pre s = rooms-lay (run t pre) s.at s.bytes ∙ rooms-run t pre

-- the shape of a request's stores: none; or stores of debris, the store that counts, then counts and clearings of what is debris then
pub data Shaped (t : List ℕ) (stores : List Store) : Type 0 where
  none : stores ≡ [] → Shaped t stores
  phased : (pre : List Store) (s : Store) (post : List Store) → stores ≡ pre ++ s ∷ post → Every (Litters t) pre
      → Lays (λ i r. Counts (rec t i) r) (rooms t) s → Every (Sweeps (run t stores) (counted t pre s)) post → Shaped t stores

-- debris alone mends away
module _ (t : List ℕ) (w : Whole t) (k : Kept t) (ss : List Store) (h : Every (Litters t) ss) where
  litters-left : (i : ℕ) → i < rooms t → Left t (run t ss) (rec t i) (rec (run t ss) i)
  litters-left i l =
      ⊎_elim (λ e. ours (equal e)) (λ p. litter p.0 (laid p.1)) (run-each (λ i r. (rec t i ≡ blank) × Loose t r) t ss h i l)

  littered : mended (run t ss) ≡ t
  littered = left-mends t (run t ss) k (length_run t ss) litters-left w

  littered-once : Once (run t ss)
  littered-once = left-once t (run t ss) k (length_run t ss) litters-left w

-- the counts corrected, and whatever is done after them
pub recounts-sweep : (f m : List ℕ) → Every (Sweeps f m) (recounts m)
recounts-sweep f m = every-imp (Lays (Recount m) (rooms m)) (Sweeps f m) (recounts m) one (every-recounts m)
  where
    one : (x : Store) → Lays (Recount m) (rooms m) x → Sweeps f m x
    one x h =
        record {
          within = h.within;
          size = h.size;
          holds = inl (rw h.holds.0 (counts (but-recount m x.at (rec m x.at) (length-rec m x.at h.within) h.holds.1.0)));
        }

pub counted_is : (t : List ℕ) (pre : List Store) (s : Store) → with_counts t (pre ++ s ∷ []) ≡ pre ++ s ∷ recounts (counted t pre s)
unfolding run
counted_is t pre s = rw (run-counted t pre s []) (append_assoc pre (s ∷ []) (recounts (counted t pre s)))

pub counted-stores : (t : List ℕ) (pre : List Store) (s : Store) (last : List Store)
    → with_counts t (pre ++ s ∷ []) ++ last ≡ pre ++ s ∷ (recounts (counted t pre s) ++ last)
counted-stores t pre s last = rw (counted_is t pre s) (append_assoc pre (s ∷ recounts (counted t pre s)) last)

pub tidy-rids : (f m : List ℕ) (ss : List Store) → Every (Rids f m) ss → Every (Tidies f m) ss
tidy-rids f m ss = every-imp (Rids f m) (Tidies f m) ss (λ x g. record { within = g.within; size = g.size; holds = go x g.holds })
  where
    go : (x : Store) → Rid f m (rec m x.at) (rec f x.at) x.bytes → Tidy (rec m x.at) (rec f x.at) x.bytes
    go x (inl a) = inl a
    go x (inr c) = inr (c.0, c.1.0)

sweeps-rid : (f m : List ℕ) (ss : List Store) → Every (Sweeps f m) ss → Every (Rids f m) ss
sweeps-rid f m ss = every-imp (Sweeps f m) (Rids f m) ss (λ x g. record { within = g.within; size = g.size; holds = go x g.holds })
  where
    go : (x : Store) → Sweep f (rec m x.at) (rec f x.at) x.bytes → Rid f m (rec m x.at) (rec f x.at) x.bytes
    go x (inl a) = inl a
    go x (inr c) = inr (c.0, (c.1.0, laid c.1.1))

-- what is still to be done mends, whichever of the stores are made
module _ (f m : List ℕ) (post : List Store) (ends : run m post ≡ f) (w : Whole f) (k : Kept f) (h : Every (Rids f m) post) where
  long : length f ≡ length m
  long = rw (← ends) (length_run m post)

  -- m is f with counts and debris
  left : Parts f m
  left = left-parts f m k (sym long) (λ i l. go i (rw ends at (run-each (λ i r. Rid f m (rec m i) (rec f i) r) m post h i (rw long at l))))
    where
      go : (i : ℕ) → (rec f i ≡ rec m i) ⊎ Rid f m (rec m i) (rec f i) (rec f i) → Left f m (rec f i) (rec m i)
      go i (inl q) = ours (equal (sym q))
      go i (inr (inl a)) = ours (alike-sym (rec m i) (rec f i) a)
      go i (inr (inr c)) = litter c.0 c.1.1

  -- each record as in m, or tidied
  module _ (x : List ℕ) (e : length x ≡ length m) (each : (i : ℕ) → i < rooms m → Tidy (rec m i) (rec f i) (rec x i)) where
    less : Less m f
    less = part-less f m w left

    pub swept-any : mended x ≡ f
    swept-any = between f m w left k x (tidy-less f m x less e each) (tidy-over f m x less e each)

    pub swept_once : Once x
    swept_once = between-once f m w left k x (tidy-less f m x less e each) (tidy-over f m x less e each)

-- the table before or the table after, in one round
pub record Cut (t : List ℕ) (stores : List Store) (k : ℕ) : Type 0 where
  pub once : Once (run t (take k stores))
  pub lands : (mended (run t (take k stores)) ≡ t) ⊎ (mended (run t (take k stores)) ≡ run t stores)

none-cut : (t : List ℕ) → Kept t → (n : ℕ) → Cut t [] n
unfolding run
none-cut t k zero = record { once = kept-once t k; lands = inl (mended-kept t k) }
none-cut t k (suc n) = record { once = kept-once t k; lands = inl (mended-kept t k) }

pub power-cut : (t : List ℕ) (stores : List Store) → Whole t → Kept t → Kept (run t stores) → Shaped t stores → (n : ℕ) → Cut t stores n
power-cut t stores w k d (none e) n = rw e (none-cut t k n)
power-cut t stores w k d (phased pre s post e h c g) n =
    rw e
    (by_cases (dec_le n (length pre))
    (λ (l : n ≤ length pre).
    let g = every_take _ n pre h in
    record {
      once = rw (take-append-le n pre) (littered-once t w k (take n pre) g);
      lands = inl (rw (take-append-le n pre) (littered t w k (take n pre) g));
    })
    (λ (l : ¬ (n ≤ length pre)). past (n - length pre - 1) (omega arith)))
  where
    past : (j : ℕ) → n ≡ length pre + suc j → Cut t (pre ++ s ∷ post) n
    past j q =
        record {
          once =
              rw (q, take-append-add pre (s ∷ post) (suc j), run-counted t pre s (take j post))
              (swept_once (run m post) m post refl whole kept sweeps (run m (take j post)) (length_run m (take j post)) each);
          lands = inr (
              rw (q, take-append-add pre (s ∷ post) (suc j), run-counted t pre s (take j post), run-counted t pre s post)
              (swept-any (run m post) m post refl whole kept sweeps (run m (take j post)) (length_run m (take j post)) each));
        }
      where
        m : List ℕ
        m = counted t pre s

        whole : Whole (run m post)
        whole = rw (length_run, length-lay, length_run) w

        kept : Kept (run m post)
        kept = rw (e, run-counted t pre s post) at d

        sweeps : Every (Rids (run m post) m) post
        sweeps = sweeps-rid (run m post) m post (rw (← run-counted t pre s post, ← e) g)

        each : (i : ℕ) → i < rooms m → Tidy (rec m i) (rec (run m post) i) (rec (run m (take j post)) i)
        each = tidied (run m post) m (take j post) (tidy-rids (run m post) m (take j post) (every_take _ j post sweeps))
