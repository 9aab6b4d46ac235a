-- What the call promises. It goes one of three ways, by its checks and the count of its stores; each is one line of the definition. The rest
-- is what the stores do: cut, mended and swept again they end where they would have ended, and a swept table has none.
use mathlib.Core.Bool.{Bool, true, false}
use mathlib.Core.List.{List, []}
use mathlib.Core.Path.{◌≡◌, refl, sym, ◌∙◌}
use Prim.Native.Nat.{ℕ, ◌≤◌, ◌<◌}
use native.Mathlib.Omega.{arith}
use lib.Dec.{leb}
use lib.ListN.{length, take}
use lib.Seq.{take-length}
use borrow.Author.Tests.{eq-eqb, leb-true, leb-false}
use Rattle.paper.specs.Record.{blank}
use Rattle.paper.specs.Layout.{boxed}
use Rattle.paper.specs.Table.{sized, rooms, rec}
use Rattle.paper.specs.Check.{whole, refusal_at, verdict}
use Rattle.paper.specs.Sound.{sound}
use Rattle.paper.specs.Store.{run}
use Rattle.paper.specs.Count.{recounts}
use Rattle.paper.specs.Mend.{mend_stores, mended}
use Rattle.paper.specs.Answer.{plain, refusing}
use Rattle.paper.specs.Index.{true_index, is_true, Kept, mend_admission, mend_keeping}
use Rattle.paper.specs.Sweep.{live, sweep_stores, swept, sweepable, sweeping}
use Rattle.laws.proofs.Tests.{not-both}
use Rattle.laws.proofs.Lay.{Whole}
use Rattle.laws.proofs.Runs.{length_run, rooms-run}
use Rattle.laws.proofs.Recounts.{recounts-none}
use Rattle.demands.proofs.Sound.Right.{Right, sound-right, right-sound}
use Rattle.demands.proofs.Mending.Part.{Alike}
use Rattle.demands.proofs.Mending.Counts.{is-blank, counts-at, recounts-each}
use Rattle.demands.proofs.Mending.Debris.{sound-keeps}
use Rattle.index_laws.proofs.Truth.{index-length, true-length}
use Rattle.index_laws.proofs.Good.{Good, is_true_lem}
use Rattle.demands.proofs.Mending.{mended_whole, mend-whole}
use Rattle.sweep_demands.proofs.Live.{lost, none-clears, live-less, live-each}
use Rattle.sweep_demands.proofs.Again.{swept-is, swept-twice, swept_none, cut_again}
use Rattle.sweep_demands.proofs.Sound.{swept-right, cut_right}

-- a sweep that is not cut, and one that is
abbrev pub swept_whole : List ℕ → Kept
swept_whole t =
    record {
      outcome = record { answer = plain 0 (whole 0) 0 (length (sweep_stores t)); table = swept t; reply = [] };
      index = true_index (swept t);
    }

abbrev pub swept_cut : List ℕ → List ℕ → ℕ → Kept
swept_cut t x k = record { outcome = record { answer = plain 22 (whole 0) 0 k; table = run t (take k (sweep_stores t)); reply = [] }; index = x }

-- "Refusals: 1, 2 and 26 as for a request, and 22"
pub data SweepCame (t x : List ℕ) (k : ℕ) (r : Kept) : Type 0 where
  unsized : sized t ≡ false → r ≡ record { outcome = refusing t [] (refusal_at 1 (whole 0)); index = x } → SweepCame t x k r
  unsound : sized t ≡ true → sound boxed t ≡ false → r ≡ record { outcome = refusing t [] (refusal_at 2 (whole 0)); index = x } → SweepCame t x k r
  untrue : sized t ≡ true → sound boxed t ≡ true → is_true t x ≡ false
      → r ≡ record { outcome = refusing t [] (refusal_at 26 (whole 0)); index = x } → SweepCame t x k r
  done : Good t x → length (sweep_stores t) ≤ k → r ≡ swept_whole t → SweepCame t x k r
  cut_off : Good t x → k < length (sweep_stores t) → r ≡ swept_cut t x k → SweepCame t x k r

pub sweep-came : (t x : List ℕ) (k : ℕ) → SweepCame t x k (sweeping t x k)
unfolding sweeping sweepable verdict swept
sweep-came t x k = go (sized t) refl (sound boxed t) refl (is_true t x) refl (leb (length (sweep_stores t)) k) refl
  where
    go : (a : Bool) → sized t ≡ a → (b : Bool) → sound boxed t ≡ b → (c : Bool) → is_true t x ≡ c → (d : Bool) → leb (length (sweep_stores t)) k ≡ d
        → SweepCame t x k (sweeping t x k)
    go false p b q c r d w = unsized p (rw p)
    go true p false q c r d w = unsound p q (rw (p, q))
    go true p true q false r d w = untrue p q r (rw (p, q, r))
    go true p true q true r true w = done (record { sized = p; sound = q; index = r }) (leb-true _ _ w) (rw (p, q, r, w))
    go true p true q true r false w = cut_off (record { sized = p; sound = q; index = r }) (leb-false _ _ w) (rw (p, q, r, w))

-- where the stop number covers the stores it is granted
pub sweep-whole : (t x : List ℕ) (k : ℕ) → Good t x → length (sweep_stores t) ≤ k → sweeping t x k ≡ swept_whole t
sweep-whole t x k f l = go (sweep-came t x k)
  where
    go : SweepCame t x k (sweeping t x k) → sweeping t x k ≡ swept_whole t
    go (unsized a e) = absurd (not-both f.sized a)
    go (unsound a b e) = absurd (not-both f.sound b)
    go (untrue a b c e) = absurd (not-both f.index c)
    go (done g m e) = e
    go (cut_off g m e) = let z : ⊥ = omega arith in absurd z

-- and only then
pub granted-whole : (t x : List ℕ) (k : ℕ) → (sweeping t x k).outcome.answer.number ≡ 0 → Good t x × (sweeping t x k ≡ swept_whole t)
granted-whole t x k z = go (sweep-came t x k)
  where
    go : SweepCame t x k (sweeping t x k) → Good t x × (sweeping t x k ≡ swept_whole t)
    go (unsized a e) = let n : ⊥ = omega (arith, rw e at z) in absurd n
    go (unsound a b e) = let n : ⊥ = omega (arith, rw e at z) in absurd n
    go (untrue a b c e) = let n : ⊥ = omega (arith, rw e at z) in absurd n
    go (done f l e) = (f, e)
    go (cut_off f l e) = let n : ⊥ = omega (arith, rw e at z) in absurd n

right_by : (t x : List ℕ) → Good t x → Right t
right_by t x f = sound-right t f.sized f.sound

-- a sound table with its true index
good-by : (t : List ℕ) → Right t → Good t (true_index t)
good-by t r = let s = right-sound t r in record { sized = s.0; sound = s.1; index = is_true_lem t }

-- ---- "Granted, it leaves the index true", of a sound table

pub sweep_sound : (t x : List ℕ) (k : ℕ) → (sweeping t x k).outcome.answer.number ≡ 0 → Good (sweeping t x k).outcome.table (sweeping t x k).index
sweep_sound t x k z = let g = granted-whole t x k z in rw g.1 (good-by (swept t) (swept-right t (right_by t x g.0)))

-- ---- "A sweep clears exactly what no chain .. reaches"

-- what is lost is free, and nothing else has changed but counts
pub record Exactly (t s : List ℕ) : Type 0 where
  pub long : length s ≡ length t
  pub free : (i : ℕ) → i < rooms t → lost t i ≡ true → rec s i ≡ blank
  pub others : (i : ℕ) → i < rooms t → lost t i ≡ false → Alike (rec t i) (rec s i)

pub exactly-by : (t : List ℕ) → Whole t → Exactly t (swept t)
exactly-by t w =
    record {
      long = rw (swept-is t) (length_run (live t) (recounts (live t)) ∙ (live-less t w).long);
      free = λ i l e. let z : rec (live t) i ≡ blank = live-each t w i l ∙ rw e in is-blank (rec (swept t) i) (rw z at (each i l));
      others = λ i l e. let z : rec (live t) i ≡ rec t i = live-each t w i l ∙ rw e in rw z at (each i l);
    }
  where
    each : (i : ℕ) → i < rooms t → Alike (rec (live t) i) (rec (swept t) i)
    each i l = rw (swept-is t) (recounts-each (live t) i (rw (live-less t w).long l))

pub swept-exactly : (t x : List ℕ) (k : ℕ) → (sweeping t x k).outcome.answer.number ≡ 0 → Exactly t (sweeping t x k).outcome.table
swept-exactly t x k z = let g = granted-whole t x k z in rw g.1 (exactly-by t (right_by t x g.0).clauses.whole)

-- ---- swept again

-- a swept table has no stores
idle : (t : List ℕ) → Right t → sweep_stores (swept t) ≡ []
unfolding sweep_stores live run
idle t r =
    rw (none-clears (swept t) (swept_none t r.clauses.whole)) (recounts-none (swept t) (counts-at (swept t) (swept-right t r).counts))

-- "A swept table swept again changes nothing", with no store, whatever the stop number
pub sweep-again : (t x : List ℕ) (k j : ℕ) → (sweeping t x k).outcome.answer.number ≡ 0
    → sweeping (sweeping t x k).outcome.table (sweeping t x k).index j
    ≡ record {
      outcome = record { answer = plain 0 (whole 0) 0 0; table = (sweeping t x k).outcome.table; reply = [] };
      index = (sweeping t x k).index;
    }
sweep-again t x k j z =
    let g = granted-whole t x k z in
    let r : Right t = right_by t x g.0 in
    rw g.1
    (sweep-whole (swept t) (true_index (swept t)) j (good-by (swept t) (swept-right t r)) (rw (idle t r) (omega arith))
    ∙ rw (idle t r, swept-twice t r.clauses.whole))

-- ---- cut anywhere, mended and swept again

-- a mend, with a list as long as the table, whose end is sound and whose stop number covers its stores
mend-kept : (t x : List ℕ) (k : ℕ) → Right (mended t) → length x ≡ rooms t → length (mend_stores t) ≤ k
    → mend_keeping t x k ≡ record { outcome = mended_whole t; index = true_index (mended t) }
unfolding mend_keeping mend_admission verdict
mend-kept t x k r e l =
    let s = right-sound (mended t) r in
    let z : sized t ≡ true = unfold mended in rw (length_run t (mend_stores t)) at s.0 in
    rw (z, s.1, eq-eqb _ _ e, mend-whole t k s.0 s.1 l)

-- what is left of a table by a sweep, cut or whole, is left after some first part of its stores; its list is as long
pub record Left (t x : List ℕ) (r : Kept) : Type 0 where
  pub stores : ℕ
  pub table : r.outcome.table ≡ run t (take stores (sweep_stores t))
  pub index : length r.index ≡ rooms t

pub left_by_lem : (t x : List ℕ) (k : ℕ) → Good t x → Left t x (sweeping t x k)
unfolding swept
left_by_lem t x k f = go (sweep-came t x k)
  where
    go : SweepCame t x k (sweeping t x k) → Left t x (sweeping t x k)
    go (unsized a e) = absurd (not-both f.sized a)
    go (unsound a b e) = absurd (not-both f.sound b)
    go (untrue a b c e) = absurd (not-both f.index c)
    go (done g m e) =
        rw e (record {
          stores = length (sweep_stores t);
          table = rw (take-length (sweep_stores t));
          index = index-length (swept t) ∙ rooms-run t (sweep_stores t);
        })
    go (cut_off g m e) = rw e (record { stores = k; table = refl; index = true-length t x f.index })

module _ (t x : List ℕ) (f : Good t x) (k j l : ℕ) where
  -- the sweep, the mend after it, and the sweep after that
  abbrev cut : Kept
  cut = sweeping t x k

  abbrev healed : Kept
  healed = mend_keeping cut.outcome.table cut.index j

  abbrev last : Kept
  last = sweeping healed.outcome.table healed.index l

  -- "A sweep cut anywhere, mended and swept again ends in the same table as one uncut"
  pub sweep-cut : length (mend_stores cut.outcome.table) ≤ j → length (sweep_stores healed.outcome.table) ≤ l
      → (last.outcome.answer.number ≡ 0) × ((last.outcome.table ≡ swept t) × (last.index ≡ true_index (swept t)))
  sweep-cut m n = go (left_by_lem t x k f)
    where
      r : Right t
      r = right_by t x f

      go : Left t x cut → (last.outcome.answer.number ≡ 0) × ((last.outcome.table ≡ swept t) × (last.index ≡ true_index (swept t)))
      go c =
          let v : List ℕ = mended cut.outcome.table in
          let u : Right (mended cut.outcome.table) = rw c.table (cut_right t r c.stores) in
          let h : healed ≡ record { outcome = mended_whole cut.outcome.table; index = true_index (mended cut.outcome.table) } =
          mend-kept cut.outcome.table cut.index j u (c.index ∙ rw c.table (sym (rooms-run t (take c.stores (sweep_stores t))))) m in
          let e : swept (mended cut.outcome.table) ≡ swept t = rw c.table (cut_again t r.clauses.whole (sound-keeps t r) c.stores) in
          let q : last ≡ swept_whole (mended cut.outcome.table) =
          rw h (sweep-whole v (true_index v) l (good-by v u) (rw h at n)) in
          rw (q, e) (refl, (refl, refl))
