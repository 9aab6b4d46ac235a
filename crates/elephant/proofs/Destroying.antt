-- DST of one name by the tests that the code makes: its heading and its text are no entries, so that the entries naming it are the same once
-- these are cleared; its heading says how many they are. Where the stores left end before the counts, too few are left whatever these are.
use mathlib.Core.Bool.{Bool, true, false, cond}
use mathlib.Core.List.{List, [], map}
use mathlib.Core.Logic.{◌⊎◌, inl, inr, by_cases}
use mathlib.Core.Path.{◌≡◌, refl, sym, ap, ◌∙◌}
use Prim.Native.Nat.{ℕ, ◌+◌, ◌-◌, ◌<◌}
use native.Mathlib.Omega.{arith}
use native.Mathlib.Decide.{dec_lt}
use lib.Dec.{eqb}
use lib.ListN.{length, take, length-append}
use lib.Seq.{take_all}
use borrow.Author.Tests.{eqb-true, lt-leb}
use Rattle.std.specs.Prelude.{Result, Err}
use Rattle.paper.specs.Code.{no_write}
use Rattle.paper.specs.Check.{Place, refusal_at}
use Rattle.paper.specs.Count.{namings, recounts}
use Rattle.paper.specs.Record.{byte, is_kind, heading_named, names, blank}
use Rattle.paper.specs.Table.{sized, rooms, rec}
use Rattle.paper.specs.Store.{Store, clear, clears, fills, run}
use Rattle.paper.specs.Effect.{write_inhibited, still_peopled, with_entries, with_counts, freed, destroying, dst_at}
use Rattle.laws.proofs.Lists.{list-cong}
use Rattle.laws.proofs.Runs.{length_run, rooms-run}
use Rattle.laws.proofs.Tests.{or_cases, and_left}
use Rattle.demands.proofs.Recounting.Numbers.{bytes-named}
use Rattle.demands.proofs.Sound.Right.{Right, sound-right}
use Rattle.demands.proofs.SoundKept.Freed.{text_of, file_of, file-cleared}
use Rattle.records.specs.Counts.{named_count}
use Rattle.effects.specs.Counted.{Counted}
use Rattle.effects.specs.Stage.{Made, clear_stores}
use Rattle.effects.proofs.Counted.{counted-made}
use Rattle.effects.proofs.Namings.{naming-length}
use Rattle.effects.proofs.Papers.{clear-stores-length}
use Rattle.effects.proofs.Stages.{made-onto}
use Rattle.placing.specs.Placing.{peopled_by}
use Rattle.placing.proofs.Meeting.{peopled-met}
use Rattle.walk.specs.Shown.{meant}
use Rattle.walk.specs.declared.state.State.{State}
use Rattle.elephant.specs.Done.{Fit, Filed}
use Rattle.elephant.specs.Removed.{ended_at, ended_meant, left_told, spent, Spent, Came}
use Rattle.elephant.specs.declared.removal.Ended.{Ended}
use Rattle.elephant.proofs.Verdicts.{first_holds, second_holds, both-pass, came_refused, came-passed}

-- ---- every path to a file, and the file

-- too few stores are left for either
spent-short : (k n m : ℕ) → k < n → k < m → spent k n ≡ spent k m
spent-short k n m a b = rw (lt-leb n k a, lt-leb m k b)

-- the stores leave a table's size
sized-run : (t : List ℕ) (ss : List Store) → sized t ≡ true → sized (run t ss) ≡ true
sized-run t ss e = rw (length_run t ss) e

module _ (t : List ℕ) (h : ℕ) (f : Fit t) (l : h < rooms t) (k : byte (rec t h) 0 ≡ 1) where
  c : Right t
  c = sound-right t f.sized f.sound

  -- an entry is neither the heading nor its text
  no-entry : (i : ℕ) → file_of t h i ≡ true → names h (rec t i) ≡ false
  no-entry i e = go (or_cases (eqb i h) (text_of h (rec t i)) e)
    where
      go : (eqb i h ≡ true) ⊎ (text_of h (rec t i) ≡ true) → names h (rec t i) ≡ false
      go (inl q) = rw (eqb-true i h q, k)
      go (inr q) = let z : byte (rec t i) 0 ≡ 3 = eqb-true _ _ (and_left (is_kind 3 (rec t i)) _ q) in rw z

  names-after : (i : ℕ) → i < rooms t → names h (rec (run t (freed t h)) i) ≡ names h (rec t i)
  names-after i b = rw ((file-cleared 65535 t h c.clauses k).each i b) (go (file_of t h i) refl)
    where
      go : (x : Bool) → file_of t h i ≡ x → names h (cond x blank (rec t i)) ≡ names h (rec t i)
      go true e = unfold blank in sym (no-entry i e)
      go false e = refl

  entries-after : clears (λ i. names h (rec (run t (freed t h)) i)) (rooms (run t (freed t h))) ≡ clears (λ i. names h (rec t i)) (rooms t)
  unfolding fills
  entries-after =
      rw (rooms-run t (freed t h))
      (ap (map clear) (list-cong (λ i. names h (rec (run t (freed t h)) i)) (λ i. names h (rec t i)) (rooms t) names-after))

  module _ (r : List ℕ) (b : ℕ) (g : freed t h ≡ clear_stores h r b) where
    destroying-length : length (destroying t h) ≡ namings t h + (b + 1)
    unfolding destroying
    destroying-length =
        length-append (freed t h) (clears (λ i. names h (rec t i)) (rooms t))
        ∙ omega (arith, ap length g, clear-stores-length h r b, naming-length t h)

    -- three stages: the file, the entries that name it, and the counts of the table that these leave
    pub paths-cleared : (u w v : List ℕ) (left x y n m : ℕ) (a : Result ℕ Ended) → Made t u left x (clear_stores h r b)
        → Made u w x y (clears (λ i. names h (rec u i)) (rooms u)) → Counted w v y 0 m (cond (sized w) (recounts w) [])
        → n ≡ named_count (rec t h) → left_told a ≡ spent left (m + (n + (b + 1))) → Spent t left (with_counts t (destroying t h)) a v
    paths-cleared u w v left x y n m a p q o e z =
        record {
          answer = z ∙ by_cases (dec_lt left (length (destroying t h))) short long;
          table = (made-onto t w v left y (y - m) (destroying t h) recounts cleared (counted-made w v y m (recounts w) counts)).table;
        }
      where
        cleared : Made t w left y (destroying t h)
        cleared =
            unfold destroying in
            rw (← entries-after)
            (made-onto t u w left x y (freed t h) (λ s. clears (λ i. names h (rec s i)) (rooms s)) (rw g p) q)

        counts : Counted w v y 0 m (recounts w)
        counts =
            let s : sized w ≡ true = rw cleared.table (sized-run t (take left (destroying t h)) f.sized) in
            rw s at o

        size : m + (n + (b + 1)) ≡ length (recounts w) + length (destroying t h)
        size = omega (arith, counts.count, e, bytes-named t c.clauses.few c.counts h l k, destroying-length)

        whole : length (with_counts t (destroying t h)) ≡ length (destroying t h) + length (recounts (run t (destroying t h)))
        whole = length-append (destroying t h) (recounts (run t (destroying t h)))

        short : left < length (destroying t h) → spent left (m + (n + (b + 1))) ≡ spent left (length (with_counts t (destroying t h)))
        short d = spent-short left _ _ (omega (arith, size)) (omega (arith, whole))

        long : ¬ (left < length (destroying t h)) → spent left (m + (n + (b + 1))) ≡ spent left (length (with_counts t (destroying t h)))
        long d =
            let s : w ≡ run t (destroying t h) = cleared.table ∙ ap (run t) (take_all left (destroying t h) (omega arith)) in
            ap (spent left) (omega (arith, size, whole, ap (λ (z : List ℕ). length (recounts z)) s))

-- ---- one name

module _ (t : List ℕ) (place : Place) (k : ℕ) (f : State) where
  pub dst-shut : no_write f.code.0 ≡ true → (q : Ended) → ended_meant q ≡ ended_at k (refusal_at 14 place)
      → Came t k (dst_at t place (meant f)) (Err q) t
  dst-shut a q m = came_refused t k _ _ q m (first_holds (write_inhibited place (meant f)) _ a)

  module _ (a : no_write f.code.0 ≡ false) (x : Filed t (meant f)) (h : ℕ) (g : h ≡ heading_named (rec t f.entry.0)) where
    peopled-by : with_entries t (heading_named (rec t f.entry.0)) ≡ peopled_by t h
    peopled-by = rw (← g) (peopled-met t x.fit.sized x.fit.sound h)

    pub dst-peopled : peopled_by t h ≡ true → (q : Ended) → ended_meant q ≡ ended_at k (refusal_at 18 place) → Came t k (dst_at t place (meant f)) (Err q) t
    dst-peopled y q m =
        came_refused t k _ _ q m
        (second_holds (write_inhibited place (meant f)) (still_peopled place (with_entries t (heading_named (rec t f.entry.0)))) [] a (peopled-by ∙ y))

    pub dst-destroyed : peopled_by t h ≡ false → (r : Result ℕ Ended) (v : List ℕ) → Spent t k (with_counts t (destroying t h)) r v
        → Came t k (dst_at t place (meant f)) r v
    dst-destroyed y r v w =
        came-passed t v k _ r
        (both-pass (write_inhibited place (meant f)) (still_peopled place (with_entries t (heading_named (rec t f.entry.0)))) a (peopled-by ∙ y))
        (rw (← g) w)
