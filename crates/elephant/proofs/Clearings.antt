-- DEL of one name by the tests that the code makes. A file is lost with its entry where it was named once; then it is freed, its rooms as they
-- were before the entry was cleared. Between the two the counts are corrected that the clearing moves.
use mathlib.Core.Bool.{Bool, true, false}
use mathlib.Core.List.{List, [], ◌∷◌, ◌++◌, append-nil}
use mathlib.Core.Path.{◌≡◌, sym, ap, ◌∙◌}
use Prim.Native.Nat.{ℕ, ◌+◌, ◌≤◌, ◌<◌}
use native.Mathlib.Omega.{arith}
use lib.ListN.{length, length-append}
use Rattle.std.specs.Prelude.{Result, Err}
use Rattle.paper.specs.Code.{no_write}
use Rattle.paper.specs.Check.{Place, refusal_at}
use Rattle.paper.specs.Record.{byte, text_length, holder_of, heading_named, blank}
use Rattle.paper.specs.Table.{rooms, rec, lay}
use Rattle.paper.specs.Block.{blocks, blocks_of}
use Rattle.paper.specs.Store.{Store, clear, run}
use Rattle.paper.specs.Count.{recounts}
use Rattle.paper.specs.Effect.{write_inhibited, still_peopled, with_counts, lost, losing, settled, freed, del_at}
use Rattle.laws.proofs.Lay.{rooms-lay}
use Rattle.demands.proofs.Sound.Clauses.{sound-clauses, length_most}
use Rattle.effects.specs.Listed.{text_rooms}
use Rattle.effects.specs.Stage.{Made, clear_stores}
use Rattle.effects.proofs.Stages.{made-both}
use Rattle.effects.proofs.Papers.{file-freed, clear-stores-length}
use Rattle.effects.specs.Counts.{count_stores, count_moves}
use Rattle.effects.specs.declared.counts.Moves.{Moves}
use Rattle.effects.proofs.Recounts.{count-length}
use Rattle.placing.specs.Placing.{last_by, gone, peopled_by}
use Rattle.placing.proofs.Meeting.{peopled-met, cleared-lost, cleared-corrected}
use Rattle.walk.specs.Shown.{meant}
use Rattle.walk.specs.declared.state.State.{State}
use Rattle.elephant.specs.Done.{Fit, Filed}
use Rattle.elephant.specs.Removed.{ended_at, ended_meant, left_told, spent, Spent, Came}
use Rattle.elephant.specs.declared.removal.Ended.{Ended}
use Rattle.elephant.proofs.Verdicts.{first_holds, second_holds, both-pass, came_refused, came-passed}

-- ---- an entry and its file

module _ (t : List ℕ) (h : ℕ) (f : Fit t) (l : h < rooms t) (k : byte (rec t h) 0 ≡ 1) where
  few : blocks_of t h ≤ 1000
  few = omega (arith, length_most (rec t h) (((sound-clauses t f.sized f.sound).own h l).heading k))

  -- a file freed, by the records listed and their count
  pub freed-rooms : (r : List ℕ) (b n : ℕ) → r ≡ text_rooms t h b → b ≡ blocks n → n ≡ text_length (rec t h)
      → freed t h ≡ clear_stores h r b
  freed-rooms r b n p q o = file-freed t h f.sized few ∙ rw (p, q, o)

module _ (t : List ℕ) (e : ℕ) (m : Moves) where
  abbrev out : List Store
  out = clear e ∷ count_stores (lay t e blank) m

  counts-length : length (count_stores (lay t e blank) m) ≡ count_moves (rooms t) m
  counts-length = count-length (lay t e blank) m ∙ ap (λ (n : ℕ). count_moves n m) (rooms-lay t e blank)

  -- the entry and the counts that its clearing moves
  pub one-cleared : (v : List ℕ) (left rest n : ℕ) (a : Result ℕ Ended) → n ≡ count_moves (rooms t) m → Made t v left rest out
      → left_told a ≡ spent left (n + 1)
      → Spent t left out a v
  one-cleared v left rest n a z x o =
      let q : n + 1 ≡ length out = omega (arith, counts-length, z) in
      record { answer = o ∙ ap (spent left) q; table = x.table }

  -- two stages, the entry with its counts and the file
  pub both-cleared : (h : ℕ) (r : List ℕ) (b : ℕ) → freed t h ≡ clear_stores h r b → (u v : List ℕ) (left rest y c : ℕ) (a : Result ℕ Ended)
      → c ≡ count_moves (rooms t) m → Made t u left rest out → Made u v rest y (clear_stores h r b) → left_told a ≡ spent left (c + (b + 2))
      → Spent t left (out ++ freed t h) a v
  both-cleared h r b g u v left rest y c a z x w o =
      let q : c + (b + 2) ≡ length (out ++ clear_stores h r b) =
      omega (arith, length-append (count_stores (lay t e blank) m) (clear_stores h r b), counts-length, clear-stores-length h r b, z) in
      rw g (record { answer = o ∙ ap (spent left) q; table = (made-both t u v left rest y out (clear_stores h r b) x w).table })

-- ---- one name

module _ (t : List ℕ) (place : Place) (k : ℕ) (d f : State) where
  abbrev e : ℕ
  e = f.entry.0

  pub del-shut : no_write d.code.0 ≡ true → (q : Ended) → ended_meant q ≡ ended_at k (refusal_at 14 place)
      → Came t k (del_at t place (meant d) (meant f)) (Err q) t
  del-shut a q m = came_refused t k _ _ q m (first_holds (write_inhibited place (meant d)) _ a)

  module _ (a : no_write d.code.0 ≡ false) (x : Filed t (meant f)) (h : ℕ) (g : h ≡ heading_named (rec t e)) where
    abbrev moves : Moves
    moves = gone (holder_of (rec t e)) h

    lost-by : (b : Bool) → last_by t h ≡ b → lost t e blank ≡ b
    lost-by b z = cleared-lost t x.fit.sized x.fit.sound e x.entry x.stands ∙ ap (last_by t) (sym g) ∙ z

    corrected : recounts (run t (clear e ∷ [])) ≡ count_stores (lay t e blank) moves
    unfolding run
    corrected =
        cleared-corrected t x.fit.sized x.fit.sound e x.entry x.stands
        ∙ ap (λ (n : ℕ). count_stores (lay t e blank) (gone (holder_of (rec t e)) n)) (sym g)

    passed : (ss : List Store) (r : Result ℕ Ended) (v : List ℕ) → losing t e blank ≡ false
        → with_counts t (clear e ∷ []) ++ settled t e blank ≡ ss
        → Spent t k ss r v → Came t k (del_at t place (meant d) (meant f)) r v
    passed ss r v b q z =
        came-passed t v k _ r (both-pass (write_inhibited place (meant d)) (still_peopled place (losing t e blank)) a b) (rw q z)

    -- another entry names the file
    pub del-kept : last_by t h ≡ false → (r : Result ℕ Ended) (v : List ℕ) → Spent t k (clear e ∷ count_stores (lay t e blank) moves) r v
        → Came t k (del_at t place (meant d) (meant f)) r v
    unfolding losing settled
    del-kept z r v w =
        passed (clear e ∷ count_stores (lay t e blank) moves) r v (rw (lost-by false z))
        (rw (lost-by false z, corrected) (ap (λ (ss : List Store). clear e ∷ ss) (append-nil (count_stores (lay t e blank) moves)))) w

    module _ (z : last_by t h ≡ true) where
      -- a directory with entries would be lost
      losing-by : losing t e blank ≡ peopled_by t h
      unfolding losing
      losing-by = rw (lost-by true z, ← g) (peopled-met t x.fit.sized x.fit.sound h)

      pub del-peopled : peopled_by t h ≡ true → (q : Ended) → ended_meant q ≡ ended_at k (refusal_at 18 place)
          → Came t k (del_at t place (meant d) (meant f)) (Err q) t
      del-peopled y q m =
          came_refused t k _ _ q m
          (second_holds (write_inhibited place (meant d)) (still_peopled place (losing t e blank)) [] a (losing-by ∙ y))

      -- the file is lost
      pub del-freed : peopled_by t h ≡ false → (r : Result ℕ Ended) (v : List ℕ)
          → Spent t k (clear e ∷ count_stores (lay t e blank) moves ++ freed t h) r v
          → Came t k (del_at t place (meant d) (meant f)) r v
      unfolding settled
      del-freed y r v w =
          passed (clear e ∷ count_stores (lay t e blank) moves ++ freed t h) r v (losing-by ∙ y) (rw (lost-by true z, corrected, ← g)) w
