-- The table at the entry's store has true counts: it is a table with true counts, or one with a new file besides, whose heading starts with
-- both at 0, and no entry speaks of a record that was free. So each entry's store is one to a table with true counts.
use mathlib.Core.Bool.{Bool, true, false, ◌||◌, not}
use mathlib.Core.List.{List}
use mathlib.Core.Logic.{◌⊎◌, inl, inr, ◌≢◌}
use mathlib.Core.Path.{◌≡◌, refl, sym, ap, ◌∙◌}
use Prim.Native.Nat.{ℕ, ◌<◌}
use native.Mathlib.Omega.{arith}
use lib.ListN.{length}
use borrow.Author.Tests.{eqb-true}
use Rattle.paper.specs.Number.{bytes_of}
use Rattle.paper.specs.Scan.{at}
use Rattle.paper.specs.Record.{byte, directory, holder_of, names, heading_record, blank}
use Rattle.paper.specs.Layout.{boxed}
use Rattle.paper.specs.Table.{rooms, rec, frees, room}
use Rattle.paper.specs.Name.{same}
use Rattle.paper.specs.Entry.{holder, in_directory, stands, crowd}
use Rattle.paper.specs.Sound.{is_base, counts_true}
use Rattle.paper.specs.Store.{run}
use Rattle.paper.specs.Count.{namings, holdings, counts_right}
use Rattle.paper.specs.Effect.{Making, borne, new_file}
use Rattle.laws.proofs.Tests.{or_cases, false-by}
use Rattle.laws.proofs.Counts.{count_none}
use Rattle.laws.proofs.Entries.{names-kind, names-heading, stands-true, stands-holder, found-stands, typed-kind}
use Rattle.laws.proofs.Lay.{length-blank, within}
use Rattle.laws.proofs.Runs.{rooms-run}
use Rattle.laws.proofs.Rooms.{room-below}
use Rattle.demands.proofs.Sound.Clauses.{Sound}
use Rattle.demands.proofs.Sound.Right.{Right}
use Rattle.demands.proofs.Mending.Counts.{counts-at, counts-here}
use Rattle.demands.proofs.SoundKept.Grown.{Grown, grown-namings, grown-crowd}
use Rattle.demands.proofs.SoundKept.Filed.{Roomy, filed, text_new, Look, new-heading, new-text, old, look, room_in, was_free, text-kind, filed-grown}
use Rattle.demands.proofs.SoundKept.Made.{Made, displaced-same}
use Rattle.demands.proofs.Recounting.After.{Entering}

-- what is no heading is named by no entry, and holds none
module _ (t : List ℕ) (c : Sound t) (h : ℕ) (l : h < rooms t) (d : byte (rec t h) 0 ≢ 1) where
  none-name : namings t h ≡ 0
  unfolding namings
  none-name =
      count_none (λ i. names h (rec t i)) (rooms t) (λ i m. false-by (names h (rec t i)) (λ e.
      d (rw (names-heading h (rec t i) e) at (c.targets i m (names-kind h (rec t i) e)))))

  none-stand : holdings t h ≡ 0
  unfolding crowd
  none-stand =
      count_none (λ i. stands (in_directory h) (rec t i)) (rooms t) (λ i m. false-by (stands (in_directory h) (rec t i)) (λ e.
      let s = stands-true (in_directory h) (rec t i) e in
      go i s.heading (or_cases (is_base (rec t i)) (directory (rec t (holder_of (rec t i)))) (c.holders i m s.kind))))
    where
      go : (i : ℕ) → holder_of (rec t i) ≡ h → (is_base (rec t i) ≡ true) ⊎ (directory (rec t (holder_of (rec t i))) ≡ true) → ⊥
      go i q (inl b) = let z : holder_of (rec t i) ≡ 65535 = eqb-true _ _ b in omega (arith, c.few)
      go i q (inr y) = d (rw q at (typed-kind 0 (rec t (holder_of (rec t i))) y))

-- "A new heading starts with both at 0."
module _ (t : List ℕ) (type lev code life n : ℕ) (text : List ℕ) (c : Right t) (w : Roomy t (heading_record type lev code life n) text) where
  abbrev head : List ℕ
  head = heading_record type lev code life n

  abbrev f : List ℕ
  f = filed t head text

  grown : Grown t f
  grown = filed-grown t head text w c.clauses.few

  new-right : counts_right f (room t 0) head ≡ true
  unfolding counts_right heading_record bytes_of same
  new-right =
      let l = room_in t head text w 0 (omega arith) in
      let d : byte (rec t (room t 0)) 0 ≢ 1 = omega (arith, was_free t head text w 0 (omega arith)) in
      rw (grown-namings t f grown (room t 0), grown-crowd t f grown (in_directory (room t 0)))
      (rw (none-name t c.clauses (room t 0) l d, none-stand t c.clauses (room t 0) l d) (go (directory head)))
    where
      go : (b : Bool) → (not b || true) ≡ true
      go true = refl
      go false = refl

  -- an old heading's counts are what they were
  old-right : (i : ℕ) (r : List ℕ) → counts_right f i r ≡ counts_right t i r
  unfolding counts_right
  old-right i r = rw (grown-namings t f grown i, grown-crowd t f grown (in_directory i))

  pub filed-counts : counts_true (run t (new_file t head text)) ≡ true
  filed-counts = counts-here f (λ i l k. go i (rw (rooms-run t _) at l) k (look t head text w i (rw (rooms-run t _) at l)))
    where
      go : (i : ℕ) → i < rooms t → byte (rec f i) 0 ≡ 1 → Look t head text i → counts_right f i (rec f i) ≡ true
      go i l k (old q) = rw q (old-right i (rec t i) ∙ counts-at t c.counts i l (rw q at k))
      go i l k (new-heading q x) = rw (x, q) new-right
      go i l k (new-text p m q x) = let z : byte (text_new t text p) 0 ≡ 1 = rw x at k in let y : ⊥ = omega (arith, text-kind t head text w p) in absurd y

-- ---- each entry's store

-- an entry cleared
pub clears-enter : (t : List ℕ) (e : ℕ) → Right t → byte (rec t e) 0 ≡ 2 → Entering t e blank
unfolding blank
clears-enter t e c k =
    record {
      within = within t e c.clauses.whole (omega arith);
      size = length-blank;
      few = c.clauses.few;
      old = omega arith;
      new = λ (z : ◌≡◌ {A = ℕ} 0 1). omega arith;
      place = λ _ (z : ◌≡◌ {A = ℕ} 0 2). let y : ⊥ = omega arith in absurd y;
      counts = c.counts;
    }

-- a new entry in a free record, or over one that bears its name in its place; f is the table with the stores before it
module _ (o : ℕ) (t : List ℕ) (m : Making) (d : Made o t m) (n : counts_true (run t m.first) ≡ true) where
  pub free-enters : length m.first < length (frees t) → Entering (run t m.first) (room t (length m.first)) m.entry
  free-enters l =
      let k = d.before.next l in
      record {
        within = rw rooms-run (room-below t (length m.first) l);
        size = d.fits.size;
        few = d.before.sound.few;
        old = omega arith;
        new = omega (arith, d.fits.kind);
        place = λ z _. let y : ⊥ = omega arith in absurd y;
        counts = n;
      }

  pub over-enters : Sound t → (e : ℕ) → borne boxed t m ≡ at e → Entering (run t m.first) e m.entry
  over-enters c e b =
      let s = found-stands t m.directory.holder m.name e b in
      let q : rec (run t m.first) e ≡ rec t e = displaced-same o t m c d e b in
      let k : byte (rec (run t m.first) e) 0 ≡ 2 = rw q s.1.kind in
      record {
        within = rw rooms-run s.0;
        size = d.fits.size;
        few = d.before.sound.few;
        old = omega arith;
        new = omega (arith, d.fits.kind);
        place = λ _ _. d.place ∙ sym (ap holder q ∙ stands-holder m.directory.holder (rec t e) s.1);
        counts = n;
      }
