-- What a new entry meets is what the paper's checks and stores ask of the table: each law goes by where the name was found.
-- In a sound table the counts are true; and the file that an entry names has at most 1,000 text records, so that their list holds them all.
use mathlib.Core.Bool.{Bool, true, false, ◌&&◌, not, cond}
use mathlib.Core.List.{List, [], ◌∷◌, ◌++◌, append-nil, append_assoc}
use mathlib.Core.Logic.{◌⊎◌, inl, inr, ◌≢◌, by_cases}
use mathlib.Core.Path.{◌≡◌, refl, sym, ap, ◌∙◌}
use Prim.Native.Nat.{ℕ, ◌≤◌, ◌<◌}
use native.Mathlib.Omega.{arith}
use native.Mathlib.Decide.{ℕ_discrete}
use lib.Dec.{eqb, leb, ltb}
use lib.ListN.{length}
use borrow.Author.Tests.{eq-eqb, ne_eqb, lt-ltb}
use Rattle.std.specs.Prelude.{Some, None, IfSome}
use Rattle.paper.specs.Scan as F
use Rattle.paper.specs.Record.{byte, directory, holder_of, heading_named, blank}
use Rattle.paper.specs.Layout.{entry_record, boxed}
use Rattle.paper.specs.Table.{sized, rooms, rec, lay, frees, room}
use Rattle.paper.specs.Entry.{Holder, in_directory, find, full, peopled}
use Rattle.paper.specs.Block.{blocks_of}
use Rattle.paper.specs.Sound.{sound}
use Rattle.paper.specs.Store.{Store, puts, run}
use Rattle.paper.specs.Count.{recounts}
use Rattle.paper.specs.Effect.{Making, placing, lost, settled, losing, displacing}
use Rattle.laws.proofs.Tests.{truth}
use Rattle.laws.proofs.Lay.{within}
use Rattle.laws.proofs.Runs.{run-append}
use Rattle.laws.proofs.Entries.{found-stands, typed-kind}
use Rattle.demands.proofs.Sound.Clauses.{length_most}
use Rattle.demands.proofs.Sound.Right.{Right, sound-right}
use Rattle.demands.proofs.SoundKept.Grown.{grown-none}
use Rattle.demands.proofs.Recounting.Telling.{lost-count, peopled-bytes, full-bytes}
use Rattle.demands.proofs.Recounting.Before.{clears-enter}
use Rattle.scans.specs.Shown.{found_shown}
use Rattle.records.specs.Counts.{held_count}
use Rattle.effects.specs.Listed.{text_rooms}
use Rattle.effects.specs.Stage.{Made, clear_stores}
use Rattle.effects.specs.Counts.{count_stores}
use Rattle.effects.specs.declared.counts.Moves.{Moves}
use Rattle.effects.proofs.Stages.{made-onto}
use Rattle.effects.proofs.Papers.{file-freed}
use Rattle.placing.specs.Placing.{last_by, lost_by, file_of, instead, gone, met, Held, full_by, peopled_by, losing_by, lost_texts, lost_stores, entry_stores}
use Rattle.placing.specs.declared.File.{File}
use Rattle.placing.proofs.Holding.{Before}
use Rattle.placing.proofs.Entering.{eqb-turn, names-entry, over-enters, over-counts, free-counts, cleared-counts}

-- ---- what the code finds

-- a base list's entries are counted
pub crowded-base : (t : List ℕ) (d : Holder) (b : Bool) → d.heading ≡ 65535 → b ≡ full t d → b ≡ full_by t d
crowded-base t d b q e =
    e ∙ sym (ap (λ (c : Bool). cond c (full t d) (leb 112 (held_count (rec t d.heading)))) (eq-eqb d.heading 65535 q))

-- the entry's store, and the counts by the table that it leaves
pub made-entered : (t u v : List ℕ) (k l n e : ℕ) (b : List ℕ) (m : Moves) → Made t u k l (puts e b ∷ []) → Made u v l n (count_stores u m)
    → Made t v k n (puts e b ∷ count_stores (lay t e b) m)
unfolding run
made-entered t u v k l n e b m p q = made-onto t u v k l n (puts e b ∷ []) (λ w. count_stores w m) p q

-- ---- what the paper asks

some : (n : ℕ) → not (eqb n 0) ≡ ltb 0 n
some n =
    by_cases (ℕ_discrete n 0) (λ (e : n ≡ 0). rw e)
    (λ (e : n ≢ 0). rw (ne_eqb n 0 e, lt-ltb 0 n (omega arith)))

-- what is asked of a file that is lost where a test holds
losing-where : (t : List ℕ) (b : Bool) (x : File) → losing_by t (cond b (Some x) None) ≡ (b && peopled_by t x.heading.0)
losing-where t true x = refl
losing-where t false x = refl

few-where : (b : Bool) (x : File) → x.count.0 ≤ 1000 → IfSome (cond b (Some x) None) (λ f. f.count.0 ≤ 1000)
few-where true x l = l
few-where false x l = tt

-- .. and what is cleared of it
stores-where : (t : List ℕ) (b : Bool) (x : File) (texts : List ℕ)
    → lost_stores (cond b (Some x) None) (lost_texts t (cond b (Some x) None) texts)
    ≡ cond b (clear_stores x.heading.0 (text_rooms t x.heading.0 x.count.0) x.count.0) []
stores-where t true x texts = refl
stores-where t false x texts = refl

-- the entry's stores in the paper's order
in-turn : (a c s : List Store) (p : Store) → ((a ++ p ∷ []) ++ c) ++ s ≡ a ++ p ∷ (c ++ s)
in-turn a c s p = ap (λ (x : List Store). x ++ s) (append_assoc a (p ∷ []) c) ∙ append_assoc a (p ∷ c) s

run-entry : (t : List ℕ) (first : List Store) (e : ℕ) (r : List ℕ) → run t (first ++ puts e r ∷ []) ≡ lay (run t first) e r
unfolding run
run-entry t first e r = run-append t first (puts e r ∷ [])

module _ (t : List ℕ) (fit : sized t ≡ true) (right : sound boxed t ≡ true) where
  c : Right t
  c = sound-right t fit right

  -- a heading is in the table
  inside : (h : ℕ) → byte (rec t h) 0 ≡ 1 → h < rooms t
  inside h k = within t h c.clauses.whole (λ (z : byte (rec t h) 0 ≡ 0). omega arith)

  -- 17, by the directory's count
  pub full-met : (d : Holder) → Held t d → full t d ≡ full_by t d
  full-met d (inl e) = crowded-base t d (full t d) e refl
  full-met d (inr (q, z)) =
      let h : ℕ = d.heading in
      let l : h < rooms t = inside h (typed-kind 0 (rec t h) q) in
      let p : d ≡ in_directory h = λ i. record { heading = d.heading; user = z i } in
      ap (full t) p ∙ full-bytes t c.clauses.few c.counts h l q
      ∙ sym (ap (λ (b : Bool). cond b (full t d) (leb 112 (held_count (rec t h)))) (ne_eqb h 65535 (λ (y : h ≡ 65535). omega (arith, c.clauses.few))))

  -- 18, by its count
  pub peopled-met : (h : ℕ) → (directory (rec t h) && peopled t h) ≡ peopled_by t h
  peopled-met h = go (truth (directory (rec t h)))
    where
      go : (directory (rec t h) ≡ true) ⊎ (directory (rec t h) ≡ false) → (directory (rec t h) && peopled t h) ≡ peopled_by t h
      go (inl d) =
          ap (λ (b : Bool). directory (rec t h) && b)
          (peopled-bytes t c.clauses.few c.counts h (inside h (typed-kind 0 (rec t h) d)) d ∙ some (held_count (rec t h)))
      go (inr d) = rw d

  -- the file of an entry that is found has at most 1,000 text records
  found-few : (d : Holder) (n : List ℕ) (e : ℕ) → find boxed t d n ≡ F.at e → blocks_of t (heading_named (rec t e)) ≤ 1000
  found-few d n e q =
      let w = found-stands t d n e q in
      let h = heading_named (rec t e) in
      let kind : byte (rec t h) 0 ≡ 1 = c.clauses.targets e w.0 w.1.kind in
      omega (arith, length_most (rec t h) ((c.clauses.own h (inside h kind)).heading kind))

  -- an entry cleared: its file is lost where it was named once
  module _ (e : ℕ) (l : e < rooms t) (k : byte (rec t e) 0 ≡ 2) where
    pub cleared-lost : lost t e blank ≡ last_by t (heading_named (rec t e))
    unfolding blank
    cleared-lost =
        let y = c.clauses.targets e l k in
        lost-count t e blank (clears-enter t e c k) k (inside (heading_named (rec t e)) y) y

    pub cleared-corrected : recounts (lay t e blank) ≡ count_stores (lay t e blank) (gone (holder_of (rec t e)) (heading_named (rec t e)))
    cleared-corrected = cleared-counts t c e l k

  module _ (code : ℕ) (hd : Holder) (k : ℕ) (n : List ℕ) (short : length n ≤ 10) (small : k < 65536) where
    abbrev r : List ℕ
    r = entry_record boxed code hd.heading k hd.user n

    lost-met : (e : ℕ) → find boxed t hd n ≡ F.at e → lost t e r ≡ lost_by t (heading_named (rec t e)) k
    lost-met e q =
        let w = found-stands t hd n e q in
        let h : ℕ = heading_named (rec t e) in
        let y = c.clauses.targets e w.0 w.1.kind in
        lost-count t e r (over-enters t c code hd k n short small e q t (grown-none t) c.counts) w.1.kind (inside h y) y
        ∙ ap (λ (b : Bool). not b && last_by t h) (names-entry t c code hd k n short small h ∙ eqb-turn h k)

    -- 18
    pub displaced-loses : (f : F.Found) (free : ℕ) → find boxed t hd n ≡ f → displacing t f r ≡ losing_by t (met t (found_shown f) hd k free).lost
    unfolding losing
    displaced-loses (F.at e) free q =
        ap (λ (b : Bool). b && (directory (rec t (heading_named (rec t e))) && peopled t (heading_named (rec t e)))) (lost-met e q)
        ∙ ap (λ (b : Bool). lost_by t (heading_named (rec t e)) k && b) (peopled-met (heading_named (rec t e)))
        ∙ sym (losing-where t (lost_by t (heading_named (rec t e)) k) (file_of t (heading_named (rec t e))))
    displaced-loses F.nowhere free q = refl

    -- the stores, with what is met: where nothing is displaced there is a free record left for the entry
    pub placed-settled : (m : Making) → m.entry ≡ r → Before t m.first k → Held t hd → (f : F.Found) → find boxed t hd n ≡ f
        → (f ≡ F.nowhere → length m.first < length (frees t))
        → (texts : List ℕ) → placing t m f ≡ (let x = met t (found_shown f) hd k (room t (length m.first)) in
        m.first ++ entry_stores (run t m.first) x m.entry (lost_texts t x.lost texts))
    unfolding settled
    placed-settled m z b h (F.at e) q l texts =
        let first : List Store = m.first in
        let named : ℕ = heading_named (rec t e) in
        let counts : List Store = count_stores (lay (run t first) e r) (instead named k) in
        rw (
          z,
          run-entry t first e r,
          over-counts t c code hd k n short small first b e q,
          lost-met e q,
          file-freed t named fit (found-few hd n e q),
        )
        (in-turn first counts _ (puts e r)
        ∙ ap (λ (ss : List Store). first ++ puts e r ∷ (counts ++ ss)) (sym (stores-where t (lost_by t named k) (file_of t named) texts)))
    placed-settled m z b h F.nowhere q l texts =
        let first : List Store = m.first in
        let e : ℕ = room t (length first) in
        rw (z, run-entry t first e r, free-counts t c code hd k n short small first b h (l refl), append-nil)
        (append_assoc first (puts e r ∷ []) _)

    -- few text records are cleared
    pub met-few : (f : F.Found) (free : ℕ) → find boxed t hd n ≡ f → IfSome (met t (found_shown f) hd k free).lost (λ x. x.count.0 ≤ 1000)
    met-few (F.at e) free q = few-where (lost_by t (heading_named (rec t e)) k) (file_of t (heading_named (rec t e))) (found-few hd n e q)
    met-few F.nowhere free q = tt
