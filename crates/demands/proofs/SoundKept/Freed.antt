-- A heading is cleared with its text and the entries that name it: by `once` and `texts` its text records are exactly those found by position.
-- Nothing else needs them: no other entry names the heading, none stands in it, and each other text record has its own heading.
use mathlib.Core.Bool.{Bool, true, false, ◌&&◌, ◌||◌, cond}
use mathlib.Core.List.{List}
use mathlib.Core.Logic.{◌⊎◌, inl, inr, ◌≢◌, by_cases}
use mathlib.Core.Path.{◌≡◌, refl, sym, ◌∙◌}
use Prim.Native.Nat.{ℕ, ◌<◌}
use native.Mathlib.Omega.{arith}
use native.Mathlib.Decide.{ℕ_discrete}
use lib.Dec.{eqb}
use borrow.Author.Tests.{eqb-true, eqb-false, eq-eqb, ne_eqb, ltb-true}
use Rattle.paper.specs.Scan.{any_below, count_below, each_below}
use Rattle.paper.specs.Record.{byte, is_kind, directory, simple, holder_of, heading_named, user_of, names, heading_of, position, text_at, blank}
use Rattle.paper.specs.Table.{rooms, rec, lay, text_room}
use Rattle.paper.specs.Entry.{in_directory, stands, named, peopled}
use Rattle.paper.specs.Block.{blocks_of}
use Rattle.paper.specs.Sound.{in_place}
use Rattle.paper.specs.Store.{clear, clears, run}
use Rattle.paper.specs.Effect.{freed, with_entries, destroying}
use Rattle.laws.proofs.Tests.{not-both, and_left, and_right, and_both, and-no-left, or-none, or-no-left, or-no-right, false-by, same_truth}
use Rattle.laws.proofs.Scans.{any-true, any_false, any_here, any_none, first-here}
use Rattle.laws.proofs.Counts.{once-there, once-only}
use Rattle.laws.proofs.Entries.{stands_by, names-kind, names-heading, names-by, typed-kind, text-true, text-by, TextAt}
use Rattle.laws.proofs.Lay.{lay-same, lay-other, length-lay, length-blank, within, kinds-apart}
use Rattle.laws.proofs.Runs.{run-append, length_run, rooms-run, clears-each}
use Rattle.laws.proofs.Fills.{rec-filled}
use Rattle.demands.proofs.Sound.Clauses.{SoundBut, Sound, simple-by}
use Rattle.demands.proofs.Sound.Points.{text-points}
use Rattle.demands.proofs.SoundKept.Cleared.{Cleared, Spared, cleared-sound}

-- the text at a position that is there once stands in its room, and nowhere else
module _ (t : List ℕ) (h p : ℕ) (o : count_below (λ i. text_at h p (rec t i)) (rooms t) ≡ 1) where
  pub room-only : (i : ℕ) → i < rooms t → text_at h p (rec t i) ≡ true → text_room t h p ≡ i
  unfolding text_room
  room-only i l e =
      rw (first-here (λ i. text_at h p (rec t i)) (rooms t) i l e (any_none (λ i. text_at h p (rec t i)) i (λ j m. false-by (text_at h p (rec t j)) (λ x.
      let q : j ≡ i = once-only (λ i. text_at h p (rec t i)) (rooms t) j i o (omega arith) l x e in
      omega arith))))

  pub room-there : (text_room t h p < rooms t) × (text_at h p (rec t (text_room t h p)) ≡ true)
  room-there =
      let w = any-true (λ i. text_at h p (rec t i)) (rooms t) (once-there (λ i. text_at h p (rec t i)) (rooms t) o) in
      rw (room-only w.0 w.1 w.2) (w.1, w.2)

-- the record is text of heading h
abbrev pub text_of : ℕ → List ℕ → Bool
text_of h r = is_kind 3 r && eqb (heading_of r) h

-- the record is the heading h or its text
abbrev pub file_of : List ℕ → ℕ → ℕ → Bool
file_of t h i = eqb i h || text_of h (rec t i)

-- a file's records: the heading, and the text found by position
module _ (o : ℕ) (t : List ℕ) (h : ℕ) (c : SoundBut o t) (k : byte (rec t h) 0 ≡ 1) where
  in-h : h < rooms t
  in-h = within t h c.whole (omega arith)

  -- only a simple file has text, and each position of it is there once
  once-at : (p : ℕ) → p < blocks_of t h → count_below (λ i. text_at h p (rec t i)) (rooms t) ≡ 1
  once-at p b = c.once h p in-h k (simple-by (rec t h) ((c.own h in-h).heading k) p b) b

  -- so it is found
  pub text-found : (p : ℕ) → p < blocks_of t h → (text_room t h p < rooms t) × TextAt h p (rec t (text_room t h p))
  text-found p b = let g = room-there t h p (once-at p b) in (g.0, text-true h p (rec t (text_room t h p)) g.1)

  -- the text of heading h is what is found by position
  pub by-position : (i : ℕ) → i < rooms t → any_below (λ p. eqb i (text_room t h p)) (blocks_of t h) ≡ text_of h (rec t i)
  by-position i l = same_truth _ _ found finds
    where
      found : any_below (λ p. eqb i (text_room t h p)) (blocks_of t h) ≡ true → text_of h (rec t i) ≡ true
      found e =
          let w = any-true (λ p. eqb i (text_room t h p)) (blocks_of t h) e in
          let q : i ≡ text_room t h w.0 = eqb-true _ _ w.2 in
          let u = (text-found w.0 w.1).1 in
          rw q (and_both (is_kind 3 (rec t (text_room t h w.0))) _ (eq-eqb _ _ u.kind) (eq-eqb _ _ u.heading))

      finds : text_of h (rec t i) ≡ true → any_below (λ p. eqb i (text_room t h p)) (blocks_of t h) ≡ true
      finds e =
          let a : byte (rec t i) 0 ≡ 3 = eqb-true _ _ (and_left _ _ e) in
          let b : heading_of (rec t i) ≡ h = eqb-true _ _ (and_right (is_kind 3 (rec t i)) _ e) in
          let v : in_place (rec t h) (rec t i) ≡ true = rw b at (c.texts i l a) in
          let m : position (rec t i) < blocks_of t h = ltb-true _ _ (and_left _ _ (and_right (simple (rec t h)) _ v)) in
          any_here (λ p. eqb i (text_room t h p)) (blocks_of t h) (position (rec t i)) m
          (eq-eqb _ _ (sym (room-only t h (position (rec t i)) (once-at (position (rec t i)) m) i l
          (text-by h (position (rec t i)) (rec t i) (record { kind = a; heading = b; position = refl })))))

  pub file-cleared : Cleared (file_of t h) t (run t (freed t h))
  unfolding freed run
  file-cleared =
      record {
        long = length_run (lay t h blank) (each_below (λ p. clear (text_room t h p)) (blocks_of t h)) ∙ length-lay t h blank;
        each = λ i l.
            clears-each (λ p. text_room t h p) (blocks_of t h) (lay t h blank)
            (λ p b. rw (length-lay t h blank) (text-found p b).0) i (rw (length-lay t h blank) l)
            ∙ rw (by-position i l) (twice (text_of h (rec t i)) i l);
      }
    where
      twice : (b : Bool) (i : ℕ) → i < rooms t → cond b blank (rec (lay t h blank) i) ≡ cond (eqb i h || b) blank (rec t i)
      twice b i l =
          by_cases (ℕ_discrete i h)
          (λ (q : i ≡ h). rw (q, eq-eqb h h refl, lay-same t h blank length-blank in-h) (blanks b))
          (λ (q : i ≢ h). rw (ne_eqb i h q, lay-other t h blank i length-blank q l))
        where
          blanks : (b : Bool) → cond b blank blank ≡ blank
          blanks true = refl
          blanks false = refl

-- .. or an entry that names it
abbrev pub gone_of : List ℕ → ℕ → ℕ → Bool
gone_of t h i = file_of t h i || names h (rec t i)

-- a heading in which no entry stands; none but it may be unnamed
module _ (o : ℕ) (t : List ℕ) (h : ℕ) (c : SoundBut o t) (k : byte (rec t h) 0 ≡ 1) (only : (i : ℕ) → i < rooms t → i ≡ o → i ≡ h)
    (v : with_entries t h ≡ false) where
  -- neither the heading nor its text
  no-file : (i m : ℕ) → byte (rec t i) 0 ≡ m → m ≢ 3 → i ≢ h → file_of t h i ≡ false
  no-file i m e d q = or-none (eqb i h) _ (ne_eqb i h q) (and-no-left (is_kind 3 (rec t i)) _ (ne_eqb _ _ (λ z. d (sym e ∙ z))))

  -- nor an entry that names it: another heading
  no-gone : (i : ℕ) → byte (rec t i) 0 ≡ 1 → i ≢ h → gone_of t h i ≡ false
  no-gone i e q = or-none (file_of t h i) _ (no-file i 1 e (omega arith) q) (rw e)

  entries-elsewhere : (i : ℕ) → i < rooms t → byte (rec t i) 0 ≡ 2 → directory (rec t (holder_of (rec t i))) ≡ true → holder_of (rec t i) ≢ h
  unfolding peopled
  entries-elsewhere i l e f q =
      let b : holder_of (rec t i) ≢ 65535 = λ (z : holder_of (rec t i) ≡ 65535). omega (arith, within t h c.whole (omega arith), c.few) in
      let u : user_of (rec t i) ≡ 0 = eqb-true _ _ (rw (ne_eqb (holder_of (rec t i)) 65535 b) at ((c.own i l).entry e).user) in
      let p : peopled t h ≡ true =
      any_here (λ i. stands (in_directory h) (rec t i)) (rooms t) i l
      (stands_by (in_directory h) (rec t i) (record { kind = e; heading = q; user = u })) in
      not-both (and_both (directory (rec t h)) (peopled t h) (rw q at f) p) v

  -- an entry that stays names another heading
  names-other : (i : ℕ) → byte (rec t i) 0 ≡ 2 → gone_of t h i ≡ false → heading_named (rec t i) ≢ h
  names-other i e g q = not-both (names-by h (rec t i) e q) (or-no-right (file_of t h i) _ g)

  file-spared : Spared 65535 (gone_of t h) t
  unfolding named
  file-spared =
      record {
        holders = λ i l g e f. no-gone (holder_of (rec t i)) (typed-kind 0 (rec t (holder_of (rec t i))) f) (entries-elsewhere i l e f);
        targets = λ i l g e. no-gone (heading_named (rec t i)) (c.targets i l e) (names-other i e g);
        named = λ i l g e. inl (by i l (eqb-false i h (or-no-left (eqb i h) _ (or-no-left (file_of t h i) _ g))) (c.named i l e));
        texts = λ i l e.
            let m = text-points o t c i l e in
            rw (ne_eqb i h (kinds-apart t i h 3 1 e k (omega arith)), e, m) (alone (eqb (heading_of (rec t i)) h));
      }
    where
      alone : (b : Bool) → (b || false) ≡ (b || false || false)
      alone true = refl
      alone false = refl

      by : (i : ℕ) → i < rooms t → i ≢ h → (named t i ≡ true) ⊎ (i ≡ o) → (j : ℕ) × (j < rooms t) × (gone_of t h j ≡ false) × (names i (rec t j) ≡ true)
      by i l d (inr q) = absurd (d (only i l q))
      by i l d (inl q) =
          let w = any-true (λ j. names i (rec t j)) (rooms t) q in
          let e = names-kind i (rec t w.0) w.2 in
          let n : names h (rec t w.0) ≡ false =
          false-by _ (λ x. d (sym (names-heading i (rec t w.0) w.2) ∙ names-heading h (rec t w.0) x)) in
          (w.0, w.1, or-none (file_of t h w.0) _ (no-file w.0 2 e (omega arith) (kinds-apart t w.0 h 2 1 e k (omega arith))) n, w.2)

  -- cleared, they leave a sound table
  pub gone-sound : (f : List ℕ) → Cleared (gone_of t h) t f → Sound f
  gone-sound f d = cleared-sound o 65535 (gone_of t h) t f c d file-spared

-- a heading named by no entry, in which no entry stands: the heading cleared and its text by position, the table is sound
pub freed-sound : (t : List ℕ) (h : ℕ) → SoundBut h t → byte (rec t h) 0 ≡ 1 → named t h ≡ false → with_entries t h ≡ false → Sound (run t (freed t h))
unfolding named
freed-sound t h c k n v = gone-sound h t h c k (λ i l q. q) v (run t (freed t h)) (record { long = d.long; each = λ i l. d.each i l ∙ rw (same i l) })
  where
    d : Cleared (file_of t h) t (run t (freed t h))
    d = file-cleared h t h c k

    same : (i : ℕ) → i < rooms t → gone_of t h i ≡ file_of t h i
    same i l = rw (any_false (λ j. names h (rec t j)) (rooms t) i l n) (alone (file_of t h i))
      where
        alone : (b : Bool) → (b || false) ≡ b
        alone true = refl
        alone false = refl

-- a file destroyed: its heading, its text by position, and every entry naming it
module _ (t : List ℕ) (h : ℕ) (c : Sound t) (k : byte (rec t h) 0 ≡ 1) where
  abbrev m : List ℕ
  m = run t (freed t h)

  rooms-m : rooms m ≡ rooms t
  rooms-m = rooms-run t (freed t h)

  destroyed-is : run t (destroying t h) ≡ run m (clears (λ i. names h (rec t i)) (rooms m))
  unfolding destroying
  destroyed-is = run-append t (freed t h) (clears (λ i. names h (rec t i)) (rooms t)) ∙ rw rooms-m

  pub destroyed-cleared : Cleared (gone_of t h) t (run t (destroying t h))
  destroyed-cleared =
      record {
        long = length_run t (destroying t h);
        each = λ i l.
            rw destroyed-is
            (rec-filled m (λ j. names h (rec t j)) (λ _. blank) (λ _ _. length-blank) i (rw rooms-m l)
            ∙ rw ((file-cleared 65535 t h c k).each i l) (twice (file_of t h i) (names h (rec t i)) (rec t i)));
      }
    where
      twice : (a b : Bool) (r : List ℕ) → cond b blank (cond a blank r) ≡ cond (a || b) blank r
      twice true true r = refl
      twice true false r = refl
      twice false true r = refl
      twice false false r = refl

  pub destroyed-sound : with_entries t h ≡ false → Sound (run t (destroying t h))
  destroyed-sound v =
      gone-sound 65535 t h c k (λ i l q. let z : ⊥ = omega (arith, c.few) in absurd z) v (run t (destroying t h)) destroyed-cleared

-- a heading that some entry names needs no exception
pub named-sound : (h : ℕ) (t : List ℕ) → SoundBut h t → named t h ≡ true → Sound t
named-sound h t c n =
    record {
      whole = c.whole;
      few = c.few;
      own = c.own;
      holders = c.holders;
      targets = c.targets;
      apart = c.apart;
      named = λ i l k. inl (go i (c.named i l k));
      crowds = c.crowds;
      once = c.once;
      texts = c.texts;
    }
  where
    go : (i : ℕ) → (named t i ≡ true) ⊎ (i ≡ h) → named t i ≡ true
    go i (inl e) = e
    go i (inr e) = rw e n
