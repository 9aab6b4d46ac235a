-- A file rewritten: emptied, its new text laid on the lowest records then free, each at its position, and the heading unmarked.
-- The rooms differ and were free, so each text record is there once and every other record stays; by the block rule it is in place.
use mathlib.Core.Bool.{true}
use mathlib.Core.List.{List, [], ◌∷◌, ◌++◌}
use mathlib.Core.Logic.{◌⊎◌, inl, inr, ◌≢◌, by_cases}
use mathlib.Core.Path.{◌≡◌, refl, sym, ap, ◌∙◌, subst}
use Prim.Native.Nat.{ℕ, ◌+◌, ◌^◌, ◌≤◌, ◌<◌}
use native.Mathlib.Omega.{arith}
use native.Mathlib.Decide.{ℕ_discrete}
use lib.ListN.{length}
use lib.Dec.{ltb}
use borrow.Author.Tests.{eq-eqb, lt-ltb, ltb-true}
use Rattle.paper.specs.Scan.{count_below}
use Rattle.paper.specs.Record.{byte, text_length, simple, heading_of, position, text_at, rewritten, text_record, blank}
use Rattle.paper.specs.Table.{rooms, rec, lay, frees, room}
use Rattle.paper.specs.Block.{blocks, share, block, blocks_of}
use Rattle.paper.specs.Sound.{in_place, text_in_place}
use Rattle.paper.specs.Store.{puts, run}
use Rattle.paper.specs.Effect.{emptying, emptied, laying, rewriting}
use Rattle.laws.proofs.Tests.{and_left, and_right, and_both, false-by}
use Rattle.laws.proofs.Lists.{Every, every-each}
use Rattle.laws.proofs.Counts.{count-once}
use Rattle.laws.proofs.Fields.{text-record-kind, length-text, text-size, text-heading, text-position}
use Rattle.laws.proofs.Rewritten.{length-rewritten}
use Rattle.laws.proofs.Entries.{typed-by, TextAt, text-true, text-by}
use Rattle.laws.proofs.Lay.{lay-same, lay-other, length-lay, length-rec}
use Rattle.laws.proofs.Runs.{Lays, run-each, run-append, length_run, rooms-run, each-there}
use Rattle.laws.proofs.Rooms.{room-below, room-kind, room_apart, free-blank}
use Rattle.laws.proofs.Blocks.{length-block, block-most, share-least, share-most}
use Rattle.demands.proofs.Sound.Clauses.{Own, Sound}
use Rattle.demands.proofs.SoundKept.Built.{own-text}
use Rattle.demands.proofs.SoundKept.Emptied.{Medium, in-h, size-h, head-kind, head-type, head-length, head-own, emptied-heading, emptied-sound, emptied-frees}
use Rattle.demands.proofs.SoundKept.Retexted.{Mine, none, some, Retexted, retexted-sound}

-- a file that is to be rewritten, and a text that there is room for
pub record Rewrite (t : List ℕ) (h : ℕ) (text : List ℕ) : Type 0 where
  pub file : Medium t h
  pub short : length text ≤ 24000
  pub room : blocks (length text) ≤ length (frees t) + blocks_of t h

module _ (t : List ℕ) (h : ℕ) (text : List ℕ) (c : Sound t) (w : Rewrite t h text) where
  -- the table with the file marked and empty; with its new text too; and with its heading unmarked
  abbrev pub e : List ℕ
  e = emptied t h

  abbrev pub b : List ℕ
  b = run e (laying e h text)

  abbrev pub last : List ℕ
  last = rewritten (rec t h) 0 (length text)

  abbrev pub f : List ℕ
  f = run t (rewriting t h text)

  abbrev pub text_new : ℕ → List ℕ
  text_new p = text_record h p (block text p)

  pub rewriting-is : f ≡ lay b h last
  unfolding rewriting run
  rewriting-is = run-append t (emptying t h ++ laying e h text) (puts h last ∷ []) ∙ rw (run-append t (emptying t h) (laying e h text))

  sound-e : Sound e
  sound-e = emptied-sound t h c w.file

  enough : (p : ℕ) → p < blocks (length text) → p < length (frees e)
  enough p l = omega (arith, w.room, emptied-frees t h c w.file)

  rooms-e : rooms e ≡ rooms t
  rooms-e = rooms-run t (emptying t h)

  -- ---- where the text is laid

  pub room_in : (p : ℕ) → p < blocks (length text) → room e p < rooms t
  room_in p l = subst (λ (n : ℕ). room e p < n) rooms-e (room-below e p (enough p l))

  pub room-free : (p : ℕ) → p < blocks (length text) → rec e (room e p) ≡ blank
  room-free p l =
      let i = room-below e p (enough p l) in
      free-blank (rec e (room e p)) (length-rec e (room e p) i) ((sound-e.own (room e p) i).free (room-kind e p (enough p l)))

  heading-e : byte (rec e h) 0 ≡ 1
  heading-e = rw (emptied-heading t h c w.file) (head-kind t h c w.file 1 0 (omega arith))

  pub room-not : (p : ℕ) → p < blocks (length text) → room e p ≢ h
  room-not p l q = let z : byte (rec e h) 0 ≡ 0 = rw q at (room-kind e p (enough p l)) in omega (arith, heading-e)

  text-fits : (p : ℕ) → length (text_new p) ≡ 32
  text-fits p = length-text h p (block text p) (block-most text p)

  text-there : (p : ℕ) → p < blocks (length text) → rec b (room e p) ≡ text_new p
  unfolding laying
  text-there =
      each-there e (λ p. room e p) text_new (blocks (length text)) (λ p l. room-below e p (enough p l)) (λ p _. text-fits p)
      (λ p q x y z. room_apart e p q (enough p x) (enough q y) z)

  abbrev Laid : ℕ → List ℕ → Type 0
  Laid i r = (p : ℕ) × (p < blocks (length text)) × (i ≡ room e p) × (r ≡ text_new p)

  each_laid : Every (Lays Laid (rooms e)) (laying e h text)
  unfolding laying
  each_laid = every-each _ _ (blocks (length text)) (λ p l. record { within = room-below e p (enough p l); size = text-fits p; holds = (p, l, refl, refl) })

  -- the records of the table after: the heading, the text, and those of the table with the file empty
  pub data Look (i : ℕ) : Type 0 where
    heading : i ≡ h → rec f i ≡ last → Look i
    body : (p : ℕ) → p < blocks (length text) → i ≡ room e p → rec f i ≡ text_new p → Look i
    old : i ≢ h → rec f i ≡ rec e i → Look i

  size-last : length last ≡ 32
  size-last = length-rewritten (rec t h) 0 (length text) (size-h t h c w.file)

  rooms-b : rooms b ≡ rooms t
  rooms-b = rooms-run e (laying e h text) ∙ rooms-e

  pub heading-there : rec f h ≡ last
  heading-there = rw rewriting-is (lay-same b h last size-last (rw rooms-b (in-h t h c w.file)))

  apart-h : (i : ℕ) → i < rooms t → i ≢ h → rec f i ≡ rec b i
  apart-h i l d = rw rewriting-is (lay-other b h last i size-last d (rw rooms-b l))

  pub text-laid : (p : ℕ) → p < blocks (length text) → rec f (room e p) ≡ text_new p
  text-laid p l = apart-h (room e p) (room_in p l) (room-not p l) ∙ text-there p l

  pub look : (i : ℕ) → i < rooms t → Look i
  look i l =
      by_cases (ℕ_discrete i h) (λ (q : i ≡ h). heading q (rw q heading-there))
      (λ (d : i ≢ h). go d (run-each Laid e (laying e h text) each_laid i (rw rooms-e l)))
    where
      go : i ≢ h → (rec b i ≡ rec e i) ⊎ Laid i (rec b i) → Look i
      go d (inl q) = old d (apart-h i l d ∙ q)
      go d (inr (p, m, q, r)) = body p m q (apart-h i l d ∙ r)

  -- ---- the table after is sound

  small : h < 256 ^ 2
  small = omega (arith, in-h t h c w.file, c.few)

  small-position : (p : ℕ) → p < blocks (length text) → p < 256 ^ 2
  small-position p l = omega (arith, w.short)

  pub last-kind : byte last 0 ≡ 1
  last-kind = head-kind t h c w.file 0 (length text) w.short

  pub last-length : text_length last ≡ length text
  last-length = head-length t h c w.file 0 (length text) w.short

  -- the empty file has no text
  pub no_text : (i : ℕ) → i < rooms t → byte (rec e i) 0 ≡ 3 → heading_of (rec e i) ≡ h → ⊥
  no_text i l k q =
      let z : text_in_place e i (rec e i) ≡ true = sound-e.texts i (rw rooms-e l) k in
      let x : in_place (rec e h) (rec e i) ≡ true = rw q at z in
      let y : position (rec e i) < blocks (text_length (rec e h)) =
      ltb-true _ _ (and_left (ltb (position (rec e i)) (blocks (text_length (rec e h)))) _ (and_right (simple (rec e h)) _ x)) in
      let n : text_length (rec e h) ≡ 0 = rw (emptied-heading t h c w.file) (head-length t h c w.file 1 0 (omega arith)) in
      omega arith

  pub text_at_lem : (p : ℕ) → p < blocks (length text) → TextAt h p (text_new p)
  text_at_lem p l =
      record {
        kind = text-record-kind h p (block text p);
        heading = text-heading h p (block text p) small;
        position = text-position h p (block text p) (small-position p l);
      }

  pub once-there : (p : ℕ) → p < blocks (length text) → count_below (λ i. text_at h p (rec f i)) (rooms t) ≡ 1
  once-there p l =
      count-once (λ i. text_at h p (rec f i)) (rooms t) (room e p) (room_in p l) (rw (text-laid p l) (text-by h p (text_new p) (text_at_lem p l)))
      (λ i m d. false-by _ (λ x. only i d m (look i m) (text-true h p (rec f i) x)))
    where
      only : (i : ℕ) → i ≢ room e p → i < rooms t → Look i → TextAt h p (rec f i) → ⊥
      only i d m (heading q r) x = let z : byte last 0 ≡ 3 = rw r at x.kind in omega (arith, last-kind)
      only i d m (body n k q r) x =
          let y : TextAt h p (text_new n) = rw r at x in
          d (q ∙ ap (λ (j : ℕ). room e j) (sym (text_at_lem n k).position ∙ y.position))
      only i d m (old o r) x = no_text i m (rw r at x.kind) (rw r at x.heading)

  in_place_lem : (p : ℕ) → p < blocks (length text) → in_place last (text_new p) ≡ true
  in_place_lem p l =
      and_both (simple last) _
      (typed-by 1 last last-kind (head-type t h c w.file 0 (length text) w.short))
      (rw (last-length, (text_at_lem p l).position, text-size h p (block text p), length-block text p l) (and_both (ltb p (blocks (length text))) _ (lt-ltb _ _ l)
      (eq-eqb (share (length text) p) (share (length text) p) refl)))

  pub refilled : Retexted e f h
  refilled =
      record {
        long = rw rewriting-is (length-lay b h last ∙ length_run e (laying e h text));
        heading = heading-e;
        again = rw heading-there last-kind;
        type =
            rw (heading-there, emptied-heading t h c w.file)
            (head-type t h c w.file 0 (length text) w.short ∙ sym (head-type t h c w.file 1 0 (omega arith)));
        each = λ i l d. each i d (look i (rw rooms-e at l));
        own = λ i l. own i l (look i (rw rooms-e at l));
        once = λ p l. rw rooms-e (once-there p (rw (heading-there, last-length) at l));
        texts = λ i l k q. rw heading-there (texts i (rw rooms-e at l) k q (look i (rw rooms-e at l)));
      }
    where
      each : (i : ℕ) → i ≢ h → Look i → (rec f i ≡ rec e i) ⊎ (Mine h (rec e i) × Mine h (rec f i))
      each i d (heading q r) = absurd (d q)
      each i d (body p l q r) = inr (none (rw q (room-free p l)), some (rw r (text_at_lem p l).kind) (rw r (text_at_lem p l).heading))
      each i d (old o r) = inl r

      own : (i : ℕ) → i < rooms e → Look i → Own (rec f i)
      own i l (heading q r) = rw r (head-own t h c w.file 0 (length text) w.short (inl refl))
      own i l (body p m q r) =
          rw r (own-text h p (block text p)
          (rw (length-block text p m) (share-least (length text) p m)) (rw (length-block text p m) (share-most (length text) p m)))
      own i l (old o r) = rw r (sound-e.own i l)

      texts : (i : ℕ) → i < rooms t → byte (rec f i) 0 ≡ 3 → heading_of (rec f i) ≡ h → Look i → in_place last (rec f i) ≡ true
      texts i l k q (heading x r) = let z : byte last 0 ≡ 3 = rw r at k in let y : ⊥ = omega (arith, last-kind) in absurd y
      texts i l k q (body p m x r) = rw r (in_place_lem p m)
      texts i l k q (old o r) = absurd (no_text i l (rw r at k) (rw r at q))

  pub refilled-sound : Sound f
  refilled-sound = retexted-sound e f h sound-e refilled
