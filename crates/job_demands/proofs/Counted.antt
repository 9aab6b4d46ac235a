-- A sheet filed is filed whatever the counts of the headings are: entries and text are no headings, and of a heading only the bytes before
-- its counts are read.
use mathlib.Core.Bool.{false}
use mathlib.Core.List.{List}
use mathlib.Core.Path.{◌≡◌, refl, sym, ◌∙◌}
use Prim.Native.Nat.{ℕ, ◌+◌, ◌<◌}
use native.Mathlib.Omega.{arith}
use lib.ListN.{length}
use lib.Dec.{eqb}
use borrow.Author.Tests.{ne_eqb}
use Rattle.paper.specs.Scan.{Found, at, nowhere, first_below}
use Rattle.paper.specs.Record.{byte, heading_named, heading_of, text_at, held}
use Rattle.paper.specs.Table.{rooms, rec, place, text_room}
use Rattle.paper.specs.Entry.{Holder}
use Rattle.paper.specs.Block.{blocks_of, file_text}
use Rattle.paper.specs.Walk.{applies}
use Rattle.laws.proofs.Scans.{first_cong}
use Rattle.laws.proofs.Lists.{join-cong}
use Rattle.laws.proofs.Entries.{bears-stands, typed-kind}
use Rattle.demands.proofs.Sound.Clauses.{Sound}
use Rattle.demands.proofs.SoundKept.Freed.{text-found}
use Rattle.demands.proofs.SoundKept.Counted.{EachAlike}
use Rattle.demands.proofs.Mending.Part.{Alike, equal, counts}
use Rattle.demands.proofs.Mending.Counts.{alike-trans, alike-kind, alike-byte, alike_same, alike-past, but-kind}
use Rattle.job_demands.proofs.Kept.{Filed, alike-length, alike-simple, alike-marked}

-- a text record is the same, and no heading is one
alike-text : (h p : ℕ) (x r : List ℕ) → Alike x r → text_at h p r ≡ text_at h p x
alike-text h p x r (equal e) = rw e
alike-text h p x r (counts b) = rw (but-kind x r b, b.kind)

module _ (t f v : List ℕ) (d : Holder) (n text : List ℕ) (s : Sound f) (long : length v ≡ length f) (each : EachAlike f v) (x : Filed t f d n text) where
  all : (i : ℕ) → Alike (rec f i) (rec v i)
  all = alike-past f v s.whole long each

  -- what is no heading is the same
  same : (i k : ℕ) → byte (rec f i) 0 ≡ k + 2 → rec v i ≡ rec f i
  same i k q = alike_same (rec f i) (rec v i) (all i) (no-heading (byte (rec f i) 0) (omega arith))
    where
      no-heading : (m : ℕ) → 1 < m → eqb m 1 ≡ false
      no-heading m l = ne_eqb m 1 (λ (z : m ≡ 1). omega arith)

  kind : (i : ℕ) → byte (rec v i) 0 ≡ byte (rec f i) 0
  kind i = alike-kind (rec f i) (rec v i) (all i)

  -- the heading that the new entry names
  abbrev h : ℕ
  h = heading_named (rec f x.entry)

  same-e : rec v x.entry ≡ rec f x.entry
  same-e = same x.entry 0 (bears-stands d n (rec f x.entry) x.bears).kind

  heading : byte (rec f h) 0 ≡ 1
  heading = typed-kind 1 (rec f h) x.simple

  -- the text, position by position
  module _ (g : ℕ) (k : byte (rec f g) 0 ≡ 1) where
    room-same : (p : ℕ) → text_room v g p ≡ text_room f g p
    unfolding text_room
    room-same p =
        let q : first_below (λ i. text_at g p (rec v i)) (rooms f) ≡ first_below (λ i. text_at g p (rec f i)) (rooms f) =
        first_cong _ _ (rooms f) (λ i _. alike-text g p (rec f i) (rec v i) (all i)) in
        rw (long, q) (placed (first_below (λ i. text_at g p (rec f i)) (rooms f)))
      where
        placed : (y : Found) → place v y ≡ place f y
        placed (at i) = refl
        placed nowhere = rw long

    text_same : file_text v g ≡ file_text f g
    unfolding file_text
    text_same =
        rw (alike-length (rec f g) (rec v g) (all g))
        (join-cong (λ p. held (rec v (text_room v g p))) (λ p. held (rec f (text_room f g p))) (blocks_of f g) (λ p b.
        rw (room-same p, same (text_room f g p) 1 (text-found 65535 f g s k p b).1.kind)))

  pub filed-alike : Filed t v d n text
  unfolding applies
  filed-alike =
      record {
        long = long ∙ x.long;
        entry = x.entry;
        inside = x.inside;
        was = x.was;
        entries = λ i k a. let q = x.entries i k a in same i 0 (rw q k) ∙ q;
        headings = λ i k z. alike-trans (rec t i) (rec f i) (rec v i) (x.headings i k (sym (kind i) ∙ z)) (all i);
        texts = λ i k z. let q = x.texts i k (sym (kind (heading_of (rec t i))) ∙ z) in same i 1 (rw q k) ∙ q;
        bears = rw same-e x.bears;
        code = rw (same-e, alike-byte (rec f h) (rec v h) (all h) 3 (omega arith)) x.code;
        simple = rw (same-e, alike-simple (rec f h) (rec v h) (all h)) x.simple;
        unmarked = rw (same-e, alike-marked (rec f h) (rec v h) (all h)) x.unmarked;
        reads = rw (same-e, text_same h heading) x.reads;
      }
