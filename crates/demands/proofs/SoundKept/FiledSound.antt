-- A table with a new file is sound, but that no entry names the file: no entry, text or heading of the table before speaks of a
-- free record, so each clause of it stays, and the file's own text is in place once at each position by the block rule.
use mathlib.Core.Bool.{true, false}
use mathlib.Core.List.{List}
use mathlib.Core.Logic.{◌⊎◌, inl, inr, ◌≢◌}
use mathlib.Core.Path.{◌≡◌, refl, sym, ap, ◌∙◌}
use Prim.Native.Nat.{ℕ, ◌+◌, ◌^◌, ◌<◌, ◌≤◌}
use native.Mathlib.Omega.{arith}
use lib.ListN.{length}
use borrow.Author.Tests.{eq-eqb, lt-ltb}
use Rattle.paper.specs.Scan.{count_below}
use Rattle.paper.specs.Record.{byte, heading_type, text_length, simple, heading_named, heading_of, text_at}
use Rattle.paper.specs.Layout.{name_of, boxed}
use Rattle.paper.specs.Table.{rooms, rec, room}
use Rattle.paper.specs.Entry.{holder, bears, named}
use Rattle.paper.specs.Block.{blocks, share, block}
use Rattle.paper.specs.Sound.{holder_there, in_place, text_in_place}
use Rattle.paper.specs.Store.{run}
use Rattle.paper.specs.Effect.{new_file}
use Rattle.laws.proofs.Tests.{and_both, false-by}
use Rattle.laws.proofs.Counts.{count-cong, count-once}
use Rattle.laws.proofs.Fields.{text-size, text-heading, text-position}
use Rattle.laws.proofs.Entries.{bears-stands, typed-by, TextAt, text-true, text-by}
use Rattle.laws.proofs.Runs.{length_run, rooms-run}
use Rattle.laws.proofs.Blocks.{length-block, share-least, share-most}
use Rattle.demands.proofs.Sound.Clauses.{Own, SoundBut, Sound, simple-by, named_by}
use Rattle.demands.proofs.Sound.Points.{holder-stays, text-points}
use Rattle.demands.proofs.SoundKept.Built.{own-text}
use Rattle.demands.proofs.SoundKept.Grown.{Grown, grown-stays, grown-entry, grown-named, grown-crowd, grown-text}
use Rattle.demands.proofs.SoundKept.Filed.{Roomy, filed, text_new, Look, new-heading, new-text, old, heading-there, text-there, look, room_in, was_free, text-kind, small, filed-grown}

-- ---- clauses that speak of entries stay in a grown table

module _ (t f : List ℕ) (c : Sound t) (g : Grown t f) where
  heading-stays : (h : ℕ) → byte (rec t h) 0 ≡ 1 → rec f h ≡ rec t h
  heading-stays h k = grown-stays t f g h c.whole (omega arith)

  pub grown-holder : (i : ℕ) (r : List ℕ) → holder_there t i r ≡ true → holder_there f i r ≡ true
  grown-holder = holder-stays t f heading-stays

  grown-holders : (i : ℕ) → i < rooms t → byte (rec f i) 0 ≡ 2 → holder_there f i (rec f i) ≡ true
  grown-holders i l k =
      let e = grown-entry t f g i l k in
      rw e (grown-holder i (rec t i) (c.holders i l (rw e at k)))

  grown-targets : (i : ℕ) → i < rooms t → byte (rec f i) 0 ≡ 2 → byte (rec f (heading_named (rec f i))) 0 ≡ 1
  grown-targets i l k =
      let e = grown-entry t f g i l k in
      let b : byte (rec t (heading_named (rec t i))) 0 ≡ 1 = c.targets i l (rw e at k) in
      rw (e, heading-stays (heading_named (rec t i)) b) b

  grown-apart : (i j : ℕ) → i < rooms t → j < rooms t → byte (rec f i) 0 ≡ 2
      → bears boxed (holder (rec f i)) (name_of boxed (rec f i)) (rec f j) ≡ true → i ≡ j
  grown-apart i j l m k b =
      let e = grown-entry t f g i l k in
      let d = grown-entry t f g j m (bears-stands (holder (rec f i)) (name_of boxed (rec f i)) (rec f j) b).kind in
      c.apart i j l m (rw e at k) (rw (e, d) at b)

-- ---- the clauses of a table with a new file

-- what is filed: a heading as above by itself, and a text as long as it says
pub record NewFile (t heading text : List ℕ) : Type 0 where
  pub laid : Roomy t heading text
  pub own : Own heading
  pub bytes : text_length heading ≡ length text
  pub short : length text ≤ 24000

module _ (t heading text : List ℕ) (c : Sound t) (n : NewFile t heading text) where
  -- no heading of t is in the file's room
  heading-elsewhere : (h : ℕ) → byte (rec t h) 0 ≡ 1 → h ≢ room t 0
  heading-elsewhere h k e = let z : byte (rec t h) 0 ≡ 0 = rw e (was_free t heading text n.laid 0 (omega arith)) in omega arith

  -- the numbers of the file's records fit two bytes
  small-room : room t 0 < 256 ^ 2
  small-room = small t heading text n.laid c.few

  small-position : (p : ℕ) → p < blocks (length text) → p < 256 ^ 2
  small-position p l = omega (arith, n.short)

  filed-own : (i : ℕ) → i < rooms t → Own (rec (filed t heading text) i)
  filed-own i l = go (look t heading text n.laid i l)
    where
      go : Look t heading text i → Own (rec (filed t heading text) i)
      go (old r) = rw r (c.own i l)
      go (new-heading e r) = rw r n.own
      go (new-text p b e r) =
          rw r (own-text (room t 0) p (block text p)
          (rw (length-block text p b) (share-least (length text) p b)) (rw (length-block text p b) (share-most (length text) p b)))

  filed-named : (i : ℕ) → i < rooms t → byte (rec (filed t heading text) i) 0 ≡ 1 → (named (filed t heading text) i ≡ true) ⊎ (i ≡ room t 0)
  filed-named i l k = go (look t heading text n.laid i l)
    where
      go : Look t heading text i → (named (filed t heading text) i ≡ true) ⊎ (i ≡ room t 0)
      go (old r) = inl (grown-named t (filed t heading text) (filed-grown t heading text n.laid c.few) i ∙ named_by t c i l (rw r at k))
      go (new-heading e r) = inr e
      go (new-text p b e r) = let z : byte (text_new t text p) 0 ≡ 1 = rw r at k in let y : ⊥ = omega (arith, text-kind t heading text n.laid p) in absurd y

  -- the text of the file is where it was laid, and nowhere else
  new-text-here : (p : ℕ) → p < blocks (length text) → text_at (room t 0) p (rec (filed t heading text) (room t (p + 1))) ≡ true
  new-text-here p l =
      rw (text-there t heading text n.laid p l)
      (text-by (room t 0) p (text_new t text p) (record {
        kind = text-kind t heading text n.laid p;
        heading = text-heading (room t 0) p (block text p) small-room;
        position = text-position (room t 0) p (block text p) (small-position p l);
      }))

  new-text-only : (p i : ℕ) → p < blocks (length text) → i < rooms t → i ≢ room t (p + 1) → text_at (room t 0) p (rec (filed t heading text) i) ≡ false
  new-text-only p i l b d = false-by _ (λ e. go (look t heading text n.laid i b) (text-true (room t 0) p (rec (filed t heading text) i) e))
    where
      go : Look t heading text i → TextAt (room t 0) p (rec (filed t heading text) i) → ⊥
      go (old r) x = let y : TextAt (room t 0) p (rec t i) = rw r at x in heading-elsewhere _ (text-points 65535 t c i b y.kind) y.heading
      go (new-heading e r) x = let z : byte heading 0 ≡ 3 = rw r at x.kind in omega (arith, n.laid.kind)
      go (new-text q m e r) x =
          let y : TextAt (room t 0) p (text_new t text q) = rw r at x in
          d (e ∙ ap (λ (k : ℕ). room t (k + 1)) (sym (text-position (room t 0) q (block text q) (small-position q m)) ∙ y.position))

  abbrev f : List ℕ
  f = filed t heading text

  filed-once : (h p : ℕ) → h < rooms t → byte (rec f h) 0 ≡ 1 → heading_type (rec f h) ≡ 1 → p < blocks (text_length (rec f h))
      → count_below (λ i. text_at h p (rec f i)) (rooms f) ≡ 1
  filed-once h p l k s b = rw (rooms-run t (new_file t heading text)) (go (look t heading text n.laid h l))
    where
      go : Look t heading text h → count_below (λ i. text_at h p (rec f i)) (rooms t) ≡ 1
      go (old r) =
          let k₀ : byte (rec t h) 0 ≡ 1 = rw r at k in
          count-cong _ (λ i. text_at h p (rec t i)) (rooms t) (grown-text t f (filed-grown t heading text n.laid c.few) h p k₀)
          ∙ c.once h p l k₀ (rw r at s) (rw r at b)
      go (new-heading e r) =
          let b₀ : p < blocks (length text) = rw (r, n.bytes) at b in
          rw e (count-once (λ i. text_at (room t 0) p (rec f i)) (rooms t) (room t (p + 1)) (room_in t heading text n.laid (p + 1) (omega arith))
          (new-text-here p b₀) (λ i m d. new-text-only p i b₀ m d))
      go (new-text q m e r) = let z : byte (text_new t text q) 0 ≡ 1 = rw r at k in let y : ⊥ = omega (arith, text-kind t heading text n.laid q) in absurd y

  -- a file with text is simple, since a directory has none
  filed-simple : (p : ℕ) → p < blocks (length text) → simple heading ≡ true
  filed-simple p l =
      typed-by 1 heading n.laid.kind (simple-by heading (n.own.heading n.laid.kind) p (rw n.bytes l))

  filed-in-place : (p : ℕ) → p < blocks (length text) → in_place heading (text_new t text p) ≡ true
  filed-in-place p l =
      rw (n.bytes, text-position (room t 0) p (block text p) (small-position p l), text-size (room t 0) p (block text p), length-block text p l)
      (and_both (simple heading) _ (filed-simple p l) (and_both _ _ (lt-ltb p (blocks (length text)) l) (eq-eqb (share (length text) p) _ refl)))

  filed-texts : (i : ℕ) → i < rooms t → byte (rec f i) 0 ≡ 3 → text_in_place f i (rec f i) ≡ true
  filed-texts i l k = go (look t heading text n.laid i l)
    where
      go : Look t heading text i → text_in_place f i (rec f i) ≡ true
      go (old r) =
          let k₀ : byte (rec t i) 0 ≡ 3 = rw r at k in
          let o : byte (rec t (heading_of (rec t i))) 0 ≡ 1 = text-points 65535 t c i l k₀ in
          rw (r, grown-stays t f (filed-grown t heading text n.laid c.few) (heading_of (rec t i)) c.whole (omega arith)) (c.texts i l k₀)
      go (new-heading e r) = let z : byte heading 0 ≡ 3 = rw r at k in let y : ⊥ = omega (arith, n.laid.kind) in absurd y
      go (new-text p b e r) =
          rw (r, text-heading (room t 0) p (block text p) small-room, heading-there t heading text n.laid) (filed-in-place p b)

  -- the table with the file is sound, but that no entry names it
  pub filed-sound : SoundBut (room t 0) (run t (new_file t heading text))
  filed-sound =
      let m : rooms f ≡ rooms t = rooms-run t (new_file t heading text) in
      let g : Grown t f = filed-grown t heading text n.laid c.few in
      record {
        whole = rw length_run c.whole;
        few = rw m c.few;
        own = λ i l. filed-own i (rw m at l);
        holders = λ i l. grown-holders t f c g i (rw m at l);
        targets = λ i l. grown-targets t f c g i (rw m at l);
        apart = λ i j l k. grown-apart t f c g i j (rw m at l) (rw m at k);
        named = λ i l. filed-named i (rw m at l);
        crowds = λ d. rw (grown-crowd t f g d) (c.crowds d);
        once = λ h p l. filed-once h p (rw m at l);
        texts = λ i l. filed-texts i (rw m at l);
      }
