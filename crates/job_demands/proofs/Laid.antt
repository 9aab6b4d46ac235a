-- A new file and its entry in the table, and the displaced file cleared if no entry names it now: each record is what was laid there,
-- as it was, or cleared. The new file's text is found by position, each block once, and the blocks joined are the text.
use mathlib.Core.Bool.{true, false}
use mathlib.Core.List.{List}
use mathlib.Core.Logic.{◌⊎◌, inl, inr, ◌≢◌, by_cases}
use mathlib.Core.Path.{◌≡◌, refl, sym, ap, ◌∙◌}
use Prim.Native.Nat.{ℕ, ◌+◌, ◌^◌, ◌≤◌, ◌<◌}
use native.Mathlib.Omega.{arith}
use native.Mathlib.Decide.{ℕ_discrete}
use lib.ListN.{length}
use lib.Dec.{eqb}
use borrow.Author.Tests.{eq-eqb, ne_eqb}
use Rattle.paper.specs.Record.{byte, is_kind, heading_type, entry_code, heading_named, heading_of, held, blank, heading_record}
use Rattle.paper.specs.Layout.{name_of, boxed}
use Rattle.paper.specs.Table.{rooms, rec, lay, room, text_room}
use Rattle.paper.specs.Entry.{Holder, holder, bears}
use Rattle.paper.specs.Block.{blocks, block, blocks_of, file_text}
use Rattle.paper.specs.Walk.{applies}
use Rattle.laws.proofs.Tests.{and-no-left, and-no-right, or-none}
use Rattle.laws.proofs.Lists.{join-cong}
use Rattle.laws.proofs.Fields.{heading-type, heading-code, heading-mark, text-heading, text-position, text-held}
use Rattle.laws.proofs.Blocks.{join-blocks}
use Rattle.laws.proofs.Entries.{bears-by, bears-stands, typed-by, text-by}
use Rattle.laws.proofs.Lay.{lay-same, lay-other, length-lay, rooms-lay, within, kinds-apart}
use Rattle.demands.proofs.Sound.Clauses.{Sound}
use Rattle.demands.proofs.SoundKept.Grown.{Grown, grown-stays}
use Rattle.demands.proofs.SoundKept.Filed.{filed, text_new, heading-there, text-there, was_free, text-kind, small, room_in, filed-grown}
use Rattle.demands.proofs.SoundKept.FiledSound.{NewFile}
use Rattle.demands.proofs.SoundKept.Cleared.{Cleared}
use Rattle.demands.proofs.SoundKept.Freed.{room-only, text_of, file_of}
use Rattle.demands.proofs.Mending.Part.{equal}
use Rattle.job_demands.proofs.Kept.{Filed}

-- nothing more is cleared, or heading h of t and its text are
abbrev pub Tidied : List ℕ → ℕ → List ℕ → List ℕ → Type 0
Tidied t h a f = (f ≡ a) ⊎ ((byte (rec t h) 0 ≡ 1) × Cleared (file_of a h) a f)

-- the sheet's heading
abbrev pub sheet_heading : List ℕ → List ℕ
sheet_heading text = heading_record 1 0 0 1 (length text)

-- the sheet's heading and text are laid in t, then the entry r at e, which stands in d and bears the name n; f is what comes of it
pub record Laying (t text : List ℕ) (d : Holder) (n r : List ℕ) (e h : ℕ) (f : List ℕ) : Type 0 where
  pub new : NewFile t (sheet_heading text) text
  pub size : length r ≡ 32
  pub kind : byte r 0 ≡ 2
  pub code : entry_code r ≡ 0
  pub place : holder r ≡ d
  pub name : name_of boxed r ≡ n
  pub names : heading_named r ≡ room t 0
  pub inside : e < rooms t
  pub was : (byte (rec t e) 0 ≡ 0) ⊎ (bears boxed d n (rec t e) ≡ true)
  pub apart : (m : ℕ) → m ≤ blocks (length text) → room t m ≢ e
  pub tidied : Tidied t h (lay (filed t (sheet_heading text) text) e r) f

module _ (t text : List ℕ) (d : Holder) (n r : List ℕ) (e h : ℕ) (f : List ℕ) (c : Sound t) (s : Sound f) (y : Laying t text d n r e h f) where
  abbrev g : List ℕ
  g = filed t (sheet_heading text) text

  abbrev a : List ℕ
  a = lay g e r

  g-grown : Grown t g
  g-grown = filed-grown t (sheet_heading text) text y.new.laid c.few

  rooms-g : rooms g ≡ rooms t
  rooms-g = rw g-grown.long

  long : length f ≡ length t
  long = go y.tidied
    where
      go : Tidied t h a f → length f ≡ length t
      go (inl q) = rw q (length-lay g e r ∙ g-grown.long)
      go (inr q) = q.1.long ∙ length-lay g e r ∙ g-grown.long

  -- the record at e was free or an entry
  no-file : (i k : ℕ) → byte (rec t i) 0 ≡ k → k ≢ 0 → k ≢ 2 → i ≢ e
  no-file i k q x z w = go y.was
    where
      go : (byte (rec t e) 0 ≡ 0) ⊎ (bears boxed d n (rec t e) ≡ true) → ⊥
      go (inl o) = x (sym q ∙ ap (λ (j : ℕ). byte (rec t j) 0) w ∙ o)
      go (inr o) = z (sym q ∙ ap (λ (j : ℕ). byte (rec t j) 0) w ∙ (bears-stands d n (rec t e) o).kind)

  -- what is not free and not at e is as it was, once the entry is laid
  laid_same : (i : ℕ) → byte (rec t i) 0 ≢ 0 → i ≢ e → rec a i ≡ rec t i
  laid_same i k q =
      let l : i < rooms g = rw rooms-g (within t i c.whole k) in
      lay-other g e r i y.size q l ∙ grown-stays t g g-grown i c.whole k

  -- what is neither the heading cleared nor its text is as it was laid
  spared : (i : ℕ) → i < rooms t → (byte (rec t h) 0 ≡ 1 → i ≢ h) → (byte (rec t h) 0 ≡ 1 → text_of h (rec a i) ≡ false) → rec f i ≡ rec a i
  spared i l x z = go y.tidied
    where
      go : Tidied t h a f → rec f i ≡ rec a i
      go (inl q) = rw q
      go (inr q) =
          let b : i < rooms a = rw (rooms-lay g e r, rooms-g) l in
          q.1.each i b ∙ rw (or-none (eqb i h) (text_of h (rec a i)) (ne_eqb i h (x q.0)) (z q.0))

  no_text : (q : List ℕ) (k : ℕ) → byte q 0 ≡ k → k ≢ 3 → text_of h q ≡ false
  no_text q k x z = and-no-left (is_kind 3 q) _ (ne_eqb _ _ (λ w. z (sym x ∙ w)))

  entries : (i : ℕ) → byte (rec t i) 0 ≡ 2 → i ≢ e → rec f i ≡ rec t i
  entries i k q =
      let z : rec a i ≡ rec t i = laid_same i (omega arith) q in
      spared i (within t i c.whole (omega arith)) (λ w. kinds-apart t i h 2 1 k w (omega arith)) (λ _. no_text (rec a i) 2 (rw z k) (omega arith)) ∙ z

  -- the heading cleared is no heading
  gone : (byte (rec t h) 0 ≡ 1) × Cleared (file_of a h) a f → byte (rec f h) 0 ≡ 1 → ⊥
  unfolding blank
  gone q k =
      let b : h < rooms a = rw (rooms-lay g e r, rooms-g) (within t h c.whole (omega (arith, q.0))) in
      let z : rec f h ≡ blank = q.1.each h b ∙ rw (eq-eqb h h refl) in
      let w : ◌≡◌ {A = ℕ} 0 1 = rw z at k in
      omega arith

  headings : (i : ℕ) → byte (rec t i) 0 ≡ 1 → byte (rec f i) 0 ≡ 1 → rec f i ≡ rec t i
  headings i k x = go y.tidied
    where
      z : rec a i ≡ rec t i
      z = laid_same i (omega arith) (no-file i 1 k (omega arith) (omega arith))

      go : Tidied t h a f → rec f i ≡ rec t i
      go (inl q) = rw q z
      go (inr q) =
          by_cases (ℕ_discrete i h) (λ (w : i ≡ h). absurd (gone q (rw w at x)))
          (λ (w : i ≢ h). spared i (within t i c.whole (omega arith)) (λ _. w) (λ _. no_text (rec a i) 1 (rw z k) (omega arith)) ∙ z)

  texts : (i : ℕ) → byte (rec t i) 0 ≡ 3 → byte (rec f (heading_of (rec t i))) 0 ≡ 1 → rec f i ≡ rec t i
  texts i k x = go y.tidied
    where
      z : rec a i ≡ rec t i
      z = laid_same i (omega arith) (no-file i 3 k (omega arith) (omega arith))

      go : Tidied t h a f → rec f i ≡ rec t i
      go (inl q) = rw q z
      go (inr q) =
          by_cases (ℕ_discrete (heading_of (rec t i)) h) (λ (w : heading_of (rec t i) ≡ h). absurd (gone q (rw w at x)))
          (λ (w : heading_of (rec t i) ≢ h).
          spared i (within t i c.whole (omega arith)) (λ p. kinds-apart t i h 3 1 k p (omega arith))
          (λ _. rw z (and-no-right (is_kind 3 (rec t i)) _ (ne_eqb _ _ w))) ∙ z)

  -- ---- the new entry and the new file

  entry-there : rec f e ≡ r
  entry-there =
      let z : rec a e ≡ r = lay-same g e r y.size (rw rooms-g y.inside) in
      spared e y.inside (λ w q. no-file h 1 w (omega arith) (omega arith) (sym q)) (λ _. no_text (rec a e) 2 (rw z y.kind) (omega arith)) ∙ z

  -- no room of the new file is the heading cleared
  room_apart : (m : ℕ) → m ≤ blocks (length text) → byte (rec t h) 0 ≡ 1 → room t m ≢ h
  room_apart m b k = kinds-apart t (room t m) h 0 1 (was_free t (sheet_heading text) text y.new.laid m b) k (omega arith)

  room-laid : (m : ℕ) (q : List ℕ) → m ≤ blocks (length text) → rec g (room t m) ≡ q → (byte (rec t h) 0 ≡ 1 → text_of h q ≡ false)
      → rec f (room t m) ≡ q
  room-laid m q b x z =
      let l : room t m < rooms t = room_in t (sheet_heading text) text y.new.laid m b in
      let w : rec a (room t m) ≡ q = lay-other g e r (room t m) y.size (y.apart m b) (rw rooms-g l) ∙ x in
      spared (room t m) l (room_apart m b) (rw w z) ∙ w

  new-heading : rec f (room t 0) ≡ sheet_heading text
  new-heading =
      room-laid 0 (sheet_heading text) (omega arith) (heading-there t (sheet_heading text) text y.new.laid)
      (λ _. no_text (sheet_heading text) 1 y.new.laid.kind (omega arith))

  small-room : room t 0 < 256 ^ 2
  small-room = small t (sheet_heading text) text y.new.laid c.few

  new-text : (p : ℕ) → p < blocks (length text) → rec f (room t (p + 1)) ≡ text_new t text p
  new-text p b =
      room-laid (p + 1) (text_new t text p) (omega arith) (text-there t (sheet_heading text) text y.new.laid p b)
      (λ k. and-no-right (is_kind 3 (text_new t text p)) _
      (ne_eqb _ _ (λ w. room_apart 0 (omega arith) k (sym (text-heading (room t 0) p (block text p) small-room) ∙ w))))

  new-block : (p : ℕ) → p < blocks (length text) → held (rec f (text_room f (room t 0) p)) ≡ block text p
  new-block p b =
      let k : byte (rec f (room t 0)) 0 ≡ 1 = rw new-heading y.new.laid.kind in
      let o : heading_type (rec f (room t 0)) ≡ 1 = rw new-heading (heading-type 1 0 0 1 (length text)) in
      let m : p < blocks_of f (room t 0) = rw (new-heading, y.new.bytes) b in
      let l : room t (p + 1) < rooms t = room_in t (sheet_heading text) text y.new.laid (p + 1) (omega arith) in
      let z : text_room f (room t 0) p ≡ room t (p + 1) =
      room-only f (room t 0) p (s.once (room t 0) p (within f (room t 0) s.whole (omega arith)) k o m) (room t (p + 1)) (rw long l)
      (rw (new-text p b) (text-by (room t 0) p (text_new t text p) (record {
        kind = text-kind t (sheet_heading text) text y.new.laid p;
        heading = text-heading (room t 0) p (block text p) small-room;
        position = text-position (room t 0) p (block text p) (omega (arith, y.new.short));
      }))) in
      rw (z, new-text p b) (text-held (room t 0) p (block text p))

  reads : file_text f (room t 0) ≡ text
  unfolding file_text
  reads =
      rw (new-heading, y.new.bytes)
      (join-cong (λ p. held (rec f (text_room f (room t 0) p))) (block text) (blocks (length text)) new-block ∙ join-blocks text)

  pub laid-filed : Filed t f d n text
  unfolding applies
  laid-filed =
      record {
        long = long;
        entry = e;
        inside = y.inside;
        was = y.was;
        entries = entries;
        headings = λ i k z. equal (headings i k z);
        texts = texts;
        bears =
            rw entry-there
            (bears-by d n r (record { kind = y.kind; heading = ap (λ (x : Holder). x.heading) y.place; user = ap (λ (x : Holder). x.user) y.place })
            (sym y.name));
        code = rw (entry-there, y.names, new-heading, y.code, heading-code 1 0 0 1 (length text));
        simple = rw (entry-there, y.names, new-heading) (typed-by 1 (sheet_heading text) y.new.laid.kind (heading-type 1 0 0 1 (length text)));
        unmarked = rw (entry-there, y.names, new-heading, heading-mark 1 0 0 1 (length text));
        reads = rw (entry-there, y.names) reads;
      }
