-- A sheet filed changes free records, the one entry of its name, and the file that this displaced, if no entry names it now; and
-- counts. So every other entry, the heading it names but for its counts and that heading's text stay; names stand once, so each is found where it was.
use mathlib.Core.Bool.{true, false}
use mathlib.Core.List.{List}
use mathlib.Core.Logic.{◌⊎◌, inl, inr, ◌≢◌}
use mathlib.Core.Path.{◌≡◌, sym, ap, ◌∙◌}
use Prim.Native.Nat.{ℕ, ◌+◌, ◌<◌}
use native.Mathlib.Omega.{arith}
use lib.ListN.{length}
use Rattle.paper.specs.Scan.{at}
use Rattle.paper.specs.Record.{byte, marked, simple, text_length, heading_named, heading_of, held}
use Rattle.paper.specs.Layout.{name_of, boxed}
use Rattle.paper.specs.Table.{rooms, rec, text_room}
use Rattle.paper.specs.Entry.{Holder, bears, find}
use Rattle.paper.specs.Block.{blocks_of, file_text}
use Rattle.paper.specs.Walk.{applies}
use Rattle.laws.proofs.Tests.{false-by}
use Rattle.laws.proofs.Numbers.{number-cong}
use Rattle.laws.proofs.Scans.{first-here, any_none}
use Rattle.laws.proofs.Lists.{join-cong}
use Rattle.laws.proofs.Entries.{bears-stands, bears-name, bears-both, found-bears, text-by}
use Rattle.laws.proofs.Lay.{within}
use Rattle.demands.proofs.Sound.Clauses.{SoundBut, Sound, simple-by}
use Rattle.demands.proofs.SoundKept.Freed.{room-only, text-found}
use Rattle.demands.proofs.Mending.Part.{Alike}
use Rattle.demands.proofs.Mending.Counts.{alike-kind, alike-byte}

-- f is t with one sheet filed: in d, under the name n, with this text
pub record Filed (t f : List ℕ) (d : Holder) (n text : List ℕ) : Type 0 where
  pub long : length f ≡ length t
  pub entry : ℕ
  pub inside : entry < rooms t
  pub was : (byte (rec t entry) 0 ≡ 0) ⊎ (bears boxed d n (rec t entry) ≡ true)
  -- every other entry stays; so does a heading that is still one, but for its counts, and its text
  pub entries : (i : ℕ) → byte (rec t i) 0 ≡ 2 → i ≢ entry → rec f i ≡ rec t i
  pub headings : (h : ℕ) → byte (rec t h) 0 ≡ 1 → byte (rec f h) 0 ≡ 1 → Alike (rec t h) (rec f h)
  pub texts : (i : ℕ) → byte (rec t i) 0 ≡ 3 → byte (rec f (heading_of (rec t i))) 0 ≡ 1 → rec f i ≡ rec t i
  -- the new entry, and the simple file that it names
  pub bears : bears boxed d n (rec f entry) ≡ true
  pub code : applies f entry ≡ 0
  pub simple : simple (rec f (heading_named (rec f entry))) ≡ true
  pub unmarked : marked (rec f (heading_named (rec f entry))) ≡ false
  pub reads : file_text f (heading_named (rec f entry)) ≡ text

-- under the name n in d stands a simple file with this text, which nothing inhibits and no mark is on
pub record Stood (t : List ℕ) (d : Holder) (n text : List ℕ) : Type 0 where
  pub entry : ℕ
  pub found : find boxed t d n ≡ at entry
  pub code : applies t entry ≡ 0
  pub simple : simple (rec t (heading_named (rec t entry))) ≡ true
  pub unmarked : marked (rec t (heading_named (rec t entry))) ≡ false
  pub reads : file_text t (heading_named (rec t entry)) ≡ text

-- a heading with other counts has the type, mark and length that it had
module _ (x r : List ℕ) (a : Alike x r) where
  pub alike-simple : simple r ≡ simple x
  alike-simple = rw (alike-kind x r a, alike-byte x r a 1 (omega arith))

  pub alike-marked : marked r ≡ marked x
  alike-marked = rw (alike-byte x r a 5 (omega arith))

  pub alike-length : text_length r ≡ text_length x
  alike-length = number-cong 2 r x 10 10 (λ i l. alike-byte x r a (10 + i) (omega arith))

-- no name stands twice in one place, so an entry that bears it is the one found
pub found-by : (o : ℕ) (t : List ℕ) (d : Holder) (n : List ℕ) (e : ℕ) → SoundBut o t → e < rooms t → bears boxed d n (rec t e) ≡ true → find boxed t d n ≡ at e
unfolding find
found-by o t d n e c l b =
    first-here (λ i. bears boxed d n (rec t i)) (rooms t) e l b
    (any_none (λ i. bears boxed d n (rec t i)) e (λ j m. false-by (bears boxed d n (rec t j)) (λ x.
    let q : e ≡ j = c.apart e j l (omega arith) (bears-stands d n (rec t e) b).kind (bears-both d n (rec t e) (rec t j) b x) in
    omega arith)))

module _ (t f : List ℕ) (d : Holder) (n text : List ℕ) (c : Sound t) (s : Sound f) (x : Filed t f d n text) where
  -- what was filed is found, and stands
  pub found-new : find boxed f d n ≡ at x.entry
  found-new = found-by 65535 f d n x.entry s (rw x.long x.inside) x.bears

  pub stood : Stood f d n text
  stood = record { entry = x.entry; found = found-new; code = x.code; simple = x.simple; unmarked = x.unmarked; reads = x.reads }

  -- an entry found under another name, or elsewhere, is another
  pub other-entry : (h : Holder) (m : List ℕ) (e : ℕ) → find boxed t h m ≡ at e → e ≢ x.entry → find boxed f h m ≡ at e
  other-entry h m e q a =
      let g = found-bears t h m e q in
      found-by 65535 f h m e s (rw x.long g.0) (rw (x.entries e (bears-stands h m (rec t e) g.1).kind a) g.1)

  -- .. and names what it named
  module _ (e : ℕ) (l : e < rooms t) (k : byte (rec t e) 0 ≡ 2) (a : e ≢ x.entry) where
    abbrev same-entry : rec f e ≡ rec t e
    same-entry = x.entries e k a

    still-heading : byte (rec f (heading_named (rec t e))) 0 ≡ 1
    still-heading = rw same-entry at (s.targets e (rw x.long l) (rw same-entry k))

    pub same-heading : Alike (rec t (heading_named (rec t e))) (rec f (heading_named (rec t e)))
    same-heading = x.headings (heading_named (rec t e)) (c.targets e l k) still-heading

    pub same_code : applies f e ≡ applies t e
    unfolding applies
    same_code = rw (same-entry, alike-byte _ _ same-heading 3 (omega arith))

  -- a heading that stays keeps its text: each block is there once, so it is found where it was
  module _ (h : ℕ) (k : byte (rec t h) 0 ≡ 1) (q : Alike (rec t h) (rec f h)) where
    still : byte (rec f h) 0 ≡ 1
    still = alike-kind (rec t h) (rec f h) q ∙ k

    long_same : text_length (rec f h) ≡ text_length (rec t h)
    long_same = alike-length (rec t h) (rec f h) q

    same_block : (p : ℕ) → p < blocks_of t h → held (rec f (text_room f h p)) ≡ held (rec t (text_room t h p))
    same_block p b =
        let g = text-found 65535 t h c k p b in
        let i : rec f (text_room t h p) ≡ rec t (text_room t h p) =
        x.texts (text_room t h p) g.1.kind (rw g.1.heading still) in
        let lf : h < rooms f = within f h s.whole (omega (arith, still)) in
        let bf : p < blocks_of f h = rw long_same b in
        let r : text_room f h p ≡ text_room t h p =
        room-only f h p (s.once h p lf still (simple-by (rec f h) ((s.own h lf).heading still) p bf) bf) (text_room t h p) (rw x.long g.0)
        (rw i (text-by h p (rec t (text_room t h p)) g.1)) in
        rw (r, i)

    pub same_text : file_text f h ≡ file_text t h
    unfolding file_text
    same_text = rw long_same (join-cong (λ p. held (rec f (text_room f h p))) (λ p. held (rec t (text_room t h p))) (blocks_of t h) same_block)

  -- what stood under another name stands as it did
  pub kept : (m y : List ℕ) → m ≢ n → Stood t d m y → Stood f d m y
  kept m y a z =
      record {
        entry = z.entry;
        found = other-entry d m z.entry z.found apart;
        code = same_code z.entry g.0 k apart ∙ z.code;
        simple = rw (x.entries z.entry k apart, alike-simple _ _ alike) z.simple;
        unmarked = rw (x.entries z.entry k apart, alike-marked _ _ alike) z.unmarked;
        reads =
            rw (x.entries z.entry k apart)
            (same_text (heading_named (rec t z.entry)) (c.targets z.entry g.0 k) alike ∙ z.reads);
      }
    where
      g : (z.entry < rooms t) × (bears boxed d m (rec t z.entry) ≡ true)
      g = found-bears t d m z.entry z.found

      k : byte (rec t z.entry) 0 ≡ 2
      k = (bears-stands d m (rec t z.entry) g.1).kind

      go : z.entry ≡ x.entry → (byte (rec t x.entry) 0 ≡ 0) ⊎ (bears boxed d n (rec t x.entry) ≡ true) → ⊥
      go e (inl o) = let w : byte (rec t z.entry) 0 ≡ 0 = rw e o in omega (arith, k)
      go e (inr o) = a (bears-name d m (rec t z.entry) g.1 ∙ ap (λ (i : ℕ). name_of boxed (rec t i)) e ∙ sym (bears-name d n (rec t x.entry) o))

      apart : z.entry ≢ x.entry
      apart e = go e x.was

      alike : Alike (rec t (heading_named (rec t z.entry))) (rec f (heading_named (rec t z.entry)))
      alike = same-heading z.entry g.0 k apart
