-- In a sound table a simple file's text is as long as its heading says: each position is there, and its record holds its share.
-- The shares add up to the length, since every block but the last is whole and the last holds the rest.
use mathlib.Core.Bool.{Bool, true, ◌&&◌}
use mathlib.Core.List.{List}
use mathlib.Core.Logic.{by_cases}
use mathlib.Core.Path.{◌≡◌, refl, ap, ◌∙◌}
use Prim.Native.Nat.{ℕ, zero, suc, ◌+◌, ◌*◌, ◌/◌, ◌%◌, ◌≤◌, ◌<◌}
use native.Mathlib.Omega.{arith}
use native.Mathlib.Decide.{dec_lt}
use lib.Dec.{eqb, leb, ltb}
use lib.ListN.{length, take, drop, length-append, length-take, length-drop}
use borrow.Author.Tests.{eqb-true, eq-eqb, leb-true, lt-ltb}
use Rattle.paper.specs.Scan.{any_below, count_below, all_below, join_below}
use Rattle.paper.specs.Record.{byte, is_kind, heading_type, text_length, simple, bytes_held, heading_of, position, held, text_at}
use Rattle.paper.specs.Layout.{boxed}
use Rattle.paper.specs.Table.{sized, rooms, rec, place, text_room}
use Rattle.paper.specs.Block.{blocks, share, blocks_of, file_text}
use Rattle.paper.specs.Sound.{as_above, holders_there, headings_there, users_right, names_padded, none_twice, all_named, none_crowded, directories_plain, once, texts_whole, in_place, no_other_text, names_legal, counts_true, shaped, sound}
use Rattle.laws.proofs.Tests.{and_left, and_right, and_parts, implies-use}
use Rattle.laws.proofs.Scans.{all_true, least, first-least, First}
use Rattle.laws.proofs.Lay.{length-rec, within}
use Rattle.laws.proofs.Entries.{text-true, TextAt}
use Rattle.records.proofs.Shares.{share-full, share-rest}
use Rattle.scans.proofs.Turns.{any-count}
use Rattle.effects.specs.Listed.{text_rooms, gathered}
use Rattle.effects.proofs.Gathers.{part-between}
use Rattle.effects.proofs.Papers.{text-gathered}

-- ---- shares

share-most : (n p : ℕ) → p < blocks n → share n p ≤ 24
share-most n p l =
    by_cases (dec_lt (p + 1) (blocks n))
    (λ (m : p + 1 < blocks n). omega (arith, share-full n p m))
    (λ (m : ¬ (p + 1 < blocks n)). omega (arith, share-rest n p (omega arith)))

-- lists as long as the shares of n bytes, joined up to a position
shares-before : (f : ℕ → List ℕ) (n : ℕ) → ((p : ℕ) → p < blocks n → length (f p) ≡ share n p)
    → (m : ℕ) → m < blocks n → length (join_below f m) ≡ m * 24
unfolding join_below
shares-before f n h zero l = refl
shares-before f n h (suc m) l =
    rw length-append (omega (arith, shares-before f n h m (omega arith), h m (omega arith), share-full n m (omega arith)))

shares-all : (f : ℕ → List ℕ) (n : ℕ) → ((p : ℕ) → p < blocks n → length (f p) ≡ share n p) → length (join_below f (blocks n)) ≡ n
shares-all f n h = go (blocks n) refl
  where
    go : (b : ℕ) → blocks n ≡ b → length (join_below f b) ≡ n
    go zero e = unfold join_below in omega arith
    go (suc b) e =
        unfold join_below in
        rw length-append (omega (arith, shares-before f n h b (omega arith), h b (omega arith), share-rest n b (omega arith)))

-- ---- a file's text

held-length : (r : List ℕ) (k : ℕ) → length r ≡ 32 → bytes_held r ≡ k → k ≤ 24 → length (held r) ≡ k
unfolding held
held-length r k e f m = simp (length-take, length-drop) (omega arith)

in-place-share : (t r : List ℕ) (h p : ℕ) → TextAt h p r → in_place (rec t (heading_of r)) r ≡ true → bytes_held r ≡ share (text_length (rec t h)) p
in-place-share t r h p w e =
    let f = and_right (simple (rec t (heading_of r))) _ e in
    eqb-true _ _ (and_right (ltb (position r) (blocks (text_length (rec t (heading_of r))))) _ f)
    ∙ rw (w.heading, w.position)

-- what soundness says of text
record Texts (t : List ℕ) : Type 0 where
  pub whole : texts_whole t ≡ true
  pub other : no_other_text t ≡ true

texts : (t : List ℕ) → sound boxed t ≡ true → Texts t
unfolding shaped sound
texts t z =
    let first : Bool =
    as_above boxed t && holders_there t && headings_there t && users_right t && names_padded boxed t && none_twice boxed t && all_named t && none_crowded t
    && directories_plain t in
    let l = and_left (first && texts_whole t && no_other_text t) (names_legal boxed t) (and_left (shaped boxed t) (counts_true t) z) in
    let k = and_parts (first && texts_whole t) (no_other_text t) l in
    record { whole = and_right first (texts_whole t) k.0; other = k.1 }

module _ (t : List ℕ) (h : ℕ) (fit : sized t ≡ true) (right : sound boxed t ≡ true) (s : simple (rec t h) ≡ true) where
  -- a record that is a heading is in the table
  there : h < rooms t
  there =
      let k : byte (rec t h) 0 ≡ 1 = eqb-true _ _ (and_left (is_kind 1 (rec t h)) _ s) in
      within t h (eqb-true _ _ (and_left (eqb (length t % 32) 0) _ fit)) (omega arith)

  length-and-positions : (leb (text_length (rec t h)) 24000 && all_below (once t h) (blocks_of t h)) ≡ true
  unfolding texts_whole
  length-and-positions =
      implies-use (eqb (heading_type (rec t h)) 1) _
      (implies-use (is_kind 1 (rec t h)) _ (all_true _ (rooms t) h there (texts t right).whole) (and_left _ _ s))
      (and_right (is_kind 1 (rec t h)) _ s)

  pub length-few : text_length (rec t h) ≤ 24000
  length-few = leb-true _ _ (and_left _ _ length-and-positions)

  pub blocks-few : blocks_of t h ≤ 1000
  blocks-few = omega (arith, length-few)

  here : (p : ℕ) → p < blocks_of t h → any_below (λ i. text_at h p (rec t i)) (rooms t) ≡ true
  here p m =
      let e : count_below (λ i. text_at h p (rec t i)) (rooms t) ≡ 1 =
      eqb-true _ _ (all_true (once t h) (blocks_of t h) p m (and_right (leb (text_length (rec t h)) 24000) _ length-and-positions)) in
      any-count (λ i. text_at h p (rec t i)) (rooms t) ∙ lt-ltb 0 (count_below (λ i. text_at h p (rec t i)) (rooms t)) (omega arith)

  its-share : (p i : ℕ) → p < blocks_of t h → First (λ j. text_at h p (rec t j)) (rooms t) i
      → length (held (rec t i)) ≡ share (text_length (rec t h)) p
  unfolding no_other_text
  its-share p i m g =
      let w = text-true h p (rec t i) g.passes in
      held-length (rec t i) _ (length-rec t i g.below)
      (in-place-share t (rec t i) h p w
      (implies-use (is_kind 3 (rec t i)) _ (all_true _ (rooms t) i g.below (texts t right).other) (eq-eqb _ _ w.kind)))
      (share-most (text_length (rec t h)) p m)

  shares : (p : ℕ) → p < blocks_of t h → length (held (rec t (text_room t h p))) ≡ share (text_length (rec t h)) p
  unfolding text_room
  shares p m =
      let g = least (λ i. text_at h p (rec t i)) (rooms t) (here p m) in
      ap (λ f. length (held (rec t (place t f)))) (first-least (λ i. text_at h p (rec t i)) (rooms t) (here p m)) ∙ its-share p g.0 m g.1

  pub text-length : length (file_text t h) ≡ text_length (rec t h)
  unfolding file_text
  text-length = shares-all (λ p. held (rec t (text_room t h p))) (text_length (rec t h)) shares

  -- a part needs its own text records alone: k bytes of the text from byte a on are in those from position a / 24 on
  pub text-part : (a k : ℕ) → a + k ≤ text_length (rec t h)
      → take k (drop (a % 24) (gathered t (text_rooms t h (blocks (a + k))) (a / 24) (blocks (a + k)))) ≡ take k (drop a (file_text t h))
  unfolding file_text
  text-part a k l =
      let f : ℕ → List ℕ = λ p. held (rec t (text_room t h p)) in
      let n : ℕ = text_length (rec t h) in
      ap (λ (s : List ℕ). take k (drop (a % 24) s)) (text-gathered t h (a / 24) (blocks (a + k)) fit (omega (arith, length-few)))
      ∙ part-between f n (shares-before f n shares) (shares-all f n shares) a k l
