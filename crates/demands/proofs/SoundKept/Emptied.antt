-- A file marked and emptied: its heading is laid again and its text cleared by position, so that its records are free and every other
-- stays. The table is sound: a marked file of length 0 owes no text, and there is none.
use mathlib.Core.Bool.{Bool, true, false, ◌||◌, cond}
use mathlib.Core.List.{List}
use mathlib.Core.Logic.{◌⊎◌, inl, inr, ◌≢◌, by_cases}
use mathlib.Core.Path.{◌≡◌, refl, sym, ◌∙◌}
use Prim.Native.Nat.{ℕ, ◌+◌, ◌≤◌, ◌<◌}
use native.Mathlib.Omega.{arith}
use native.Mathlib.Decide.{ℕ_discrete}
use lib.ListN.{length}
use lib.Dec.{eqb}
use borrow.Author.Tests.{eqb-true, eq-eqb, le-leb}
use Rattle.paper.specs.Scan.{any_below, count_below}
use Rattle.paper.specs.Record.{byte, is_kind, heading_type, lifetime, text_length, heading_of, rewritten, blank}
use Rattle.paper.specs.Table.{rooms, rec, lay, frees, text_room}
use Rattle.paper.specs.Block.{blocks, blocks_of}
use Rattle.paper.specs.Sound.{mark_right}
use Rattle.paper.specs.Store.{run}
use Rattle.paper.specs.Effect.{emptying, emptied}
use Rattle.laws.proofs.Tests.{not-both, and_left, and_right, and_both, or_left, or_right}
use Rattle.laws.proofs.Lists.{length-list}
use Rattle.laws.proofs.Counts.{count-cong, count-either, count-places}
use Rattle.laws.proofs.Rewritten.{Apart, length-rewritten, rewritten-byte, rewritten-mark, rewritten-length, rewritten-zeros}
use Rattle.laws.proofs.Lay.{lay-same, lay-other, length-lay, length-rec, kind-blank, within}
use Rattle.laws.proofs.Runs.{length_run, rooms-run, clears-each}
use Rattle.demands.proofs.Sound.Clauses.{Own, HeadingOwn, heading-fields, Sound}
use Rattle.demands.proofs.SoundKept.Built.{heading-own}
use Rattle.demands.proofs.SoundKept.Cleared.{own-blank}
use Rattle.demands.proofs.SoundKept.Freed.{text_of, text-found, by-position}
use Rattle.demands.proofs.SoundKept.Retexted.{Mine, none, some, Retexted, retexted-sound}

-- ---- the heading laid again

-- no mark, or one on a file of no length
abbrev pub Fit : ℕ → ℕ → Type 0
Fit mark n = (mark ≡ 0) ⊎ ((mark ≡ 1) × (n ≡ 0))

module _ (r : List ℕ) (s : length r ≡ 32) (k : byte r 0 ≡ 1) (y : heading_type r ≡ 1) (m : lifetime r ≡ 1) (o : HeadingOwn r) where
  module _ (mark n : ℕ) (b : n ≤ 24000) where
    at : (j : ℕ) → Apart j → byte (rewritten r mark n) j ≡ byte r j
    at = rewritten-byte r mark n

    again-kind : byte (rewritten r mark n) 0 ≡ 1
    again-kind = at 0 (omega arith, inl (omega arith)) ∙ k

    again-type : heading_type (rewritten r mark n) ≡ 1
    again-type = at 1 (omega arith, inl (omega arith)) ∙ y

    again-length : text_length (rewritten r mark n) ≡ n
    again-length = rewritten-length r mark n s (omega arith)

    right : Fit mark n → mark_right (rewritten r mark n) ≡ true
    right (inl e) = or_left (eqb (byte (rewritten r mark n) 5) 0) _ (rw (rewritten-mark r mark n s, e))
    right (inr (e, z)) = rw (rewritten-mark r mark n s, again-type, at 4 (omega arith, inl (omega arith)), m, again-length, e, z)

    own-again : Fit mark n → Own (rewritten r mark n)
    own-again f =
        let g = heading-fields r o in
        heading-own (rewritten r mark n) again-kind (record {
          shape =
              rw (
                right f,
                at 1 (omega arith, inl (omega arith)),
                at 2 (omega arith, inl (omega arith)),
                at 3 (omega arith, inl (omega arith)),
                at 4 (omega arith, inl (omega arith)),
                rewritten-zeros r mark n 6 4 (λ i l. (omega arith, inl (omega arith))),
                rewritten-zeros r mark n 14 2 (λ i l. (omega arith, inr (omega arith))),
                rewritten-zeros r mark n 16 16 (λ i l. (omega arith, inr (omega arith))),
              )
              (rw (le-leb _ _ g.type, le-leb _ _ g.level, le-leb _ _ g.code, le-leb _ _ g.lifetime.0, le-leb _ _ g.lifetime.1)
              (rw (g.rest, g.file y, g.last, y)));
          directory = λ (z : heading_type (rewritten r mark n) ≡ 0). let x : ⊥ = omega (arith, again-type) in absurd x;
          simple = λ _. omega (arith, again-length);
        })

-- ---- a simple file of lifetime M

pub record Medium (t : List ℕ) (h : ℕ) : Type 0 where
  pub kind : byte (rec t h) 0 ≡ 1
  pub type : heading_type (rec t h) ≡ 1
  pub lifetime : lifetime (rec t h) ≡ 1

module _ (t : List ℕ) (h : ℕ) (c : Sound t) (f : Medium t h) where
  pub in-h : h < rooms t
  in-h = within t h c.whole (omega (arith, f.kind))

  pub size-h : length (rec t h) ≡ 32
  size-h = length-rec t h in-h

  own-h : HeadingOwn (rec t h)
  own-h = (c.own h in-h).heading f.kind

  -- its heading with another mark and length
  pub head-kind : (mark n : ℕ) → n ≤ 24000 → byte (rewritten (rec t h) mark n) 0 ≡ 1
  head-kind = again-kind (rec t h) size-h f.kind f.type f.lifetime own-h

  pub head-type : (mark n : ℕ) → n ≤ 24000 → heading_type (rewritten (rec t h) mark n) ≡ 1
  head-type = again-type (rec t h) size-h f.kind f.type f.lifetime own-h

  pub head-length : (mark n : ℕ) → n ≤ 24000 → text_length (rewritten (rec t h) mark n) ≡ n
  head-length = again-length (rec t h) size-h f.kind f.type f.lifetime own-h

  pub head-own : (mark n : ℕ) → n ≤ 24000 → Fit mark n → Own (rewritten (rec t h) mark n)
  head-own = own-again (rec t h) size-h f.kind f.type f.lifetime own-h

  abbrev marked-h : List ℕ
  marked-h = rewritten (rec t h) 1 0

  text_in : (p : ℕ) → p < blocks_of t h → text_room t h p < rooms t
  text_in p b = (text-found 65535 t h c f.kind p b).0

  -- each record: the heading marked, its text cleared, every other as it was
  each-record : (i : ℕ) → i < rooms t → rec (emptied t h) i ≡ cond (text_of h (rec t i)) blank (rec (lay t h marked-h) i)
  unfolding emptying run
  each-record i l =
      clears-each (λ p. text_room t h p) (blocks_of t h) (lay t h marked-h) (λ p b. rw (length-lay t h marked-h) (text_in p b)) i
      (rw (length-lay t h marked-h) l)
      ∙ rw (by-position 65535 t h c f.kind i l)

  pub emptied-heading : rec (emptied t h) h ≡ marked-h
  emptied-heading = each-record h in-h ∙ rw f.kind (lay-same t h marked-h (length-rewritten (rec t h) 1 0 size-h) in-h)

  pub emptied-other : (i : ℕ) → i < rooms t → i ≢ h → rec (emptied t h) i ≡ cond (text_of h (rec t i)) blank (rec t i)
  emptied-other i l d = each-record i l ∙ rw (lay-other t h marked-h i (length-rewritten (rec t h) 1 0 size-h) d l)

  -- a record that is neither the heading nor its text is as it was
  pub data Emptied (i : ℕ) : Type 0 where
    heading : i ≡ h → rec (emptied t h) i ≡ marked-h → Emptied i
    text : byte (rec t i) 0 ≡ 3 → heading_of (rec t i) ≡ h → rec (emptied t h) i ≡ blank → Emptied i
    other : i ≢ h → text_of h (rec t i) ≡ false → rec (emptied t h) i ≡ rec t i → Emptied i

  pub emptied-by : (i : ℕ) → i < rooms t → Emptied i
  emptied-by i l =
      by_cases (ℕ_discrete i h) (λ (e : i ≡ h). heading e (rw e emptied-heading))
      (λ (d : i ≢ h). go d (text_of h (rec t i)) refl (emptied-other i l d))
    where
      go : i ≢ h → (b : Bool) → text_of h (rec t i) ≡ b → rec (emptied t h) i ≡ cond b blank (rec t i) → Emptied i
      go d true e q = text (eqb-true _ _ (and_left (is_kind 3 (rec t i)) _ e)) (eqb-true _ _ (and_right (is_kind 3 (rec t i)) _ e)) q
      go d false e q = other d e q

  pub emptied-retexted : Retexted t (emptied t h) h
  emptied-retexted =
      record {
        long = length_run t _;
        heading = f.kind;
        again = rw emptied-heading (head-kind 1 0 (omega arith));
        type = rw emptied-heading (head-type 1 0 (omega arith) ∙ sym f.type);
        each = λ i l d. each i d (emptied-by i l);
        own = λ i l. own i l (emptied-by i l);
        once = λ p b. let z : p < blocks 0 = rw (emptied-heading, length-0) at b in let x : ⊥ = omega arith in absurd x;
        texts = λ i l k e. let x : ⊥ = no_text i k e (emptied-by i l) in absurd x;
      }
    where
      length-0 : text_length marked-h ≡ 0
      length-0 = head-length 1 0 (omega arith)

      each : (i : ℕ) → i ≢ h → Emptied i → (rec (emptied t h) i ≡ rec t i) ⊎ (Mine h (rec t i) × Mine h (rec (emptied t h) i))
      each i d (heading e q) = absurd (d e)
      each i d (text k e q) = inr (some k e, none q)
      each i d (other o e q) = inl q

      own : (i : ℕ) → i < rooms t → Emptied i → Own (rec (emptied t h) i)
      own i l (heading e q) = rw q (head-own 1 0 (omega arith) (inr (refl, refl)))
      own i l (text k e q) = rw q own-blank
      own i l (other o e q) = rw q (c.own i l)

      no_text : (i : ℕ) → byte (rec (emptied t h) i) 0 ≡ 3 → heading_of (rec (emptied t h) i) ≡ h → Emptied i → ⊥
      no_text i k e (heading q z) =
          let x : byte marked-h 0 ≡ 3 = rw z at k in
          omega (arith, head-kind 1 0 (omega arith))
      no_text i k e (text a b z) = omega (arith, kind-blank (rec (emptied t h) i) z)
      no_text i k e (other o q z) =
          not-both (and_both (is_kind 3 (rec t i)) _ (eq-eqb _ _ (rw z at k)) (eq-eqb _ _ (rw z at e))) q

  pub emptied-sound : Sound (emptied t h)
  emptied-sound = retexted-sound t (emptied t h) h c emptied-retexted

  -- ---- "Room is free records plus the old text's."

  pub emptied-frees : length (frees (emptied t h)) ≡ length (frees t) + blocks_of t h
  unfolding frees
  emptied-frees =
      length-list (λ i. is_kind 0 (rec (emptied t h) i)) (rooms (emptied t h))
      ∙ rw (rooms-run t (emptying t h), length-list (λ i. is_kind 0 (rec t i)) (rooms t))
      (count-cong (λ i. is_kind 0 (rec (emptied t h) i)) (λ i. is_kind 0 (rec t i) || text_of h (rec t i)) (rooms t) (λ i l. freed i (emptied-by i l))
      ∙ count-either (λ i. is_kind 0 (rec t i)) (λ i. text_of h (rec t i)) (rooms t)
      (λ i l e. let z : byte (rec t i) 0 ≡ 0 = eqb-true _ _ e in rw z)
      ∙ rw texts)
    where
      alone : (a b : Bool) → b ≡ false → a ≡ (a || b)
      alone true b e = refl
      alone false b e = sym e

      freed : (i : ℕ) → Emptied i → is_kind 0 (rec (emptied t h) i) ≡ (is_kind 0 (rec t i) || text_of h (rec t i))
      freed i (heading e q) = rw (q, head-kind 1 0 (omega arith), e, f.kind)
      freed i (text k e q) =
          eq-eqb _ _ (kind-blank (rec (emptied t h) i) q)
          ∙ sym (or_right (is_kind 0 (rec t i)) _ (and_both (is_kind 3 (rec t i)) _ (eq-eqb _ _ k) (eq-eqb _ _ e)))
      freed i (other o e q) = rw q (alone (is_kind 0 (rec t i)) (text_of h (rec t i)) e)

      texts : count_below (λ i. text_of h (rec t i)) (rooms t) ≡ blocks_of t h
      texts =
          sym (count-cong (λ i. any_below (λ p. eqb i (text_room t h p)) (blocks_of t h)) (λ i. text_of h (rec t i)) (rooms t)
          (λ i l. by-position 65535 t h c f.kind i l))
          ∙ count-places (λ p. text_room t h p) (blocks_of t h) (rooms t) text_in
          (λ p q a b e.
          let x = (text-found 65535 t h c f.kind p a).1 in
          let z = (text-found 65535 t h c f.kind q b).1 in
          sym x.position ∙ rw e z.position)
