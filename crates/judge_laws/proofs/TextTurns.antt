-- The turns of the loops that judge text.
-- The first keeps the sum of what was asked for, the second a mark for each slot that was taken.
use mathlib.Core.Bool.{Bool, true, false, ◌&&◌, cond, true≢false}
use mathlib.Core.List.{List}
use mathlib.Core.Logic.{◌⊎◌, inl, inr, ◌≢◌, by_cases}
use mathlib.Core.Path.{◌≡◌, refl, sym, ap, ◌∙◌}
use Prim.Native.Nat.{ℕ, ◌+◌, ◌-◌, ◌*◌, ◌≤◌, ◌<◌}
use native.Mathlib.Omega.{arith}
use native.Mathlib.Decide.{ℕ_discrete, dec_lt}
use lib.ListN.{length, get_or, set, length-set}
use lib.Seq.{get_or-set_same, get_or-set_other}
use lib.Dec.{eqb, leb, ltb}
use borrow.Author.Tests.{eqb-true, eqb-false, eq-eqb, ne_eqb, leb-true, le-leb, ltb-true, lt-ltb, le-ltb}
use Rattle.judge_laws.specs.Places.{text_fits, text_sound, weight, starts, slot_of, marks_at, texts, Laid, Marked, fresh}
use Rattle.judge_laws.specs.Tally.{sum_below}
use Rattle.paper.specs.Block.{blocks, share}
use Rattle.paper.specs.Record.{byte, is_kind, text_length, simple, bytes_held, heading_of, position}
use Rattle.paper.specs.Scan.{count_below}
use Rattle.paper.specs.Sound.{in_place}
use Rattle.paper.specs.Table.{rooms, rec}
use Rattle.paper.specs.Walk.{start}
use Rattle.laws.proofs.Counts.{count-more, count-up, count_most}
use Rattle.laws.proofs.Tests.{truth, and_left, and_right, implies-use, false-by, same_truth}
use Rattle.judge_laws.proofs.Sums.{sum_more, sum-up}
use Rattle.judge_laws.proofs.Text.{place-below, slot-here, sound-fits, sound-once}

-- whether a text record is in place, without division: a whole block ends below the length or at it, and the last one ends there
pub place-whole : (h r : List ℕ) → simple h ≡ true → bytes_held r ≡ 24 → in_place h r ≡ leb (position r * 24 + 24) (text_length h)
unfolding share
place-whole h r s e =
    same_truth (in_place h r) _ (λ q. le-leb (position r * 24 + 24) (text_length h) (into q)) (λ q. from (leb-true (position r * 24 + 24) (text_length h) q))
  where
    into : in_place h r ≡ true → position r * 24 + 24 ≤ text_length h
    into q =
        let z : (ltb (position r) (blocks (text_length h)) && eqb (bytes_held r) (share (text_length h) (position r))) ≡ true = rw s at q in
        let l : position r < blocks (text_length h) = ltb-true (position r) (blocks (text_length h)) (and_left (ltb (position r) (blocks (text_length h)))
        (eqb (bytes_held r) (share (text_length h) (position r))) z) in
        let b : bytes_held r ≡ share (text_length h) (position r) = eqb-true (bytes_held r) (share (text_length h) (position r))
        (and_right (ltb (position r) (blocks (text_length h))) (eqb (bytes_held r) (share (text_length h) (position r))) z) in
        by_cases (dec_lt (position r + 1) (blocks (text_length h)))
        (λ (y : position r + 1 < blocks (text_length h)). omega arith)
        (λ (y : ¬ (position r + 1 < blocks (text_length h))).
        let d : bytes_held r ≡ text_length h - position r * 24 = rw (le-ltb (position r + 1) (blocks (text_length h)) (omega arith)) at b in omega arith)

    from : position r * 24 + 24 ≤ text_length h → in_place h r ≡ true
    from l =
        let k : position r < blocks (text_length h) = omega arith in
        rw (s, lt-ltb (position r) (blocks (text_length h)) k, e)
        (by_cases (dec_lt (position r + 1) (blocks (text_length h)))
        (λ (y : position r + 1 < blocks (text_length h)). rw (lt-ltb (position r + 1) (blocks (text_length h)) y))
        (λ (y : ¬ (position r + 1 < blocks (text_length h))).
        rw (le-ltb (position r + 1) (blocks (text_length h)) (omega arith)) (eq-eqb 24 (text_length h - position r * 24) (omega arith))))

pub place-last : (h r : List ℕ) → simple h ≡ true → 1 ≤ bytes_held r → bytes_held r < 24
    → in_place h r ≡ eqb (position r * 24 + bytes_held r) (text_length h)
unfolding share
place-last h r s a m =
    same_truth (in_place h r) _ (λ q. eq-eqb (position r * 24 + bytes_held r) (text_length h) (into q))
    (λ q. from (eqb-true (position r * 24 + bytes_held r) (text_length h) q))
  where
    into : in_place h r ≡ true → position r * 24 + bytes_held r ≡ text_length h
    into q =
        let z : (ltb (position r) (blocks (text_length h)) && eqb (bytes_held r) (share (text_length h) (position r))) ≡ true = rw s at q in
        let b : bytes_held r ≡ share (text_length h) (position r) = eqb-true (bytes_held r) (share (text_length h) (position r))
        (and_right (ltb (position r) (blocks (text_length h))) (eqb (bytes_held r) (share (text_length h) (position r))) z) in
        by_cases (dec_lt (position r + 1) (blocks (text_length h)))
        (λ (y : position r + 1 < blocks (text_length h)).
        let d : bytes_held r ≡ 24 = rw (lt-ltb (position r + 1) (blocks (text_length h)) y) at b in let v : ⊥ = omega arith in absurd v)
        (λ (y : ¬ (position r + 1 < blocks (text_length h))).
        let d : bytes_held r ≡ text_length h - position r * 24 = rw (le-ltb (position r + 1) (blocks (text_length h)) (omega arith)) at b in omega arith)

    from : position r * 24 + bytes_held r ≡ text_length h → in_place h r ≡ true
    from l =
        let k : position r < blocks (text_length h) = omega arith in
        let y : blocks (text_length h) ≤ position r + 1 = omega arith in
        let d : bytes_held r ≡ text_length h - position r * 24 = omega arith in
        rw (s, lt-ltb (position r) (blocks (text_length h)) k, le-ltb (position r + 1) (blocks (text_length h)) y)
        (eq-eqb (bytes_held r) (text_length h - position r * 24) d)

module _ (t : List ℕ) where
  pub starts_none : starts t 0 ≡ 0
  unfolding starts sum_below
  starts_none = refl

  pub texts-none : texts t 0 ≡ 0
  unfolding texts count_below
  texts-none = refl

  pub starts_more : (i : ℕ) → starts t (i + 1) ≡ starts t i + weight (rec t i)
  unfolding starts
  starts_more i = sum_more (λ j. weight (rec t j)) i

  pub starts-up : (m n : ℕ) → m ≤ n → starts t m ≤ starts t n
  unfolding starts
  starts-up m n l = sum-up (λ j. weight (rec t j)) m n l

  pub texts-more : (i : ℕ) → texts t (i + 1) ≡ texts t i + cond (is_kind 3 (rec t i)) 1 0
  unfolding texts
  texts-more i = count-more (λ j. is_kind 3 (rec t j)) i ∙ go (is_kind 3 (rec t i))
    where
      go : (b : Bool) → cond b (texts t i + 1) (texts t i) ≡ texts t i + cond b 1 0
      go true = refl
      go false = omega arith

  pub texts-most : (i : ℕ) → texts t i ≤ i
  unfolding texts
  texts-most i = count_most (λ j. is_kind 3 (rec t j)) i

  marks-none : (s : ℕ) → marks_at t s 0 ≡ 0
  unfolding marks_at count_below
  marks-none s = refl

  marks-more : (s i : ℕ) → marks_at t s (i + 1) ≡ cond (is_kind 3 (rec t i) && eqb (slot_of t i) s) (marks_at t s i + 1) (marks_at t s i)
  unfolding marks_at
  marks-more s i = count-more (λ j. is_kind 3 (rec t j) && eqb (slot_of t j) s) i

  marks-up : (s m n : ℕ) → m ≤ n → marks_at t s m ≤ marks_at t s n
  unfolding marks_at
  marks-up s m n l = count-up (λ j. is_kind 3 (rec t j) && eqb (slot_of t j) s) m n l

-- the slot that the code computes, from the heading number h, its start a and the position p
pub code-slot : (t start : List ℕ) (i h a p : ℕ) → Laid t start → byte (rec t i) 0 ≡ 3 → h ≡ heading_of (rec t i) → p ≡ position (rec t i)
    → in_place (rec t h) (rec t i) ≡ true → (a ≡ get_or start h 0) → (a + p ≡ slot_of t i) × (a + p < 2048)
code-slot t start i h a p d k eh ep e ea =
    let e' : in_place (rec t (heading_of (rec t i))) (rec t i) ≡ true = rw eh at e in
    let k' : is_kind 3 (rec t i) ≡ true = eq-eqb (byte (rec t i) 0) 3 k in
    let l : heading_of (rec t i) < rooms t = place-below t (heading_of (rec t i)) (rec t i) d.whole e' in
    let s : slot_of t i < starts t (rooms t) = slot-here t d.whole i (rw (k', e')) k' in
    let s1 : simple (rec t (heading_of (rec t i))) ≡ true = and_left (simple (rec t (heading_of (rec t i)))) _ e' in
    let o : is_kind 1 (rec t (heading_of (rec t i))) ≡ true = and_left (is_kind 1 (rec t (heading_of (rec t i)))) _ s1 in
    let b : get_or start h 0 ≡ starts t (heading_of (rec t i)) = rw eh (d.at (heading_of (rec t i)) l o) in
    let q : a + p ≡ slot_of t i = rw (ea, b, ep) in
    (q, omega (arith, d.room, d.small))

pub marked-none : (t start mark : List ℕ) → Laid t start → length mark ≡ 2048 → ((s : ℕ) → s < 2048 → get_or mark s 0 ≡ 0) → Marked t mark 0
marked-none t start mark a z h =
    record {
      fits = λ j l. let z : ⊥ = omega arith in absurd z;
      marks = λ s l. h s (omega (arith, a.room, a.small)) ∙ sym (marks-none t s);
      once = λ s l. omega (arith, marks-none t s);
      long = z;
    }

module _ (t start mark : List ℕ) (i : ℕ) (a : Laid t start) (l : i < rooms t) (m : Marked t mark i) where
  taken : fresh t mark i ≡ true → is_kind 3 (rec t i) ≡ true → get_or mark (slot_of t i) 0 ≡ 0
  taken e k = eqb-true _ _ (implies-use (is_kind 3 (rec t i)) _ (and_right (text_fits t i) _ e) k)

  fits_more : text_fits t i ≡ true → (j : ℕ) → j < i + 1 → text_fits t j ≡ true
  fits_more f j b = by_cases (ℕ_discrete j i) (λ (q : j ≡ i). rw q f) (λ (q : j ≢ i). m.fits j (omega arith))

  -- a turn that marks
  pub marked : fresh t mark i ≡ true → is_kind 3 (rec t i) ≡ true → Marked t (set mark (slot_of t i) 1) (i + 1)
  marked e k =
      record {
        fits = fits_more f;
        marks = λ s b. (at s b (ℕ_discrete s (slot_of t i))).0;
        once = λ s b. (at s b (ℕ_discrete s (slot_of t i))).1;
        long = length-set mark (slot_of t i) 1 ∙ m.long;
      }
    where
      f : text_fits t i ≡ true
      f = and_left (text_fits t i) _ e

      h : slot_of t i < starts t (rooms t)
      h = slot-here t a.whole i f k

      at : (s : ℕ) → s < starts t (rooms t) → Dec (s ≡ slot_of t i) → (get_or (set mark (slot_of t i) 1) s 0 ≡ marks_at t s (i + 1)) × (marks_at t s (i + 1) ≤ 1)
      at s b d =
          by_cases d
          (λ (q : s ≡ slot_of t i).
          let y : marks_at t s i ≡ 0 = rw q (sym (m.marks (slot_of t i) h) ∙ taken e k) in
          let x : marks_at t s (i + 1) ≡ marks_at t s i + 1 = marks-more t s i ∙ rw (k, eq-eqb (slot_of t i) s (sym q)) in
          let o : marks_at t s (i + 1) ≡ 1 = omega arith in
          let g : get_or (set mark (slot_of t i) 1) (slot_of t i) 0 ≡ 1 = get_or-set_same mark (slot_of t i) 1 0 (omega (arith, a.room, a.small, m.long, h)) in
          (ap (λ (v : ℕ). get_or (set mark (slot_of t i) 1) v 0) q ∙ g ∙ sym o, omega arith))
          (λ (q : s ≢ slot_of t i).
          let x : marks_at t s (i + 1) ≡ marks_at t s i = marks-more t s i ∙ rw (k, ne_eqb (slot_of t i) s (λ v. q (sym v))) in
          (get_or-set_other mark (slot_of t i) s 1 0 q ∙ m.marks s b ∙ sym x, rw x (m.once s b)))

  -- a turn that has no text
  pub unmarked : is_kind 3 (rec t i) ≡ false → Marked t mark (i + 1)
  unmarked k =
      let n : (s : ℕ) → marks_at t s (i + 1) ≡ marks_at t s i = λ s. marks-more t s i ∙ rw k in
      record {
        fits = fits_more (rw k);
        marks = λ s b. m.marks s b ∙ sym (n s);
        once = λ s b. rw (n s) (m.once s b);
        long = m.long;
      }

  pub mark-refused : fresh t mark i ≡ false → text_sound t ≡ false
  mark-refused e = false-by (text_sound t) (λ s. go s (sound-fits t a.whole s i l) (truth (is_kind 3 (rec t i))))
    where
      go : text_sound t ≡ true → text_fits t i ≡ true → (is_kind 3 (rec t i) ≡ true) ⊎ (is_kind 3 (rec t i) ≡ false) → ⊥
      go s f (inr k) = true≢false (rw (f, k) at e)
      go s f (inl k) =
          let g : eqb (get_or mark (slot_of t i) 0) 0 ≡ false = rw (f, k) at e in
          let h : slot_of t i < starts t (rooms t) = slot-here t a.whole i f k in
          let x : marks_at t (slot_of t i) (i + 1) ≡ marks_at t (slot_of t i) i + 1 = marks-more t (slot_of t i) i ∙ rw (k, eq-eqb (slot_of t i) (slot_of t i) refl) in
          let u = marks-up t (slot_of t i) (i + 1) (rooms t) (omega arith) in
          let o = sound-once t a.whole s (slot_of t i) h in
          let n = eqb-false (get_or mark (slot_of t i) 0) 0 g in
          let y = m.marks (slot_of t i) h in
          omega arith
