-- The clauses on text, by slots: things are headings, places are positions, items are text records.
-- So each position has its text exactly once when there is as much text as is asked for and no slot is taken twice.
use mathlib.Core.Bool.{true, false, ◌&&◌, true≢false}
use mathlib.Core.List.{List}
use mathlib.Core.Logic.{◌⊎◌, inl, inr, by_cases}
use mathlib.Core.Path.{◌≡◌, sym, ◌∙◌}
use Prim.Native.Nat.{ℕ, ◌≤◌, ◌<◌}
use native.Mathlib.Omega.{arith}
use native.Mathlib.Decide.{dec_lt}
use lib.Dec.{eqb, ltb, leb}
use borrow.Author.Tests.{eqb-true, eq-eqb, ltb-true}
use Rattle.judge_laws.specs.Places.{text_fits, short_at, text_sound, weight, starts, slot_of, marks_at, texts}
use Rattle.paper.specs.Block.{blocks}
use Rattle.paper.specs.Record.{is_kind, heading_type, text_length, simple, heading_of, position, text_at}
use Rattle.paper.specs.Scan.{all_below, count_below}
use Rattle.paper.specs.Sound.{once, text_whole, texts_whole, in_place, no_other_text}
use Rattle.paper.specs.Table.{rooms, rec}
use Rattle.laws.proofs.Lay.{Whole, rec-past}
use Rattle.laws.proofs.Scans.{all_true, all_here}
use Rattle.laws.proofs.Sound.{every_true, every_here}
use Rattle.laws.proofs.Tests.{truth, and_left, and_right, and_both, implies-use, implies-by, false-by}
use Rattle.judge_laws.proofs.Slots.{places-slots, places-total, total-places}
use Rattle.judge_laws.proofs.Sums.{sum_mono}

-- a simple-file heading is a record of the table
pub simple-below : (t : List ℕ) (h : ℕ) → Whole t → simple (rec t h) ≡ true → h < rooms t
simple-below t h w e =
    by_cases (dec_lt h (rooms t)) (λ (l : h < rooms t). l) (λ (l : ¬ (h < rooms t)). absurd (true≢false (sym e ∙ rw (rec-past t h w (omega arith)))))

pub place-below : (t : List ℕ) (h : ℕ) (r : List ℕ) → Whole t → in_place (rec t h) r ≡ true → h < rooms t
place-below t h r w e = simple-below t h w (and_left (simple (rec t h)) _ e)

module _ (t : List ℕ) (w : Whole t) where
  fit-one : (i : ℕ) → text_fits t i ≡ true → is_kind 3 (rec t i) ≡ true
      → (heading_of (rec t i) < rooms t) × (position (rec t i) < weight (rec t (heading_of (rec t i))))
  fit-one i f k =
      let h = rec t (heading_of (rec t i)) in
      let e : in_place h (rec t i) ≡ true = implies-use (is_kind 3 (rec t i)) _ f k in
      let s : simple h ≡ true = and_left (simple h) _ e in
      (simple-below t (heading_of (rec t i)) w s, rw s (ltb-true _ _ (and_left (ltb (position (rec t i)) (blocks (text_length h))) _ (and_right (simple h) _ e))))

  fit : ((i : ℕ) → i < rooms t → text_fits t i ≡ true) → (i : ℕ) → i < rooms t → is_kind 3 (rec t i) ≡ true
      → (heading_of (rec t i) < rooms t) × (position (rec t i) < weight (rec t (heading_of (rec t i))))
  fit f i l k = fit-one i (f i l) k

  -- the slot of a text record in place
  pub slot-here : (i : ℕ) → text_fits t i ≡ true → is_kind 3 (rec t i) ≡ true → slot_of t i < starts t (rooms t)
  unfolding starts
  slot-here i f k =
      let e = fit-one i f k in
      omega (arith, sum_mono (λ j. weight (rec t j)) (rooms t) (heading_of (rec t i)) e.0)

  pub sound-fits : text_sound t ≡ true → (i : ℕ) → i < rooms t → text_fits t i ≡ true
  unfolding text_sound no_other_text
  sound-fits e i l = all_true (text_fits t) (rooms t) i l (and_right (texts_whole t) _ e)

  -- what the clause says of a simple file
  simple-whole : text_sound t ≡ true → (h : ℕ) → h < rooms t → simple (rec t h) ≡ true
      → (leb (text_length (rec t h)) 24000 && all_below (once t h) (blocks (text_length (rec t h)))) ≡ true
  unfolding text_sound texts_whole
  simple-whole e h l s =
      implies-use (eqb (heading_type (rec t h)) 1) _
      (every_true 1 (text_whole t) t (and_left _ (no_other_text t) e) h l (eqb-true _ _ (and_left (is_kind 1 (rec t h)) _ s)))
      (and_right (is_kind 1 (rec t h)) _ s)

  sound-places : text_sound t ≡ true → (h : ℕ) → h < rooms t → (p : ℕ) → p < weight (rec t h)
      → count_below (λ i. text_at h p (rec t i)) (rooms t) ≡ 1
  sound-places e h l p k = go (truth (simple (rec t h)))
    where
      go : (simple (rec t h) ≡ true) ⊎ (simple (rec t h) ≡ false) → count_below (λ i. text_at h p (rec t i)) (rooms t) ≡ 1
      go (inl s) =
          eqb-true _ _ (all_true (once t h) (blocks (text_length (rec t h))) p (rw s at k)
          (and_right (leb (text_length (rec t h)) 24000) _ (simple-whole e h l s)))
      go (inr s) = let b : p < 0 = rw s at k in let z : ⊥ = omega arith in absurd z

  pub sound-short : text_sound t ≡ true → (h : ℕ) → h < rooms t → short_at t h ≡ true
  sound-short e h l = implies-by (simple (rec t h)) _ (λ s. and_left (leb (text_length (rec t h)) 24000) _ (simple-whole e h l s))

  pub sound-total : text_sound t ≡ true → texts t (rooms t) ≡ starts t (rooms t)
  unfolding starts texts
  sound-total e = places-total (rooms t) (λ j. weight (rec t j)) _ _ _ (fit (sound-fits e)) (sound-places e)

  pub sound-once : text_sound t ≡ true → (s : ℕ) → s < starts t (rooms t) → marks_at t s (rooms t) ≡ 1
  unfolding starts marks_at
  sound-once e s l = places-slots (rooms t) (λ j. weight (rec t j)) _ _ _ (fit (sound-fits e)) (sound-places e) s l

  pub by_slots : ((h : ℕ) → h < rooms t → short_at t h ≡ true) → ((i : ℕ) → i < rooms t → text_fits t i ≡ true) → texts t (rooms t) ≡ starts t (rooms t)
      → ((s : ℕ) → s < starts t (rooms t) → marks_at t s (rooms t) ≤ 1) → text_sound t ≡ true
  unfolding text_sound texts_whole no_other_text starts marks_at texts
  by_slots short f e m =
      and_both _ (all_below (text_fits t) (rooms t))
      (every_here 1 (text_whole t) t
      (λ h l k. implies-by (eqb (heading_type (rec t h)) 1) _ (λ y. one h l (and_both (is_kind 1 (rec t h)) _ (eq-eqb _ _ k) y))))
      (all_here (text_fits t) (rooms t) f)
    where
      places : (h : ℕ) → h < rooms t → (p : ℕ) → p < weight (rec t h) → count_below (λ i. text_at h p (rec t i)) (rooms t) ≡ 1
      places = total-places (rooms t) (λ j. weight (rec t j)) (λ i. is_kind 3 (rec t i)) (λ i. heading_of (rec t i)) (λ i. position (rec t i)) (fit f) e m

      one : (h : ℕ) → h < rooms t → simple (rec t h) ≡ true → (leb (text_length (rec t h)) 24000 && all_below (once t h) (blocks (text_length (rec t h)))) ≡ true
      one h l s =
          and_both (leb (text_length (rec t h)) 24000) _ (implies-use (simple (rec t h)) _ (short h l) s)
          (all_here (once t h) (blocks (text_length (rec t h))) (λ p k. eq-eqb _ _ (places h l p (rw s k))))

  -- a file too long, or another number of text records than are asked for
  pub sound-not-long : (h : ℕ) → h < rooms t → short_at t h ≡ false → text_sound t ≡ false
  sound-not-long h l e = false-by (text_sound t) (λ s. true≢false (sym (sound-short s h l) ∙ e))

  pub sound-not-apart : (texts t (rooms t) ≡ starts t (rooms t) → ⊥) → text_sound t ≡ false
  sound-not-apart n = false-by (text_sound t) (λ s. n (sound-total s))
