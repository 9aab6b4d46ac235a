-- The names and the rest from a place are the cut there and, if a colon joins, those from the next name. It is proved by going
-- over the places from the end: a plain byte, a colon and a blank each put one byte before what the later places give.
use mathlib.Core.Bool.{Bool, true, false, ◌&&◌, not, cond, true≢false}
use mathlib.Core.List.{List, [], ◌∷◌, map, nil≢cons}
use mathlib.Core.Logic.{◌⊎◌, inl, inr}
use mathlib.Core.Path.{◌≡◌, refl, sym, ◌∙◌}
use Prim.Native.Nat.{ℕ, suc, ◌-◌, ◌≤◌, ◌<◌}
use native.Mathlib.Omega.{arith}
use native.Mathlib.Numerals.{add-one}
use native.Mathlib.Nat.{sub_self}
use lib.ListN.{length, get_or, take, drop, drop_of_length-le, get_or-eq_default}
use lib.Seq.{drop-cons}
use borrow.Author.Tests.{eqb-true}
use Rattle.paper.specs.Line.{Spot, placed, is_blank, is_colon, blank_spot, colon_spot, skipped, at_colon, close, closed, grow, split, bytes_in, names_in, solid}
use Rattle.words.specs.Place.{reach, is_plain, name_end, gap_end, joined, next_name, cut, closed_from, pieces, head, tail, names_from, rest_from, words_from}
use Rattle.laws.proofs.Tests.{truth}
use Rattle.words.proofs.Tests.{side, places}
use Rattle.words.proofs.Reaches.{reach-end, reach-stop, reach-go, reach-le}

-- a byte is at most one of blank, colon and plain, and at least one
pub blank-no-colon : (x : ℕ) → is_blank x ≡ true → is_colon x ≡ false
blank-no-colon x e = rw (eqb-true x 32 e)

colon-no-blank : (x : ℕ) → is_colon x ≡ true → is_blank x ≡ false
colon-no-blank x e = rw (eqb-true x 58 e)

plain-parts : (x : ℕ) → is_plain x ≡ true → (is_blank x ≡ false) × (is_colon x ≡ false)
plain-parts x e = go (is_blank x) (is_colon x) e
  where
    go : (a b : Bool) → (not a && not b) ≡ true → (a ≡ false) × (b ≡ false)
    go true b f = absurd (true≢false (sym f))
    go false true f = absurd (true≢false (sym f))
    go false false f = (refl, refl)

pub plain-or : (x : ℕ) → is_plain x ≡ false → is_blank x ≡ false → is_colon x ≡ true
plain-or x e f = go (is_blank x) (is_colon x) e f
  where
    go : (a b : Bool) → (not a && not b) ≡ false → a ≡ false → b ≡ true
    go true b g h = absurd (true≢false h)
    go false true g h = refl
    go false false g h = absurd (true≢false g)

-- one byte before a closed line, by its kind
close-blank : (b : Spot) (s : List Spot) → blank_spot b ≡ true → close b s ≡ cond (at_colon s) s (b ∷ s)
unfolding close
close-blank b s e = rw (blank-no-colon b.byte e, e)

close-colon : (b : Spot) (s : List Spot) → colon_spot b ≡ true → close b s ≡ b ∷ skipped s
unfolding close
close-colon b s e = rw e

close-plain : (b : Spot) (s : List Spot) → blank_spot b ≡ false → colon_spot b ≡ false → close b s ≡ b ∷ s
unfolding close
close-plain b s e f = rw (f, e)

at-colon-blank : (b : Spot) (s : List Spot) → blank_spot b ≡ true → at_colon (cond (at_colon s) s (b ∷ s)) ≡ at_colon s
unfolding at_colon
at-colon-blank b s e = go (truth (at_colon s))
  where
    go : (at_colon s ≡ true) ⊎ (at_colon s ≡ false) → at_colon (cond (at_colon s) s (b ∷ s)) ≡ at_colon s
    go (inl f) = rw f f
    go (inr f) = rw (f, blank-no-colon b.byte e)

skip-blank : (b : Spot) (s : List Spot) → blank_spot b ≡ true → skipped (cond (at_colon s) s (b ∷ s)) ≡ skipped s
unfolding skipped
skip-blank b s e = go (at_colon s)
  where
    go : (t : Bool) → skipped (cond t s (b ∷ s)) ≡ skipped s
    go true = refl
    go false = rw e

skip-at-colon : (s : List Spot) → at_colon s ≡ true → skipped s ≡ s
unfolding skipped at_colon
skip-at-colon [] e = refl
skip-at-colon (b ∷ s) e = rw (colon-no-blank b.byte e)

-- a byte that is no blank stays at the front
front : (b : Spot) (s : List Spot) → blank_spot b ≡ false → (skipped (close b s) ≡ close b s) × (at_colon (close b s) ≡ colon_spot b)
unfolding skipped at_colon close
front b s e = go (truth (colon_spot b))
  where
    go : (colon_spot b ≡ true) ⊎ (colon_spot b ≡ false) → (skipped (close b s) ≡ close b s) × (at_colon (close b s) ≡ colon_spot b)
    go (inl f) = (rw (f, e), rw f f)
    go (inr f) = (rw (f, e, e), rw (f, e, f))

-- pieces and names with one byte more at the front
pub head-grow : (b : Spot) (ws : List (List Spot)) → head (grow b ws) ≡ b ∷ head ws
unfolding grow
head-grow b [] = refl
head-grow b (w ∷ ws) = refl

pub tail-grow : (b : Spot) (ws : List (List Spot)) → tail (grow b ws) ≡ tail ws
unfolding grow
tail-grow b [] = refl
tail-grow b (w ∷ ws) = refl

names-colon : (b : Spot) (s : List Spot) → colon_spot b ≡ true → names_in (b ∷ s) ≡ [] ∷ names_in s
unfolding split
names-colon b s e = rw e

names-plain : (b : Spot) (s : List Spot) (n : List ℕ) (ns : List (List ℕ)) → colon_spot b ≡ false → names_in s ≡ n ∷ ns → names_in (b ∷ s) ≡ (b.byte ∷ n) ∷ ns
unfolding split grow
names-plain b s n ns e f = rw e (go (split colon_spot s) f)
  where
    go : (ws : List (List Spot)) → map bytes_in ws ≡ n ∷ ns → map bytes_in (grow b ws) ≡ (b.byte ∷ n) ∷ ns
    go [] g = absurd (nil≢cons g)
    go (w ∷ ws) g = cc

cut-more : (line : List ℕ) (p m : ℕ) → p < length line → suc p ≤ m → take (m - p) (drop p line) ≡ get_or line p 0 ∷ take (m - suc p) (drop (suc p) line)
cut-more line p m l h = let z : m - p ≡ suc (m - suc p) = omega arith in rw (z, drop-cons line p 0 l)

pub colon-inside : (line : List ℕ) (q : ℕ) → is_colon (get_or line q 0) ≡ true → q < length line
colon-inside line q e = go (side q (length line))
  where
    go : (q < length line) ⊎ (length line ≤ q) → q < length line
    go (inl l) = l
    go (inr l) = absurd (true≢false (sym e ∙ rw (get_or-eq_default line 0 l)))

unfoldable pub spot : List ℕ → ℕ → Spot
spot line p = record { at = p; byte = get_or line p 0 }

closed-end : (line : List ℕ) (p : ℕ) → length line ≤ p → closed_from line p ≡ []
unfolding closed_from placed closed
closed-end line p l = rw (drop_of_length-le line l)

closed-step : (line : List ℕ) (p : ℕ) → p < length line → closed_from line p ≡ close (spot line p) (closed_from line (suc p))
unfolding closed_from placed closed spot
closed-step line p l = rw (drop-cons line p 0 l)

module _ (line : List ℕ) where
  Skip : ℕ → Type 0
  Skip p =
      (skipped (closed_from line p) ≡ closed_from line (reach is_blank line p))
      × (at_colon (closed_from line p) ≡ is_colon (get_or line (reach is_blank line p) 0))

  -- past the blanks from p on
  closed-skip : (p : ℕ)
      → (skipped (closed_from line p) ≡ closed_from line (reach is_blank line p))
      × (at_colon (closed_from line p) ≡ is_colon (get_or line (reach is_blank line p) 0))
  unfolding Skip skipped at_colon spot
  closed-skip = places Skip (length line) over one
    where
      over : (p : ℕ) → length line ≤ p → Skip p
      over p l = (rw (reach-end is_blank line p l, closed-end line p l), rw (reach-end is_blank line p l, closed-end line p l, get_or-eq_default line 0 l))

      one : (p : ℕ) → p < length line → Skip (suc p) → Skip p
      one p l r = go (truth (is_blank (get_or line p 0)))
        where
          go : (is_blank (get_or line p 0) ≡ true) ⊎ (is_blank (get_or line p 0) ≡ false) → Skip p
          go (inl e) =
              let b = spot line p in
              let s = closed_from line (suc p) in (
                rw (reach-go is_blank line p l e, closed-step line p l, close-blank b s e, skip-blank b s e) r.0,
                rw (reach-go is_blank line p l e, closed-step line p l, close-blank b s e, at-colon-blank b s e) r.1,
              )
          go (inr e) =
              let f = front (spot line p) (closed_from line (suc p)) e in
              (rw (reach-stop is_blank line p e, closed-step line p l) f.0, rw (reach-stop is_blank line p e, closed-step line p l) f.1)

  -- the pieces, place by place
  pieces_end : (p : ℕ) → length line ≤ p → pieces line p ≡ [] ∷ []
  unfolding pieces split
  pieces_end p l = rw (closed-end line p l)

  pub pieces-plain : (p : ℕ) → p < length line → is_blank (get_or line p 0) ≡ false → is_colon (get_or line p 0) ≡ false
      → pieces line p ≡ grow (spot line p) (pieces line (suc p))
  unfolding pieces split spot
  pieces-plain p l e f = rw (closed-step line p l, close-plain (spot line p) (closed_from line (suc p)) e f, e)

  pub pieces-colon : (p : ℕ) → p < length line → is_colon (get_or line p 0) ≡ true
      → pieces line p ≡ grow (spot line p) (pieces line (reach is_blank line (suc p)))
  unfolding pieces split spot
  pieces-colon p l e =
      rw (closed-step line p l, close-colon (spot line p) (closed_from line (suc p)) e, colon-no-blank (get_or line p 0) e, (closed-skip (suc p)).0)

  pieces-joined : (p : ℕ) → is_colon (get_or line (reach is_blank line p) 0) ≡ true → pieces line p ≡ pieces line (reach is_blank line p)
  unfolding pieces
  pieces-joined p e = rw (← (closed-skip p).0, skip-at-colon (closed_from line p) ((closed-skip p).1 ∙ e))

  pieces-gap : (p : ℕ) → p < length line → is_blank (get_or line p 0) ≡ true → is_colon (get_or line (reach is_blank line p) 0) ≡ false
      → pieces line p ≡ [] ∷ pieces line (suc p)
  unfolding pieces split spot
  pieces-gap p l e f =
      let g : at_colon (closed_from line (suc p)) ≡ false = (closed-skip (suc p)).1 ∙ rw (← reach-go is_blank line p l e) f in
      rw (closed-step line p l, close-blank (spot line p) (closed_from line (suc p)) e, g, e)

  Blanks : ℕ → Type 0
  Blanks p = words_from line p ≡ words_from line (reach is_blank line p)

  -- leading blanks make no word
  pub words-skip : (p : ℕ) → words_from line p ≡ words_from line (reach is_blank line p)
  unfolding Blanks words_from solid
  words-skip = places Blanks (length line) (λ p l. rw (reach-end is_blank line p l)) one
    where
      one : (p : ℕ) → p < length line → Blanks (suc p) → Blanks p
      one p l r = go (truth (is_blank (get_or line p 0))) (truth (is_colon (get_or line (reach is_blank line p) 0)))
        where
          go : (is_blank (get_or line p 0) ≡ true) ⊎ (is_blank (get_or line p 0) ≡ false)
              → (is_colon (get_or line (reach is_blank line p) 0) ≡ true) ⊎ (is_colon (get_or line (reach is_blank line p) 0) ≡ false) → Blanks p
          go (inr e) f = rw (reach-stop is_blank line p e)
          go (inl e) (inl f) = rw (pieces-joined p f)
          go (inl e) (inr f) = rw (pieces-gap p l e f, reach-go is_blank line p l e) r

  pub words-over : (p : ℕ) → length line ≤ p → (words_from line p ≡ []) × (rest_from line p ≡ []) × (names_from line p ≡ [] ∷ [])
  unfolding words_from solid rest_from names_from split
  words-over p l = rw (pieces_end p l) (refl, refl, refl)

  unfoldable Step : ℕ → Type 0
  Step p =
      (names_from line p ≡ cut line p ∷ cond (joined line p) (names_from line (next_name line p)) [])
      × (rest_from line p ≡ cond (joined line p) (rest_from line (next_name line p)) (words_from line (gap_end line p)))

  step-over : (p : ℕ) → length line ≤ p → Step p
  unfolding Step names_from rest_from words_from split solid
  step-over p l =
      rw (reach-end is_plain line p l, reach-end is_blank line p l, pieces_end p l, get_or-eq_default line 0 l, sub_self) (refl, refl)

  step-plain : (p : ℕ) → p < length line → is_plain (get_or line p 0) ≡ true → Step (suc p) → Step p
  unfolding Step names_from rest_from words_from spot
  step-plain p l e r =
      let f = plain-parts (get_or line p 0) e in
      rw (reach-go is_plain line p l e, cut-more line p (reach is_plain line (suc p)) l (reach-le is_plain line (suc p))) (
        rw (pieces-plain p l f.0 f.1, head-grow) (names-plain (spot line p) _ _ _ f.1 r.0),
        rw (pieces-plain p l f.0 f.1, tail-grow) r.1,
      )

  step-joined : (p : ℕ) → name_end line p ≡ p → joined line p ≡ true → Step p
  unfolding Step names_from rest_from words_from spot
  step-joined p e f =
      let q = reach is_blank line p in
      let g : is_colon (get_or line q 0) ≡ true = rw e at f in
      let l : q < length line = colon-inside line q g in
      rw (e, g, sub_self) (
        rw (pieces-joined p g, pieces-colon q l g, head-grow, names-colon (spot line q) _ g, add-one),
        rw (pieces-joined p g, pieces-colon q l g, tail-grow, add-one),
      )

  step-gap : (p : ℕ) → p < length line → name_end line p ≡ p → is_blank (get_or line p 0) ≡ true → joined line p ≡ false → Step p
  unfolding Step names_from rest_from words_from split
  step-gap p l e f g =
      let h : is_colon (get_or line (reach is_blank line p) 0) ≡ false = rw e at g in
      rw (e, h, sub_self, pieces-gap p l f h) (refl, words-skip (suc p) ∙ rw (reach-go is_blank line p l f))

  step : (p : ℕ) → Step p
  step = places Step (length line) step-over one
    where
      one : (p : ℕ) → p < length line → Step (suc p) → Step p
      one p l r = go (truth (is_plain (get_or line p 0))) (truth (joined line p)) (truth (is_blank (get_or line p 0)))
        where
          go : (is_plain (get_or line p 0) ≡ true) ⊎ (is_plain (get_or line p 0) ≡ false) → (joined line p ≡ true) ⊎ (joined line p ≡ false)
              → (is_blank (get_or line p 0) ≡ true) ⊎ (is_blank (get_or line p 0) ≡ false) → Step p
          go (inl e) f g = step-plain p l e r
          go (inr e) (inl f) g = step-joined p (reach-stop is_plain line p e) f
          go (inr e) (inr f) (inl g) = step-gap p l (reach-stop is_plain line p e) g f
          go (inr e) (inr f) (inr g) =
              let h : joined line p ≡ true = rw (reach-stop is_plain line p e, reach-stop is_blank line p g) (plain-or (get_or line p 0) e g) in
              absurd (true≢false (sym h ∙ f))

  -- the names from a place: the cut there and, if a colon joins, those from the next name
  pub names-step : (p : ℕ) → names_from line p ≡ cut line p ∷ cond (joined line p) (names_from line (next_name line p)) []
  unfolding Step
  names-step p = (step p).0

  -- the words after the word at a place: those after its next name or, if it has none, those past the gap
  pub rest-step : (p : ℕ) → rest_from line p ≡ cond (joined line p) (rest_from line (next_name line p)) (words_from line (gap_end line p))
  unfolding Step
  rest-step p = (step p).1
