-- Word k of the line starts where the reader finds it, and its names are those from there: a place whose byte is no blank starts a
-- word, so the words that follow a place are the words from the place where the first of them starts.
use mathlib.Core.Bool.{true, false, cond, true≢false}
use mathlib.Core.List.{List, [], ◌∷◌, nil≢cons, head-eq_of_cons-eq, tail-eq_of_cons-eq}
use mathlib.Core.Logic.{◌⊎◌, inl, inr}
use mathlib.Core.Path.{◌≡◌, refl, sym, ap, ◌∙◌}
use Prim.Native.Nat.{ℕ, zero, suc, ◌+◌, ◌≤◌, ◌<◌}
use native.Mathlib.Omega.{arith}
use lib.ListN.{length, get_or}
use Rattle.std.specs.Prelude.{min}
use Rattle.paper.specs.Line.{Spot, is_blank, is_colon, grow, names_in, Word, solid, words, word}
use Rattle.words.specs.Place.{reach, is_plain, name_end, gap_end, joined, next_name, closed_from, pieces, head, tail, names_from, word_at, rest_from, words_from, start_of, next_word}
use Rattle.laws.proofs.Tests.{truth}
use Rattle.words.proofs.Tests.{side, downward}
use Rattle.words.proofs.Reaches.{reach-stop, reach-le, reach-more, reach-inside, reach-stopped, reach-again}
use Rattle.words.proofs.Pieces.{spot, plain-or, pieces-plain, pieces-colon, words-skip, words-over, rest-step}

pub next-later : (line : List ℕ) (p : ℕ) → p < next_name line p
next-later line p = omega (arith, reach-le is_plain line p, reach-le is_blank line (name_end line p), reach-le is_blank line (gap_end line p + 1))

solid-grow : (b : Spot) (ws : List (List Spot))
    → solid (grow b ws) ≡ record { start = b.at; names = names_in (head (grow b ws)) } ∷ solid (tail (grow b ws))
unfolding solid grow
solid-grow b [] = refl
solid-grow b (w ∷ ws) = refl

-- past the last word, an empty word at the line's end
abbrev none : List ℕ → Word
none line = record { start = length line; names = [] ∷ [] }

module _ (line : List ℕ) where
  -- a place whose byte is no blank starts a word
  words-here : (p : ℕ) → p < length line → is_blank (get_or line p 0) ≡ false
      → words_from line p ≡ record { start = p; names = names_from line p } ∷ rest_from line p
  unfolding words_from names_from rest_from spot
  words-here p l e = go (truth (is_colon (get_or line p 0)))
    where
      go : (is_colon (get_or line p 0) ≡ true) ⊎ (is_colon (get_or line p 0) ≡ false)
          → solid (pieces line p) ≡ record { start = p; names = names_in (head (pieces line p)) } ∷ solid (tail (pieces line p))
      go (inl f) = rw (pieces-colon line p l f) (solid-grow (spot line p) _)
      go (inr f) = rw (pieces-plain line p l e f) (solid-grow (spot line p) _)

  -- words that are those from the place where the first of them starts
  record From (ws : List Word) : Type 0 where
    pub here : ws ≡ words_from line (start_of line ws)
    pub inside : start_of line ws ≤ length line

  words-start : (p : ℕ) → p ≤ length line → start_of line (words_from line p) ≡ reach is_blank line p
  words-start p l = rw (words-skip line p) (go (side (reach is_blank line p) (length line)))
    where
      go : (reach is_blank line p < length line) ⊎ (length line ≤ reach is_blank line p)
          → start_of line (words_from line (reach is_blank line p)) ≡ reach is_blank line p
      go (inl h) = rw (words-here (reach is_blank line p) h (reach-stopped is_blank line p h))
      go (inr h) = rw (words-over line (reach is_blank line p) h).0 (omega (arith, reach-inside is_blank line p l))

  from-words : (p : ℕ) → p ≤ length line → From (words_from line p)
  from-words p l = record { here = rw (words-start p l) (words-skip line p); inside = rw (words-start p l) (reach-inside is_blank line p l) }

  from-rest : (p : ℕ) → From (rest_from line p)
  from-rest = downward (λ p. From (rest_from line p)) (length line) over one
    where
      over : (p : ℕ) → length line ≤ p → From (rest_from line p)
      over p l = rw (words-over line p l).1 (record { here = sym (words-over line (length line) (omega arith)).0; inside = omega arith })

      one : (p : ℕ) → p < length line → ((q : ℕ) → p < q → From (rest_from line q)) → From (rest_from line p)
      one p l r = rw (rest-step line p) (go (truth (joined line p)))
        where
          go : (joined line p ≡ true) ⊎ (joined line p ≡ false)
              → From (cond (joined line p) (rest_from line (next_name line p)) (words_from line (gap_end line p)))
          go (inl e) = rw e (r (next_name line p) (next-later line p))
          go (inr e) = rw e (from-words (gap_end line p) (reach-inside is_blank line (name_end line p) (reach-inside is_plain line p (omega arith))))

  -- the first word is what stands at its place, and the others are those after it
  record First (w : Word) (ws : List Word) : Type 0 where
    pub names : w.names ≡ names_from line w.start
    pub after : ws ≡ rest_from line w.start
    pub inside : w.start < length line

  from_first : (w : Word) (ws : List Word) → From (w ∷ ws) → First w ws
  from_first w ws f = go (side w.start (length line))
    where
      go : (w.start < length line) ⊎ (length line ≤ w.start) → First w ws
      go (inr l) = absurd (nil≢cons (sym (f.here ∙ (words-over line w.start l).0)))
      go (inl l) =
          let e : reach is_blank line w.start ≡ w.start = sym (words-start w.start (omega arith)) ∙ ap (start_of line) (sym f.here) in
          let b : is_blank (get_or line w.start 0) ≡ false = rw e at (reach-stopped is_blank line w.start (rw e l)) in
          let h : w ∷ ws ≡ record { start = w.start; names = names_from line w.start } ∷ rest_from line w.start = f.here ∙ words-here w.start l b in
          record { names = ap (λ v. v.names) (head-eq_of_cons-eq h); after = tail-eq_of_cons-eq h; inside = l }

  start_first : (ws : List Word) → (get_or ws 0 (none line)).start ≡ start_of line ws
  start_first [] = refl
  start_first (w ∷ ws) = refl

  -- word k: its names are those at its place; the next word is the one after it; it stands inside the line if there is one
  record Stands (ws : List Word) (k : ℕ) : Type 0 where
    pub names : (get_or ws k (none line)).names ≡ names_from line (get_or ws k (none line)).start
    pub next : (get_or ws (suc k) (none line)).start ≡ next_word line (get_or ws k (none line)).start
    pub inside : k < length ws → (get_or ws k (none line)).start < length line
    pub outside : length ws ≤ k → (get_or ws k (none line)).start ≡ length line

  stands : (ws : List Word) → From ws → (k : ℕ) → Stands ws k
  unfolding next_word
  stands [] f k =
      record {
        names = sym (words-over line (length line) (omega arith)).2;
        next = sym (ap (start_of line) (words-over line (length line) (omega arith)).1);
        inside = λ h. let z : ⊥ = omega arith in absurd z;
        outside = λ h. refl;
      }
  stands (w ∷ ws) f zero =
      let g = from_first w ws f in
      record {
        names = g.names;
        next = rw (← g.after) (start_first ws);
        inside = λ h. g.inside;
        outside = λ h. let z : ⊥ = omega arith in absurd z;
      }
  stands (w ∷ ws) f (suc k) =
      let g = from_first w ws f in
      let r = stands ws (rw g.after (from-rest w.start)) k in
      record { names = r.names; next = r.next; inside = λ h. r.inside (omega arith); outside = λ h. r.outside (omega arith) }

  words-stand : (k : ℕ) → Stands (words line) k
  unfolding words words_from pieces closed_from
  words-stand k = stands (words_from line 0) (from-words 0 (omega arith)) k

  -- the first word starts past the leading blanks
  pub word-zero : (word line 0).start ≡ reach is_blank line 0
  unfolding word words words_from pieces closed_from
  word-zero = start_first (words_from line 0) ∙ words-start 0 (omega arith)

  -- the names of word k are the names from its place: from the offset in a request to the paper's chain
  pub word-names : (k : ℕ) → (word line k).names ≡ names_from line (word line k).start
  unfolding word
  word-names k = (words-stand k).names

  -- word k, found by its place alone
  pub word-here : (k p : ℕ) → p ≡ (word line k).start → word_at line p ≡ word line k
  word-here k p e = rw e (ap (λ (ns : List (List ℕ)). record { start = (word line k).start; names = ns }) (sym (word-names k)))

  pub word_next : (k : ℕ) → (word line (suc k)).start ≡ next_word line (word line k).start
  unfolding word
  word_next k = (words-stand k).next

  pub word-inside : (k : ℕ) → k < length (words line) → (word line k).start < length line
  unfolding word
  word-inside k = (words-stand k).inside

  pub word-outside : (k : ℕ) → length (words line) ≤ k → (word line k).start ≡ length line
  unfolding word
  word-outside k = (words-stand k).outside

  pub word-there : (k : ℕ) → (word line k).start < length line → k < length (words line)
  word-there k l = go (side k (length (words line)))
    where
      go : (k < length (words line)) ⊎ (length (words line) ≤ k) → k < length (words line)
      go (inl h) = h
      go (inr h) = let z : ⊥ = omega (arith, word-outside k h) in absurd z

  pub word_none : (k : ℕ) → length line ≤ (word line k).start → length (words line) ≤ k
  word_none k l = go (side k (length (words line)))
    where
      go : (k < length (words line)) ⊎ (length (words line) ≤ k) → length (words line) ≤ k
      go (inr h) = h
      go (inl h) = let z : ⊥ = omega (arith, word-inside k h) in absurd z

  -- the next word, name by name
  pub next-over : (p : ℕ) → length line ≤ p → next_word line p ≡ length line
  unfolding next_word
  next-over p l = rw (words-over line p l).1

  pub next-joined : (p : ℕ) → joined line p ≡ true → next_word line (next_name line p) ≡ next_word line p
  unfolding next_word
  next-joined p e = rw (rest-step line p, e)

  pub next_last : (p : ℕ) → p ≤ length line → joined line p ≡ false → next_word line p ≡ gap_end line p
  unfolding next_word
  next_last p l e =
      rw (rest-step line p, e)
      (words-start (gap_end line p) (reach-inside is_blank line (name_end line p) (reach-inside is_plain line p l))
      ∙ reach-again is_blank line (name_end line p))

  pub next-here : (p : ℕ) → joined line p ≡ false → next_word line p ≡ min (gap_end line p) (length line)
  next-here p e = go (side p (suc (length line)))
    where
      go : (p < suc (length line)) ⊎ (suc (length line) ≤ p) → next_word line p ≡ min (gap_end line p) (length line)
      go (inl l) =
          let h = reach-inside is_blank line (name_end line p) (reach-inside is_plain line p (omega arith)) in
          rw (next_last p (omega arith) e) (omega arith)
      go (inr l) = rw (next-over p (omega arith)) (omega (arith, reach-le is_plain line p, reach-le is_blank line (name_end line p)))

  gap-later : (p : ℕ) → p < length line → joined line p ≡ false → p < gap_end line p
  gap-later p l e = go (truth (is_plain (get_or line p 0))) (truth (is_blank (get_or line p 0)))
    where
      go : (is_plain (get_or line p 0) ≡ true) ⊎ (is_plain (get_or line p 0) ≡ false)
          → (is_blank (get_or line p 0) ≡ true) ⊎ (is_blank (get_or line p 0) ≡ false) → p < gap_end line p
      go (inl f) g = omega (arith, reach-more is_plain line p l f, reach-le is_blank line (name_end line p))
      go (inr f) (inl g) = rw (reach-stop is_plain line p f) (reach-more is_blank line p l g)
      go (inr f) (inr g) =
          let h : joined line p ≡ true = rw (reach-stop is_plain line p f, reach-stop is_blank line p g) (plain-or (get_or line p 0) f g) in
          absurd (true≢false (sym h ∙ e))

  pub next-word-later : (p : ℕ) → p < length line → p < next_word line p
  next-word-later = downward (λ p. p < length line → p < next_word line p) (length line) (λ p l h. let z : ⊥ = omega arith in absurd z) one
    where
      one : (p : ℕ) → p < length line → ((q : ℕ) → p < q → q < length line → q < next_word line q) → p < length line → p < next_word line p
      one p l r h = go (truth (joined line p)) (side (next_name line p) (length line))
        where
          go : (joined line p ≡ true) ⊎ (joined line p ≡ false) → (next_name line p < length line) ⊎ (length line ≤ next_name line p) → p < next_word line p
          go (inl e) (inl i) = rw (← next-joined p e) (omega (arith, next-later line p, r (next_name line p) (next-later line p) i))
          go (inl e) (inr i) = rw (← next-joined p e, next-over (next_name line p) i) l
          go (inr e) i = rw (next_last p (omega arith) e) (gap-later p l e)
