-- The stages tell the first word as `Line` cuts it, WRS or `WRS*`: each stage's verdict on the bytes to come is a fact about those bytes
-- once the blanks beside colons are dropped, proved from the last stage back.
use mathlib.Core.Bool.{Bool, true, false, ◌&&◌, ◌||◌, not, cond, true≢false, and-true}
use mathlib.Core.List.{List, [], ◌∷◌, ◌++◌, map, nil≢cons}
use mathlib.Core.Logic.{◌⊎◌, inl, inr}
use mathlib.Core.Path.{◌≡◌, refl, sym}
use Prim.Native.Nat.{ℕ, suc}
use lib.Dec.{eqb}
use lib.ListN.{length, get_or}
use borrow.Author.Tests.{eqb-true}
use Rattle.paper.specs.Name.{same, alone}
use Rattle.paper.specs.Line.{Spot, placed, blank_spot, colon_spot, skipped, at_colon, close, closed, grow, split, bytes_in, names_in, solid, words, word}
use Rattle.words.specs.Place.{head}
use Rattle.words.proofs.Pieces.{head-grow}
use Rattle.laws.proofs.Tests.{truth, and-no-right}
use Rattle.filebox.specs.FirstWord.{after, stages, takes}
use Rattle.filebox.specs.Box.{takes_text}
use Rattle.filebox.specs.declared.first_word.Stage.{Stage}
use Rattle.filebox.specs.declared.first_word.Stage.TheVariants.{Blanks, W, Wr, Wrs, Star, Gap, Is, IsNot}

stays-is : (s : List ℕ) → stages Is s ≡ Is
unfolding stages
stays-is [] = refl
stays-is (b ∷ s) = stays-is s

stays-not : (s : List ℕ) → stages IsNot s ≡ IsNot
unfolding stages
stays-not [] = refl
stays-not (b ∷ s) = stays-not s

-- the bytes from place p on, without the blanks beside colons, and the names of the piece that starts there
unfoldable shut : ℕ → List ℕ → List Spot
shut p s = closed (placed p s)

unfoldable here : ℕ → List ℕ → List (List ℕ)
here p s = names_in (head (split blank_spot (shut p s)))

-- a word of several names is no single name
two-names : (q n : List ℕ) (w : List Spot) → alone q (n ∷ names_in w) ≡ false
unfolding split grow
two-names q n [] = refl
two-names q n (b ∷ w) = go (colon_spot b) (split colon_spot w)
  where
    go : (t : Bool) (ws : List (List Spot)) → alone q (n ∷ map bytes_in (cond t ([] ∷ ws) (grow b ws))) ≡ false
    go true ws = refl
    go false [] = refl
    go false (v ∷ ws) = refl

colon-names : (q : List ℕ) (b : Spot) (w : List Spot) → colon_spot b ≡ true → alone q (names_in (b ∷ w)) ≡ false
unfolding split
colon-names q b w e = rw e (two-names q [] w)

some-names : (w : List Spot) → split colon_spot w ≡ [] → ⊥
unfolding split grow
some-names [] e = nil≢cons (sym e)
some-names (b ∷ w) e = go (colon_spot b) (split colon_spot w) e
  where
    go : (t : Bool) (ws : List (List Spot)) → cond t ([] ∷ ws) (grow b ws) ≡ [] → ⊥
    go true ws f = nil≢cons (sym f)
    go false [] f = nil≢cons (sym f)
    go false (v ∷ ws) f = nil≢cons (sym f)

-- a letter before some names
letter-names : (a : ℕ) (q : List ℕ) (b : Spot) (w : List Spot) → colon_spot b ≡ false
    → alone (a ∷ q) (names_in (b ∷ w)) ≡ (eqb b.byte a && alone q (names_in w))
unfolding split grow same
letter-names a q b w e = rw e (go (split colon_spot w) (some-names w))
  where
    go : (ws : List (List Spot)) → (ws ≡ [] → ⊥) → alone (a ∷ q) (map bytes_in (grow b ws)) ≡ (eqb b.byte a && alone q (map bytes_in ws))
    go [] h = absurd (h refl)
    go (v ∷ []) h = refl
    go (v ∷ u ∷ ws) h = sym (and-no-right (eqb b.byte a) false refl)

no_names : (b : Spot) (w : List Spot) → colon_spot b ≡ false → alone [] (names_in (b ∷ w)) ≡ false
unfolding split grow same
no_names b w e = rw e (go (split colon_spot w))
  where
    go : (ws : List (List Spot)) → alone [] (map bytes_in (grow b ws)) ≡ false
    go [] = refl
    go (v ∷ []) = refl
    go (v ∷ u ∷ ws) = refl

-- one byte before a shut line, by its kind
shut-blank : (p : ℕ) (s : List ℕ) → shut p (32 ∷ s) ≡ cond (at_colon (shut (suc p) s)) (shut (suc p) s) (record { at = p; byte = 32 } ∷ shut (suc p) s)
unfolding shut placed closed close
shut-blank p s = refl

shut-colon : (p : ℕ) (s : List ℕ) → shut p (58 ∷ s) ≡ record { at = p; byte = 58 } ∷ skipped (shut (suc p) s)
unfolding shut placed closed close
shut-colon p s = refl

shut-plain : (p b : ℕ) (s : List ℕ) → eqb b 32 ≡ false → eqb b 58 ≡ false → shut p (b ∷ s) ≡ record { at = p; byte = b } ∷ shut (suc p) s
unfolding shut placed closed close
shut-plain p b s e f = rw (f, e)

-- a piece that starts with a colon, or with a blank, is no name
head-colon : (q : List ℕ) (s : List Spot) → at_colon s ≡ true → alone q (names_in (head (split blank_spot s))) ≡ false
unfolding at_colon split
head-colon q [] e = absurd (true≢false (sym e))
head-colon q (b ∷ s) e =
    let f : blank_spot b ≡ false = rw (eqb-true b.byte 58 e) in
    rw (f, head-grow b (split blank_spot s)) (colon-names q b (head (split blank_spot s)) e)

head_more : (b : Spot) (s : List Spot) → blank_spot b ≡ false → head (split blank_spot (b ∷ s)) ≡ b ∷ head (split blank_spot s)
unfolding split
head_more b s e = rw (e, head-grow b (split blank_spot s))

-- a blank byte, a colon, or another
kinds : {X : Type 0} (b : ℕ) → (b ≡ 32 → X) → (b ≡ 58 → X) → (eqb b 32 ≡ false → eqb b 58 ≡ false → X) → X
kinds {X} b blank colon plain = go (truth (eqb b 32)) (truth (eqb b 58))
  where
    go : (eqb b 32 ≡ true) ⊎ (eqb b 32 ≡ false) → (eqb b 58 ≡ true) ⊎ (eqb b 58 ≡ false) → X
    go (inl e) f = blank (eqb-true b 32 e)
    go (inr e) (inl f) = colon (eqb-true b 58 f)
    go (inr e) (inr f) = plain e f

-- the names of the piece that starts here, by its first byte
here-none : (p : ℕ) → here p [] ≡ [] ∷ []
unfolding here shut placed closed split
here-none p = refl

here-blank : (q : List ℕ) (p : ℕ) (s : List ℕ) → alone q (here p (32 ∷ s)) ≡ (not (at_colon (shut (suc p) s)) && same [] q)
unfolding here split
here-blank q p s = rw (shut-blank p s) (go (truth (at_colon (shut (suc p) s))))
  where
    go : (at_colon (shut (suc p) s) ≡ true) ⊎ (at_colon (shut (suc p) s) ≡ false)
        → alone q (names_in (head (split blank_spot (cond (at_colon (shut (suc p) s)) (shut (suc p) s) (record { at = p; byte = 32 } ∷ shut (suc p) s)))))
        ≡ (not (at_colon (shut (suc p) s)) && same [] q)
    go (inl e) = rw e (head-colon q (shut (suc p) s) e)
    go (inr e) = rw e

here-colon : (q : List ℕ) (p : ℕ) (s : List ℕ) → alone q (here p (58 ∷ s)) ≡ false
unfolding here at_colon
here-colon q p s = rw (shut-colon p s) (head-colon q (record { at = p; byte = 58 } ∷ skipped (shut (suc p) s)) refl)

here-letter : (a : ℕ) (q : List ℕ) (p b : ℕ) (s : List ℕ) → eqb b 32 ≡ false → eqb b 58 ≡ false
    → alone (a ∷ q) (here p (b ∷ s)) ≡ (eqb b a && alone q (here (suc p) s))
unfolding here
here-letter a q p b s e f =
    rw (shut-plain p b s e f, head_more (record { at = p; byte = b }) (shut (suc p) s) e)
    (letter-names a q (record { at = p; byte = b }) (head (split blank_spot (shut (suc p) s))) f)

here-over : (p b : ℕ) (s : List ℕ) → eqb b 32 ≡ false → eqb b 58 ≡ false → alone [] (here p (b ∷ s)) ≡ false
unfolding here
here-over p b s e f =
    rw (shut-plain p b s e f, head_more (record { at = p; byte = b }) (shut (suc p) s) e)
    (no_names (record { at = p; byte = b }) (head (split blank_spot (shut (suc p) s))) f)

-- after the word and blanks: it is the word unless a colon follows
shut_none : (p : ℕ) → shut p [] ≡ []
unfolding shut placed closed
shut_none p = refl

at-blank : (p : ℕ) (s : List ℕ) → at_colon (shut p (32 ∷ s)) ≡ at_colon (shut (suc p) s)
unfolding at_colon
at-blank p s = rw (shut-blank p s) (go (truth (at_colon (shut (suc p) s))))
  where
    go : (at_colon (shut (suc p) s) ≡ true) ⊎ (at_colon (shut (suc p) s) ≡ false)
        → at_colon (cond (at_colon (shut (suc p) s)) (shut (suc p) s) (record { at = p; byte = 32 } ∷ shut (suc p) s)) ≡ at_colon (shut (suc p) s)
    go (inl e) = rw e e
    go (inr e) = rw e

gap-tells : (p : ℕ) (s : List ℕ) → takes (stages Gap s) ≡ not (at_colon (shut p s))
unfolding stages at_colon
gap-tells p [] = rw (shut_none p)
gap-tells p (b ∷ s) =
    kinds b
    (λ (e : b ≡ 32). rw (e, at-blank p s) (gap-tells (suc p) s))
    (λ (e : b ≡ 58). rw (e, shut-colon p s, stays-not s))
    (λ (e : eqb b 32 ≡ false) (f : eqb b 58 ≡ false). rw (shut-plain p b s e f, e, f, stays-is s))

-- one of two words
abbrev one_of : List ℕ → List ℕ → List (List ℕ) → Bool
one_of q r ns = alone q ns || alone r ns

-- after WRS*: it is the word if the piece ends here
star-tells : (p : ℕ) (s : List ℕ) → takes (stages Star s) ≡ alone [] (here p s)
unfolding stages same
star-tells p [] = rw (here-none p)
star-tells p (b ∷ s) =
    kinds b
    (λ (e : b ≡ 32). rw (e, here-blank [] p s, gap-tells (suc p) s) (sym (and-true (not (at_colon (shut (suc p) s))))))
    (λ (e : b ≡ 58). rw (e, here-colon [] p s, stays-not s))
    (λ (e : eqb b 32 ≡ false) (f : eqb b 58 ≡ false). rw (here-over p b s e f, e, stays-not s))

-- after WRS: it is one of the words if the piece ends here, or with the byte `*`
wrs-tells : (p : ℕ) (s : List ℕ) → takes (stages Wrs s) ≡ one_of [] (42 ∷ []) (here p s)
unfolding stages same
wrs-tells p [] = rw (here-none p)
wrs-tells p (b ∷ s) =
    kinds b
    (λ (e : b ≡ 32). rw (e, here-blank [] p s, here-blank (42 ∷ []) p s, gap-tells (suc p) s) (ends (not (at_colon (shut (suc p) s)))))
    (λ (e : b ≡ 58). rw (e, here-colon [] p s, here-colon (42 ∷ []) p s, stays-not s))
    (λ (e : eqb b 32 ≡ false) (f : eqb b 58 ≡ false). rw (here-over p b s e f, here-letter 42 [] p b s e f, e) (go (truth (eqb b 42))))
  where
    ends : (t : Bool) → t ≡ ((t && true) || (t && false))
    ends true = refl
    ends false = refl

    go : (eqb b 42 ≡ true) ⊎ (eqb b 42 ≡ false) → takes (stages (cond (eqb b 42) Star IsNot) s) ≡ (eqb b 42 && alone [] (here (suc p) s))
    go (inl g) = rw g (star-tells (suc p) s)
    go (inr g) = rw (g, stays-not s)

-- a letter that both have, and then what the stage after it tells
module _ (a : ℕ) (q r : List ℕ) (nx : Stage) (more : (p : ℕ) (s : List ℕ) → takes (stages nx s) ≡ one_of q r (here p s)) where
  on : (p b : ℕ) (s : List ℕ) → (eqb b a ≡ true) ⊎ (eqb b a ≡ false)
      → takes (stages (cond (eqb b a) nx IsNot) s) ≡ ((eqb b a && alone q (here p s)) || (eqb b a && alone r (here p s)))
  on p b s (inl g) = rw g (more p s)
  on p b s (inr g) = rw (g, stays-not s)

  module _ (st : Stage) (goes : (b : ℕ) → after st b ≡ cond (eqb b a) nx IsNot) (short : takes st ≡ false) (no-blank : eqb 32 a ≡ false)
      (no-colon : eqb 58 a ≡ false) where
    letter-tells : (p : ℕ) (s : List ℕ) → takes (stages st s) ≡ one_of (a ∷ q) (a ∷ r) (here p s)
    unfolding stages same
    letter-tells p [] = rw (here-none p) short
    letter-tells p (b ∷ s) =
        kinds b
        (λ (e : b ≡ 32).
        rw (
          goes b,
          e,
          here-blank (a ∷ q) p s,
          here-blank (a ∷ r) p s,
          no-blank,
          stays-not s,
          and-no-right (not (at_colon (shut (suc p) s))) false refl,
        ))
        (λ (e : b ≡ 58). rw (goes b, e, here-colon (a ∷ q) p s, here-colon (a ∷ r) p s, no-colon, stays-not s))
        (λ (e : eqb b 32 ≡ false) (f : eqb b 58 ≡ false).
        rw (goes b, here-letter a q p b s e f, here-letter a r p b s e f) (on (suc p) b s (truth (eqb b a))))

wr-tells : (p : ℕ) (s : List ℕ) → takes (stages Wr s) ≡ one_of (83 ∷ []) (83 ∷ 42 ∷ []) (here p s)
wr-tells = letter-tells 83 [] (42 ∷ []) Wrs wrs-tells Wr (λ b. refl) refl refl refl

w-tells : (p : ℕ) (s : List ℕ) → takes (stages W s) ≡ one_of (82 ∷ 83 ∷ []) (82 ∷ 83 ∷ 42 ∷ []) (here p s)
w-tells = letter-tells 82 (83 ∷ []) (83 ∷ 42 ∷ []) Wr wr-tells W (λ b. refl) refl refl refl

-- the names of the first word of a shut line
unfoldable ahead : ℕ → List Spot → List (List ℕ)
ahead n c = (get_or (solid (split blank_spot c)) 0 (record { start = n; names = [] ∷ [] })).names

ahead_none : (n p : ℕ) → false ≡ one_of (87 ∷ 82 ∷ 83 ∷ []) (87 ∷ 82 ∷ 83 ∷ 42 ∷ []) (ahead n (shut p []))
unfolding ahead shut placed closed split solid same
ahead_none n p = refl

ahead-blank : (n p : ℕ) (s : List ℕ) → ahead n (shut p (32 ∷ s)) ≡ ahead n (shut (suc p) s)
unfolding ahead split solid
ahead-blank n p s = rw (shut-blank p s) (go (at_colon (shut (suc p) s)))
  where
    go : (t : Bool) → ahead n (cond t (shut (suc p) s) (record { at = p; byte = 32 } ∷ shut (suc p) s)) ≡ ahead n (shut (suc p) s)
    go true = refl
    go false = refl

starts : (n : ℕ) (b : Spot) (s : List Spot) → blank_spot b ≡ false → ahead n (b ∷ s) ≡ names_in (head (split blank_spot (b ∷ s)))
unfolding ahead split grow solid
starts n b s e = rw (ahead, e) (go (split blank_spot s))
  where
    go : (ws : List (List Spot)) → (get_or (solid (grow b ws)) 0 (record { start = n; names = [] ∷ [] })).names ≡ names_in (head (grow b ws))
    go [] = refl
    go (w ∷ ws) = refl

ahead-colon : (n p : ℕ) (s : List ℕ) → ahead n (shut p (58 ∷ s)) ≡ here p (58 ∷ s)
unfolding here
ahead-colon n p s = rw (shut-colon p s) (starts n (record { at = p; byte = 58 }) (skipped (shut (suc p) s)) refl)

ahead-plain : (n p b : ℕ) (s : List ℕ) → eqb b 32 ≡ false → eqb b 58 ≡ false → ahead n (shut p (b ∷ s)) ≡ here p (b ∷ s)
unfolding here
ahead-plain n p b s e f = rw (shut-plain p b s e f) (starts n (record { at = p; byte = b }) (shut (suc p) s) e)

blanks-tell : (n p : ℕ) (s : List ℕ) → takes (stages Blanks s) ≡ one_of (87 ∷ 82 ∷ 83 ∷ []) (87 ∷ 82 ∷ 83 ∷ 42 ∷ []) (ahead n (shut p s))
unfolding stages
blanks-tell n p [] = ahead_none n p
blanks-tell n p (b ∷ s) =
    kinds b
    (λ (e : b ≡ 32). rw (e, ahead-blank n p s) (blanks-tell n (suc p) s))
    (λ (e : b ≡ 58).
    rw (e, ahead-colon n p s, here-colon (87 ∷ 82 ∷ 83 ∷ []) p s, here-colon (87 ∷ 82 ∷ 83 ∷ 42 ∷ []) p s, stays-not s))
    (λ (e : eqb b 32 ≡ false) (f : eqb b 58 ≡ false).
    rw (ahead-plain n p b s e f, here-letter 87 (82 ∷ 83 ∷ []) p b s e f, here-letter 87 (82 ∷ 83 ∷ 42 ∷ []) p b s e f, e)
    (on 87 (82 ∷ 83 ∷ []) (82 ∷ 83 ∷ 42 ∷ []) W w-tells (suc p) b s (truth (eqb b 87))))

-- the stage of a line says whether its first word is WRS or WRS*
pub first_word : (line : List ℕ) → takes (stages Blanks line) ≡ takes_text line
unfolding takes_text word words ahead shut
first_word line = blanks-tell (length line) 0 line

-- one byte more at the end
pub stages-more : (st : Stage) (s : List ℕ) (b : ℕ) → stages st (s ++ b ∷ []) ≡ after (stages st s) b
unfolding stages
stages-more st [] b = refl
stages-more st (a ∷ s) b = stages-more (after st a) s b
