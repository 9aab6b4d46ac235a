-- The names of a line's words do not go by the places of its bytes: closing, splitting and naming look at the bytes alone, so each
-- commutes with forgetting the places. What a line reads as can then be told of bytes that stand anywhere.
use mathlib.Core.Bool.{Bool, true, false, ◌&&◌, cond}
use mathlib.Core.List.{List, [], ◌∷◌, map}
use mathlib.Core.Path.{◌≡◌, refl, sym}
use Prim.Native.Nat.{ℕ, suc}
use lib.ListN.{length, get_or, length-map, get_or-map}
use Rattle.paper.specs.Line.{Spot, placed, blank_spot, colon_spot, skipped, at_colon, close, closed, grow, split, bytes_in, names_in, Word, solid, words, word}

-- a byte that stands nowhere in particular
abbrev pub bare : ℕ → Spot
bare b = record { at = 0; byte = b }

abbrev forget : Spot → Spot
forget b = bare b.byte

abbrev pub names_of : List Word → List (List (List ℕ))
names_of = map (λ w. w.names)

-- the names of the words of bytes that stand anywhere
unfoldable pub spoken : List ℕ → List (List (List ℕ))
spoken line = names_of (solid (split blank_spot (closed (map bare line))))

forget-placed : (p : ℕ) (s : List ℕ) → map forget (placed p s) ≡ map bare s
unfolding placed
forget-placed p [] = refl
forget-placed p (b ∷ s) = rw (forget-placed (suc p) s)

forget-skipped : (s : List Spot) → skipped (map forget s) ≡ map forget (skipped s)
unfolding skipped
forget-skipped [] = refl
forget-skipped (b ∷ s) = go (blank_spot b) (forget-skipped s)
  where
    go : (t : Bool) → skipped (map forget s) ≡ map forget (skipped s)
        → cond t (skipped (map forget s)) (map forget (b ∷ s)) ≡ map forget (cond t (skipped s) (b ∷ s))
    go true e = e
    go false e = refl

forget-colon : (s : List Spot) → at_colon (map forget s) ≡ at_colon s
unfolding at_colon
forget-colon [] = refl
forget-colon (b ∷ s) = refl

forget-close : (b : Spot) (s : List Spot) → close (forget b) (map forget s) ≡ map forget (close b s)
unfolding close
forget-close b s = rw (forget-skipped s, forget-colon s) (go (colon_spot b) (blank_spot b && at_colon s))
  where
    go : (t v : Bool) → cond t (map forget (b ∷ skipped s)) (cond v (map forget s) (map forget (b ∷ s)))
        ≡ map forget (cond t (b ∷ skipped s) (cond v s (b ∷ s)))
    go true v = refl
    go false true = refl
    go false false = refl

forget-closed : (s : List Spot) → closed (map forget s) ≡ map forget (closed s)
unfolding closed
forget-closed [] = refl
forget-closed (b ∷ s) = rw (forget-closed s) (forget-close b (closed s))

forget-grow : (b : Spot) (ws : List (List Spot)) → grow (forget b) (map (map forget) ws) ≡ map (map forget) (grow b ws)
unfolding grow
forget-grow b [] = refl
forget-grow b (w ∷ ws) = refl

forget-split : (mark : Spot → Bool) → ((b : Spot) → mark (forget b) ≡ mark b) → (s : List Spot)
    → split mark (map forget s) ≡ map (map forget) (split mark s)
unfolding split
forget-split mark h [] = refl
forget-split mark h (b ∷ s) = rw (h b, forget-split mark h s) (go (mark b))
  where
    go : (t : Bool) → cond t ([] ∷ map (map forget) (split mark s)) (grow (forget b) (map (map forget) (split mark s)))
        ≡ map (map forget) (cond t ([] ∷ split mark s) (grow b (split mark s)))
    go true = refl
    go false = forget-grow b (split mark s)

forget-bytes : (s : List Spot) → bytes_in (map forget s) ≡ bytes_in s
forget-bytes [] = refl
forget-bytes (b ∷ s) = rw (forget-bytes s)

forget-pieces : (ws : List (List Spot)) → map bytes_in (map (map forget) ws) ≡ map bytes_in ws
forget-pieces [] = refl
forget-pieces (w ∷ ws) = rw (forget-bytes w, forget-pieces ws)

forget-names : (s : List Spot) → names_in (map forget s) ≡ names_in s
forget-names s = rw (forget-split colon_spot (λ b. refl) s) (forget-pieces (split colon_spot s))

forget-solid : (ws : List (List Spot)) → names_of (solid (map (map forget) ws)) ≡ names_of (solid ws)
unfolding solid
forget-solid [] = refl
forget-solid ([] ∷ ws) = forget-solid ws
forget-solid ((b ∷ s) ∷ ws) = rw (forget-names (b ∷ s), forget-solid ws)

-- the names of a line's words, wherever it stands
pub spoken-words : (line : List ℕ) → names_of (words line) ≡ spoken line
unfolding words spoken
spoken-words line =
    rw (← forget-placed 0 line, forget-closed (placed 0 line), forget-split blank_spot (λ b. refl) (closed (placed 0 line)))
    (sym (forget-solid (split blank_spot (closed (placed 0 line)))))

pub spoken-count : (line : List ℕ) → length (words line) ≡ length (spoken line)
spoken-count line = rw (← spoken-words line) (sym (length-map (words line) (λ w. w.names)))

pub spoken-word : (line : List ℕ) (k : ℕ) → (word line k).names ≡ get_or (spoken line) k ([] ∷ [])
unfolding word
spoken-word line k =
    rw (← spoken-words line) (sym (get_or-map (λ w. w.names) (words line) k (record { start = length line; names = [] ∷ [] })))
