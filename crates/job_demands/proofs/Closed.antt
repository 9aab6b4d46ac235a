-- A colon and a link put after a chain: a link has neither blank nor colon, so closing leaves it whole, splitting by blanks leaves it
-- at the end of the last piece, and splitting that by colons leaves it a name of its own, after the names that the chain has alone.
use mathlib.Core.Bool.{Bool, true, false, ◌&&◌, not, cond}
use mathlib.Core.List.{List, [], ◌∷◌, ◌++◌, map, map-append, nil≢cons, head-eq_of_cons-eq, tail-eq_of_cons-eq}
use mathlib.Core.Path.{◌≡◌, refl, sym, ◌∙◌}
use Prim.Native.Nat.{ℕ}
use native.Mathlib.Omega.{arith}
use lib.Dec.{eqb, leb}
use borrow.Author.Tests.{leb-true, ne_eqb, not-true}
use Rattle.paper.specs.Name.{all, in_name}
use Rattle.paper.specs.Line.{Spot, blank_spot, colon_spot, skipped, at_colon, close, closed, grow, split, bytes_in, names_in, solid}
use Rattle.laws.proofs.Tests.{and_left, and_right, and_parts}
use Rattle.laws.proofs.Lists.{Every, every-imp}
use Rattle.job_demands.proofs.Bare.{bare, names_of}

-- ---- a link, byte by byte

-- neither blank nor colon
abbrev pub Plain : Spot → Type 0
Plain b = (blank_spot b ≡ false) × (colon_spot b ≡ false)

plain-name : (b : ℕ) → in_name b ≡ true → Plain (bare b)
plain-name b e =
    let f = and_parts (leb 33 b && leb b 95 && not (eqb b 64)) _ e in
    let g = leb-true 33 b (and_left (leb 33 b) _ (and_left (leb 33 b && leb b 95) _ f.0)) in
    (ne_eqb b 32 (λ (z : b ≡ 32). omega arith), not-true _ f.1)

pub plain-link : (link : List ℕ) → all in_name link ≡ true → Every Plain (map bare link)
unfolding all
plain-link [] e = tt
plain-link (b ∷ s) e = (plain-name b (and_left (in_name b) _ e), plain-link s (and_right (in_name b) _ e))

plain-skipped : (x : List Spot) → Every Plain x → skipped x ≡ x
unfolding skipped
plain-skipped [] h = refl
plain-skipped (b ∷ x) h = rw h.0.0

plain_closed : (x : List Spot) → Every Plain x → closed x ≡ x
unfolding closed close
plain_closed [] h = refl
plain_closed (b ∷ x) h = rw (plain_closed x h.1, h.0.1, h.0.0)

-- ---- closing

-- the bytes before a colon are closed with that colon after them
abbrev at_mark : List Spot → Bool
at_mark [] = true
at_mark (b ∷ s) = colon_spot b

unfoldable pub front : List Spot → List Spot
front [] = []
front (b ∷ s) = cond (colon_spot b) (b ∷ skipped (front s)) (cond (blank_spot b && at_mark (front s)) (front s) (b ∷ front s))

module _ (c : Spot) (x : List Spot) (blank : blank_spot c ≡ false) (colon : colon_spot c ≡ true) where
  skipped-before : (f : List Spot) → skipped (f ++ c ∷ x) ≡ skipped f ++ c ∷ x
  unfolding skipped
  skipped-before [] = rw blank
  skipped-before (b ∷ f) = go (blank_spot b) (skipped-before f)
    where
      go : (t : Bool) → skipped (f ++ c ∷ x) ≡ skipped f ++ c ∷ x
          → cond t (skipped (f ++ c ∷ x)) (b ∷ f ++ c ∷ x) ≡ cond t (skipped f) (b ∷ f) ++ c ∷ x
      go true e = e
      go false e = refl

  mark-before : (f : List Spot) → at_colon (f ++ c ∷ x) ≡ at_mark f
  unfolding at_colon
  mark-before [] = colon
  mark-before (b ∷ f) = refl

  closed-before : (a s : List Spot) → closed s ≡ c ∷ x → closed (a ++ s) ≡ front a ++ c ∷ x
  unfolding closed close front
  closed-before [] s e = e
  closed-before (b ∷ a) s e = rw (closed-before a s e, skipped-before (front a), mark-before (front a)) (go (colon_spot b) (blank_spot b && at_mark (front a)))
    where
      go : (t v : Bool) → cond t (b ∷ skipped (front a) ++ c ∷ x) (cond v (front a ++ c ∷ x) (b ∷ front a ++ c ∷ x))
          ≡ cond t (b ∷ skipped (front a)) (cond v (front a) (b ∷ front a)) ++ c ∷ x
      go true v = refl
      go false true = refl
      go false false = refl

-- the line of a chain and a link, closed
pub closed-below : (chain link : List ℕ) → all in_name link ≡ true
    → closed (map bare (chain ++ 58 ∷ link)) ≡ front (map bare chain) ++ bare 58 ∷ map bare link
unfolding closed close
closed-below chain link e =
    rw (map-append bare chain (58 ∷ link))
    (closed-before (bare 58) (map bare link) refl refl (map bare chain) (bare 58 ∷ map bare link) marked)
  where
    h : Every Plain (map bare link)
    h = plain-link link e

    marked : closed (bare 58 ∷ map bare link) ≡ bare 58 ∷ map bare link
    marked = rw (plain_closed (map bare link) h, plain-skipped (map bare link) h)

-- ---- splitting

pub split-some : (mark : Spot → Bool) (s : List Spot) → (v : List Spot) × (vs : List (List Spot)) × (split mark s ≡ v ∷ vs)
unfolding split grow
split-some mark [] = ([], [], refl)
split-some mark (b ∷ s) = go (mark b) (split-some mark s)
  where
    go : (t : Bool) → ((v : List Spot) × (vs : List (List Spot)) × (split mark s ≡ v ∷ vs))
        → (v : List Spot) × (vs : List (List Spot)) × (cond t ([] ∷ split mark s) (grow b (split mark s)) ≡ v ∷ vs)
    go true r = ([], split mark s, refl)
    go false r = (b ∷ r.0, r.1, rw r.2)

pub names-some : (s : List Spot) → (m : List ℕ) × (ms : List (List ℕ)) × (names_in s ≡ m ∷ ms)
names-some s = let r = split-some colon_spot s in (bytes_in r.0, map bytes_in r.1, rw r.2)

-- bytes put after the last piece
unfoldable pub extend : List (List Spot) → List Spot → List (List Spot)
extend [] x = x ∷ []
extend (w ∷ []) x = (w ++ x) ∷ []
extend (w ∷ v ∷ ws) x = w ∷ extend (v ∷ ws) x

unfoldable pub last_piece : List (List Spot) → List Spot
last_piece [] = []
last_piece (w ∷ []) = w
last_piece (w ∷ v ∷ ws) = last_piece (v ∷ ws)

grow-extend : (b : Spot) (ws : List (List Spot)) (x : List Spot) → grow b (extend ws x) ≡ extend (grow b ws) x
unfolding grow extend
grow-extend b [] x = refl
grow-extend b (w ∷ []) x = refl
grow-extend b (w ∷ v ∷ ws) x = refl

-- bytes without a mark are one piece, and lengthen the last piece of what stands before them
unmarked : (mark : Spot → Bool) (x : List Spot) → Every (λ b. mark b ≡ false) x → split mark x ≡ x ∷ []
unfolding split grow
unmarked mark [] h = refl
unmarked mark (b ∷ x) h = rw (h.0, unmarked mark x h.1)

split-extend : (mark : Spot → Bool) (x : List Spot) → Every (λ b. mark b ≡ false) x → (f : List Spot)
    → split mark (f ++ x) ≡ extend (split mark f) x
unfolding split extend
split-extend mark x h [] = unmarked mark x h
split-extend mark x h (b ∷ f) = rw (split-extend mark x h f) (go (mark b) (split-some mark f))
  where
    go : (t : Bool) → ((v : List Spot) × (vs : List (List Spot)) × (split mark f ≡ v ∷ vs))
        → cond t ([] ∷ extend (split mark f) x) (grow b (extend (split mark f) x)) ≡ extend (cond t ([] ∷ split mark f) (grow b (split mark f))) x
    go true r = rw r.2
    go false r = grow-extend b (split mark f) x

-- a mark divides
split-mark : (mark : Spot → Bool) (c : Spot) (x : List Spot) → mark c ≡ true → (f : List Spot) → split mark (f ++ c ∷ x) ≡ split mark f ++ split mark x
unfolding split grow
split-mark mark c x h [] = rw h
split-mark mark c x h (b ∷ f) = rw (split-mark mark c x h f) (go (mark b) (split-some mark f))
  where
    go : (t : Bool) → ((v : List Spot) × (vs : List (List Spot)) × (split mark f ≡ v ∷ vs))
        → cond t ([] ∷ split mark f ++ split mark x) (grow b (split mark f ++ split mark x))
        ≡ cond t ([] ∷ split mark f) (grow b (split mark f)) ++ split mark x
    go true r = refl
    go false r = rw r.2

-- ---- one word

-- words whose last piece has a byte are some; and where they are one, that piece is it
solid-some : (ws : List (List Spot)) (b : Spot) (x : List Spot) → names_of (solid (extend ws (b ∷ x))) ≡ [] → ⊥
unfolding solid extend
solid-some [] b x e = nil≢cons (sym e)
solid-some ([] ∷ []) b x e = nil≢cons (sym e)
solid-some ((c ∷ w) ∷ []) b x e = nil≢cons (sym e)
solid-some ([] ∷ v ∷ ws) b x e = solid-some (v ∷ ws) b x e
solid-some ((c ∷ w) ∷ v ∷ ws) b x e = nil≢cons (sym e)

solid-one : (ws : List (List Spot)) (b : Spot) (x : List Spot) (n : List (List ℕ)) → names_of (solid (extend ws (b ∷ x))) ≡ n ∷ []
    → n ≡ names_in (last_piece ws ++ b ∷ x)
unfolding solid extend last_piece
solid-one [] b x n e = sym (head-eq_of_cons-eq e)
solid-one ([] ∷ []) b x n e = sym (head-eq_of_cons-eq e)
solid-one ((c ∷ w) ∷ []) b x n e = sym (head-eq_of_cons-eq e)
solid-one ([] ∷ v ∷ ws) b x n e = solid-one (v ∷ ws) b x n e
solid-one ((c ∷ w) ∷ v ∷ ws) b x n e = absurd (solid-some (v ∷ ws) b x (tail-eq_of_cons-eq e))

-- the bytes of a list of them
bytes-bare : (s : List ℕ) → bytes_in (map bare s) ≡ s
bytes-bare [] = refl
bytes-bare (b ∷ s) = rw (bytes-bare s)

-- the names that a chain has before a link put after it: those of the last word of the chain, closed with a colon after it
unfoldable pub fore : List ℕ → List (List ℕ)
fore chain = names_in (last_piece (split blank_spot (front (map bare chain))))

-- where a chain and a link are one word, the link is its last name, and those before it are the chain's
pub one_word : (chain link : List ℕ) (n : List (List ℕ)) → all in_name link ≡ true
    → names_of (solid (split blank_spot (closed (map bare (chain ++ 58 ∷ link))))) ≡ n ∷ [] → n ≡ fore chain ++ link ∷ []
unfolding fore
one_word chain link n e o = single ∙ named
  where
    f : List Spot
    f = front (map bare chain)

    h : Every Plain (map bare link)
    h = plain-link link e

    unblank : Every (λ b. blank_spot b ≡ false) (bare 58 ∷ map bare link)
    unblank = (refl, every-imp Plain (λ b. blank_spot b ≡ false) (map bare link) (λ b p. p.0) h)

    single : n ≡ names_in (last_piece (split blank_spot f) ++ bare 58 ∷ map bare link)
    single =
        solid-one (split blank_spot f) (bare 58) (map bare link) n
        (rw (closed-below chain link e, split-extend blank_spot (bare 58 ∷ map bare link) unblank f) at o)

    named : names_in (last_piece (split blank_spot f) ++ bare 58 ∷ map bare link) ≡ names_in (last_piece (split blank_spot f)) ++ link ∷ []
    named =
        rw (
          split-mark colon_spot (bare 58) (map bare link) refl (last_piece (split blank_spot f)),
          unmarked colon_spot (map bare link) (every-imp Plain (λ b. colon_spot b ≡ false) (map bare link) (λ b p. p.1) h),
          map-append bytes_in (split colon_spot (last_piece (split blank_spot f))) (map bare link ∷ []),
          bytes-bare link,
        )
