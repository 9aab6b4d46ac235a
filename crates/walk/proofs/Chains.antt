-- A chain is walked name by name: a walk from a list of two names or more is its first link and the walk from the rest, one
-- link on; and the last name of a list is the last of its rest.
use mathlib.Core.Bool.{Bool, true, false}
use mathlib.Core.List.{List, [], ◌∷◌}
use mathlib.Core.Path.{◌≡◌, refl, sym, ap, ◌∙◌}
use Prim.Native.Nat.{ℕ, suc, ◌+◌, ◌-◌}
use native.Mathlib.Numerals.{add-one}
use native.Mathlib.Omega.{arith}
use lib.ListN.{length, drop}
use Rattle.paper.specs.Layout.{boxed}
use Rattle.paper.specs.Name.{pointed, dot_w, chain}
use Rattle.paper.specs.Walk.{on, off, look, follow, linked, reached, stopped, to_directory, last_name, to_last}
use Rattle.paper.specs.Walk as W
use Rattle.words.specs.Place.{joined, next_name, cut, names_from}
use Rattle.words.proofs.Pieces.{names-step}
use Rattle.words.proofs.Words.{next-later}
use Rattle.words.proofs.Names.{next-there, next-some, next-value, joined-inside, names-one, names_more, chain-pointed, chain-bare}
use Rattle.laws.proofs.Tests.{clash}
use Rattle.walk.specs.Shown.{step_at}

-- a link leads on, or stops the walk
pub linked-on : (k : ℕ) (g : W.Step) (f : W.State → W.Walked) (s : W.State) → reached s ≡ step_at k g → linked k g f ≡ f s
linked-on k (on x) f s e = let z : s ≡ x = cc in ap f (sym z)
linked-on k (off number) f s e = clash (cc)

pub linked-off : (k : ℕ) (g : W.Step) (f : W.State → W.Walked) (n l : ℕ) → stopped n l ≡ step_at k g → stopped n l ≡ linked k g f
linked-off k (on x) f n l e = clash (cc)
linked-off k (off number) f n l e = e

-- a name before the names of a word is followed
pub walk-before : (t : List ℕ) (k : ℕ) (s : W.State) (n : List ℕ) (line : List ℕ) (p : ℕ) → to_directory boxed t k s (n ∷ names_from line p)
    ≡ linked k (follow boxed t s n) (λ d. to_directory boxed t (suc k) d (names_from line p))
unfolding to_directory
walk-before t k s n line p = rw (names-step line p)

-- .. as link 1, by what the step came to
module _ (t : List ℕ) (s : W.State) (n : List ℕ) (line : List ℕ) (p : ℕ) where
  pub base-on : (d : W.State) → reached d ≡ step_at 1 (follow boxed t s n)
      → to_directory boxed t 2 d (names_from line p) ≡ to_directory boxed t 1 s (n ∷ names_from line p)
  base-on d e = sym (walk-before t 1 s n line p ∙ linked-on 1 _ _ d e)

  pub base-off : (m l : ℕ) → stopped m l ≡ step_at 1 (follow boxed t s n) → stopped m l ≡ to_directory boxed t 1 s (n ∷ names_from line p)
  base-off m l e = rw (walk-before t 1 s n line p) (linked-off 1 _ _ m l e)

pub ruleset base_steps = (base-on, base-off)

module _ (t : List ℕ) (k : ℕ) (s : W.State) (line : List ℕ) (p : ℕ) where
  -- so is a name that another is joined to
  pub walk-more : joined line p ≡ true → to_directory boxed t k s (names_from line p)
      ≡ linked k (follow boxed t s (cut line p)) (λ d. to_directory boxed t (suc k) d (names_from line (next_name line p)))
  walk-more j = rw (names_more line p j) (walk-before t k s (cut line p) line (next_name line p))

  -- a word of one name is not walked
  pub walk-one : joined line p ≡ false → to_directory boxed t k s (names_from line p) ≡ reached s
  unfolding to_directory
  walk-one j = rw (names-one line p j)

  -- by what the step came to
  pub walk-on : (d : W.State) → joined line p ≡ true → reached d ≡ step_at k (follow boxed t s (cut line p))
      → to_directory boxed t (k + 1) d (names_from line (next_name line p)) ≡ to_directory boxed t k s (names_from line p)
  walk-on d j e = rw add-one (sym (walk-more j ∙ linked-on k _ _ d e))

  pub walk-off : (m l : ℕ) → joined line p ≡ true → stopped m l ≡ step_at k (follow boxed t s (cut line p))
      → stopped m l ≡ to_directory boxed t k s (names_from line p)
  walk-off m l j e = rw (walk-more j) (linked-off k _ _ m l e)

pub ruleset name_steps = (next-some, next-value, next-later, joined-inside, walk-one, walk-on, walk-off)

-- the names after the first of a word: none, or those of the next
pub rest-one : (line : List ℕ) (p : ℕ) → joined line p ≡ false → drop 1 (names_from line p) ≡ []
rest-one line p j = rw (names-one line p j)

pub rest_more : (line : List ℕ) (p : ℕ) → joined line p ≡ true → drop 1 (names_from line p) ≡ names_from line (next_name line p)
rest_more line p j = rw (names_more line p j)

-- .. and with a name in place of the first: as many names, and one alone is not walked
pub rest-length : (line : List ℕ) (p : ℕ) (n : List ℕ) → length (n ∷ drop 1 (names_from line p)) ≡ length (names_from line p)
rest-length line p n = rw (names-step line p)

pub walk-alone : (t : List ℕ) (s : W.State) (line : List ℕ) (p : ℕ) (n : List ℕ) → joined line p ≡ false
    → to_directory boxed t 1 s (n ∷ drop 1 (names_from line p)) ≡ reached s
unfolding to_directory
walk-alone t s line p n j = rw (rest-one line p j)

pub walk-instead : (t : List ℕ) (s : W.State) (line : List ℕ) (p : ℕ) (n : List ℕ) → joined line p ≡ true
    → to_directory boxed t 1 s (n ∷ drop 1 (names_from line p)) ≡ to_directory boxed t 1 s (n ∷ names_from line (next_name line p))
walk-instead t s line p n j = rw (rest_more line p j)

pub ruleset instead_steps = (next-some, next-value, walk-alone, walk-instead)

-- the last name of a word, name by name
less : (k : ℕ) → suc k - 1 ≡ k
less k = omega arith

pub last_one : (line : List ℕ) (p : ℕ) → joined line p ≡ false → last_name (names_from line p) ≡ cut line p
unfolding last_name
last_one line p j = rw (names-one line p j)

pub last-alone : (n : List ℕ) → last_name (n ∷ []) ≡ n
unfolding last_name
last-alone n = refl

last-later : (n : List ℕ) (line : List ℕ) (p : ℕ) → last_name (n ∷ names_from line p) ≡ last_name (names_from line p)
unfolding last_name
last-later n line p = rw (names-step line p) (simp less)

pub last_more : (line : List ℕ) (p : ℕ) → joined line p ≡ true → last_name (names_from line p) ≡ last_name (names_from line (next_name line p))
last_more line p j = rw (names_more line p j) (last-later (cut line p) line (next_name line p))

-- the supplied `.W` is never the last
pub last-chain : (line : List ℕ) (p : ℕ) → last_name (chain (names_from line p)) ≡ last_name (names_from line p)
last-chain line p = go (pointed (cut line p)) refl
  where
    go : (b : Bool) → pointed (cut line p) ≡ b → last_name (chain (names_from line p)) ≡ last_name (names_from line p)
    go true e = rw (chain-pointed line p e)
    go false e = rw (chain-bare line p e) (last-later dot_w line p)

-- nor is a name in place of the first, where another is joined to it
pub last-instead : (line : List ℕ) (p : ℕ) (n : List ℕ) → joined line p ≡ true
    → last_name (n ∷ drop 1 (names_from line p)) ≡ last_name (chain (names_from line p))
last-instead line p n j =
    rw (rest_more line p j, last-chain line p) (last-later n line (next_name line p) ∙ sym (last_more line p j))

pub look-instead : (t : List ℕ) (d : W.State) (line : List ℕ) (p : ℕ) (n : List ℕ) → joined line p ≡ true
    → to_last boxed t d (n ∷ drop 1 (names_from line p))
    ≡ step_at (length (names_from line p)) (look boxed t d (last_name (chain (names_from line p))))
look-instead t d line p n j = rw (rest-length line p n, last-instead line p n j)

pub look-alone : (t : List ℕ) (d : W.State) (line : List ℕ) (p : ℕ) (n : List ℕ) → joined line p ≡ false
    → to_last boxed t d (n ∷ drop 1 (names_from line p)) ≡ step_at 1 (look boxed t d n)
look-alone t d line p n j = rw (rest-one line p j, last-alone n)

pub ruleset instead_looks = (next-some, next-value, look-alone, look-instead)

pub ruleset last_steps = (next-some, next-value, next-later, joined-inside, last_one, last_more, last-chain)

pub ruleset own_names = (chain-pointed, chain-bare)

pub ruleset instead_names = (rest-length)
