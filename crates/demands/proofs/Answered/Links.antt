-- "The place becomes argument and link": the link is one of the chain that the argument is, and 0 exactly where document 02 says.
-- A fair refusal says so of the names of each argument that is a chain, and each word of a line has a name.
use mathlib.Core.Bool.{Bool, true, false, ◌&&◌, ◌||◌, cond}
use mathlib.Core.List.{List, []}
use mathlib.Core.Path.{◌≡◌, refl}
use Prim.Native.Nat.{ℕ, ◌≤◌}
use native.Mathlib.Omega.{arith}
use lib.ListN.{length}
use lib.Dec.{eqb}
use borrow.Author.Tests.{ne_eqb}
use Rattle.paper.specs.Name.{link_names, chain}
use Rattle.paper.specs.Line.{word}
use Rattle.paper.specs.Check.{Place, whole, Refusal}
use Rattle.demands.proofs.Request.Formed.{chain-some}
use Rattle.demands.proofs.Request.Fair.{Fair}
use Rattle.demands.proofs.Request.Chains.{no_chain, names_at, word_some}

-- "0 for a lone dash, a chain only too long, any argument that is no chain, and place 0": a malformed chain of link names alone is a lone
-- dash or only too long
abbrev pub no_link : (line : List ℕ) (number argument : ℕ) → Bool
no_link line number argument = eqb argument 0 || (no_chain (word line 0).names argument || eqb number 7 && link_names (word line argument).names)

-- the link counts from 1, "with the supplied `.W` as link 1", to the chain's length; it is 0 exactly there
pub record Linked (line : List ℕ) (number : ℕ) (place : Place) : Type 0 where
  pub most : place.link ≤ length (chain (word line place.argument).names)
  pub none : eqb place.link 0 ≡ no_link line number place.argument

pub linked-whole : (line : List ℕ) (number : ℕ) → Linked line number (whole 0)
linked-whole line number = record { most = omega arith; none = refl }

pub linked-fair : (line : List ℕ) (f : Refusal) → Fair (names_at line) f → Linked line f.number f.place
unfolding chain
linked-fair line f h = let g = go (no_chain (word line 0).names a) h.most h.none in record { most = g.0; none = g.1 }
  where
    a : ℕ
    a = f.place.argument

    ns : List (List ℕ)
    ns = (word line a).names

    none : Bool → Bool
    none b = eqb a 0 || (b || eqb f.number 7 && link_names ns)

    go : (b : Bool) → f.place.link ≤ length (chain (cond b [] ns))
        → eqb f.place.link 0 ≡ (eqb a 0 || (eqb (length (chain (cond b [] ns))) 0 || eqb f.number 7 && link_names (cond b [] ns)))
        → (f.place.link ≤ length (chain ns)) × (eqb f.place.link 0 ≡ none b)
    go true m n = (omega arith, n)
    go false m n =
        let l = chain-some ns (word_some line a) in
        let z : eqb (length (chain ns)) 0 ≡ false = ne_eqb (length (chain ns)) 0 (λ (q : length (chain ns) ≡ 0). omega arith) in
        (m, rw z at n)
