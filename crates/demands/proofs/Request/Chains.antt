-- Which arguments of a line are chains: all but declarations, the link of CHN, RDS's numbers and LST*'s digit. The first word is one
-- function, so it is no other. Each argument has a name, even an empty one, since a word has one more than it has colons.
use mathlib.Core.Bool.{Bool, true, ◌&&◌, ◌||◌, cond, true≢false}
use mathlib.Core.List.{List, [], ◌∷◌, map}
use mathlib.Core.Path.{◌≡◌, sym}
use Prim.Native.Nat.{ℕ, zero, suc, ◌<◌}
use native.Mathlib.Omega.{arith}
use lib.ListN.{length, get_or}
use lib.Dec.{eqb}
use Rattle.paper.specs.Name.{alone}
use Rattle.paper.specs.Line.{Spot, blank_spot, colon_spot, placed, closed, grow, split, Word, solid, words, word}
use Rattle.laws.proofs.Tests.{either}
use Rattle.laws.proofs.Lists.{Every}
use Rattle.laws.proofs.Entries.{same_true}

-- "any argument that is no chain", by the first word's names: "CRD name [decl]", "CHN old link", "DPR name decl"; "WRS decl name",
-- "`WRS*` decl name"; "CPY, DUP old new [decl]"; "RDS name first count"; "`LST*` name digit"
abbrev pub no_chain : (function : List (List ℕ)) (argument : ℕ) → Bool
no_chain function argument =
    (alone (67 ∷ 82 ∷ 68 ∷ []) function || alone (67 ∷ 72 ∷ 78 ∷ []) function || alone (68 ∷ 80 ∷ 82 ∷ []) function) && eqb argument 2
    || (alone (87 ∷ 82 ∷ 83 ∷ []) function || alone (87 ∷ 82 ∷ 83 ∷ 42 ∷ []) function) && eqb argument 1
    || (alone (67 ∷ 80 ∷ 89 ∷ []) function || alone (68 ∷ 85 ∷ 80 ∷ []) function) && eqb argument 3
    || alone (82 ∷ 68 ∷ 83 ∷ []) function && (eqb argument 2 || eqb argument 3)
    || alone (76 ∷ 83 ∷ 84 ∷ 42 ∷ []) function && eqb argument 2

-- the names of an argument, none where it is no chain
abbrev pub names_at : List ℕ → (argument : ℕ) → List (List ℕ)
names_at line argument = cond (no_chain (word line 0).names argument) [] (word line argument).names

abbrev pub IsChain : List ℕ → ℕ → Type 0
IsChain line argument = names_at line argument ≡ (word line argument).names

abbrev pub IsNone : List ℕ → ℕ → Type 0
IsNone line argument = names_at line argument ≡ []

-- the first word is this function: which arguments are chains is computed
pub names-by : (line function : List ℕ) (argument : ℕ) → alone function (word line 0).names ≡ true
    → names_at line argument ≡ cond (no_chain (function ∷ []) argument) [] (word line argument).names
names-by line function argument e = rw (go (word line 0).names e)
  where
    go : (ns : List (List ℕ)) → alone function ns ≡ true → ns ≡ function ∷ []
    go [] e = absurd (true≢false (sym e))
    go (n ∷ []) e = rw (same_true n function e)
    go (n ∷ m ∷ ns) e = absurd (true≢false (sym e))

-- ---- names there are

Some : {A : Type 0} → List A → Type 0
Some s = 0 < length s

split-some : (mark : Spot → Bool) (s : List Spot) → Some (split mark s)
unfolding split grow Some
split-some mark [] = omega arith
split-some mark (b ∷ s) = either Some (mark b) _ _ (omega arith) (grown (split mark s))
  where
    grown : (ws : List (List Spot)) → Some (grow b ws)
    grown [] = omega arith
    grown (w ∷ ws) = omega arith

map-some : {A B : Type 0} (f : A → B) (s : List A) → Some s → Some (map f s)
unfolding Some
map-some f [] h = h
map-some f (x ∷ s) h = omega arith

solid-some : (ps : List (List Spot)) → Every (λ w. Some w.names) (solid ps)
unfolding solid
solid-some [] = tt
solid-some ([] ∷ ps) = solid-some ps
solid-some ((b ∷ s) ∷ ps) = (map-some _ (split colon_spot (b ∷ s)) (split-some colon_spot (b ∷ s)), solid-some ps)

names-some : (d : Word) → Some d.names → (ws : List Word) (k : ℕ) → Every (λ w. Some w.names) ws → Some (get_or ws k d).names
names-some d h [] k e = h
names-some d h (w ∷ ws) zero e = e.0
names-some d h (w ∷ ws) (suc k) e = names-some d h ws k e.1

pub word_some : (line : List ℕ) (k : ℕ) → 0 < length (word line k).names
unfolding word words Some
word_some line k = names-some _ (omega arith) (words line) k (solid-some (split blank_spot (closed (placed 0 line))))
