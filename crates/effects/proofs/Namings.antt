-- The entries that name a heading, cleared by record number: the stores of the records below one leave it as it was, so that it names the
-- heading then if it did before any store; and its own store, if it has one, is the next of the list.
use mathlib.Core.Bool.{Bool, true, false, cond}
use mathlib.Core.List.{List, [], ◌∷◌}
use mathlib.Core.Path.{◌≡◌, ◌∙◌}
use Prim.Native.Nat.{ℕ, ◌+◌, ◌<◌}
use native.Mathlib.Omega.{arith}
use lib.ListN.{length, length-map}
use Rattle.paper.specs.Count.{namings}
use Rattle.paper.specs.Record.{names, blank}
use Rattle.paper.specs.Scan.{list_below}
use Rattle.paper.specs.Store.{clear, clears, fills}
use Rattle.paper.specs.Table.{rooms, rec}
use Rattle.laws.proofs.Lay.{length-blank}
use Rattle.laws.proofs.Lists.{length-list}
use Rattle.effects.specs.Stage.{Made}
use Rattle.effects.proofs.Stages.{made-both, made_none}
use Rattle.effects.proofs.Counted.{fills-start, fills-more, rec-ahead}

-- one record: it names the heading, or there is no store
pub made-unnaming : (t : List ℕ) (k i h : ℕ) → names h (rec t i) ≡ false → Made t t k k (cond (names h (rec t i)) (clear i ∷ []) [])
made-unnaming t k i h e = rw e (made_none t k)

pub made-naming : (t u : List ℕ) (k l i h : ℕ) → names h (rec t i) ≡ true → Made t u k l (clear i ∷ [])
    → Made t u k l (cond (names h (rec t i)) (clear i ∷ []) [])
made-naming t u k l i h e x = rw e x

-- all of them
module _ (t : List ℕ) (h : ℕ) where
  abbrev named : ℕ → Bool
  named i = names h (rec t i)

  pub naming-start : (k : ℕ) → Made t t k k (clears named 0)
  naming-start k = rw (fills-start named (λ _. blank)) (made_none t k)

  pub naming-more : (u v : List ℕ) (k l m i : ℕ) → i < rooms t → Made t u k l (clears named i)
      → Made u v l m (cond (names h (rec u i)) (clear i ∷ []) []) → Made t v k m (clears named (i + 1))
  naming-more u v k l m i b x y =
      let e : rec u i ≡ rec t i = rw x.table (rec-ahead named (λ _. blank) t k i i (λ _ _. length-blank) (omega arith) b) in
      rw (fills-more named (λ _. blank) i) (made-both t u v k l m (clears named i) _ x (rw e at y))

  -- "how many entries name it"
  pub naming-length : length (clears named (rooms t)) ≡ namings t h
  unfolding fills namings
  naming-length = length-map (list_below named (rooms t)) clear ∙ length-list named (rooms t)
