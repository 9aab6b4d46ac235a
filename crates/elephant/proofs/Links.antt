-- A walk in a line of at most 256 bytes stops at a link of a small number: the link is one of its chain's, and a chain has
-- one name, one more for each joining colon, and the supplied `.W`.
use mathlib.Core.List.{List, []}
use mathlib.Core.Path.{◌≡◌}
use Prim.Native.Nat.{ℕ, ◌≤◌}
use native.Mathlib.Omega.{arith}
use lib.ListN.{length}
use Rattle.paper.specs.Layout.{boxed}
use Rattle.paper.specs.Name.{dot_g, dot_t, pointed, chain}
use Rattle.paper.specs.Walk.{stopped, astray, to_directory, ended}
use Rattle.paper.specs.Line.{Word}
use Rattle.paper.specs.Effect.{Planned, plan, halted, list_of, begun, storing}
use Rattle.demands.proofs.Request.Steps.{Halts, holder-within, end-within}
use Rattle.words.specs.Place.{names_from, word_at}
use Rattle.words.specs.Shown.{begin_meant}
use Rattle.words.specs.declared.begin.Begin.{Begin}
use Rattle.words.specs.declared.begin.Begin.TheVariants.{Own, Take, Give}
use Rattle.words.proofs.Names.{link-range, names-few, chain_length}
use Rattle.walk.specs.Shown.{begins, chain_at}
use Rattle.walk.specs.declared.state.Stop.{Stop}
use Rattle.walk.proofs.Chains.{rest-length}
use Rattle.answers.specs.Number.{number_of}

-- where a plan is halted the link's number is small
abbrev Near : Planned → Type 0
Near (plan p) = Unit {0}
Near (halted f) = f.place.link ≤ 65535

module _ (line : List ℕ) (short : length line ≤ 256) where
  pub chain-few : (p : ℕ) (b : Begin) → length (chain_at line p b) ≤ 65534
  unfolding chain pointed
  chain-few p Own = omega (arith, names-few line p, chain_length line p, (link-range (names_from line p)).1)
  chain-few p (Take u) = omega (arith, names-few line p, rest-length line p dot_t)
  chain-few p (Give u) = omega (arith, names-few line p, rest-length line p dot_g)

  module _ (t : List ℕ) (u : ℕ) where
    module _ (p : ℕ) (b : Begin) where
      abbrev v : ℕ
      v = list_of u (begin_meant b)

      abbrev w : Word
      w = begun (begin_meant b) (word_at line p)

      halts-near : (n l : ℕ) → Halts (chain_at line p b) n l → l ≤ 65535
      halts-near n l h = omega (arith, h.most, chain-few p b)

      pub walk-near : (h : Stop) → stopped (number_of h.number) h.link ≡ to_directory boxed t 1 (begins u b) (chain_at line p b) → h.link ≤ 65535
      walk-near h e =
          rw (← e) at
          (holder-within Near 1 w halts-near t v (λ _. storing [] []) (λ _ _. tt))

      pub end-near : (h : Stop) → astray (number_of h.number) h.link ≡ ended boxed t (begins u b) (chain_at line p b) → h.link ≤ 65535
      end-near h e =
          rw (← e) at
          (end-within Near 1 w halts-near t v (λ _ _. storing [] []) (λ _ _ _ _. tt))
