-- A walk that arrived looked its last name up in the directory that it came to:
-- so the file is what that look-up found.
use mathlib.Core.List.{List}
use mathlib.Core.Path.{◌≡◌, sym, ap, ◌∙◌}
use Prim.Native.Nat.{ℕ}
use Rattle.paper.specs.Layout.{boxed}
use Rattle.paper.specs.Walk as W
use Rattle.paper.specs.Walk.{reached, stopped, to_directory, to_last, arrived, last_from, end_from, ended}
use Rattle.laws.proofs.Tests.{clash}

-- the last name was looked up in the directory
pub arrived-last : (t : List ℕ) (s : W.State) (ns : List (List ℕ)) (d f : W.State) → ended boxed t s ns ≡ arrived d f → to_last boxed t d ns ≡ reached f
unfolding ended
arrived-last t s ns d f e = go (to_directory boxed t 1 s ns) e
  where
    last : (x : W.State) (w : W.Walked) → last_from x w ≡ arrived d f → (x ≡ d) × (w ≡ reached f)
    last x (reached y) z = let a : x ≡ d = cc in let b : y ≡ f = cc in (a, ap reached b)
    last x (stopped n k) z = clash (cc)

    go : (w : W.Walked) → end_from boxed t ns w ≡ arrived d f → to_last boxed t d ns ≡ reached f
    go (reached x) z = let y = last x (to_last boxed t x ns) z in ap (λ (v : W.State). to_last boxed t v ns) (sym y.0) ∙ y.1
    go (stopped n k) z = clash (cc)
