-- The program's index is the true one where no request is cut: it begins so, a byte of a line or a text changes neither the table nor the index,
-- and a request keeps it true. So none of its requests is answered 26.
use mathlib.Core.Bool.{Bool, true, false, ◌&&◌, not, cond}
use mathlib.Core.List.{List, [], ◌∷◌, ◌++◌}
use mathlib.Core.Logic.{◌≢◌}
use mathlib.Core.Path.{◌≡◌, refl}
use Prim.Native.Nat.{ℕ}
use native.Mathlib.Omega.{arith}
use lib.Dec.{eqb}
use lib.ListN.{replicate}
use borrow.Author.Tests.{eqb-false, not-true}
use Rattle.paper.specs.Layout.{boxed}
use Rattle.paper.specs.Table.{sized}
use Rattle.paper.specs.Sound.{implies, sound}
use Rattle.laws.proofs.Tests.{and_left, and_right, and_both, not-both}
use Rattle.demands.proofs.Stops.{Uncut}
use Rattle.index_laws.proofs.Good.{Good}
use Rattle.index_demands.proofs.Requests.{only-26, stays-true}
use Rattle.index_demands.proofs.Free.{free-good}
use Rattle.filebox.specs.Box.{Box, begins_true, between, kept, outcome, answered, grown, takes_text, ended, stepped, fed}
use Rattle.filebox.specs.Uncut.{asks, uncut}

-- the box's table is sound, and its index the true one
abbrev pub Right : Box → Type 0
Right x = Good x.table x.index

-- "all free at the start", and 65,535 in each place
pub begins-true : begins_true (replicate 32768 0) (replicate 1024 65535) ≡ true
begins-true = let g = free-good 1024 (omega arith) in and_both _ _ (and_both _ _ g.sized g.sound) g.index

pub begins-right : (t d r : List ℕ) → begins_true t d ≡ true → Right (between t d r)
unfolding between
begins-right t d r e =
    let f = and_left (sized t && sound boxed t) _ e in
    record { sized = and_left (sized t) _ f; sound = and_right (sized t) _ f; index = and_right (sized t && sound boxed t) _ e }

answered-right : (x : Box) → Right x → Uncut (outcome x) → Right (answered x)
unfolding answered between kept
answered-right x g n = stays-true x.table x.index x.line x.text x.reply 1 65535 g n

grown-right : (x : Box) (b : ℕ) → Right x → Right (grown x b)
unfolding grown
grown-right x b g = go x.asked
  where
    go : (a : Bool) → Right (cond a
        (record { table = x.table; index = x.index; reply = x.reply; line = x.line; asked = true; text = x.text ++ b ∷ [] })
        (record { table = x.table; index = x.index; reply = x.reply; line = x.line ++ b ∷ []; asked = false; text = x.text }))
    go true = g
    go false = g

stepped-right : (x : Box) (b : ℕ) → Right x → implies (asks x b) (not (eqb (outcome x).answer.number 22)) ≡ true → Right (stepped x b)
unfolding stepped ended asks
stepped-right x b g e = go (eqb b 10) refl (not x.asked && takes_text x.line) refl
  where
    go : (c : Bool) → eqb b 10 ≡ c → (d : Bool) → (not x.asked && takes_text x.line) ≡ d → Right (stepped x b)
    go false p d q = rw p (grown-right x b g)
    go true p true q = rw (p, q) g
    go true p false q = rw (p, q) (answered-right x g (eqb-false _ _ (not-true _ (rw (p, q) at e))))

pub fed-right : (x : Box) (bs : List ℕ) → Right x → uncut x bs ≡ true → Right (fed x bs)
unfolding fed uncut
fed-right x [] g e = g
fed-right x (b ∷ bs) g e =
    fed-right (stepped x b) bs (stepped-right x b g (and_left (implies (asks x b) (not (eqb (outcome x).answer.number 22))) _ e))
    (and_right (implies (asks x b) (not (eqb (outcome x).answer.number 22))) _ e)

-- whatever is asked of such a box
pub never-26 : (x : Box) → Right x → (outcome x).answer.number ≢ 26
unfolding kept
never-26 x g e = not-both g.index (only-26 x.table x.index x.line x.text x.reply 1 65535 e).1
