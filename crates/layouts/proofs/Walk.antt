-- A walk comes to the same end on twins: each link is found in the same record, the codes there are the same, and a state is only numbers.
-- The file it comes to is that of an entry, because what is found under a name is one.
use mathlib.Core.List.{List, [], ◌∷◌}
use mathlib.Core.Path.{◌≡◌, refl}
use Prim.Native.Nat.{ℕ, suc}
use native.Mathlib.Omega.{arith}
use lib.ListN.{length}
use Rattle.paper.specs.Scan.{Found, at, nowhere}
use Rattle.paper.specs.Record.{byte}
use Rattle.paper.specs.Layout.{Layout}
use Rattle.paper.specs.Table.{rooms, rec}
use Rattle.paper.specs.Entry.{Holder, bears, find}
use Rattle.paper.specs.Walk.{State, file, Step, on, off, looked, look, enter, then, follow, Walked, reached, stopped, linked, to_directory, last_name, End, arrived, astray, last_from, end_from, ended}
use Rattle.laws.proofs.Tests.{and_left}
use Rattle.laws.proofs.Scans.{first-at}
use Rattle.laws.proofs.Entries.{stands-true}
use Rattle.layouts.proofs.Twin.{same_number, same-directory}
use Rattle.layouts.proofs.Twins.{Twins}
use Rattle.layouts.proofs.Shown.{find-twin, applies-twin}

-- what is found under a name is an entry
pub found-entry : (L : Layout) (t : List ℕ) (d : Holder) (n : List ℕ) (e : ℕ) → find L t d n ≡ at e → byte (rec t e) 0 ≡ 2
unfolding find bears
found-entry L t d n e q = (stands-true d (rec t e) (and_left _ _ (first-at (λ i. bears L d n (rec t i)) (rooms t) e q).passes)).kind

-- the end of a walk, if it has one, is at an entry
abbrev pub Landed : List ℕ → End → Type 0
Landed t (arrived d f) = byte (rec t f.entry) 0 ≡ 2
Landed t (astray number link) = Unit {0}

pub lands : (L : Layout) (t : List ℕ) (x : State) (ns : List (List ℕ)) → Landed t (ended L t x ns)
unfolding ended look
lands L t x ns = go (to_directory L t 1 x ns)
  where
    last : (d : State) (f : Found) → find L t d.holder (last_name ns) ≡ f → Landed t (last_from d (linked (length ns) (looked t d f) reached))
    last d (at e) q = found-entry L t d.holder (last_name ns) e q
    last d nowhere q = tt

    go : (y : Walked) → Landed t (end_from L t ns y)
    go (reached d) = last d (find L t d.holder (last_name ns)) refl
    go (stopped number link) = tt

module _ {A B : Layout} {t s : List ℕ} (w : Twins A B t s) where
  pub file-twin : (x : State) → file t x ≡ file s x
  file-twin x = same_number (w.each x.entry) 2 4 (omega arith)

  look-twin : (x : State) (n : List ℕ) → look A t x n ≡ look B s x n
  unfolding look
  look-twin x n = rw (find-twin w x.holder n) (go (find B s x.holder n))
    where
      go : (f : Found) → looked t x f ≡ looked s x f
      go (at e) = rw (applies-twin w e)
      go nowhere = refl

  enter-twin : (x : State) → enter t x ≡ enter s x
  unfolding enter
  enter-twin x = rw (file-twin x, same-directory (w.each (file s x)))

  follow-twin : (x : State) (n : List ℕ) → follow A t x n ≡ follow B s x n
  unfolding follow
  follow-twin x n = rw (look-twin x n) (go (look B s x n))
    where
      go : (y : Step) → then y (enter t) ≡ then y (enter s)
      go (on z) = enter-twin z
      go (off number) = refl

  pub to_directory-twin : (k : ℕ) (x : State) (ns : List (List ℕ)) → to_directory A t k x ns ≡ to_directory B s k x ns
  unfolding to_directory
  to_directory-twin k x [] = refl
  to_directory-twin k x (n ∷ []) = refl
  to_directory-twin k x (n ∷ m ∷ ns) = rw (follow-twin x n) (go (follow B s x n) (λ d. to_directory-twin (suc k) d (m ∷ ns)))
    where
      go : (y : Step) → ((d : State) → to_directory A t (suc k) d (m ∷ ns) ≡ to_directory B s (suc k) d (m ∷ ns))
          → linked k y (λ d. to_directory A t (suc k) d (m ∷ ns)) ≡ linked k y (λ d. to_directory B s (suc k) d (m ∷ ns))
      go (on d) h = h d
      go (off number) h = refl

  pub ended-twin : (x : State) (ns : List (List ℕ)) → ended A t x ns ≡ ended B s x ns
  unfolding ended
  ended-twin x ns = rw (to_directory-twin 1 x ns) (go (to_directory B s 1 x ns))
    where
      go : (y : Walked) → end_from A t ns y ≡ end_from B s ns y
      go (reached d) = rw (look-twin d (last_name ns))
      go (stopped number link) = refl
