-- The listing of a sound table is strictly ascending and has every entry exactly once: no directory, and no one user's base list,
-- has a name twice, so two entries that are listed and bear one name are one, and any such list is put in a strict order.
use mathlib.Core.Bool.{Bool, true, ◌&&◌, not}
use mathlib.Core.List.{List}
use mathlib.Core.Path.{◌≡◌, sym, ◌∙◌}
use Prim.Native.Nat.{ℕ, ◌<◌}
use Rattle.paper.specs.Layout.{name_of, boxed}
use Rattle.paper.specs.Table.{rooms, rec}
use Rattle.paper.specs.Name.{same, dot_w}
use Rattle.paper.specs.Entry.{Holder, base_list, in_directory, holder, stands}
use Rattle.paper.specs.Listing.{listed}
use Rattle.laws.proofs.Tests.{and_left}
use Rattle.laws.proofs.Entries.{stands-true, bears-by}
use Rattle.laws.proofs.Orders.{Listing, listing}
use Rattle.demands.proofs.Sound.Clauses.{SoundBut}

-- two entries that stand in d and bear one name are one
apart-names : (o : ℕ) (t : List ℕ) → SoundBut o t → (d : Holder) (i j : ℕ) → i < rooms t → j < rooms t → stands d (rec t i) ≡ true
    → stands d (rec t j) ≡ true → name_of boxed (rec t i) ≡ name_of boxed (rec t j) → i ≡ j
apart-names o t c d i j l m p q e =
    let a = stands-true d (rec t i) p in
    let b = stands-true d (rec t j) q in
    c.apart i j l m a.kind
    (bears-by (holder (rec t i)) (name_of boxed (rec t i)) (rec t j)
    (record { kind = b.kind; heading = b.heading ∙ sym a.heading; user = b.user ∙ sym a.user }) e)

-- for every test that only entries of one holder pass: a directory's entries, and a user's base files but `.W`
held-listing : (o : ℕ) (t : List ℕ) → SoundBut o t → (d : Holder) (test : List ℕ → Bool) → ((r : List ℕ) → test r ≡ true → stands d r ≡ true)
    → Listing t test (listed boxed t test)
held-listing o t c d test h = listing t test (λ i j l m p q. apart-names o t c d i j l m (h _ p) (h _ q))

pub directory-listing : (o : ℕ) (t : List ℕ) → SoundBut o t → (h : ℕ) → Listing t (stands (in_directory h)) (listed boxed t (stands (in_directory h)))
directory-listing o t c h = held-listing o t c (in_directory h) (stands (in_directory h)) (λ r e. e)

-- "the user's base files other than `.W`"
abbrev pub not_w : ℕ → List ℕ → Bool
not_w u r = stands (base_list u) r && not (same dot_w (name_of boxed r))

pub base-listing : (o : ℕ) (t : List ℕ) → SoundBut o t → (u : ℕ) → Listing t (not_w u) (listed boxed t (not_w u))
base-listing o t c u = held-listing o t c (base_list u) (not_w u) (λ r e. and_left (stands (base_list u) r) _ e)
