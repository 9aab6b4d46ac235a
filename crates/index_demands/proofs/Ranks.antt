-- In a sound table an entry's user is below 2 ^ 24 and its name's number below 2 ^ 60, so its rank gives its directory, its user and its name back.
-- A rank sought has them too, but for a user of many digits, and no entry's directory is above 65,535: so ranks are equal where the name is borne.
use mathlib.Core.Bool.{Bool, true, false, cond}
use mathlib.Core.List.{List}
use mathlib.Core.Logic.{◌⊎◌, inl, inr}
use mathlib.Core.Path.{◌≡◌, refl, sym, ap, ◌∙◌}
use Prim.Native.Nat.{ℕ, ◌^◌, ◌≤◌, ◌<◌}
use native.Mathlib.Omega.{arith}
use lib.Dec.{eqb, leb}
use borrow.Author.Tests.{eqb-true, eq-eqb, leb-true, ltb-true}
use Rattle.paper.specs.Record.{byte, directory, holder_of, user_of}
use Rattle.paper.specs.Layout.{name_of, packed, packed_name, unpacked, six_name, boxed}
use Rattle.paper.specs.Table.{rooms, rec}
use Rattle.paper.specs.Name.{link_name}
use Rattle.paper.specs.Entry.{Holder, holder, bears}
use Rattle.paper.specs.Sound.{is_base}
use Rattle.paper.specs.Index.{ranked, rank, rank_in}
use Rattle.laws.proofs.Tests.{and_left, and_right, or_cases, same_truth}
use Rattle.laws.proofs.Lay.{within}
use Rattle.laws.proofs.Packing.{packed-less, unpacked-packed, packed-unpacked}
use Rattle.laws.proofs.Entries.{bears-by, bears-stands, bears-name, typed-kind}
use Rattle.demands.proofs.Sound.Clauses.{EntryOwn, Sound}

-- ---- one number and its three parts

pub record Parts (a u n b v m : ℕ) : Type 0 where
  pub directory : a ≡ b
  pub user : u ≡ v
  pub name : n ≡ m

pub ranked-parts : (a u n b v m : ℕ) → u < 2 ^ 24 → v < 2 ^ 24 → n < 2 ^ 60 → m < 2 ^ 60 → ranked a u n ≡ ranked b v m → Parts a u n b v m
ranked-parts a u n b v m i j k l e = record { directory = omega arith; user = omega arith; name = omega arith }

-- .. of a rank sought: where the user is looked at, its directory is the highest that there is
sought-parts : (a u n b v m : ℕ) → a ≤ 65535 → u < 2 ^ 24 → n < 2 ^ 60 → m < 2 ^ 60 → (b ≡ 65535) ⊎ (v ≡ 0) → ranked a u n ≡ ranked b v m → Parts a u n b v m
sought-parts a u n b v m h i k l (inl w) e = record { directory = omega arith; user = omega arith; name = omega arith }
sought-parts a u n b v m h i k l (inr w) e = record { directory = omega arith; user = omega arith; name = omega arith }

-- ---- the entries of a sound table

-- where a look-up looks: in a directory whatever user is given, in a base list that user's
abbrev pub sought_in : Holder → Holder
sought_in d = record { heading = d.heading; user = cond (eqb d.heading 65535) d.user 0 }

-- the parts of an entry's rank
pub record Small (r : List ℕ) : Type 0 where
  pub directory : holder_of r ≤ 65535
  pub user : user_of r < 2 ^ 24
  pub name : packed_name r < 2 ^ 60
  pub legal : link_name (name_of boxed r) ≡ true

module _ (t : List ℕ) (c : Sound t) (i : ℕ) (l : i < rooms t) (k : byte (rec t i) 0 ≡ 2) where
  abbrev r : List ℕ
  r = rec t i

  own : EntryOwn r
  own = (c.own i l).entry k

  holder-small : holder_of r ≤ 65535
  holder-small = go (or_cases (is_base r) _ (c.holders i l k))
    where
      go : (is_base r ≡ true) ⊎ (directory (rec t (holder_of r)) ≡ true) → holder_of r ≤ 65535
      go (inl e) = omega (arith, eqb-true (holder_of r) 65535 e)
      go (inr e) = omega (arith, within t (holder_of r) c.whole (λ z. omega (arith, z, typed-kind 0 (rec t (holder_of r)) e)), c.few)

  user-small : (b : Bool) → is_base r ≡ b → user_of r < 2 ^ 24
  user-small true e = omega (arith, leb-true (user_of r) 999999 (rw e at own.user))
  user-small false e = omega (arith, eqb-true (user_of r) 0 (rw e at own.user))

  name-small : packed_name r < 2 ^ 60
  name-small = ltb-true _ _ (and_right (eqb (byte r 9) 0) _ (and_left _ _ (and_right (leb (byte r 1) 7) _ own.shape)))

  pub entry-small : Small r
  entry-small =
      record { directory = holder-small; user = user-small (is_base r) refl; name = name-small; legal = and_left (link_name (name_of boxed r)) _ own.legal }

  -- it has the rank of a name in d exactly when it bears that name there
  pub rank-bears : (d : Holder) (n : List ℕ) → link_name n ≡ true → eqb (rank t i) (rank_in d n) ≡ bears boxed (sought_in d) n r
  unfolding rank six_name
  rank-bears d n z =
      same_truth _ _
      (λ e.
      let p =
      sought-parts (holder_of r) (user_of r) (packed_name r) d.heading (sought_in d).user (packed n) entry-small.directory entry-small.user entry-small.name (packed-less n)
      (looked (eqb d.heading 65535) refl) (eqb-true _ _ e) in
      bears-by (sought_in d) n r (record { kind = k; heading = p.directory; user = p.user }) (sym (unpacked-packed n z) ∙ ap unpacked (sym p.name)))
      (λ e.
      let s = bears-stands (sought_in d) n r e in
      let q : packed n ≡ packed_name r = ap packed (bears-name (sought_in d) n r e) ∙ packed-unpacked (packed_name r) entry-small.name in
      eq-eqb (rank t i) (rank_in d n) (rw (s.heading, s.user, q)))
    where
      looked : (b : Bool) → eqb d.heading 65535 ≡ b → (d.heading ≡ 65535) ⊎ (cond b d.user 0 ≡ 0)
      looked true e = inl (eqb-true _ _ e)
      looked false e = inr refl

-- two entries of one rank are one
pub rank-once : (t : List ℕ) → Sound t → (i j : ℕ) → i < rooms t → j < rooms t → byte (rec t i) 0 ≡ 2 → byte (rec t j) 0 ≡ 2 → rank t i ≡ rank t j → i ≡ j
unfolding rank six_name
rank-once t c i j l m k w e =
    let a = entry-small t c i l k in
    let b = entry-small t c j m w in
    let p = ranked-parts (holder_of (rec t i)) (user_of (rec t i)) (packed_name (rec t i)) (holder_of (rec t j)) (user_of (rec t j)) (packed_name (rec t j)) a.user b.user a.name b.name e in
    c.apart i j l m k
    (bears-by (holder (rec t i)) (name_of boxed (rec t i)) (rec t j) (record { kind = w; heading = sym p.directory; user = sym p.user })
    (ap unpacked p.name))
