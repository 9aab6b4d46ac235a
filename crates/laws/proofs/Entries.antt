-- Names and entries, the tests as facts: `same` is equality, by going through both lists together.
-- An entry stands in a holder, bears a name or names a heading exactly when its fields say so.
use mathlib.Core.Bool.{Bool, true, ◌&&◌, true≢false}
use mathlib.Core.List.{List, [], ◌∷◌}
use mathlib.Core.Path.{◌≡◌, refl, sym, ap₂, ◌∙◌}
use Prim.Native.Nat.{ℕ, ◌≤◌, ◌<◌}
use lib.Dec.{eqb, leb}
use lib.ListN.{length}
use borrow.Author.Tests.{eqb-true, eq-eqb, leb-true}
use Rattle.paper.specs.Scan.{at}
use Rattle.paper.specs.Record.{byte, is_kind, heading_type, holder_of, heading_named, user_of, names, heading_of, position, text_at}
use Rattle.paper.specs.Layout.{name_of, boxed}
use Rattle.paper.specs.Table.{rooms, rec}
use Rattle.paper.specs.Name.{same, link_name}
use Rattle.paper.specs.Entry.{Holder, holder, stands, bears, find}
use Rattle.laws.proofs.Tests.{and_left, and_right, and_both}
use Rattle.laws.proofs.Scans.{first-at}

pub same_true : (a b : List ℕ) → same a b ≡ true → a ≡ b
unfolding same
same_true [] [] e = refl
same_true [] (b ∷ t) e = absurd (true≢false (sym e))
same_true (a ∷ s) [] e = absurd (true≢false (sym e))
same_true (a ∷ s) (b ∷ t) e = ap₂ ◌∷◌ (eqb-true a b (and_left (eqb a b) (same s t) e)) (same_true s t (and_right (eqb a b) (same s t) e))

pub same_refl : (a : List ℕ) → same a a ≡ true
unfolding same
same_refl [] = refl
same_refl (a ∷ s) = and_both (eqb a a) (same s s) (eq-eqb a a refl) (same_refl s)

pub eq-same : (a b : List ℕ) → a ≡ b → same a b ≡ true
eq-same a b e = rw e (same_refl b)

-- "A link name has 1 to 10 characters"
pub link-short : (n : List ℕ) → link_name n ≡ true → (1 ≤ length n) × (length n ≤ 10)
unfolding link_name
link-short n e =
    let f = and_left (leb 1 (length n) && leb (length n) 10) _ e in
    (leb-true _ _ (and_left (leb 1 (length n)) _ f), leb-true _ _ (and_right (leb 1 (length n)) _ f))

-- an entry that stands in d
pub record Stands (d : Holder) (r : List ℕ) : Type 0 where
  pub kind : byte r 0 ≡ 2
  pub heading : holder_of r ≡ d.heading
  pub user : user_of r ≡ d.user

pub stands-true : (d : Holder) (r : List ℕ) → stands d r ≡ true → Stands d r
unfolding stands
stands-true d r e =
    let f = and_right (is_kind 2 r) (eqb (holder_of r) d.heading && eqb (user_of r) d.user) e in
    record {
      kind = eqb-true _ _ (and_left _ _ e);
      heading = eqb-true _ _ (and_left _ _ f);
      user = eqb-true _ _ (and_right (eqb (holder_of r) d.heading) _ f);
    }

pub stands_by : (d : Holder) (r : List ℕ) → Stands d r → stands d r ≡ true
unfolding stands
stands_by d r s = and_both (is_kind 2 r) _ (eq-eqb _ _ s.kind) (and_both _ _ (eq-eqb _ _ s.heading) (eq-eqb _ _ s.user))

-- where it stands is its holder
pub stands-holder : (d : Holder) (r : List ℕ) → Stands d r → holder r ≡ d
stands-holder d r s = λ i. record { heading = s.heading i; user = s.user i }

-- .. and bears the name n
pub bears-stands : (d : Holder) (n r : List ℕ) → bears boxed d n r ≡ true → Stands d r
unfolding bears
bears-stands d n r e = stands-true d r (and_left _ _ e)

pub bears-name : (d : Holder) (n r : List ℕ) → bears boxed d n r ≡ true → n ≡ name_of boxed r
unfolding bears
bears-name d n r e = same_true _ _ (and_right (stands d r) _ e)

pub bears-by : (d : Holder) (n r : List ℕ) → Stands d r → n ≡ name_of boxed r → bears boxed d n r ≡ true
unfolding bears
bears-by d n r s e = and_both (stands d r) _ (stands_by d r s) (eq-same _ _ e)

-- an entry bears its own name
pub bears-own : (r : List ℕ) → byte r 0 ≡ 2 → bears boxed (holder r) (name_of boxed r) r ≡ true
bears-own r k = bears-by (holder r) (name_of boxed r) r (record { kind = k; heading = refl; user = refl }) refl

-- two entries that bear one name in one place: the second bears the first's
pub bears-both : (d : Holder) (n a b : List ℕ) → bears boxed d n a ≡ true → bears boxed d n b ≡ true → bears boxed (holder a) (name_of boxed a) b ≡ true
bears-both d n a b x y =
    let s = bears-stands d n a x in
    let u = bears-stands d n b y in
    bears-by (holder a) (name_of boxed a) b (record { kind = u.kind; heading = u.heading ∙ sym s.heading; user = u.user ∙ sym s.user })
    (sym (bears-name d n a x) ∙ bears-name d n b y)

-- .. and so the first the second's
pub bears-back : (a b : List ℕ) → byte a 0 ≡ 2 → bears boxed (holder a) (name_of boxed a) b ≡ true → bears boxed (holder b) (name_of boxed b) a ≡ true
bears-back a b k e = bears-both (holder a) (name_of boxed a) b a e (bears-own a k)

-- what is found under a name in d bears it there
pub found-bears : (t : List ℕ) (d : Holder) (n : List ℕ) (e : ℕ) → find boxed t d n ≡ at e → (e < rooms t) × (bears boxed d n (rec t e) ≡ true)
unfolding find
found-bears t d n e q = let f = first-at (λ i. bears boxed d n (rec t i)) (rooms t) e q in (f.below, f.passes)

pub found-stands : (t : List ℕ) (d : Holder) (n : List ℕ) (e : ℕ) → find boxed t d n ≡ at e → (e < rooms t) × Stands d (rec t e)
found-stands t d n e q = let f = found-bears t d n e q in (f.0, bears-stands d n (rec t e) f.1)

-- an entry that names heading h
pub names-kind : (h : ℕ) (r : List ℕ) → names h r ≡ true → byte r 0 ≡ 2
names-kind h r e = eqb-true _ _ (and_left _ _ e)

pub names-heading : (h : ℕ) (r : List ℕ) → names h r ≡ true → heading_named r ≡ h
names-heading h r e = eqb-true _ _ (and_right (is_kind 2 r) _ e)

pub names-by : (h : ℕ) (r : List ℕ) → byte r 0 ≡ 2 → heading_named r ≡ h → names h r ≡ true
names-by h r k e = and_both (is_kind 2 r) _ (eq-eqb _ _ k) (eq-eqb _ _ e)

-- a heading of this type
abbrev pub typed : ℕ → List ℕ → Bool
typed n r = is_kind 1 r && eqb (heading_type r) n

pub typed-kind : (n : ℕ) (r : List ℕ) → typed n r ≡ true → byte r 0 ≡ 1
typed-kind n r e = eqb-true _ _ (and_left _ _ e)

pub typed-type : (n : ℕ) (r : List ℕ) → typed n r ≡ true → heading_type r ≡ n
typed-type n r e = eqb-true _ _ (and_right (is_kind 1 r) _ e)

pub typed-by : (n : ℕ) (r : List ℕ) → byte r 0 ≡ 1 → heading_type r ≡ n → typed n r ≡ true
typed-by n r k e = and_both (is_kind 1 r) _ (eq-eqb _ _ k) (eq-eqb _ _ e)

-- text of heading h at position p
pub record TextAt (h p : ℕ) (r : List ℕ) : Type 0 where
  pub kind : byte r 0 ≡ 3
  pub heading : heading_of r ≡ h
  pub position : position r ≡ p

pub text-true : (h p : ℕ) (r : List ℕ) → text_at h p r ≡ true → TextAt h p r
text-true h p r e =
    let f = and_right (is_kind 3 r) (eqb (heading_of r) h && eqb (position r) p) e in
    record {
      kind = eqb-true _ _ (and_left _ _ e);
      heading = eqb-true _ _ (and_left _ _ f);
      position = eqb-true _ _ (and_right (eqb (heading_of r) h) _ f);
    }

pub text-by : (h p : ℕ) (r : List ℕ) → TextAt h p r → text_at h p r ≡ true
text-by h p r s = and_both (is_kind 3 r) _ (eq-eqb _ _ s.kind) (and_both _ _ (eq-eqb _ _ s.heading) (eq-eqb _ _ s.position))
