-- The records that a request builds are as above by themselves: each field is in its range, and the rest is zero.
-- So what a new heading, entry or text owes is what its fields must be.
use mathlib.Core.Bool.{true}
use mathlib.Core.List.{List}
use mathlib.Core.Logic.{◌≢◌, by_cases}
use mathlib.Core.Path.{◌≡◌, refl, sym, ◌∙◌}
use Prim.Native.Nat.{ℕ, ◌^◌, ◌≤◌, ◌<◌}
use native.Mathlib.Omega.{arith}
use native.Mathlib.Decide.{ℕ_discrete}
use lib.ListN.{length}
use lib.Dec.{eqb, leb}
use borrow.Author.Tests.{eq-eqb, ne_eqb, le-leb, eqb-true}
use Rattle.paper.specs.Number.{bytes_of}
use Rattle.paper.specs.Scan.{all_below}
use Rattle.paper.specs.Record.{byte, text_length, entry_code, holder_of, user_of, zeros, heading_record, text_record}
use Rattle.paper.specs.Layout.{entry_record, boxed}
use Rattle.paper.specs.Name.{link_name, legal_base}
use Rattle.paper.specs.Sound.{entry_as_above, text_as_above, user_right, name_legal}
use Rattle.laws.proofs.Tests.{and_both, implies-by}
use Rattle.laws.proofs.Fields.{heading-length, entry-record-kind, entry-code, entry-name, entry-above, entry-holder, entry-user, text-record-kind, text-size, text-gap, text-rest}
use Rattle.demands.proofs.Sound.Clauses.{Own, HeadingOwn, EntryOwn}

-- ---- what a record owes by itself is what its own kind owes

off-kind : {A : Type 0} (j k n : ℕ) → n ≡ j → j ≢ k → n ≡ k → A
off-kind j k n p d q = absurd (d (sym p ∙ q))

pub heading-own : (r : List ℕ) → byte r 0 ≡ 1 → HeadingOwn r → Own r
heading-own r k h =
    record {
      kinds = omega arith;
      free = off-kind 1 0 _ k (omega arith);
      heading = λ _. h;
      entry = off-kind 1 2 _ k (omega arith);
      text = off-kind 1 3 _ k (omega arith);
    }

pub entry-own : (r : List ℕ) → byte r 0 ≡ 2 → EntryOwn r → Own r
entry-own r k e =
    record {
      kinds = omega arith;
      free = off-kind 2 0 _ k (omega arith);
      heading = off-kind 2 1 _ k (omega arith);
      entry = λ _. e;
      text = off-kind 2 3 _ k (omega arith);
    }

pub text-own : (r : List ℕ) → byte r 0 ≡ 3 → text_as_above 0 r ≡ true → Own r
text-own r k x =
    record {
      kinds = omega arith;
      free = off-kind 3 0 _ k (omega arith);
      heading = off-kind 3 1 _ k (omega arith);
      entry = off-kind 3 2 _ k (omega arith);
      text = λ _. x;
    }

-- ---- a new heading

-- what the fields of a new heading must be
pub record NewHeading (type lev code life n : ℕ) : Type 0 where
  pub types : type ≤ 1
  pub levels : lev ≤ 3
  pub codes : code ≤ 7
  pub least : 1 ≤ life
  pub most : life ≤ 2
  pub size : n ≤ 24000
  pub plain : type ≡ 0 → (life ≡ 1) × (n ≡ 0)

pub own-heading : (type lev code life n : ℕ) → NewHeading type lev code life n → Own (heading_record type lev code life n)
unfolding heading_record bytes_of zeros all_below
own-heading type lev code life n f =
    let l : n < 256 ^ 2 = omega (arith, f.size) in
    let e : text_length (heading_record type lev code life n) ≡ n = heading-length type lev code life n l in
    heading-own (heading_record type lev code life n) refl (record {
      shape =
          rw (le-leb _ _ f.types, le-leb _ _ f.levels, le-leb _ _ f.codes, le-leb _ _ f.least, le-leb _ _ f.most)
          (rw (implies-by (eqb type 1) true (λ _. refl)));
      directory = λ z. ((f.plain z).0, e ∙ (f.plain z).1);
      simple = λ z. omega (arith, f.size);
    })

-- ---- a new entry

-- what the fields of a new entry must be
pub record NewEntry (code holder user : ℕ) (name : List ℕ) : Type 0 where
  pub codes : code ≤ 7
  pub holders : holder < 256 ^ 2
  pub users : user ≤ 999999
  pub other : holder ≢ 65535 → user ≡ 0
  pub legal : link_name name ≡ true
  pub base : holder ≡ 65535 → legal_base name ≡ true

module _ (code holder heading user : ℕ) (name : List ℕ) where
  pub own-entry : NewEntry code holder user name → Own (entry_record boxed code holder heading user name)
  own-entry f =
      entry-own (entry_record boxed code holder heading user name) (entry-record-kind code holder heading user name)
      (record { shape = shape; user = users; padded = refl; legal = legal })
    where
      at-holder : holder_of (entry_record boxed code holder heading user name) ≡ holder
      at-holder = entry-holder code holder heading user name f.holders

      at-user : user_of (entry_record boxed code holder heading user name) ≡ user
      at-user = entry-user code holder heading user name (omega (arith, f.users))

      shape : entry_as_above boxed 0 (entry_record boxed code holder heading user name) ≡ true
      shape =
          and_both (leb (entry_code (entry_record boxed code holder heading user name)) 7) _
          (rw (entry-code code holder heading user name) (le-leb _ _ f.codes)) (entry-above code holder heading user name)

      users : user_right 0 (entry_record boxed code holder heading user name) ≡ true
      users =
          rw (at-holder, at-user)
          (by_cases (ℕ_discrete holder 65535)
          (λ (q : holder ≡ 65535). rw (eq-eqb _ _ q) (le-leb _ _ f.users))
          (λ (q : holder ≢ 65535). rw (ne_eqb _ _ q) (eq-eqb _ _ (f.other q))))

      legal : name_legal boxed 0 (entry_record boxed code holder heading user name) ≡ true
      legal =
          rw (entry-name code holder heading user name f.legal, at-holder)
          (and_both (link_name name) _ f.legal (implies-by (eqb holder 65535) (legal_base name) (λ q. f.base (eqb-true _ _ q))))

-- ---- a new text record

module _ (heading place : ℕ) (bytes : List ℕ) where
  pub own-text : 1 ≤ length bytes → length bytes ≤ 24 → Own (text_record heading place bytes)
  own-text least most =
      text-own (text_record heading place bytes) (text-record-kind heading place bytes)
      (rw (text-size heading place bytes, le-leb _ _ least, le-leb _ _ most, text-gap heading place bytes, text-rest heading place bytes))
