-- Two records that show the same, one laid by A and one by B: the same record, no entry; or two entries of one link name whose first nine
-- bytes are the same. All that any definition asks of a record but its name lies in its first nine bytes, or is asked of no entry.
use mathlib.Core.Bool.{Bool, true, false, ◌&&◌}
use mathlib.Core.List.{List}
use mathlib.Core.Logic.{◌≢◌}
use mathlib.Core.Path.{◌≡◌, refl, sym, ap, ◌∙◌}
use Prim.Native.Nat.{ℕ, ◌+◌, ◌≤◌, ◌<◌}
use native.Mathlib.Omega.{arith}
use lib.ListN.{get_or, take}
use lib.Seq.{get_or-take}
use Rattle.paper.specs.Number.{number_at}
use Rattle.paper.specs.Record.{byte, is_kind, names, directory, simple, marked, text_at}
use Rattle.paper.specs.Layout.{Layout, name_of}
use Rattle.paper.specs.Name.{same}
use Rattle.paper.specs.Entry.{Holder, holder, stands, bears}
use Rattle.laws.proofs.Numbers.{number-cong}
use Rattle.laws.proofs.Entries.{stands-true}
use Rattle.layouts.proofs.Lawful.{Laid}

pub data Twin (A B : Layout) (r q : List ℕ) : Type 0 where
  plain : byte r 0 ≢ 2 → r ≡ q → Twin A B r q
  entry : (name : List ℕ) → byte r 0 ≡ 2 → take 9 r ≡ take 9 q → Laid A name r → Laid B name q → Twin A B r q

module _ {A B : Layout} {r q : List ℕ} where
  pub front : Twin A B r q → take 9 r ≡ take 9 q
  front (plain n e) = ap (take 9) e
  front (entry name k e a b) = e

  -- a byte, and a number, in the first nine bytes
  pub same_byte : Twin A B r q → (j : ℕ) → j < 9 → byte r j ≡ byte q j
  same_byte w j l = sym (get_or-take 9 r j 0 l) ∙ ap (λ (x : List ℕ). get_or x j 0) (front w) ∙ get_or-take 9 q j 0 l

  pub same_number : Twin A B r q → (n j : ℕ) → j + n ≤ 9 → number_at n r j ≡ number_at n q j
  same_number w n j l = number-cong n r q j j (λ i m. same_byte w (j + i) (omega arith))

  -- no entry: the same record
  pub same-plain : Twin A B r q → byte r 0 ≢ 2 → r ≡ q
  same-plain (plain n e) m = e
  same-plain (entry name k e a b) m = absurd (m k)

  -- an entry: the same name
  pub same_name : Twin A B r q → byte r 0 ≡ 2 → name_of A r ≡ name_of B q
  same_name (plain n e) k = absurd (n k)
  same_name (entry name k e a b) m = a.borne ∙ sym b.borne

  -- .. that passes the tests of its layout
  pub same_above : Twin A B r q → byte r 0 ≡ 2 → A.as_above r ≡ B.as_above q
  same_above (plain n e) k = absurd (n k)
  same_above (entry name k e a b) m = a.above ∙ sym b.above

  pub same-padded : Twin A B r q → byte r 0 ≡ 2 → A.padded r ≡ B.padded q
  same-padded (plain n e) k = absurd (n k)
  same-padded (entry name k e a b) m = a.padded ∙ sym b.padded

  -- what is asked of it
  pub same_kind : Twin A B r q → (k : ℕ) → is_kind k r ≡ is_kind k q
  same_kind w k = rw (same_byte w 0 (omega arith))

  pub same_names : Twin A B r q → (h : ℕ) → names h r ≡ names h q
  same_names w h = rw (same_byte w 0 (omega arith), same_number w 2 4 (omega arith))

  pub same-directory : Twin A B r q → directory r ≡ directory q
  same-directory w = rw (same_byte w 0 (omega arith), same_byte w 1 (omega arith))

  pub same-simple : Twin A B r q → simple r ≡ simple q
  same-simple w = rw (same_byte w 0 (omega arith), same_byte w 1 (omega arith))

  pub same-marked : Twin A B r q → marked r ≡ marked q
  same-marked w = rw (same_byte w 5 (omega arith))

  pub same_text : Twin A B r q → (h p : ℕ) → text_at h p r ≡ text_at h p q
  same_text w h p = rw (same_byte w 0 (omega arith), same_number w 2 2 (omega arith), same_number w 2 4 (omega arith))

  pub same-holder : Twin A B r q → holder r ≡ holder q
  same-holder w = rw (same_number w 2 2 (omega arith), same_number w 3 6 (omega arith))

  pub same-stands : Twin A B r q → (d : Holder) → stands d r ≡ stands d q
  unfolding stands
  same-stands w d = rw (same_byte w 0 (omega arith), same_number w 2 2 (omega arith), same_number w 3 6 (omega arith))

  pub same-bears : Twin A B r q → (d : Holder) (n : List ℕ) → bears A d n r ≡ bears B d n q
  unfolding bears
  same-bears w d n = go (stands d r) refl (same-stands w d)
    where
      go : (b : Bool) → stands d r ≡ b → stands d r ≡ stands d q → (stands d r && same n (name_of A r)) ≡ (stands d q && same n (name_of B q))
      go true e f = rw (← f, e, same_name w (stands-true d r e).kind)
      go false e f = rw (← f, e)
