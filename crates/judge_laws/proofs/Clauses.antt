-- The clauses that the records show one by one hold exactly when every record passes the test of its kind.
-- Both ways by kind: a clause on one kind is the scan of one part of that kind's test.
use mathlib.Core.Bool.{true, false}
use mathlib.Core.List.{List, [], ◌∷◌}
use mathlib.Core.Logic.{◌≢◌, by_cases}
use mathlib.Core.Path.{◌≡◌, refl, sym, ◌∙◌}
use Prim.Native.Nat.{ℕ, ◌≤◌, ◌<◌}
use native.Mathlib.Omega.{arith}
use native.Mathlib.Decide.{ℕ_discrete}
use lib.Dec.{leb}
use borrow.Author.Tests.{ne_eqb, leb-true, le-leb}
use Rattle.judge_laws.specs.Shapes.{heading_right, entry_right, right_at, each_right}
use Rattle.paper.specs.Name.{link_name}
use Rattle.paper.specs.Record.{byte, entry_code, zeros}
use Rattle.paper.specs.Layout.{name_of, boxed}
use Rattle.paper.specs.Sound.{free_as_above, heading_as_above, entry_as_above, text_as_above, as_above, holder_there, holders_there, heading_there, headings_there, user_right, users_right, name_padded, names_padded, directory_plain, directories_plain, name_legal, names_legal}
use Rattle.paper.specs.Table.{rooms, rec}
use Rattle.laws.proofs.Scans.{all_true, all_here}
use Rattle.laws.proofs.Tests.{and_left, and_right, and_both, not-both, false-by, joined, joined-first, joined-part}
use Rattle.laws.proofs.Sound.{Above, above_view, above-made, every_true, every_here}
use Rattle.judge_laws.proofs.Shapes.{zeros-at, Entered, entry-view, base-holder, base-user, base-legal, base-place, entry-made}

module _ (t : List ℕ) (i : ℕ) where
  pub right-heading : byte (rec t i) 0 ≡ 1 → right_at t i ≡ heading_right (rec t i)
  unfolding right_at
  right-heading k = rw k

  pub right-entry : byte (rec t i) 0 ≡ 2 → right_at t i ≡ entry_right t (rec t i)
  unfolding right_at
  right-entry k = rw k

  pub right-text : byte (rec t i) 0 ≡ 3 → right_at t i ≡ text_as_above 0 (rec t i)
  unfolding right_at
  right-text k = rw k

  right-free : byte (rec t i) 0 ≡ 0 → right_at t i ≡ zeros 0 32 (rec t i)
  unfolding right_at
  right-free k = rw k

  pub right-other : (byte (rec t i) 0 ≡ 1 → ⊥) → (byte (rec t i) 0 ≡ 2 → ⊥) → (byte (rec t i) 0 ≡ 3 → ⊥) → right_at t i ≡ zeros 0 32 (rec t i)
  unfolding right_at
  right-other a b d = rw (ne_eqb (byte (rec t i) 0) 1 a, ne_eqb (byte (rec t i) 0) 2 b, ne_eqb (byte (rec t i) 0) 3 d)

-- the clauses that the records show one by one
pub record Clauses (t : List ℕ) : Type 0 where
  pub above : as_above boxed t ≡ true
  pub holders : holders_there t ≡ true
  pub headings : headings_there t ≡ true
  pub users : users_right t ≡ true
  pub padded : names_padded boxed t ≡ true
  pub plain : directories_plain t ≡ true
  pub legal : names_legal boxed t ≡ true

pub each-view : (t : List ℕ) → each_right t ≡ true → Clauses t
unfolding each_right joined
each-view t e =
    let s = holders_there t ∷ headings_there t ∷ users_right t ∷ names_padded boxed t ∷ directories_plain t ∷ names_legal boxed t ∷ [] in
    record {
      above = joined-first (as_above boxed t) s e;
      holders = joined-part (as_above boxed t) s 0 e;
      headings = joined-part (as_above boxed t) s 1 e;
      users = joined-part (as_above boxed t) s 2 e;
      padded = joined-part (as_above boxed t) s 3 e;
      plain = joined-part (as_above boxed t) s 4 e;
      legal = joined-part (as_above boxed t) s 5 e;
    }

pub each-made : (t : List ℕ) → Clauses t → each_right t ≡ true
unfolding each_right
each-made t h = rw (h.above, h.holders, h.headings, h.users, h.padded, h.plain) h.legal

-- the clauses hold: each record passes
module _ (t : List ℕ) (h : Clauses t) (a : Above t) (i : ℕ) (l : i < rooms t) where
  heading-passes : byte (rec t i) 0 ≡ 1 → heading_right (rec t i) ≡ true
  unfolding heading_right directories_plain
  heading-passes k =
      and_both (heading_as_above 0 (rec t i)) _ (every_true 1 heading_as_above t a.heading i l k) (every_true 1 directory_plain t h.plain i l k)

  entry-passes : byte (rec t i) 0 ≡ 2 → entry_right t (rec t i) ≡ true
  unfolding holders_there headings_there users_right names_legal
  entry-passes k =
      let r = rec t i in
      let e : entry_as_above boxed 0 r ≡ true = every_true 2 (entry_as_above boxed) t a.entry i l k in
      let n : name_legal boxed i r ≡ true = every_true 2 (name_legal boxed) t h.legal i l k in
      entry-made t r (record {
        code = leb-true _ _ (and_left (leb (entry_code r) 7) _ e);
        laid = and_right (leb (entry_code r) 7) _ e;
        named = every_true 2 (heading_there t) t h.headings i l k;
        link = and_left (link_name (name_of boxed r)) _ n;
        place =
            base-place t r (every_true 2 (holder_there t) t h.holders i l k) (every_true 2 user_right t h.users i l k)
            (and_right (link_name (name_of boxed r)) _ n);
      })

  clause-right : right_at t i ≡ true
  clause-right =
      by_cases (ℕ_discrete (byte (rec t i) 0) 1)
      (λ (q : byte (rec t i) 0 ≡ 1). right-heading t i q ∙ heading-passes q)
      (λ (x : byte (rec t i) 0 ≢ 1). by_cases (ℕ_discrete (byte (rec t i) 0) 2)
      (λ (q : byte (rec t i) 0 ≡ 2). right-entry t i q ∙ entry-passes q)
      (λ (y : byte (rec t i) 0 ≢ 2). by_cases (ℕ_discrete (byte (rec t i) 0) 3)
      (λ (q : byte (rec t i) 0 ≡ 3). right-text t i q ∙ every_true 3 text_as_above t a.text i l q)
      (λ (z : byte (rec t i) 0 ≢ 3).
      let m : byte (rec t i) 0 ≤ 3 = leb-true _ _ (all_true (λ i. leb (byte (rec t i) 0) 3) (rooms t) i l a.kinds) in
      let n : byte (rec t i) 0 ≡ 0 = omega arith in
      right-other t i x y z ∙ every_true 0 free_as_above t a.free i l n)))

-- each record passes: the clauses hold
module _ (t : List ℕ) (h : (i : ℕ) → i < rooms t → right_at t i ≡ true) where
  entered : (i : ℕ) → i < rooms t → byte (rec t i) 0 ≡ 2 → Entered t (rec t i)
  entered i l k = entry-view t (rec t i) (sym (right-entry t i k) ∙ h i l)

  headed : (i : ℕ) → i < rooms t → byte (rec t i) 0 ≡ 1 → heading_right (rec t i) ≡ true
  headed i l k = sym (right-heading t i k) ∙ h i l

  low : (i : ℕ) → i < rooms t → leb (byte (rec t i) 0) 3 ≡ true
  low i l =
      by_cases (ℕ_discrete (byte (rec t i) 0) 1)
      (λ (q : byte (rec t i) 0 ≡ 1). le-leb (byte (rec t i) 0) 3 (omega arith))
      (λ (x : byte (rec t i) 0 ≢ 1). by_cases (ℕ_discrete (byte (rec t i) 0) 2)
      (λ (q : byte (rec t i) 0 ≡ 2). le-leb (byte (rec t i) 0) 3 (omega arith))
      (λ (y : byte (rec t i) 0 ≢ 2). by_cases (ℕ_discrete (byte (rec t i) 0) 3)
      (λ (q : byte (rec t i) 0 ≡ 3). le-leb (byte (rec t i) 0) 3 (omega arith))
      (λ (z : byte (rec t i) 0 ≢ 3).
      let n : byte (rec t i) 0 ≡ 0 = zeros-at 0 32 (rec t i) (sym (right-other t i x y z) ∙ h i l) 0 (omega arith) in
      le-leb (byte (rec t i) 0) 3 (omega arith))))

  right-above : Above t
  unfolding heading_right
  right-above =
      record {
        kinds = all_here (λ i. leb (byte (rec t i) 0) 3) (rooms t) low;
        free = every_here 0 free_as_above t (λ i l k. sym (right-free t i k) ∙ h i l);
        heading = every_here 1 heading_as_above t (λ i l k. and_left (heading_as_above 0 (rec t i)) _ (headed i l k));
        entry = every_here 2 (entry_as_above boxed) t (λ i l k. let e = entered i l k in
            and_both (leb (entry_code (rec t i)) 7) _ (le-leb _ _ e.code) e.laid);
        text = every_here 3 text_as_above t (λ i l k. sym (right-text t i k) ∙ h i l);
      }

  right-clauses : Clauses t
  unfolding holders_there headings_there users_right names_padded names_legal directories_plain heading_right
  right-clauses =
      record {
        above = above-made t right-above;
        holders = every_here 2 (holder_there t) t (λ i l k. base-holder t (rec t i) (entered i l k).place);
        headings = every_here 2 (heading_there t) t (λ i l k. (entered i l k).named);
        users = every_here 2 user_right t (λ i l k. base-user t (rec t i) (entered i l k).place);
        padded = every_here 2 (name_padded boxed) t (λ i l k. refl);
        plain = every_here 1 directory_plain t (λ i l k. and_right (heading_as_above 0 (rec t i)) _ (headed i l k));
        legal = every_here 2 (name_legal boxed) t (λ i l k.
            and_both (link_name (name_of boxed (rec t i))) _ (entered i l k).link (base-legal t (rec t i) (entered i l k).place));
      }

pub each_all : (t : List ℕ) → ((i : ℕ) → i < rooms t → right_at t i ≡ true) → each_right t ≡ true
each_all t h = each-made t (right-clauses t h)

pub each-not : (t : List ℕ) (i : ℕ) → i < rooms t → right_at t i ≡ false → each_right t ≡ false
each-not t i l e =
    false-by (each_right t) (λ s. let c = each-view t s in not-both (clause-right t c (above_view t c.above) i l) e)
