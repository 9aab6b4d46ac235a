-- Soundness taken apart and put together: a chain of `&&` passes exactly when each of its tests does, so `shaped` is its twelve clauses
-- and "every record is as above" its five. A clause on one kind passes exactly when each record of that kind does.
use mathlib.Core.Bool.{Bool, true}
use mathlib.Core.List.{List, [], ◌∷◌}
use mathlib.Core.Path.{◌≡◌}
use Prim.Native.Nat.{ℕ, ◌%◌, ◌≤◌, ◌<◌}
use lib.ListN.{length}
use lib.Dec.{eqb, leb}
use borrow.Author.Tests.{eqb-true, eq-eqb, leb-true}
use Rattle.paper.specs.Scan.{all_below}
use Rattle.paper.specs.Record.{byte, is_kind}
use Rattle.paper.specs.Layout.{boxed}
use Rattle.paper.specs.Table.{sized, rooms, rec}
use Rattle.paper.specs.Sound.{implies, every, free_as_above, heading_as_above, entry_as_above, text_as_above, as_above, holders_there, headings_there, users_right, names_padded, none_twice, all_named, none_crowded, directories_plain, texts_whole, no_other_text, names_legal, shaped}
use Rattle.laws.proofs.Tests.{and_left, and_right, implies-use, implies-by, joined, joined-first, joined-part}
use Rattle.laws.proofs.Scans.{all_true, all_here}

-- a table of a right size
pub sized-whole : (t : List ℕ) → sized t ≡ true → (length t % 32 ≡ 0) × (length t ≤ 65536)
sized-whole t e = (eqb-true _ _ (and_left (eqb (length t % 32) 0) _ e), leb-true _ _ (and_right (eqb (length t % 32) 0) _ e))

-- the clauses of the computed test, each by itself
pub record Tested (t : List ℕ) : Type 0 where
  pub above : as_above boxed t ≡ true
  pub holders : holders_there t ≡ true
  pub headings : headings_there t ≡ true
  pub users : users_right t ≡ true
  pub padded : names_padded boxed t ≡ true
  pub twice : none_twice boxed t ≡ true
  pub named : all_named t ≡ true
  pub crowded : none_crowded t ≡ true
  pub plain : directories_plain t ≡ true
  pub whole : texts_whole t ≡ true
  pub other : no_other_text t ≡ true
  pub legal : names_legal boxed t ≡ true

pub tested : (t : List ℕ) → shaped boxed t ≡ true → Tested t
unfolding shaped joined
tested t e =
    let a = as_above boxed t in
    let s =
    holders_there t ∷ headings_there t ∷ users_right t ∷ names_padded boxed t ∷ none_twice boxed t ∷ all_named t ∷ none_crowded t ∷ directories_plain t ∷ texts_whole t
    ∷ no_other_text t ∷ names_legal boxed t ∷ [] in
    record {
      above = joined-first a s e;
      holders = joined-part a s 0 e;
      headings = joined-part a s 1 e;
      users = joined-part a s 2 e;
      padded = joined-part a s 3 e;
      twice = joined-part a s 4 e;
      named = joined-part a s 5 e;
      crowded = joined-part a s 6 e;
      plain = joined-part a s 7 e;
      whole = joined-part a s 8 e;
      other = joined-part a s 9 e;
      legal = joined-part a s 10 e;
    }

pub untested : (t : List ℕ) → Tested t → shaped boxed t ≡ true
unfolding shaped
untested t c =
    rw (c.above, c.holders, c.headings, c.users, c.padded, c.twice, c.named, c.crowded, c.plain, c.whole, c.other, c.legal)

-- "every record is as above", by its kind
pub record Above (t : List ℕ) : Type 0 where
  pub kinds : all_below (λ i. leb (byte (rec t i) 0) 3) (rooms t) ≡ true
  pub free : every 0 free_as_above t ≡ true
  pub heading : every 1 heading_as_above t ≡ true
  pub entry : every 2 (entry_as_above boxed) t ≡ true
  pub text : every 3 text_as_above t ≡ true

pub above_view : (t : List ℕ) → as_above boxed t ≡ true → Above t
unfolding as_above joined
above_view t e =
    let a = all_below (λ i. leb (byte (rec t i) 0) 3) (rooms t) in
    let s = every 0 free_as_above t ∷ every 1 heading_as_above t ∷ every 2 (entry_as_above boxed) t ∷ every 3 text_as_above t ∷ [] in
    record {
      kinds = joined-first a s e;
      free = joined-part a s 0 e;
      heading = joined-part a s 1 e;
      entry = joined-part a s 2 e;
      text = joined-part a s 3 e;
    }

pub above-made : (t : List ℕ) → Above t → as_above boxed t ≡ true
unfolding as_above
above-made t h = rw (h.kinds, h.free, h.heading, h.entry) h.text

-- what a clause says of record i of kind k
pub every_true : (k : ℕ) (test : ℕ → List ℕ → Bool) (t : List ℕ) → every k test t ≡ true → (i : ℕ) → i < rooms t → byte (rec t i) 0 ≡ k
    → test i (rec t i) ≡ true
every_true k test t e i l q =
    implies-use (is_kind k (rec t i)) _ (all_true (λ i. implies (is_kind k (rec t i)) (test i (rec t i))) (rooms t) i l e) (eq-eqb _ _ q)

pub every_here : (k : ℕ) (test : ℕ → List ℕ → Bool) (t : List ℕ) → ((i : ℕ) → i < rooms t → byte (rec t i) 0 ≡ k → test i (rec t i) ≡ true)
    → every k test t ≡ true
every_here k test t h = all_here _ (rooms t) (λ i l. implies-by (is_kind k (rec t i)) _ (λ q. h i l (eqb-true _ _ q)))
