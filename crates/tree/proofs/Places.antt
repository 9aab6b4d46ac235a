-- The place after one stretch and then another is the place after both; where the first does not fit, both do not.
use mathlib.Core.Bool.{Bool, true, false, cond}
use mathlib.Core.List.{List, [], ◌++◌}
use mathlib.Core.Path.{◌≡◌, refl, sym, ◌∙◌}
use Prim.Native.Nat.{ℕ, zero, suc, ◌+◌, ◌-◌, ◌≤◌, ◌<◌}
use native.Mathlib.Nat.{add-zero}
use native.Mathlib.Numerals.{add-one}
use native.Mathlib.Omega.{arith}
use lib.Dec.{leb}
use lib.ListN.{length, get_or, drop, length-append, drop_of_length-le}
use lib.Seq.{sets, drop-cons}
use borrow.Author.Tests.{le-leb, lt-leb, leb-true, leb-false}
use Rattle.paper.specs.Record.{heading_named}
use Rattle.paper.specs.Table.{rec}
use Rattle.paper.specs.Entry.{in_directory, stands}
use Rattle.paper.specs.Listing.{opens, lines_by}
use Rattle.records.proofs.Copies.{sets-append}
use Rattle.std.proofs.Common.{Option, Some, None}
use Rattle.tree.specs.Gathered.{gathered}
use Rattle.tree.specs.Shown.{sub_shown, entry_over, entry_shown, tree_shown, placed, Lists}

placed-fit : (at end n : ℕ) → at + n ≤ end → placed at end n ≡ Some (at + n)
unfolding placed
placed-fit at end n l = rw (le-leb (at + n) end l)

placed_past : (at end n : ℕ) → end < at + n → placed at end n ≡ None
unfolding placed
placed_past at end n l = rw (lt-leb (at + n) end l)

-- it is one or the other
data Fits (at end n : ℕ) : Type 0 where
  fit : at + n ≤ end → Fits at end n
  over : end < at + n → Fits at end n

fits : (at end n : ℕ) → Fits at end n
fits at end n = go (leb (at + n) end) refl
  where
    go : (b : Bool) → leb (at + n) end ≡ b → Fits at end n
    go true e = fit (leb-true (at + n) end e)
    go false e = over (leb-false (at + n) end e)

pub placed_at : (at end n p : ℕ) → Some p ≡ placed at end n → (at + n ≤ end) × (p ≡ at + n)
placed_at at end n p e = go (fits at end n)
  where
    go : Fits at end n → (at + n ≤ end) × (p ≡ at + n)
    go (fit l) = let q : Some p ≡ Some (at + n) = e ∙ placed-fit at end n l in (l, (cc))
    go (over l) = let q : Some p ≡ None = e ∙ placed_past at end n l in let z : ◌≡◌ {A = ℕ} 0 1 = cc in absurd (omega arith)

pub placed-over : (at end n : ℕ) → None ≡ placed at end n → end < at + n
placed-over at end n e = go (fits at end n)
  where
    go : Fits at end n → end < at + n
    go (fit l) = let q : None ≡ Some (at + n) = e ∙ placed-fit at end n l in let z : ◌≡◌ {A = ℕ} 0 1 = cc in absurd (omega arith)
    go (over l) = l

-- ---- what is listed from a place on

-- nothing
pub lists-none : (reply : List ℕ) (at end : ℕ) → at ≤ end → Lists [] reply at end (Some at) reply
lists-none reply at end l =
    record { place = rw add-zero at (sym (placed-fit at end 0 (omega arith))); bytes = λ _. refl }

-- what passes the end, whatever is left of the buffer
pub lists-past : (s reply after : List ℕ) (at end : ℕ) → end < at + length s → Lists s reply at end None after
lists-past s reply after at end l =
    record { place = sym (placed_past at end (length s) l); bytes = λ h. let z : ⊥ = omega arith in absurd z }

-- what fits
pub lists-all : (s reply after : List ℕ) (at end p : ℕ) → at + length s ≤ end → p ≡ at + length s → after ≡ sets reply at s
    → Lists s reply at end (Some p) after
lists-all s reply after at end p l q e = record { place = rw q (sym (placed-fit at end (length s) l)); bytes = λ _. e }

-- one stretch that fits, and then another
pub lists-then : (a b reply mid after : List ℕ) (at end p : ℕ) (r : Option ℕ) → at + length a ≤ end → p ≡ at + length a → mid ≡ sets reply at a
    → Lists b mid p end r after → Lists (a ++ b) reply at end r after
lists-then a b reply mid after at end p r l q e n =
    let z : length (a ++ b) ≡ length a + length b = length-append a b in
    record {
      place = n.place ∙ rw (q, z) (same (fits (at + length a) end (length b)));
      bytes = λ h. n.bytes (omega (arith, q, z)) ∙ rw (e, q) (sym (sets-append a b reply at));
    }
  where
    same : Fits (at + length a) end (length b) → placed (at + length a) end (length b) ≡ placed at end (length a + length b)
    same (fit l) =
        let w : at + length a + length b ≡ at + (length a + length b) = omega arith in
        placed-fit (at + length a) end (length b) l ∙ rw w (sym (placed-fit at end (length a + length b) (omega arith)))
    same (over l) = placed_past (at + length a) end (length b) l ∙ sym (placed_past at end (length a + length b) (omega arith))

-- ---- an entry

module _ (t : List ℕ) (depth blanks e : ℕ) where
  pub entry-open : opens t e ≡ true
      → entry_shown t depth blanks e ≡ sub_shown t blanks e ++ tree_shown t depth (blanks + 2) (stands (in_directory (heading_named (rec t e))))
  unfolding entry_over
  entry-open q = rw q

  pub entry-shut : opens t e ≡ false → entry_shown t depth blanks e ≡ sub_shown t blanks e ++ []
  unfolding entry_over
  entry-shut q = rw q

  pub entry-over : (at end : ℕ) → end < at + length (sub_shown t blanks e) → end < at + length (entry_shown t depth blanks e)
  unfolding entry_over
  entry-over at end l =
      let below : List ℕ = cond (opens t e) (tree_shown t depth (blanks + 2) (stands (in_directory (heading_named (rec t e))))) [] in
      omega (arith, length-append (sub_shown t blanks e) below)

-- ---- a directory

pub tree-none : (t : List ℕ) (depth blanks : ℕ) (test : List ℕ → Bool) → depth ≡ 0 → tree_shown t depth blanks test ≡ []
unfolding tree_shown
tree-none t depth blanks test e = rw e

pub tree-some : (t : List ℕ) (depth blanks : ℕ) (test : List ℕ → Bool) → (depth ≡ 0 → ⊥)
    → tree_shown t depth blanks test ≡ lines_by (entry_shown t (depth - 1) blanks) (gathered t test [])
unfolding tree_shown
tree-some t zero blanks test f = absurd (f refl)
tree-some t (suc d) blanks test f = let q : suc d - 1 ≡ d = omega arith in rw q

-- the lines of the entries of an order, so far: what is left from place m on, listed from where it stands, is the whole listed at the first
module _ (f : ℕ → List ℕ) (order : List ℕ) where
  abbrev pub rest : ℕ → List ℕ
  rest m = lines_by f (drop m order)

  pub record Going (reply₀ : List ℕ) (at end : ℕ) (reply : List ℕ) (place m : ℕ) : Type 0 where
    pub whole : (r : Option ℕ) (after : List ℕ) → Lists (rest m) reply place end r after → Lists (lines_by f order) reply₀ at end r after
    pub here : place ≤ end
    pub within : m ≤ length order
    pub long : length reply ≡ length reply₀

  pub going : (reply : List ℕ) (at end : ℕ) → at ≤ end → Going reply at end reply at 0
  going reply at end l = record { whole = λ r after n. n; here = l; within = omega arith; long = refl }

  module _ (reply₀ : List ℕ) (at end : ℕ) (reply : List ℕ) (place m : ℕ) (g : Going reply₀ at end reply place m) where
    -- none is left
    pub gone : length order ≤ m → Lists (lines_by f order) reply₀ at end (Some place) reply
    unfolding lines_by
    gone l = g.whole (Some place) reply (rw (drop_of_length-le order {i = m} l) (lists-none reply place end g.here))

    module _ (l : m < length order) where
      next : rest m ≡ f (get_or order m 0) ++ rest (m + 1)
      unfolding lines_by
      next = rw (drop-cons order m 0 l, add-one)

      -- the next one's lines pass the end
      pub gone-past : (after : List ℕ) → None ≡ placed place end (length (f (get_or order m 0))) → Lists (lines_by f order) reply₀ at end None after
      gone-past after e =
          g.whole None after
          (lists-past (rest m) reply after place end
          (rw next (omega (arith, placed-over place end (length (f (get_or order m 0))) e, length-append (f (get_or order m 0)) (rest (m + 1))))))

      -- .. or fit
      pub going_on : (p : ℕ) (mid : List ℕ) → Lists (f (get_or order m 0)) reply place end (Some p) mid → length mid ≡ length reply
          → Going reply₀ at end mid p (m + 1)
      going_on p mid n w =
          let q = placed_at place end (length (f (get_or order m 0))) p n.place in
          record {
            whole = λ r after k.
                g.whole r after
                (rw next (lists-then (f (get_or order m 0)) (rest (m + 1)) reply mid after place end p r q.0 q.1 (n.bytes q.0) k));
            here = omega (arith, q.0, q.1);
            within = omega arith;
            long = w ∙ g.long;
          }

      -- the next one was listed: it passes the end, or fits
      pub turn-past : (r : Option ℕ) (mid : List ℕ) → Lists (f (get_or order m 0)) reply place end r mid → (after : List ℕ) → r ≡ None
          → Lists (lines_by f order) reply₀ at end None after
      turn-past r mid k after x = gone-past after (sym x ∙ k.place)

      pub turn_on : (r : Option ℕ) (mid : List ℕ) → Lists (f (get_or order m 0)) reply place end r mid → (p : ℕ) → r ≡ Some p
          → length mid ≡ length reply → Going reply₀ at end mid p (m + 1)
      turn_on r mid k p x w = let y : Lists (f (get_or order m 0)) reply place end (Some p) mid = rw x at k in going_on p mid y w
