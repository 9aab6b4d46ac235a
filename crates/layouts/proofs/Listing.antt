-- A listing shows the same lines on twins: its records are entries, and those bear the same names, so that they stand in the same order;
-- all else in a line is in the first nine bytes of the entry and of its heading. The tree goes by its depth.
use mathlib.Core.Bool.{Bool, true, false, ◌&&◌, not, cond}
use mathlib.Core.List.{List, [], ◌∷◌}
use mathlib.Core.Path.{◌≡◌, refl, ap, ◌∙◌}
use Prim.Native.Nat.{ℕ, zero, suc, ◌+◌, ◌<◌}
use native.Mathlib.Omega.{arith}
use Rattle.paper.specs.Scan.{list_below}
use Rattle.paper.specs.Record.{byte, heading_named}
use Rattle.paper.specs.Layout.{Layout, name_of}
use Rattle.paper.specs.Table.{rooms, rec}
use Rattle.paper.specs.Name.{same, dot_w, before}
use Rattle.paper.specs.Entry.{Holder, base_list, in_directory, stands}
use Rattle.paper.specs.Listing.{line, line_of, insert, in_order, listed, lines, opens, entry_by, lines_by, tree}
use Rattle.laws.proofs.Tests.{and_left}
use Rattle.laws.proofs.Lists.{Every, every-imp, every-below}
use Rattle.laws.proofs.Entries.{stands-true}
use Rattle.layouts.proofs.Twin.{same_byte, same_number, same_name, same-directory, same-stands}
use Rattle.layouts.proofs.Twins.{Twins, list-twin}
use Rattle.layouts.proofs.Shown.{applies-twin}

-- the records of these numbers are entries
abbrev Entries : List ℕ → List ℕ → Type 0
Entries t es = Every (λ e. byte (rec t e) 0 ≡ 2) es

module _ (L : Layout) (t : List ℕ) where
  insert-entries : (e : ℕ) (is : List ℕ) → byte (rec t e) 0 ≡ 2 → Entries t is → Entries t (insert L t e is)
  unfolding insert
  insert-entries e [] k h = (k, tt)
  insert-entries e (i ∷ is) k h = go (before (name_of L (rec t e)) (name_of L (rec t i))) (insert-entries e is k h.1)
    where
      go : (b : Bool) → Entries t (insert L t e is) → Entries t (cond b (e ∷ i ∷ is) (i ∷ insert L t e is))
      go true r = (k, h)
      go false r = (h.0, r)

  order-entries : (es : List ℕ) → Entries t es → Entries t (in_order L t es)
  unfolding in_order
  order-entries [] h = tt
  order-entries (e ∷ es) h = insert-entries e (in_order L t es) h.0 (order-entries es h.1)

-- two tests that entries alone pass, and twins together
pub record Picks (t s : List ℕ) (p q : List ℕ → Bool) : Type 0 where
  pub alike : (i : ℕ) → p (rec t i) ≡ q (rec s i)
  pub entries : (i : ℕ) → p (rec t i) ≡ true → byte (rec t i) 0 ≡ 2

module _ {A B : Layout} {t s : List ℕ} (w : Twins A B t s) where
  -- the tests of a directory's lines and of a base list's
  pub standing : (d : Holder) → Picks t s (stands d) (stands d)
  standing d = record { alike = λ i. same-stands (w.each i) d; entries = λ i e. (stands-true d (rec t i) e).kind }

  pub based : (u : ℕ) → Picks t s (λ r. stands (base_list u) r && not (same dot_w (name_of A r))) (λ r. stands (base_list u) r && not (same dot_w (name_of B r)))
  based u =
      record { alike = λ i. go i (stands (base_list u) (rec t i)) refl; entries = λ i e. (stands-true (base_list u) (rec t i) (and_left _ _ e)).kind }
    where
      go : (i : ℕ) (b : Bool) → stands (base_list u) (rec t i) ≡ b
          → (stands (base_list u) (rec t i) && not (same dot_w (name_of A (rec t i)))) ≡ (stands (base_list u) (rec s i) && not (same dot_w (name_of B (rec s i))))
      go i true e = rw (← (same-stands (w.each i) (base_list u)), e, same_name (w.each i) (stands-true (base_list u) (rec t i) e).kind)
      go i false e = rw (← (same-stands (w.each i) (base_list u)), e)

  line-twin : (e : ℕ) → byte (rec t e) 0 ≡ 2 → line_of A t e ≡ line_of B s e
  unfolding line
  line-twin e k =
      let h : heading_named (rec t e) ≡ heading_named (rec s e) = same_number (w.each e) 2 4 (omega arith) in
      let x = w.each (heading_named (rec s e)) in
      rw (
        h,
        same_byte x 1 (omega arith),
        same_byte x 4 (omega arith),
        same_byte x 2 (omega arith),
        same_byte (w.each e) 1 (omega arith),
        same_name (w.each e) k,
      )

  insert-twin : (e : ℕ) (is : List ℕ) → byte (rec t e) 0 ≡ 2 → Entries t is → insert A t e is ≡ insert B s e is
  unfolding insert
  insert-twin e [] k h = refl
  insert-twin e (i ∷ is) k h = rw (same_name (w.each e) k, same_name (w.each i) h.0, insert-twin e is k h.1)

  order-twin : (es : List ℕ) → Entries t es → in_order A t es ≡ in_order B s es
  unfolding in_order
  order-twin [] h = refl
  order-twin (e ∷ es) h =
      insert-twin e (in_order A t es) h.0 (order-entries A t es h.1) ∙ ap (insert B s e) (order-twin es h.1)

  lines-twin : (es : List ℕ) → Entries t es → lines A t es ≡ lines B s es
  unfolding lines
  lines-twin [] h = refl
  lines-twin (e ∷ es) h = rw (line-twin e h.0, lines-twin es h.1)

  opens-twin : (e : ℕ) → opens t e ≡ opens s e
  unfolding opens
  opens-twin e =
      let h : heading_named (rec t e) ≡ heading_named (rec s e) = same_number (w.each e) 2 4 (omega arith) in
      rw (h, same-directory (w.each (heading_named (rec s e))), applies-twin w e)

  entry-twin : (f g : ℕ → List ℕ) (blanks e : ℕ) → ((h : ℕ) → f h ≡ g h) → byte (rec t e) 0 ≡ 2 → entry_by A f t blanks e ≡ entry_by B g s blanks e
  unfolding entry_by
  entry-twin f g blanks e h k =
      let n : heading_named (rec t e) ≡ heading_named (rec s e) = same_number (w.each e) 2 4 (omega arith) in
      rw (line-twin e k, opens-twin e, h (heading_named (rec t e)), n)

  by-twin : (f g : ℕ → List ℕ) (es : List ℕ) → ((e : ℕ) → byte (rec t e) 0 ≡ 2 → f e ≡ g e) → Entries t es → lines_by f es ≡ lines_by g es
  unfolding lines_by
  by-twin f g [] h k = refl
  by-twin f g (e ∷ es) h k = rw (h e k.0, by-twin f g es h k.1)

  module _ (p q : List ℕ → Bool) (c : Picks t s p q) where
    picked : Entries t (list_below (λ i. p (rec t i)) (rooms t))
    picked =
        every-imp (λ i. (i < rooms t) × (p (rec t i) ≡ true)) (λ i. byte (rec t i) 0 ≡ 2) (list_below (λ i. p (rec t i)) (rooms t))
        (λ i k. c.entries i k.1) (every-below (λ i. p (rec t i)) (rooms t))

    listed-entries : Entries t (listed A t p)
    unfolding listed
    listed-entries = order-entries A t (list_below (λ i. p (rec t i)) (rooms t)) picked

    listed-twin : listed A t p ≡ listed B s q
    unfolding listed
    listed-twin =
        order-twin (list_below (λ i. p (rec t i)) (rooms t)) picked
        ∙ ap (in_order B s) (list-twin w (λ _. p) (λ _. q) c.alike)

    -- the lines of what passes
    pub listing-twin : lines A t (listed A t p) ≡ lines B s (listed B s q)
    listing-twin = lines-twin (listed A t p) listed-entries ∙ ap (lines B s) listed-twin

  -- .. and to a depth
  pub tree-twin : (depth blanks : ℕ) (p q : List ℕ → Bool) → Picks t s p q → tree A t depth blanks p ≡ tree B s depth blanks q
  unfolding tree
  tree-twin zero blanks p q c = refl
  tree-twin (suc depth) blanks p q c =
      let f : ℕ → List ℕ = λ h. tree A t depth (blanks + 2) (stands (in_directory h)) in
      let g : ℕ → List ℕ = λ h. tree B s depth (blanks + 2) (stands (in_directory h)) in
      by-twin (entry_by A f t blanks) (entry_by B g s blanks) (listed A t p)
      (λ e k.
      entry-twin f g blanks e
      (λ h. tree-twin depth (blanks + 2) (stands (in_directory h)) (stands (in_directory h)) (standing (in_directory h))) k)
      (listed-entries p q c)
      ∙ ap (lines_by (entry_by B g s blanks)) (listed-twin p q c)
