-- A record that is no text of this heading, or whose position is past the first or has a record, changes nothing of what is known.
-- Else its position had none among the records before it, so this record is the lowest there, and one position fewer is without.
use mathlib.Core.Bool.{true}
use mathlib.Core.Path.{◌≡◌, sym, ap, ◌∙◌}
use Prim.Native.Nat.{ℕ, ◌<◌}
use native.Mathlib.Omega.{arith}
use lib.ListN.{get_or}
use Rattle.paper.specs.Record.{position}
use Rattle.paper.specs.Table.{rooms, rec}
use Rattle.effects.specs.Listed.{text_of}
use Rattle.effects.proofs.Places.{placed_off, placed_past, placed-had, placed-some, placed-new}
use Rattle.effects.proofs.rooms.place_text.Goals as goal
use Rattle.effects.proofs.rooms.place_text.Goals.{then-most-p-via-then-most-p, then-most-p-via-else-most-p+then-places-p}

pub returns-then-not-is_text_of : goal.returns-then-not-is_text_of
returns-then-not-is_text_of c = placed_off _ _ _ _ _ _ c.requires.3 (sym c.is_text_of.ensures ∙ c.if-not-is_text_of.true)

pub returns-then-most-p : goal.returns-then-most-p
returns-then-most-p c =
    let a = c.args in
    let q = c.position_of-p.ensures.0 in
    elim c.then-most-p.branch [
      | then-most-p-via-then-most-p w ↦ placed_past _ _ _ _ _ _ c.requires.3 (omega (arith, q, w.if-most-p.true))
      | then-most-p-via-else-most-p+then-places-p w ↦
          placed-had _ _ _ _ _ _ c.requires.3
          (λ (x : get_or a.places.now (position (rec a.table.now a.i)) 0 ≡ rooms a.table.now).
          w.if-places-p.true (ap (λ (j : ℕ). get_or a.places.now j 0) q ∙ x ∙ sym c.requires.1))
    ]

pub overflow_sub-result : goal.overflow_sub-result
overflow_sub-result c =
    let a = c.args in
    let t = a.table.now in
    let q = c.position_of-p.ensures.0 in
    let x : text_of a.heading.0 (rec t a.i) ≡ true = sym c.is_text_of.ensures ∙ c.if-not-is_text_of.false in
    let m : position (rec t a.i) < a.most = omega (arith, q) in
    let none : get_or a.places.now (position (rec t a.i)) 0 ≡ rooms t =
    ap (λ (j : ℕ). get_or a.places.now j 0) (sym q) ∙ c.if-places-p.false ∙ c.requires.1 in
    let v : c.short.result ≡ a.i = omega (arith, c.short.ensures) in
    placed-some t a.heading.0 a.most a.places.now a.left a.i c.requires.3 c.short.result v c.requires.0 c.requires.2 x m none

pub returns : goal.returns
returns c =
    let a = c.args in
    let t = a.table.now in
    let q = c.position_of-p.ensures.0 in
    let x : text_of a.heading.0 (rec t a.i) ≡ true = sym c.is_text_of.ensures ∙ c.if-not-is_text_of.false in
    let m : position (rec t a.i) < a.most = omega (arith, q) in
    let none : get_or a.places.now (position (rec t a.i)) 0 ≡ rooms t =
    ap (λ (j : ℕ). get_or a.places.now j 0) (sym q) ∙ c.if-places-p.false ∙ c.requires.1 in
    let v : c.short.result ≡ a.i = omega (arith, c.short.ensures) in
    rw q (placed-new t a.heading.0 a.most a.places.now a.left a.i c.requires.3 c.short.result v c.requires.0 c.requires.2 x m none)
