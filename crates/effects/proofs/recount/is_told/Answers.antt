-- What every heading says is read first, and what a directory's says only there.
-- These are the cases of what it tells.
use mathlib.Core.Path.{◌≡◌, sym, ap, ◌∙◌}
use Prim.Native.Nat.{ℕ, ◌<◌}
use lib.Dec.{eqb}
use lib.ListN.{get_or}
use mathlib.Core.Bool.{false, true}
use native.Mathlib.Omega.{arith}
use borrow.Author.Tests.{eq-eqb, ne_eqb}
use Rattle.paper.specs.Count.{says}
use Rattle.paper.specs.Table.{rec}
use Rattle.records.proofs.Said.{tells-not, tells-file, tells-directory}
use Rattle.effects.proofs.Corrected.{says-two}
use Rattle.effects.proofs.recount.is_told.Goals as goal

pub returns-else-two_of-named : goal.returns-else-two_of-named
returns-else-two_of-named c =
    let a = c.args in
    let r = rec a.table.now a.room.0 in
    let b : (k : ℕ) → get_or a.table.now k 0 < 256 = λ k. (c.type_inv.table k).fits in
    let s = says-two a.table.now a.room.0 12 a.named c.requires (omega arith) b (omega arith) in
    let d = ne_eqb _ _ c.if-two_of-named.false in
    let e : says a.named 12 r ≡ false = s ∙ rw c.two_of.ensures at d in
    d ∙ sym (tells-not a.named a.held r e)

pub returns-then-not-is_directory : goal.returns-then-not-is_directory
returns-then-not-is_directory c =
    let a = c.args in
    let r = rec a.table.now a.room.0 in
    let b : (k : ℕ) → get_or a.table.now k 0 < 256 = λ k. (c.type_inv.table k).fits in
    let s = says-two a.table.now a.room.0 12 a.named c.requires (omega arith) b (omega arith) in
    let e : says a.named 12 r ≡ true = s ∙ eq-eqb _ _ (sym c.two_of.ensures ∙ c.if-two_of-named.true) in
    rw (tells-file a.named a.held r e (sym c.is_directory.ensures ∙ c.if-not-is_directory.true), c.if-not-is_directory.true)

pub returns-else-not-is_directory : goal.returns-else-not-is_directory
returns-else-not-is_directory c =
    let a = c.args in
    let r = rec a.table.now a.room.0 in
    let b : (k : ℕ) → get_or a.table.now k 0 < 256 = λ k. (c.type_inv.table k).fits in
    let s = says-two a.table.now a.room.0 12 a.named c.requires (omega arith) b (omega arith) in
    let z = says-two a.table.now a.room.0 14 a.held c.requires (omega arith) b (omega arith) in
    let e : says a.named 12 r ≡ true = s ∙ eq-eqb _ _ (sym c.two_of.ensures ∙ c.if-two_of-named.true) in
    ap (λ (k : ℕ). eqb k a.held) c.two_of-else-not-is_directory.ensures
    ∙ sym (tells-directory a.named a.held r e (sym c.is_directory.ensures ∙ c.if-not-is_directory.false) ∙ z)
