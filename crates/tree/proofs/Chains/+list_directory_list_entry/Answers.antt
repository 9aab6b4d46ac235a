use Rattle.std.proofs.Common.{append-nil, sym, ◌∙◌, ◌-◌, arith}
use native.Mathlib.Nat.{pos_of_ne-zero}
use Rattle.listing.specs.Shown.{is_listed}
use Rattle.tree.specs.Shown.{sub_shown, entry_shown}
use Rattle.tree.proofs.Places.{lists-none, lists-past, lists-all, lists-then, entry-open, entry-shut, entry-over, tree-none}
use Rattle.tree.proofs.Places.{tree-some, gone, turn-past, turn_on}
use Rattle.tree.proofs.Chains.+list_directory_list_entry.Goals as goal

-- ---- a directory's lines

pub list_directory-returns-then-depth-eq0 : goal.list_directory-returns-then-depth-eq0
list_directory-returns-then-depth-eq0 t c =
    rw (tree-none c.args.self.now.table.now c.args.depth c.args.blanks (is_listed c.args.which) c.if-depth-eq0.true)
    (lists-none c.args.reply.now c.args.at c.args.end c.requires.here)

-- the depth falls
pub list_directory-list_entry-requires : goal.list_directory-list_entry-requires
list_directory-list_entry-requires t c =
    let r = c.requires in
    let p = pos_of_ne-zero c.if-depth-eq0.false in (
      omega (arith, p),
      record { chains = r.chains; narrow = omega (arith, r.narrow, p); here = c.loop-e.invariant.here; small = r.small },
    )

pub list_directory-returns-in_err-place : goal.list_directory-returns-in_err-place
list_directory-returns-in_err-place t c =
    let s = c.args.self.now.table.now in
    rw (
      c.from_residual.ensures,
      tree-some s c.args.depth c.args.blanks (is_listed c.args.which) c.if-depth-eq0.false,
      ← c.new-order.ensures,
      ← c.gather.ensures,
      ← c.as_slice-e-items.ensures,
    )
    (turn-past (entry_shown s (c.args.depth - 1) c.args.blanks) _ c.args.reply.now c.args.at c.args.end _ _ c.loop-e.e-index
    c.loop-e.invariant c.loop-e-test.true _ _ c.list_entry.ensures _ c.in_err-place.was)

pub list_directory-loop-e-preserved : goal.list_directory-loop-e-preserved
list_directory-loop-e-preserved t c =
    turn_on (entry_shown c.args.self.now.table.now (c.args.depth - 1) c.args.blanks) _ c.args.reply.now c.args.at c.args.end _ _ c.loop-e.e-index
    c.loop-e.invariant c.loop-e-test.true _ _ c.list_entry.ensures _ c.in_ok-place.was c.list_entry.auto.reply

pub list_directory-returns : goal.list_directory-returns
list_directory-returns t c =
    let s = c.args.self.now.table.now in
    rw (
      tree-some s c.args.depth c.args.blanks (is_listed c.args.which) c.if-depth-eq0.false,
      ← c.new-order.ensures,
      ← c.gather.ensures,
      ← c.as_slice-e-items.ensures,
    )
    (gone (entry_shown s (c.args.depth - 1) c.args.blanks) _ c.args.reply.now c.args.at c.args.end _ _ c.loop-e.e-index
    c.loop-e.invariant c.loop-e-test.false)

-- ---- an entry's

pub list_entry-returns-then-end-at : goal.list_entry-returns-then-end-at
list_entry-returns-then-end-at t c =
    lists-past _ c.args.reply.now _ c.args.at c.args.end
    (entry-over c.args.self.now.table.now c.args.depth c.args.blanks c.args.e.0 c.args.at c.args.end
    (omega (arith, c.if-end-at.true, c.line_size-own.ensures.0, c.requires.here)))

pub list_entry-returns-then-opens : goal.list_entry-returns-then-opens
list_entry-returns-then-opens t c =
    let s = c.args.self.now.table.now in
    let o = sym c.opens.ensures ∙ c.if-opens.true in
    rw (entry-open s c.args.depth c.args.blanks c.args.e.0 o)
    (lists-then (sub_shown s c.args.blanks c.args.e.0) _ c.args.reply.now _ _ c.args.at c.args.end _ _
    (omega (arith, c.if-end-at.false, c.line_size-own.ensures.0, c.requires.here, c.requires.small))
    (omega (arith, c.line_size-own.ensures.0))
    c.write_line.ensures
    (rw c.heading_named.ensures.0 at c.list_directory.ensures))

pub list_entry-returns-else-opens : goal.list_entry-returns-else-opens
list_entry-returns-else-opens t c =
    let s = c.args.self.now.table.now in
    let o = sym c.opens.ensures ∙ c.if-opens.false in
    rw (entry-shut s c.args.depth c.args.blanks c.args.e.0 o, append-nil)
    (lists-all (sub_shown s c.args.blanks c.args.e.0) c.args.reply.now _ c.args.at c.args.end _
    (omega (arith, c.if-end-at.false, c.line_size-own.ensures.0, c.requires.here, c.requires.small))
    (omega (arith, c.line_size-own.ensures.0)) c.write_line.ensures)
