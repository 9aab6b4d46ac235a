-- What names no heading, or one that is marked, adds nothing; any other heading is marked and put in the queue.
-- It was not marked, so there is a place for it.
use Rattle.std.proofs.Common.{sym, ◌∙◌, arith}
use Rattle.sweep.proofs.Marks.{put_room, put_held, put_grown, put_led}
use Rattle.sweep.proofs.reach.Reached.reach.Goals as goal

pub offset_bounds-self-self : goal.offset_bounds-self-self
offset_bounds-self-self c =
    let s = c.args.self.now in
    let l = put_room c.args.table.now c.args.i c.heading_named-h.result.0 s c.requires.0 c.requires.4
    c.heading_named-h.ensures.0 (sym c.kind_of.ensures ∙ c.if-kind_of-eq-KIND.true) c.if-not-self-h.true in
    omega (arith, l)

pub bounds-self-self : goal.bounds-self-self
bounds-self-self c =
    let s = c.args.self.now in
    put_room c.args.table.now c.args.i c.heading_named-h.result.0 s c.requires.0 c.requires.4
    c.heading_named-h.ensures.0 (sym c.kind_of.ensures ∙ c.if-kind_of-eq-KIND.true) c.if-not-self-h.true

pub overflow_add-self : goal.overflow_add-self
overflow_add-self c =
    let s = c.args.self.now in
    let l = put_room c.args.table.now c.args.i c.heading_named-h.result.0 s c.requires.0 c.requires.4
    c.heading_named-h.ensures.0 (sym c.kind_of.ensures ∙ c.if-kind_of-eq-KIND.true) c.if-not-self-h.true in
    omega (arith, l)

pub returns-then-not-self-h : goal.returns-then-not-self-h
returns-then-not-self-h c =
    let s = c.args.self.now in
    let k = sym c.kind_of.ensures ∙ c.if-kind_of-eq-KIND.true in (
      put_held c.args.table.now c.args.i c.heading_named-h.result.0 s c.requires.0 c.requires.4
          c.heading_named-h.ensures.0 k c.if-not-self-h.true c.requires.1 c.requires.2 c.requires.3,
      put_grown c.args.table.now c.args.i c.heading_named-h.result.0 s c.requires.0 c.requires.4
          c.heading_named-h.ensures.0 k c.if-not-self-h.true,
      put_led c.args.table.now c.args.i c.heading_named-h.result.0 s c.requires.0 c.requires.4
          c.heading_named-h.ensures.0 k c.if-not-self-h.true,
    )
