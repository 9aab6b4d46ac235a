-- The walks of both names choose: one stopped, or at the file and in the directory.
-- What follows there is the plan's making.
use Rattle.paper.specs.Effect.{cpy_plan}
use Rattle.records.specs.Part.{meant_part}
use Rattle.elephant.proofs.Makes.{cpy_at}
use Rattle.elephant.proofs.Ends.{own, handed, both-off, both-stops, both-reaches, reached-held}
use Rattle.elephant.proofs.copying.cpy.Goals as goal

pub returns-in_err-ends : goal.returns-in_err-ends
unfolding cpy_plan
returns-in_err-ends c =
    let a = c.args in
    both-off a.table.now a.line.now a.user a.old (own a.new)
    (cpy_at a.table.now a.line.now a.old a.new (meant_part a.lifetime) (meant_part a.declared.level) (meant_part a.declared.digit))
    _ c.in_err-ends.ensures a.stop _ (handed _ _ c.from_residual.ensures.1)

pub returns-in_err-directory : goal.returns-in_err-directory
unfolding cpy_plan
returns-in_err-directory c =
    let a = c.args in
    both-stops a.table.now a.line.now a.user a.old (own a.new)
    (cpy_at a.table.now a.line.now a.old a.new (meant_part a.lifetime) (meant_part a.declared.level) (meant_part a.declared.digit))
    c.in_ok-ends.ends c.in_ok-ends.ensures a.stop _ (rw c.own.ensures at c.in_err-directory.ensures) _ (handed _ _ c.from_residual-in_err-directory.ensures.1)

pub cpy_in-requires : goal.cpy_in-requires
cpy_in-requires c =
    let a = c.args in
    let p = c.requires in
    (p, reached-held a.table.now a.line.now a.user 2 (own a.new) _ (rw c.own.ensures at c.in_ok-directory.ensures) (record { sized = p.size; sound = p.sound }))

pub returns : goal.returns
unfolding cpy_plan
returns c =
    let a = c.args in
    both-reaches a.table.now a.line.now a.user a.old (own a.new)
    (cpy_at a.table.now a.line.now a.old a.new (meant_part a.lifetime) (meant_part a.declared.level) (meant_part a.declared.digit))
    c.in_ok-ends.ends c.in_ok-ends.ensures a.stop _ (rw c.own.ensures at c.in_ok-directory.ensures) _ _ (rw c.end.ensures at c.cpy_in.ensures)
