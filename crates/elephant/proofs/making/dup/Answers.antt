-- The walks of both names choose: one stopped, or at the file and in the directory.
-- What follows there is the plan's making.
use Rattle.paper.specs.Effect.{dup_plan}
use Rattle.records.specs.Part.{meant_part}
use Rattle.words.specs.Shown.{begin_meant}
use Rattle.elephant.specs.Done.{Fit}
use Rattle.elephant.specs.Filing.{linking_in}
use Rattle.elephant.specs.Walks.{word_of}
use Rattle.elephant.proofs.Ends.{handed, both-off, both-stops, both-reaches, reached-held, filed}
use Rattle.elephant.proofs.making.dup.Goals as goal

pub returns-in_err-ends : goal.returns-in_err-ends
unfolding dup_plan
returns-in_err-ends c =
    let a = c.args in
    both-off a.table.now a.line.now a.user a.old a.new (linking_in a.table.now (begin_meant a.new.begin) (word_of a.line.now a.new) (meant_part a.digit))
    _ c.in_err-ends.ensures a.stop _ (handed _ _ c.from_residual.ensures.1)

pub returns-in_err-directory : goal.returns-in_err-directory
unfolding dup_plan
returns-in_err-directory c =
    let a = c.args in
    both-stops a.table.now a.line.now a.user a.old a.new (linking_in a.table.now (begin_meant a.new.begin) (word_of a.line.now a.new) (meant_part a.digit))
    c.in_ok-ends.ends c.in_ok-ends.ensures a.stop _ c.in_err-directory.ensures _ (handed _ _ c.from_residual-in_err-directory.ensures.1)

pub dup_in-requires : goal.dup_in-requires
dup_in-requires c =
    let a = c.args in
    let p = c.requires.named in
    let fit : Fit a.table.now = record { sized = p.size; sound = p.sound } in (
      c.requires,
      reached-held a.table.now a.line.now a.user 2 a.new _ c.in_ok-directory.ensures fit,
      (filed a.table.now a.line.now a.user 1 a.old c.in_ok-ends.ends c.in_ok-ends.ensures fit).kind,
    )

pub returns : goal.returns
unfolding dup_plan
returns c =
    let a = c.args in
    both-reaches a.table.now a.line.now a.user a.old a.new (linking_in a.table.now (begin_meant a.new.begin) (word_of a.line.now a.new) (meant_part a.digit))
    c.in_ok-ends.ends c.in_ok-ends.ensures a.stop _ c.in_ok-directory.ensures _ _ c.dup_in.ensures
