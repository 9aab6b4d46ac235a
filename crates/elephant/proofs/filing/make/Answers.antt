-- The checks that the code tries are the plan's, and where none holds the two stages made are the plan's stores.
-- What the entry meets was read before any store, so that it is what the plan reads in the table before the request.
use lib.Seq.{take_all}
use mathlib.Core.Path.{refl}
use Rattle.effects.proofs.Stages.{made-onto}
use Rattle.placing.specs.Placing.{lost_texts, entry_stores}
use Rattle.elephant.proofs.Ending.{file-count, ends-refused, ends-stored}
use Rattle.elephant.proofs.Ends.{handed}
use Rattle.placing.proofs.Meeting.{met-few}
use Rattle.elephant.proofs.filing.make.Goals as goal

pub needed-needs-requires : goal.needed-needs-requires
needed-needs-requires c =
    rw c.count_file-first.ensures (file-count c.args.heading c.args.text.now c.requires.few)

pub returns-in_err-check : goal.returns-in_err-check
returns-in_err-check c =
    let a = c.args in
    ends-refused a.table.now a.rooms.now a.name.now a.text.now a.making a.heading a.late c.requires c.room_at.result.0
    (rw c.count_file-first.ensures at c.room_at.ensures) a.stop
    c.meet-meets.result (rw c.find-found.ensures at c.meet-meets.ensures) _
    (rw (c.needed-needs.ensures, c.count_file-first.ensures, c.is_some-displaced.ensures) at c.in_err-check.ensures) _ (handed _ _ c.from_residual.ensures.1)

pub count_stores-stores-requires : goal.count_stores-stores-requires
count_stores-stores-requires c = (
  rw c.count_file-first.ensures (file-count c.args.heading c.args.text.now c.requires.few),
  rw (c.meet-meets.ensures, c.find-found.ensures)
      (met-few c.args.table.now c.requires.size c.requires.sound 0 _ c.args.making.named.0 c.args.name.now c.requires.short
      c.requires.small _ _ refl),
)

pub returns : goal.returns
returns c =
    let a = c.args in
    let meets = c.meet-meets.result in
    rw (c.stored.ensures, c.is_some-displaced.ensures, c.count_stores-stores.ensures, c.count_file-first.ensures)
    (ends-stored a.table.now a.rooms.now a.name.now a.text.now a.making a.heading a.late c.requires c.room_at.result.0
    (rw c.count_file-first.ensures at c.room_at.ensures) a.stop
    meets (rw c.find-found.ensures at c.meet-meets.ensures) _
    (rw (c.needed-needs.ensures, c.count_file-first.ensures, c.is_some-displaced.ensures) at c.in_ok-check.ensures)
    c.place_entry.new.table c.laid-entry.result _ c.place_entry.result
    (rw (take_all 10 a.name.now c.requires.short) at c.laid-entry.ensures)
    (made-onto _ _ _ _ _ _ _ (λ u. entry_stores u meets c.laid-entry.result (lost_texts a.table.now meets.lost _))
    c.put_file-rest.ensures (rw c.lost_texts.ensures at c.place_entry.ensures)))
