-- The two sides of the test are the check's: a table has no more free records than records, so that the sum fits.
-- The old text's records are those of its heading's length.
use native.Mathlib.Omega.{arith}
use Rattle.paper.specs.Record.{is_kind}
use Rattle.paper.specs.Table.{rooms, rec}
use Rattle.laws.proofs.Counts.{count_most}
use Rattle.scans.proofs.Free.{count-frees}
use Rattle.elephant.proofs.rewriting.is_no_room.Goals as goal

pub overflow_add-result : goal.overflow_add-result
overflow_add-result c =
    let t = c.args.table.now in
    omega (
      arith,
      c.count_free.ensures,
      c.blocks-old.ensures,
      c.text_length.ensures.1,
      count-frees t,
      count_most (λ i. is_kind 0 (rec t i)) (rooms t),
    )
