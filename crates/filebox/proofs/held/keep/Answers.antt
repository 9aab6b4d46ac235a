-- A byte is stored where the place is inside;
-- past the end `set` changes nothing.
use Prim.Native.Nat.{◌≤◌}
use native.Mathlib.Omega.{arith}
use mathlib.Core.Path.{refl, sym}
use lib.ListN.{length}
use lib.Seq.{set_out}
use borrow.Author.Tests.{lt-ltb, le-ltb}
use Rattle.filebox.proofs.held.keep.Goals as goal

pub returns-then-n-s : goal.returns-then-n-s
returns-then-n-s c = (rw (lt-ltb c.args.n (length c.args.s.now) c.if-n-s.true), refl)

pub returns-else-n-s : goal.returns-else-n-s
returns-else-n-s c =
    let s = c.args.s.now in
    let n = c.args.n in
    let h : length s ≤ n = omega arith in
    (rw (le-ltb n (length s) h), sym (set_out s n c.args.b h))
