-- Where there are n bytes, the part is the first n;
-- where there are fewer, the first n are all.
use Prim.Native.Nat.{◌≤◌, ◌<◌}
use mathlib.Core.Logic.{by_cases}
use mathlib.Core.Path.{◌≡◌, sym, ◌∙◌}
use native.Mathlib.Decide.{dec_lt}
use native.Mathlib.Omega.{arith}
use lib.ListN.{length}
use lib.Seq.{take_all, length-take-le}
use Rattle.filebox.proofs.held.first.Goals as goal

pub slice_bounds-result-end : goal.slice_bounds-result-end
slice_bounds-result-end c =
    let h : c.min.result ≤ length c.args.s.now = omega arith in
    sym (length-take-le c.min.result c.args.s.now h)

pub returns : goal.returns
returns c =
    let s = c.args.s.now in
    let n = c.args.n in
    by_cases (dec_lt (length s) n) (λ (h : length s < n).
    let e : length s ≤ c.min.result = omega arith in
    let z : length s ≤ n = omega arith in
    take_all c.min.result s e ∙ sym (take_all n s z))
    (λ h. let e : c.min.result ≡ n = omega arith in rw e)
