-- A full block has no padding, and ends below the file's end or at it; the last block is padded and ends there.
-- What holds no byte or more than 24 is no text.
use mathlib.Core.Bool.{true, false}
use mathlib.Core.Path.{◌≡◌, sym, ◌∙◌}
use Prim.Native.Nat.{◌+◌, ◌*◌, ◌<◌, ◌≤◌}
use native.Mathlib.Omega.{arith}
use borrow.Author.Tests.{eq-eqb, ne_eqb}
use Rattle.paper.specs.Record.{text_length, bytes_held, position}
use Rattle.paper.specs.Sound.{text_as_above, in_place}
use Rattle.paper.specs.Table.{rec}
use Rattle.judge_laws.proofs.Shapes.{Texted, text-not, text-left, text-full}
use Rattle.judge_laws.proofs.Tests.{and-past, and-past-right}
use Rattle.judge_laws.proofs.TextTurns.{place-whole, place-last}
use Rattle.laws.proofs.Tests.{and-no-left, and-no-right}
use Rattle.judge.proofs.text.is_block_right.Goals as goal

pub returns-in-24 : goal.returns-in-24
returns-in-24 c =
    let h = rec c.args.t.now c.args.h in
    let r = rec c.args.t.now c.args.i in
    let k : bytes_held r ≡ 24 = sym c.byte_of-held.ensures.0 ∙ c.in-24.is in
    sym (and-past (text_as_above 0 r) (in_place h r) (text-full r k c.requires.5) ∙ place-whole h r c.requires.2 k
    ∙ rw (c.in-24.is, ← c.two_of-length.ensures.0, c.requires.3))

pub returns-in_default : goal.returns-in_default
returns-in_default c =
    let h = rec c.args.t.now c.args.h in
    let r = rec c.args.t.now c.args.i in
    let e = c.byte_of-held.ensures.0 in
    sym (and-no-left (text_as_above 0 r) (in_place h r) (text-not r (λ (x : Texted r). let s = x.some in let m = x.most in let z : ⊥ = omega arith in z)))

pub returns-in_default-2 : goal.returns-in_default-2
returns-in_default-2 c =
    let h = rec c.args.t.now c.args.h in
    let r = rec c.args.t.now c.args.i in
    let e = c.byte_of-held.ensures.0 in
    sym (and-no-left (text_as_above 0 r) (in_place h r) (text-not r (λ (x : Texted r). let s = x.some in let m = x.most in let z : ⊥ = omega arith in z)))

pub returns-else-end-length : goal.returns-else-end-length
returns-else-end-length c =
    let h = rec c.args.t.now c.args.h in
    let r = rec c.args.t.now c.args.i in
    let l : 1 ≤ bytes_held r = omega arith in
    let m : bytes_held r < 24 = omega arith in
    let n = position r * 24 + bytes_held r in
    let e : n ≡ text_length h → ⊥ = λ q. c.if-end-length.false (rw (c.requires.3, c.byte_of-held.ensures.0, c.two_of-length.ensures.0) q) in
    let p : in_place h r ≡ false = place-last h r c.requires.2 l m ∙ ne_eqb n (text_length h) e in
    ne_eqb _ _ c.if-end-length.false ∙ sym (and-no-right (text_as_above 0 r) (in_place h r) p)

pub returns-then-end-length : goal.returns-then-end-length
returns-then-end-length c =
    let h = rec c.args.t.now c.args.h in
    let r = rec c.args.t.now c.args.i in
    let l : 1 ≤ bytes_held r = omega arith in
    let m : bytes_held r < 24 = omega arith in
    let n = position r * 24 + bytes_held r in
    let e : n ≡ text_length h = rw (← c.requires.3, ← c.byte_of-held.ensures.0, ← c.two_of-length.ensures.0) c.if-end-length.true in
    let p : in_place h r ≡ true = place-last h r c.requires.2 l m ∙ eq-eqb n (text_length h) e in
    c.are_zeros.ensures ∙ rw c.byte_of-held.ensures.0
    (sym (and-past-right (text_as_above 0 r) (in_place h r) p ∙ text-left r l (omega arith) c.requires.5))
