use Rattle.std.proofs.Common.{◌≡◌, ◌-◌, get_or, inl, inr, arith}
use Rattle.std.proofs.lemmas.Bool.{cases_lt}
use Rattle.laws.proofs.Sound.{sized-whole}
use Rattle.judge_laws.specs.Tally.{last_below}
use Rattle.judge_laws.proofs.Lasts.{last-most}
use Rattle.sweep.specs.Listed.{inside}
use Rattle.sweep.proofs.Marks.{grown_refl, grown_trans, reached-room, reached-kind, inside-entry, inside-leads}
use Rattle.sweep.proofs.Closed.{followed-none, followed-more, followed-all}
use Rattle.sweep.proofs.reach.Reached.reach_from.Goals as goal

pub offset_bounds-list-d : goal.offset_bounds-list-d
offset_bounds-list-d c = let l = reached-room c.args.table.now c.args.d c.requires.0 c.requires.2 in omega (arith, l)

pub bounds-list-d : goal.bounds-list-d
bounds-list-d c = reached-room c.args.table.now c.args.d c.requires.0 c.requires.2

pub loop-e-init : goal.loop-e-init
loop-e-init c =
    let t = c.args.table.now in
    let d = c.args.d in
    (c.requires.3, grown_refl _, followed-none t _ d _ (c.requires.1.from d (reached-kind t d c.requires.0 c.requires.2)))

pub reach-requires : goal.reach-requires
reach-requires c =
    let t = c.args.table.now in
    let w = c.in-Some.ensures.0 in
    let x = c.loop-e.invariant.2.next w in rw c.in-Some.ensures.1 (
      c.requires.0,
      omega (arith, w, c.loop-e.invariant.2.most),
      inside-entry t c.args.d (c.loop-e.next - 1) x,
      inside-leads t c.args.d (c.loop-e.next - 1) x c.requires.2,
      c.loop-e.invariant.0,
    )

pub offset_bounds-list-e : goal.offset_bounds-list-e
offset_bounds-list-e c =
    let z = sized-whole c.args.table.now c.requires.0 in
    omega (arith, z.1, c.loop-e.invariant.2.most, c.in-Some.ensures.0, c.in-Some.ensures.1)

pub bounds-list-e : goal.bounds-list-e
bounds-list-e c =
    let z = sized-whole c.args.table.now c.requires.0 in
    omega (arith, z.1, c.loop-e.invariant.2.most, c.in-Some.ensures.0, c.in-Some.ensures.1)

pub loop-e-smaller : goal.loop-e-smaller
loop-e-smaller c =
    let t = c.args.table.now in
    let d = c.args.d in
    let w = c.in-Some.ensures.0 in
    let k = reached-kind t d c.requires.0 c.requires.2 in
    let q : get_or c.args.list.now c.in-Some.e 0 ≡ last_below (inside t d) (c.loop-e.next - 1) =
    rw c.in-Some.ensures.1 (c.requires.1.on (c.loop-e.next - 1) d (omega (arith, w, c.loop-e.invariant.2.most)) k (c.loop-e.invariant.2.next w)) in
    omega (arith, q, last-most (inside t d) (c.loop-e.next - 1), w)

pub loop-e-preserved : goal.loop-e-preserved
loop-e-preserved c =
    let t = c.args.table.now in
    let d = c.args.d in
    let w = c.in-Some.ensures.0 in
    let k = reached-kind t d c.requires.0 c.requires.2 in
    let q : get_or c.args.list.now c.in-Some.e 0 ≡ last_below (inside t d) (c.loop-e.next - 1) =
    rw c.in-Some.ensures.1 (c.requires.1.on (c.loop-e.next - 1) d (omega (arith, w, c.loop-e.invariant.2.most)) k (c.loop-e.invariant.2.next w)) in
    let r = rw c.in-Some.ensures.1 at c.reach.ensures in (
      r.0,
      grown_trans _ _ _ c.loop-e.invariant.1 r.1,
      followed-more t _ _ d c.loop-e.next _ w c.loop-e.invariant.2 r.1 r.2 q,
    )

pub returns : goal.returns
returns c =
    let z : c.loop-e.next ≡ 0 = elim (cases_lt 0 c.loop-e.next) [ inl l ↦ absurd (c.in_default.ensures l) | inr l ↦ omega (arith, l) ] in
    (c.loop-e.invariant.0, c.loop-e.invariant.1, followed-all _ _ _ c.loop-e.next z c.loop-e.invariant.2)
