-- The part does not fit, or the file is marked, or the part starts beyond the end, or is written to the front: the cases of `showing`, by the same tests.
-- The table is sound, and so the heading's length is its text's.
use mathlib.Core.Path.{◌≡◌, sym, ◌∙◌}
use Prim.Native.Nat.{◌-◌, min}
use native.Mathlib.Omega.{arith}
use Rattle.answers.specs.Shown.{place_meant}
use Rattle.paper.specs.Declaration.{or_else}
use Rattle.records.specs.Part.{meant_part}
use Rattle.std.specs.Prelude.{MatchOption}
use Rattle.std.proofs.Common.{rules, of_calls}
use Rattle.elephant.proofs.Makes.{or-else, or-given}
use Rattle.elephant.proofs.Readings.{part-short, part-marked, part-beyond, part-written}
use Rattle.elephant.proofs.reply.write_text.Goals as goal

pub returns-then-reply-m : goal.returns-then-reply-m
returns-then-reply-m c =
    let a = c.args in
    let p = c.requires in
    let n = c.text_length-n.result.0 in
    let first = c.unwrap_or-a.ensures ∙ or-else a.first 0 in
    let k : MatchOption a.count (c.map_or.result ≡ n) (λ x. c.map_or.result ≡ x) = search (rules, of_calls) in
    let e : c.min-m.result ≡ min (or_else (meant_part a.count) n) (n - or_else (meant_part a.first) 0) =
    rw (c.min-m.ensures, or-given a.count n c.map_or.result k, c.saturating_sub.ensures, first) in
    rw c.whole.ensures
    (part-short (place_meant a.place) a.table.now a.reply.now a.heading.0 n p.0 p.1 c.text_length-n.ensures.0
    (meant_part a.first) (meant_part a.count) c.min-m.result e (omega arith))

pub returns-then-is_marked : goal.returns-then-is_marked
returns-then-is_marked c =
    let a = c.args in
    let p = c.requires in
    let n = c.text_length-n.result.0 in
    let first = c.unwrap_or-a.ensures ∙ or-else a.first 0 in
    let k : MatchOption a.count (c.map_or.result ≡ n) (λ x. c.map_or.result ≡ x) = search (rules, of_calls) in
    let e : c.min-m.result ≡ min (or_else (meant_part a.count) n) (n - or_else (meant_part a.first) 0) =
    rw (c.min-m.ensures, or-given a.count n c.map_or.result k, c.saturating_sub.ensures, first) in
    part-marked (place_meant a.place) a.table.now a.reply.now a.heading.0 n p.0 p.1 c.text_length-n.ensures.0
    (meant_part a.first) (meant_part a.count) c.min-m.result e (omega (arith, c.if-reply-m.false)) (sym c.is_marked.ensures ∙ c.if-is_marked.true)

pub returns-then-n-a : goal.returns-then-n-a
returns-then-n-a c =
    let a = c.args in
    let p = c.requires in
    let n = c.text_length-n.result.0 in
    let first = c.unwrap_or-a.ensures ∙ or-else a.first 0 in
    let k : MatchOption a.count (c.map_or.result ≡ n) (λ x. c.map_or.result ≡ x) = search (rules, of_calls) in
    let e : c.min-m.result ≡ min (or_else (meant_part a.count) n) (n - or_else (meant_part a.first) 0) =
    rw (c.min-m.ensures, or-given a.count n c.map_or.result k, c.saturating_sub.ensures, first) in
    rw c.whole-then-n-a.ensures
    (part-beyond (place_meant a.place) a.table.now a.reply.now a.heading.0 n p.0 p.1 c.text_length-n.ensures.0
    (meant_part a.first) (meant_part a.count) c.min-m.result e (omega arith)
    (sym c.is_marked.ensures ∙ c.if-is_marked.false) (omega (arith, first, c.if-n-a.true)))

pub returns : goal.returns
returns c =
    let a = c.args in
    let p = c.requires in
    let n = c.text_length-n.result.0 in
    let first = c.unwrap_or-a.ensures ∙ or-else a.first 0 in
    let k : MatchOption a.count (c.map_or.result ≡ n) (λ x. c.map_or.result ≡ x) = search (rules, of_calls) in
    let e : c.min-m.result ≡ min (or_else (meant_part a.count) n) (n - or_else (meant_part a.first) 0) =
    rw (c.min-m.ensures, or-given a.count n c.map_or.result k, c.saturating_sub.ensures, first) in
    rw c.granted.ensures
    (part-written (place_meant a.place) a.table.now a.reply.now a.heading.0 n p.0 p.1 c.text_length-n.ensures.0
    (meant_part a.first) (meant_part a.count) c.min-m.result e _
    (omega (arith, c.if-reply-m.false)) (sym c.is_marked.ensures ∙ c.if-is_marked.false)
    (omega (arith, c.if-n-a.false, first)) (rw first at c.copy_part.ensures))
