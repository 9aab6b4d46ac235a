-- Each return is one case of the reading: 13, 15, or what is written.
-- Assumes nothing but the fit table that is written from.
use Rattle.answers.specs.Shown.{place_meant}
use Rattle.elephant.proofs.Readings.{reading-shut, reading-wrong, reading-on}
use mathlib.Core.Path.{ap}
use mathlib.Core.Bool.{not}
use Rattle.elephant.proofs.reply.read_at.Goals as goal

pub returns-then-inhibits_read : goal.returns-then-inhibits_read
returns-then-inhibits_read c =
    let a = c.args in
    reading-shut a.sheet (place_meant a.place) a.table.now a.reply.now a.f (rw c.inhibits_read.ensures at c.if-inhibits_read.true)

pub returns-then-not-is_right : goal.returns-then-not-is_right
returns-then-not-is_right c =
    let a = c.args in
    let i = rw c.inhibits_read.ensures at c.if-inhibits_read.false in
    let b = rw c.is_right.ensures at (ap not c.if-not-is_right.true) in
    reading-wrong a.sheet (place_meant a.place) a.table.now a.reply.now a.f i c.heading_named-heading.result.0 c.heading_named-heading.ensures.0 b

pub returns : goal.returns
returns c =
    let a = c.args in
    let i = rw c.inhibits_read.ensures at c.if-inhibits_read.false in
    let b = rw c.is_right.ensures at (ap not c.if-not-is_right.false) in
    reading-on a.sheet (place_meant a.place) a.table.now a.reply.now a.f i c.heading_named-heading.result.0 c.heading_named-heading.ensures.0 b _ _
    c.write.ensures
