-- A name that comes back from its number is that number's name, and is looked for by it;
-- another is borne by no entry.
use mathlib.Core.List.{List}
use mathlib.Core.Path.{sym, ap, ◌∙◌}
use Prim.Native.Nat.{ℕ}
use Rattle.paper.specs.Layout.{boxed}
use Rattle.paper.specs.Entry.{find}
use Rattle.laws.proofs.Entries.{same_true}
use Rattle.records.specs.Shown.{holder_shown}
use Rattle.scans.specs.Shown.{found_shown}
use Rattle.scans.proofs.Borne.{find_none}
use Rattle.scans.proofs.find.Goals as goal

pub returns-then-is_unpacked : goal.returns-then-is_unpacked
returns-then-is_unpacked c =
    let a = c.args in
    c.find_number.ensures
    ∙ ap (λ (n : List ℕ). found_shown (find boxed a.table.now (holder_shown a.d) n))
    (sym (same_true a.name.now _ (sym c.is_unpacked.ensures ∙ c.if-is_unpacked.true)))

pub returns-else-is_unpacked : goal.returns-else-is_unpacked
returns-else-is_unpacked c =
    let a = c.args in
    sym (ap found_shown
    (find_none a.table.now (holder_shown a.d) a.name.now _ c.pack-number.ensures.0 (sym c.is_unpacked.ensures ∙ c.if-is_unpacked.false)))
