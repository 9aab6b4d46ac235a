-- The pass leaves every clause but four, each compared with what it counted; what fails refutes soundness, with or without its counts.
-- Where there are few entries of base files no list is crowded; else the crowds decide. All of it is said of the table without the records that go.
use mathlib.Core.Bool.{true}
use mathlib.Core.Path.{◌≡◌, refl, sym, ◌∙◌}
use native.Mathlib.Omega.{arith}
use lib.ListN.{get_or-replicate}
use borrow.Author.Tests.{le-leb}
use Rattle.judge_laws.specs.Counts.{all_headed}
use Rattle.judge_laws.specs.Crowds.{place_of}
use Rattle.judge_laws.specs.Mask.{without}
use Rattle.judge_laws.specs.Twins.{no_twins}
use Rattle.judge_laws.proofs.Chains.{chains-none}
use Rattle.judge_laws.proofs.Crowds.{ranked-none}
use Rattle.judge_laws.proofs.Pass.{refuted-total, passed_none, passed-single, passed-all, passed-few}
use Rattle.judge_laws.proofs.Counts.{sound-not-shaped, sound-not-headed, headed-named, sound-headed}
use Rattle.judge_laws.proofs.Sound.{shaped-not-twins}
use Rattle.laws.proofs.Sound.{sized-whole}
use Rattle.judge.proofs.is_sound.Goals as goal
use Rattle.judge.proofs.is_sound.Goals.{then-s-slots-via-then-s-slots, then-s-slots-via-else-s-slots+then-not-are_named}
use Rattle.judge.proofs.is_sound.Goals.{then-s-slots-via-else-s-slots+else-not-are_named+then-not-none_are_twins}

pub lay_out-slots-requires : goal.lay_out-slots-requires
lay_out-slots-requires c =
    let w = sized-whole c.args.table.now c.requires in
    (w.0, w.1, refl)

pub returns-then-table-slots : goal.returns-then-table-slots
returns-then-table-slots c =
    let a = c.args in
    sym (sound-not-shaped a.counted (without a.gone.now a.table.now) (c.lay_out-slots.ensures.0 c.if-table-slots.true))

pub pass_all-requires : goal.pass_all-requires
pass_all-requires c =
    let w = sized-whole c.args.table.now c.requires in
    let l = c.lay_out-slots.ensures.1 (omega arith) in (
      w.0,
      w.1,
      c.classes-class.ensures,
      l.0,
      passed_none c.args.gone.now c.args.table.now w.0 _ _ _ _ _ _ _ l.0 refl refl refl refl refl
          (λ s b. get_or-replicate 2048 s 0 0 b) (λ s b. get_or-replicate 2048 s 0 0 b) (λ s b. get_or-replicate 2048 s 0 0 b)
          (λ s b. get_or-replicate 2048 s 0 0 b),
    )

pub returns-in_default : goal.returns-in_default
returns-in_default c =
    let a = c.args in
    sym (sound-not-shaped a.counted (without a.gone.now a.table.now) c.in_default.ensures)

pub returns-then-s-slots : goal.returns-then-s-slots
returns-then-s-slots c =
    let a = c.args in
    let u = without a.gone.now a.table.now in
    let w = sized-whole a.table.now c.requires in
    let l = c.lay_out-slots.ensures.1 (omega arith) in
    let p = c.in-Some.ensures in
    elim c.then-s-slots.branch [
      | then-s-slots-via-then-s-slots v ↦
          sym (sound-not-shaped a.counted u (refuted-total a.gone.now a.table.now w.0 (λ q. v.if-s-slots.true (p.texted ∙ q ∙ sym l.1))))
      | then-s-slots-via-else-s-slots+then-not-are_named v ↦
          sym (sound-not-headed a.counted u (sym v.are_named.ensures ∙ v.if-not-are_named.true))
      | then-s-slots-via-else-s-slots+else-not-are_named+then-not-none_are_twins v ↦
          sym (sound-not-shaped a.counted u (shaped-not-twins u (sym v.none_are_twins.ensures.0 ∙ v.if-not-none_are_twins.true)))
    ]

pub are_named-requires : goal.are_named-requires
are_named-requires c =
    let w = sized-whole c.args.table.now c.requires in
    let p = c.in-Some.ensures in
    (w.0, w.1, p.entries.naming, p.entries.holding.counts)

pub none_are_twins-requires : goal.none_are_twins-requires
none_are_twins-requires c =
    let w = sized-whole c.args.table.now c.requires in
    let l = c.lay_out-slots.ensures.1 (omega arith) in
    let p = c.in-Some.ensures in
    (w.1, p.entries.chains.next_long, passed-single c.args.gone.now c.args.table.now w.0 _ _ _ _ _ _ _ _ _ l.0 p)

pub returns-then-s-le-MOST_BASE_FILES : goal.returns-then-s-le-MOST_BASE_FILES
returns-then-s-le-MOST_BASE_FILES c =
    let g = c.args.gone.now in
    let t = c.args.table.now in
    let w = sized-whole t c.requires in
    let l = c.lay_out-slots.ensures.1 (omega arith) in
    let p = c.in-Some.ensures in
    let n : all_headed c.args.counted (without g t) ≡ true = sym c.are_named.ensures ∙ c.if-not-are_named.false in
    let o : no_twins (without g t) ≡ true = sym c.none_are_twins.ensures.0 ∙ c.if-not-none_are_twins.false in
    le-leb _ _ c.if-s-le-MOST_BASE_FILES.true ∙ sym (sound-headed c.args.counted (without g t) n
    ∙ passed-all g t w.0 _ _ _ _ _ _ _ _ _ l.0 p (c.if-s-slots.false ∙ l.1) (headed-named c.args.counted (without g t) n) o
    ∙ passed-few g t w.0 _ _ _ _ _ _ _ _ _ l.0 p w.1 c.if-s-le-MOST_BASE_FILES.true)

pub crowd_all-requires : goal.crowd_all-requires
crowd_all-requires c =
    let w = sized-whole c.args.table.now c.requires in
    let p = c.in-Some.ensures in
    let n = c.none_are_twins.ensures.1 (c.if-not-none_are_twins.false) in
    (w.1, chains-none place_of _ _ _ refl n (λ s l. get_or-replicate 2048 s 0 0 l), ranked-none _ _ p.text.long)

pub returns-else-s-le-MOST_BASE_FILES : goal.returns-else-s-le-MOST_BASE_FILES
returns-else-s-le-MOST_BASE_FILES c =
    let g = c.args.gone.now in
    let t = c.args.table.now in
    let w = sized-whole t c.requires in
    let l = c.lay_out-slots.ensures.1 (omega arith) in
    let p = c.in-Some.ensures in
    let n : all_headed c.args.counted (without g t) ≡ true = sym c.are_named.ensures ∙ c.if-not-are_named.false in
    let o : no_twins (without g t) ≡ true = sym c.none_are_twins.ensures.0 ∙ c.if-not-none_are_twins.false in
    c.crowd_all.ensures
    ∙ sym (sound-headed c.args.counted (without g t) n
    ∙ passed-all g t w.0 _ _ _ _ _ _ _ _ _ l.0 p (c.if-s-slots.false ∙ l.1) (headed-named c.args.counted (without g t) n) o)
