use Rattle.std.proofs.Common.{◌∙◌, ap, arith, of_z, to_z, unsigned_abs, w64}
use Rattle.mxf_units.proofs.LastLaws.{abs-kept}
use Rattle.mxf_partial.proofs.GreatestLaws.{reached_all, reached_more, reached_none}
use Rattle.mxf_partial.proofs.greatest.greatest_listed.Goals as goal

pub loop-unit-init : goal.loop-unit-init
loop-unit-init c = reached_none c.args.segment.now c.requires c.unsigned_abs-start.result
    (c.unsigned_abs-start.ensures.value ∙ ap (λ m. unsigned_abs (to_z w64 (of_z w64 m.start))) c.numbers.ensures.numbers
    ∙ abs-kept c.args.segment.now.numbers.start c.numbers.ensures.typed.start)

pub loop-unit-preserved : goal.loop-unit-preserved
loop-unit-preserved c =
    reached_more c.args.segment.now c.loop-unit.unit c.loop-unit.greatest c.offset_of.result c.greater-greatest.result
    c.offset_of.ensures.offset c.greater-greatest.ensures c.loop-unit.invariant

pub returns : goal.returns
returns c =
    let s = c.args.segment.now in
    let start = c.unsigned_abs-start.ensures.value ∙ ap (λ m. unsigned_abs (to_z w64 (of_z w64 m.start)))
    c.numbers.ensures.numbers ∙ abs-kept s.numbers.start c.numbers.ensures.typed.start in
    let count = c.entry_count.ensures in
    reached_all s c.requires c.loop-unit.unit c.loop-unit.greatest
    (omega (arith, start, count, c.loop-unit-test.false, c.loop-unit.auto.unit, c.loop-unit.auto.unit-end))
    c.loop-unit.invariant
