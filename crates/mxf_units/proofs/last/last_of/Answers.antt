use Rattle.std.proofs.Common.{◌∙◌, ◌<◌, ◌+◌, ◌-◌, ap, arith, min, of_z, subst, sym, to_z, unsigned_abs, w64, ℕ}
use Rattle.mxf_units.specs.LastUnits.{GivesPlace, IsLastWith}
use Rattle.mxf_views.specs.Places.{greatest_unit}
use Rattle.mxf_units.proofs.LastLaws.{abs-kept, last-of, none-of, small_number}
use Rattle.mxf_units.proofs.last.last_of.Goals as goal

pub returns-then-count-eq0 : goal.returns-then-count-eq0
returns-then-count-eq0 c =
    none-of c.args.segment.now c.placed_count-count.result c.placed_count-count.ensures.units c.if-count-eq0.true

pub returns : goal.returns
returns c =
    let s = c.args.segment.now in
    let count = c.placed_count-count.result in
    let n = c.numbers.ensures in
    let start =
    c.unsigned_abs-start.ensures.value ∙ ap (λ m. unsigned_abs (to_z w64 (of_z w64 m.start))) n.numbers
    ∙ abs-kept s.numbers.start n.typed.start in
    let some : 0 < count = omega (arith, c.if-count-eq0.false) in
    let small = small_number s.numbers.start n.segment.start n.typed.start in
    let last = c.min.ensures ∙ ap (λ (at : ℕ). min (at + (count - 1)) greatest_unit) start in
    subst (IsLastWith (GivesPlace s)) (sym last) (last-of s count c.placed_count-count.ensures.units some small)
