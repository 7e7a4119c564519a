use Rattle.std.proofs.Common.{◌∙◌, ◌≢◌, ◌+◌, ◌-◌, ap, arith, of_z, pos, to_z, unsigned_abs, w64}
use Rattle.mxf_units.proofs.LastLaws.{abs-kept}
use Rattle.mxf_partial.proofs.GreatestLaws.{not_zero, sized_last}
use Rattle.mxf_partial.proofs.greatest.greatest_of.Goals as goal

pub returns-else-numbers-eq0-2 : goal.returns-else-numbers-eq0-2
returns-else-numbers-eq0-2 c =
    let s = c.args.segment.now in
    let n = c.numbers-numbers.ensures in
    let start = c.unsigned_abs.ensures.value ∙ ap (λ m. unsigned_abs (to_z w64 (of_z w64 m.start))) n.numbers
    ∙ abs-kept s.numbers.start n.typed.start in
    let duration = c.unsigned_abs-else-numbers-eq0-2.ensures.value
    ∙ ap (λ m. unsigned_abs (to_z w64 (of_z w64 m.duration))) n.numbers
    ∙ abs-kept s.numbers.duration n.typed.duration in
    let other : s.numbers.duration ≢ pos 0 =
    λ e. c.if-numbers-eq0-2.false (ap (λ m. of_z w64 m.duration) n.numbers ∙ ap (of_z w64) e) in
    let size = ap (λ m. m.unit_bytes) n.numbers in
    let long = not_zero s.numbers.duration other in
    sized_last s (c.unsigned_abs.result + (c.unsigned_abs-else-numbers-eq0-2.result - 1)) c.offset_of.result
    (λ e. other e.duration) (omega (arith, c.if-numbers-eq0.false, size)) long
    (omega (arith, start, duration)) c.offset_of.ensures.offset
