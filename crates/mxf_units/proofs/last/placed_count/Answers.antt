use Rattle.std.proofs.Common.{ap, subst, sym, ◌∙◌, ◌<◌, ◌≤◌, min, of_z, to_z, unsigned_abs, w64}
use Rattle.mxf_units.proofs.LastLaws.{AreUnits, abs-kept, units-constant, units-listed}
use Rattle.mxf_units.proofs.last.placed_count.Goals as goal

pub returns-then-numbers-gt0-clause-units : goal.returns-then-numbers-gt0-clause-units
returns-then-numbers-gt0-clause-units c =
    let s = c.args.segment.now in
    let n = c.numbers-numbers in
    let same = n.ensures.numbers in
    let one_size = subst (λ m. 0 < m.unit_bytes) same c.if-numbers-gt0.true in
    let duration =
    c.unsigned_abs-duration.ensures.value ∙ ap (λ m. unsigned_abs (to_z w64 (of_z w64 m.duration))) same
    ∙ abs-kept s.numbers.duration n.ensures.typed.duration in
    subst (AreUnits s) (sym duration) (units-constant s c.requires one_size)

pub returns-else-numbers-gt0-clause-units : goal.returns-else-numbers-gt0-clause-units
returns-else-numbers-gt0-clause-units c =
    let s = c.args.segment.now in
    let n = c.numbers-numbers in
    let same = n.ensures.numbers in
    let listed = subst (λ m. m.unit_bytes ≤ 0) same c.if-numbers-gt0.false in
    let duration =
    c.unsigned_abs-duration.ensures.value ∙ ap (λ m. unsigned_abs (to_z w64 (of_z w64 m.duration))) same
    ∙ abs-kept s.numbers.duration n.ensures.typed.duration in
    let count =
    c.min.ensures ∙ ap (λ d. min d c.entry_count.result) duration
    ∙ ap (min (unsigned_abs s.numbers.duration)) c.entry_count.ensures in
    subst (AreUnits s) (sym count) (units-listed s listed)
