use Rattle.mxf_views.proofs.Common.{◌∙◌, ℕ, ℤ, ap, rules}
use Rattle.std.proofs.Common.{FitsSigned, w64}
use Rattle.std.proofs.lemmas.Int.{to_z-of_z}
use Rattle.mxf_tracks.specs.Timecodes.{labels_of_day, number_in_day}
use Rattle.mxf_clocks.specs.declared.run.Moment.{Moment}
use Rattle.mxf_clocks.specs.Moments.{moved}
use Rattle.mxf_clocks.proofs.MomentLaws.{from_start, labels_some}
use Rattle.mxf_clocks.proofs.run.moment_of.Goals as goal

pub returns-clause-moment : goal.returns-clause-moment
returns-clause-moment c =
    let clock = c.args.clock.now in
    let step = c.args.step in
    let start = c.args.start in
    let more = c.args.more in
    let number = c.number_in_day-number.result in
    let labels = labels_of_day clock.base clock.is_drop in
    let fits : FitsSigned w64 c.args.clock.now.start = search rules in
    c.moved.ensures.moved
    ∙ ap (λ (m : Moment). moved c.labels_of_day-labels.result step m more) c.moved-moment.ensures.moved
    ∙ ap (λ (l : ℕ). moved l step (moved l step (record { number = number; passed = 0 }) start) more)
    c.labels_of_day-labels.ensures.labels
    ∙ ap (λ (n : ℕ). moved labels step (moved labels step (record { number = n; passed = 0 }) start) more)
    c.number_in_day-number.ensures
    ∙ ap (λ (z : ℤ). moved labels step (moved labels step
    (record { number = number_in_day z clock.base clock.is_drop; passed = 0 }) start) more)
    (to_z-of_z w64 clock.start fits)
    ∙ from_start clock step start more (labels_some clock.base clock.is_drop c.requires.base) c.requires.parts
