use Rattle.std.proofs.Common.{◌∙◌, ◌==◌, List, ap, subst}
use Rattle.std.specs.Prelude.{filter}
use Rattle.mxf_clocks.specs.Runs.{RunParts}
use Rattle.mxf_timed.specs.Shown.{AreTimed}
use Rattle.mxf_lines.proofs.printing.units.timecodes_shown.Goals as goal

pub returns-in_ok-of-in-Some : goal.returns-in_ok-of-in-Some
returns-in_ok-of-in-Some c =
    let range = c.args.range in
    let runs = c.of_index-runs.ensures
    ∙ ap (λ n. filter (λ (r : RunParts). r.index_sid == n) c.in-Some.clocks.runs) c.index_sid.ensures in
    let told = subst (λ (rs : List RunParts).
    AreTimed c.args.units.now rs range.first range.count c.in_ok-of-in-Some.field-0) runs c.in_ok-of-in-Some.ensures in
    rw c.in-Some.is told
