use Rattle.mxf_views.proofs.Common.{◌∙◌, ◌++◌, List, SameMembers, ap, on_ok_weaker, subst, sym}
use Rattle.mxf_tracks.specs.declared.track.TrackAt.{TrackAt}
use Rattle.mxf_clocks.specs.ClockTracks.{clock_of}
use Rattle.mxf_clocks.specs.Clocks.{runs_by_clock}
use Rattle.mxf_clocks.specs.TracksFor.{is_timed}
use Rattle.mxf_clocks.proofs.FirstTracks.{package_by_clock}
use Rattle.mxf_clocks.proofs.material.add_runs_by_package.Goals as goal

pub returns : goal.returns
returns c = λ segments packages are.
    let m = c.args.material.now in
    let clock = c.in-Some.clock in
    let runs = c.args.runs.now.items in
    let new = c.add_runs_by_clock.new.runs.items in
    let timed = is_timed segments in
    let tells = ap clock_of (sym c.as_slice-tracks.ensures) ∙ sym c.in-Some.ensures.clock in
    on_ok_weaker c.add_runs_by_clock.result (λ (same : SameMembers new
    (runs ++ runs_by_clock timed packages c.as_slice-tracks.result.now clock)). package_by_clock timed packages m clock
    runs new (sym c.is_material.ensures ∙ c.if-not-is_material.false) tells
    (subst (λ (ts : List TrackAt). SameMembers new (runs ++ runs_by_clock timed packages ts clock))
    c.as_slice-tracks.ensures same)) (c.add_runs_by_clock.ensures segments packages are)
