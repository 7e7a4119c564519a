use Rattle.mxf_views.proofs.Common.{nat_cmp}
use Rattle.std.specs.BTreeSet.{contains}
use Rattle.std.specs.Cmp.Lexicographic.{slice_cmp}
use Rattle.mxf_clocks.proofs.FirstTracks.{clock_all}
use Rattle.mxf_clocks.proofs.material.add_runs_by_clock.Goals as goal

pub returns : goal.returns
returns c = λ segments packages are.
    let l = c.loop-track in
    clock_all segments packages c.args.tables.now c.args.tracks.now c.args.clock.now l.track-index l.runs.items
    c.args.runs.now.items (contains (slice_cmp nat_cmp) l.shown) c.loop-track-test.false l.invariant are
