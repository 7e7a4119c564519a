use Rattle.mxf_views.proofs.Common.{◌∙◌, ap, nat_cmp, sym}
use Rattle.std.specs.BTreeSet.{contains}
use Rattle.std.specs.Cmp.Lexicographic.{slice_cmp}
use Rattle.mxf_clocks.specs.Lookups.{index_kept, origin_kept, timed_in}
use Rattle.mxf_clocks.specs.TracksFor.{StartedClip}
use Rattle.mxf_clocks.proofs.ClipLaws.{run_new, run_shown}
use Rattle.mxf_clocks.proofs.material.new_run.Goals as goal

pub returns-then-contains : goal.returns-then-contains
returns-then-contains c =
    let tables = c.args.tables.now in
    run_shown (timed_in tables.rates.by_index) (index_kept tables.indexes.by_package)
    (origin_kept tables.origins.by_track) (contains (slice_cmp nat_cmp) c.args.shown.now) c.args.clock.now
    c.args.track.now c.args.component.now c.in_ok-at.at c.source_package.result (sym c.in_ok-at.ensures)
    (c.source_package.ensures ∙ ap (λ (s : StartedClip). s.clip.source_package) c.at.view_is)
    (sym c.contains.ensures ∙ c.if-contains.true)

pub returns : goal.returns
returns c =
    let tables = c.args.tables.now in
    c.run_beside.ensures
    ∙ run_new (timed_in tables.rates.by_index) (index_kept tables.indexes.by_package)
    (origin_kept tables.origins.by_track) (contains (slice_cmp nat_cmp) c.args.shown.now) c.args.clock.now
    c.args.track.now c.args.component.now c.in_ok-at.at c.source_package.result (sym c.in_ok-at.ensures)
    (c.source_package.ensures ∙ ap (λ (s : StartedClip). s.clip.source_package) c.at.view_is)
    (sym c.contains.ensures ∙ c.if-contains.false)
