use Rattle.mxf_views.proofs.Common.{◌∙◌, ap, is_some, sym}
use Rattle.mxf_clocks.specs.Lookups.{index_kept, timed_in}
use Rattle.mxf_clocks.specs.TracksFor.{StartedClip}
use Rattle.mxf_clocks.proofs.ClipLaws.{noted}
use Rattle.mxf_clocks.proofs.material.note_shown.Goals as goal

pub returns-in_ok-insert : goal.returns-in_ok-insert
returns-in_ok-insert c =
    let tables = c.args.tables.now in
    noted (timed_in tables.rates.by_index) (index_kept tables.indexes.by_package) c.args.clock_rate c.args.track.now
    c.args.component.now c.in-Some.at c.args.shown.now c.insert.new.self c.source_package.result
    (sym c.in-Some.ensures)
    (c.source_package.ensures ∙ ap (λ (s : StartedClip). s.clip.source_package) c.at.view_is)
    (ap is_some (sym c.index_beside.ensures.index) ∙ sym c.is_some.ensures ∙ c.if-is_some.true)
    c.in_ok-insert.ensures.updates.0
