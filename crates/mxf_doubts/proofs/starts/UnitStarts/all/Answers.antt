use Rattle.mxf_views.proofs.Common.{◌∙◌, [], ap, filter_map, union}
use Rattle.mxf_units.specs.EssenceZones.{parts_of}
use Rattle.mxf_doubts.specs.UnitStarts.{asked_units, start_cmp, start_of}
use Rattle.mxf_doubts.proofs.FirstMissLaws.{one_start}
use Rattle.mxf_doubts.proofs.starts.UnitStarts.all.Goals as goal

pub sort_once-requires : goal.sort_once-requires
sort_once-requires c = one_start

pub returns : goal.returns
returns c =
    let notes = c.args.self.now in
    let views = c.views-views.ensures ∙ c.self.invariant.0 ∙ c.self.view_is in
    let parts = c.deref.ensures.value ∙ c.self.invariant.1 ∙ ap parts_of c.self.view_is in
    c.sort_once.ensures.members
    ∙ ap (union start_cmp []) (c.in_ok-starts.ensures
    ∙ ap (filter_map (start_of notes)) (c.deref-2.ensures.value ∙ c.in_ok-units.ensures ∙ (λ i. asked_units (views i) (parts i))))
