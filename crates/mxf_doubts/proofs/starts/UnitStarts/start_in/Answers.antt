use Rattle.mxf_views.proofs.Common.{◌∙◌, ◌≤◌, ℕ, List, NoteParts, Option, IsCatalogue, greatest_end, subst, sym}
use Rattle.std.specs.Prelude.{IfNone}
use Rattle.mxf_units.specs.Units.{file_offset}
use Rattle.mxf_doubts.proofs.StartLaws.{far_start}
use Rattle.mxf_doubts.proofs.starts.UnitStarts.start_in.Goals as goal

pub returns-in-None : goal.returns-in-None
returns-in-None c =
    let notes = c.args.self.now in
    let place = c.args.place in
    let zone = c.args.zone in
    let x = file_offset zone place.offset in
    let same = c.catalogue.ensures ∙ c.views.ensures ∙ c.self.invariant.0 ∙ c.self.view_is in
    let is = subst (λ (l : List NoteParts). IsCatalogue l) same c.laws.ensures.catalogue in
    let far : greatest_end ≤ x = subst (λ (o : Option ℕ). IfNone o (greatest_end ≤ x)) c.in-None.is c.file_offset.ensures.none in
    sym (far_start notes place.body_sid c.args.unit zone x is far)
