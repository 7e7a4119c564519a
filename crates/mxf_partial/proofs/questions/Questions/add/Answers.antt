use Rattle.mxf_views.proofs.Common.{◌≡◌, ◌∙◌, ◌∷◌, [], ap, subst, sym, OnOk}
use Rattle.mxf_units.specs.Streams.{place_of, segments_for}
use Rattle.mxf_units.specs.Units.{location_of}
use Rattle.mxf_units.specs.declared.unit.EditUnit.{EditUnit}
use Rattle.mxf_partial.specs.Questions.{asked_by, both}
use Rattle.mxf_partial.proofs.AskLaws.{number_of}
use Rattle.mxf_partial.proofs.questions.Questions.add.Goals as goal

pub returns : goal.returns
returns c =
    let u = c.args.units.now in
    let unit = c.placed.ensures.unit in
    let number = ap (λ (e : EditUnit). e.number) unit ∙ number_of u c.args.number in
    let place = c.placed.ensures.place ∙ sym (ap (place_of (segments_for u.known.notes u.index_sid)) number) in
    let location = c.placed.ensures.location ∙ sym (ap (location_of u.known.notes u.index_sid) number) in
    subst (λ (e : EditUnit). OnOk c.add_placed.result (c.add_placed.new.self
    ≡ both c.args.self.now (asked_by u (e ∷ [])))) unit (c.add_placed.ensures u (place, location))
