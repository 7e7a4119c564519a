use Rattle.std.proofs.Common.{◌∙◌, ap}
use Rattle.std.specs.Option.{option_and_then}
use Rattle.mxf_units.specs.NextPlaces.{place_above}
use Rattle.mxf_units.specs.Streams.{offset_above}
use Rattle.mxf_units.specs.declared.constant_units.ConstantUnits.{ConstantUnits}
use Rattle.mxf_units.proofs.NextPlaceLaws.{first-found, first-is}
use Rattle.mxf_units.proofs.next_places.first_behind.Goals as goal

pub returns-clause-next : goal.returns-clause-next
returns-clause-next c =
    let body = c.args.place.body_sid in
    let offset = c.args.place.offset in
    c.offset_above.ensures.offset
    ∙ ap (option_and_then (λ (u : ConstantUnits). option_and_then (offset_above body offset) (place_above offset u)))
    c.in_ok-first.ensures.value ∙ first-found body offset c.requires.small c.args.above.now
    ∙ first-is body offset c.requires.small c.args.above.now c.requires.sized c.requires.behind c.requires.rising
