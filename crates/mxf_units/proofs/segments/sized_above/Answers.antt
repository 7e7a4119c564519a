use Rattle.std.proofs.Common.{◌∙◌, ap, sym}
use Rattle.std.specs.Option.{option_and_then}
use Rattle.mxf_units.specs.NextPlaces.{place_above}
use Rattle.mxf_units.proofs.NextPlaceLaws.{sized_units}
use Rattle.mxf_units.proofs.segments.sized_above.Goals as goal

pub returns-in_err-of : goal.returns-in_err-of
returns-in_err-of c =
    c.from_residual.ensures ∙ ap (option_and_then (place_above 0)) (sym c.in_err-of.was ∙ c.of.ensures.units)
    ∙ sym (sized_units 0 c.args.segment.now)

pub returns : goal.returns
returns c = c.place_above.ensures.place ∙ ap (option_and_then (place_above 0)) (sym c.in_ok-of.was ∙ c.of.ensures.units)
    ∙ sym (sized_units 0 c.args.segment.now)
