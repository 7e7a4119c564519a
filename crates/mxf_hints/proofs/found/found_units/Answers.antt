use Rattle.mxf_views.proofs.Common.{Err, List, Ok, inr, subst, err_from_is_err_and}
use Rattle.mxf_clocks.specs.Runs.{RunParts}
use Rattle.mxf_places.specs.AtHand.{KnownParts}
use Rattle.mxf_units.specs.Units.{UnitsParts}
use Rattle.mxf_hints.specs.AskedIndexes.{IsIndexOf}
use Rattle.mxf_hints.specs.AskedUnits.{AreAsked}
use Rattle.mxf_hints.specs.FoundUnits.{units_by}
use Rattle.mxf_hints.proofs.found.found_units.Goals as goal

pub returns-in_err-span : goal.returns-in_err-span
returns-in_err-span g c =
    let known : KnownParts = record { notes = c.args.views.now; at = c.args.at_hand.now } in
    let index = c.in_ok-index.index in
    let asked = c.args.asked in
    let fault = c.in_err-span.field-0.0 in
    let meant = subst (λ (rs : List RunParts). IsIndexOf c.args.views.now rs asked (Ok index)) c.runs_of.ensures
    c.in_ok-index.ensures in
    let range = subst (λ (rs : List RunParts). AreAsked (units_by known index) rs asked.units (Err fault))
    c.clock_of.ensures (subst (λ (u : UnitsParts). AreAsked u c.clock_of.result.now asked.units (Err fault))
    c.in_ok-units.ensures c.in_err-span.ensures) in
    let p = err_from_is_err_and c.from_residual-in_err-span.result c.from_residual-in_err-span.ensures.1 in
    rw (p.1, p.2) (inr (inr (index, meant, range)))

pub returns : goal.returns
returns g c =
    let known : KnownParts = record { notes = c.args.views.now; at = c.args.at_hand.now } in
    let index = c.in_ok-index.index in
    let asked = c.args.asked in
    let range = c.in_ok-span.span in
    let meant = subst (λ (rs : List RunParts). IsIndexOf c.args.views.now rs asked (Ok index)) c.runs_of.ensures
    c.in_ok-index.ensures in
    let found = subst (λ (rs : List RunParts). AreAsked (units_by known index) rs asked.units (Ok range))
    c.clock_of.ensures (subst (λ (u : UnitsParts). AreAsked u c.clock_of.result.now asked.units (Ok range))
    c.in_ok-units.ensures c.in_ok-span.ensures) in
    (index, meant, c.in_ok-units.ensures, found)
