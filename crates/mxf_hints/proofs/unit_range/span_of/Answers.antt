use Rattle.std.proofs.Common.{Err, Ok, Option, refl, subst}
use Rattle.mxf_timed.specs.Bounds.{AreStoredBounds}
use Rattle.mxf_timed.specs.declared.asked.UnitBound.{UnitBound}
use Rattle.mxf_hints.specs.AskedUnits.{ByBounds, ByFault, bound_of}
use Rattle.mxf_hints.proofs.unit_range.span_of.Goals as goal

pub returns-in-Ok : goal.returns-in-Ok
returns-in-Ok c =
    let u = c.args.units.now in
    let clock = c.args.runs.now in
    let found = subst (λ (f : Option UnitBound).
    AreStoredBounds u clock f (bound_of c.args.asked.to) (Ok c.in-Ok.bounds)) c.bound_of.ensures
    (subst (λ (t : Option UnitBound). AreStoredBounds u clock c.bound_of.result t (Ok c.in-Ok.bounds))
    c.bound_of-2.ensures c.in-Ok.ensures) in
    ByBounds c.in-Ok.bounds found c.span_within.ensures

pub returns-in-Err : goal.returns-in-Err
returns-in-Err c =
    let u = c.args.units.now in
    let clock = c.args.runs.now in
    let found = subst (λ (f : Option UnitBound).
    AreStoredBounds u clock f (bound_of c.args.asked.to) (Err c.in-Err.fault)) c.bound_of.ensures
    (subst (λ (t : Option UnitBound). AreStoredBounds u clock c.bound_of.result t (Err c.in-Err.fault))
    c.bound_of-2.ensures c.in-Err.ensures) in
    ByFault c.in-Err.fault c.fault_of.result found c.fault_of.ensures refl
