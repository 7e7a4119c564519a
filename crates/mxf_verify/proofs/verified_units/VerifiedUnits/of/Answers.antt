use Rattle.mxf_views.proofs.Common.{List, subst, ℕ, SameMembers}
use Rattle.mxf_catalogue.specs.declared.run.Run.{Run}
use Rattle.mxf_units.specs.Units.{unit_of}
use Rattle.mxf_verify.specs.Fixities.{AreUnitRuns, IsFixityOf}
use Rattle.mxf_verify.specs.declared.fixity.UnitFixity.{UnitFixity}
use Rattle.mxf_verify.specs.declared.unit_places.UnitPlace.{UnitPlace}
use Rattle.mxf_verify.proofs.UnitRunLaws.{units-counted}
use Rattle.mxf_verify.proofs.verified_units.VerifiedUnits.of.Goals as goal

pub invariant_of-result : goal.invariant_of-result
invariant_of-result c =
    let u = c.args.units.now in
    units-counted (λ (unit : ℕ) (fixity : UnitFixity). IsFixityOf c.verified-verified.result.now c.altered.result.now
    (unit_of u.known u.index_sid unit) fixity) c.args.from c.args.to c.in_ok-runs.runs.items c.requires.order
    c.requires.bound c.in_ok-runs.ensures.runs

pub returns : goal.returns
returns c =
    let u = c.args.units.now in
    let runs = λ (verified altered : List Run). AreUnitRuns
    (λ unit fixity. IsFixityOf verified altered (unit_of u.known u.index_sid unit) fixity) c.args.from c.args.to
    c.in_ok-runs.runs.items in
    record {
      runs = subst (λ (l : List Run). runs l c.args.verification.now.altered) c.verified-verified.ensures
          (subst (λ (l : List Run). runs c.verified-verified.result.now l) c.altered.ensures
          c.in_ok-runs.ensures.runs);
      places = subst (λ (l : List UnitPlace). SameMembers c.in_ok-places.places l) c.in_ok-runs.ensures.places
          c.in_ok-places.ensures;
    }
