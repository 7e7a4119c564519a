use Rattle.std.proofs.Common.{subst}
use Rattle.mxf_units.specs.Standings.{IsStandingIn}
use Rattle.mxf_units.proofs.OneStanding.{one-standing}
use Rattle.mxf_units.proofs.StandingLaws.{standings_by_cause}
use Rattle.mxf_units.proofs.StandingRanges.{standing-exact, standing-says}
use Rattle.mxf_units.proofs.units.standings_by_definition.Goals as goal

pub returns : goal.returns
returns c = record {
  cause = standings_by_cause;
  exact = λ known l standing. (
    λ e. subst (IsStandingIn known l.zone l.extent) e (standing-says known l),
    standing-exact known l standing,
  );
  one = one-standing;
}
