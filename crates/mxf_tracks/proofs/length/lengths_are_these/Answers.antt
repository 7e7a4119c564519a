use Rattle.std.proofs.Common.{refl}
use Rattle.std.specs.Fmt.{digits}
use Rattle.mxf_tracks.proofs.length.lengths_are_these.Goals as goal

pub returns : goal.returns
unfolding digits
returns c = record {
  below_a_minute = refl;
  below_two_hours = refl;
  two_hours = refl;
  above_a_day = refl;
  hundred_hours = refl;
  hours = (refl, refl);
}
