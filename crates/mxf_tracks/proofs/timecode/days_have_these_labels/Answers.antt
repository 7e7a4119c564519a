use Rattle.std.proofs.Common.{refl}
use Rattle.std.specs.Fmt.{digits}
use Rattle.mxf_tracks.proofs.timecode.days_have_these_labels.Goals as goal

pub returns : goal.returns
unfolding digits
returns c = record {
  drop_frame = (refl, refl);
  all_counted = (refl, refl, refl);
  minute_of_30 = (refl, refl);
  tenth_minute_of_30 = (refl, refl);
  hour_of_30 = refl;
  minute_of_60 = (refl, refl);
  tenth_minute_of_60 = (refl, refl);
  no_drop_frame = (refl, refl);
}
