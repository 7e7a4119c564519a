use Rattle.std.proofs.Common.{refl}
use Rattle.mxf_verify.proofs.finishing.told.Goals as goal

pub returns : goal.returns
returns c = record {
  all_packets = c.len.ensures;
  packets = c.len-2.ensures;
  damaged = c.len-3.ensures;
  differing_are = refl;
  cut_are = refl;
  held = record { maximal = c.runs.ensures.cover.maximal; offsets = c.spans-held.ensures.spans };
  verified = refl;
  altered = refl;
  unverified = refl;
  unknown = refl;
  came_is = refl;
}
