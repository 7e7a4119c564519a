use Rattle.mxf_clocks.proofs.ChoiceLaws.{best-is, clip-is, clock-is, finished-is, index-is, origin-is, own-is, teller-is, track-is}
use Rattle.mxf_clocks.proofs.choices.choices_by_definition.Goals as goal

pub returns : goal.returns
returns c = record {
  clock = clock-is;
  track = track-is;
  own_track = own-is;
  clip = clip-is;
  origin = origin-is;
  index = index-is;
  teller = teller-is;
  finished = finished-is;
  best = best-is;
}
