use Rattle.mxf_clocks.proofs.ShownByChoices.{shown-is}
use Rattle.mxf_clocks.proofs.clocks.positions_are_shown_at_their_numbers.Goals as goal

pub returns : goal.returns
returns c = shown-is
