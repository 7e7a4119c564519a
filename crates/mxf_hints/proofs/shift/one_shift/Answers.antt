use Rattle.mxf_hints.proofs.ShiftLaws as laws
use Rattle.mxf_hints.proofs.shift.one_shift.Goals as goal

pub returns : goal.returns
returns c = laws.one_shift
