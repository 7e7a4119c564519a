use Rattle.mxf_skimmed.proofs.AlikeLaws.{disputed_alike, offset_shared_alike, overlapped_alike}
use Rattle.mxf_skimmed.proofs.laws.skims_dispute_the_other_packets.Goals as goal

pub returns-clause-disputed : goal.returns-clause-disputed
returns-clause-disputed c = disputed_alike

pub returns-clause-same_offset : goal.returns-clause-same_offset
returns-clause-same_offset c = offset_shared_alike

pub returns-clause-overlaps : goal.returns-clause-overlaps
returns-clause-overlaps c = overlapped_alike
