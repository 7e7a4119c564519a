use Rattle.mxf_find.proofs.WhollyLaws.{found_wholly, votes_at}
use Rattle.mxf_find.proofs.laws.whole_fragments_are_found.Goals as goal

pub returns : goal.returns
returns c = record { votes = votes_at; found = found_wholly }
