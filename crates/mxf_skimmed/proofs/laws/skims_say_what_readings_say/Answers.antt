use Rattle.mxf_skimmed.proofs.RunLaws.{parts_read_from_front, parts_say_the_same, skim_of_parts}
use Rattle.mxf_skimmed.proofs.SavedLaws.{saved_parts}
use Rattle.mxf_skimmed.proofs.laws.skims_say_what_readings_say.Goals as goal

pub returns-clause-holds : goal.returns-clause-holds
returns-clause-holds g c = skim_of_parts g.R.Read.remaining

pub returns-clause-says : goal.returns-clause-says
returns-clause-says g c = parts_say_the_same g.R.Read.remaining

pub returns-clause-saved : goal.returns-clause-saved
returns-clause-saved g c = saved_parts g.R.Read.remaining

pub returns-clause-whole : goal.returns-clause-whole
returns-clause-whole g c = parts_read_from_front g.R.Read.remaining
