use Rattle.mxf_klv.proofs.Common.{refl}
use Rattle.mxf_klv.proofs.Lists.{In-map}
use Rattle.mxf_skimmed.specs.Skims.{noted_beside}
use Rattle.mxf_skimmed.proofs.RunLaws.{skim_of_lists}
use Rattle.mxf_skimmed.proofs.SkimmedNotes.{alike_are_one, stays}
use Rattle.mxf_skimmed.proofs.laws.skims_hold_what_was_read.Goals as goal

pub returns-clause-held : goal.returns-clause-held
returns-clause-held c = skim_of_lists

pub returns-clause-members : goal.returns-clause-members
returns-clause-members c = λ saved notes n. In-map (noted_beside saved) notes n

pub returns-clause-others : goal.returns-clause-others
returns-clause-others c = stays

pub returns-clause-alone : goal.returns-clause-alone
returns-clause-alone c = λ notes. refl

pub returns-clause-alike : goal.returns-clause-alike
returns-clause-alike c = alike_are_one
