use Rattle.mxf_verify.proofs.OneByteLaws.{changed_alone, said_once}
use Rattle.mxf_verify.proofs.laws.a_changed_byte_is_of_one_note.Goals as goal

pub returns : goal.returns
returns c = record { alone = changed_alone; said = said_once }
