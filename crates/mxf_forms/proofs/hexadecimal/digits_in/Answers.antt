use Rattle.std.proofs.Common.{◌∙◌}
use Rattle.mxf_forms.proofs.HexadecimalLaws.{digits_are_text, encode_lower-is}
use Rattle.mxf_forms.proofs.hexadecimal.digits_in.Goals as goal

pub unreachable-requires-in-Err : goal.unreachable-requires-in-Err
unreachable-requires-in-Err c = c.in-Err.ensures.cases.0 (rw c.in-Ok.ensures.written (digits_are_text c.args.bytes.now))

pub returns : goal.returns
returns c = c.in-Ok-from_utf8.ensures.cases.0 ∙ c.in-Ok.ensures.written ∙ encode_lower-is c.args.bytes.now
