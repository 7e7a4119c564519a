use Rattle.std.proofs.Common.{◌∙◌}
use Rattle.mxf_forms.proofs.HexadecimalLaws.{encode_lower-is}
use Rattle.mxf_forms.proofs.hexadecimal.hex_text.Goals as goal

pub returns : goal.returns
returns c = c.in_ok-encode.ensures ∙ encode_lower-is c.args.bytes.now
