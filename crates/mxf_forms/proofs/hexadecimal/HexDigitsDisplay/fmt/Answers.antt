use Rattle.std.proofs.Common.{get_or, [], ◌∷◌, take, rules}
use Rattle.std.proofs.Output.{has_written_append, has_written_of_eq}
use Rattle.mxf_forms.specs.Hexadecimal.{hex_of}
use Rattle.mxf_forms.proofs.HexadecimalLaws.{one_more_byte}
use Rattle.mxf_forms.proofs.hexadecimal.HexDigitsDisplay.fmt.Goals as goal

pub bytes-preserved : goal.bytes-preserved
bytes-preserved g c = λ plain.
    let bytes = c.args.self.now.0.now in
    let i = c.bytes.byte-index in
    let byte = get_or bytes i 0 in
    has_written_of_eq _ _ _ _ _ (one_more_byte bytes i 0 c.bytes-test.true)
    (has_written_append _ _ (hex_of (take i bytes)) _ (hex_of (byte ∷ [])) _ (c.bytes.invariant plain)
    (has_written_of_eq _ _ _ _ _ c.digits_in.ensures (search rules)))
