-- The digits of the bytes so far were written.
use Rattle.std.proofs.Common.{take}
use Rattle.std.specs.Fmt.{HasWritten, IsPlainFormatter}
use Rattle.mxf_forms.specs.Hexadecimal.{hex_of}
use Rattle.mxf_forms.proofs.hexadecimal.HexDigitsDisplay.fmt.Given as goal

abbrev pub invariant-bytes : goal.invariant-bytes
invariant-bytes g l = IsPlainFormatter l.initial.f
    → HasWritten g.W.Write.write_str_gives l.initial.f (hex_of (take l.byte-index l.fn.self.0.now)) l.f
