-- The characters of the marks so far were written.
use Rattle.std.proofs.Common.{flat_map, take}
use Rattle.std.specs.Fmt.{HasWritten, IsPlainFormatter}
use Rattle.mxf_lines.specs.MapLines.{mark_text}
use Rattle.mxf_lines.proofs.printing.map.MarksTextDisplay.fmt.Given as goal

abbrev pub invariant-marks : goal.invariant-marks
invariant-marks g l = IsPlainFormatter l.initial.f
    → HasWritten g.W.Write.write_str_gives l.initial.f (flat_map mark_text (take l.mark-index l.fn.self.0.now)) l.f
