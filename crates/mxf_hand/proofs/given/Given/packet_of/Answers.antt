use Rattle.mxf_views.proofs.Common.{◌≡◌, ◌∙◌, Bool, true, false, arith, subst, sym, covered_end, end_of, note_of}
use Rattle.mxf_views.proofs.Common.{packet_parts}
use Rattle.std.specs.Result.{IfOk}
use Rattle.mxf_read.specs.ValueSoFar.{noted_if, passes}
use Rattle.mxf_hand.specs.Given.{bytes_between}
use Rattle.mxf_hand.proofs.NotingLaws.{covered_head}
use Rattle.mxf_hand.proofs.ReadBytes.{between_len}
use Rattle.mxf_hand.proofs.ScanLaws.{passed_packet}
use Rattle.mxf_hand.proofs.given.Given.packet_of.Goals as goal

pub returns-then-passes-clause-note : goal.returns-then-passes-clause-note
returns-then-passes-clause-note g c = λ given byte are of.
    let n = c.args.head.now in
    let passing : passes c.args.scan n.key n.length ≡ true = sym c.passes.ensures ∙ c.if-passes.true in
    let from = covered_head n c.requires.head in
    let size = between_len byte (covered_end n) (end_of n) in
    passed_packet c.args.scan n.offset n.key n.width n.length (bytes_between byte (covered_end n) (end_of n))
    c.passed_packet_of.result passing (omega (arith, size, from)) c.passed_packet_of.ensures

pub returns-clause-note : goal.returns-clause-note
returns-clause-note g c = λ given byte are of.
    let n = c.args.head.now in
    let packet = note_of n.offset (packet_parts n.key n.width (bytes_between byte (covered_end n) (end_of n))) in
    let read : passes c.args.scan n.key n.length ≡ false = sym c.passes.ensures ∙ c.if-passes.false in
    subst (λ (b : Bool). IfOk c.read_packet_of.result (λ m. m ≡ noted_if b packet)) (sym read)
    (c.read_packet_of.ensures.note given byte are of)
