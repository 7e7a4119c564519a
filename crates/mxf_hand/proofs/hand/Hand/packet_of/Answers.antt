use Rattle.mxf_views.proofs.Common.{◌≡◌, subst, sym, LiesIn, covered_end, end_of, note_of, packet_parts}
use Rattle.mxf_read.specs.ValueSoFar.{noted_if, passes}
use Rattle.mxf_skim.specs.declared.scan.Scan.{Scan}
use Rattle.mxf_hand.specs.Given.{bytes_between}
use Rattle.std.specs.Result.{IfOk}
use Rattle.mxf_hand.specs.Hand.{AreToldIn, HandBytes, HandParts, packet_of}
use Rattle.mxf_hand.proofs.hand.Hand.packet_of.Goals as goal

pub returns-clause-note : goal.returns-clause-note
returns-clause-note g c =
    subst (λ (a : HandParts). (h : HandBytes) → AreToldIn (g.S.Sources.told c.args.sources.now) a.given.extents a.runs
    a.scan h
    → IfOk c.packet_of.result (λ n. n ≡ packet_of h c.args.head.now)) c.self.view_is
    (λ h t.
    let n = c.args.head.now in
    let packet = note_of n.offset (packet_parts n.key n.width (bytes_between h.byte (covered_end n) (end_of n))) in
    subst (λ (s : Scan). IfOk c.packet_of.result (λ m. m ≡ noted_if (passes s n.key n.length) packet)) (sym t.scanned)
    (c.packet_of.ensures.note t.sources h.byte t.are_told (λ x b low high is. t.bytes x b
    (subst (λ (a : HandParts). LiesIn a.runs x) (sym c.self.view_is) (c.requires.value x low high)) is)))
