use Rattle.mxf_views.proofs.Common.{◌≡◌, ◌∙◌, ap, arith, length, count_by, is_some, part_and_status, clear_notes}
use Rattle.mxf_views.proofs.Common.{is_segment, is_rip_note, tally, tally_fits}
use Rattle.mxf_views.proofs.TallyLaws.{copies_at_most, has_pack, has_segment, partitions_at_most, segments_at_most}
use Rattle.mxf_views.proofs.TallyLaws.{rips_at_most, unreadable_at_most}
use Rattle.mxf_klv.proofs.NoteFilters.{next_tally}
use Rattle.mxf_views.proofs.kept.tally.Tally.of.Goals as goal

pub loop-note-preserved : goal.loop-note-preserved
loop-note-preserved c =
    let n = c.in-Some.note.now in
    let left = c.loop-note.note-iterator in
    let rest = c.next.new.self in
    let e = c.in-Some.ensures.steps in
    let inv = c.loop-note.invariant in
    let len = ap length e in
    let pack : c.one_if-packs.result ≡ tally (has_pack n) = c.one_if-packs.ensures
    ∙ ap tally (c.is_pack.ensures ∙ ap (λ kind. is_some (part_and_status kind)) c.kind.ensures) in
    let segment : c.one_if-segments.result ≡ tally (has_segment n) = c.one_if-segments.ensures
    ∙ ap tally (c.is_segment.ensures ∙ ap is_segment c.kind-in-loop-note.ensures) in
    let rip : c.one_if-random_index_packs.result ≡ tally (is_rip_note n) = c.one_if-random_index_packs.ensures
    ∙ ap tally c.is_rip.ensures in (
      next_tally has_pack _ _ _ n left rest e inv.0 pack,
      next_tally has_segment _ _ _ n left rest e inv.1 segment,
      next_tally is_rip_note _ _ _ n left rest e inv.2 rip,
      omega (arith, len, inv.3, pack, tally_fits (has_pack n)),
      omega (arith, len, inv.4, segment, tally_fits (has_segment n)),
      omega (arith, len, inv.5, rip, tally_fits (is_rip_note n)),
    )

pub returns : goal.returns
returns c =
    let clear = clear_notes c.args.catalogue.now in
    let inv = c.loop-note.invariant in
    let none = c.in-None.ensures.steps.0 in
    let packs = ap (count_by has_pack) none in
    let segments = ap (count_by has_segment) none in
    let rips = ap (count_by is_rip_note) none in
    record {
      partitions = omega (arith, partitions_at_most clear, inv.0, packs);
      unreadable = omega (arith, unreadable_at_most clear, inv.0, packs);
      copies = omega (arith, copies_at_most clear, inv.0, packs);
      segments = omega (arith, segments_at_most clear, inv.1, segments);
      random_index_packs = omega (arith, rips_at_most clear, inv.2, rips);
    }
