use Rattle.std.proofs.Common.{◌∙◌, ◌++◌, List, None, ap, get_or, ℕ}
use Rattle.mxf_restore.specs.Sections.{sections_from, sections_in}
use Rattle.mxf_places.specs.declared.at_hand.OffsetRange.{OffsetRange}
use Rattle.mxf_places.proofs.LoopLaws.{appended-step}
use Rattle.mxf_restore.proofs.section.cut_up.Goals as goal

pub loop-hole-preserved : goal.loop-hole-preserved
loop-hole-preserved c =
    let so_far = c.loop-hole.sections.items in
    let none : OffsetRange = record { start = 0; end = None } in
    let hole = get_or c.args.holes.now c.loop-hole.hole-index none in
    appended-step (sections_in c.args.cuts.now) c.args.holes.now c.loop-hole.hole-index none so_far _ _
    c.loop-hole-test.true (c.in_ok-add_sections.ensures ∙ ap
    (λ (cuts : List ℕ). so_far ++ sections_from hole hole.start cuts) c.cuts_in.ensures)
    c.loop-hole.invariant
