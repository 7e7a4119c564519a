use Rattle.mxf_klv.proofs.Common.{◌≡◌, ◌∙◌, length, subst, sym, true, CanNote, NoteParts, note_parts}
use Rattle.mxf_find.proofs.MovedLaws.{can_keep, no_note}
use Rattle.mxf_find.proofs.agreeing.moved.Goals as goal

pub returns-in_ok-value-in-Whole-clause-none : goal.returns-in_ok-value-in-Whole-clause-none
returns-in_ok-value-in-Whole-clause-none c = no_note c.ok.result (λ there.
    let n = c.args.note.now in
    let held = c.in-Whole.ensures in
    let value = c.in_ok-value-in-Whole.ensures in
    let can = can_keep n c.args.offset c.in-Whole.value.now held.0 held.1 c.offset.ensures.note there in
    let same : note_parts c.args.offset n.key n.width (length c.in-Whole.value.now) c.in-Whole.value.now
    ≡ note_parts c.args.offset c.key.result c.width.result c.in_ok-value-in-Whole.value.len
    c.in_ok-value-in-Whole.value.items =
    λ i. note_parts c.args.offset ((sym c.key.ensures) i) ((sym c.width.ensures) i) ((sym value.len) i)
    ((sym value.items) i) in
    c.ok.ensures.variant ∙ c.kept.ensures.when.1 (subst (λ (m : NoteParts). CanNote m true) same can))
