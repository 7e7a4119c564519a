use Rattle.std.proofs.Common.{rules, ◌≡◌, ◌∙◌, ap, sym, false, FitsSigned, w64}
use Rattle.std.proofs.lemmas.Int.{to_z-of_z}
use Rattle.std.specs.Int.{is_negative}
use Rattle.mxf_sets.proofs.SegmentLemmas.{entries_fit, segment_is, segment_made}
use Rattle.mxf_sets.proofs.segment.Segment.of_items.Goals as goal

pub invariant_of-result : goal.invariant_of-result
invariant_of-result c =
    let n = c.of-numbers.result in
    let f : FitsSigned w64 n.start = search rules in
    let g : FitsSigned w64 n.duration = search rules in
    let start : is_negative n.start ≡ false = sym (ap is_negative (to_z-of_z w64 n.start f)) ∙ c.if-numbers-lt0.false in
    let duration : is_negative n.duration ≡ false = sym (ap is_negative (to_z-of_z w64 n.duration g))
    ∙ c.if-numbers-lt0-2.false in
    let entries = c.in-Some.entries.now in
    let fit = entries_fit n c.args.items.now entries c.requires.small (sym c.in-Some.ensures) in
    (search rules, segment_is n entries fit start duration)

pub returns : goal.returns
returns c =
    let n = c.of-numbers.result in
    let f : FitsSigned w64 n.start = search rules in
    let g : FitsSigned w64 n.duration = search rules in
    let start : is_negative n.start ≡ false = sym (ap is_negative (to_z-of_z w64 n.start f)) ∙ c.if-numbers-lt0.false in
    let duration : is_negative n.duration ≡ false = sym (ap is_negative (to_z-of_z w64 n.duration g))
    ∙ c.if-numbers-lt0-2.false in
    segment_made c.args.items.now n c.in-Some.entries.now c.of-numbers.ensures c.in-Some.ensures start duration
