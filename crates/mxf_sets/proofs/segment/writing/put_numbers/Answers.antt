use Rattle.mxf_klv.proofs.Common.{rules, ◌≡◌, ◌∙◌, List, ap, subst, FitsSigned, ℤ, cast_unsigned, to_be_bytes}
use Rattle.mxf_klv.proofs.Common.{to_z-of_z, flat_map, WritesPart}
use Rattle.std.proofs.Common.{w64}
use Rattle.mxf_sets.specs.Items.{ItemParts, item_bytes}
use Rattle.mxf_sets.proofs.SegmentBytes.{numbers_written}
use Rattle.mxf_sets.proofs.segment.writing.put_numbers.Goals as goal

pub returns : goal.returns
returns g c =
    let n = c.args.numbers.now in
    let f : FitsSigned w64 n.start = search rules in
    let h : FitsSigned w64 n.duration = search rules in
    let bytes = λ (z : ℤ). to_be_bytes w64 (cast_unsigned w64 z) in
    let rate = c.rate_bytes-rate in
    let start = c.to_be_bytes-start in
    let duration = c.to_be_bytes-duration in
    let unit_bytes = c.to_be_bytes-unit_bytes in
    let index_sid = c.to_be_bytes-index_sid in
    let body_sid = c.to_be_bytes-body_sid in
    let starts : start.result ≡ bytes n.start = start.ensures ∙ ap bytes (to_z-of_z w64 n.start f) in
    let lasts : duration.result ≡ bytes n.duration = duration.ensures ∙ ap bytes (to_z-of_z w64 n.duration h) in
    let items =
    numbers_written n rate.result start.result duration.result unit_bytes.result index_sid.result body_sid.result
    rate.ensures starts lasts unit_bytes.ensures index_sid.ensures body_sid.ensures in
    subst (WritesPart _ _ _ _ _) (ap (λ (items : List ItemParts). flat_map item_bytes items) items)
    (rw (
      c.numbered.ensures,
      c.numbered-2.ensures,
      c.numbered-3.ensures,
      c.numbered-4.ensures,
      c.numbered-5.ensures,
      c.numbered-6.ensures,
      c.numbered-7.ensures,
      c.numbered-8.ensures,
    ) at c.put_items.ensures)
