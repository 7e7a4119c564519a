use Rattle.mxf_klv.proofs.Common.{◌≡◌, ap, flat_map, err_from_is_err_and}
use Rattle.mxf_sets.specs.Items.{item_bytes}
use Rattle.mxf_sets.specs.Segment.{SegmentParts, entry_item, entry_items, number_items}
use Rattle.mxf_sets.proofs.SegmentBytes.{by_parts, constant_bytes, entries_bytes}
use Rattle.mxf_sets.proofs.Writing.{Stops-first, WritesPart-second, writes_same}
use Rattle.mxf_sets.proofs.segment.writing.SegmentEncode.put_to.Goals as goal

pub returns-in_err-put_numbers : goal.returns-in_err-put_numbers
returns-in_err-put_numbers g c =
    let p = err_from_is_err_and c.from_residual.result c.from_residual.ensures.1 in
    let s = c.args.self.now in
    let numbers : c.self.inside.numbers ≡ s.numbers = ap (λ (t : SegmentParts). t.numbers) c.self.view_is in
    let first = flat_map item_bytes (number_items c.self.inside.numbers) in
    let second = flat_map item_bytes (entry_items s) in
    let parts = by_parts s c.self.inside.numbers numbers in
    rw (p.1, p.2) (Stops-first _ _ _ _ _ _ first second parts c.in_err-put_numbers.ensures)

pub returns-then-self-gt0 : goal.returns-then-self-gt0
returns-then-self-gt0 g c =
    let s = c.args.self.now in
    let numbers : c.self.inside.numbers ≡ s.numbers = ap (λ (t : SegmentParts). t.numbers) c.self.view_is in
    let first = flat_map item_bytes (number_items c.self.inside.numbers) in
    let same = constant_bytes s c.self.inside.numbers numbers c.if-self-gt0.true in
    writes_same _ _ _ _ _ first same c.in_ok-put_numbers.ensures

pub returns : goal.returns
returns g c =
    let s = c.args.self.now in
    let numbers : c.self.inside.numbers ≡ s.numbers = ap (λ (t : SegmentParts). t.numbers) c.self.view_is in
    let first = flat_map item_bytes (number_items c.self.inside.numbers) in
    let second = item_bytes (entry_item s) in
    let parts = entries_bytes s c.self.inside.numbers numbers c.if-self-gt0.false in
    WritesPart-second _ _ _ _ _ _ _ _ first second parts c.in_ok-put_numbers.ensures c.put_entries.ensures
