use Rattle.std.proofs.Common.{◌≡◌, ◌∙◌, ◌++◌, ◌/◌, List, ℕ, ap, sym, length, refl}
use Rattle.std.proofs.lemmas.Result.{err_from_is_err_and}
use Rattle.byteorder.specs.Endian.{big_bytes}
use Rattle.mxf_sets.specs.Segment.{SegmentParts, entry_size}
use Rattle.mxf_sets.proofs.SegmentBytes.{entry_parts, entry_written}
use Rattle.mxf_sets.proofs.Writing.{Stops-first, Stops-second, WritesPart-second}
use Rattle.mxf_sets.proofs.segment.Segment.put_entries.Goals as goal

pub returns-in_err-put : goal.returns-in_err-put
returns-in_err-put g c =
    let p = err_from_is_err_and c.from_residual.result c.from_residual.ensures.1 in
    let s = c.args.self.now in
    let e = c.self.inside.entries.now in
    let size = c.entry_size-size.result in
    let same : e ≡ s.entries = ap (λ (t : SegmentParts). t.entries) c.self.view_is in
    let sized : size ≡ entry_size s.numbers =
    c.entry_size-size.ensures.size ∙ ap (λ (t : SegmentParts). entry_size t.numbers) c.self.view_is in
    let rest = (big_bytes 4 (length e / size) ++ big_bytes 4 size) ++ e in
    let parts = entry_parts s e size same sized ∙ ap (λ (t : List ℕ). t ++ rest) (sym c.item_head.ensures) in
    rw (p.1, p.2) (Stops-first _ _ _ _ _ _ c.item_head.result rest parts c.in_err-put.ensures.written)

pub returns-in_err-put-2 : goal.returns-in_err-put-2
returns-in_err-put-2 g c =
    let p = err_from_is_err_and c.from_residual-in_err-put-2.result c.from_residual-in_err-put-2.ensures.1 in
    let s = c.args.self.now in
    let e = c.self.inside.entries.now in
    let size = c.entry_size-size.result in
    let same : e ≡ s.entries = ap (λ (t : SegmentParts). t.entries) c.self.view_is in
    let sized : size ≡ entry_size s.numbers =
    c.entry_size-size.ensures.size ∙ ap (λ (t : SegmentParts). entry_size t.numbers) c.self.view_is in
    let first = c.item_head.result in
    let second = c.batch_head.result in
    let parts = entry_written s e size first second same sized c.item_head.ensures c.batch_head.ensures in
    rw (p.1, p.2)
    (Stops-second _ _ _ _ _ _ _ _ first second e parts c.in_ok-put.ensures.written c.in_err-put-2.ensures.written)

pub returns : goal.returns
returns g c =
    let s = c.args.self.now in
    let e = c.self.inside.entries.now in
    let size = c.entry_size-size.result in
    let same : e ≡ s.entries = ap (λ (t : SegmentParts). t.entries) c.self.view_is in
    let sized : size ≡ entry_size s.numbers =
    c.entry_size-size.ensures.size ∙ ap (λ (t : SegmentParts). entry_size t.numbers) c.self.view_is in
    let first = c.item_head.result in
    let second = c.batch_head.result in
    let parts = entry_written s e size first second same sized c.item_head.ensures c.batch_head.ensures in
    WritesPart-second _ _ _ _ _ _ _ _ first (second ++ e) parts c.in_ok-put.ensures.written
    (WritesPart-second _ _ _ _ _ _ _ _ second e refl c.in_ok-put-2.ensures.written c.put-3.ensures.written)
