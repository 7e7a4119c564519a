use Rattle.mxf_klv.proofs.Common.{◌≡◌, ◌+◌, take, length, Appends, flat_map, counted}
use Rattle.mxf_sets.specs.Items.{item_bytes}
use Rattle.mxf_sets.proofs.segment.writing.put_items.Given as goal

abbrev pub invariant-items : goal.invariant-items
invariant-items g l = Appends (g.W.Write.contents l.initial.writer) (g.W.Write.contents l.writer)
    (flat_map item_bytes (take l.item-index l.items)) × (l.progress.written
    ≡ counted (l.initial.progress.written + length (flat_map item_bytes (take l.item-index l.items))))
