use Rattle.mxf_views.proofs.Common.{◌≡◌, List, [], subst, sym, NoteParts}
use Rattle.mxf_hand.specs.Noting.{IsReading}
use Rattle.mxf_hand.specs.Barren.{AreAllBarren, IsBarren}
use Rattle.mxf_hand.specs.Hand.{read_bytes}
use Rattle.mxf_hand.proofs.BarrenLaws.{kept_barren}
use Rattle.mxf_hand.proofs.barren.BarrenReadings.keep.Goals as goal

pub returns : goal.returns
returns c = λ h b is.
    let from = c.args.from in
    let end = c.args.end in
    let none : c.args.reading.now.notes ≡ [] = c.is_empty.ensures.0 c.if-not-is_empty.false in
    let bytes = read_bytes h end from in
    let barren : IsBarren h ((from, end), c.in_ok-head.head) =
    subst (IsReading h.scan from bytes []) (sym c.in_ok-head.ensures)
    (subst (λ (notes : List NoteParts). IsReading h.scan from bytes notes c.args.reading.now.head) none is) in
    record {
      before = b.before;
      current = subst (AreAllBarren h) (sym c.in_ok-insert.ensures.entries)
          (kept_barren h c.args.self.now.current.entries (from, end) c.in_ok-head.head b.current barren);
    }
