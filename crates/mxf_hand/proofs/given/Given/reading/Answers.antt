use Rattle.std.proofs.Common.{◌≡◌, ◌-◌, ℕ, List, arith, subst}
use Rattle.mxf_read.specs.Feeding.{Tells}
use Rattle.mxf_hand.specs.Given.{bytes_between}
use Rattle.mxf_hand.proofs.NotingLaws.{reading_told}
use Rattle.mxf_hand.proofs.ReadBytes.{between_size}
use Rattle.mxf_hand.proofs.given.Given.reading.Goals as goal

pub returns-clause-notes : goal.returns-clause-notes
returns-clause-notes g c = λ given byte are of.
    let left = c.saturating_sub.result in
    let size : left ≡ c.args.to - c.args.from = c.saturating_sub.ensures in
    reading_told c.args.scan c.args.from (bytes_between byte c.args.from c.args.to) c.feed_from.new.piece
    c.into_notes.result c.cut_head-head.result
    (subst (λ (m : List ℕ). Tells c.args.scan c.args.from m c.feed_from.new.piece)
    (between_size byte c.args.from c.args.to left size)
    (c.in_ok-feed_from.ensures.tells given byte are (λ x b l m. of x b l (omega arith))))
    c.into_notes.ensures c.cut_head-head.ensures
