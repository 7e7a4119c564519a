use Rattle.mxf_views.proofs.Common.{◌∙◌, ◌+◌, ltb-true, refl, sym, ltb-false, slice_get_read}
use Rattle.mxf_partial.proofs.InStreamLaws.{first_found, none_behind, other_behind}
use Rattle.mxf_partial.proofs.in_streams.first_from.Goals.{in_default-via-in-Some+else-stream}
use Rattle.mxf_partial.proofs.in_streams.first_from.Goals.{in_default-via-in_default}
use Rattle.mxf_partial.proofs.in_streams.first_from.Goals as goal

pub returns-in-Some : goal.returns-in-Some
returns-in-Some g c = λ r.
    let t = c.args.bound.from + c.args.bound.more in
    first_found g.T.InStream.stream g.T.InStream.offset g.T.InStream.tie c.args.items.now c.args.stream t
    c.below.result r (c.below.ensures.parted r) c.in-Some.item.now
    (slice_get_read c.args.items.now _ _ _ refl (ltb-true _ _ (sym c.in-Some.ensures.lookup.0))
    c.in-Some.ensures.lookup.1) (sym c.stream.ensures ∙ c.if-stream.true)

pub returns-in_default : goal.returns-in_default
returns-in_default g c = λ r.
    let t = c.args.bound.from + c.args.bound.more in
    elim c.in_default.branch [
      | in_default-via-in-Some+else-stream w ↦
          other_behind g.T.InStream.stream g.T.InStream.offset g.T.InStream.tie c.args.items.now c.args.stream t
          c.below.result r (c.below.ensures.parted r) w.in-Some.item.now
          (slice_get_read c.args.items.now _ _ _ refl (ltb-true _ _ (sym w.in-Some.ensures.lookup.0))
          w.in-Some.ensures.lookup.1) (λ e. w.if-stream.false (w.stream.ensures ∙ e))
      | in_default-via-in_default w ↦
          none_behind g.T.InStream.stream g.T.InStream.offset g.T.InStream.tie c.args.items.now c.args.stream t
          c.below.result r (c.below.ensures.parted r) (ltb-false _ _ (sym w.in_default.ensures.lookup.0))
    ]
