use Rattle.mxf_views.proofs.Common.{◌∙◌, ◌+◌, ◌<◌, ltb-true, refl, arith, sym, ltb-false, slice_get_read}
use Rattle.mxf_partial.proofs.InStreamLaws.{last_found, none_before, other_before}
use Rattle.mxf_partial.proofs.in_streams.last_below.Goals.{in_default-via-in-Some+else-stream}
use Rattle.mxf_partial.proofs.in_streams.last_below.Goals.{in_default-via-in_default}
use Rattle.mxf_partial.proofs.in_streams.last_below.Goals as goal

pub returns-then-count-eq0 : goal.returns-then-count-eq0
returns-then-count-eq0 g c = λ r.
    let t = c.args.bound.from + c.args.bound.more in
    none_before g.T.InStream.stream g.T.InStream.offset g.T.InStream.tie c.args.items.now c.args.stream t
    c.below-count.result r (c.below-count.ensures.parted r) c.if-count-eq0.true

pub returns-in-Some : goal.returns-in-Some
returns-in-Some g c = λ r.
    let t = c.args.bound.from + c.args.bound.more in
    let some : 0 < c.below-count.result = omega (arith, c.if-count-eq0.false) in
    last_found g.T.InStream.stream g.T.InStream.offset g.T.InStream.tie c.args.items.now c.args.stream t
    c.below-count.result r (c.below-count.ensures.parted r) c.in-Some.item.now some
    (slice_get_read c.args.items.now _ _ _ refl (ltb-true _ _ (sym c.in-Some.ensures.lookup.0))
    c.in-Some.ensures.lookup.1) (sym c.stream.ensures ∙ c.if-stream.true)

pub returns-in_default : goal.returns-in_default
returns-in_default g c = λ r.
    let t = c.args.bound.from + c.args.bound.more in
    let some : 0 < c.below-count.result = omega (arith, c.if-count-eq0.false) in
    elim c.in_default.branch [
      | in_default-via-in-Some+else-stream w ↦
          other_before g.T.InStream.stream g.T.InStream.offset g.T.InStream.tie c.args.items.now c.args.stream t
          c.below-count.result r (c.below-count.ensures.parted r) w.in-Some.item.now some
          (slice_get_read c.args.items.now _ _ _ refl (ltb-true _ _ (sym w.in-Some.ensures.lookup.0))
          w.in-Some.ensures.lookup.1) (λ e. w.if-stream.false (w.stream.ensures ∙ e))
      | in_default-via-in_default w ↦
          let past = ltb-false _ _ (sym w.in_default.ensures.lookup.0) in
          let within = c.below-count.ensures.bound in absurd (omega (arith, past, within, some))
    ]
