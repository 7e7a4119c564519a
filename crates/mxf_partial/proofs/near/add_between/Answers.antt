use Rattle.std.proofs.Common.{◌∙◌, ◌||◌, Bool, ap, sym}
use Rattle.mxf_partial.proofs.NearLaws.{added_both}
use Rattle.mxf_partial.proofs.near.add_between.Goals as goal

pub returns-then-any : goal.returns-then-any
returns-then-any c = λ order.
    let any = c.in_ok-any.any in
    let own = c.in_ok-own.own in
    added_both c.args.items.now c.args.body_sid c.args.from c.args.end c.args.positions.now c.add_range.new.positions
    c.add_range-2.new.positions any own any (c.in_ok-any.ensures order) (c.in_ok-own.ensures order)
    (c.if-any.true ∙ ap (λ (a : Bool). a || own) (sym c.if-any.true))

pub returns-else-any : goal.returns-else-any
returns-else-any c = λ order.
    let any = c.in_ok-any.any in
    let own = c.in_ok-own.own in
    added_both c.args.items.now c.args.body_sid c.args.from c.args.end c.args.positions.now c.add_range.new.positions
    c.add_range-2.new.positions any own own (c.in_ok-any.ensures order) (c.in_ok-own.ensures order)
    (ap (λ (a : Bool). a || own) (sym c.if-any.false))
