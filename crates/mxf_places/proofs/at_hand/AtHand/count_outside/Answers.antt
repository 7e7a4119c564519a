use Rattle.std.proofs.Common.{◌≡◌, ◌-◌, ◌∙◌, ap, arith}
use Rattle.mxf_places.specs.AtHand.{AtHandParts, outside_below}
use Rattle.mxf_places.proofs.CountLaws.{outside_parts}
use Rattle.mxf_places.proofs.at_hand.AtHand.count_outside.Goals as goal

pub overflow_sub-result : goal.overflow_sub-result
overflow_sub-result c =
    let all = c.count_within.ensures in
    let shared = c.count_shared.ensures in
    let parts = outside_parts c.self.inside.hand c.args.cover.now c.args.end in omega (arith, all, shared, parts)

pub returns : goal.returns
returns c =
    let hand = c.self.inside.hand in
    let cover = c.args.cover.now in
    let all = c.count_within.ensures in
    let shared = c.count_shared.ensures in
    let parts = outside_parts hand cover c.args.end in
    let rest : c.count_within.result - c.count_shared.result ≡ outside_below hand cover c.args.end =
    omega (arith, all, shared, parts) in
    rest ∙ ap (λ (a : AtHandParts). outside_below a.hand cover c.args.end) c.self.view_is
