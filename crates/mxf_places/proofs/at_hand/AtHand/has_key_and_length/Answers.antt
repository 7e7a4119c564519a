use Rattle.mxf_views.proofs.Common.{◌∙◌, ◌+◌, ap, arith, false_from_ne_true, greatest_end, all-In, same_bool}
use Rattle.mxf_places.specs.AtHand.{AtHandParts, has_offsets}
use Rattle.mxf_places.proofs.AtHandLaws.{has_offsets-says}
use Rattle.mxf_places.proofs.at_hand.AtHand.has_key_and_length.Goals as goal

pub returns-in-Some : goal.returns-in-Some
returns-in-Some c =
    let runs = c.self.inside.hand in
    let start = c.args.start in
    let end = c.in-Some.ensures.1 in
    let says = has_offsets-says runs start c.in-Some.end c.self.invariant.hand in
    same_bool c.has_all.result (has_offsets runs start c.in-Some.end) (λ t. says.1 (c.has_all.ensures.0 t))
    (λ t. c.has_all.ensures.1 (says.0 t)) ∙ ap (has_offsets runs start) end
    ∙ ap (λ (a : AtHandParts). has_offsets a.hand start (start + 25)) c.self.view_is

pub returns-in-None : goal.returns-in-None
returns-in-None c = grind (arith, has_offsets-says, false_from_ne_true, has_offsets, greatest_end, all-In)
