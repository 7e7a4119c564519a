use Rattle.mxf_views.proofs.Common.{◌≡◌, ◌∙◌, ◌&&◌, List, ap, arith, nat_lt, not, subst, sym, true, covered_end, end_of}
use Rattle.mxf_views.proofs.Common.{same_bool, LiesIn}
use Rattle.mxf_catalogue.specs.declared.run.Run.{Run}
use Rattle.std.proofs.lemmas.Bool.{lt-ltb}
use Rattle.mxf_places.specs.AtHand.{has_offsets}
use Rattle.mxf_places.proofs.AtHandLaws.{has_offsets-says}
use Rattle.mxf_hand.specs.Hand.{HandParts}
use Rattle.mxf_hand.proofs.hand.Hand.has_value.Goals as goal

pub returns-clause-test : goal.returns-clause-test
returns-clause-test c = λ h e.
    let n = c.args.head.now in
    let runs = c.self.inside.runs in
    let from = c.covered_end.result in
    let to = c.end.result in
    let says = has_offsets-says runs from to c.self.invariant.0 in
    let all : c.has_all.result ≡ has_offsets runs from to =
    same_bool c.has_all.result (has_offsets runs from to) (λ t. says.1 (c.has_all.ensures.0 t))
    (λ t. c.has_all.ensures.1 (says.0 t)) in
    let is : has_offsets runs from to ≡ has_offsets h.runs (covered_end n) (end_of n) =
    (λ i. has_offsets (c.self.view_is i).runs (c.covered_end.ensures.covered i) (c.end.ensures i))
    ∙ ap (λ (l : List Run). has_offsets l (covered_end n) (end_of n)) (sym e) in
    let head : not n.whole ≡ true = sym c.is_head.ensures ∙ c.if-not-is_head.false in
    let positive = c.if-length-eq0.false in
    let length = c.length.ensures in
    let some : nat_lt 0 n.length ≡ true = lt-ltb 0 n.length (omega (arith, positive, length)) in
    all ∙ is ∙ sym (λ i. head i && (some i && has_offsets h.runs (covered_end n) (end_of n)))

pub returns-clause-value : goal.returns-clause-value
returns-clause-value c = λ full x low high.
    let from = c.covered_end.ensures.covered in
    let to = c.end.ensures in
    subst (λ (a : HandParts). LiesIn a.runs x) c.self.view_is
    (c.has_all.ensures.0 full x (omega (arith, from, low)) (omega (arith, to, high)))
