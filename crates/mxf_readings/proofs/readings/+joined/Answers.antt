use Rattle.mxf_klv.proofs.Common.{◌≡◌, ◌∙◌, ◌++◌, ◌/◌, IfOk, List, ap, length, subst, take, take-append-drop, NoteParts}
use Rattle.mxf_readings.proofs.AllNotesLaws.{halves_joined}
use Rattle.mxf_readings.proofs.readings.+joined.Goals as goal

pub returns : goal.returns
returns t c =
    let contents = c.args.contents.now in
    let front = c.split_at.result.0.now in
    let back = c.split_at.result.1.now in
    let k = length contents / 2 in
    let halves = ap (λ (l : List (List NoteParts)). l ++ back) c.split_at.ensures.front
    ∙ ap (λ (l : List (List NoteParts)). take k contents ++ l) c.split_at.ensures.back ∙ take-append-drop k contents in
    let joined = halves_joined contents front back c.in-Some.others.now c.in-Some.first.now c.in_ok-front.front
    c.in_ok-back.back c.in-Some.ensures.cases.0 c.laws.ensures.catalogue.content c.laws.ensures.reduced halves
    c.in_ok-front.ensures c.in_ok-back.ensures c.merged.ensures.content c.merged.ensures.reduced in
    subst (λ (notes : List NoteParts). IfOk c.merged.result (λ all. all ≡ notes)) joined c.merged.ensures.merged
