use Rattle.std.proofs.Common.{◌≡◌, ◌∙◌, ◌∷◌, ◌++◌, [], List, ap, append_assoc, append-nil, subst, sym}
use Rattle.mxf_map.specs.Map.{AreMarks}
use Rattle.mxf_map.specs.declared.map.Mark.{Mark}
use Rattle.mxf_map.proofs.MarkLaws.{marks_go_on}
use Rattle.mxf_map.proofs.map.marks.Goals as goal

pub loop-from-preserved : goal.loop-from-preserved
loop-from-preserved c = λ rest go.
    let notes = c.args.layers.now in
    let m = c.mark.result in
    let all = c.loop-from.invariant (m ∷ rest) (marks_go_on notes c.args.size c.args.end c.loop-from.from c.min.result
    m rest c.loop-from-test.true c.min.ensures c.mark.ensures go) in
    let pushed : c.loop-from.marks.items ++ m ∷ rest ≡ c.push.new.self.items ++ rest =
    sym (append_assoc c.loop-from.marks.items (m ∷ []) rest)
    ∙ ap (λ (l : List Mark). l ++ rest) (sym c.in_ok-push.ensures.items) in
    subst (AreMarks notes c.args.size c.args.end 0) pushed all

pub returns : goal.returns
returns c = subst (AreMarks c.args.layers.now c.args.size c.args.end 0) (append-nil c.loop-from.marks.items)
    (c.loop-from.invariant [] c.loop-from-test.false)
