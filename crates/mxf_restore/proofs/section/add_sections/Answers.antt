use Rattle.std.proofs.Common.{◌∙◌, ◌+◌, ◌++◌, ◌∷◌, [], List, ap, append_assoc, drop, get_or, sym}
use Rattle.std.proofs.lemmas.List.{at_drop_all, at_drop_more}
use Rattle.mxf_restore.specs.Sections.{sections_from}
use Rattle.mxf_restore.specs.declared.section.Section.{Section}
use Rattle.mxf_restore.proofs.section.add_sections.Goals as goal

pub loop-cut-preserved : goal.loop-cut-preserved
loop-cut-preserved c =
    let cuts = c.args.cuts.now in
    let i = c.loop-cut.cut-index in
    let so_far = c.loop-cut.sections.items in
    let rest = sections_from c.args.hole (get_or cuts i 0) (drop (i + 1) cuts) in
    ap (λ (l : List Section). l ++ rest) c.in_ok-push.ensures.items ∙ append_assoc so_far (_ ∷ []) rest
    ∙ ap (λ (l : List Section). so_far ++ l)
    (sym (at_drop_more (sections_from c.args.hole c.loop-cut.first) cuts i 0 c.loop-cut-test.true))
    ∙ c.loop-cut.invariant

pub returns : goal.returns
returns c =
    let so_far = c.loop-cut.sections.items in
    c.in_ok-push-2.ensures.items ∙ ap (λ (l : List Section). so_far ++ l)
    (sym (at_drop_all (sections_from c.args.hole c.loop-cut.first) c.args.cuts.now c.loop-cut.cut-index
    c.loop-cut-test.false)) ∙ c.loop-cut.invariant
