use Rattle.mxf_views.proofs.Common.{ℕ, List, Option, ◌∷◌, sym, ap, subst, ◌∙◌, option_and_then, Puts, ItemParts}
use Rattle.mxf_views.proofs.Common.{primer_for, primer_of}
use Rattle.mxf_views.specs.declared.copy.CopyInfo.{CopyInfo}
use Rattle.mxf_lines.specs.ItemLines.{label_by_copy, item_line, item_lines}
use Rattle.mxf_lines.specs.Lines.{lines_where}
use Rattle.mxf_lines.specs.Printing.{Prints}
use Rattle.mxf_lines.proofs.printing.sets.print_set.Goals as goal

pub returns-clause-lines : goal.returns-clause-lines
unfolding primer_for
returns-clause-lines g c =
    let views = c.args.views.now in
    let at = c.offset-offset.result in
    let primer = option_and_then (primer_of views) c.turn_to.new.self.copy in
    let item = c.in-Some-next.item in
    let tag = ap (λ (i : ItemParts). label_by_copy views c.turn_to.new.self.copy i.tag) c.item.view_is in
    let told = c.label.ensures ∙ (c.in_ok-turn_to.ensures.labels c.item.inside.tag ∙ tag) in
    let label = ap (λ (label : Option (List ℕ)). item_line at label item ∷ item_lines at primer c.next.new.self) told in
    let first = ap (item_lines at primer) (sym c.in-Some-next.ensures.steps) in
    let offset = ap (λ (at : ℕ). item_lines at primer c.in-Some.items) c.offset-offset.ensures.offset in
    let copy = ap (λ (copy : Option CopyInfo). item_lines c.args.note.now.offset (option_and_then
    (primer_of views) copy)
    c.in-Some.items) (c.in_ok-turn_to.ensures.turned ∙ c.copy_with.ensures) in
    let items = ap (lines_where (item_lines c.args.note.now.offset (primer_for views c.args.note.now)))
    (sym c.in-Some.is ∙ c.set_items.ensures) in
    subst (Prints c.args.printer.now.fields.form (Puts {X = Unit {0}} g.W.Write.contents c.args.writer.now
    c.print_to.new.writer c.args.printer.now.progress c.print_to.new.printer.progress) c.print_to.result)
    (label ∙ (first ∙ (offset ∙ (copy ∙ items))))
    c.print_to.ensures.lines
