use Rattle.mxf_views.proofs.Common.{◌≡◌, ◌∙◌, ◌++◌, ◌∷◌, [], List, ap, flat_map, length, map, refl, subst, sym}
use Rattle.mxf_views.proofs.Common.{NoteParts, Puts, disputed_notes}
use Rattle.mxf_verify.specs.declared.renewal.DroppedNote.{DroppedNote}
use Rattle.mxf_forms.specs.Forms.{PrintedLine}
use Rattle.mxf_lines.specs.Printing.{Prints}
use Rattle.mxf_lines.specs.RenewalLines.{dropped_line, renewed_line}
use Rattle.mxf_lines.proofs.printing.renewal.RenewalLines.print_to.Goals as goal

-- what is said of each part of some items is said of each item
flat_map-map : {X Y Z : Type 0} (f : Y → List Z) (g : X → Y) (xs : List X)
    → flat_map f (map g xs) ≡ flat_map (λ x. f (g x)) xs
flat_map-map f g [] = refl
flat_map-map f g (x ∷ xs) = ap (λ l. f (g x) ++ l) (flat_map-map f g xs)

pub returns-clause-lines : goal.returns-clause-lines
returns-clause-lines g c =
    let renewed = c.args.self.renewed.now in
    let last : PrintedLine = renewed_line c.args.self.is_saved (length renewed.catalogue)
    (length (disputed_notes renewed.catalogue)) (length renewed.dropped) in
    let each = λ (n : NoteParts). dropped_line n ∷ [] in
    let same = sym (flat_map-map each (λ (d : DroppedNote). d.note.now) c.as_slice.result.now)
    ∙ ap (flat_map each) c.as_slice.ensures in
    subst (Prints c.args.printer.now.fields.form (Puts {X = Unit {0}} g.W.Write.contents c.args.writer.now
    c.print_to.new.writer c.args.printer.now.progress c.print_to.new.printer.progress) c.print_to.result)
    (ap (λ l. l ++ last ∷ []) same) c.print_to.ensures.lines
