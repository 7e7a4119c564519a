use Rattle.mxf_klv.proofs.Common.{[], subst, sym, List, NoteParts}
use Rattle.mxf_catalogue.specs.declared.run.Run.{Run}
use Rattle.mxf_catalogue.specs.NoteLists.{Covers, AreCatalogueFields}
use Rattle.mxf_catalogue.proofs.ApartLaws.{whole_apart}
use Rattle.mxf_catalogue.proofs.catalogue.Catalogue.of_apart.Goals as goal

pub invariant_of-result : goal.invariant_of-result
invariant_of-result c =
    let notes = c.args.notes.items in
    let spans = c.in_ok-spans.spans in
    let none = c.new-lists.ensures in
    let covers = subst (λ (l : List NoteParts). Covers spans l) c.deref.ensures.value c.in_ok-spans.ensures in
    subst (λ (l : List NoteParts). AreCatalogueFields notes l c.new-lists.result.disputed_spans.items spans)
    (sym none.disputed) (subst (λ (l : List Run). AreCatalogueFields notes [] l spans) (sym none.disputed_spans)
    (whole_apart notes spans c.requires.catalogue c.requires.reduced c.requires.apart covers))
