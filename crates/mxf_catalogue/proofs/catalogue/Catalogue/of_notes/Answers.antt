use Rattle.mxf_klv.proofs.Common.{◌≡◌, ◌∙◌, rules, into_iter_items}
use Rattle.mxf_catalogue.specs.Content.{reduced_union}
use Rattle.mxf_catalogue.proofs.HeadLaws.{reduced_union-none}
use Rattle.mxf_catalogue.proofs.catalogue.Catalogue.of_notes.Goals as goal

pub loop-note-init : goal.loop-note-init
loop-note-init c =
    let given : into_iter_items c.into_iter-note-iterator.result ≡ c.args.notes.items =
    search rules in
    (λ i. reduced_union (c.new-all.ensures i) (given i))
    ∙ reduced_union-none c.args.notes.items c.requires.catalogue.content c.requires.reduced
