use Rattle.mxf_views.proofs.Common.{◌≡◌, ◌∷◌, ◌++◌, ◌∙◌, [], ap, subst, sym, IsTheRun}
use Rattle.mxf_read.specs.Gathering.{AllTell, HandedBy}
use Rattle.mxf_read.specs.declared.gathering.part.Part.TheVariants.{Saved}
use Rattle.mxf_verify.proofs.verifying.read_saved.Goals as goal

pub returns-in-Ok-clause-run : goal.returns-in-Ok-clause-run
returns-in-Ok-clause-run g c t =
    let one : c.push.new.self.items ≡ Saved c.args.from ∷ [] =
    c.in_ok-push.ensures.items ∙ ap (λ l. l ++ Saved c.args.from ∷ []) c.new-parts.ensures.items in
    let run = c.in-Ok.ensures.run (subst (AllTell g.R.Read.remaining) (sym one) (t, tt)) in
    subst (λ l. IsTheRun (HandedBy g.R.Read.remaining l) c.into_catalogue.result) one
    (subst (IsTheRun (HandedBy g.R.Read.remaining c.push.new.self.items)) (sym (c.into_catalogue.ensures.catalogue ∙ c.into_parts-views.ensures.views)) run)
