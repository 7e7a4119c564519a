use Rattle.mxf_views.proofs.Common.{◌≡◌, List, subst, sym, NoteParts, reduced_union}
use Rattle.mxf_hand.proofs.RoundLaws.{nothing_new}
use Rattle.mxf_hand.proofs.putting.add_new.Goals as goal

pub returns-then-has_all-clause-added : goal.returns-then-has_all-clause-added
returns-then-has_all-clause-added c =
    let held = c.catalogue-held.result.now in
    sym (subst (λ (a : List NoteParts). reduced_union a c.args.notes ≡ a) c.catalogue-held.ensures
    (nothing_new held c.args.notes c.laws.ensures.catalogue.content c.laws.ensures.reduced
    (c.has_all.ensures c.if-has_all.true)))
