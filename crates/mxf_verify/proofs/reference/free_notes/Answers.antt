use Rattle.std.proofs.Common.{not, rules}
use Rattle.std.proofs.lemmas.Iterator.Consumers.{YieldsList-from_filter, YieldsList-from_first, map_from_collect}
use Rattle.mxf_verify.specs.References.{is_crowded}
use Rattle.mxf_verify.proofs.reference.free_notes.Goals as goal

pub returns : goal.returns
returns c =
    let h = map_from_collect _ c.collect.ensures.ran
    (YieldsList-from_filter _ (λ n. not (is_crowded c.args.catalogue.now n))
    (YieldsList-from_first (λ x. x.now) (λ s. s) c.args.catalogue.now cc)
    c.filter-free.ensures.closure (λ x r q k. search rules)) in search rules
