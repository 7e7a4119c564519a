use Rattle.std.proofs.Common.{not, rules}
use Rattle.std.proofs.lemmas.Iterator.Consumers.{YieldsList-from_filter, YieldsList-from_first, map_from_collect}
use Rattle.mxf_verify.specs.Opposing.{is_had}
use Rattle.mxf_verify.specs.Others.{others_of}
use Rattle.mxf_verify.proofs.others.other_notes.Goals as goal

pub returns : goal.returns
unfolding others_of
returns c =
    let h = map_from_collect _ c.collect.ensures.ran
    (YieldsList-from_filter _ (λ n. not (is_had n c.args.reference.now))
    (YieldsList-from_first (λ x. x.now) (λ s. s) c.args.saved.now cc)
    c.filter-others.ensures.closure (λ x r q k. search rules)) in search rules
