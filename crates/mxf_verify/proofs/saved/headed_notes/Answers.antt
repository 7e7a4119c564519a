use Rattle.std.proofs.Common.{rules}
use Rattle.std.proofs.lemmas.Iterator.Consumers.{YieldsList-from_filter, YieldsList-from_first, map_from_collect}
use Rattle.mxf_verify.specs.Others.{is_headed}
use Rattle.mxf_verify.proofs.saved.headed_notes.Goals as goal

pub returns : goal.returns
returns c =
    let h = map_from_collect _ c.collect.ensures.ran (YieldsList-from_filter _ (λ n. is_headed n c.args.saved.now)
    (YieldsList-from_first (λ x. x.now) (λ s. s) c.args.reference.now cc)
    c.filter-headed.ensures.closure (λ x r q k. search rules)) in search rules
