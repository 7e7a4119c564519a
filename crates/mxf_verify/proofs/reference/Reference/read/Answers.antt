use Rattle.mxf_views.proofs.Common.{◌+◌, ◌-◌, arith, min, take, length-take, IfSome_then, greatest_end}
use Rattle.mxf_verify.proofs.reference.Reference.read.Goals as goal

pub returns-clause-told : goal.returns-clause-told
returns-clause-told g c =
    let limit = min c.args.limit (greatest_end - c.args.offset) in
    IfSome_then (g.R.Read.remaining c.args.from.now) c.in_ok-compared.ensures.compared (λ bytes s.
    c.in_ok-told.ensures c.args.self.now s.0 c.args.offset (c.args.offset + limit) (take limit bytes) s.1 s.2
    (omega (arith, length-take limit bytes)))

pub returns-clause-end : goal.returns-clause-end
returns-clause-end g c =
    IfSome_then (g.R.Read.remaining c.args.from.now) c.in_ok-compared.ensures.compared (λ bytes s. s.2.at)
