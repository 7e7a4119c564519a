use Rattle.mxf_views.proofs.Common.{List, NoteParts, same_bool, subst}
use Rattle.mxf_doubts.specs.UnitStarts.{AreMisses, misses_packet}
use Rattle.mxf_doubts.proofs.starts.UnitStarts.misses_packet.Goals as goal

pub returns : goal.returns
returns c =
    let notes = c.args.self.now in
    let x = c.args.offset in
    let runs = subst (λ (l : List NoteParts). AreMisses l c.self.inside.misses) c.self.view_is c.self.invariant.5 in
    same_bool c.has.result (misses_packet notes x) (λ t. (runs x).0 (c.has.ensures.0 t)) (λ t. c.has.ensures.1 ((runs x).1 t))
