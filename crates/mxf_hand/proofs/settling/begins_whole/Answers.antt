use Rattle.mxf_views.proofs.Common.{◌↔◌, ◌∙◌, IsTrue, ap, map, not, subst, sym, In}
use Rattle.mxf_hand.proofs.SettlingLaws.{begins-disputed, begins-undisputed, not_twice}
use Rattle.mxf_hand.proofs.settling.begins_whole.Goals as goal

pub returns-in-Some : goal.returns-in-Some
returns-in-Some c =
    let n = c.in-Some.note.now in
    ap not c.is_head.ensures ∙ not_twice n.whole
    ∙ begins-undisputed c.args.catalogue.now c.args.offset n (sym c.in-Some.ensures.first)

pub returns-in-None : goal.returns-in-None
returns-in-None c = begins-disputed c.args.catalogue.now c.args.offset (sym c.in-None.ensures.first) c.has_key.result
    (subst (λ s. IsTrue c.has_key.result ↔ In c.args.offset (map (λ o. o) s)) c.requires.starts c.has_key.ensures)
