use Rattle.mxf_views.proofs.Common.{◌∙◌, ◌==◌, List, ap, false, find, true, NoteParts, undisputed_notes}
use Rattle.mxf_units.specs.EssenceZones.{may_be_essence}
use Rattle.mxf_units.proofs.PacketLaws.{essence_is}
use Rattle.mxf_units.proofs.first_packet.essence_at.Goals as goal

pub returns-then-may_be_essence : goal.returns-then-may_be_essence
returns-then-may_be_essence c = essence_is c.args.holdings.now c.args.offset c.in_ok-note.note.now true
    (c.in_ok-note.ensures.first
    ∙ ap (λ (notes : List NoteParts). find (λ n. n.offset == c.args.offset) (undisputed_notes notes))
    (c.catalogue.ensures ∙ c.views.ensures)) (c.if-may_be_essence.ensures ∙ ap may_be_essence c.kind.ensures)

pub returns-else-may_be_essence : goal.returns-else-may_be_essence
returns-else-may_be_essence c = essence_is c.args.holdings.now c.args.offset c.in_ok-note.note.now false
    (c.in_ok-note.ensures.first
    ∙ ap (λ (notes : List NoteParts). find (λ n. n.offset == c.args.offset) (undisputed_notes notes))
    (c.catalogue.ensures ∙ c.views.ensures)) (c.if-may_be_essence.ensures ∙ ap may_be_essence c.kind.ensures)
