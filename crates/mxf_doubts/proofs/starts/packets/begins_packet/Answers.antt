use Rattle.mxf_views.proofs.Common.{◌∙◌, NoteParts, Option, ap, false, sym}
use Rattle.std.specs.Option.{option_copied, option_map_or}
use Rattle.mxf_doubts.specs.Strange.{is_container_packet}
use Rattle.mxf_doubts.proofs.MissLaws.{begins_found}
use Rattle.mxf_doubts.proofs.starts.packets.begins_packet.Goals as goal

pub returns-in-None : goal.returns-in-None
returns-in-None c =
    sym (begins_found c.args.catalogue.now c.args.offset c.laws.ensures.apart
    ∙ ap (λ (o : Option NoteParts). option_map_or is_container_packet o false)
    (sym c.clear_at.ensures.first ∙ ap option_copied c.in-None.is))

pub returns-in-Some : goal.returns-in-Some
returns-in-Some c =
    c.is_container_packet.ensures
    ∙ sym (begins_found c.args.catalogue.now c.args.offset c.laws.ensures.apart
    ∙ ap (λ (o : Option NoteParts). option_map_or is_container_packet o false)
    (sym c.clear_at.ensures.first ∙ ap option_copied c.in-Some.is))
