use Rattle.mxf_views.proofs.Common.{◌∙◌, ap, sym, is_some, part_and_status}
use Rattle.mxf_views.proofs.TallyLaws.{pack_lacked}
use Rattle.mxf_views.proofs.partition.read_pack.Goals as goal

pub returns-then-not-is_pack : goal.returns-then-not-is_pack
returns-then-not-is_pack c = sym (pack_lacked c.args.note.now
    (ap (λ kind. is_some (part_and_status kind)) (sym c.kind.ensures) ∙ sym c.if-not-is_pack.ensures))
