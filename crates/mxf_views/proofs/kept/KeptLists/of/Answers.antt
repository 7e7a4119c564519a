use Rattle.mxf_views.proofs.Common.{◌∙◌, KeptParts, clear_notes, subst, sym, HasRoom}
use Rattle.mxf_views.proofs.KeptLaws.{kept_of_none}
use Rattle.mxf_views.proofs.kept.KeptLists.of.Goals as goal

pub refill-requires-clause-room : goal.refill-requires-clause-room
refill-requires-clause-room c =
    subst (λ (parts : KeptParts). HasRoom parts (clear_notes c.args.catalogue.now) c.make_room_for.new.self)
    (c.make_room_for.ensures.kept ∙ c.new-kept.ensures ∙ sym kept_of_none) c.in_ok-make_room_for.ensures.room
