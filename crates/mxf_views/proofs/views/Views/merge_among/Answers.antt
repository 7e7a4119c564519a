use Rattle.mxf_views.proofs.Common.{◌∙◌, List, NoteParts, subst, sym, clear_notes, HasRoom, nothing_kept}
use Rattle.mxf_views.proofs.KeptRoom.{room_for_both}
use Rattle.mxf_views.proofs.views.Views.merge_among.Goals as goal

pub refill-requires-clause-room : goal.refill-requires-clause-room
refill-requires-clause-room c =
    let own = c.laws.ensures in
    let other = c.laws-2.ensures in
    let now = c.make_room_for.new.self in
    subst (λ (ns : List NoteParts). HasRoom nothing_kept (clear_notes ns) now) (sym c.in_ok-merge.ensures.merged)
    (room_for_both c.self.inside.catalogue c.args.other now own.catalogue.content other.catalogue.content own.reduced
    other.reduced (c.make_room_for.ensures.kept ∙ c.self.invariant) c.in-Ok.ensures.room)
