use Rattle.mxf_views.proofs.Common.{[], ◌∷◌, IfSome, MeetAt, subst}
use Rattle.mxf_views.proofs.AboveLaws.{with_one_above}
use Rattle.mxf_views.proofs.KeptRoom.{room_for_one}
use Rattle.mxf_views.proofs.kept.KeptLists.follow.Goals as goal

pub follow_above-requires : goal.follow_above-requires
follow_above-requires c =
    let k = c.requires.arrived in
    let b = c.in-Some.boundary in
    let meet = subst (λ o. IfSome o (λ end. MeetAt end k.notes (k.note ∷ []))) c.in-Some.is k.arrival.boundary in
    let after = c.args.catalogue.now in
    record {
      kept = (k.notes, with_one_above b after k.notes k.note meet k.is_after, k.kept);
      room = room_for_one b after k.notes k.note c.args.self.now meet k.is_after c.requires.room;
      empty = c.new-no_marks.ensures.items;
    }
