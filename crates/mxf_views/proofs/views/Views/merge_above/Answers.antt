use Rattle.mxf_views.proofs.Common.{◌∙◌, List, ap, subst, sym, NoteParts, MeetAt, clear_from, HasRoom, kept_in}
use Rattle.mxf_views.proofs.AboveLaws.{new_are_clear, union_is_reduced}
use Rattle.mxf_views.proofs.views.Views.merge_above.Goals as goal

pub follow_above-requires : goal.follow_above-requires
follow_above-requires c =
    let own = c.self.inside.catalogue in
    let b = c.args.boundary in
    let meet = subst (λ (ns : List NoteParts). MeetAt b ns c.args.other) (sym c.self.view_is) c.requires in
    let both = c.in_ok-merge.ensures.merged ∙ union_is_reduced b own c.args.other meet in
    let now = c.make_room_for.new.self in
    record {
      kept = (
        own,
        record { other = c.args.other; meet = meet; union = both },
        c.make_room_for.ensures.kept ∙ c.self.invariant,
      );
      room = subst (λ (clear : List NoteParts). HasRoom (kept_in now) clear now)
          (sym (ap (clear_from b) both ∙ new_are_clear b own c.args.other meet)) c.in-Ok.ensures.room;
      empty = c.in-Ok-marks_room.ensures;
    }
