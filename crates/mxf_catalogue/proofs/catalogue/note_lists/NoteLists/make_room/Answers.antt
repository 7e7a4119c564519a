use Rattle.std.proofs.Common.{sym, subst}
use Rattle.mxf_catalogue.specs.NoteLists.{StandApart}
use Rattle.mxf_catalogue.proofs.PartLaws.{apart_of}
use Rattle.mxf_catalogue.proofs.catalogue.note_lists.NoteLists.make_room.Goals as goal

pub touched-moved-requires-clause-apart : goal.touched-moved-requires-clause-apart
touched-moved-requires-clause-apart c =
    subst StandApart (sym c.deref.ensures.value) (apart_of _ c.args.self.now.disputed.items c.requires)
