use Rattle.std.proofs.Common.{ap, arith}
use Rattle.mxf_find.specs.Telling.{is_fill, is_sound}
use Rattle.mxf_find.proofs.TellerLaws.{seen_disputed}
use Rattle.mxf_find.proofs.recording.Recording.is_sound.Goals as goal

pub returns-then-not-disputes : goal.returns-then-not-disputes
unfolding is_sound
returns-then-not-disputes c =
    let e = seen_disputed _ _ c.args.note.now c.disputes.result c.self.view_is c.disputes.ensures c.requires in
    let f = ap is_fill c.kind.ensures in
    grind (arith, e, f, c.is_fill.ensures, c.if-not-disputes.true)

pub returns-else-not-disputes : goal.returns-else-not-disputes
unfolding is_sound
returns-else-not-disputes c =
    let e = seen_disputed _ _ c.args.note.now c.disputes.result c.self.view_is c.disputes.ensures c.requires in
    grind (arith, e, c.if-not-disputes.false)
