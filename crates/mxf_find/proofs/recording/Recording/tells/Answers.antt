use Rattle.std.proofs.Common.{◌∙◌}
use Rattle.mxf_find.proofs.VoteLaws.{told_by_length, told_by_value}
use Rattle.mxf_find.proofs.recording.Recording.tells.Goals as goal

pub returns : goal.returns
returns c i = record {
  by_value = (c.is_some.ensures ∙ told_by_value c.args.self.now c.args.note.now c.requires c.teller_by_value.result
      c.teller_by_value.ensures.some c.teller_by_value.ensures.none) i;
  by_length = (c.is_some-2.ensures ∙ told_by_length c.args.self.now c.args.note.now c.requires c.teller_by_length.result
      c.teller_by_length.ensures.some c.teller_by_length.ensures.none) i;
}
