use Rattle.std.proofs.Common.{◌∙◌, ap, sym, length}
use Rattle.mxf_sets.proofs.ReferenceLemmas.{length-sixteens}
use Rattle.mxf_sets.proofs.record.references.References.len.Goals as goal

pub returns : goal.returns
returns c = sym (length-sixteens _ c.self.inside.bytes.now) ∙ ap length c.self.view_is
