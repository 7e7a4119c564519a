use Rattle.mxf_views.proofs.Common.{◌∙◌, subst, SameOffsets}
use Rattle.mxf_verify.proofs.finishing.Uncompared.of.Goals as goal

pub returns-clause-read : goal.returns-clause-read
returns-clause-read c = subst (SameOffsets c.in_ok-read.read)
    (c.in_ok-from_slice.ensures.items ∙ c.deref.ensures.value) c.in_ok-read.ensures
