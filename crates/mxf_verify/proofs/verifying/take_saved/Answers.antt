use Rattle.std.proofs.Common.{refl, subst}
use Rattle.mxf_verify.specs.Telling.{TellsSaved}
use Rattle.mxf_verify.specs.Verifying.{Saved}
use Rattle.mxf_verify.proofs.verifying.take_saved.Goals as goal

pub returns-clause-taken : goal.returns-clause-taken
returns-clause-taken g c t = (
  Saved c.in_ok-saved.saved,
  (c.in_ok-saved.saved, c.in_ok-saved.ensures.run t, refl),
  c.in_ok-take_saved.ensures c.in_ok-saved.saved
      (subst (λ r. TellsSaved r c.in_ok-saved.saved c.in_ok-told.told) c.catalogue.ensures c.in_ok-told.ensures)
      c.is_empty.ensures,
)
