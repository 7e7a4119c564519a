use Rattle.mxf_views.proofs.Common.{inr, refl}
use Rattle.mxf_partial.specs.Many.AreMany.{Others}
use Rattle.mxf_partial.proofs.many.ManyUnits.of.Goals as goal

pub returns-in_default : goal.returns-in_default
returns-in_default c = Others (inr (
  (c.is_told.ensures.0 c.if-not-is_told.false, c.is_told-else-not-is_told.ensures.0 c.if-not-is_told-2.false),
  λ l. c.in_default.ensures.none l.even l.units l.begin l.end l.are,
)) refl
