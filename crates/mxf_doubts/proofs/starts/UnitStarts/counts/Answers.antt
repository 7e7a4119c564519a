use Rattle.mxf_views.proofs.Common.{◌∙◌, ℕ, List, IsRising, subst, sym}
use Rattle.mxf_doubts.specs.UnitStarts.{unit_cmp}
use Rattle.mxf_doubts.proofs.IndexLaws.{listed_rise}
use Rattle.mxf_doubts.proofs.starts.UnitStarts.counts.Goals as goal

pub is_among-requires : goal.is_among-requires
is_among-requires c =
    subst (λ (l : List (ℕ × ℕ)). IsRising unit_cmp l) (sym (c.deref.ensures.value ∙ c.self.invariant.4))
    (listed_rise c.self.inside.sizes)
