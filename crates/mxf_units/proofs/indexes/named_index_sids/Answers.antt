use Rattle.mxf_views.proofs.Common.{◌∙◌, List, ℕ, subst, sym, nat_cmp, IsRising}
use Rattle.mxf_units.proofs.SidLaws.{sids-rise}
use Rattle.mxf_units.proofs.indexes.named_index_sids.Goals as goal

pub drop_held-requires : goal.drop_held-requires
drop_held-requires c =
    subst (λ (sids : List ℕ). IsRising nat_cmp sids) (sym (c.deref.ensures.value ∙ c.in_ok-held.ensures))
    (sids-rise c.args.views.now)
