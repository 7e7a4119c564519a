use Rattle.mxf_views.proofs.Common.{List, [], ap, subst, sym, ◌∙◌, ℕ, nat_cmp-IsAntisymmetric, option_or, nat_cmp}
use Rattle.mxf_views.proofs.Common.{nat_cmp_total, IsRising, IsRising-union}
use Rattle.mxf_units.specs.Streams.{least_above}
use Rattle.mxf_units.specs.EssenceZones.{bounds_of, limit_of}
use Rattle.mxf_units.proofs.LeastLaws.{least-rising}
use Rattle.mxf_units.proofs.essence_zone.Evidence.limit_of.Goals as goal

pub bound_above-requires : goal.bound_above-requires
bound_above-requires c = subst (λ (xs : List ℕ). IsRising nat_cmp xs) (sym (c.deref.ensures.value ∙ c.self.invariant.1))
    (IsRising-union nat_cmp_total nat_cmp-IsAntisymmetric [] (bounds_of c.self.inside.holdings.now) tt)

pub returns : goal.returns
returns c =
    let low = c.partition.inside.offset in
    let bound = c.bound_above.ensures
    ∙ ap (λ (xs : List ℕ). least_above low xs) (c.deref.ensures.value ∙ c.self.invariant.1)
    ∙ least-rising low (bounds_of c.self.inside.holdings.now) in
    c.or.ensures ∙ (λ i. option_or (bound i) (c.self.invariant.2 i))
    ∙ (λ i. limit_of (c.self.view_is i) (c.partition.view_is i))
