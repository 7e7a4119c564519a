use Rattle.std.proofs.Common.{◌∙◌, List, ap, filter_map}
use Rattle.mxf_map.specs.Layers.{missing_place}
use Rattle.mxf_places.specs.declared.claim.Claim.{Claim}
use Rattle.mxf_map.proofs.LayerLaws.{missing_members}
use Rattle.mxf_map.proofs.map.missing.missing_places.Goals as goal

pub returns : goal.returns
returns c =
    let notes = c.args.holdings.now in
    missing_members notes _ _ (c.in_ok-places.ensures
    ∙ ap (λ (claims : List Claim). filter_map (missing_place notes) claims)
    (c.deref.ensures.value ∙ c.in_ok-claims.ensures))
    c.sort_unstable.ensures.permutation
