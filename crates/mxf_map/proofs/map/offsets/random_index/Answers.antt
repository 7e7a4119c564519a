use Rattle.mxf_views.proofs.Common.{◌∙◌, ◌<◌, subst, sym, AllByRecursion, greatest_end, clear_notes}
use Rattle.mxf_map.specs.Layers.{BeginsRandomIndex, random_index_offsets}
use Rattle.mxf_map.proofs.LayerLaws.{offsets_of, random_index_begin, random_index_within}
use Rattle.mxf_map.proofs.map.offsets.random_index.Goals as goal

pub set_of-requires : goal.set_of-requires
set_of-requires c =
    subst (AllByRecursion (λ x. x < greatest_end)) (sym (c.deref.ensures.value ∙ c.in_ok-offsets.ensures))
    (random_index_within c.args.catalogue.now c.laws.ensures.catalogue)

pub returns : goal.returns
returns c = offsets_of c.set_of.result c.deref.result.now (random_index_offsets (clear_notes c.args.catalogue.now))
    (BeginsRandomIndex c.args.catalogue.now) (c.deref.ensures.value ∙ c.in_ok-offsets.ensures)
    (random_index_begin c.args.catalogue.now) c.set_of.ensures
