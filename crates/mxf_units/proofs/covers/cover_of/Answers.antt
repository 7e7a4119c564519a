use Rattle.mxf_views.proofs.Common.{◌≤◌, List, subst, sym, AllByRecursion, IfOk-weaker, greatest_end, SameOffsets}
use Rattle.mxf_catalogue.specs.declared.run.Run.{Run}
use Rattle.mxf_units.proofs.NextPlaceLaws.{all_permuted}
use Rattle.mxf_units.proofs.OffsetLaws.{offsets_permuted}
use Rattle.mxf_units.proofs.covers.cover_of.Goals as goal

pub cover_of_each-requires : goal.cover_of_each-requires
cover_of_each-requires c =
    subst (λ (l : List Run). AllByRecursion (λ r. r.end ≤ greatest_end) l) (sym c.deref.ensures.value)
    (all_permuted (λ (r : Run). r.end ≤ greatest_end) c.args.runs.items c.sort_unstable_by_key.new.self.items
    c.sort_unstable_by_key.ensures.permutation c.requires)

pub returns : goal.returns
returns c = IfOk-weaker c.cover_of_each.result (λ (cover : List Run). SameOffsets cover c.deref.result.now)
    (λ (cover : List Run). SameOffsets cover c.args.runs.items)
    (λ cover same. offsets_permuted c.args.runs.items c.sort_unstable_by_key.new.self.items cover
    c.sort_unstable_by_key.ensures.permutation
    (subst (λ (l : List Run). SameOffsets cover l) c.deref.ensures.value same)) c.cover_of_each.ensures
