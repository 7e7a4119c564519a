use Rattle.mxf_klv.proofs.Common.{◌≡◌, length, sym, subst, List, ℕ, AllByRecursion}
use Rattle.mxf_sets.specs.Batch.{BatchParts}
use Rattle.mxf_sets.proofs.LabelLaws.{items_wide}
use Rattle.mxf_sets.proofs.batch.Batch.items.Goals as goal

pub returns-clause-size : goal.returns-clause-size
returns-clause-size c =
    let b = c.self.inside in
    let wide = items_wide b.count b.size b.items.now c.self.invariant in
    subst (λ (xs : List (List ℕ)). AllByRecursion (λ item. length item ≡ c.args.self.now.size) xs) (sym c.of.ensures)
    (subst (λ (x : BatchParts). AllByRecursion (λ item. length item ≡ x.size)
    (Rattle.mxf_sets.specs.Batch.sized_items b.count b.size b.items.now)) c.self.view_is wide)
