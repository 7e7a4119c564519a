use Rattle.mxf_klv.proofs.Common.{◌≡◌, length, sym, subst, List, ℕ, AllByRecursion}
use Rattle.mxf_sets.proofs.LabelLaws.{entries_wide}
use Rattle.mxf_sets.proofs.pack.primer.Primer.labels.Goals as goal

pub of-requires : goal.of-requires
of-requires c =
    let wide = subst (λ (xs : List (List ℕ)). AllByRecursion
    (λ item. length item ≡ c.self.inside.entries.size) xs) c.items.ensures.items c.items.ensures.size in
    subst (λ (xs : List (List ℕ)). AllByRecursion (λ entry. length entry ≡ 18) xs) (sym c.items.ensures.items)
    (entries_wide c.self.inside.entries c.self.invariant wide)
