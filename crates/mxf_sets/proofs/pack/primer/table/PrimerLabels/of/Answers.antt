use Rattle.mxf_klv.proofs.Common.{◌≡◌, ℕ, List, Option, Some, sym, ap, subst, ◌∙◌, length, cond, lookup, nat_cmp, is_at}
use Rattle.mxf_klv.proofs.Common.{AllByRecursion}
use Rattle.byteorder.specs.Endian.{big_number}
use Rattle.mxf_sets.specs.PrimerTable.{with_label}
use Rattle.mxf_sets.specs.Batch.{batch_items}
use Rattle.mxf_sets.proofs.LabelLaws.{entries_wide}
use Rattle.mxf_sets.proofs.TableLaws.{IsTold, told_all, told_none, told_with}
use Rattle.mxf_sets.proofs.pack.primer.table.PrimerLabels.of.Goals as goal

pub loop-entry-init : goal.loop-entry-init
loop-entry-init c =
    let entries = c.into_iter-entry-iterator.ensures.into_iter_gives ∙ c.items-entry-items.ensures.items
    ∙ ap batch_items c.primer.view_is in
    let own = c.items-entry-items.ensures.items in
    let wide = subst (λ (xs : List (List ℕ)). AllByRecursion
    (λ item. length item ≡ c.primer.inside.entries.size) xs) own
    c.items-entry-items.ensures.size in (
      subst (λ (xs : List (List ℕ)). IsTold c.new-labels.result.entries xs (batch_items c.args.primer.now))
          (sym entries) (told_none c.new-labels.result.entries c.args.primer.now c.new-labels.ensures.empty),
      subst (λ (xs : List (List ℕ)). AllByRecursion (λ entry. length entry ≡ 18) xs)
          (sym (c.into_iter-entry-iterator.ensures.into_iter_gives ∙ own))
          (entries_wide c.primer.inside.entries c.primer.invariant wide),
    )

pub split_entry-tag-requires : goal.split_entry-tag-requires
split_entry-tag-requires c =
    let all = subst (λ (xs : List (List ℕ)). AllByRecursion (λ entry. length entry ≡ 18) xs) c.in-Some.ensures.steps
    c.loop-entry.invariant.1 in
    all.0

pub loop-entry-preserved : goal.loop-entry-preserved
loop-entry-preserved c =
    let all = subst (λ (xs : List (List ℕ)). AllByRecursion (λ entry. length entry ≡ 18) xs) c.in-Some.ensures.steps
    c.loop-entry.invariant.1 in
    let told = subst (λ (xs : List (List ℕ)). IsTold c.loop-entry.labels.entries xs (batch_items c.args.primer.now))
    c.in-Some.ensures.steps c.loop-entry.invariant.0 in
    let old = c.loop-entry.labels.entries in
    let new = c.insert.new.self.entries in
    let at = λ (t : ℕ). λ (label : List ℕ). (Some c.with_label-agreed.result
    ≡ with_label (lookup (is_at (nat_cmp t)) old) label) in
    let updated = λ (t : ℕ). ((tag : ℕ) → lookup (is_at (nat_cmp tag)) new
    ≡ cond (is_at (nat_cmp t) tag) (Some c.with_label-agreed.result) (lookup (is_at (nat_cmp tag)) old)) in
    let agreed = c.with_label-agreed.ensures
    ∙ ap (λ (told : Option (Option (List ℕ))). with_label told c.split_entry-tag.result.1) c.get.ensures.value in
    let agreed_at = subst (λ (t : ℕ). at t c.split_entry-tag.result.1) c.split_entry-tag.ensures.tag agreed in (
      told_with old new c.in-Some.entry.now c.next.new.self (batch_items c.args.primer.now) c.with_label-agreed.result
          (subst (at (big_number 2 c.in-Some.entry.now)) c.split_entry-tag.ensures.label agreed_at)
          (subst updated c.split_entry-tag.ensures.tag (c.in-Ok.ensures.updates.0))
          told,
      all.1,
    )

pub returns : goal.returns
returns c =
    let told = subst (λ (xs : List (List ℕ)). IsTold c.loop-entry.labels.entries xs (batch_items c.args.primer.now))
    c.in-None.ensures.steps.0 c.loop-entry.invariant.0 in
    told_all c.loop-entry.labels.entries c.args.primer.now told
