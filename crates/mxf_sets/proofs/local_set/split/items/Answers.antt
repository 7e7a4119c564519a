use Rattle.std.proofs.Common.{◌∙◌, sym, refl, arith}
use Rattle.mxf_sets.specs.Items.{left_of}
use Rattle.mxf_sets.proofs.ItemLemmas.{are_items, only_are, at_none, at_some, empty_from_test, some_from_test}
use Rattle.mxf_sets.proofs.local_set.split.items.Goals as goal

pub loop-after-smaller : goal.loop-after-smaller
loop-after-smaller c = (at_some c.loop-after.rest.now c.in-Some.after.now c.in-Some.field-0-0 c.in-Some.ensures).2

pub loop-after-preserved : goal.loop-after-preserved
loop-after-preserved c = grind (arith, at_some)

pub returns-then-not-is_empty-clause-whole : goal.returns-then-not-is_empty-clause-whole
returns-then-not-is_empty-clause-whole c =
    grind (
      arith,
      left_of c.args.value.now,
      at_none c.loop-after.rest.now c.in_default.ensures,
      some_from_test c.loop-after.rest.now c.if-not-is_empty.ensures,
    )

pub returns-then-not-is_empty-clause-cut : goal.returns-then-not-is_empty-clause-cut
returns-then-not-is_empty-clause-cut c =
    grind (arith, left_of c.args.value.now, at_none c.loop-after.rest.now c.in_default.ensures)

pub invariant_of-result : goal.invariant_of-result
invariant_of-result c = sym c.loop-after.invariant.0 ∙ (at_none c.loop-after.rest.now c.in_default.ensures).1
    ∙ empty_from_test c.loop-after.rest.now c.if-not-is_empty.ensures

pub returns-clause-whole : goal.returns-clause-whole
returns-clause-whole c = (λ h. invariant_of-result c, λ h. refl)

pub returns-then-not-is_empty-clause-only : goal.returns-then-not-is_empty-clause-only
returns-then-not-is_empty-clause-only c =
    grind (
      arith,
      left_of c.args.value.now,
      at_none c.loop-after.rest.now c.in_default.ensures,
      some_from_test c.loop-after.rest.now c.if-not-is_empty.ensures,
      only_are c.args.value.now,
    )

pub returns-clause-found : goal.returns-clause-found
returns-clause-found c = are_items c.args.value.now (λ i. omega (arith, c.type_inv.value i)) (invariant_of-result c)

pub returns-clause-only : goal.returns-clause-only
returns-clause-only c = λ items h. (only_are c.args.value.now items h).0
