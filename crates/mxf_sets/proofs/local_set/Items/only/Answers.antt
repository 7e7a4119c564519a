use Rattle.std.proofs.Common.{◌≡◌, ◌∙◌, List, Some, ap, false, is_some, rules, sym}
use Rattle.mxf_sets.specs.Items.{ItemParts}
use Rattle.mxf_sets.specs.Lookup.{count_of, value_of}
use Rattle.mxf_sets.proofs.ItemLemmas.{count_of-first, none_there, value_of-first}
use Rattle.mxf_sets.proofs.local_set.Items.only.Goals as goal

pub loop-item-preserved-then-item-tag : goal.loop-item-preserved-then-item-tag
loop-item-preserved-then-item-tag c =
    let tag = c.args.tag in
    let empty : false ≡ is_some c.loop-item.found = search rules in
    let none = none_there _ _ c.loop-item.found empty c.loop-item.invariant in
    let is = sym (ap (λ (i : ItemParts). i.tag) c.item.view_is) ∙ c.if-item-tag.true in
    let count = ap (λ (l : List ItemParts). count_of tag l) c.in-Some.ensures.steps
    ∙ count_of-first tag c.in-Some.item c.next.new.self is in
    let value = ap (λ (l : List ItemParts). value_of tag l) c.in-Some.ensures.steps
    ∙ value_of-first tag c.in-Some.item c.next.new.self is in
    (sym count ∙ none.0, sym none.1 ∙ value ∙ ap (λ (i : ItemParts). Some i.value) (sym c.item.view_is))
