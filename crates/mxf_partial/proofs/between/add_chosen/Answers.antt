use Rattle.mxf_views.proofs.Common.{◌≡◌, ◌↔◌, ◌∙◌, List, ap, filter, rules, subst, sym, YieldsList-from_slice}
use Rattle.mxf_views.proofs.Common.{items_from_collect, YieldsList-at, YieldsList-from_copied, YieldsList-from_filter}
use Rattle.mxf_views.proofs.Common.{on_ok_weaker, In}
use Rattle.std.specs.Result.{IfOk}
use Rattle.mxf_restore.specs.declared.named.NamedPlace.{NamedPlace}
use Rattle.mxf_partial.specs.Between.{IsOneOf16, MayIndexOneOf}
use Rattle.mxf_partial.specs.SegmentStarts.{IsEvenly16, is_between_any, starts_for}
use Rattle.mxf_partial.specs.declared.between.SegmentStart.{SegmentStart}
use Rattle.mxf_partial.proofs.ChosenLaws.{chosen_says, or_same}
use Rattle.mxf_partial.proofs.between.add_chosen.Goals as goal

pub returns : goal.returns
returns c =
    let named = c.args.named.now in
    let numbers = c.args.numbers.now in
    let starts = c.in_ok-starts.starts in
    let kept = λ (starts : List SegmentStart). filter (λ n. is_between_any starts numbers n.place) named in
    let h = items_from_collect c.collect.result c.collect.ensures.ran (YieldsList-from_copied
    (YieldsList-at c.copied.ensures.source (YieldsList-from_filter _ (λ n. is_between_any starts numbers n.place)
    (YieldsList-from_slice named cc) c.filter-between.ensures.closure (λ x r q k. search rules)))) in
    let same : c.deref.result.now ≡ kept (starts_for c.args.units.now) =
    c.deref.ensures.value ∙ subst (λ r. IfOk r (λ v. v.items ≡ kept starts)) c.in_ok-places.was h
    ∙ ap kept c.in_ok-starts.ensures in
    on_ok_weaker c.add_evenly.result (λ m n. or_same (m n) (subst (λ (l : List NamedPlace). IsEvenly16 l n
    ↔ (In n named × IsOneOf16 (MayIndexOneOf c.args.units.now numbers) n.place)) (sym same)
    (chosen_says c.args.units.now numbers named c.requires.named n))) c.add_evenly.ensures
