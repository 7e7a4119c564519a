use Rattle.std.proofs.Common.{◌≡◌, ◌↔◌, ◌⊎◌, ◌∙◌, Some, ap, subst, sym}
use Rattle.mxf_klv.specs.Rising.{In}
use Rattle.mxf_views.proofs.KeyedLists.{rise_by}
use Rattle.mxf_views.specs.declared.index.place.StreamPlace.{StreamPlace}
use Rattle.mxf_restore.specs.declared.named.NamedPlace.{NamedPlace}
use Rattle.mxf_units.specs.Units.{UnitsParts}
use Rattle.mxf_units.specs.declared.essence_zone.part.StreamPart.{StreamPart}
use Rattle.mxf_partial.specs.Named.{AreNamed}
use Rattle.mxf_partial.specs.Near.{MayLieAt}
use Rattle.mxf_partial.specs.Questions.{QuestionParts}
use Rattle.mxf_partial.specs.Ways.{LeadsTo}
use Rattle.mxf_partial.proofs.AskLaws.{asked_are}
use Rattle.mxf_partial.proofs.ChosenLaws.{keys_rise}
use Rattle.mxf_partial.proofs.asks.asked_by_units.Goals as goal

pub add_limits-requires : goal.add_limits-requires
add_limits-requires c =
    (rise_by (λ (n : NamedPlace). n.place) c.args.named.now).1 (keys_rise c.args.named.now c.requires.rising)

pub add_partitions-requires : goal.add_partitions-requires
add_partitions-requires c =
    subst (λ (u : UnitsParts). AreNamed u.known.notes c.args.named.now) (sym c.units-units.ensures) c.requires

pub returns : goal.returns
returns c = λ n.
    let is = c.questions-questions.ensures.are in
    let partitions = subst (λ (u : UnitsParts). In n c.add_partitions.new.asked.items
    ↔ (In n c.new-asked.result.items ⊎ (In n c.args.named.now × ((p : StreamPlace) × In p c.partitions.result.now
    × MayLieAt u p.body_sid p.offset n.place)))) c.units-units.ensures (c.in_ok-add_partitions.ensures n) in
    let ways = subst (λ (u : UnitsParts). In n c.add_ways.new.asked.items
    ↔ (In n c.add_partitions.new.asked.items ⊎ ((p : StreamPlace) × (part : StreamPart) × In p c.ways.result.now
    × LeadsTo u.known.notes p.body_sid p.offset part n.place × (n.source ≡ Some part.partition))))
    c.units-units.ensures (c.in_ok-add_ways.ensures n) in
    asked_are c.args.wanted.now c.args.named.now c.add_partitions.new.asked.items c.add_ways.new.asked.items
    c.add_limits.new.asked.items c.limits.result.now c.partitions.result.now c.ways.result.now c.new-asked.result.items n
    c.requires c.new-asked.ensures.items (c.partitions.ensures ∙ ap (λ (q : QuestionParts). q.partitions) is)
    (c.ways.ensures ∙ ap (λ (q : QuestionParts). q.ways) is) (c.limits.ensures ∙ ap (λ (q : QuestionParts). q.limits) is)
    partitions ways
    c.in_ok-add_limits.ensures
