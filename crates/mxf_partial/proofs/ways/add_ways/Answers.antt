use Rattle.mxf_views.proofs.Common.{◌≡◌, ◌↔◌, ◌⊎◌, ◌∙◌, List, Ok, Err, Result, inl, inr, subst, sym, Some, OnOk}
use Rattle.mxf_views.proofs.Common.{NoteParts, In, IsContent}
use Rattle.mxf_views.specs.declared.index.place.StreamPlace.{StreamPlace}
use Rattle.mxf_restore.specs.declared.named.NamedPlace.{NamedPlace}
use Rattle.mxf_units.specs.EssenceZones.{parts_of}
use Rattle.mxf_units.specs.declared.essence_zone.part.StreamPart.{StreamPart}
use Rattle.mxf_partial.specs.InStreams.{IsInOrder}
use Rattle.mxf_partial.specs.Ways.{HasWay, LeadsTo}
use Rattle.mxf_partial.proofs.WayLaws.{ways_are}
use Rattle.mxf_partial.proofs.ways.add_ways.Goals as goal

-- What was added are the ways.
added : {E : Type 0} (notes held : List NoteParts) (places others : List StreamPlace) (parts : List StreamPart)
    (old new : List NamedPlace) (result : Result (Unit {0}) E) → IsContent notes → held ≡ notes → parts ≡ parts_of notes
    → ((p : StreamPlace) → In p others ↔ In p places)
    → OnOk result ((n : NamedPlace) → In n new ↔ (In n old ⊎ HasWay notes held others parts n))
    → OnOk result ((n : NamedPlace) → In n new ↔ (In n old ⊎ ((p : StreamPlace) × (part : StreamPart) × In p places
    × LeadsTo notes p.body_sid p.offset part n.place × (n.source ≡ Some part.partition))))
added notes held places others parts old new (Ok x) content same alike members so = λ n.
    let ways = ways_are notes places others n content members in
    let to = λ (h : HasWay notes held others parts n).
    subst (λ ps. HasWay notes notes others ps n) alike (subst (λ l. HasWay notes l others parts n) same h) in
    let back = λ (h : HasWay notes notes others (parts_of notes) n).
    subst (λ l. HasWay notes l others parts n) (sym same)
    (subst (λ ps. HasWay notes notes others ps n) (sym alike) h) in (
      λ i. elim ((so n).0 i) [ inl k ↦ inl k | inr k ↦ inr (ways.0 (to k)) ],
      λ h. (so n).1 (elim h [ inl k ↦ inl k | inr k ↦ inr (back (ways.1 k)) ]),
    )
added notes held places others parts old new (Err e) content same alike members so = tt

pub returns : goal.returns
returns c =
    let notes = c.args.units.now.known.notes in
    added notes c.holdings-2.result.now c.args.places.now c.deref.result.now c.parts.result.now c.args.asked.now.items
    c.add_ways_of.new.asked.items c.add_ways_of.result
    (subst (λ (notes : List NoteParts). IsContent notes) (c.catalogue.ensures ∙ c.views.ensures ∙ c.holdings.ensures)
    c.laws.ensures.catalogue.content) c.holdings-2.ensures c.parts.ensures
    (λ p. subst (λ (l : List StreamPlace). In p l ↔ In p c.args.places.now) (sym c.deref.ensures.value)
    (c.in_ok-places.ensures.members p)) (c.add_ways_of.ensures c.args.units.now c.in_ok-streams.ensures
    (subst (λ (l : List StreamPlace). IsInOrder (λ p. p.body_sid) (λ p. p.offset) (λ p. 0) l)
    (sym c.deref.ensures.value) c.in_ok-places.ensures.order))
