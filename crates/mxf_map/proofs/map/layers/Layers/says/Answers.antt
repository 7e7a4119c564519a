use Rattle.std.proofs.Common.{List, subst}
use Rattle.mxf_catalogue.specs.declared.run.Run.{Run}
use Rattle.mxf_sets.specs.declared.pack.part.PackPart.TheVariants as parts
use Rattle.mxf_map.specs.declared.map.Mark.TheVariants as marks
use Rattle.mxf_places.specs.declared.stretch.Zone.TheVariants as zones
use Rattle.mxf_places.specs.AtHand.{KnownParts}
use Rattle.mxf_map.specs.declared.map.layers.Layers.TheInside.{Inside}
use Rattle.mxf_map.proofs.MarkLaws.{Meets, hand_denied, hand_met, missing_met, none_held, partition_met}
use Rattle.mxf_map.proofs.MarkLaws.{random_index_met, some_lacks, told, zone_met}
use Rattle.mxf_map.proofs.map.layers.Layers.says.Goals as goal

-- What the layers are of.
abbrev known : Inside → KnownParts
known l = record { notes = l.holdings; at = l.at_hand.now }

pub returns-in-Header : goal.returns-in-Header
returns-in-Header c =
    told (known c.self.inside) _ c.args.from c.args.to _ marks.Header c.meets.result c.self.view_is c.in-Header.is
    (partition_met c.self.inside.holdings c.args.from c.args.to parts.Header c.self.inside.headers c.meets.result
    c.self.invariant.headers_are c.meets.ensures)

pub returns-in-Footer : goal.returns-in-Footer
returns-in-Footer c =
    told (known c.self.inside) _ c.args.from c.args.to _ marks.Footer c.meets-in-Footer.result c.self.view_is
    c.in-Footer.is (partition_met c.self.inside.holdings c.args.from c.args.to parts.Footer c.self.inside.footers
    c.meets-in-Footer.result c.self.invariant.footers_are c.meets-in-Footer.ensures)

pub returns-in-Body : goal.returns-in-Body
returns-in-Body c =
    told (known c.self.inside) _ c.args.from c.args.to _ marks.Body c.meets-in-Body.result c.self.view_is c.in-Body.is
    (partition_met c.self.inside.holdings c.args.from c.args.to parts.Body c.self.inside.bodies c.meets-in-Body.result
    c.self.invariant.bodies_are c.meets-in-Body.ensures)

pub returns-in-RandomIndex : goal.returns-in-RandomIndex
returns-in-RandomIndex c =
    told (known c.self.inside) _ c.args.from c.args.to _ marks.RandomIndex c.meets-in-RandomIndex.result
    c.self.view_is c.in-RandomIndex.is
    (random_index_met (known c.self.inside) c.args.from c.args.to c.self.inside.random_index
    c.meets-in-RandomIndex.result c.self.invariant.random_index_is c.meets-in-RandomIndex.ensures)

pub returns-in-Missing : goal.returns-in-Missing
returns-in-Missing c =
    told (known c.self.inside) _ c.args.from c.args.to _ marks.Missing c.meets-in-Missing.result c.self.view_is
    c.in-Missing.is
    (missing_met (known c.self.inside) c.args.from c.args.to c.self.inside.missing c.meets-in-Missing.result
    c.self.invariant.missing_is c.meets-in-Missing.ensures)

pub returns-then-not-is_any_held : goal.returns-then-not-is_any_held
returns-then-not-is_any_held c =
    told (known c.self.inside) _ c.args.from c.args.to _ marks.Hand c.meets-then-not-is_any_held.result c.self.view_is
    c.in-Hand.is
    (hand_met (known c.self.inside) c.args.from c.args.to c.is_any_held.result c.meets-then-not-is_any_held.result
    c.is_any_held.ensures
    (subst (λ (runs : List Run). Meets runs c.args.from c.args.to c.meets-then-not-is_any_held.result)
    c.hand.ensures.hand c.meets-then-not-is_any_held.ensures) c.if-not-is_any_held.true)

pub returns-else-not-is_any_held : goal.returns-else-not-is_any_held
returns-else-not-is_any_held c =
    told (known c.self.inside) _ c.args.from c.args.to _ marks.Hand _ c.self.view_is c.in-Hand.is
    (hand_denied (known c.self.inside) c.args.from c.args.to c.is_any_held.result c.is_any_held.ensures
    c.if-not-is_any_held.false)

pub returns-in-Empty : goal.returns-in-Empty
returns-in-Empty c = told (known c.self.inside) _ c.args.from c.args.to _ marks.Empty _ c.self.view_is c.in-Empty.is
    (none_held (known c.self.inside) c.args.from c.args.to c.is_any_held-in-Empty.result c.is_any_held-in-Empty.ensures)

pub returns-in-Part : goal.returns-in-Part
returns-in-Part c = told (known c.self.inside) _ c.args.from c.args.to _ marks.Part _ c.self.view_is c.in-Part.is
    (some_lacks (known c.self.inside) c.args.from c.args.to c.are_all_held.result c.are_all_held.ensures)

pub returns-in-Metadata : goal.returns-in-Metadata
returns-in-Metadata c =
    told (known c.self.inside) _ c.args.from c.args.to _ marks.Metadata c.meets-in-Metadata.result c.self.view_is
    c.in-Metadata.is (zone_met c.self.inside.holdings c.args.from c.args.to zones.Metadata c.self.inside.metadata
    c.meets-in-Metadata.result c.self.invariant.metadata_is c.meets-in-Metadata.ensures)

pub returns-in-Index : goal.returns-in-Index
returns-in-Index c =
    told (known c.self.inside) _ c.args.from c.args.to _ marks.Index c.meets-in-Index.result c.self.view_is
    c.in-Index.is
    (zone_met c.self.inside.holdings c.args.from c.args.to zones.Index c.self.inside.index c.meets-in-Index.result
    c.self.invariant.index_is c.meets-in-Index.ensures)
