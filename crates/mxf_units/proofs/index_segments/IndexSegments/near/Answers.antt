use Rattle.mxf_views.proofs.Common.{◌≡◌, List, SegmentAtParts, subst}
use Rattle.mxf_units.specs.Intervals.{IsAround}
use Rattle.mxf_units.specs.NextPlaces.{first_unit, units_end}
use Rattle.mxf_units.specs.Streams.{entry_of, is_given, place_of}
use Rattle.mxf_units.proofs.WalkLaws.{near-entry, near-given, near-place}
use Rattle.mxf_units.proofs.index_segments.IndexSegments.near.Goals as goal

around : (c : goal.After-near-1) → IsAround first_unit units_end c.args.unit c.self.inside.segments
    c.around.result.0.now c.around.result.1.now
around c =
    subst (λ n. IsAround first_unit units_end n c.self.inside.segments c.around.result.0.now c.around.result.1.now)
    c.from.ensures c.around.ensures

pub returns-clause-place : goal.returns-clause-place
returns-clause-place c =
    subst (λ (l : List SegmentAtParts). place_of c.around.result.0.now c.args.unit ≡ place_of l c.args.unit) c.self.view_is
    (near-place c.args.unit c.ranges.unit.fits _ _ _ (around c))

pub returns-clause-entry : goal.returns-clause-entry
returns-clause-entry c =
    subst (λ (l : List SegmentAtParts). entry_of c.around.result.0.now c.args.unit ≡ entry_of l c.args.unit) c.self.view_is
    (near-entry c.args.unit c.ranges.unit.fits _ _ _ (around c))

pub returns-clause-given : goal.returns-clause-given
returns-clause-given c = λ p.
    subst (λ (l : List SegmentAtParts). is_given p c.args.unit c.around.result.0.now ≡ is_given p c.args.unit l) c.self.view_is
    (near-given c.args.unit c.ranges.unit.fits _ _ _ (around c) p)
