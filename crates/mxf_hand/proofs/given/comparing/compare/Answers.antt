use Rattle.std.proofs.Common.{◌≡◌, ◌∙◌, ◌+◌, List, ℕ, Option, arith, length, length-take, subst, sym, take}
use Rattle.mxf_hand.specs.Differing.{IsCompared, IsPartCompared}
use Rattle.mxf_hand.specs.Given.{AreTold, SourceParts}
use Rattle.mxf_hand.specs.Places.{place}
use Rattle.mxf_hand.proofs.ComparingLaws.{compared_more}
use Rattle.mxf_hand.proofs.given.comparing.compare.Goals as goal

pub place_in-requires-clause-some : goal.place_in-requires-clause-some
place_in-requires-clause-some g c = λ p h. (c.requires.overlap.within p h).some

pub unreachable-requires : goal.unreachable-requires
unreachable-requires g c =
    let below = c.parts-test.true in
    let met = c.requires.overlap.met c.parts.at
    (record { from = c.parts.invariant.from; before = omega (arith, below) }) in
    c.in_default.ensures.none met.0 met.1 met.2

pub compare_part-requires-clause-one : goal.compare_part-requires-clause-one
compare_part-requires-clause-one g c =
    let found = c.in-Some.ensures.some in
    let is = c.requires.overlap.within c.in-Some.place found.0 in
    let low = found.1.from in
    let high = found.1.before in
    let from = is.from in
    let before = is.before in
    let size = c.min-size.ensures in
    let end = c.min.ensures in
    let room = c.requires.room in
    let kept = c.parts.auto.one in
    let len = length-take c.min-size.result c.parts.one in
    let below = c.parts-test.true in record {
      extent = is.extent;
      is = is.is;
      some = omega (arith, len, size, end, room, kept, below, high);
      from = omega (arith, from, low);
      before = omega (arith, len, size, end, before, high);
    }

pub compare_part-requires-clause-other : goal.compare_part-requires-clause-other
compare_part-requires-clause-other g c =
    let high = c.in-Some.ensures.some.1.before in
    let is = c.requires.overlap.is in
    let from = is.from in
    let before = is.before in
    let size = c.min-size.ensures in
    let end = c.min.ensures in
    let room = c.requires.room in
    let kept = c.parts.auto.one in
    let len = length-take c.min-size.result c.parts.one in
    let reached = c.parts.invariant.from in
    let below = c.parts-test.true in record {
      extent = is.extent;
      is = is.is;
      some = omega (arith, len, size, end, room, kept, below, high);
      from = omega (arith, from, reached);
      before = omega (arith, len, size, end, before, below);
    }

pub parts-preserved : goal.parts-preserved
parts-preserved g c =
    let p = c.in-Some.place in
    let found = c.in-Some.ensures.some in
    let high = found.1.before in
    let size = c.min-size.ensures in
    let end = c.min.ensures in
    let reached = c.parts.invariant.from in
    let below = c.parts-test.true in
    let len = length-take c.min-size.result c.parts.one in
    let whole : length (take c.min-size.result c.parts.one) ≡ c.min-size.result = omega (arith, len, size) in record {
      from = omega (arith, reached);
      to = omega (arith, size, end, below);
      told = c.in_ok-compare_part.ensures.told ∙ c.parts.invariant.told;
      noted = λ given are.
          let again = subst (λ (t : Option (List SourceParts)). AreTold t c.args.extents.now given)
          (sym c.parts.invariant.told) are in
          compared_more given c.args.extents.now c.args.places.now c.args.overlap p c.parts.at c.min-size.result
          c.args.differing.now c.parts.differing c.compare_part.new.differing c.requires.overlap found.0 found.1
          (omega (arith, size, end, high)) (c.parts.invariant.noted given are)
          (subst (λ (n : ℕ). IsPartCompared given p.source c.args.overlap.source c.parts.at (c.parts.at + n)
          c.parts.differing c.compare_part.new.differing) whole (c.in_ok-compare_part.ensures.noted given again));
    }

pub returns-clause-noted : goal.returns-clause-noted
returns-clause-noted g c = λ given are.
    let overlap = c.args.overlap in
    let low = c.parts.invariant.to in
    let high = c.parts-test.false in
    let all : c.parts.at ≡ overlap.end = omega (arith, low, high) in
    subst (λ (n : ℕ). IsCompared given c.args.places.now (place overlap.start n overlap.source) c.args.differing.now
    c.parts.differing) all (c.parts.invariant.noted given are)
