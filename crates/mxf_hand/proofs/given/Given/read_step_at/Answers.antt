use Rattle.std.proofs.Common.{ℕ, ◌-◌, ◌≤◌, ap, arith, length-take, subst}
use Rattle.std.specs.Prelude.{IfOk}
use Rattle.mxf_hand.specs.Given.{ReadsAt}
use Rattle.mxf_klv.specs.Rising.{In}
use Rattle.mxf_catalogue.specs.Runs.{LiesIn}
use Rattle.mxf_hand.specs.Places.{GivenParts, LiesInExtent}
use Rattle.mxf_hand.specs.declared.given.Extent.{Extent}
use Rattle.mxf_read.specs.declared.reading.Step.TheVariants.{Took}
use Rattle.mxf_hand.proofs.ReadBytes.{extent_there, found_place, ok_read, read_within}
use Rattle.mxf_hand.proofs.given.Given.read_step_at.Goals as goal

pub returns-clause-bytes : goal.returns-clause-bytes
returns-clause-bytes g c =
    let own = c.args.self.now.extents in
    let p = c.unwrap-place.result in
    let e = c.index.result.now in
    let found = found_place own c.args.at c.place_at.result p c.unwrap-place.ensures c.place_at.ensures.some in
    let there = extent_there own c.self.inside.extents.items p e (ap (λ (s : GivenParts). s.extents) c.self.view_is)
    found.0 c.index.ensures in
    let below = there.1 in
    let from = found.1.from in
    ok_read (g.S.Sources.told c.args.sources.now) own p.source c.args.at e c.read_source.new.room _
    c.read_source.result there.0 (let in_place : e.offset ≤ c.args.at = omega arith in in_place)
    (subst (λ (k : ℕ). IfOk c.read_source.result (λ n. ReadsAt (g.S.Sources.told c.args.sources.now) p.source
    (c.args.at - k) c.read_source.new.room (Took n))) c.offset.ensures c.read_source.ensures.bytes)

pub returns-clause-within : goal.returns-clause-within
returns-clause-within g c =
    let own = c.args.self.now.extents in
    let p = c.unwrap-place.result in
    let found = found_place own c.args.at c.place_at.result p c.unwrap-place.ensures c.place_at.ensures.some in
    let room = c.read_source.auto.room in
    let most = c.min-count.ensures in
    let invariant = c.self.invariant in
    let all = subst (λ (g : GivenParts). (e : Extent) (x : ℕ) → In e g.extents → LiesInExtent e x → LiesIn g.given x)
    c.self.view_is invariant.all in
    let few = length-take c.min-count.result c.args.room.now in
    read_within (g.S.Sources.told c.args.sources.now) own c.args.self.now.given p c.args.at _ c.min-count.result
    c.read_source.new.room c.read_source.result all found.0 found.1 (omega (arith, room, few)) (omega (arith, most))
    c.read_source.ensures.bytes
