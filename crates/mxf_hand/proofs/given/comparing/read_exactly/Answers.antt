use Rattle.mxf_views.proofs.Common.{◌∙◌, ◌+◌, ◌-◌, ◌++◌, List, ℕ, Option, arith, inr, length, length-append, refl}
use Rattle.mxf_views.proofs.Common.{subst, sym, take, take-append-le}
use Rattle.std.proofs.Common.{length-take}
use Rattle.std.specs.Prelude.{IfSome}
use borrow.Rule.Slice.PartMut.{post_of}
use Rattle.mxf_hand.specs.Given.{SourceParts, StandAt}
use Rattle.mxf_hand.proofs.ComparingLaws.{stands_more}
use Rattle.mxf_hand.proofs.given.comparing.read_exactly.Goals as goal

pub reads-preserved : goal.reads-preserved
reads-preserved g c =
    let (some, within, stands) = c.in_ok-filled.ensures.bytes in
    let room = c.reads.room in
    let new = c.read_source.new.room in
    let filled = c.reads.filled in
    let count = c.in_ok-filled.field-0 in
    let rest = post_of filled (length room - filled) room in
    let number = c.args.source_number in
    let from = c.args.position + filled in
    let held = c.reads.invariant.within in
    let front = length-take filled room in
    let both = length-append (take filled room) (new ++ rest) in
    let more = length-append new rest in
    let told = c.reads.invariant.told in
    let there = subst (λ (t : Option (List SourceParts)). IfSome t
    (λ given. StandAt given number from (take count new)))
    told stands in
    let here = subst (λ (l : List ℕ). IfSome (g.S.Sources.told c.args.sources.now)
    (λ given. StandAt given number from l))
    (sym (take-append-le count new rest within)) there in record {
      within = omega (arith, front, both, more, held, within);
      told = c.in_ok-filled.ensures.told ∙ told;
      stands = inr (stands_more (g.S.Sources.told c.args.sources.now) number c.args.position filled count from room
          (new ++ rest) _ held (omega (arith, more, within)) refl refl c.reads.invariant.stands here);
    }
