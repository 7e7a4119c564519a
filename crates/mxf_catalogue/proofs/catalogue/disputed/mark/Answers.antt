use Rattle.mxf_klv.proofs.Common.{◌+◌, ◌<◌, ◌≤◌, ◌||◌, ℕ, length, nat_lt, subst, AllWithin, NoteParts}
use Rattle.mxf_catalogue.proofs.MarkLaws.{left_rises, marks_are}
use Rattle.mxf_catalogue.proofs.catalogue.disputed.mark.Goals as goal

pub starting_below-at-requires : goal.starting_below-at-requires
starting_below-at-requires c = left_rises _ _ _ _ _ c.requires

pub starting_below-to-requires : goal.starting_below-to-requires
starting_below-to-requires c = left_rises _ _ _ _ _ c.requires

pub returns : goal.returns
returns c =
    let left = c.args.left.now in
    let at = c.starting_below-at.result in
    let to = c.starting_below-to.result in
    let same = subst (λ (o : ℕ). AllWithin (λ (m : NoteParts). m.offset < o + 1) left 0 at) c.offset.ensures.offset
    c.starting_below-at.ensures.below in
    let higher = subst (λ (o : ℕ). AllWithin (λ (m : NoteParts). o + 1 ≤ m.offset) left at (length left))
    c.offset.ensures.offset c.starting_below-at.ensures.above in
    let starts = subst (λ (o : ℕ). AllWithin (λ (m : NoteParts). m.offset < o) left 0 to) c.end.ensures
    c.starting_below-to.ensures.below in
    let ends = subst (λ (o : ℕ). AllWithin (λ (m : NoteParts). o ≤ m.offset) left to (length left)) c.end.ensures
    c.starting_below-to.ensures.above in
    marks_are c.args.note.now c.args._all.now left c.args.above c.args.lower at to c.requires
    c.starting_below-at.ensures.bound same higher c.starting_below-to.ensures.bound starts ends _ _
    (λ i. nat_lt (c.offset-2.ensures.offset i) c.args.above || nat_lt 0 at)
    (λ i. nat_lt (c.offset-3.ensures.offset i) c.args.lower || nat_lt at to)
