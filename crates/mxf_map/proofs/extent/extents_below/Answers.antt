use Rattle.std.proofs.Common.{◌≡◌, ◌∙◌, ◌∷◌, ◌++◌, [], List, ap, append_assoc, append-nil, refl, subst, sym}
use Rattle.mxf_map.specs.Extents.{AreExtents, standing_at}
use Rattle.mxf_map.specs.declared.extent.MapExtent.{MapExtent}
use Rattle.mxf_map.proofs.ExtentLaws.{extents_go_on}
use Rattle.mxf_map.proofs.extent.extents_below.Goals as goal

pub loop-from-preserved : goal.loop-from-preserved
loop-from-preserved c = λ rest go.
    let stands = standing_at c.args.standings.now in
    let end = c.args.end in
    let from = c.loop-from.from in
    let to = c.end_of-to.ensures in
    let e : MapExtent = record { start = from; end = c.end_of-to.result; standing = c.at.result } in
    let all = c.loop-from.invariant (e ∷ rest)
    (extents_go_on stands end from e rest c.at.ensures to.above to.within to.same to.last refl go) in
    let pushed : c.loop-from.extents.items ++ e ∷ rest ≡ c.push.new.self.items ++ rest =
    sym (append_assoc c.loop-from.extents.items (e ∷ []) rest)
    ∙ ap (λ (l : List MapExtent). l ++ rest) (sym c.in_ok-push.ensures.items) in
    subst (AreExtents stands end 0) pushed all

pub returns : goal.returns
returns c = subst (AreExtents (standing_at c.args.standings.now) c.args.end 0) (append-nil c.loop-from.extents.items)
    (c.loop-from.invariant [] c.loop-from-test.false)
