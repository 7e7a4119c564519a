use Rattle.std.proofs.Common.{◌∙◌, ◌++◌, ◌∷◌, [], List, ap, append_assoc, sym}
use Rattle.mxf_klv.specs.Parts.{NoteParts}
use Rattle.mxf_tracks.proofs.container.Containers.of.Goals as goal

pub loop-set-preserved : goal.loop-set-preserved
loop-set-preserved c =
    let l = c.loop-set in
    let before = l.invariant.0 in
    let set = c.in-Some.set.now in (
      before ++ set ∷ [],
      append_assoc before (set ∷ []) c.next.new.self
          ∙ ap (λ (ns : List NoteParts). before ++ ns) (sym c.in-Some.ensures.steps) ∙ l.invariant.1,
      c.in_ok-add.ensures before l.invariant.2,
    )
