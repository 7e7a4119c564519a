use Rattle.mxf_views.proofs.Common.{◌≡◌, ◌∙◌, [], List, ap, map, subst, sym, ℕ, drop_all, In, union_of_runs}
use Rattle.mxf_catalogue.specs.declared.run.Run.{Run}
use Rattle.mxf_map.specs.Layers.{AreOffsets}
use Rattle.mxf_map.proofs.LayerLaws.{first_byte, offsets_are}
use Rattle.mxf_map.proofs.map.offsets.set_of.Goals as goal

pub returns : goal.returns
returns c =
    let xs = c.args.offsets.now in
    let all : c.loop-offset.set ≡ union_of_runs [] (map first_byte xs) =
    sym (ap (λ (l : List ℕ). union_of_runs c.loop-offset.set (map first_byte l))
    (drop_all c.loop-offset.offset-index xs c.loop-offset-test.false)) ∙ c.loop-offset.invariant in
    subst (λ (runs : List Run). AreOffsets (λ x. In x xs) runs) (sym all) (offsets_are xs)
