use Rattle.mxf_klv.proofs.Common.{◌≡◌, ◌∙◌, [], List, ap, arith, map, subst, sym, drop_all, NoteParts}
use Rattle.mxf_catalogue.specs.declared.run.Run.{Run}
use Rattle.mxf_catalogue.specs.Covers.{union_of_runs}
use Rattle.mxf_catalogue.specs.NoteLists.{Covers, covered_run}
use Rattle.mxf_catalogue.proofs.ApartLaws.{covers_all}
use Rattle.mxf_catalogue.proofs.catalogue.spans_of.Goals as goal

pub returns : goal.returns
returns c =
    let notes = c.args.notes.now in
    let end = c.loop-note-test.false in
    let none = drop_all c.loop-note.note-index notes (omega (arith, end)) in
    let all : c.loop-note.spans ≡ union_of_runs [] (map covered_run notes) =
    sym (ap (λ (l : List NoteParts). union_of_runs c.loop-note.spans (map covered_run l)) none)
    ∙ c.loop-note.invariant in
    subst (λ (runs : List Run). Covers runs notes) (sym all) (covers_all notes)
