use Rattle.mxf_views.proofs.Common.{◌≡◌, ◌∙◌, [], List, ap, arith, map, subst, sym, drop_all, NoteParts, union_of_runs}
use Rattle.mxf_views.proofs.Common.{Covers, covered_run, covers_all}
use Rattle.mxf_catalogue.specs.declared.run.Run.{Run}
use denote.Bor.{Bor}
use Rattle.mxf_verify.specs.Telling.{notes_at}
use Rattle.mxf_verify.proofs.told_bytes.held_by.Goals as goal

pub returns : goal.returns
returns c =
    let notes = c.args.notes.now in
    let end = c.loop-note-test.false in
    let none = drop_all c.loop-note.note-index notes (omega (arith, end)) in
    let all : c.loop-note.held ≡ union_of_runs [] (map covered_run (notes_at notes)) =
    sym (ap (λ (l : List (Bor NoteParts)). union_of_runs c.loop-note.held (map covered_run (notes_at l))) none)
    ∙ c.loop-note.invariant in
    subst (λ (runs : List Run). Covers runs (notes_at notes)) (sym all) (covers_all (notes_at notes))
