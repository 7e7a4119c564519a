-- What is kept so far, with the notes that are to come.
use Rattle.std.proofs.Common.{◌≡◌, ◌++◌, [], List, filter, not}
use Rattle.mxf_klv.specs.Parts.{NoteParts}
use Rattle.mxf_catalogue.specs.Content.{reduced_union}
use Rattle.mxf_skim.specs.Preferring.{is_outread, prefer_read}
use Rattle.mxf_skim.proofs.preferring.without_outread.Given as goal

abbrev pub invariant-loop-note : goal.invariant-loop-note
invariant-loop-note l = (done : List NoteParts) × (l.catalogue ≡ done ++ l.note-iterator)
    × (reduced_union l.kept (filter (λ n. not (is_outread l.catalogue n)) l.note-iterator)
    ≡ reduced_union [] (prefer_read l.catalogue))
