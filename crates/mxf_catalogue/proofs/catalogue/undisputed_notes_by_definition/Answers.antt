use Rattle.std.specs.Prelude.{not}
use Rattle.mxf_catalogue.specs.Disputes.{is_disputed}
use Rattle.mxf_catalogue.proofs.DisputeLaws.{In-undisputed_notes, IsContent-filter}
use Rattle.mxf_catalogue.proofs.catalogue.undisputed_notes_by_definition.Goals as goal

pub returns-clause-members : goal.returns-clause-members
returns-clause-members c = λ n notes. In-undisputed_notes n notes

pub returns-clause-rising : goal.returns-clause-rising
returns-clause-rising c = λ notes r. IsContent-filter (λ n. not (is_disputed n notes)) notes r
