use Rattle.mxf_catalogue.proofs.DisputeLaws.{clear_or_disputed}
use Rattle.mxf_catalogue.proofs.catalogue.disputed.notes_are_clear_or_disputed.Goals as goal

pub returns : goal.returns
returns c = record { one = clear_or_disputed; not_both = λ n notes clear. clear.undisputed }
