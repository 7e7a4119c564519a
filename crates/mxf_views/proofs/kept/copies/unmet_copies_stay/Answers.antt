use Rattle.mxf_views.proofs.CopyChanges.{unmet_stays}
use Rattle.mxf_views.proofs.kept.copies.unmet_copies_stay.Goals as goal

pub returns : goal.returns
returns c = λ start end before after p r t s there some u. unmet_stays start end before after s r t p there some u
