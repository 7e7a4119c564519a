use Rattle.mxf_views.proofs.Common.{sym, subst, HasCopiesOf}
use Rattle.mxf_views.proofs.LaidCopies.{copies-laid}
use Rattle.mxf_views.proofs.whole_file.whole_files_have_their_copies.Goals as goal

pub returns : goal.returns
returns c = λ notes l w e. subst (λ ns. HasCopiesOf ns l) (sym e) (copies-laid l w)
