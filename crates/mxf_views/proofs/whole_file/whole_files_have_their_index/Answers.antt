use Rattle.mxf_views.proofs.Common.{sym, subst, HasIndexOf}
use Rattle.mxf_views.proofs.LaidIndex.{index-laid}
use Rattle.mxf_views.proofs.whole_file.whole_files_have_their_index.Goals as goal

pub returns : goal.returns
returns c = λ notes l w e. subst (λ ns. HasIndexOf ns l) (sym e) (index-laid l w)
