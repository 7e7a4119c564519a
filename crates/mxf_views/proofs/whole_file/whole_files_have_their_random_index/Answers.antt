use Rattle.mxf_views.proofs.Common.{sym, subst}
use Rattle.mxf_views.specs.WholeFile.{HasRandomIndexOf}
use Rattle.mxf_views.proofs.LaidRandomIndex.{random_index-laid}
use Rattle.mxf_views.proofs.whole_file.whole_files_have_their_random_index.Goals as goal

pub returns : goal.returns
returns c = λ notes l w e. subst (λ ns. HasRandomIndexOf ns l) (sym e) (random_index-laid l w)
