use Rattle.mxf_views.proofs.Common.{subst, sym, HasPartitionsOf}
use Rattle.mxf_views.proofs.LaidPartitions.{partitions-laid}
use Rattle.mxf_views.proofs.whole_file.whole_files_have_their_partitions.Goals as goal

pub returns : goal.returns
returns c = λ notes l w e. subst (λ ns. HasPartitionsOf ns l) (sym e) (partitions-laid l w)
