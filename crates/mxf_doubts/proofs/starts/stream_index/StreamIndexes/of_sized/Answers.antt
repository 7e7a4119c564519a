use Rattle.mxf_doubts.proofs.IndexLaws.{one_stream}
use Rattle.mxf_doubts.proofs.starts.stream_index.StreamIndexes.of_sized.Goals as goal

pub sort_once-requires : goal.sort_once-requires
sort_once-requires c = one_stream
