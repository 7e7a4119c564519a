use Rattle.mxf_sets.proofs.RipLaws.{entries_are}
use Rattle.mxf_sets.proofs.pack.random_index.entries_make_up_their_bytes.Goals as goal

pub returns-clause-bytes : goal.returns-clause-bytes
returns-clause-bytes c bytes h whole = (entries_are bytes whole h).0

pub returns-clause-each : goal.returns-clause-each
returns-clause-each c bytes h whole = (entries_are bytes whole h).1
