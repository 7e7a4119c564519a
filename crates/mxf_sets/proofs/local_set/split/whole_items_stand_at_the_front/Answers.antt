use Rattle.mxf_sets.proofs.ItemLemmas.{items_and_left, left_begins_with_none}
use Rattle.mxf_sets.proofs.local_set.split.whole_items_stand_at_the_front.Goals as goal

pub returns-clause-bytes : goal.returns-clause-bytes
returns-clause-bytes c bytes h = (items_and_left bytes h).0

pub returns-clause-each : goal.returns-clause-each
returns-clause-each c bytes h = (items_and_left bytes h).1

pub returns-clause-left : goal.returns-clause-left
returns-clause-left c = left_begins_with_none
