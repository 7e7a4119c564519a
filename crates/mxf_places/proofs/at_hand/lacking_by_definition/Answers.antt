use Rattle.mxf_places.proofs.AtHandLaws as laws
use Rattle.mxf_places.proofs.at_hand.lacking_by_definition.Goals as goal

pub returns : goal.returns
returns c = record {
  members = laws.members;
  offsets = λ runs start end x cover l free. laws.lacked_there runs start end x l free;
  has = laws.has_offset-says;
  has_all = laws.has_offsets-says;
}
