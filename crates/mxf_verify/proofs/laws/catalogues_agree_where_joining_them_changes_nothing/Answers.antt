use Rattle.mxf_verify.proofs.AgreeingCatalogues.{agrees_joined}
use Rattle.mxf_verify.proofs.laws.catalogues_agree_where_joining_them_changes_nothing.Goals as goal

pub returns : goal.returns
returns c = agrees_joined
