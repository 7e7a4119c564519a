use Rattle.mxf_forms.proofs.StringLaws.{given_back}
use Rattle.mxf_forms.proofs.strings.escaped_text_is_given_back.Goals as goal

pub returns : goal.returns
returns c = given_back
