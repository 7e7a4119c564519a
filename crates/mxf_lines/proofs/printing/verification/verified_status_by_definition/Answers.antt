use Rattle.mxf_lines.proofs.VerifiedStatusLaws.{status_known, status_of_units, status_whole}
use Rattle.mxf_lines.proofs.printing.verification.verified_status_by_definition.Goals as goal

pub returns : goal.returns
returns c = record {
  known = λ reports reference sources v units told. status_known reports reference sources v told units;
  whole = λ reports reference sources v told. status_whole reports reference sources v told;
  units = λ reports reference sources v asked from to units told are.
      status_of_units reports reference sources v told asked from to units are;
}
