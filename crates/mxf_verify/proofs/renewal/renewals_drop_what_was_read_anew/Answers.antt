use Rattle.mxf_verify.proofs.RenewalLaws.{dropped-not_had, had_or_dropped, untouched-had}
use Rattle.mxf_verify.proofs.renewal.renewals_drop_what_was_read_anew.Goals as goal

pub returns : goal.returns
returns c = record {
  stays = untouched-had;
  dropped = λ n old new d. (d.contradicted.0, d.contradicted.1, d.contradicted.2.share);
  one = had_or_dropped;
  not_both = dropped-not_had;
}
