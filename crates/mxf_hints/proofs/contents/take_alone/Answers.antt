use Rattle.mxf_hints.proofs.ContentsLaws.{numbered_reports}
use Rattle.mxf_hints.proofs.contents.take_alone.Goals as goal

pub returns-clause-taken : goal.returns-clause-taken
returns-clause-taken g c t = record {
  content = c.in_ok-gathered.gathered.views;
  run = c.in_ok-gathered.ensures.run t;
  added = c.in_ok-keep.ensures.contents;
  reported = numbered_reports g.R.Read.remaining c.args.number c.args.part _ _ _ (c.in_ok-gathered.ensures.reports t)
      c.in_ok-keep.ensures.reports;
}
