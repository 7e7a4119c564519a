use Rattle.mxf_hints.proofs.ContentsLaws.{one_report, one_run}
use Rattle.mxf_hints.proofs.contents.gather_one.Goals as goal

pub returns-in-Ok-clause-run : goal.returns-in-Ok-clause-run
returns-in-Ok-clause-run g c =
    one_run g.R.Read.remaining c.new-parts.result.items c.push.new.self.items c.args.part c.in-Ok.gathered.views
    c.new-parts.ensures.items c.in_ok-push.ensures.items c.in-Ok.ensures.run

pub returns-in-Ok-clause-reports : goal.returns-in-Ok-clause-reports
returns-in-Ok-clause-reports g c =
    one_report g.R.Read.remaining c.new-parts.result.items c.push.new.self.items c.args.part c.in-Ok.gathered.reports
    c.new-parts.ensures.items c.in_ok-push.ensures.items c.in-Ok.ensures.reports
