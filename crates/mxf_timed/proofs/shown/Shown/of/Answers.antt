use Rattle.std.proofs.Common.{◌≡◌, ◌∙◌, ◌+◌, ◌-◌, ap, min, subst, sym}
use Rattle.mxf_timed.specs.Shown.{AreShown, AreStored}
use Rattle.mxf_timed.proofs.ShownLaws.{are-shown}
use Rattle.mxf_timed.proofs.shown.Shown.of.Goals as goal

pub returns : goal.returns
returns c =
    let u = c.args.units.now in
    let first = c.args.range.first in
    let count = c.args.range.count in
    let stored = c.in_ok-stored.stored.items in
    let from : c.first_position-from.result ≡ first - 127 =
    c.first_position-from.ensures ∙ ap (λ n. n - 127) c.first.ensures in
    let are = subst (λ n. AreStored u n (min (c.last.result + 129) 9223372036854775808) first stored) from
    (subst (λ n. AreStored u c.first_position-from.result n first stored) c.end_position-end.ensures
    c.in_ok-stored.ensures.each) in
    subst (λ n. AreShown u first count (record { first = n; stored = stored })) (sym c.first-2.ensures)
    (are-shown u first count c.last.result c.last.ensures.last stored
    (sym c.in_ok-stored.stored.ok.0 ∙ c.in_ok-stored.ensures.len) are)
