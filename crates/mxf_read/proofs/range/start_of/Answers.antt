use Rattle.mxf_views.proofs.Common.{sym, ◌∙◌, ◌+◌, take_rest}
use Rattle.mxf_read.proofs.Starts.{first_is, found_next, may_within, none_found, none_more}
use Rattle.mxf_read.proofs.range.start_of.Goals as goal

pub returns-in_default-clause-start : goal.returns-in_default-clause-start
returns-in_default-clause-start c = sym (none_found c.args.offset c.args.window.now c.labels.passed _ _
    (take_rest c.args.window.now c.labels.passed) c.new-labels.ensures c.labels.invariant.none (c.in_default.ensures))

pub returns-then-may_begin_at-clause-start : goal.returns-then-may_begin_at-clause-start
returns-then-may_begin_at-clause-start c =
    let next = found_next c.args.offset c.args.window.now c.labels.passed _ _ c.in-Some.found
    (take_rest c.args.window.now c.labels.passed) c.new-labels.ensures c.labels.invariant.none (c.in-Some.ensures) in
    sym (first_is c.args.offset c.args.window.now (c.labels.passed + c.in-Some.found) next.1
    (sym c.may_begin_at.ensures ∙ c.if-may_begin_at.true))

pub returns-then-may_begin_at-clause-within : goal.returns-then-may_begin_at-clause-within
returns-then-may_begin_at-clause-within c =
    may_within c.args.offset c.args.window.now (c.labels.passed + c.in-Some.found)
    (sym c.may_begin_at.ensures ∙ c.if-may_begin_at.true)

pub labels-preserved : goal.labels-preserved
labels-preserved c =
    let next = found_next c.args.offset c.args.window.now c.labels.passed _ _ c.in-Some.found
    (take_rest c.args.window.now c.labels.passed) c.new-labels.ensures c.labels.invariant.none (c.in-Some.ensures) in
    record {
      within = next.0;
      none = none_more c.args.offset c.args.window.now (c.labels.passed + c.in-Some.found) next.1
          (sym c.may_begin_at.ensures ∙ c.if-may_begin_at.false);
    }
