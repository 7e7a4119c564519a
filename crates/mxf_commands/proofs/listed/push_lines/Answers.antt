use Rattle.std.proofs.Common.{rules, arith, map}
use Rattle.std.proofs.lemmas.Result.{on_ok_weaker}
use Rattle.mxf_commands.proofs.ListLaws.{naming_turn, naming_end}
use Rattle.mxf_commands.proofs.listed.push_lines.Goals as goal

pub lines-preserved : goal.lines-preserved
lines-preserved c = (
  search rules,
  naming_turn (map (λ word. word.now) c.lines.all.items) (map (λ word. word.now) c.push_line.new.all.items)
      c.lines.rest.now c.in-Some.line.now c.in-Some.behind.now _ (c.in-Some.ensures.byte (omega arith) (λ w o f. f))
      (search rules) c.lines.invariant.1,
)

pub returns : goal.returns
returns c = on_ok_weaker c.push_line-2.result (λ pushed.
    naming_end (map (λ word. word.now) c.lines.all.items) (map (λ word. word.now) c.push_line-2.new.all.items)
    c.lines.rest.now _ (c.in_default.ensures.byte (omega arith) (λ w o f. f)) pushed c.lines.invariant.1)
    c.push_line-2.ensures
