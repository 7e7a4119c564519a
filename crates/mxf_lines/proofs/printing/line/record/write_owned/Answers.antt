use Rattle.std.proofs.Common.{◌≡◌, IfOk, subst, sym}
use Rattle.mxf_forms.specs.Writing.{Written}
use Rattle.mxf_lines.proofs.LineLaws.{fields_after}
use Rattle.mxf_lines.proofs.printing.line.record.write_owned.Goals as goal

pub returns : goal.returns
returns g c = subst (λ (w : Written). IfOk c.write_to-2.result (λ _. c.write_to-2.new.to ≡ w))
    (sym (fields_after (g.V.Value.fields c.args.value.now) (g.O.Value.fields c.args.owner.now) c.args.fields.now))
    (rw c.in_ok-write_to.ensures at c.write_to-2.ensures)
