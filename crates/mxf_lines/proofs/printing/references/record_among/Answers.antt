use Rattle.std.proofs.Common.{◌≡◌, ◌∙◌, None, Some, IfNone, IfSome, ap, refl, sym}
use Rattle.std.specs.Option.{option_copied}
use Rattle.mxf_references.specs.declared.reference.target.Target.TheVariants as targets
use Rattle.mxf_lines.specs.ReferenceLines.{IsNotAmong, found_record}
use Rattle.mxf_lines.proofs.printing.references.record_among.Goals as goal

pub returns-in-Found-clause-some : goal.returns-in-Found-clause-some
returns-in-Found-clause-some c content named kept = elim c.get.result as (λ o. c.get.result ≡ o
    → IfSome o (λ found. found.now ≡ found_record content named c.args.target)) [
      | None ↦ λ e. tt
      | Some found ↦ λ e. kept c.in-Found.offset found.now (sym c.get.ensures.value ∙ ap option_copied e)
          ∙ ap (found_record content named) (sym c.in-Found.is)
    ] refl

pub returns-in-Found-clause-none : goal.returns-in-Found-clause-none
returns-in-Found-clause-none c = rw c.in-Found.is (elim c.get.result as (λ o. c.get.result ≡ o
    → IfNone o (IsNotAmong c.args.records.now (targets.Found c.in-Found.offset))) [
      | None ↦ λ e. sym c.get.ensures.value ∙ ap option_copied e
      | Some found ↦ λ e. tt
    ] refl)
