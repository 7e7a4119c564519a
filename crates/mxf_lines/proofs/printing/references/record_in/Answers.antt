use Rattle.mxf_views.proofs.Common.{◌∙◌, ap, sym, result_ok, kind_of, identification_at, package_at}
use Rattle.std.specs.Prelude.{option_map}
use Rattle.mxf_lines.specs.declared.printing.references.Record.TheVariants as records
use Rattle.mxf_lines.proofs.printing.references.record_in.Goals as goal

pub returns-in_ok-ok-in-Identification : goal.returns-in_ok-ok-in-Identification
returns-in_ok-ok-in-Identification c =
    let held = c.in_ok-value.ensures.some in
    let read = c.ok.ensures.value ∙ ap result_ok (c.read.ensures ∙ ap identification_at held.1) in
    rw (c.in-Identification.is, held.0) (ap (option_map records.Identification) (sym c.in_ok-ok-in-Identification.was
    ∙ read))

pub returns-in_err-ok-in-Identification : goal.returns-in_err-ok-in-Identification
returns-in_err-ok-in-Identification c =
    let held = c.in_ok-value.ensures.some in
    let read = c.ok.ensures.value ∙ ap result_ok (c.read.ensures ∙ ap identification_at held.1) in
    let none = c.from_residual-in_err-ok-in-Identification.ensures in
    rw (none, c.in-Identification.is, held.0) (ap (option_map records.Identification)
    (sym c.in_err-ok-in-Identification.was ∙ read))

pub returns-in_ok-ok-in-Package : goal.returns-in_ok-ok-in-Package
returns-in_ok-ok-in-Package c =
    let held = c.in_ok-value.ensures.some in
    let read = c.ok-in-Package.ensures.value ∙ ap result_ok (c.read-in-Package.ensures ∙ ap package_at held.1) in
    rw (c.in-Package.is, held.0, c.kind.ensures) (ap (option_map (records.Package (kind_of c.args.note.now.key)))
    (sym c.in_ok-ok-in-Package.was ∙ read))

pub returns-in_err-ok-in-Package : goal.returns-in_err-ok-in-Package
returns-in_err-ok-in-Package c =
    let held = c.in_ok-value.ensures.some in
    let read = c.ok-in-Package.ensures.value ∙ ap result_ok (c.read-in-Package.ensures ∙ ap package_at held.1) in
    rw (c.from_residual-in_err-ok-in-Package.ensures, c.in-Package.is, held.0) (ap
    (option_map (records.Package (kind_of c.args.note.now.key))) (sym c.in_err-ok-in-Package.was ∙ read))
