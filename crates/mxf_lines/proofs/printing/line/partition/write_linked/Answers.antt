use Rattle.std.proofs.Common.{◌≡◌, ◌∷◌, [], IfOk, subst, sym}
use Rattle.mxf_views.specs.Words.{link_name}
use Rattle.mxf_forms.specs.Forms.{word}
use Rattle.mxf_lines.specs.PartitionLines.{linked_fields, pack_fields}
use Rattle.mxf_forms.specs.Writing.{Written}
use Rattle.mxf_lines.proofs.LineLaws.{fields_after}
use Rattle.mxf_lines.proofs.printing.line.partition.write_linked.Goals as goal

pub returns : goal.returns
unfolding linked_fields
returns c =
    let link = word " link " "link" (link_name c.args.link) in
    subst (λ (w : Written). IfOk c.word.result (λ _. c.word.new.self ≡ w))
    (sym (fields_after (pack_fields c.args.pack.now) (link ∷ []) c.args.fields.now))
    (rw c.in_ok-write_pack.ensures at c.word.ensures)
