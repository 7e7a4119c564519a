use Rattle.mxf_views.proofs.Common.{◌∙◌, Bool, Some, ap, cond, refl, get, nat_cmp, at_equal}
use Rattle.mxf_lines.proofs.RecordLaws.{records_one_more}
use Rattle.mxf_lines.proofs.printing.references.add_record.Goals as goal

pub returns-in_ok-insert-clause-records : goal.returns-in_ok-insert-clause-records
returns-in_ok-insert-clause-records c kept =
    records_one_more c.args.catalogue.now c.args.named c.args.records.now c.insert.new.self c.in-Found.offset
    c.record_at.result kept c.record_at.ensures c.in_ok-insert.ensures.updates.0

pub returns-in_ok-insert-clause-added : goal.returns-in_ok-insert-clause-added
returns-in_ok-insert-clause-added c =
    let offset = c.in-Found.offset in
    let stands = λ (b : Bool). cond b (Some c.record_at.result) (get nat_cmp c.args.records.now offset) in
    let there = c.in_ok-insert.ensures.updates.0 offset ∙ ap stands (at_equal offset offset refl) in
    rw c.in-Found.is (c.record_at.result, there)
