use Rattle.std.proofs.Common.{◌∙◌, arith, sym}
use Rattle.mxf_klv.proofs.StopLaws.{no_head_for, at_end, at_fault, at_far, end_has_no_head, fault_has_no_head}
use Rattle.mxf_klv.specs.declared.packet.PacketFault.TheVariants.{NotUl, Indefinite, TooWide, Short}
use Rattle.mxf_klv.proofs.piece.read_key_and_length.Goals as goal

pub returns-then-is_empty-clause-none : goal.returns-then-is_empty-clause-none
returns-then-is_empty-clause-none c =
    let e = sym c.is_empty.ensures ∙ c.if-is_empty.true in
    no_head_for _ _ _ (at_end c.args.offset c.args.bytes.now e) (λ o. end_has_no_head c.args.bytes.now e)

pub returns-in-Err-NotUl-clause-none : goal.returns-in-Err-NotUl-clause-none
returns-in-Err-NotUl-clause-none c = no_head_for _ _ _
    (at_fault c.args.offset c.args.bytes.now _ NotUl (sym c.is_empty.ensures ∙ c.if-is_empty.false)
    c.in-Err-NotUl.field-0-is c.in-Err-NotUl.ensures) (λ o. absurd o)

pub returns-in-Err-Indefinite-clause-none : goal.returns-in-Err-Indefinite-clause-none
returns-in-Err-Indefinite-clause-none c = no_head_for _ _ _
    (at_fault c.args.offset c.args.bytes.now _ Indefinite (sym c.is_empty.ensures ∙ c.if-is_empty.false)
    c.in-Err-Indefinite.field-0-is c.in-Err-Indefinite.ensures) (λ o. absurd o)

pub returns-in-Err-TooWide-clause-none : goal.returns-in-Err-TooWide-clause-none
returns-in-Err-TooWide-clause-none c = no_head_for _ _ _
    (at_fault c.args.offset c.args.bytes.now _ TooWide (sym c.is_empty.ensures ∙ c.if-is_empty.false)
    c.in-Err-TooWide.field-0-is c.in-Err-TooWide.ensures) (λ o. absurd o)

pub returns-in-Err-Short-clause-none : goal.returns-in-Err-Short-clause-none
returns-in-Err-Short-clause-none c = no_head_for _ _ _
    (at_fault c.args.offset c.args.bytes.now _ Short (sym c.is_empty.ensures ∙ c.if-is_empty.false)
    c.in-Err-Short.field-0-is c.in-Err-Short.ensures) (λ o. fault_has_no_head c.args.bytes.now _ c.in-Err-Short.ensures)

pub returns-then-from-size-clause-none : goal.returns-then-from-size-clause-none
returns-then-from-size-clause-none c = no_head_for _ _ _
    (at_far c.args.offset c.args.bytes.now c.in-Ok.head.key c.in-Ok.head.after.now c.in-Ok.head.ber
    c.in-Ok.ensures (omega arith)) (λ o. absurd o)
