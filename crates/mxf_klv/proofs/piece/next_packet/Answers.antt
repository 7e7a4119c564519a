use Rattle.mxf_klv.proofs.PieceLaws.{ends_at}
use Rattle.mxf_klv.proofs.StopLaws.{at_value}
use Rattle.mxf_klv.proofs.piece.next_packet.Goals as goal

pub returns-in-Ok-clause-packet : goal.returns-in-Ok-clause-packet
returns-in-Ok-clause-packet c =
    let head = c.in-Ok.head in
    let found = c.in-Ok.ensures in
    let answers =
    at_value c.args.offset c.args.bytes.now head.key head.after.now head.ber c.packet.result found.head
    found.within c.packet.ensures
    in
    rw c.ok_or.ensures.value answers.packet

pub returns-in-Ok-clause-none : goal.returns-in-Ok-clause-none
returns-in-Ok-clause-none c =
    let head = c.in-Ok.head in
    let found = c.in-Ok.ensures in
    let answers =
    at_value c.args.offset c.args.bytes.now head.key head.after.now head.ber c.packet.result found.head
    found.within c.packet.ensures
    in
    rw c.ok_or.ensures.value answers.none

pub returns-in-Ok-clause-goes_on : goal.returns-in-Ok-clause-goes_on
returns-in-Ok-clause-goes_on c =
    let head = c.in-Ok.head in
    let found = c.in-Ok.ensures in
    let answers =
    at_value c.args.offset c.args.bytes.now head.key head.after.now head.ber c.packet.result found.head
    found.within c.packet.ensures
    in
    rw c.ok_or.ensures.value answers.goes_on

pub returns-in-Ok-clause-ends : goal.returns-in-Ok-clause-ends
returns-in-Ok-clause-ends c =
    let head = c.in-Ok.head in
    let found = c.in-Ok.ensures in
    let answers =
    at_value c.args.offset c.args.bytes.now head.key head.after.now head.ber c.packet.result found.head
    found.within c.packet.ensures
    in
    rw c.ok_or.ensures.value answers.ends

pub returns-in-Err-clause-ends : goal.returns-in-Err-clause-ends
returns-in-Err-clause-ends c =
    let none = c.in-Err.ensures.none in
    ends_at c.args.offset c.args.bytes.now c.in-Err.stop none.none none.is
