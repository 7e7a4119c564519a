use Rattle.mxf_verify.proofs.FinishingLaws.{bytes_are}
use Rattle.mxf_verify.proofs.finishing.bytes_told.Goals as goal

pub returns : goal.returns
returns c = bytes_are c.args.catalogue.now c.args.verified.now c.args.damaged.now _ _ _ _ _ _ _ _
    c.in_ok-verified.ensures c.in_ok-altered.ensures c.in_ok-unverified.ensures c.spans.ensures.spans
    c.in_ok-came.ensures c.spans-2.ensures.spans c.in_ok-unknown.ensures c.are_covers.ensures.a.maximal
    c.are_covers.ensures.b.maximal c.are_covers.ensures.c.maximal c.are_covers.ensures.d.maximal
