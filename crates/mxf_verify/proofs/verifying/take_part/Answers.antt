use Rattle.mxf_views.proofs.Common.{[], refl, subst, sym, OnOk, on_ok_weaker}
use Rattle.mxf_read.specs.Gathering.{Tells, bytes_of}
use Rattle.mxf_verify.specs.Seen.{SeesNext}
use Rattle.mxf_verify.specs.Sources.{IsSourceOf, source_at}
use Rattle.mxf_verify.specs.Verifying.{Source}
use Rattle.mxf_verify.proofs.VerifyingLaws.{at_some}
use Rattle.mxf_verify.proofs.verifying.take_part.Goals as goal

pub returns-in-Piece-clause-taken : goal.returns-in-Piece-clause-taken
returns-in-Piece-clause-taken g c =
    let left = g.R.Read.remaining in
    let new = c.take_bytes.new.seen in
    subst (λ p. Tells left p → OnOk c.take_bytes.result ((s : Source) × IsSourceOf left p s
    × SeesNext c.args.number s c.args.seen.now new)) (sym c.in-Piece.is)
    (λ t. on_ok_weaker c.take_bytes.result (λ h. (
      source_at c.in-Piece.offset (bytes_of left c.in-Piece.from),
      refl,
      at_some (left c.in-Piece.from)
          (λ bytes. SeesNext c.args.number (source_at c.in-Piece.offset bytes) c.args.seen.now new)
          [] t h,
    )) c.take_bytes.ensures.taken)

pub returns-in-Range-clause-taken : goal.returns-in-Range-clause-taken
returns-in-Range-clause-taken g c =
    let left = g.R.Read.remaining in
    let new = c.take_bytes-in-Range.new.seen in
    subst (λ p. Tells left p → OnOk c.take_bytes-in-Range.result ((s : Source) × IsSourceOf left p s
    × SeesNext c.args.number s c.args.seen.now new)) (sym c.in-Range.is)
    (λ t. on_ok_weaker c.take_bytes-in-Range.result (λ h. (
      source_at c.in-Range.offset (bytes_of left c.in-Range.from),
      refl,
      at_some (left c.in-Range.from)
          (λ bytes. SeesNext c.args.number (source_at c.in-Range.offset bytes) c.args.seen.now new)
          [] t h,
    )) c.take_bytes-in-Range.ensures.taken)
