use Rattle.std.proofs.Common.{List, subst}
use Rattle.mxf_read.specs.Gathering.{AllTell}
use Rattle.mxf_verify.specs.Sources.{AreSourcesOf}
use Rattle.mxf_verify.specs.Verifications.{IsVerification}
use Rattle.mxf_verify.specs.Verifying.{Source}
use Rattle.mxf_sources.proofs.verifying.verify_opened.Goals as goal

pub returns-in-Ok : goal.returns-in-Ok
returns-in-Ok g c =
    let left = g.F.Read.remaining in
    subst (λ l. AllTell left l → (sources : List Source) × AreSourcesOf left l sources
    × IsVerification c.args.reference.now sources c.in-Ok.verification) c.into_parts-parts.ensures.parts
    c.in-Ok.ensures.verified
