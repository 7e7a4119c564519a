use Rattle.std.proofs.Common.{Bool, arith, ap, cond, sym}
use Rattle.mxf_catalogue.proofs.FileParts.{noted}
use Rattle.mxf_catalogue.proofs.catalogue.file.entry.read_digest.Goals as goal

pub returns-clause-note : goal.returns-clause-note
returns-clause-note c =
    let k = c.in-Some.ensures.cases in
    let f = c.args.fixed in
    noted f c.in-Some-digested.note c.args.bytes.now c.in-Some.digest.now c.in-Some.after.now c.args.key 32
    c.requires.noted (sym (ap (λ (b : Bool). cond b f.length 32) c.requires.digested)) c.requires.key
    c.in-Some-digested.ensures.1 k.0 k.1 (omega (arith, k.2))
