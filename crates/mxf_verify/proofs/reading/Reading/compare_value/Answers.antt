use Rattle.mxf_views.proofs.Common.{◌++◌, IsTrue, Option, ap, arith, get_or, subst, sym, ◌∙◌, covered_end}
use denote.Bor.{Bor}
use Rattle.mxf_klv.specs.Parts.{NoteParts}
use Rattle.sha2.specs.Sha256.{sha256}
use Rattle.sha2.specs.declared.Sha256.{Sha256}
use Rattle.mxf_verify.specs.Agreeing.{value_part}
use Rattle.mxf_verify.specs.Hashing.{Digests}
use Rattle.mxf_verify.specs.Taking.{value_in}
use Rattle.mxf_verify.specs.Verifying.{is_digested}
use Rattle.mxf_verify.proofs.ReadingLaws.{came, came_more, next_digested, next_named, next_within}
use Rattle.mxf_verify.proofs.reading.Reading.compare_value.Goals as goal

pub returns-clause-tells : goal.returns-clause-tells
returns-clause-tells c offset front notes is h =
    let r = c.args.self.now in
    let n = c.args.note in
    let at = c.args.at in
    let more = c.args.bytes.now in
    let all = front ++ more in
    let taken = h.compared.taken in
    let few = next_within offset all notes r n taken c.requires.next in
    let named = next_named offset all notes r n n taken c.requires.next in
    let digested = subst (λ (x : Bor NoteParts). IsTrue (is_digested x.now)) (sym named)
    (next_digested r n c.requires.next) in
    let before = value_in (get_or notes r.next n).now offset front in
    let hashed = c.digest_with-digest.ensures before (subst (λ (o : Option Sha256). Digests o before)
    (sym c.replace-before.ensures.value) (came offset front all notes r n h few digested)) in
    let grown = ap (λ p. before ++ p) (c.value_part-part.ensures
    ∙ ap (λ (x : Bor NoteParts). value_part x.now at more) (sym named))
    ∙ sym (came_more offset at front more all notes r n h few is) in
    let end = ap (λ (x : Bor NoteParts). covered_end x.now) named in
    c.say.ensures.says offset front all notes n h.compared (omega (arith, c.requires.ends, taken.at, end))
    (hashed ∙ ap sha256 grown)
