use Rattle.std.proofs.Common.{◌∙◌, ap, length, sym}
use Rattle.std.proofs.lemmas.Bool.Decides.{Decides-eqb}
use Rattle.std.proofs.lemmas.Slice.Eq.{slice_eq-Decides}
use Rattle.mxf_hand.specs.Differing.{with_bytes}
use Rattle.std.proofs.lemmas.Slice.Zip.{zip_end}
use Rattle.mxf_hand.proofs.DifferingLaws.{bytes_alike, bytes_ended}
use Rattle.mxf_hand.proofs.given.differing.Differing.note_bytes.Goals as goal

pub returns : goal.returns
returns c =
    let bytes = c.args.bytes.now in
    let others = c.args.others.now in
    let all = zip_end bytes others c.loop-byte.yielded c.into_iter-byte-iterator.result c.loop-byte.byte-iterator
    c.next.new.self c.next.result (cc) (cc) c.loop-byte.yielded_by c.in-None.is
    c.next.ensures.steps in
    sym (bytes_ended c.loop-byte.self c.loop-byte.at (length c.loop-byte.yielded) bytes others all)
    ∙ c.loop-byte.invariant.all

pub returns-then-eq : goal.returns-then-eq
returns-then-eq c =
    let bytes = c.args.bytes.now in
    let same = (slice_eq-Decides Decides-eqb bytes c.args.others.now c.eq.result c.eq.ensures).0 c.if-eq.true in
    sym (ap (with_bytes c.args.self.now c.args.start bytes) (sym same) ∙ bytes_alike c.args.self.now c.args.start bytes)
