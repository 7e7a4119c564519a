use Rattle.mxf_klv.proofs.Common.{◌≡◌, ◌∙◌, ◌+◌, ◌-◌, ◌*◌, ◌%◌, arith, ap, length, refl, sym, length-drop, AreBytes}
use Rattle.byteorder.specs.Endian.{big_number}
use Rattle.mxf_klv.proofs.RoundTrips.{AreBytes-take, AreBytes-drop}
use Rattle.mxf_sets.specs.RandomIndexPack.{entries_of}
use Rattle.mxf_sets.proofs.RipLaws.{entries_are, length-entries_of, rip_read}
use Rattle.mxf_sets.proofs.pack.random_index.Rip.read.Goals as goal

pub returns-clause-reads : goal.returns-clause-reads
returns-clause-reads c =
    let bytes = c.args.value.now in
    let entries = c.in-Some.entries.now in
    let k = c.in-Some.ensures.cases in
    let at = length bytes - 4 in
    let whole : length entries % 12 ≡ 0 = omega arith in
    let bytewise : AreBytes bytes = λ i. omega (arith, c.type_inv.value i) in
    let front : AreBytes entries = rw k.0 (AreBytes-take at bytes bytewise) in
    let last : AreBytes c.in-Some.last.now = rw k.1 (AreBytes-drop at bytes bytewise) in
    let are = entries_are entries whole front in
    let four : length c.in-Some.last.now ≡ 4 = ap length k.1 ∙ omega (arith, length-drop at bytes, k.2) in
    let stated : big_number 4 c.in-Some.last.now ≡ 16 + c.args.width + length bytes =
    sym c.read_u32.ensures ∙ sym c.from-2.ensures ∙ omega (arith, c.if-from-packet.false, c.from.ensures) in
    let count : 12 * length (entries_of entries) ≡ length entries = omega (arith, length-entries_of entries) in
    (refl, rip_read c.args.width bytes entries c.in-Some.last.now k.0 k.1 k.2 four last stated are.0 are.1 count)
