use Rattle.std.proofs.Common.{◌≤◌, ◌∙◌, get_or, subst, sym}
use Rattle.std.proofs.lemmas.Option.{same_Some, slice_get-get_or, slice_get_within}
use Rattle.mxf_hand.specs.declared.given.Extent.{Extent}
use Rattle.mxf_hand.proofs.ComparingLaws.{gives_read, ok_then}
use Rattle.mxf_hand.proofs.given.comparing.read_range.Goals as goal

pub returns-clause-bytes : goal.returns-clause-bytes
returns-clause-bytes g c = λ given are.
    let extents = c.args.extents.now in
    let number = c.args.source_number in
    let e = get_or extents number c.index-extents-source_number.result in
    let within = slice_get_within extents number c.requires.extent c.requires.is in
    let is = slice_get-get_or extents number c.index-extents-source_number.result within in
    let same = same_Some c.requires.extent e (sym c.requires.is ∙ is) in
    let from : e.offset ≤ c.args.start = subst (λ (f : Extent). f.offset ≤ c.args.start) same c.requires.from in
    ok_then c.read_exactly.result _ _ c.read_exactly.ensures.bytes
    (gives_read (g.S.Sources.told c.args.sources.now) extents given number c.args.start e c.read_exactly.new.room are is
    from)
