use Rattle.std.proofs.Common.{◌∙◌, List, Option, length, subst, sym}
use Rattle.mxf_hand.specs.Given.{AreTold, SourceParts}
use Rattle.mxf_hand.proofs.ComparingLaws.{part_compared}
use Rattle.mxf_hand.proofs.given.comparing.compare_part.Goals as goal

pub returns-clause-noted : goal.returns-clause-noted
returns-clause-noted g c = λ given are.
    let again = subst (λ (t : Option (List SourceParts)). AreTold t c.args.extents.now given)
    (sym c.in_ok-read_range.ensures.told) are in
    let one = c.read_range.auto.room in
    let other = c.read_range-2.auto.room in
    part_compared given c.args.pair.0 c.args.pair.1 c.args.start (length c.args.one.now) c.args.differing.now
    c.note_bytes.new.self c.read_range.new.room c.read_range-2.new.room (c.in_ok-read_range.ensures.bytes given are)
    (c.in_ok-read_range-2.ensures.bytes given again) one (other ∙ c.requires.alike ∙ sym one)
    c.in_ok-note_bytes.ensures
