use Rattle.std.proofs.Common.{rules}
use Rattle.mxf_klv.specs.KeptValue.{front_of}
use Rattle.mxf_klv.proofs.LabelOrder.{cmp-tails}
use Rattle.mxf_klv.proofs.note.order.NoteOrd.cmp.Goals as goal

pub returns : goal.returns
returns c =
    let a = front_of c.self.inside.kept in
    let b = front_of c.other.inside.kept in search (
      rules,
      cmp-tails a.key b.key c.self.invariant.label c.other.invariant.label,
    )
