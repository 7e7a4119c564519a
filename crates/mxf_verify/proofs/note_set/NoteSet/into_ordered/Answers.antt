use Rattle.mxf_views.proofs.Common.{[], subst, sym, IsContent, IsContent-union_of}
use Rattle.mxf_verify.proofs.note_set.NoteSet.into_ordered.Goals as goal

pub invariant_of-result : goal.invariant_of-result
invariant_of-result c = subst IsContent (sym c.put_in_order.ensures)
    (IsContent-union_of [] c.self.inside.members.items tt)
