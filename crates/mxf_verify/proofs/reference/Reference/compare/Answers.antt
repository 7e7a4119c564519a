use Rattle.mxf_views.proofs.Common.{length, subst, sym, AllWithin, IsNonDecreasingBy, IsNote}
use Rattle.mxf_verify.specs.Candidates.{offset_of}
use Rattle.mxf_verify.specs.SourceReads.{AreApart}
use Rattle.mxf_verify.proofs.ReferenceLaws.{reference_apart, reference_notes, reference_rises}
use Rattle.mxf_verify.proofs.reference.Reference.compare.Goals as goal

pub compare_bytes-requires-clause-notes : goal.compare_bytes-requires-clause-notes
compare_bytes-requires-clause-notes g c =
    subst (λ cs. AllWithin (λ x. IsNote x.note.now) cs 0 (length cs)) (sym c.deref.ensures.value)
    (reference_notes _ _ c.self.invariant)

pub compare_bytes-requires-clause-rising : goal.compare_bytes-requires-clause-rising
compare_bytes-requires-clause-rising g c =
    subst (IsNonDecreasingBy offset_of) (sym c.deref.ensures.value) (reference_rises _ _ c.self.invariant)

pub compare_bytes-requires-clause-apart : goal.compare_bytes-requires-clause-apart
compare_bytes-requires-clause-apart g c =
    subst AreApart (sym c.deref.ensures.value) (reference_apart _ _ c.self.invariant)
