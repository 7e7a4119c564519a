use Rattle.mxf_views.proofs.Common.{◌∙◌, ◌≡◌, ap, length, map, subst, sym, true, AllWithin}
use Rattle.mxf_verify.specs.declared.candidate.Candidate.{Candidate}
use Rattle.mxf_verify.specs.Compared.{fresh}
use Rattle.mxf_verify.proofs.ReferenceLaws.{fresh_notes, fresh_same}
use Rattle.mxf_verify.proofs.reference.Reference.of.Goals as goal

pub invariant_of-result : goal.invariant_of-result
invariant_of-result c =
    let made = c.in_ok-candidates.ensures ∙ ap (map fresh) c.deref.ensures.value in record {
      catalogue = c.laws.ensures.catalogue;
      reduced = c.laws.ensures.reduced;
      free = ap (map (λ (x : Candidate). x.note.now)) made ∙ fresh_notes _ ∙ c.in_ok-free.ensures;
      fresh = subst (λ cs. AllWithin (λ x. x.is_same ≡ true) cs 0 (length cs)) (sym made) (fresh_same _);
    }
