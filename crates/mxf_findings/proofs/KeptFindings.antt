-- What the kept notes of a kind say of all clear notes.
use Rattle.mxf_findings.proofs.Common.{◌≡◌, List, ◌==◌, filter, not, list_any, NoteParts, clear_notes, has_other_rip}
use Rattle.mxf_findings.proofs.Common.{is_unfit_rip, is_rip_note, rips_of}
use Rattle.mxf_klv.proofs.Lists.{any_of_both, kept_of_both}

pub other_among_rips : (notes : List NoteParts) (n : NoteParts)
    → list_any (λ m. not (m.offset == n.offset)) (rips_of notes) ≡ has_other_rip n (clear_notes notes)
unfolding rips_of
other_among_rips notes n = any_of_both is_rip_note (λ m. not (m.offset == n.offset)) (clear_notes notes)

pub unfit_among_rips : (notes : List NoteParts)
    → filter (is_unfit_rip notes) (rips_of notes) ≡ filter (is_unfit_rip notes) (clear_notes notes)
unfolding rips_of
unfit_among_rips notes = kept_of_both is_rip_note _ (clear_notes notes)
