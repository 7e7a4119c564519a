-- Findings by their definition.
use Rattle.mxf_findings.proofs.Common.{ℕ, List, ◌↔◌, NoteParts, In, IsContent, Code, F01, F03, F04, F09, F12, F13, Finding}
use Rattle.mxf_findings.proofs.Common.{findings_of, offsets_for}
use Rattle.mxf_findings.specs.declared.finding.Code.TheVariants.{F02, F05, F06, F07, F08, F10, F11, F14}
use Rattle.mxf_findings.specs.FindingCauses.{IsFinding, IsFoundAt}
use Rattle.mxf_findings.specs.Findings.{is_misplaced, is_open_footer, is_unfit, is_unreadable_segment, is_unreadable_set}
use Rattle.mxf_findings.specs.Findings.{lacks_footer}
use Rattle.mxf_findings.proofs.Common.{inl, inr, is_no_unreadable_pack, link_of, not, not_equal, partitions_of}
use Rattle.mxf_findings.proofs.CauseLaws.{at_clear, at_disputed, at_partition, footer_lacks, gap_starts, open_footer}
use Rattle.mxf_findings.proofs.CauseLaws.{unlinked, unreadable_pack}
use Rattle.mxf_findings.proofs.HeaderCauses.{lost_references, partial_copies, unreadable_segment, unreadable_set}
use Rattle.mxf_findings.proofs.IndexCauses.{broken_chain, unfit_random_index}
use Rattle.mxf_findings.proofs.FindingMembers.{findings_are}

causes : (code : Code) (notes : List NoteParts) (o : ℕ) → IsContent notes
    → In o (offsets_for code notes) ↔ IsFoundAt code notes o
causes F01 notes o r = at_disputed (λ d. d.same_offset) _ notes o (λ d is. is.same_offset) (λ n s. inl s)
causes F02 notes o r = at_disputed (λ d. d.overlaps) _ notes o (λ d is. is.overlaps) (λ n s. inr s)
causes F03 notes o r = gap_starts notes o r
causes F04 notes o r = at_clear (λ n. not (is_no_unreadable_pack n)) _ notes o (λ n _. unreadable_pack n)
causes F05 notes o r = at_partition is_misplaced _ notes o (λ p. not_equal p.pack.numbers.this_partition p.offset)
causes F06 notes o r =
    at_partition (λ p. is_unfit (link_of (partitions_of notes) p)) _ notes o (unlinked (partitions_of notes))
causes F07 notes o r = at_partition is_open_footer _ notes o open_footer
causes F08 notes o r = at_partition (lacks_footer (partitions_of notes)) _ notes o (footer_lacks (partitions_of notes))
causes F09 notes o r = partial_copies notes o r
causes F10 notes o r = at_clear is_unreadable_set _ notes o (λ n _. unreadable_set n)
causes F11 notes o r = at_clear is_unreadable_segment _ notes o (λ n _. unreadable_segment n)
causes F12 notes o r = unfit_random_index notes o
causes F13 notes o r = lost_references notes o r
causes F14 notes o r = broken_chain notes o r

pub findings_iff : (notes : List NoteParts) (f : Finding) → IsContent notes
    → In f (findings_of notes) ↔ IsFinding notes f
findings_iff notes f r =
    let a = findings_are notes f in
    let b = causes f.code notes f.offset r in
    (λ h. b.0 (a.0 h), λ h. a.1 (b.1 h))
