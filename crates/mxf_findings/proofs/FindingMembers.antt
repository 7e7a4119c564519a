-- Which findings there are: those of each code, and no others.
use Rattle.mxf_findings.proofs.Common.{◌-◌, List, [], refl, sym, subst, inl, inr, ◌↔◌, NoteParts, In, IsRising}
use Rattle.mxf_findings.proofs.Common.{IsRising-union, In-union, Code, F01, Finding, finding, finding_cmp, findings_for}
use Rattle.mxf_findings.proofs.Common.{findings_of, In-map, flat_map, finding_cmp-IsAntisymmetric, finding_total}
use Rattle.mxf_findings.proofs.Common.{offsets_for}
use Rattle.mxf_findings.specs.Codes.{all_codes, code_number, numbered_back}
use Rattle.mxf_klv.proofs.Lists.{In-flat_map, at_place}

-- Each code stands at the place of its number.
held : (code : Code) → In code all_codes
held code = subst (λ c. In c all_codes) (numbered_back code)
    (elim (at_place all_codes (code_number code - 1) F01) [ inl e ↦ inl e | inr h ↦ h ])

-- The findings are those offsets that are found of their code.
pub findings_are : (notes : List NoteParts) (f : Finding)
    → In f (findings_of notes) ↔ In f.offset (offsets_for f.code notes)
findings_are notes f =
    let each = flat_map (λ code. findings_for code notes) all_codes in
    let u = In-union finding_total finding_cmp-IsAntisymmetric f [] each in
    let m = In-flat_map (λ code. findings_for code notes) all_codes f in (
      λ h. elim (u.0 h) [
        | inl k ↦ absurd k
        | inr k ↦
            let s = m.0 k in
            let t = (In-map (finding s.0) (offsets_for s.0 notes) f).0 s.2 in
            subst (λ (g : Finding). In g.offset (offsets_for g.code notes)) (sym t.2) t.1
      ],
      λ h. u.1 (inr (m.1 (
        f.code,
        held f.code,
        (In-map (finding f.code) (offsets_for f.code notes) f).1 (f.offset, h, refl),
      ))),
    )

-- They rise.
pub findings_rise : (notes : List NoteParts) → IsRising finding_cmp (findings_of notes)
findings_rise notes =
    let each = flat_map (λ code. findings_for code notes) all_codes in
    IsRising-union finding_total finding_cmp-IsAntisymmetric [] each tt
