-- The codes of findings with their texts, and the order of findings (this project's profile).
use Rattle.std.specs.Prelude.{◌≡◌, ℕ, ◌-◌, ◌/◌, ◌%◌, List, [], ◌∷◌, ◌++◌, codes, refl}
use Rattle.std.specs.Fmt.{decimal}
use Rattle.std.specs.Ordering.{nat_cmp, on, then_cmp, eq_by_cmp}
use Rattle.std.specs.Cmp.{IsTotalOrder, IsEquivalence}
use Rattle.std.specs.FinSet.{IsAntisymmetric, nat_cmp-IsAntisymmetric}
use Rattle.std.specs.declared.cmp.Ordering.{Ordering}
use Rattle.std.proofs.Common.{get_or, sym, ◌∙◌, ap}
use Rattle.std.proofs.lemmas.Cmp.{on_total, then_total, nat_cmp_total, eq_by_cmp_equiv}
use Rattle.mxf_findings.specs.declared.finding.Code.{Code}
use Rattle.mxf_findings.specs.declared.finding.Code.TheVariants.{F01, F02, F03, F04, F05, F06, F07, F08, F09, F10, F11}
use Rattle.mxf_findings.specs.declared.finding.Code.TheVariants.{F12, F13, F14}
use Rattle.mxf_findings.specs.declared.finding.Finding.{Finding}
use Rattle.mxf_klv.specs.NoteOrder.{ties}

-- The codes, rising.
abbrev pub all_codes : List Code
all_codes = F01 ∷ F02 ∷ F03 ∷ F04 ∷ F05 ∷ F06 ∷ F07 ∷ F08 ∷ F09 ∷ F10 ∷ F11 ∷ F12 ∷ F13 ∷ F14 ∷ []

-- The number in the name of a code.
abbrev pub code_number : Code → ℕ
code_number F01 = 1
code_number F02 = 2
code_number F03 = 3
code_number F04 = 4
code_number F05 = 5
code_number F06 = 6
code_number F07 = 7
code_number F08 = 8
code_number F09 = 9
code_number F10 = 10
code_number F11 = 11
code_number F12 = 12
code_number F13 = 13
code_number F14 = 14

-- The name of a code: F, and two digits.
abbrev pub code_name : Code → List ℕ
code_name code = codes "F" ++ decimal (code_number code / 10) ++ decimal (code_number code % 10)

abbrev pub code_text : Code → List ℕ
code_text F01 = codes "different packets at one offset"
code_text F02 = codes "overlapping packets"
code_text F03 = codes "bytes not held"
code_text F04 = codes "partition pack unreadable"
code_text F05 = codes "partition names another offset"
code_text F06 = codes "previous partition doesn't fit"
code_text F07 = codes "footer marked open"
code_text F08 = codes "footer partition not held"
code_text F09 = codes "header metadata not whole"
code_text F10 = codes "set unreadable"
code_text F11 = codes "index segment unreadable"
code_text F12 = codes "random index pack doesn't fit"
code_text F13 = codes "reference not found"
code_text F14 = codes "partition chain not whole"

-- The finding of a code at an offset.
abbrev pub finding : Code → ℕ → Finding
finding code offset = record { offset = offset; code = code }

-- Findings go by offset, then by code.
abbrev pub finding_cmp : Finding → Finding → Ordering
finding_cmp = then_cmp (on (λ f. f.offset) nat_cmp) (on (λ f. code_number f.code) nat_cmp)

pub finding_total : IsTotalOrder finding_cmp
finding_total = then_total (on_total (λ f. f.offset) nat_cmp_total) (on_total (λ f. code_number f.code) nat_cmp_total)

pub finding_equiv : IsEquivalence (eq_by_cmp finding_cmp)
finding_equiv = eq_by_cmp_equiv finding_total

-- The code with the number.
abbrev pub numbered : ℕ → Code
numbered n = get_or all_codes (n - 1) F01

-- Its number is its place in the list.
pub numbered_back : (c : Code) → numbered (code_number c) ≡ c
numbered_back F01 = refl
numbered_back F02 = refl
numbered_back F03 = refl
numbered_back F04 = refl
numbered_back F05 = refl
numbered_back F06 = refl
numbered_back F07 = refl
numbered_back F08 = refl
numbered_back F09 = refl
numbered_back F10 = refl
numbered_back F11 = refl
numbered_back F12 = refl
numbered_back F13 = refl
numbered_back F14 = refl

same_finding : (a b : Finding) → a.offset ≡ b.offset → a.code ≡ b.code → a ≡ b
same_finding a b e f i = record { offset = e i; code = f i }

-- Findings that compare alike are one.
pub finding_cmp-IsAntisymmetric : IsAntisymmetric finding_cmp
finding_cmp-IsAntisymmetric a b e =
    let p = ties _ _ e in
    let n = nat_cmp-IsAntisymmetric (code_number a.code) (code_number b.code) p.1 in
    same_finding a b (nat_cmp-IsAntisymmetric _ _ p.0) (sym (numbered_back a.code) ∙ ap numbered n
    ∙ numbered_back b.code)
