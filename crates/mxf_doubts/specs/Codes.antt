-- The codes of doubts with their texts, and the order of doubts (this project's profile).
use Rattle.std.specs.Prelude.{◌≡◌, ℕ, ◌-◌, ◌/◌, ◌%◌, List, [], ◌∷◌, ◌++◌, codes, refl}
use Rattle.std.specs.Fmt.{decimal}
use Rattle.std.specs.Ordering.{nat_cmp, on, then_cmp, eq_by_cmp}
use Rattle.std.specs.Cmp.{IsTotalOrder, IsEquivalence}
use Rattle.std.specs.FinSet.{IsAntisymmetric, nat_cmp-IsAntisymmetric}
use Rattle.std.specs.declared.cmp.Ordering.{Ordering}
use Rattle.std.proofs.Common.{get_or, sym, ◌∙◌, ap}
use Rattle.std.proofs.lemmas.Cmp.{on_total, then_total, nat_cmp_total, eq_by_cmp_equiv}
use Rattle.mxf_doubts.specs.declared.doubt.Code.{Code}
use Rattle.mxf_doubts.specs.declared.doubt.Code.TheVariants.{G01, G02, G03, G04, G06, G07, G08, G09, G10, G11}
use Rattle.mxf_doubts.specs.declared.doubt.Doubt.{Doubt}
use Rattle.mxf_klv.specs.NoteOrder.{ties}

-- The codes, rising.
abbrev pub all_codes : List Code
all_codes = G01 ∷ G02 ∷ G03 ∷ G04 ∷ G06 ∷ G07 ∷ G08 ∷ G09 ∷ G10 ∷ G11 ∷ []

-- The number in the name of a code.
abbrev pub code_number : Code → ℕ
code_number G01 = 1
code_number G02 = 2
code_number G03 = 3
code_number G04 = 4
code_number G06 = 6
code_number G07 = 7
code_number G08 = 8
code_number G09 = 9
code_number G10 = 10
code_number G11 = 11

-- The name of a code: G, and two digits.
abbrev pub code_name : Code → List ℕ
code_name code = codes "G" ++ decimal (code_number code / 10) ++ decimal (code_number code % 10)

abbrev pub code_text : Code → List ℕ
code_text G01 = codes "header metadata without one Preface"
code_text G02 = codes "strange packet in header metadata"
code_text G03 = codes "index doesn't fit its partition"
code_text G04 = codes "no packet where a unit begins"
code_text G06 = codes "strange packet"
code_text G07 = codes "essence that no track names"
code_text G08 = codes "set's key doesn't fit its items"
code_text G09 = codes "reference to no set"
code_text G10 = codes "item that the primer lacks"
code_text G11 = codes "unit behind the essence's end"

-- The doubt of a code at an offset.
abbrev pub doubt : Code → ℕ → Doubt
doubt code offset = record { offset = offset; code = code }

-- Doubts go by offset, then by code.
abbrev pub doubt_cmp : Doubt → Doubt → Ordering
doubt_cmp = then_cmp (on (λ d. d.offset) nat_cmp) (on (λ d. code_number d.code) nat_cmp)

pub doubt_total : IsTotalOrder doubt_cmp
doubt_total = then_total (on_total (λ d. d.offset) nat_cmp_total) (on_total (λ d. code_number d.code) nat_cmp_total)

pub doubt_equiv : IsEquivalence (eq_by_cmp doubt_cmp)
doubt_equiv = eq_by_cmp_equiv doubt_total

-- The code with the number, by its place in a list that has some code at the places of other numbers.
abbrev pub numbered : ℕ → Code
numbered n = get_or (G01 ∷ G02 ∷ G03 ∷ G04 ∷ G04 ∷ G06 ∷ G07 ∷ G08 ∷ G09 ∷ G10 ∷ G11 ∷ []) (n - 1) G01

-- Its number is its place there.
pub numbered_back : (c : Code) → numbered (code_number c) ≡ c
numbered_back G01 = refl
numbered_back G02 = refl
numbered_back G03 = refl
numbered_back G04 = refl
numbered_back G06 = refl
numbered_back G07 = refl
numbered_back G08 = refl
numbered_back G09 = refl
numbered_back G10 = refl
numbered_back G11 = refl

same_doubt : (a b : Doubt) → a.offset ≡ b.offset → a.code ≡ b.code → a ≡ b
same_doubt a b e f i = record { offset = e i; code = f i }

-- Doubts that compare alike are one.
pub doubt_cmp-IsAntisymmetric : IsAntisymmetric doubt_cmp
doubt_cmp-IsAntisymmetric a b e =
    let p = ties _ _ e in
    let n = nat_cmp-IsAntisymmetric (code_number a.code) (code_number b.code) p.1 in
    same_doubt a b (nat_cmp-IsAntisymmetric _ _ p.0) (sym (numbered_back a.code) ∙ ap numbered n
    ∙ numbered_back b.code)
