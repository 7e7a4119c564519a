-- What a file begins with.
use Rattle.std.specs.Prelude.{ℕ, nat_eq, ◌==◌, if◌then◌else◌, List, [], ◌∷◌, ◌++◌, codes, length}
use Rattle.std.specs.List.{starts_with}
use Rattle.mxf_saving.specs.declared.beginning.Beginning.{Beginning}
use Rattle.mxf_saving.specs.declared.beginning.Beginning.TheVariants.{Nothing, Label, Catalogue, Other}

-- The bytes that each label begins with (ST 336, section 4).
abbrev pub label_front : List ℕ
label_front = 6 ∷ 14 ∷ 43 ∷ 52 ∷ []

-- The bytes that the file of a catalogue begins with, before its version (this project's profile).
abbrev pub catalogue_front : List ℕ
catalogue_front = codes "MXFCAT" ++ 0 ∷ []

-- What the bytes begin with.
abbrev pub beginning_of : List ℕ → Beginning
beginning_of front =
    if length front == 0 then Nothing
    else (if starts_with nat_eq front label_front then Label
    else (if starts_with nat_eq front catalogue_front then Catalogue else Other))
