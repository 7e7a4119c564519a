-- When what a catalogue replaces is kept, and under which name (this project's profile).
use Rattle.std.specs.Prelude.{◌≡◌, ℕ, ◌==◌, if◌then◌else◌, nat_lt, List, [], ◌++◌, length, codes, decimal}
use Rattle.std.specs.Prelude.{Some}
use Rattle.std.specs.Path.{path_file_name, path_with_file_name}
use Rattle.mxf_klv.specs.Parts.{NoteParts}
use Rattle.mxf_klv.specs.Rising.{In}
use Rattle.mxf_catalogue.specs.Content.{has_note}

-- A content holds more than another: it has a note that the other lacks, and that isn't the head of a whole one there.
abbrev pub HoldsMore : List NoteParts → List NoteParts → Type 0
HoldsMore before after = (n : NoteParts) × In n before × ¬ has_note after n

-- The name under which a file of this name is kept: the first has no number, the second has 2. After a name of more than
-- 240 bytes there is no room for the ending, and it stands alone.
abbrev pub kept_name : List ℕ → ℕ → List ℕ
kept_name name number =
    (if nat_lt 240 (length name) then [] else name)
    ++ (codes ".before" ++ (if number == 1 then [] else codes "." ++ decimal number))

-- The second path is that of a file in the folder of the first, under such a name.
abbrev pub IsKeptBeside : List ℕ → ℕ → List ℕ → Type 0
IsKeptBeside path number kept =
    (name : List ℕ) × (path_file_name path ≡ Some name) × (kept ≡ path_with_file_name path (kept_name name number))
