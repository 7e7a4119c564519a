-- What saving a catalogue knows of paths and faults (this project's profile).
use Rattle.std.specs.Prelude.{◌≡◌, ℕ, ◌≢◌, ◌⊎◌, ◌==◌, ◌&&◌, Bool, false, if◌then◌else◌, nat_lt, List, [], ◌++◌, length}
use Rattle.std.specs.Prelude.{codes, Option, None, Some}
use Rattle.std.specs.Option.{option_map_or}
use Rattle.mxf_klv.specs.Parts.{NoteParts}
use Rattle.mxf_saving.specs.declared.beginning.Beginning.{Beginning}
use Rattle.mxf_saving.specs.declared.beginning.Beginning.TheVariants as beginnings
use Rattle.mxf_saving.specs.declared.refusal.OutputRefusal.{OutputRefusal}
use Rattle.mxf_saving.specs.declared.refusal.OutputRefusal.TheVariants as refusals
use Rattle.std.specs.Path.{path_file_name, path_with_file_name}
use Rattle.std.specs.declared.io.ErrorKind.{ErrorKind}
use Rattle.std.specs.declared.io.ErrorKind.TheVariants as kinds
use Rattle.mxf_saving.specs.declared.fault.SaveFault.{SaveFault}
use Rattle.mxf_saving.specs.declared.fault.SaveFault.TheVariants as faults

-- The name of the file that is written to take the place of one of this name: after a name of more than 241 bytes
-- there is no room for the ending, and it stands alone.
abbrev pub part_name : List ℕ → List ℕ
part_name name = (if nat_lt 241 (length name) then [] else name) ++ codes ".mxf_tool.part"

-- The second path is that of a file in the folder of the first, under such a name.
abbrev pub IsBeside : List ℕ → List ℕ → Type 0
IsBeside path part =
    (name : List ℕ) × (path_file_name path ≡ Some name) × (part ≡ path_with_file_name path (part_name name))

-- The path is one that Linux has for standard output.
abbrev pub NamesStandardOutput : List ℕ → Type 0
NamesStandardOutput path = (path ≡ codes "/dev/stdout") ⊎ (path ≡ codes "/dev/fd/1") ⊎ (path ≡ codes "/proc/self/fd/1")

-- Why a regular file that begins so isn't replaced by a catalogue: an empty one and a catalogue are.
abbrev pub refusal_by : Beginning → Option OutputRefusal
refusal_by beginnings.Nothing = None
refusal_by beginnings.Label = Some refusals.Recording
refusal_by beginnings.Catalogue = None
refusal_by beginnings.Other = Some refusals.Other

-- A content without a note is kept only where nothing with bytes stands, of this size.
abbrev pub keeps_nothing : List NoteParts → Option ℕ → Bool
keeps_nothing notes size = length notes == 0 && option_map_or (nat_lt 0) size false

-- Why a catalogue isn't saved, by what the system says.
abbrev pub IsSaveFaultOf : ErrorKind → SaveFault → Type 0
IsSaveFaultOf kind faults.OutOfMemory = kind ≡ kinds.OutOfMemory
IsSaveFaultOf kind (faults.Refused why) = ⊥
IsSaveFaultOf kind faults.NothingToKeep = ⊥
IsSaveFaultOf kind (faults.Reserved part) = ⊥
IsSaveFaultOf kind (faults.Write cause) = kind ≢ kinds.OutOfMemory
