-- Sets found by their instance identifiers (ST 377-1, strong references), in one copy of the header metadata.
use Rattle.std.specs.Prelude.{◌≡◌, ◌≢◌, ℕ, IsTrue, Bool, false, ◌&&◌, List, [], ◌∷◌, filter, Result, Ok, Err}
use Rattle.std.specs.Str.{bytes_eq}
use Rattle.mxf_klv.specs.Parts.{NoteParts}
use Rattle.mxf_klv.specs.Note.{keeps_value}
use Rattle.mxf_klv.specs.Rising.{In}
use Rattle.mxf_sets.specs.declared.record.FieldFault.{FieldFault}
use Rattle.mxf_sets.specs.Instance.{instance_uid_at}
use Rattle.mxf_references.specs.declared.reference.Found.{Found}
use Rattle.mxf_references.specs.declared.reference.Found.TheVariants.{Absent, One, Several}
use Rattle.mxf_views.specs.Copies.{sets_of}

abbrev pub reads_uid : List ℕ → Result (List ℕ) FieldFault → Bool
reads_uid uid (Ok own) = bytes_eq own uid
reads_uid uid (Err fault) = false

-- The set is kept, and its instance identifier can be read and is this one.
unfoldable pub has_uid : List ℕ → NoteParts → Bool
has_uid uid n = keeps_value n && reads_uid uid (instance_uid_at n.held)

-- None, the one at this offset, or more.
abbrev pub found_among : List NoteParts → Found
found_among [] = Absent
found_among (n ∷ []) = One n.offset
found_among (m ∷ n ∷ notes) = Several

-- What is found of an identifier among the sets of the copy of a partition.
abbrev pub found_in : List NoteParts → ℕ → List ℕ → Found
found_in notes partition uid = found_among (filter (has_uid uid) (sets_of notes partition))

-- What is found with more notes to come.
abbrev pub found_after : Found → List NoteParts → Found
found_after Absent notes = found_among notes
found_after (One offset) [] = One offset
found_after (One offset) (n ∷ notes) = Several
found_after Several notes = Several

-- The set is kept, and its instance identifier is this one.
pub record HasUid (uid : List ℕ) (n : NoteParts) : Type 0 where
  pub kept : IsTrue (keeps_value n)
  pub own : instance_uid_at n.held ≡ Ok uid

-- The only one of the sets that has the identifier.
pub record IsOnlyWith (sets : List NoteParts) (uid : List ℕ) (n : NoteParts) : Type 0 where
  pub held : In n sets
  pub has : HasUid uid n
  pub only : (m : NoteParts) → In m sets → HasUid uid m → m ≡ n

-- Two different sets have the identifier.
pub record IsSeveral (sets : List NoteParts) (uid : List ℕ) : Type 0 where
  pub one : NoteParts
  pub other : NoteParts
  pub one_held : In one sets
  pub one_has : HasUid uid one
  pub other_held : In other sets
  pub other_has : HasUid uid other
  pub differ : one ≢ other

-- What is found by the number of the sets that have the identifier: none, one at this offset, or more.
abbrev pub IsFound : List NoteParts → List ℕ → Found → Type 0
IsFound sets uid Absent = (n : NoteParts) → In n sets → ¬ HasUid uid n
IsFound sets uid (One offset) = (n : NoteParts) × IsOnlyWith sets uid n × (n.offset ≡ offset)
IsFound sets uid Several = IsSeveral sets uid
