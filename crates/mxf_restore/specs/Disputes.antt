-- How many notes are disputed, and where they lie (this project's profile).
use Rattle.std.specs.Prelude.{◌≡◌, ℕ, ◌≤◌, max, min, Option, None, Some, List, [], ◌∷◌, length}
use Rattle.mxf_klv.specs.Parts.{NoteParts}
use Rattle.mxf_klv.specs.Note.{covered_end}
use Rattle.mxf_klv.specs.Rising.{In}
use Rattle.mxf_catalogue.specs.Disputes.{DisputedParts, IsDisputed, disputed_notes}
use Rattle.mxf_restore.specs.declared.disputes.Disputes.{Disputes}

-- It is a disputed one of the notes.
pub record IsDisputedIn (notes : List NoteParts) (n : NoteParts) : Type 0 where
  pub held : In n notes
  pub disputed : IsDisputed n notes

-- The number of disputed notes, the least offset of one, and the greatest end of what one covers.
pub record AreDisputes (notes : List NoteParts) (d : Disputes) : Type 0 where
  pub count : d.notes ≡ length (disputed_notes notes)
  pub first : (n : NoteParts) × IsDisputedIn notes n × (n.offset ≡ d.start)
  pub none_before : (n : NoteParts) → IsDisputedIn notes n → d.start ≤ n.offset
  pub last : (n : NoteParts) × IsDisputedIn notes n × (covered_end n ≡ d.end)
  pub none_behind : (n : NoteParts) → IsDisputedIn notes n → covered_end n ≤ d.end

-- The same as functions. A law ties them to the relation.

-- The least of a number and of the offsets of disputed notes.
abbrev pub least_start : ℕ → List DisputedParts → ℕ
least_start x [] = x
least_start x (d ∷ others) = least_start (min x d.note.offset) others

-- The greatest of a number and of the ends of what disputed notes cover.
abbrev pub greatest_end : ℕ → List DisputedParts → ℕ
greatest_end x [] = x
greatest_end x (d ∷ others) = greatest_end (max x (covered_end d.note)) others

abbrev pub disputes_in : List DisputedParts → Option Disputes
disputes_in [] = None
disputes_in (d ∷ others) = Some (record {
  notes = length (d ∷ others);
  start = least_start d.note.offset (d ∷ others);
  end = greatest_end (covered_end d.note) (d ∷ others);
})

abbrev pub disputes_of : List NoteParts → Option Disputes
disputes_of notes = disputes_in (disputed_notes notes)
