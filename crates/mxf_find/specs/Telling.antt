-- Which notes of a content tell which recording it is of, and where they lie in it (this project's profile).
use Rattle.std.specs.Prelude.{◌≡◌, ◌≢◌, ◌==◌, ◌&&◌, Bool, true, false, IsTrue, not, List, filter, length}
use Rattle.mxf_klv.specs.declared.kinds.Kind.{Kind}
use Rattle.mxf_klv.specs.declared.kinds.Kind.TheVariants as kinds
use Rattle.mxf_klv.specs.Kind.{kind_of}
use Rattle.mxf_klv.specs.Parts.{NoteParts}
use Rattle.mxf_klv.specs.Rising.{In}
use Rattle.mxf_catalogue.specs.Disputes.{IsDisputed, is_disputed}
use Rattle.mxf_find.specs.Packets.{is_same_length, is_same_packet}
use Rattle.mxf_find.specs.declared.recording.Tells.{Tells}

-- One of the notes, whole or a head, that shares no byte with another and is no fill.
pub record IsSound (n : NoteParts) (notes : List NoteParts) : Type 0 where
  pub held : In n notes
  pub undisputed : IsDisputed n notes → ⊥
  pub no_fill : kind_of n.key ≢ kinds.Fill

-- It tells by value: it is sound and whole, and no other note has its key, width, length and held bytes.
pub record IsTellingByValue (n : NoteParts) (notes : List NoteParts) : Type 0 where
  pub sound : IsSound n notes
  pub whole : n.whole ≡ true
  pub only : (m : NoteParts) → In m notes → m.whole ≡ true → m.key ≡ n.key → m.width ≡ n.width → m.length ≡ n.length
      → m.held ≡ n.held → m ≡ n

-- It tells by length: it is sound, and no other note has its key, width and length.
pub record IsTellingByLength (n : NoteParts) (notes : List NoteParts) : Type 0 where
  pub sound : IsSound n notes
  pub only : (m : NoteParts) → In m notes → m.key ≡ n.key → m.width ≡ n.width → m.length ≡ n.length → m ≡ n

-- The same as tests, of one of the notes. A law ties them to the relations above.

abbrev pub is_fill : Kind → Bool
is_fill kinds.Fill = true
is_fill kind = false

unfoldable pub is_sound : List NoteParts → NoteParts → Bool
is_sound notes n = not (is_disputed n notes) && not (is_fill (kind_of n.key))

unfoldable pub tells_by_value : List NoteParts → NoteParts → Bool
tells_by_value notes n = n.whole && is_sound notes n && (length (filter (is_same_packet n) notes) == 1)

unfoldable pub tells_by_length : List NoteParts → NoteParts → Bool
tells_by_length notes n = is_sound notes n && (length (filter (is_same_length n) notes) == 1)

-- By what one of the notes tells.
abbrev pub tells_in : List NoteParts → NoteParts → Tells
tells_in notes n = record { by_value = tells_by_value notes n; by_length = tells_by_length notes n }

-- One of the notes that passes a test, and that none does.
pub record IsOneOf (test : NoteParts → Bool) (notes : List NoteParts) (n : NoteParts) : Type 0 where
  pub held : In n notes
  pub passes : IsTrue (test n)

abbrev pub IsNoneOf : (NoteParts → Bool) → List NoteParts → Type 0
IsNoneOf test notes = (n : NoteParts) → In n notes → IsTrue (test n) → ⊥

-- A note tells as another does, and they are of one packet, or have the same key, width and length.
abbrev pub is_teller_by_value : List NoteParts → NoteParts → NoteParts → Bool
is_teller_by_value notes p n = tells_by_value notes n && is_same_packet p n

abbrev pub is_teller_by_length : List NoteParts → NoteParts → NoteParts → Bool
is_teller_by_length notes p n = tells_by_length notes n && is_same_length p n
