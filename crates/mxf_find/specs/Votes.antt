-- Where a fragment's notes say that it lies in a recording (this project's profile).
use Rattle.std.specs.Prelude.{◌≡◌, ℕ, ◌+◌, ◌-◌, ◌<◌, ◌≤◌, ◌==◌, ◌&&◌, Bool, if◌then◌else◌, List, count_by, filter}
use Rattle.std.specs.Prelude.{flat_map, map}
use Rattle.mxf_klv.specs.Note.{greatest_end}
use Rattle.mxf_klv.specs.Parts.{NoteParts}
use Rattle.mxf_find.specs.Telling.{is_teller_by_length, is_teller_by_value, tells_in}
use Rattle.mxf_find.specs.declared.recording.Tells.{Tells}

-- A fragment: its notes, and the offset at which it begins.
pub record FragmentParts : Type 0 where
  pub notes : List NoteParts
  pub offset : ℕ

-- The place of a note in a fragment: its offset less the fragment's.
abbrev pub place : FragmentParts → NoteParts → ℕ
place f p = p.offset - f.offset

-- How far on a note of a recording lies than one of a fragment does: its offset less the place of the other, and the
-- greatest end of a packet more, so that it isn't negative.
abbrev pub shift : FragmentParts → NoteParts → NoteParts → ℕ
shift f p n = n.offset + (greatest_end - place f p)

-- A note of a fragment that tells by what is said votes by one of a recording: both are whole, tell by value, and say
-- the same but for their offset; or one of them is a head, both tell by length, and they have the same key, width and
-- length.
unfoldable pub voted_by : Tells → List NoteParts → NoteParts → NoteParts → Bool
voted_by tells recording p n =
    if p.whole && n.whole
    then tells.by_value && is_teller_by_value recording p n
    else tells.by_length && is_teller_by_length recording p n

abbrev pub is_vote : FragmentParts → List NoteParts → NoteParts → NoteParts → Bool
is_vote f recording p n = voted_by (tells_in f.notes p) recording p n

-- A note, and by what it tells.
pub record TellerParts : Type 0 where
  pub note : NoteParts
  pub tells : Tells

abbrev pub teller_in : List NoteParts → NoteParts → TellerParts
teller_in notes n = record { note = n; tells = tells_in notes n }

-- The votes: the shift of each two notes of which one votes by the other.
abbrev pub votes_by : FragmentParts → List NoteParts → TellerParts → List ℕ
votes_by f recording t = map (shift f t.note) (filter (voted_by t.tells recording t.note) recording)

abbrev pub votes : FragmentParts → List NoteParts → List ℕ
votes f recording = flat_map (λ p. map (shift f p) (filter (is_vote f recording p) recording)) f.notes

-- How often a number stands among others.
abbrev pub count_of : ℕ → List ℕ → ℕ
count_of number numbers = count_by (λ k. k == number) numbers

-- The number with the most votes, of several the least.
pub record IsMostVoted (votes : List ℕ) (vote : ℕ) : Type 0 where
  pub some : 0 < count_of vote votes
  pub most : (other : ℕ) → count_of other votes ≤ count_of vote votes
  pub least : (other : ℕ) → count_of other votes ≡ count_of vote votes → vote ≤ other
