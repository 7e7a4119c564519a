-- What is put together of a section of a hole (this project's profile).
use Rattle.std.specs.Prelude.{ℕ, ◌&&◌, nat_le, Bool, true, if◌then◌else◌, List, [], ◌∷◌, Option, None, Some}
use Rattle.std.specs.Option.{option_map_or}
use Rattle.mxf_klv.specs.Parts.{NoteParts}
use Rattle.mxf_klv.specs.Note.{end_of}
use Rattle.mxf_places.specs.Heads.{start_of}
use Rattle.mxf_restore.specs.declared.section.Section.{Section}
use Rattle.mxf_hand.specs.Hand.{HandBytes, is_value_at_hand, packet_of, read_heads, read_packets}
use Rattle.mxf_hand.specs.Heads.{fitting}

-- Where a section is read from: from its start if no head there fits, from the end of the packet of the one head that
-- does, and from nowhere if several do.
abbrev pub read_from : ℕ → List NoteParts → Option ℕ
read_from start [] = Some start
read_from start (n ∷ []) = Some (end_of n)
read_from start (n ∷ m ∷ heads) = None

-- The same of a section.
abbrev pub from_of : HandBytes → List NoteParts → Section → Option ℕ
from_of h notes p = read_from (start_of notes p.first) (fitting h notes p.first)

-- The notes of the whole packets that are read of a section.
abbrev pub packets_of : HandBytes → List NoteParts → Section → List NoteParts
packets_of h notes p = option_map_or (read_packets h p.end) (from_of h notes p) []

-- The head of the packet that is cut where its reading ends.
abbrev pub heads_of : HandBytes → List NoteParts → Section → List NoteParts
heads_of h notes p = option_map_or (read_heads h p.end) (from_of h notes p) []

-- The end of a packet lies in a hole.
abbrev pub ends_within : Option ℕ → NoteParts → Bool
ends_within end n = option_map_or (λ e. nat_le (end_of n) e) end true

-- The only one of notes, if there is exactly one.
abbrev pub only : List NoteParts → Option NoteParts
only [] = None
only (n ∷ []) = Some n
only (n ∷ m ∷ heads) = None

-- The packet of a head, if its value is at hand and lies in the hole.
abbrev pub made_of_head : HandBytes → Option ℕ → NoteParts → List NoteParts
made_of_head h end n = if is_value_at_hand h n && ends_within end n then packet_of h n ∷ [] else []

-- The same of the one head that fits.
abbrev pub made_by : HandBytes → Option ℕ → List NoteParts → List NoteParts
made_by h end heads = option_map_or (made_of_head h end) (only heads) []

-- The same of a section.
abbrev pub made_of : HandBytes → List NoteParts → Section → List NoteParts
made_of h notes p = made_by h p.hole.end (fitting h notes p.first)
