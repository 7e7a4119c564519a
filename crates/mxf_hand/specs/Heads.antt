-- Heads, and the bytes at hand of their key and length (this project's profile).
use Rattle.std.specs.Prelude.{ℕ, ◌+◌, ◌-◌, ◌&&◌, ◌||◌, ◌==◌, not, Bool, List, filter, get_or}
use Rattle.std.specs.List.{list_all, range_with_len}
use Rattle.mxf_klv.specs.Parts.{NoteParts}
use Rattle.mxf_places.specs.AtHand.{has_offset}
use Rattle.mxf_places.specs.Heads.{heads_to, key_and_length, start_of}
use Rattle.mxf_hand.specs.Hand.{HandBytes}

-- No byte at hand of a packet's key and length differs from what the note says.
unfoldable pub fits : HandBytes → NoteParts → Bool
fits h n =
    list_all (λ x. not (has_offset h.runs x) || (h.byte x == get_or (key_and_length n) (x - n.offset) 0))
    (range_with_len n.offset (16 + n.width))

-- Of the heads whose key and length end at an offset, those that begin where the first of them does, and that fit.
abbrev pub fitting : HandBytes → List NoteParts → ℕ → List NoteParts
fitting h notes first =
    filter (λ n. (n.offset == start_of notes first) && fits h n) (heads_to first notes)
