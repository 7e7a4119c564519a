-- Rounds: what is put together of a content and the bytes at hand, again and again (this project's profile).
use Rattle.std.specs.Prelude.{ℕ, zero, suc, ◌&&◌, not, nat_lt, Bool, List, ◌++◌, filter, flat_map, map}
use Rattle.std.specs.List.{list_any}
use Rattle.mxf_klv.specs.Parts.{NoteParts}
use Rattle.mxf_klv.specs.Note.{end_of}
use Rattle.mxf_catalogue.specs.Content.{reduced_union}
use Rattle.mxf_restore.specs.Sections.{sections_of}
use Rattle.mxf_restore.specs.declared.section.Section.{Section}
use Rattle.mxf_hand.specs.Hand.{HandBytes}
use Rattle.mxf_hand.specs.declared.found.CutHead.{CutHead}
use Rattle.mxf_hand.specs.Sections.{ends_within, heads_of, made_of, packets_of}

-- The packets that are read of sections.
abbrev pub packets_in : HandBytes → List NoteParts → List Section → List NoteParts
packets_in h notes sections = flat_map (packets_of h notes) sections

-- The packets that are made of heads of sections.
abbrev pub made_in : HandBytes → List NoteParts → List Section → List NoteParts
made_in h notes sections = flat_map (made_of h notes) sections

-- The heads that are read of a section.
abbrev pub read_heads_of : HandBytes → List NoteParts → Section → List CutHead
read_heads_of h notes p = map (λ n. record { note = n; hole_end = p.hole.end }) (heads_of h notes p)

abbrev pub read_heads_in : HandBytes → List NoteParts → List Section → List CutHead
read_heads_in h notes sections = flat_map (read_heads_of h notes) sections

-- One of the notes begins after the head's offset and below its end.
abbrev pub is_crossed : List NoteParts → NoteParts → Bool
is_crossed read n = list_any (λ m. nat_lt n.offset m.offset && nat_lt m.offset (end_of n)) read

-- A head is taken if it ends in its hole, and nothing that was read begins inside its packet. (What the same reading
-- noted begins at or below its offset.)
abbrev pub is_taken : List NoteParts → CutHead → Bool
is_taken read head = ends_within head.hole_end head.note && not (is_crossed read head.note)

-- All notes that are read of sections.
abbrev pub read_in : HandBytes → List NoteParts → List Section → List NoteParts
read_in h notes sections =
    packets_in h notes sections ++ map (λ head. head.note) (read_heads_in h notes sections)

-- The heads that are taken.
abbrev pub heads_taken : HandBytes → List NoteParts → List Section → List NoteParts
heads_taken h notes sections =
    map (λ head. head.note) (filter (is_taken (read_in h notes sections)) (read_heads_in h notes sections))

-- All that is put together of sections.
abbrev pub taken_in : HandBytes → List NoteParts → List Section → List NoteParts
taken_in h notes sections =
    packets_in h notes sections ++ (made_in h notes sections ++ heads_taken h notes sections)

-- The content after one round.
unfoldable pub round : HandBytes → List NoteParts → List NoteParts
round h notes = reduced_union notes (taken_in h notes (sections_of notes))

-- The content after a number of rounds.
unfoldable pub rounds : ℕ → HandBytes → List NoteParts → List NoteParts
rounds zero h notes = notes
rounds (suc count) h notes = rounds count h (round h notes)

-- The content that is put together of another and the bytes at hand: after 64 rounds.
unfoldable pub put_together : HandBytes → List NoteParts → List NoteParts
put_together h notes = rounds 64 h notes
