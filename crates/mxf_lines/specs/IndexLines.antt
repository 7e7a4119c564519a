-- The lines of index table segments, of places, and of the random index pack (this project's profile; the fields are
-- those of ST 377-1, Index Table Segment and Random Index Pack).
use Rattle.std.specs.Prelude.{ℕ, List, [], ◌∷◌, ◌++◌, codes, flat_map}
use Rattle.std.specs.Fmt.{signed_decimal}
use Rattle.mxf_sets.specs.Segment.{entry_count}
use Rattle.mxf_sets.specs.declared.segment.numbers.SegmentNumbers.{SegmentNumbers}
use Rattle.mxf_views.specs.Places.{SegmentAtParts}
use Rattle.mxf_views.specs.Words.{standing_name}
use Rattle.mxf_views.specs.declared.index.place.Place.{Place}
use Rattle.mxf_views.specs.declared.index.place.Place.TheVariants.{NotIndexed, At, Ambiguous}
use Rattle.mxf_views.specs.declared.random_index.RipView.{RipView}
use Rattle.mxf_views.specs.declared.random_index.RipView.TheVariants.{Absent, Several, Unreadable, One}
use Rattle.mxf_views.specs.declared.random_index.Standing.{Standing}
use Rattle.mxf_sets.specs.declared.pack.random_index.RipEntry.{RipEntry}
use Rattle.mxf_forms.specs.Forms.{Field, Fixed, PrintedLine, digits, field, line, line_of, number, number_member, word}

-- Which index and which essence stream a segment is of, and its edit rate.
abbrev pub stream_fields : SegmentNumbers → List Field
stream_fields n =
    number " index-sid " "index-sid" n.index_sid ∷ number " body-sid " "body-sid" n.body_sid
    ∷ digits " rate " "rate" (signed_decimal n.edit_rate.0) ∷ digits "/" "base" (signed_decimal n.edit_rate.1) ∷ []

-- The edit units of a segment, the bytes of each, and how many entries there are.
abbrev pub unit_fields : SegmentNumbers → ℕ → List Field
unit_fields n entries =
    digits " start " "start" (signed_decimal n.start) ∷ digits " duration " "duration" (signed_decimal n.duration)
    ∷ number " unit-bytes " "unit-bytes" n.unit_bytes ∷ number " entries " "entries" entries ∷ []

-- The line of an index table segment: its offset, its numbers, and how many entries it has.
unfoldable pub segment_line : SegmentAtParts → PrintedLine
segment_line s =
    line "segment" (number " " "offset" s.offset ∷ (stream_fields s.segment.numbers
    ++ unit_fields s.segment.numbers (entry_count s.segment)))

-- The line of the places of an edit unit: none, the one, or the two least.
unfoldable pub place_line : Place → PrintedLine
place_line NotIndexed =
    line_of (codes "place") (codes "not indexed") (field [] (codes "place") (Fixed (codes "not-indexed")) ∷ []) []
place_line (At body_sid offset) =
    line_of (codes "place") [] (word "" "place" (codes "at") ∷ number " " "body-sid" body_sid
    ∷ number " " "offset" offset ∷ []) []
place_line (Ambiguous p q) =
    line_of (codes "place") [] (word "" "place" (codes "ambiguous") ∷ number " " "body-sid" p.body_sid
    ∷ number " " "offset" p.offset ∷ number " " "second-body-sid" q.body_sid ∷ number " " "second-offset" q.offset ∷ []) []

-- What is known of the random index pack: none, several, one that can't be read, or its offset.
abbrev pub rip_fields : RipView → List Field
rip_fields Absent = word " " "standing" (codes "none") ∷ []
rip_fields Several = word " " "standing" (codes "several") ∷ []
rip_fields (Unreadable offset) = word " " "standing" (codes "unreadable") ∷ number " " "offset" offset ∷ []
rip_fields (One r) = field [] (codes "standing") (Fixed (codes "one")) ∷ number " " "offset" r.offset ∷ []

-- The line of the random index pack.
unfoldable pub rip_line : RipView → PrintedLine
rip_line view = line "rip" (rip_fields view)

-- The line of an entry: its BodySID, its offset, how it stands to the partitions, and in JSON the offset of the random
-- index pack that has it.
unfoldable pub rip_entry_line : ℕ → RipEntry → Standing → PrintedLine
rip_entry_line rip entry standing =
    line "rip-entry" (number " " "body-sid" entry.body_sid ∷ number " " "offset" entry.offset
    ∷ word " " "standing" (standing_name standing) ∷ number_member "rip" rip ∷ [])

-- A line for each entry of the random index pack at an offset.
abbrev pub rip_entry_lines : ℕ → List (RipEntry × Standing) → List PrintedLine
rip_entry_lines rip entries = flat_map (λ e. rip_entry_line rip e.0 e.1 ∷ []) entries

-- The lines of the entries of the random index pack, none without one that can be read.
abbrev pub entry_lines_in : RipView → List PrintedLine
entry_lines_in (One r) = rip_entry_lines r.offset r.entries
entry_lines_in _ = []

-- The lines of the random index pack: its own, and one for each entry.
abbrev pub rip_lines : RipView → List PrintedLine
rip_lines view = rip_line view ∷ entry_lines_in view
