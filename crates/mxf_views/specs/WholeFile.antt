-- If a content is the notes of a well-formed file, its views are those of the reading from the front (ST 377-1).
use Rattle.std.specs.Prelude.{◌≡◌, ℕ, List, [], None}
use Rattle.mxf_klv.specs.Parts.{PacketParts, NoteParts}
use Rattle.mxf_klv.specs.Piece.{notes_from}
use Rattle.mxf_catalogue.specs.Disputes.{disputed_notes}
use Rattle.mxf_views.specs.Copies.{copies_of, preferred_of, sets_of}
use Rattle.mxf_views.specs.Gaps.{gaps_of}
use Rattle.mxf_views.specs.Partitions.{chain_of, link_at, partitions_of}
use Rattle.mxf_views.specs.Places.{place_of, segments_of}
use Rattle.mxf_views.specs.RandomIndexView.{rip_view_of}
use Rattle.mxf_views.specs.Reading.{chain_read, copies_alone, copies_read, link_read_at, links_read, partitions_read}
use Rattle.mxf_views.specs.Reading.{place_read, preferred_read, rip_read, segments_read, sets_read}

-- The content is the notes of the file.
abbrev pub AreNotesOf : List NoteParts → List PacketParts → Type 0
AreNotesOf notes l = notes ≡ notes_from 0 l

-- No dispute and no gap; and the partitions, the link of each and their chain.
pub record HasPartitionsOf (notes : List NoteParts) (l : List PacketParts) : Type 0 where
  pub disputes : disputed_notes notes ≡ []
  pub gaps : gaps_of notes ≡ []
  pub partitions : partitions_of notes ≡ partitions_read 0 l
  pub links : (offset : ℕ)
      → link_at offset (partitions_of notes) ≡ link_read_at offset (links_read None (partitions_read 0 l))
  pub chain : chain_of notes ≡ chain_read (partitions_read 0 l)

-- The copies, the sets of each and the preferred one.
pub record HasCopiesOf (notes : List NoteParts) (l : List PacketParts) : Type 0 where
  pub copies : copies_of notes ≡ copies_alone (copies_read 0 l)
  pub sets : (offset : ℕ) → sets_of notes offset ≡ sets_read (copies_read 0 l) offset
  pub preferred : preferred_of (copies_of notes) ≡ preferred_read (copies_alone (copies_read 0 l))

-- The segments, and the place of each edit unit of each index.
pub record HasIndexOf (notes : List NoteParts) (l : List PacketParts) : Type 0 where
  pub segments : segments_of notes ≡ segments_read 0 l
  pub places : (index_sid unit : ℕ)
      → place_of (segments_of notes) index_sid unit ≡ place_read index_sid unit (segments_read 0 l)

-- What is known of the random index pack.
abbrev pub HasRandomIndexOf : List NoteParts → List PacketParts → Type 0
HasRandomIndexOf notes l = rip_view_of notes ≡ rip_read (partitions_read 0 l) 0 l
