-- What a round takes, sentence by sentence (this project's profile).
use Rattle.std.specs.Prelude.{◌≡◌, ◌⊎◌, ◌<◌, ◌≤◌, ℕ, ◌+◌, ◌-◌, List, Some, get_or}
use Rattle.mxf_klv.specs.Note.{covered_end, end_of}
use Rattle.mxf_klv.specs.Parts.{NoteParts}
use Rattle.mxf_klv.specs.Rising.{In}
use Rattle.mxf_catalogue.specs.Runs.{LiesIn}
use Rattle.mxf_places.specs.Heads.{key_and_length}
use Rattle.mxf_restore.specs.Orders.{IsHeadTo, IsStartOf}
use Rattle.mxf_restore.specs.Sections.{sections_of}
use Rattle.mxf_restore.specs.declared.section.Section.{Section}
use Rattle.mxf_hand.specs.Hand.{HandBytes, packet_of, read_heads, read_packets}

-- Each byte at hand of the note's key and length is what the note says.
abbrev pub AgreesWith : HandBytes → NoteParts → Type 0
AgreesWith h n = (x : ℕ) → n.offset ≤ x → x < n.offset + (16 + n.width) → LiesIn h.runs x
    → h.byte x ≡ get_or (key_and_length n) (x - n.offset) 0

module _ (h : HandBytes) (notes : List NoteParts) (p : Section) where
  -- A head has the packet whose rest is the section, and no byte at hand says otherwise.
  pub record Fits (n : NoteParts) : Type 0 where
    pub start : IsStartOf notes p.first n.offset
    pub head : IsHeadTo notes n.offset p.first n
    pub agrees : AgreesWith h n

  -- It is the only one.
  pub record IsTheFit (n : NoteParts) : Type 0 where
    pub fits : Fits n
    pub only : (m : NoteParts) → Fits m → m ≡ n

  -- Where the section is read from: where the packet of that head ends; or, if none fits, where the packet begins whose
  -- rest the section is.
  abbrev pub IsReadFrom : ℕ → Type 0
  IsReadFrom from =
      ((n : NoteParts) × IsTheFit n × (from ≡ end_of n))
      ⊎ (((n : NoteParts) → ¬ Fits n) × IsStartOf notes p.first from)

  -- It is read of the section: the note of a whole packet, or the head of the packet that its end cuts.
  abbrev pub IsPacketRead : NoteParts → Type 0
  IsPacketRead n = (from : ℕ) × IsReadFrom from × In n (read_packets h p.end from)

  abbrev pub IsHeadRead : NoteParts → Type 0
  IsHeadRead n = (from : ℕ) × IsReadFrom from × In n (read_heads h p.end from)

  -- The packet of the note ends in the hole of the section.
  abbrev pub EndsInHole : NoteParts → Type 0
  EndsInHole n = (e : ℕ) → p.hole.end ≡ Some e → end_of n ≤ e

  -- It is the packet of the one head that fits: its value has a byte, all of it is at hand, and it ends in the hole.
  pub record IsMade (n : NoteParts) : Type 0 where
    pub head : NoteParts
    pub one : IsTheFit head
    pub some : 0 < head.length
    pub value : (x : ℕ) → covered_end head ≤ x → x < end_of head → LiesIn h.runs x
    pub ends : EndsInHole head
    pub is : n ≡ packet_of h head

module _ (h : HandBytes) (notes : List NoteParts) where
  -- The note is read in this round.
  abbrev pub IsReadInRound : NoteParts → Type 0
  IsReadInRound n = (p : Section) × In p (sections_of notes) × (IsPacketRead h notes p n ⊎ IsHeadRead h notes p n)

  -- It is a head that is read, its packet ends in the hole, and nothing that is read in this round begins inside of that.
  pub record IsHeadTaken (p : Section) (n : NoteParts) : Type 0 where
    pub read : IsHeadRead h notes p n
    pub ends : EndsInHole h notes p n
    pub free : (m : NoteParts) → IsReadInRound m → n.offset < m.offset → m.offset < end_of n → ⊥

  -- It is taken of a section: a packet that is read or made, or a head.
  abbrev pub IsTaken : NoteParts → Type 0
  IsTaken n = (p : Section) × In p (sections_of notes)
      × (IsPacketRead h notes p n ⊎ (IsMade h notes p n ⊎ IsHeadTaken p n))
