-- What is ordered of a section, sentence by sentence (this project's profile).
use Rattle.std.specs.Prelude.{◌≡◌, ◌↔◌, ◌≢◌, ℕ, ◌+◌, ◌<◌, ◌≤◌, ◌⊎◌, true, false, IsTrue, IsSome, Option, None, Some}
use Rattle.std.specs.Prelude.{List}
use Rattle.mxf_klv.specs.Parts.{NoteParts}
use Rattle.mxf_klv.specs.Note.{covered_end, end_of}
use Rattle.mxf_klv.specs.Rising.{In}
use Rattle.mxf_catalogue.specs.Runs.{LiesIn}
use Rattle.mxf_places.specs.AtHand.{AtHandParts, IsEdge, IsLacking, up_to_bound}
use Rattle.mxf_places.specs.declared.at_hand.OffsetRange.{OffsetRange}
use Rattle.mxf_places.specs.FirstClaims.{IsFirstClaim, SpeaksOf}
use Rattle.mxf_places.specs.Named.{IsClaim}
use Rattle.mxf_places.specs.declared.claim.Claim.{Claim}
use Rattle.mxf_places.specs.declared.reason.Reason.{Reason}
use Rattle.mxf_places.specs.declared.reason.Reason.TheVariants.{Gap}
use Rattle.mxf_restore.specs.EndPacks.{HasEndPack}
use Rattle.mxf_restore.specs.Sections.{sections_of}
use Rattle.mxf_restore.specs.declared.section.Section.{Section}
use Rattle.mxf_restore.specs.declared.plan.Order.{Order}

-- A head begins at an offset, and its key and length end at another.
pub record IsHeadTo (notes : List NoteParts) (start end : ℕ) (n : NoteParts) : Type 0 where
  pub held : In n notes
  pub head : n.whole ≡ false
  pub begins : n.offset ≡ start
  pub ends : covered_end n ≡ end

-- Where the packet begins whose rest is a section with this first byte: the least offset of a head whose key and length
-- end there; the byte itself if there is none.
abbrev pub IsStartOf : List NoteParts → ℕ → ℕ → Type 0
IsStartOf notes first start =
    ((n : NoteParts) × IsHeadTo notes start first n
    × ((x : ℕ) (m : NoteParts) → IsHeadTo notes x first m → start ≤ x))
    ⊎ ((start ≡ first) × ((x : ℕ) (m : NoteParts) → IsHeadTo notes x first m → ⊥))

-- Why the bytes at an offset are restored, and which pack says so: what the first claim of the offset says; if none
-- speaks of it, they are a gap, and no pack says so.
abbrev pub IsSaid : List NoteParts → ℕ → Reason → Option ℕ → Type 0
IsSaid notes x reason source =
    ((c : Claim) × IsFirstClaim notes x c × (reason ≡ c.reason) × (source ≡ c.source))
    ⊎ (((c : Claim) → IsClaim notes c → SpeaksOf c x → ⊥) × (reason ≡ Gap) × (source ≡ None))

-- The first claim of the offset is open.
abbrev pub IsOpenAt : List NoteParts → ℕ → Type 0
IsOpenAt notes x = (c : Claim) × IsFirstClaim notes x c × (c.is_open ≡ true)

-- A section without an end reaches up to the edge of the file: a packet ends above its first byte, or as many bytes lie
-- from there up to the edge as key and length of a packet can have; and the first claim of its start isn't open.
pub record ReachesUpTo (at : AtHandParts) (notes : List NoteParts) (first start edge : ℕ) : Type 0 where
  pub is_edge : IsEdge at notes edge
  pub far : ((n : NoteParts) × In n notes × (first < end_of n)) ⊎ (first + 25 ≤ edge)
  pub closed : IsOpenAt notes start → ⊥

-- Where a section ends: at its own end or, if it has none, at the edge that it reaches up to. It ends nowhere if it
-- reaches up to none.
abbrev pub IsSectionEnd : AtHandParts → List NoteParts → Section → ℕ → Option ℕ → Type 0
IsSectionEnd at notes p start (Some end) =
    (p.end ≡ Some end) ⊎ ((p.end ≡ None) × ReachesUpTo at notes p.first start end)
IsSectionEnd at notes p start None =
    (p.end ≡ None) × ((edge : ℕ) → ReachesUpTo at notes p.first start edge → ⊥)

-- Up to where bytes are asked for: the end of the section, or where the packets of the heads end, if that is greater,
-- but no more than the end of the hole.
pub record IsAskedUpTo (at : AtHandParts) (notes : List NoteParts) (p : Section) (start end : ℕ) : Type 0 where
  pub section_end : ℕ
  pub is_section_end : IsSectionEnd at notes p start (Some section_end)
  pub section : section_end ≤ end
  pub packets : (n : NoteParts) → IsHeadTo notes start p.first n → up_to_bound (end_of n) p.hole.end ≤ end
  pub reached : (section_end ≡ end)
      ⊎ ((n : NoteParts) × IsHeadTo notes start p.first n × (up_to_bound (end_of n) p.hole.end ≡ end))

-- The same, or none if the section ends nowhere.
abbrev pub IsAskedEnd : AtHandParts → List NoteParts → Section → ℕ → Option ℕ → Type 0
IsAskedEnd at notes p start (Some end) = IsAskedUpTo at notes p start end
IsAskedEnd at notes p start None = IsSectionEnd at notes p start None

-- What is asked for of a section, be it at hand or not. A section without an end that no pack claims is asked for
-- unless a pack is held that stands at the end of a file alone: nothing says that a byte lies there, and nothing says
-- that none does.
pub record IsAsked (at : AtHandParts) (notes : List NoteParts) (p : Section) (o : Order) : Type 0 where
  pub start : IsStartOf notes p.first o.start
  pub said : IsSaid notes o.start o.reason o.source
  pub end : IsAskedEnd at notes p o.start o.end
  pub known : o.reason ≡ Gap → IsSome o.end ⊎ ¬ HasEndPack notes
  pub from_start : o.inside ≡ false
  pub new : o.again ≡ false

-- A packet is ordered from its first byte on: no head has that byte, so that what is at hand there was read and doesn't
-- do; or a head has key and length, and the first byte of the rest isn't at hand.
abbrev pub IsWholeNeeded : AtHandParts → Section → ℕ → Type 0
IsWholeNeeded at p start = (start ≡ p.first) ⊎ (LiesIn at.hand p.first → ⊥)

-- One of the maximal ranges of what is asked for that aren't at hand, and none lies before it.
abbrev pub IsLackingIn : AtHandParts → Section → Order → OffsetRange → Type 0
IsLackingIn at p o r = IsLacking at.hand p.first o.end r

abbrev pub IsFirstLacking : AtHandParts → Section → Order → OffsetRange → Type 0
IsFirstLacking at p o r =
    IsLackingIn at p o r × ((q : OffsetRange) → IsLackingIn at p o q → r.start ≤ q.start)

-- A part of what is asked for of a section: all of that if nothing of it is lacking, otherwise a range that is lacking
-- and begins before the section ends. The first of them goes from the start of the packet on if that is needed whole.
abbrev pub IsPart : AtHandParts → Section → Order → ℕ → Option ℕ → Type 0
IsPart at p o start end =
    (((r : OffsetRange) → IsLackingIn at p o r → ⊥) × (start ≡ o.start) × (end ≡ o.end))
    ⊎ ((r : OffsetRange) × IsLackingIn at p o r × (end ≡ r.end)
    × ((IsFirstLacking at p o r × IsWholeNeeded at p o.start × (start ≡ o.start))
    ⊎ (((IsFirstLacking at p o r × IsWholeNeeded at p o.start) → ⊥) × (start ≡ r.start)))
    × ((bound : ℕ) → p.end ≡ Some bound → start < bound))

-- The bytes were handed in and don't do: all of them are given. If the end isn't known, as many are at hand as key and
-- length of a packet can have.
abbrev pub WasHandedIn : AtHandParts → ℕ → Option ℕ → Type 0
WasHandedIn at start (Some end) = (x : ℕ) → start ≤ x → x < end → LiesIn at.given x
WasHandedIn at start None = (x : ℕ) → start ≤ x → x < start + 25 → LiesIn at.hand x

-- An order of a section.
pub record IsOrder (at : AtHandParts) (notes : List NoteParts) (p : Section) (o : Order) : Type 0 where
  pub asked : Order
  pub is_asked : IsAsked at notes p asked
  pub part : IsPart at p asked o.start o.end
  pub reason : o.reason ≡ asked.reason
  pub source : o.source ≡ asked.source
  pub inside : IsTrue o.inside ↔ (o.start ≢ asked.start)
  pub again : IsTrue o.again ↔ WasHandedIn at o.start o.end

-- The last piece of a file: a section without an end. No pack speaks of the start of its packet, and of the file it
-- isn't known that it reaches so far.
pub record IsLastPiece (at : AtHandParts) (notes : List NoteParts) (p : Section) : Type 0 where
  pub held : In p (sections_of notes)
  pub endless : p.end ≡ None
  pub start : ℕ
  pub is_start : IsStartOf notes p.first start
  pub unclaimed : (c : Claim) → IsClaim notes c → ¬ SpeaksOf c start
  pub unreached : (edge : ℕ) → ¬ ReachesUpTo at notes p.first start edge
