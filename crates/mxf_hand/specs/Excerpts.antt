-- What is left of sources where a skim doesn't compare the values of a container's packets (this project's profile).
use Rattle.std.specs.Prelude.{◌≡◌, ◌↔◌, ◌⊎◌, ◌<◌, ◌≤◌, ℕ, ◌+◌, ◌-◌, List, [], ◌∷◌, false, length, true, slice_get, Some}
use Rattle.mxf_klv.specs.Note.{end_of}
use Rattle.mxf_klv.specs.Parts.{NoteParts}
use Rattle.mxf_klv.specs.Rising.{In}
use Rattle.mxf_catalogue.specs.declared.run.Run.{Run}
use Rattle.mxf_catalogue.specs.Runs.{LiesIn}
use Rattle.mxf_skim.specs.PassedOver.{is_of_container}
use Rattle.mxf_skim.specs.declared.scan.Scan.{Scan}
use Rattle.mxf_skim.specs.declared.scan.Scan.TheVariants.{Skim}
use Rattle.mxf_hand.specs.Given.{Gives, SourceParts}
use Rattle.mxf_hand.specs.Places.{LiesInExtent}
use Rattle.mxf_hand.specs.declared.given.Extent.{Extent}
use Rattle.mxf_hand.specs.declared.given.excerpt.Excerpt.{Excerpt}

-- ---- which offsets aren't compared

-- The offset lies in the value of the note's packet.
pub record LiesInValue (n : NoteParts) (x : ℕ) : Type 0 where
  pub from : n.offset + 16 + n.width ≤ x
  pub before : x < end_of n

-- It does, and so do the 511 offsets below and the 511 above.
pub record LiesInside (n : NoteParts) (x : ℕ) : Type 0 where
  pub from : n.offset + 16 + n.width + 511 ≤ x
  pub before : x + 511 < end_of n

-- The offset lies in the note's packet.
pub record LiesInPacket (n : NoteParts) (x : ℕ) : Type 0 where
  pub from : n.offset ≤ x
  pub before : x < end_of n

-- It does, or lies at most 511 below or above.
pub record LiesAround (n : NoteParts) (x : ℕ) : Type 0 where
  pub from : n.offset ≤ x + 511
  pub before : x < end_of n + 511

-- The offset isn't compared: it lies inside the value of a container's packet that is held, and not around a packet of
-- which a head alone is held.
pub record IsPassed (notes : List NoteParts) (x : ℕ) : Type 0 where
  pub note : NoteParts
  pub held : In note notes
  pub container : is_of_container note ≡ true
  pub inside : LiesInside note x
  pub apart : (head : NoteParts) → In head notes → head.whole ≡ false → ¬ LiesAround head x

-- The offset may be asked for: it lies in no value of a container's packet that is held, or in a packet of which a head
-- alone is held.
abbrev pub MayBeAsked : List NoteParts → ℕ → Type 0
MayBeAsked notes x =
    ((n : NoteParts) → In n notes → is_of_container n ≡ true → ¬ LiesInValue n x)
    ⊎ ((head : NoteParts) × In head notes × (head.whole ≡ false) × LiesInPacket head x)

-- The runs have the offsets that a scan doesn't compare: a reading compares all.
abbrev pub ArePassed : Scan → List NoteParts → List Run → Type 0
ArePassed scan notes runs = (x : ℕ) → LiesIn runs x ↔ ((scan ≡ Skim) × IsPassed notes x)

-- ---- excerpts

-- The excerpt lies in the extent of its source, one of the first `count`.
pub record IsExcerptOf (extents : List Extent) (count : ℕ) (e : Excerpt) : Type 0 where
  pub own : Extent
  pub is : slice_get extents e.source ≡ Some own
  pub early : e.source < count
  pub within : (x : ℕ) → LiesInExtent e.extent x → LiesInExtent own x

-- The offset is one of the source with this number, one of the first `count`.
pub record IsOffsetOf (extents : List Extent) (count number x : ℕ) : Type 0 where
  pub own : Extent
  pub is : slice_get extents number ≡ Some own
  pub early : number < count
  pub lies : LiesInExtent own x

-- The excerpts of the first `count` sources: what one of these gives lies in one of them, and in one of its own unless
-- it isn't compared; and what isn't compared lies in excerpts of one source alone.
pub record AreExcerpts (passed : List Run) (extents : List Extent) (count : ℕ) (excerpts : List Excerpt) : Type 0 where
  pub within : (e : Excerpt) → In e excerpts → IsExcerptOf extents count e
  pub given : (number x : ℕ) → IsOffsetOf extents count number x
      → (e : Excerpt) × In e excerpts × LiesInExtent e.extent x
  pub left : (number x : ℕ) → IsOffsetOf extents count number x → ¬ LiesIn passed x
      → (e : Excerpt) × In e excerpts × (e.source ≡ number) × LiesInExtent e.extent x
  pub once : (e f : Excerpt) (x : ℕ) → In e excerpts → In f excerpts → LiesInExtent e.extent x
      → LiesInExtent f.extent x → LiesIn passed x → e.source ≡ f.source

-- The excerpt has the offsets of the run, of the source with this number.
pub record IsOfRun (source : ℕ) (r : Run) (e : Excerpt) : Type 0 where
  pub number : e.source ≡ source
  pub offset : e.extent.offset ≡ r.start
  pub size : e.extent.size ≡ r.end - r.start

-- Excerpts with one more of a source for each run.
pub record HaveMore (source : ℕ) (runs : List Run) (old new : List Excerpt) : Type 0 where
  pub kept : (e : Excerpt) → In e old → In e new
  pub come : (e : Excerpt) → In e new → In e old ⊎ ((r : Run) × In r runs × IsOfRun source r e)
  pub there : (r : Run) → In r runs → (e : Excerpt) × In e new × IsOfRun source r e

-- The excerpts of all sources, beside a content and by a scan.
pub record AreExcerptsBeside (scan : Scan) (notes : List NoteParts) (extents : List Extent) (excerpts : List Excerpt)
    : Type 0 where
  pub passed : List Run
  pub are_passed : ArePassed scan notes passed
  pub are : AreExcerpts passed extents (length extents) excerpts

-- The excerpts as sources: each has the bytes that its source gives there.
abbrev pub HaveBytes : List SourceParts → List SourceParts → List Excerpt → Type 0
HaveBytes sources [] [] = Unit {0}
HaveBytes sources [] (e ∷ excerpts) = ⊥
HaveBytes sources (p ∷ parts) [] = ⊥
HaveBytes sources (p ∷ parts) (e ∷ excerpts) =
    ((s : SourceParts) × (slice_get sources e.source ≡ Some s)
    × ((x byte : ℕ) → Gives p x byte ↔ (LiesInExtent e.extent x × Gives s x byte)))
    × HaveBytes sources parts excerpts
