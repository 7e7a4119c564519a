-- What of a section says more of where edit units lie, and so is restored first, sentence by sentence (footer
-- partitions, header metadata and index table segments are those of ST 377-1; what is restored first is this project's
-- profile).
use Rattle.std.specs.Prelude.{◌≡◌, ◌≢◌, ℕ, ◌<◌, ◌≤◌, true, false, List}
use Rattle.mxf_klv.specs.Parts.{NoteParts}
use Rattle.mxf_klv.specs.Rising.{In}
use Rattle.mxf_views.specs.Copies.{IsBest, copies_of}
use Rattle.mxf_views.specs.Partitions.{PartitionParts, partitions_of}
use Rattle.mxf_views.specs.declared.copy.CopyInfo.{CopyInfo}
use Rattle.mxf_places.specs.AtHand.{AtHandParts}
use Rattle.mxf_places.specs.Named.{AreMetadata, AreSegments, NamesFooter}
use Rattle.mxf_places.specs.declared.stretch.Stretch.{Stretch}
use Rattle.mxf_restore.specs.Fronts.{IsFront}
use Rattle.mxf_restore.specs.Orders.{IsOrder, IsStartOf}
use Rattle.mxf_restore.specs.Sections.{sections_of}
use Rattle.mxf_restore.specs.declared.section.Section.{Section}
use Rattle.mxf_restore.specs.declared.plan.Order.{Order}
use Rattle.mxf_units.specs.declared.standing.UnitStanding.TheVariants.{NotIndexed}
use Rattle.mxf_units.specs.declared.unit.EditUnit.{EditUnit}
use Rattle.mxf_partial.specs.Wanted.{WantedParts, hand_of, notes_of, wanted_units}

-- A partition pack names a footer partition at the offset.
abbrev pub IsFooterPlace : List NoteParts → ℕ → Type 0
IsFooterPlace notes x = (p : PartitionParts) × In p (partitions_of notes) × NamesFooter p x

-- The file doesn't begin at the offset, and no partition pack names a footer partition there.
pub record IsElsewhere (notes : List NoteParts) (x : ℕ) : Type 0 where
  pub within : x ≢ 0
  pub unnamed : ¬ IsFooterPlace notes x

-- The offset lies in the header metadata of a partition.
pub record LiesInMetadata (notes : List NoteParts) (x : ℕ) (p : PartitionParts) (s : Stretch) : Type 0 where
  pub held : In p (partitions_of notes)
  pub metadata : AreMetadata notes p s
  pub from : s.from ≤ x
  pub before : x < s.end

-- It lies in those of no partition before.
pub record LiesFirstInMetadata (notes : List NoteParts) (x : ℕ) (s : Stretch) : Type 0 where
  pub partition : PartitionParts
  pub lies : LiesInMetadata notes x partition s
  pub first : (p : PartitionParts) (t : Stretch) → LiesInMetadata notes x p t → partition.offset ≤ p.offset

-- The offset lies in the index table segments of a partition.
pub record LiesInSegments (notes : List NoteParts) (x : ℕ) (p : PartitionParts) (s : Stretch) : Type 0 where
  pub held : In p (partitions_of notes)
  pub segments : AreSegments notes p s
  pub from : s.from ≤ x
  pub before : x < s.end

-- What helps of a section by the place at which its packet begins. If the file begins there, it is the front. If a
-- footer partition does, it is all that is ordered. Of header metadata that aren't described yet it is all that is
-- ordered, if their end is known, and else the front. Of index table segments it is all that is ordered.
pub data HelpsAt (described : Type 0) (at : AtHandParts) (notes : List NoteParts) (p : Section) (x : ℕ) (o : Order)
    : Type 0 where
  Header : x ≡ 0 → IsFront at notes p o → HelpsAt described at notes p x o
  Footer : IsFooterPlace notes x → IsOrder at notes p o → HelpsAt described at notes p x o
  Metadata : IsElsewhere notes x → ¬ described → (s : Stretch) → LiesFirstInMetadata notes x s → s.is_open ≡ false
      → IsOrder at notes p o → HelpsAt described at notes p x o
  OpenMetadata : IsElsewhere notes x → ¬ described → (s : Stretch) → LiesFirstInMetadata notes x s
      → s.is_open ≡ true → IsFront at notes p o → HelpsAt described at notes p x o
  Index : IsElsewhere notes x → ((q : PartitionParts) (s : Stretch) → ¬ LiesInMetadata notes x q s)
      → (q : PartitionParts) → (s : Stretch) → LiesInSegments notes x q s → IsOrder at notes p o
      → HelpsAt described at notes p x o

-- The order is restored first of a section.
pub record Helps (described : Type 0) (at : AtHandParts) (notes : List NoteParts) (p : Section) (o : Order)
    : Type 0 where
  pub start : ℕ
  pub is_start : IsStartOf notes p.first start
  pub helps : HelpsAt described at notes p start o

-- The preferred copy of the header metadata is finished, and each wanted unit is indexed.
pub record AreDescribed (w : WantedParts) : Type 0 where
  pub copy : CopyInfo
  pub preferred : IsBest (copies_of (notes_of w)) copy
  pub finished : copy.finished ≡ true
  pub indexed : (u : EditUnit) → In u (wanted_units w) → u.standing ≢ NotIndexed

-- The order is restored first for the wanted units, of some section.
pub record HelpsUnits (w : WantedParts) (o : Order) : Type 0 where
  pub section : Section
  pub among : In section (sections_of (notes_of w))
  pub helps : Helps (AreDescribed w) (hand_of w) (notes_of w) section o
