-- Notes as a scan makes them stand as those of a reading do.
use Rattle.mxf_views.proofs.Common.{◌≡◌, ◌∙◌, ℕ, Bool, true, false, if◌then◌else◌, List, [], ap, refl, sym}
use Rattle.mxf_views.proofs.Common.{length, NoteParts, end_of, note_of, packet_parts}
use Rattle.mxf_views.proofs.Common.{In, In-map}
use Rattle.mxf_klv.specs.Parts.{note_parts}
use Rattle.mxf_skim.specs.PassedOver.{is_of_container, no_digest, noted_by, passed_note, skimmed}
use Rattle.mxf_skim.specs.declared.scan.Scan.{Scan}
use Rattle.mxf_skim.specs.declared.scan.Scan.TheVariants.{Full, Skim}
use Rattle.mxf_read.specs.ValueSoFar.{noted_if, passes}
use Rattle.mxf_read.proofs.Scans.{noted_none, skimmed_end}

-- A scan notes nothing where a reading does.
pub none_noted : (scan : Scan) (notes : List NoteParts) → notes ≡ [] → noted_by scan notes ≡ []
none_noted scan notes none = ap (noted_by scan) none ∙ noted_none scan

-- A note of a packet that is passed over begins where the packet does.
skimmed_offset : (n : NoteParts) → (skimmed n).offset ≡ n.offset
skimmed_offset n = elim (is_of_container n) as (λ b. (if b then passed_note n else n).offset ≡ n.offset) [
  | true ↦ refl
  | false ↦ refl
]

-- A note of a reading stands where this one does.
pub record StandsFor (n : NoteParts) (notes : List NoteParts) : Type 0 where
  pub read : NoteParts
  pub there : In read notes
  pub offset : n.offset ≡ read.offset
  pub end : end_of n ≡ end_of read

pub stands_for : (scan : Scan) (notes : List NoteParts) (n : NoteParts) → In n (noted_by scan notes)
    → StandsFor n notes
stands_for Full notes n i = record { read = n; there = i; offset = refl; end = refl }
stands_for Skim notes n i =
    let m = (In-map skimmed notes n).0 i in
    record {
      read = m.0;
      there = m.1;
      offset = ap (λ (x : NoteParts). x.offset) m.2 ∙ skimmed_offset m.0;
      end = ap end_of m.2 ∙ skimmed_end m.0;
    }

-- Where all values are read, the notes are those of a reading.
pub full_notes : (scan : Scan) (notes : List NoteParts) → scan ≡ Full → noted_by scan notes ≡ notes
full_notes scan notes full = ap (λ (s : Scan). noted_by s notes) full

-- Nor is the packet of a head passed over.
pub full_packet : (scan : Scan) (key : List ℕ) (len : ℕ) (n : NoteParts) → scan ≡ Full
    → noted_if (passes scan key len) n ≡ n
full_packet scan key len n full = ap (λ (s : Scan). noted_if (passes s key len) n) full

-- The packet of a head begins where it does, passed over or not.
pub if_offset : (passing : Bool) (n : NoteParts) → (noted_if passing n).offset ≡ n.offset
if_offset true n = refl
if_offset false n = refl

-- The note of a packet that was passed over has the length of its value.
pub passed_packet : (scan : Scan) (offset : ℕ) (key : List ℕ) (width len : ℕ) (value : List ℕ) (n : NoteParts)
    → passes scan key len ≡ true → length value ≡ len → n ≡ note_parts offset key width len no_digest
    → n ≡ noted_if (passes scan key len) (note_of offset (packet_parts key width value))
passed_packet scan offset key width len value n passing size is =
    is ∙ ap (λ (k : ℕ). note_parts offset key width k no_digest) (sym size)
    ∙ ap (λ (b : Bool). noted_if b (note_of offset (packet_parts key width value))) (sym passing)
