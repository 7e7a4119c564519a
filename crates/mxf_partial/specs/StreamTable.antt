-- What is known of where streams lie, as tables that are searched (this project's profile).
use Rattle.std.specs.Prelude.{◌≡◌, ◌≢◌, ◌↔◌, ℕ, Option, None, Some, List}
use Rattle.mxf_klv.specs.Parts.{NoteParts}
use Rattle.mxf_klv.specs.Rising.{In}
use Rattle.mxf_views.specs.RandomIndex.{RipAtParts}
use Rattle.mxf_views.specs.RandomIndexView.{rip_view_of}
use Rattle.mxf_views.specs.declared.random_index.RipView.TheVariants.{One}
use Rattle.mxf_units.specs.EssenceZones.{parts_of}
use Rattle.mxf_units.specs.Units.{UnitsParts}
use Rattle.mxf_units.specs.declared.essence_zone.part.StreamPart.{StreamPart}
use Rattle.mxf_partial.specs.Greatest.{AreGreatest}
use Rattle.mxf_partial.specs.InStreams.{IsInOrder}
use Rattle.mxf_partial.specs.Streams.{origin_of}
use Rattle.mxf_partial.specs.declared.streams.PartStart.{PartStart}
use Rattle.mxf_partial.specs.declared.streams.Streams.{Streams}

-- Where a part of a stream begins, and where its bytes lie.
abbrev pub start_of : StreamPart → PartStart
start_of p =
    record { body_sid = p.body_sid; body_offset = p.body_offset; partition = p.partition; origin = origin_of p }

-- Two parts that stand at one file offset are one.
abbrev pub PartsDiffer : List NoteParts → Type 0
PartsDiffer notes =
    (p q : StreamPart) → In p (parts_of notes) → In q (parts_of notes) → p.partition ≡ q.partition → p ≡ q

-- All parts of streams, by stream, offset and file offset.
pub record AreStarts (notes : List NoteParts) (starts : List PartStart) : Type 0 where
  pub order : IsInOrder (λ s. s.body_sid) (λ s. s.body_offset) (λ s. s.partition) starts
  pub members : (s : PartStart) → In s starts ↔ ((p : StreamPart) × In p (parts_of notes) × (s ≡ start_of p))

-- Where the only readable random index pack stands.
abbrev pub IsRipOffset : List NoteParts → Option ℕ → Type 0
IsRipOffset notes None = (r : RipAtParts) → rip_view_of notes ≢ One r
IsRipOffset notes (Some offset) = (r : RipAtParts) × (rip_view_of notes ≡ One r) × (r.offset ≡ offset)

pub record AreStreams (u : UnitsParts) (streams : Streams) : Type 0 where
  pub differ : PartsDiffer u.known.notes
  pub starts : AreStarts u.known.notes streams.starts.items
  pub greatest : AreGreatest u streams.greatest.items
  pub rip : IsRipOffset u.known.notes streams.rip
