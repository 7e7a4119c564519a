-- The partitions of a stream in their order, and between which file offsets an offset of the stream can lie (ST 377-1,
-- BodyOffset and Random Index Pack; that stream bytes lie in the file in their order is this project's profile).
use Rattle.std.specs.Prelude.{◌≡◌, ◌≢◌, ℕ, ◌+◌, ◌-◌, ◌<◌, ◌≤◌, ◌⊎◌, Option, None, Some, List}
use Rattle.std.specs.Option.{option_map_or}
use Rattle.mxf_klv.specs.Parts.{NoteParts}
use Rattle.mxf_klv.specs.Rising.{In}
use Rattle.mxf_sets.specs.Offset.{stream_offset}
use Rattle.mxf_views.specs.Places.{SegmentAtParts}
use Rattle.mxf_views.specs.RandomIndex.{RipAtParts}
use Rattle.mxf_views.specs.RandomIndexView.{rip_view_of}
use Rattle.mxf_views.specs.declared.random_index.RipView.TheVariants.{One}
use Rattle.mxf_units.specs.EssenceZones.{parts_of}
use Rattle.mxf_units.specs.LastUnits.{IsEndless}
use Rattle.mxf_units.specs.Streams.{segments_for}
use Rattle.mxf_units.specs.Units.{UnitsParts}
use Rattle.mxf_units.specs.declared.essence_zone.part.StreamPart.{StreamPart}

-- A partition of the stream.
pub record IsPart (notes : List NoteParts) (body_sid : ℕ) (p : StreamPart) : Type 0 where
  pub part : In p (parts_of notes)
  pub body : p.body_sid ≡ body_sid

-- By BodyOffset, and then by where the partition stands, one goes before another or is it.
abbrev pub GoesUpTo : StreamPart → StreamPart → Type 0
GoesUpTo p q =
    (p.body_offset < q.body_offset) ⊎ ((p.body_offset ≡ q.body_offset) × (p.partition ≤ q.partition))

-- The last partition of a stream that begins at or below an offset of that.
pub record IsPartAt (notes : List NoteParts) (body_sid offset : ℕ) (p : StreamPart) : Type 0 where
  pub part : IsPart notes body_sid p
  pub begins : p.body_offset ≤ offset
  pub last : (q : StreamPart) → IsPart notes body_sid q → q.body_offset ≤ offset → GoesUpTo q p

abbrev pub HasNoPartAt : List NoteParts → ℕ → ℕ → Type 0
HasNoPartAt notes body_sid offset = (p : StreamPart) → IsPart notes body_sid p → offset < p.body_offset

-- The first partition of a stream that begins after an offset of that.
pub record IsPartBehind (notes : List NoteParts) (body_sid offset : ℕ) (p : StreamPart) : Type 0 where
  pub part : IsPart notes body_sid p
  pub behind : offset < p.body_offset
  pub first : (q : StreamPart) → IsPart notes body_sid q → offset < q.body_offset → GoesUpTo p q

abbrev pub HasNoPartBehind : List NoteParts → ℕ → ℕ → Type 0
HasNoPartBehind notes body_sid offset = (p : StreamPart) → IsPart notes body_sid p → p.body_offset ≤ offset

-- Where the bytes of a partition lie that its BodyOffset counts from; where the partition stands, as long as that isn't
-- known.
abbrev pub origin_of : StreamPart → ℕ
origin_of p = option_map_or (λ z. z.origin) p.zone p.partition

-- The file offset below which an offset of a stream can't lie.
abbrev pub IsLow : List NoteParts → ℕ → ℕ → ℕ → Type 0
IsLow notes body_sid offset low =
    (HasNoPartAt notes body_sid offset × (low ≡ 0))
    ⊎ ((p : StreamPart) × IsPartAt notes body_sid offset p × (low ≡ origin_of p + (offset - p.body_offset)))

-- A segment of the index that ends gives some unit this offset of the stream.
pub record IsEndingPlace (u : UnitsParts) (body_sid offset : ℕ) : Type 0 where
  pub by : SegmentAtParts
  pub held : In by (segments_for u.known.notes u.index_sid)
  pub body : by.segment.numbers.body_sid ≡ body_sid
  pub ends : ¬ IsEndless by.segment
  pub unit : ℕ
  pub given : stream_offset by.segment unit ≡ Some offset

-- The greatest offset of the stream that these give, and an offset that it is no less than.
pub record IsGreatestOffset (u : UnitsParts) (body_sid offset greatest : ℕ) : Type 0 where
  pub some : (greatest ≡ offset) ⊎ IsEndingPlace u body_sid greatest
  pub above : offset ≤ greatest
  pub greatest_is : (x : ℕ) → IsEndingPlace u body_sid x → x ≤ greatest

-- The file offset below which an offset of a stream lies: the partition after it stands as far above it as its
-- BodyOffset says at least, and the random index pack as far as what the index gives goes on. None if nothing says so.
abbrev pub IsHigh : UnitsParts → ℕ → ℕ → Option ℕ → Type 0
IsHigh u body_sid offset (Some high) =
    ((q : StreamPart) × IsPartBehind u.known.notes body_sid offset q
    × (high ≡ q.partition - (q.body_offset - offset)))
    ⊎ (HasNoPartBehind u.known.notes body_sid offset
    × ((r : RipAtParts) × (rip_view_of u.known.notes ≡ One r)
    × ((greatest : ℕ) × IsGreatestOffset u body_sid offset greatest × (high ≡ r.offset - (greatest - offset)))))
IsHigh u body_sid offset None =
    HasNoPartBehind u.known.notes body_sid offset × ((r : RipAtParts) → rip_view_of u.known.notes ≢ One r)
