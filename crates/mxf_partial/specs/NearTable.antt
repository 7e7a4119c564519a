-- The places at which partitions of streams may stand, as tables that are searched (this project's profile).
use Rattle.std.specs.Prelude.{◌≡◌, ◌↔◌, ◌⊎◌, ℕ, ◌+◌, ◌≤◌, Bool, true, IsTrue, Option, None, Some, List, ◌++◌, map}
use Rattle.std.specs.Prelude.{slice_get}
use Rattle.mxf_klv.specs.Parts.{NoteParts}
use Rattle.mxf_klv.specs.Rising.{In}
use Rattle.mxf_sets.specs.declared.pack.random_index.RipEntry.{RipEntry}
use Rattle.mxf_catalogue.specs.Runs.{LiesIn}
use Rattle.mxf_catalogue.specs.declared.run.Run.{Run}
use Rattle.mxf_places.specs.AtHand.{LiesBetween}
use Rattle.mxf_restore.specs.declared.named.NamedPlace.{NamedPlace}
use Rattle.mxf_views.specs.Partitions.{PartitionParts, partitions_of}
use Rattle.mxf_units.specs.Units.{UnitsParts}
use Rattle.mxf_partial.specs.InStreams.{IsInOrder}
use Rattle.mxf_partial.specs.Near.{IsOfStream}
use Rattle.mxf_partial.specs.StreamTable.{AreStreams}
use Rattle.mxf_partial.specs.declared.near.Asked.{Asked}
use Rattle.mxf_partial.specs.declared.near.Near.{Near}
use Rattle.mxf_partial.specs.declared.place_streams.ListedStream.{ListedStream}
use Rattle.mxf_partial.specs.declared.place_streams.PlaceOf.{PlaceOf}

-- Entries of the random index pack, by where the partitions that they list stand.
pub record AreListed (notes : List NoteParts) (listed : List ListedStream) : Type 0 where
  pub order : IsInOrder (λ e. e.offset) (λ e. 0) (λ e. e.body_sid) listed
  pub same : (body_sid x : ℕ) → IsOfStream notes body_sid x
      ↔ ((e : ListedStream) → In e listed → e.offset ≡ x → e.body_sid ≡ body_sid)

-- An entry, by where the partition that it lists stands.
abbrev pub entry_of : RipEntry → ListedStream
entry_of e = record { offset = e.offset; body_sid = e.body_sid }

-- What is of any stream, or of one, is of the stream.
abbrev pub Serves : Option ℕ → ℕ → Type 0
Serves None body_sid = Unit {0}
Serves (Some only) body_sid = only ≡ body_sid

-- The number by which it is found: that of any stream before all others.
abbrev pub rank : Option ℕ → ℕ
rank None = 0
rank (Some body_sid) = body_sid + 1

-- A place is of these streams.
abbrev pub IsOfStreams : List NoteParts → ℕ → Option ℕ → Type 0
IsOfStreams notes x body_sid = (b : ℕ) → Serves body_sid b ↔ IsOfStream notes b x

-- It is of none.
abbrev pub IsOfNoStream : List NoteParts → ℕ → Type 0
IsOfNoStream notes x = (b : ℕ) → ¬ IsOfStream notes b x

abbrev pub named_of : PlaceOf → NamedPlace
named_of p = record { place = p.place; source = p.source }

-- Places, each with the streams that it may be of, by these.
pub record AreOfStreams (notes : List NoteParts) (places : List NamedPlace) (items : List PlaceOf) : Type 0 where
  pub order : IsInOrder (λ p. rank p.body_sid) (λ p. p.place) (λ p. 0) items
  pub named : (p : PlaceOf) → In p items → In (named_of p) places × IsOfStreams notes p.place p.body_sid
  pub each : (n : NamedPlace) (b : ℕ) → In n places → IsOfStream notes b n.place
      → (p : PlaceOf) × In p items × (named_of p ≡ n)

-- Where a partition stands.
abbrev pub partition_place : PartitionParts → NamedPlace
partition_place p = record { place = p.offset; source = None }

-- The tables of places, and of streams.
pub record AreNear (u : UnitsParts) (all : List NamedPlace) (near : Near) : Type 0 where
  pub streams : AreStreams u near.streams
  pub named : AreOfStreams u.known.notes all near.named.items
  pub places : AreOfStreams u.known.notes (all ++ map partition_place (partitions_of u.known.notes)) near.places.items

-- The greatest of the places of a stream at or below an offset, or 0 if there is none.
pub record IsFrom (places : List PlaceOf) (body_sid low from : ℕ) : Type 0 where
  pub is : (from ≡ 0)
      ⊎ ((p : PlaceOf) × In p places × Serves p.body_sid body_sid × (p.place ≡ from) × (from ≤ low))
  pub greatest : (p : PlaceOf) → In p places → Serves p.body_sid body_sid → p.place ≤ low → p.place ≤ from

-- The places with a property have been added to those that are asked for, by where they stand in the table.
pub record HasAddedThose (items : List PlaceOf) (Q : PlaceOf → Type 0) (positions more : List Run) (any : Bool) :
    Type 0 where
  pub added : (k : ℕ) (p : PlaceOf) → slice_get items k ≡ Some p → LiesIn more k ↔ (LiesIn positions k ⊎ Q p)
  pub some : IsTrue any ↔ ((p : PlaceOf) × In p items × Q p)

-- A place of a stream from an offset on, and below another, if there is one.
abbrev pub LiesInStream : ℕ → ℕ → Option ℕ → PlaceOf → Type 0
LiesInStream body_sid from end p = Serves p.body_sid body_sid × LiesBetween from end p.place

-- A place is asked for: all are, or it stands in the table where one is.
abbrev pub Asks : List PlaceOf → Asked → ℕ → Type 0
Asks items asked x =
    (asked.all ≡ true)
    ⊎ ((k : ℕ) × (p : PlaceOf) × (slice_get items k ≡ Some p) × LiesIn asked.positions k × (p.place ≡ x))
