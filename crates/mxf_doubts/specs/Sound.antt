-- The zones of finished copies of the header metadata (ST 377-1, header metadata of a partition; what a finished copy is is
-- this project's profile).
use Rattle.std.specs.Prelude.{◌≡◌, ℕ, ◌+◌, ◌≤◌, Bool, true, ◌&&◌, ◌==◌, nat_le, max, if◌then◌else◌}
use Rattle.std.specs.Prelude.{Option, Some, None, List, [], ◌∷◌}
use Rattle.std.specs.List.{filter_map, list_any}
use Rattle.std.specs.List.Sorted.{IsNonDecreasingBy}
use Rattle.std.specs.Option.{option_map}
use Rattle.mxf_klv.specs.Parts.{NoteParts}
use Rattle.mxf_klv.specs.Kind.{kind_of}
use Rattle.mxf_klv.specs.Note.{end_of}
use Rattle.mxf_views.specs.declared.copy.CopyInfo.{CopyInfo}
use Rattle.mxf_views.specs.Copies.{IsCopy, copies_of, is_primer}
use Rattle.mxf_doubts.specs.declared.sound.Zone.{Zone}

-- The bytes that a finished copy fills.
abbrev pub filled_by : CopyInfo → Option Zone
filled_by c =
    if c.finished then option_map (λ start. record { start = start; end = start + c.bytes }) c.start else None

abbrev pub sound_zones : List NoteParts → List Zone
sound_zones notes = filter_map filled_by (copies_of notes)

-- The bytes from an offset up to an end lie wholly in the zone.
abbrev pub has_all : ℕ → ℕ → Zone → Bool
has_all offset end z = nat_le z.start offset && nat_le end z.end

abbrev pub lie_in : ℕ → ℕ → List Zone → Bool
lie_in offset end zones = list_any (has_all offset end) zones

-- One of the zones begins there.
abbrev pub begin_at : ℕ → List Zone → Bool
begin_at offset zones = list_any (λ (z : Zone). z.start == offset) zones

-- A finished copy begins with the note: it is the copy's primer pack.
abbrev pub is_first_primer : List NoteParts → NoteParts → Bool
is_first_primer notes n = is_primer (kind_of n.key) && begin_at n.offset (sound_zones notes)

-- The packet of the note lies wholly in the zone of a finished copy.
abbrev pub is_in_sound_zone : List NoteParts → NoteParts → Bool
is_in_sound_zone notes n = lie_in n.offset (end_of n) (sound_zones notes)

-- The same in words of copies.
pub record IsInSoundZone (notes : List NoteParts) (n : NoteParts) : Type 0 where
  pub copy : CopyInfo
  pub copied : IsCopy notes copy
  pub finished : copy.finished ≡ true
  pub start : ℕ
  pub begins : copy.start ≡ Some start
  pub from : start ≤ n.offset
  pub before : end_of n ≤ start + copy.bytes

-- Each zone with the greatest end so far.
abbrev pub reaches_from : ℕ → List Zone → List Zone
reaches_from reach [] = []
reaches_from reach (z ∷ zones) =
    let far = max reach z.end in record { start = z.start; end = far } ∷ reaches_from far zones

-- Zones that rise by their starts and by their ends, and have what these zones have.
pub record AreReachesOf (zones : List Zone) (reaches : List Zone) : Type 0 where
  pub starts : IsNonDecreasingBy (λ (z : Zone). z.start) reaches
  pub ends : IsNonDecreasingBy (λ (z : Zone). z.end) reaches
  pub same : (offset end : ℕ) → lie_in offset end reaches ≡ lie_in offset end zones
  pub begins : (offset : ℕ) → begin_at offset reaches ≡ begin_at offset zones
