-- What is known of the random index pack (ST 377-1, Random Index Pack; this project's profile).
use Rattle.std.specs.Prelude.{◌≡◌, ℕ, Option, Some, None, List, [], ◌∷◌}
use Rattle.mxf_klv.specs.Parts.{NoteParts}
use Rattle.mxf_sets.specs.RandomIndexPack.{RipParts}
use Rattle.mxf_views.specs.RandomIndex.{AreSeveralRips, IsClearRip, IsOnlyRip, IsReadableRip, RipAtParts, rip_in}
use Rattle.mxf_views.specs.RandomIndex.{rips_of, standings_among}
use Rattle.mxf_views.specs.Partitions.{PartitionParts, partitions_of}
use Rattle.mxf_views.specs.declared.random_index.RipView.{RipView}
use Rattle.mxf_views.specs.declared.random_index.RipView.TheVariants.{Absent, Several, Unreadable, One}

-- The random index pack where it stands, with its entries beside the partitions.
abbrev pub placed_rip : List PartitionParts → ℕ → RipParts → RipAtParts
placed_rip partitions offset rip =
    record { offset = offset; entries = standings_among partitions rip.entries }

-- The only one, by what it is read as.
abbrev pub rip_view_by : List PartitionParts → ℕ → Option RipParts → RipView
rip_view_by partitions offset None = Unreadable offset
rip_view_by partitions offset (Some rip) = One (placed_rip partitions offset rip)

-- By the clear random index packs: none, the only one, or more.
abbrev pub rip_view_among : List PartitionParts → List NoteParts → RipView
rip_view_among partitions [] = Absent
rip_view_among partitions (n ∷ []) = rip_view_by partitions n.offset (rip_in n)
rip_view_among partitions (m ∷ n ∷ rips) = Several

abbrev pub rip_view_of : List NoteParts → RipView
rip_view_of notes = rip_view_among (partitions_of notes) (rips_of notes)

-- No clear random index pack, or more than one, or one that can't be read, or one with its entries.
abbrev pub IsRipView : List NoteParts → RipView → Type 0
IsRipView notes Absent = (n : NoteParts) → ¬ IsClearRip notes n
IsRipView notes Several = AreSeveralRips notes
IsRipView notes (Unreadable offset) =
    (n : NoteParts) × IsOnlyRip notes n × (n.offset ≡ offset) × ((rip : RipParts) → ¬ IsReadableRip n rip)
IsRipView notes (One r) =
    (n : NoteParts) × IsOnlyRip notes n
    × ((rip : RipParts) × IsReadableRip n rip × (placed_rip (partitions_of notes) n.offset rip ≡ r))
