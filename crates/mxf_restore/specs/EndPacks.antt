-- The packs that stand at the end of a file alone (ST 377-1: the footer partition is the last partition of a file, and
-- the random index pack its last packet). Where one is held, nothing has to follow all that is held (this project's
-- profile).
use Rattle.std.specs.Prelude.{◌≡◌, ◌⊎◌, Bool, true, false, ◌||◌, not, List}
use Rattle.std.specs.List.{list_any}
use Rattle.mxf_klv.specs.Parts.{NoteParts}
use Rattle.mxf_sets.specs.declared.pack.part.PackPart.TheVariants.{Footer}
use Rattle.mxf_views.specs.Partitions.{IsPartition, PartitionParts, is_footer, partitions_of}
use Rattle.mxf_views.specs.RandomIndex.{IsClearRip}
use Rattle.mxf_views.specs.RandomIndexView.{rip_view_of}
use Rattle.mxf_views.specs.declared.random_index.RipView.{RipView}
use Rattle.mxf_views.specs.declared.random_index.RipView.TheVariants.{Absent, Several, Unreadable, One}

-- A footer partition pack is held that is clear and can be read; or a random index pack that is clear, readable or not.
abbrev pub HasEndPack : List NoteParts → Type 0
HasEndPack notes =
    ((p : PartitionParts) × IsPartition notes p × (p.pack.part ≡ Footer)) ⊎ ((n : NoteParts) × IsClearRip notes n)

-- The same as functions. A lemma ties them to the relation.

abbrev pub is_absent : RipView → Bool
is_absent Absent = true
is_absent Several = false
is_absent (Unreadable offset) = false
is_absent (One r) = false

abbrev pub has_footer : List PartitionParts → Bool
has_footer partitions = list_any (λ p. is_footer p.pack.part) partitions

unfoldable pub has_end_pack : List NoteParts → Bool
has_end_pack notes = has_footer (partitions_of notes) || not (is_absent (rip_view_of notes))
