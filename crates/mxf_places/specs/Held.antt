-- Which offsets of a file are held, where the file ends, and how an offset stands (this project's profile).
use Rattle.std.specs.Prelude.{◌≡◌, ◌↔◌, ℕ, ◌≤◌, ◌+◌, ◌-◌, Bool, true, false, ◌&&◌, ◌==◌, not, nat_le, nat_lt, max}
use Rattle.std.specs.Prelude.{if◌then◌else◌, Option, None, Some, List, [], ◌∷◌, find}
use Rattle.std.specs.Option.{option_and_then, option_map, option_map_or}
use Rattle.std.specs.List.{list_any}
use Rattle.mxf_klv.specs.Parts.{NoteParts}
use Rattle.mxf_klv.specs.Note.{IsCovered, covered_end, end_of, greatest_end}
use Rattle.mxf_klv.specs.Rising.{In}
use Rattle.mxf_catalogue.specs.Disputes.{IsClear, IsDisputed, clear_notes, disputed_notes, undisputed_notes}
use Rattle.mxf_catalogue.specs.declared.run.Run.{Run}
use Rattle.mxf_catalogue.specs.Runs.{LiesIn}
use Rattle.mxf_views.specs.RandomIndex.{RipAtParts}
use Rattle.mxf_views.specs.RandomIndexView.{rip_view_of}
use Rattle.mxf_views.specs.declared.random_index.RipView.{RipView}
use Rattle.mxf_views.specs.declared.random_index.RipView.TheVariants.{Absent, Several, Unreadable, One}

-- Some note covers the offset: a whole packet has it, or the key and the length of a head.
abbrev pub IsHeld : List NoteParts → ℕ → Type 0
IsHeld notes x = (n : NoteParts) × In n notes × IsCovered n x

-- A disputed note does.
abbrev pub IsDisputedAt : List NoteParts → ℕ → Type 0
IsDisputedAt notes x = (n : NoteParts) × In n notes × IsDisputed n notes × IsCovered n x

-- The end of the file: that of the only random index pack, if it can be read (ST 377-1: it is the last packet of a
-- file) and nothing is held at or above it.
pub record IsEndOfFile (notes : List NoteParts) (end : ℕ) : Type 0 where
  pub pack : NoteParts
  pub clear : IsClear pack notes
  pub only : (r : RipAtParts) × (rip_view_of notes ≡ One r) × (r.offset ≡ pack.offset)
  pub end_is : end ≡ end_of pack
  pub last : (x : ℕ) → end ≤ x → ¬ IsHeld notes x

-- The same as functions. Laws tie them to the relations above.

abbrev pub covers : ℕ → NoteParts → Bool
covers x n = nat_le n.offset x && nat_lt x (covered_end n)

abbrev pub is_held : List NoteParts → ℕ → Bool
is_held notes x = list_any (covers x) notes

abbrev pub is_disputed_at : List NoteParts → ℕ → Bool
is_disputed_at notes x = list_any (λ d. covers x d.note) (disputed_notes notes)

-- The offsets in the runs are the disputed ones.
abbrev pub AreDisputed : List NoteParts → List Run → Type 0
AreDisputed notes runs = (x : ℕ) → LiesIn runs x ↔ IsDisputedAt notes x

-- The end of the only random index pack, if it can be read.
abbrev pub rip_end_by : List NoteParts → RipView → Option ℕ
rip_end_by notes Absent = None
rip_end_by notes Several = None
rip_end_by notes (Unreadable offset) = None
rip_end_by notes (One r) = option_map end_of (find (λ n. n.offset == r.offset) (clear_notes notes))

-- Some note covers an offset at or above this one.
abbrev pub reaches_past : ℕ → List NoteParts → Bool
reaches_past x notes = list_any (λ n. nat_lt x (covered_end n)) notes

-- The end of the file, if it is known.
unfoldable pub end_of_file : List NoteParts → Option ℕ
end_of_file notes =
    option_and_then (λ e. if reaches_past e notes then None else Some e) (rip_end_by notes (rip_view_of notes))

-- The first offset above all that is held.
abbrev pub held_end : List NoteParts → ℕ
held_end [] = 0
held_end (n ∷ notes) = max (covered_end n) (held_end notes)

-- The greatest end of a note, even if a head claims it; 0 if there is no note.
abbrev pub top_of : List NoteParts → ℕ
top_of [] = 0
top_of (n ∷ notes) = max (end_of n) (top_of notes)

-- A head that shares no byte with another packet begins there: the rest of its packet isn't held.
abbrev pub begins_clear_head : List NoteParts → ℕ → Bool
begins_clear_head notes x =
    option_map_or (λ n. not n.whole) (find (λ n. n.offset == x) (undisputed_notes notes)) false

-- The offset may lie in the file.
abbrev pub is_in_file : List NoteParts → ℕ → Bool
is_in_file notes x = nat_lt x greatest_end && option_map_or (λ e. nat_lt x e) (end_of_file notes) true

-- How many offsets lie in runs that don't overlap.
abbrev pub bytes_of : List Run → ℕ
bytes_of [] = 0
bytes_of (r ∷ runs) = (r.end - r.start) + bytes_of runs
