-- The numbers so far, and those to come, are all.
use Rattle.std.proofs.Common.{◌≡◌, ◌||◌, List, ℕ, filter, flat_map, nat_cmp, bytes_eq}
use Rattle.std.specs.BTreeSet.{contains}
use Rattle.std.specs.Cmp.Lexicographic.{slice_cmp}
use Rattle.std.specs.List.{list_any}
use Rattle.mxf_doubts.specs.Sound.{is_in_sound_zone}
use Rattle.mxf_doubts.specs.Tracks.{named_tracks, numbers_in}
use Rattle.mxf_doubts.proofs.tracks.named_tracks.Given as goal

abbrev pub invariant-loop-note : goal.invariant-loop-note
invariant-loop-note l = (number : List ℕ) →
    (contains (slice_cmp nat_cmp) l.numbers number
    || list_any (bytes_eq number) (flat_map numbers_in (filter (is_in_sound_zone l.views) l.note-iterator)))
    ≡ list_any (bytes_eq number) (named_tracks l.views)
