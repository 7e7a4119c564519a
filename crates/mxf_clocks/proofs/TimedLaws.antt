-- At which rates an index is timed, by what segments state in numbers.
use Rattle.mxf_views.proofs.Common.{◌≡◌, ◌&&◌, ℕ, refl, ap, List, [], ◌∷◌, list_all, map, SegmentAtParts}
use Rattle.mxf_views.proofs.Common.{without_entries}
use Rattle.mxf_sets.specs.declared.record.rate.Rate.{Rate}
use Rattle.mxf_clocks.specs.TracksFor.{agrees, is_timed}

all_same : (segments : List SegmentAtParts) (index_sid : ℕ) (rate : Rate)
    → list_all (agrees index_sid rate) (map without_entries segments) ≡ list_all (agrees index_sid rate) segments
all_same [] index_sid rate = refl
all_same (s ∷ segments) index_sid rate = ap (λ b. agrees index_sid rate s && b) (all_same segments index_sid rate)

-- The entries of segments don't say it.
pub same_timed : (segments : List SegmentAtParts) → is_timed (map without_entries segments) ≡ is_timed segments
unfolding is_timed
same_timed segments = λ i index_sid rate. all_same segments index_sid rate i
