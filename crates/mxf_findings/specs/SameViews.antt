-- Views that are the same of two contents (this project's profile).
use Rattle.std.specs.Prelude.{◌≡◌, ℕ, List}
use Rattle.mxf_klv.specs.Parts.{NoteParts}
use Rattle.mxf_views.specs.Partitions.{chain_of, link_at, partitions_of}
use Rattle.mxf_views.specs.Copies.{copies_of, preferred_of, sets_of}
use Rattle.mxf_views.specs.Labels.{primer_for}
use Rattle.mxf_references.specs.References.{found_in}
use Rattle.mxf_references.specs.Resolved.{resolved_of}
use Rattle.mxf_views.specs.Places.{place_of, segments_of}
use Rattle.mxf_views.specs.RandomIndexView.{rip_view_of}

-- All views are, but for the gaps and the findings, which look at disputed notes too.
pub record SameViews (a b : List NoteParts) : Type 0 where
  pub partitions : partitions_of a ≡ partitions_of b
  pub link : (offset : ℕ) → link_at offset (partitions_of a) ≡ link_at offset (partitions_of b)
  pub chain : chain_of a ≡ chain_of b
  pub copies : copies_of a ≡ copies_of b
  pub sets : (partition : ℕ) → sets_of a partition ≡ sets_of b partition
  pub preferred : preferred_of (copies_of a) ≡ preferred_of (copies_of b)
  pub primer : (n : NoteParts) → primer_for a n ≡ primer_for b n
  pub find : (partition : ℕ) (uid : List ℕ) → found_in a partition uid ≡ found_in b partition uid
  pub resolved : resolved_of a ≡ resolved_of b
  pub segments : segments_of a ≡ segments_of b
  pub locate : (index_sid unit : ℕ) → place_of (segments_of a) index_sid unit ≡ place_of (segments_of b) index_sid unit
  pub rip : rip_view_of a ≡ rip_view_of b
