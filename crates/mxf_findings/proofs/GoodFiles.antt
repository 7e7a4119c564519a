-- Further small files that are well-formed.
use Rattle.mxf_findings.proofs.Common.{◌≡◌, ℕ, ◌-◌, List, [], ◌∷◌, Some, refl, drop}
use Rattle.mxf_findings.proofs.Common.{take, option_map, AllByRecursion, list_any, true, false}
use Rattle.mxf_findings.proofs.Common.{arith, OpenIncomplete, ClosedComplete, PacketParts, item_at, items_of, left_of}
use Rattle.mxf_findings.proofs.Common.{entries_of, Header, Footer, stream_offset, SegmentParts, SegmentAtParts}
use Rattle.mxf_findings.proofs.Common.{place_by_segment, segments_read, partitions_read, read_pack, read_rip}
use Rattle.mxf_findings.proofs.Common.{read_segment, Agree, EndsWithFooter, IsWellFormed, numbers, pack, Place, At}
use Rattle.mxf_findings.proofs.Common.{all-In, none_some, same_Some, kind_of, are_packets, is_pack_kind}
use Rattle.std.specs.Prelude.{◌*◌}
use Rattle.mxf_sets.specs.Segment.{is_constant}
use Rattle.mxf_findings.specs.WorkedFiles.{agreeing_file, bare_file, constant, fill, filled_file, m_file, open_file}
use Rattle.mxf_findings.specs.WorkedFiles.{segment, twice_filled_file, two_entries}
use Rattle.mxf_findings.proofs.SmallFiles.{footer_behind, metadata_after, no_headers, rip_last}

pub bare_footer : (after : List PacketParts) → list_any (λ p. is_pack_kind (kind_of p.key)) after ≡ false
    → EndsWithFooter (bare_file after)
bare_footer after none =
    footer_behind (pack Header (numbers 0 0 108 0 0 0 0) ∷ []) (pack Footer (numbers 108 0 108 0 0 0 0)) after
    (ClosedComplete, refl) refl none

pub m_well_formed : IsWellFormed m_file
unfolding read_pack read_segment read_rip item_at items_of left_of entries_of
m_well_formed = record {
  packets = are_packets m_file refl;
  within = omega arith;
  header = ((ClosedComplete, refl), no_headers (drop 1 m_file) refl);
  footer = bare_footer (two_entries ∷ []) refl;
  readable = (refl, (refl, (refl, tt)));
  this = (refl, (refl, tt));
  previous = (refl, (refl, tt));
  metadata = (λ h. absurd (omega arith), (λ h. absurd (omega arith), (tt, tt)));
  index = λ s t sid unit p q h k e f. absurd h;
  random_index = rip_last (partitions_read 0 m_file) m_file refl refl;
}

pub filled_well_formed : IsWellFormed filled_file
unfolding read_pack read_segment read_rip
filled_well_formed = record {
  packets = are_packets filled_file refl;
  within = omega arith;
  header = ((ClosedComplete, refl), no_headers (drop 1 filled_file) refl);
  footer = footer_behind (take 4 filled_file) (pack Footer (numbers 222 0 222 0 0 0 0)) []
      (ClosedComplete, refl) refl refl;
  readable = (refl, (refl, (refl, (refl, (refl, tt)))));
  this = (refl, (refl, tt));
  previous = (refl, (refl, tt));
  metadata = (
    λ h. metadata_after (fill ∷ []) (drop 4 filled_file) (refl, tt),
    (tt, (tt, (tt, (λ h. absurd (omega arith), tt)))),
  );
  index = λ s t sid unit p q h k e f. absurd h;
  random_index = rip_last (partitions_read 0 filled_file) filled_file refl tt;
}

pub twice_filled_well_formed : IsWellFormed twice_filled_file
unfolding read_pack read_segment read_rip
twice_filled_well_formed = record {
  packets = are_packets twice_filled_file refl;
  within = omega arith;
  header = ((ClosedComplete, refl), no_headers (drop 1 twice_filled_file) refl);
  footer = footer_behind (take 5 twice_filled_file) (pack Footer (numbers 250 0 250 0 0 0 0)) []
      (ClosedComplete, refl) refl refl;
  readable = (refl, (refl, (refl, (refl, (refl, (refl, tt))))));
  this = (refl, (refl, tt));
  previous = (refl, (refl, tt));
  metadata = (
    λ h. metadata_after (fill ∷ fill ∷ []) (drop 5 twice_filled_file) (refl, (refl, tt)),
    (tt, (tt, (tt, (tt, (λ h. absurd (omega arith), tt))))),
  );
  index = λ s t sid unit p q h k e f. absurd h;
  random_index = rip_last (partitions_read 0 twice_filled_file) twice_filled_file refl tt;
}

pub open_well_formed : IsWellFormed open_file
unfolding read_pack read_segment read_rip
open_well_formed = record {
  packets = are_packets open_file refl;
  within = omega arith;
  header = ((OpenIncomplete, refl), no_headers (drop 1 open_file) refl);
  footer = footer_behind (take 1 open_file) (pack Footer (numbers 108 0 108 0 0 0 0)) []
      (ClosedComplete, refl) refl refl;
  readable = (refl, (refl, tt));
  this = (refl, (refl, tt));
  previous = (refl, (refl, tt));
  metadata = (λ h. absurd (omega arith), (λ h. absurd (omega arith), tt));
  index = λ s t sid unit p q h k e f. absurd h;
  random_index = rip_last (partitions_read 0 open_file) open_file refl tt;
}

-- The segment gives units of so many bytes each in the stream of a BodySID.
abbrev IsSteady : ℕ → ℕ → SegmentParts → Type 0
IsSteady body bytes s = (is_constant s.numbers ≡ true) × (s.numbers.body_sid ≡ body) × (s.numbers.unit_bytes ≡ bytes)

steady_place : (body bytes sid unit : ℕ) (s : SegmentParts) (p : Place) → IsSteady body bytes s
    → place_by_segment sid unit s ≡ Some p → p ≡ At body (bytes * unit)
steady_place body bytes sid unit s p i e = grind (arith, option_map, stream_offset, none_some, same_Some)

steady_agree : (body bytes : ℕ) (ss : List SegmentAtParts)
    → AllByRecursion (λ s. IsSteady body bytes s.segment) ss → Agree ss
steady_agree body bytes ss a s t sid unit p q h k e f = grind (arith, all-In, steady_place)

pub agreeing_well_formed : IsWellFormed agreeing_file
unfolding read_pack read_segment read_rip item_at items_of left_of
agreeing_well_formed = record {
  packets = are_packets agreeing_file refl;
  within = omega arith;
  header = ((ClosedComplete, refl), no_headers (drop 1 agreeing_file) refl);
  footer = bare_footer (constant ∷ segment 0x32 0x90 ∷ []) refl;
  readable = (refl, (refl, (refl, (refl, tt))));
  this = (refl, (refl, tt));
  previous = (refl, (refl, tt));
  metadata = (λ h. absurd (omega arith), (λ h. absurd (omega arith), (tt, (tt, tt))));
  index = steady_agree 2 250000 (segments_read 0 agreeing_file) ((refl, refl, refl), ((refl, refl, refl), tt));
  random_index = rip_last (partitions_read 0 agreeing_file) agreeing_file refl tt;
}
