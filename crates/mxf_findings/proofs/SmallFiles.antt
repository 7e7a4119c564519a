-- Which of the small files are well-formed.
use Rattle.mxf_findings.proofs.Common.{◌≡◌, ◌<◌, length, Bool, false, List, [], ◌∷◌, ◌++◌, refl, ◌||◌, drop, take}
use Rattle.mxf_findings.proofs.Common.{map, IfSome, AllByRecursion, list_any, sym, ◌∙◌, ap, inl, inr, arith}
use Rattle.mxf_findings.proofs.Common.{Status, OpenIncomplete, ClosedComplete, kind_of, PacketParts, item_at, items_of}
use Rattle.mxf_findings.proofs.Common.{left_of, entries_of, Footer, SegmentAtParts, is_rip, place_by_segment}
use Rattle.mxf_findings.proofs.Common.{segments_read, partitions_read, read_pack, read_rip, read_segment, Agree}
use Rattle.mxf_findings.proofs.Common.{EndsWithFooter, HasMetadata, IsFooterPack, IsPartitionPack, IsWellFormed, IsFill}
use Rattle.mxf_findings.proofs.Common.{numbers, pack, PartitionParts, false≢true, or_parts, status_rank, IsHeaderPack}
use Rattle.mxf_findings.proofs.Common.{IsRandomIndexPack, EndsWithRandomIndex, entry_of, primer, are_packets}
use Rattle.mxf_findings.proofs.Common.{is_pack_kind}
use Rattle.mxf_klv.specs.declared.kinds.Status.TheVariants.{ClosedIncomplete, OpenComplete}
use Rattle.mxf_findings.specs.WorkedFiles.{h_file, n_file, preface, r_file, w_file}
use Rattle.mxf_sets.proofs.PackKinds.{is_footer_kind, is_header_kind, packs}

pub rank_below_4 : (status : Status) → status_rank status < 4
rank_below_4 OpenIncomplete = omega arith
rank_below_4 OpenComplete = omega arith
rank_below_4 ClosedIncomplete = omega arith
rank_below_4 ClosedComplete = omega arith

pub no_header : (p : PacketParts) → is_header_kind (kind_of p.key) ≡ false → ¬ IsHeaderPack p
no_header p e h = false≢true (sym e ∙ ap is_header_kind h.1)

pub no_footer : (p : PacketParts) → is_footer_kind (kind_of p.key) ≡ false → ¬ IsFooterPack p
no_footer p e h = false≢true (sym e ∙ ap is_footer_kind h.1)

pub no_pack : (p : PacketParts) → is_pack_kind (kind_of p.key) ≡ false → ¬ IsPartitionPack p
no_pack p e h = false≢true (sym e ∙ ap is_pack_kind h.2 ∙ packs h.0 h.1)

none_of : (P : PacketParts → Type 0) (test : PacketParts → Bool) → ((p : PacketParts) → test p ≡ false → ¬ P p)
    → (l : List PacketParts) → list_any test l ≡ false → AllByRecursion (λ p. ¬ P p) l
none_of P test lacks [] e = tt
none_of P test lacks (p ∷ ps) e = let b = or_parts (test p) (list_any test ps) e in
    (lacks p b.0, none_of P test lacks ps b.1)

pub no_headers : (l : List PacketParts) → list_any (λ p. is_header_kind (kind_of p.key)) l ≡ false
    → AllByRecursion (λ p. ¬ IsHeaderPack p) l
no_headers = none_of IsHeaderPack (λ p. is_header_kind (kind_of p.key)) no_header

pub no_footers : (l : List PacketParts) → list_any (λ p. is_footer_kind (kind_of p.key)) l ≡ false
    → AllByRecursion (λ p. ¬ IsFooterPack p) l
no_footers = none_of IsFooterPack (λ p. is_footer_kind (kind_of p.key)) no_footer

pub no_packs : (l : List PacketParts) → list_any (λ p. is_pack_kind (kind_of p.key)) l ≡ false
    → AllByRecursion (λ p. ¬ IsPartitionPack p) l
no_packs = none_of IsPartitionPack (λ p. is_pack_kind (kind_of p.key)) no_pack

-- The footer stands behind packets that are none, and before packets that are no partition packs.
pub footer_behind : (before : List PacketParts) (footer : PacketParts) (after : List PacketParts) → IsFooterPack footer
    → list_any (λ p. is_footer_kind (kind_of p.key)) before ≡ false
    → list_any (λ p. is_pack_kind (kind_of p.key)) after ≡ false → EndsWithFooter (before ++ footer ∷ after)
footer_behind before footer after is b a = grind (arith, no_footers, no_packs)

-- The primer and the Preface of the small files are header metadata of 86 bytes.
pub metadata_after : (fills rest : List PacketParts) → AllByRecursion IsFill fills
    → HasMetadata 86 (fills ++ (primer ∷ preface ∷ rest))
metadata_after fills rest are_fills = record {
  fills = fills;
  primer = primer;
  sets = preface ∷ [];
  rest = rest;
  order = refl;
  are_fills = are_fills;
  is_primer = refl;
  no_pack = (no_pack preface refl, tt);
  exact = refl;
}

pub no_rip : (p : PacketParts) → is_rip (kind_of p.key) ≡ false → ¬ IsRandomIndexPack p
no_rip p e h = false≢true (sym e ∙ ap is_rip h)

abbrev pub rips_before_last : List PacketParts → Bool
rips_before_last [] = false
rips_before_last (p ∷ []) = false
rips_before_last (p ∷ q ∷ ps) = is_rip (kind_of p.key) || rips_before_last (q ∷ ps)

abbrev pub LastFits : List PartitionParts → List PacketParts → Type 0
LastFits partitions [] = Unit {0}
LastFits partitions (p ∷ []) = IfSome (read_rip p) (λ rip. rip.entries ≡ map entry_of partitions)
LastFits partitions (p ∷ q ∷ ps) = LastFits partitions (q ∷ ps)

pub rip_last : (partitions : List PartitionParts) (l : List PacketParts) → rips_before_last l ≡ false
    → LastFits partitions l → EndsWithRandomIndex partitions l
rip_last partitions [] e r = tt
rip_last partitions (p ∷ []) e r = r
rip_last partitions (p ∷ q ∷ ps) e r =
    let b = or_parts (is_rip (kind_of p.key)) (rips_before_last (q ∷ ps)) e in
    (no_rip p b.0, rip_last partitions (q ∷ ps) b.1 r)

pub n_well_formed : IsWellFormed n_file
unfolding read_pack read_segment read_rip
n_well_formed = record {
  packets = are_packets n_file refl;
  within = omega arith;
  header = ((ClosedComplete, refl), no_headers (drop 1 n_file) refl);
  footer = footer_behind (take 3 n_file) (pack Footer (numbers 194 0 194 86 0 0 0)) (drop 4 n_file)
      (ClosedComplete, refl) refl refl;
  readable = (refl, (refl, (refl, (refl, (refl, (refl, tt))))));
  this = (refl, (refl, tt));
  previous = (refl, (refl, tt));
  metadata = (λ h. metadata_after [] (drop 3 n_file) tt, (tt, (tt, (λ h. metadata_after [] [] tt, (tt, (tt, tt))))));
  index = λ s t sid unit p q h k e f. absurd h;
  random_index = rip_last (partitions_read 0 n_file) n_file refl tt;
}

-- Segments agree where there is one alone.
pub agree_alone : (s : SegmentAtParts) → Agree (s ∷ [])
agree_alone s t u sid unit p q (inl h) (inl k) e f = grind (arith, place_by_segment)
agree_alone s t u sid unit p q (inr h) k e f = absurd h
agree_alone s t u sid unit p q (inl h) (inr k) e f = absurd k

agree_one : (ss : List SegmentAtParts) → length ss ≡ 1 → Agree ss
agree_one [] l = λ s t sid unit p q h k e f. absurd h
agree_one (s ∷ []) l = agree_alone s
agree_one (s ∷ t ∷ ss) l = absurd (omega arith)

pub w_well_formed : IsWellFormed w_file
unfolding read_pack read_segment read_rip item_at items_of left_of entries_of
w_well_formed = record {
  packets = are_packets w_file refl;
  within = omega arith;
  header = ((ClosedComplete, refl), no_headers (drop 1 w_file) refl);
  footer = footer_behind (take 3 w_file) (pack Footer (numbers 336 108 336 0 90 1 0)) (drop 4 w_file)
      (ClosedComplete, refl) refl refl;
  readable = (refl, (refl, (refl, (refl, (refl, (refl, tt))))));
  this = (refl, (refl, (refl, tt)));
  previous = (refl, (refl, (refl, tt)));
  metadata = (
    λ h. absurd (omega arith),
    (λ h. absurd (omega arith), (tt, (λ h. absurd (omega arith), (tt, (tt, tt))))),
  );
  index = agree_one (segments_read 0 w_file) refl;
  random_index = rip_last (partitions_read 0 w_file) w_file refl refl;
}

-- A list with no footer partition pack.
footer_among : (before : List PacketParts) (footer : PacketParts) (after : List PacketParts)
    → AllByRecursion (λ p. ¬ IsFooterPack p) (before ++ footer ∷ after) → ¬ IsFooterPack footer
footer_among [] footer after a = a.0
footer_among (p ∷ ps) footer after a = footer_among ps footer after a.1

pub without_footer : (l : List PacketParts) → AllByRecursion (λ p. ¬ IsFooterPack p) l → ¬ IsWellFormed l
without_footer l a w = grind (arith, footer_among)

pub h_not_well_formed : ¬ IsWellFormed h_file
h_not_well_formed = without_footer h_file (no_footers h_file refl)

pub r_not_well_formed : ¬ IsWellFormed r_file
r_not_well_formed = without_footer r_file (no_footers r_file refl)
