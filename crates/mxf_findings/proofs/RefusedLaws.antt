-- Small files that miss one condition of well-formed files.
use Rattle.mxf_findings.proofs.Common.{◌≡◌, ◌≢◌, ◌↔◌, ℕ, ◌+◌, ◌^◌, ◌<◌, ◌≤◌, false, true, List, [], ◌∷◌, ◌++◌, length}
use Rattle.mxf_findings.proofs.Common.{refl, AllByRecursion, sym, ◌∙◌, ap, subst, inl, inr, arith, ClosedComplete}
use Rattle.mxf_findings.proofs.Common.{kind_of, greatest_end, IsPacket, size_of, PacketParts, item_at, items_of}
use Rattle.mxf_findings.proofs.Common.{left_of, entries_of, Header, Body, Footer, RipEntry, is_fill, is_primer}
use Rattle.mxf_findings.proofs.Common.{read_pack, read_rip, read_segment, HasMetadata, IsFill, IsFooterPack}
use Rattle.mxf_findings.proofs.Common.{IsPartitionPack, IsWellFormed, total_of, numbers, pack, Place, At, NotIndexed}
use Rattle.mxf_findings.proofs.Common.{Ambiguous, partitions_read, false≢true, end_after, IsPrimerPack, primer}
use Rattle.std.specs.Prelude.{replicate}
use Rattle.std.proofs.lemmas.List.{length-replicate}
use Rattle.mxf_klv.specs.Parts.{packet_parts}
use Rattle.mxf_findings.specs.WorkedFiles.{essence_key, preface}
use Rattle.mxf_findings.proofs.GoodFiles.{bare_footer, m_well_formed}
use Rattle.mxf_findings.proofs.SmallFiles.{no_footer, no_header, without_footer, no_footers, no_headers, rip_last}
use Rattle.mxf_findings.specs.RefusedFiles as refused

pub narrow_refused : ¬ IsWellFormed refused.narrow_length
narrow_refused w = grind arith

-- ---- the greatest end

abbrev long_packet : ℕ → PacketParts
long_packet bytes = packet_parts essence_key 9 (replicate bytes 0x00)

abbrev zeros : ℕ → List ℕ
zeros bytes = replicate bytes 0x00

long_length : (bytes : ℕ) → length (zeros bytes) ≡ bytes
long_length bytes = length-replicate bytes 0x00

long_end : (bytes : ℕ) → end_after 0 (refused.long_file bytes) ≡ 241 + bytes
long_end bytes = grind (arith, long_length)

long_is_packet : (bytes : ℕ) → bytes < 256 ^ 8 → IsPacket (long_packet bytes)
long_is_packet bytes b = grind (arith, long_length)

long_well_formed : (bytes : ℕ) → 241 + bytes ≤ greatest_end → IsWellFormed (refused.long_file bytes)
unfolding read_pack read_segment read_rip
long_well_formed bytes h =
    grind (
      arith,
      m_well_formed,
      long_is_packet,
      greatest_end,
      long_end,
      no_headers,
      bare_footer,
      rip_last,
      partitions_read,
    )

pub long_iff : (bytes : ℕ) → IsWellFormed (refused.long_file bytes) ↔ (241 + bytes ≤ greatest_end)
long_iff bytes = (λ w. subst (λ (k : ℕ). k ≤ greatest_end) (long_end bytes) w.within, λ h. long_well_formed bytes h)

-- ---- headers and footers

pub no_header_refused : ¬ IsWellFormed refused.no_header
no_header_refused w = no_header (pack Body (numbers 0 0 108 0 0 0 0)) refl w.header.0

pub two_headers_refused : ¬ IsWellFormed refused.two_headers
two_headers_refused w = w.header.1.0 (ClosedComplete, refl)

pub no_footer_refused : ¬ IsWellFormed refused.no_footer
no_footer_refused = without_footer refused.no_footer (no_footers refused.no_footer refl)

-- a list with an element isn't empty
not_empty : (before : List PacketParts) (p : PacketParts) (after : List PacketParts) → [] ≡ before ++ p ∷ after → ⊥
not_empty [] p after e = cc (e)
not_empty (q ∷ before) p after e = cc (e)

same_head : (x y : PacketParts) (xs ys : List PacketParts) → x ∷ xs ≡ y ∷ ys → x ≡ y
same_head x y xs ys e = cc (e)

same_tail : (x y : PacketParts) (xs ys : List PacketParts) → x ∷ xs ≡ y ∷ ys → xs ≡ ys
same_tail x y xs ys e = cc (e)

-- the footer isn't the first nor the last of three, nor the second where the last is a partition pack
third_is_pack : (x y z : PacketParts) (before : List PacketParts) (footer : PacketParts) (after : List PacketParts)
    → ¬ IsFooterPack x → ¬ IsFooterPack z → IsPartitionPack z → x ∷ y ∷ z ∷ [] ≡ before ++ footer ∷ after
    → IsFooterPack footer → AllByRecursion (λ p. ¬ IsPartitionPack p) after → ⊥
third_is_pack x y z [] footer after nx nz pz o i l =
    nx (subst IsFooterPack (sym (same_head x footer (y ∷ z ∷ []) after o)) i)
third_is_pack x y z (a ∷ []) footer after nx nz pz o i l = grind (arith, same_tail)
third_is_pack x y z (a ∷ b ∷ []) footer after nx nz pz o i l =
    let t = same_tail y b (z ∷ []) (footer ∷ after) (same_tail x a (y ∷ z ∷ []) (b ∷ footer ∷ after) o) in
    nz (subst IsFooterPack (sym (same_head z footer [] after t)) i)
third_is_pack x y z (a ∷ b ∷ c ∷ before) footer after nx nz pz o i l = grind (arith, same_tail, not_empty)

pub early_footer_refused : ¬ IsWellFormed refused.early_footer
early_footer_refused w =
    let f = w.footer in
    let body = pack Body (numbers 216 108 108 0 0 0 0) in
    third_is_pack (pack Header (numbers 0 0 108 0 0 0 0)) (pack Footer (numbers 108 0 108 0 0 0 0)) body
    f.before f.footer f.after (no_footer (pack Header (numbers 0 0 108 0 0 0 0)) refl)
    (no_footer body refl) (Body, ClosedComplete, refl) f.order f.is_footer f.last

-- ---- what packs say

pub empty_segment_refused : ¬ IsWellFormed refused.empty_segment
unfolding read_segment item_at items_of left_of
empty_segment_refused w = let h : false ≡ true = w.readable.1.1.0 in false≢true h

pub misplaced_refused : ¬ IsWellFormed refused.misplaced_footer
unfolding read_pack
misplaced_refused w = let h : 107 ≡ 108 = w.this.1.0 in omega (arith, h)

pub unlinked_refused : ¬ IsWellFormed refused.unlinked_footer
unfolding read_pack
unlinked_refused w = let h : 1 ≡ 0 = w.previous.1.0 in omega (arith, h)

-- ---- header metadata

other_kind : (p q : PacketParts) → p ≡ q → kind_of p.key ≡ kind_of q.key
other_kind p q e = ap (λ (x : PacketParts). kind_of x.key) e

no_fill : (p : PacketParts) → is_fill (kind_of p.key) ≡ false → ¬ IsFill p
no_fill p e h = false≢true (sym e ∙ ap is_fill h)

no_primer : (p : PacketParts) → is_primer (kind_of p.key) ≡ false → ¬ IsPrimerPack p
no_primer p e h = false≢true (sym e ∙ ap is_primer h)

none_alone : (bytes : ℕ) (x : PacketParts) (xs fills : List PacketParts) (primer : PacketParts)
    (rest : List PacketParts)
    → ¬ IsFill x → ¬ IsPrimerPack x → x ∷ xs ≡ fills ++ primer ∷ rest → AllByRecursion IsFill fills
    → IsPrimerPack primer → ⊥
none_alone bytes x xs [] primer rest nf np o f p = np (other_kind x primer (same_head x primer xs rest o) ∙ p)
none_alone bytes x xs (y ∷ fills) primer rest nf np o f p =
    nf (other_kind x y (same_head x y xs (fills ++ primer ∷ rest) o) ∙ f.0)

pub no_metadata_refused : ¬ IsWellFormed refused.no_metadata
unfolding read_pack
no_metadata_refused w =
    let footer = pack Footer (numbers 108 0 108 0 0 0 0) in
    let m : HasMetadata 86 (footer ∷ []) = w.metadata.0 (omega arith) in
    none_alone 86 footer [] m.fills m.primer (m.sets ++ m.rest) (no_fill footer refl) (no_primer footer refl) m.order
    m.are_fills m.is_primer

-- the sets behind a primer that end before a partition pack
sets_before : (bytes : ℕ) (x y z : PacketParts) (sets rest : List PacketParts) → IsPartitionPack z
    → bytes ≢ size_of x + 0 → bytes ≢ size_of x + (size_of y + 0) → y ∷ z ∷ [] ≡ sets ++ rest
    → AllByRecursion (λ p. ¬ IsPartitionPack p) sets → size_of x + total_of sets ≡ bytes → ⊥
sets_before bytes x y z [] rest pz one two o none e = one (sym e)
sets_before bytes x y z (s ∷ []) rest pz one two o none e =
    let same = same_head y s (z ∷ []) rest o in
    two (sym e ∙ ap (λ (p : PacketParts). size_of x + (size_of p + 0)) (sym same))
sets_before bytes x y z (s ∷ t ∷ sets) rest pz one two o none e =
    let same = same_head z t [] (sets ++ rest) (same_tail y s (z ∷ []) (t ∷ (sets ++ rest)) o) in
    none.1.0 (subst IsPartitionPack same pz)

metadata_by : (bytes : ℕ) (x y z : PacketParts) (fills : List PacketParts) (primer : PacketParts)
    (sets rest : List PacketParts) → ¬ IsFill x → IsPartitionPack z → bytes ≢ size_of x + 0
    → bytes ≢ size_of x + (size_of y + 0) → x ∷ y ∷ z ∷ [] ≡ fills ++ (primer ∷ sets ++ rest)
    → AllByRecursion IsFill fills → AllByRecursion (λ p. ¬ IsPartitionPack p) sets → total_of (primer ∷ sets) ≡ bytes
    → ⊥
metadata_by bytes x y z [] primer sets rest nf pz one two o f none e =
    let same = same_head x primer (y ∷ z ∷ []) (sets ++ rest) o in
    sets_before bytes x y z sets rest pz one two (same_tail x primer (y ∷ z ∷ []) (sets ++ rest) o) none
    (ap (λ (p : PacketParts). size_of p + total_of sets) same ∙ e)
metadata_by bytes x y z (g ∷ fills) primer sets rest nf pz one two o f none e =
    nf (other_kind x g (same_head x g (y ∷ z ∷ []) (fills ++ (primer ∷ sets ++ rest)) o) ∙ f.0)

pub short_metadata_refused : ¬ IsWellFormed refused.short_metadata
unfolding read_pack
short_metadata_refused w =
    let footer = pack Footer (numbers 194 0 194 0 0 0 0) in
    let m : HasMetadata 87 (primer ∷ preface ∷ footer ∷ []) = w.metadata.0 (omega arith) in
    metadata_by 87 primer preface footer m.fills m.primer m.sets m.rest (no_fill primer refl)
    (Footer, ClosedComplete, refl) (λ (e : 87 ≡ 46). omega (arith, e)) (λ (e : 87 ≡ 86). omega (arith, e)) m.order
    m.are_fills m.no_pack m.exact

pub metadata_with_a_pack_refused : ¬ IsWellFormed refused.metadata_with_a_pack
unfolding read_pack
metadata_with_a_pack_refused w =
    let footer = pack Footer (numbers 194 0 194 0 0 0 0) in
    let m : HasMetadata 194 (primer ∷ preface ∷ footer ∷ []) = w.metadata.0 (omega arith) in
    metadata_by 194 primer preface footer m.fills m.primer m.sets m.rest (no_fill primer refl)
    (Footer, ClosedComplete, refl) (λ (e : 194 ≡ 46). omega (arith, e)) (λ (e : 194 ≡ 86). omega (arith, e)) m.order
    m.are_fills m.no_pack m.exact

-- ---- index and random index

abbrev offset_in : Place → ℕ
offset_in (At body offset) = offset
offset_in NotIndexed = 0
offset_in (Ambiguous p q) = 0

pub differing_refused : ¬ IsWellFormed refused.differing_segments
unfolding read_pack read_segment item_at items_of left_of
differing_refused w =
    let same : At 2 12500000 ≡ At 2 12500050 = w.index _ _ 1 50 _ _ (inl refl) (inr (inl refl)) refl refl in
    let h : 12500000 ≡ 12500050 = ap offset_in same in
    omega (arith, h)

abbrev second_offset : List RipEntry → ℕ
second_offset [] = 0
second_offset (e ∷ []) = 0
second_offset (e ∷ f ∷ entries) = f.offset

pub other_entries_refused : ¬ IsWellFormed refused.other_entries
unfolding read_pack read_rip entries_of
other_entries_refused w = let h : 109 ≡ 108 = ap second_offset w.random_index.1.1 in omega (arith, h)

pub early_random_index_refused : ¬ IsWellFormed refused.early_random_index
early_random_index_refused w = w.random_index.1.1.0 refl
