-- The partitions of a well-formed file: no dispute and no gap, and the links and the chain of its reading.
use Rattle.mxf_views.proofs.Common.{◌≡◌, ℕ, ◌+◌, Bool, true, false, cond, max, not, ◌&&◌, ◌||◌, ◌==◌, List, [], ◌∷◌}
use Rattle.mxf_views.proofs.Common.{◌++◌, count_by, length, None, Some, Option, is_some, refl, AllByRecursion}
use Rattle.mxf_views.proofs.Common.{cons_option, list_all, option_map, result_ok, sym, ◌∙◌, ap, subst, arith, kind_of}
use Rattle.mxf_views.proofs.Common.{note_of, end_of, size_of, PacketParts, NoteParts, notes_from, pack_at}
use Rattle.mxf_views.proofs.Common.{part_and_status, PartitionPackParts, PartitionParts, is_footer, is_greatest}
use Rattle.mxf_views.proofs.Common.{is_header, is_linked, link_at, is_no_unreadable_pack, partition_at, partitions_of}
use Rattle.mxf_views.proofs.Common.{partition_read, partitions_read, read_pack, EndsWithFooter, IsFooterPack}
use Rattle.mxf_views.proofs.Common.{IsPartitionPack, IsWellFormed, is_readable_as, total_of, keeps, gaps_from}
use Rattle.mxf_views.proofs.Common.{link_read_at, links_read, IsHeaderPack, HasPartitionsOf, clear-laid, all-right}
use Rattle.mxf_views.proofs.Common.{BeginsWithHeader, IsReadable}
use Rattle.mxf_klv.specs.declared.kinds.Kind.{Kind}
use Rattle.mxf_klv.specs.declared.kinds.Status.{Status}
use Rattle.mxf_sets.specs.declared.pack.part.PackPart.{PackPart}
use Rattle.mxf_sets.specs.declared.pack.part.PackPart.TheVariants.{Body, Header, Footer}
use Rattle.mxf_views.specs.declared.chain.Chain.TheVariants.{Whole, Broken}
use Rattle.mxf_sets.specs.PartitionPack.{pack_kind}
use Rattle.std.proofs.Common.{le-ltb}
use Rattle.mxf_views.specs.Reading.{chain_read}
use Rattle.mxf_views.proofs.Laid.{partition-note, partitions_of-laid}
use Rattle.mxf_views.proofs.LaidChain.{AreLinked, BeginsAtZero, EndsInFooter, all_linked, ends_in_footer}
use Rattle.mxf_views.proofs.LaidChain.{footers_greatest, one_footer, one_header}
use Rattle.mxf_views.proofs.RisingPartitions.{IsRisingFrom, rising-read}
use Rattle.mxf_catalogue.proofs.LaidNotes.{no_disputes-laid}
use Rattle.mxf_sets.proofs.PackKinds.{kind_is}
use Rattle.mxf_klv.specs.declared.kinds.Kind.TheVariants as kinds

-- ---- no dispute and no gap

no_gaps-laid : (at : ℕ) (l : List PacketParts) → gaps_from at at (notes_from at l) ≡ []
no_gaps-laid at [] = rw (le-ltb at at (omega arith)) refl
no_gaps-laid at (p ∷ ps) = grind (arith, max, end_of, note_of, size_of, le-ltb, no_gaps-laid (at + size_of p) ps)

-- ---- what a partition tells of its packet

-- The partition whose pack begins and ends at these offsets.
abbrev partition_parts : ℕ → ℕ → PartitionPackParts → PartitionParts
partition_parts at end pack = record { offset = at; end = end; pack = pack }

kind_of_packet : (p : PacketParts) (pack : PartitionPackParts) → read_pack p ≡ Some pack
    → kind_of p.key ≡ pack_kind pack.part pack.status
unfolding read_pack
kind_of_packet p pack e =
    elim (keeps p.key (length p.value)) as (λ b. cond b (result_ok (pack_at (kind_of p.key) p.value)) None ≡ Some pack
    → kind_of p.key ≡ pack_kind pack.part pack.status) [
      | true ↦ kind_is (kind_of p.key) p.value pack
      | false ↦ λ f. cc
    ] e

-- What holds of packets and of what is read of them holds of the partitions.
from_packets : (P : PacketParts → Type 0) (Q : PartitionParts → Type 0)
    → ((at : ℕ) (p : PacketParts) (pack : PartitionPackParts) → P p → read_pack p ≡ Some pack
    → Q (partition_parts at (at + size_of p) pack))
    → (at : ℕ) (l : List PacketParts) → AllByRecursion P l → AllByRecursion Q (partitions_read at l)
from_packets P Q f at [] a = tt
from_packets P Q f at (p ∷ ps) a =
    let end : ℕ = at + size_of p in
    let ih = from_packets P Q f end ps a.1 in
    elim (read_pack p) as (λ o. read_pack p ≡ o
    → AllByRecursion Q (cons_option (option_map (partition_parts at end) o) (partitions_read end ps))) [
      | None ↦ λ e. ih
      | Some pack ↦ λ e. (f at p pack a.0 e, ih)
    ] refl

-- A pack is a header, or a footer, exactly where its kind is that of one.
header_part : (part : PackPart) (status s : Status) → pack_kind part status ≡ kinds.Header s → is_header part ≡ true
header_part Header status s e = refl
header_part Body status s e = cc
header_part Footer status s e = cc

footer_part : (part : PackPart) (status s : Status) → pack_kind part status ≡ kinds.Footer s → is_footer part ≡ true
footer_part Footer status s e = refl
footer_part Body status s e = cc
footer_part Header status s e = cc

no_header_part : (part : PackPart) (status : Status) (kind : Kind) → kind ≡ pack_kind part status
    → ((s : Status) × (kind ≡ kinds.Header s) → ⊥) → is_header part ≡ false
no_header_part Header status kind e n = absurd (n (status, e))
no_header_part Body status kind e n = refl
no_header_part Footer status kind e n = refl

no_footer_part : (part : PackPart) (status : Status) (kind : Kind) → kind ≡ pack_kind part status
    → ((s : Status) × (kind ≡ kinds.Footer s) → ⊥) → is_footer part ≡ false
no_footer_part Footer status kind e n = absurd (n (status, e))
no_footer_part Body status kind e n = refl
no_footer_part Header status kind e n = refl

-- ---- the first partition and the last

-- A header is the first packet, so its partition is the first and the only header.
header_first : (l : List PacketParts) → BeginsWithHeader l → AllByRecursion IsReadable l
    → BeginsAtZero (partitions_read 0 l)
header_first [] b r = absurd b
header_first (p ∷ ps) b r =
    let end : ℕ = 0 + size_of p in
    let some : is_some (read_pack p) ≡ true = subst (λ kind. is_readable_as kind p ≡ true) b.0.1 r.0 in
    let rest = from_packets (λ q. ¬ IsHeaderPack q) (λ q. is_header q.pack.part ≡ false)
    (λ at q pack n e. no_header_part pack.part pack.status (kind_of q.key) (kind_of_packet q pack e) n) end ps b.1 in
    elim (read_pack p) as (λ o. read_pack p ≡ o → is_some o ≡ true
    → BeginsAtZero (cons_option (option_map (partition_parts 0 end) o) (partitions_read end ps))) [
      | None ↦ λ e f. cc
      | Some pack ↦ λ e f.
          let k = sym (kind_of_packet p pack e) ∙ b.0.1 in
          (refl, header_part pack.part pack.status b.0.0 k, rest)
    ] refl some

cons-append : (o : Option PartitionParts) (xs ys : List PartitionParts)
    → cons_option o (xs ++ ys) ≡ cons_option o xs ++ ys
cons-append None xs ys = refl
cons-append (Some p) xs ys = refl

-- The partitions of packets after others begin where those end.
read-append : (at : ℕ) (xs ys : List PacketParts)
    → partitions_read at (xs ++ ys) ≡ partitions_read at xs ++ partitions_read (at + total_of xs) ys
read-append at [] ys = ap (λ x. partitions_read x ys) (let e : at ≡ at + 0 = omega arith in e)
read-append at (x ∷ xs) ys =
    let next : ℕ = at + size_of x in
    let e : next + total_of xs ≡ at + (size_of x + total_of xs) = omega arith in
    ap (cons_option (partition_read at x))
    (read-append next xs ys ∙ ap (λ y. partitions_read next xs ++ partitions_read y ys) e)
    ∙ cons-append (partition_read at x) (partitions_read next xs) (partitions_read (at + (size_of x + total_of xs)) ys)

-- Where no packet is a partition pack, there is no partition.
read-none : (at : ℕ) (l : List PacketParts) → AllByRecursion (λ p. ¬ IsPartitionPack p) l → partitions_read at l ≡ []
read-none at [] a = refl
read-none at (p ∷ ps) a =
    let end : ℕ = at + size_of p in
    elim (read_pack p) as (λ o. read_pack p ≡ o
    → cons_option (option_map (partition_parts at end) o) (partitions_read end ps) ≡ []) [
      | None ↦ λ e. read-none end ps a.1
      | Some pack ↦ λ e. absurd (a.0 (pack.part, pack.status, kind_of_packet p pack e))
    ] refl

-- No partition pack follows the footer, so its partition is the last and the only footer.
footer_last : (l : List PacketParts) → EndsWithFooter l → AllByRecursion IsReadable l
    → EndsInFooter (partitions_read 0 l)
footer_last l f r =
    let at : ℕ = 0 + total_of f.before in
    let end : ℕ = at + size_of f.footer in
    let before : List PartitionParts = partitions_read 0 f.before in
    let here : AllByRecursion IsReadable (f.footer ∷ f.after)
    = all-right IsReadable f.before (f.footer ∷ f.after) (subst (AllByRecursion IsReadable) f.order r) in
    let some : is_some (read_pack f.footer) ≡ true
    = subst (λ kind. is_readable_as kind f.footer ≡ true) f.is_footer.1 here.0 in
    let none = read-none end f.after f.last in
    let split : partitions_read 0 l ≡ before ++ partitions_read at (f.footer ∷ f.after)
    = ap (partitions_read 0) f.order ∙ read-append 0 f.before (f.footer ∷ f.after) in
    elim (read_pack f.footer) as (λ o. read_pack f.footer ≡ o → is_some o ≡ true
    → partitions_read 0 l ≡ before ++ cons_option (option_map (partition_parts at end) o) (partitions_read end f.after)
    → EndsInFooter (partitions_read 0 l)) [
      | None ↦ λ e s k. cc
      | Some pack ↦ λ e s k. record {
        before = before;
        footer = partition_parts at end pack;
        order = k ∙ ap (λ ps. before ++ partition_parts at end pack ∷ ps) none;
        only = from_packets (λ q. ¬ IsFooterPack q) (λ q. is_footer q.pack.part ≡ false)
            (λ a q x n g. no_footer_part x.part x.status (kind_of q.key) (kind_of_packet q x g) n) 0 f.before f.only;
        is_one = footer_part pack.part pack.status f.is_footer.0 (sym (kind_of_packet f.footer pack e) ∙ f.is_footer.1);
      }
    ] refl some split

-- ---- packs that are readable

pack_readable : (kind : Kind) (p : PacketParts) → is_some (part_and_status kind) ≡ true → is_readable_as kind p ≡ true
    → is_some (read_pack p) ≡ true
pack_readable (kinds.Header s) p k r = r
pack_readable (kinds.Body s) p k r = r
pack_readable (kinds.Footer s) p k r = r
pack_readable _ p k r = cc

-- The note of a readable packet is no unreadable pack.
readable-note : (at : ℕ) (p : PacketParts) → IsReadable p → is_no_unreadable_pack (note_of at p) ≡ true
unfolding is_no_unreadable_pack
readable-note at p r =
    elim (is_some (part_and_status (kind_of p.key))) as (λ b. is_some (part_and_status (kind_of p.key)) ≡ b
    → (not b || is_some (partition_at (note_of at p))) ≡ true) [
      | true ↦ λ e. ap is_some (partition-note at p) ∙ elim (read_pack p) as (λ o. is_some o ≡ true
          → is_some (option_map (partition_parts at (at + size_of p)) o) ≡ true) [
            | None ↦ λ f. f
            | Some pack ↦ λ f. refl
          ] (pack_readable (kind_of p.key) p e r)
      | false ↦ λ e. refl
    ] refl

readable-laid : (at : ℕ) (l : List PacketParts) → AllByRecursion IsReadable l
    → list_all is_no_unreadable_pack (notes_from at l) ≡ true
readable-laid at [] r = refl
readable-laid at (p ∷ ps) r = rw (readable-note at p r.0) (readable-laid (at + size_of p) ps r.1)

-- ---- the whole

-- Whether these partitions and clear notes make a whole chain, as the chain of notes has it.
abbrev pub hang_together_by : List PartitionParts → List NoteParts → Bool
hang_together_by parts clear = (count_by (λ p. is_header p.pack.part) parts == 1)
    && (count_by (λ p. is_footer p.pack.part) parts == 1) && list_all (is_linked parts) parts
    && list_all (λ p. not (is_footer p.pack.part) || is_greatest parts p) parts && list_all is_no_unreadable_pack clear

-- The partitions of a well-formed file, their links and their chain.
pub partitions-laid : (l : List PacketParts) → IsWellFormed l → HasPartitionsOf (notes_from 0 l) l
partitions-laid l w =
    let notes : List NoteParts = notes_from 0 l in
    let parts : List PartitionParts = partitions_read 0 l in
    let same : partitions_of notes ≡ parts = partitions_of-laid 0 l in
    let header : BeginsAtZero parts = header_first l w.header w.readable in
    let footer : EndsInFooter parts = footer_last l w.footer w.readable in
    let rising : IsRisingFrom 0 parts = rising-read 0 l in
    let linked : AreLinked parts = all_linked parts header rising w.previous in
    let whole : hang_together_by parts notes ≡ true =
    rw (one_header parts header, one_footer parts footer, linked.linked, footers_greatest parts footer rising)
    (readable-laid 0 l w.readable) in
    let read : chain_read parts ≡ Whole = rw (linked.some, ends_in_footer parts footer) refl in
    record {
      disputes = no_disputes-laid 0 l;
      gaps = no_gaps-laid 0 l;
      partitions = same;
      links = subst (λ ps. (offset : ℕ) → link_at offset ps ≡ link_read_at offset (links_read None parts)) (sym same)
          linked.links;
      chain = (λ i. cond (hang_together_by (same i) (clear-laid 0 l i)) Whole Broken) ∙ rw whole (sym read);
    }
