-- The TemporalOffset that a unit says is a number of one byte (ST 377-1, Index Table Segment).
use Rattle.mxf_views.proofs.Common.{◌≡◌, ℕ, Bool, true, false, List, [], ◌∷◌, Option, None, Some, refl}
use Rattle.mxf_views.proofs.Common.{subst, arith, inl, inr, filter_map, if◌then◌else◌, nat_lt, option_map, ltb-true}
use Rattle.mxf_views.proofs.Common.{ltb-false, unsigned_abs, In, In-filter_map, index_entry, SegmentAtParts}
use Rattle.std.specs.Prelude.{ℤ, pos, negsuc, ◌≤ℤ◌, ◌-◌, suc}
use Rattle.std.specs.Int.{w8, cast_signed}
use Rattle.std.proofs.lemmas.Int.{ints}
use Rattle.mxf_sets.specs.Segment.{is_constant}
use Rattle.mxf_sets.specs.Offset.{covers_entry, entry_at}
use Rattle.mxf_sets.specs.declared.segment.offset.IndexEntry.{IndexEntry}
use Rattle.mxf_places.specs.AtHand.{KnownParts}
use Rattle.mxf_units.specs.Streams.{entry_of, is_other_entry, only_entry, segments_for}
use Rattle.mxf_units.specs.Units.{unit_of}

-- A number of one byte, with a sign.
pub record IsByte (t : ℤ) : Type 0 where
  pub low : negsuc 127 ≤ℤ t
  pub high : t ≤ℤ pos 127

byte_of : (n : ℕ) → IsByte (cast_signed w8 n)
byte_of n = elim (nat_lt n 128) as (λ b. nat_lt n 128 ≡ b → IsByte (if b then pos n else negsuc (256 - suc n))) [
  | true ↦ λ e.
      let low = ltb-true n 128 e in
      record { low = omega (arith, ints); high = omega (arith, ints, low) }
  | false ↦ λ e.
      let high = ltb-false n 128 e in
      record { low = omega (arith, ints, high); high = omega (arith, ints) }
] refl

chosen : (b c : Bool) (x e : IndexEntry) → (if b then None else (if c then Some x else None)) ≡ Some e → x ≡ e
chosen true c x e h = absurd cc
chosen false true x e h = cc
chosen false false x e h = absurd cc

entry_byte : (s : SegmentAtParts) (unit : ℕ) (e : IndexEntry) → index_entry s.segment unit ≡ Some e
    → IsByte e.temporal_offset
entry_byte s unit e h =
    let x = entry_at s.segment (unit - unsigned_abs s.segment.numbers.start) in
    subst (λ (e : IndexEntry). IsByte e.temporal_offset)
    (chosen (is_constant s.segment.numbers) (covers_entry s.segment unit) x e h) (byte_of _)

walked : (seen : Option IndexEntry) (xs : List IndexEntry) (e : IndexEntry)
    → ((d : IndexEntry) → seen ≡ Some d → IsByte d.temporal_offset)
    → ((d : IndexEntry) → In d xs → IsByte d.temporal_offset) → only_entry seen xs ≡ Some e
    → IsByte e.temporal_offset
walked seen [] e first all h = first e h
walked seen (x ∷ xs) e first all h =
    elim (is_other_entry seen x) as (λ b. (if b then None else only_entry (Some x) xs) ≡ Some e
    → IsByte e.temporal_offset) [
      | true ↦ λ k. absurd cc
      | false ↦ λ k. walked (Some x) xs e
          (λ d same. let is : x ≡ d = cc in subst (λ (d : IndexEntry). IsByte d.temporal_offset) is (all x (inl refl)))
          (λ d i. all d (inr i)) k
    ] h

listed_byte : (segments : List SegmentAtParts) (unit : ℕ) (d : IndexEntry)
    → In d (filter_map (λ (s : SegmentAtParts). index_entry s.segment unit) segments) → IsByte d.temporal_offset
listed_byte segments unit d i =
    let s = (In-filter_map (λ (s : SegmentAtParts). index_entry s.segment unit) segments d).0 i in
    entry_byte s.0 unit d s.2

pub one_byte : (known : KnownParts) (index_sid unit : ℕ) (t : ℤ)
    → (unit_of known index_sid unit).temporal ≡ Some t → IsByte t
unfolding unit_of
one_byte known index_sid unit t h =
    let segments = segments_for known.notes index_sid in
    elim (entry_of segments unit) as (λ o. entry_of segments unit ≡ o
    → option_map (λ (e : IndexEntry). e.temporal_offset) o ≡ Some t → IsByte t) [
      | None ↦ λ is k. absurd cc
      | Some d ↦ λ is k.
          let same : d.temporal_offset ≡ t = cc in
          subst IsByte same (walked None (filter_map (λ (s : SegmentAtParts). index_entry s.segment unit) segments) d
          (λ d none. absurd (cc none)) (listed_byte segments unit) is)
    ] refl h
