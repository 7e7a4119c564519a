-- What may lie in a cell of a map, as lists and as relations.
use Rattle.mxf_views.proofs.Common.{◌≡◌, ◌↔◌, ◌∙◌, ◌<◌, ◌≤◌, ◌+◌, ◌||◌, ℕ, Bool, true, not, List, [], ◌∷◌, refl}
use Rattle.mxf_views.proofs.Common.{sym, ap, subst, inl, inr, arith, map, filter, filter_map, Option, Some, None}
use Rattle.mxf_views.proofs.Common.{Result, Ok, Err, IfOk, if◌then◌else◌, AllByRecursion, and_parts}
use Rattle.mxf_views.proofs.Common.{Contains-permutation, IsPermutation-sym, IsPermutation, option_map_or}
use Rattle.mxf_views.proofs.Common.{Contains-from_In, In-from_Contains, three_parts, NoteParts, IsNote, greatest_end}
use Rattle.mxf_views.proofs.Common.{kind_of, In, SameMembers, In-filter, In-map, all-In, all_from_In, IsCatalogue}
use Rattle.mxf_views.proofs.Common.{union_of_runs, union_of_runs-IsUnion, clear_notes, run_of, IsWithin, LiesIn, run}
use Rattle.mxf_views.proofs.Common.{In-clear_notes, IsSetKind, preface, identification, storage, material_package}
use Rattle.mxf_views.proofs.Common.{source_package, raw_set, PartitionParts, partitions_of}
use Rattle.mxf_klv.specs.declared.kinds.Kind.{Kind}
use Rattle.mxf_sets.specs.declared.pack.part.PackPart.{PackPart}
use Rattle.mxf_catalogue.specs.declared.run.Run.{Run}
use Rattle.mxf_catalogue.specs.declared.cover.Cover.{Cover}
use Rattle.std.proofs.lemmas.Bool.{ltb-true}
use Rattle.std.specs.Option.{option_and_then}
use Rattle.std.specs.Prelude.{nat_lt}
use Rattle.mxf_views.proofs.PartitionLaws.{partitions_are}
use Rattle.mxf_places.specs.declared.claim.Claim.{Claim}
use Rattle.mxf_places.specs.declared.stretch.Zone.{Zone}
use Rattle.mxf_places.specs.Claims.{claims_of, named_place}
use Rattle.mxf_places.specs.Held.{begins_clear_head, end_of_file, is_disputed_at, is_held, is_in_file}
use Rattle.mxf_restore.specs.Missing.{is_missing, missing_places}
use Rattle.mxf_map.specs.Layers.{missing_place, AreOffsets, BeginsPartition, BeginsRandomIndex, IsOfZone, LiesInZone}
use Rattle.mxf_map.specs.Layers.{is_of_zone, is_part, is_random_index, partition_offsets, random_index_offsets}
use Rattle.mxf_map.specs.Layers.{zone_notes}
use Rattle.mxf_klv.specs.declared.kinds.Kind.TheVariants as kinds
use Rattle.mxf_sets.specs.declared.pack.part.PackPart.TheVariants as parts
use Rattle.mxf_places.specs.declared.stretch.Zone.TheVariants as zones

-- ---- sets of offsets

-- The runs of a union with none are those of the other.
union_all : (runs : List Run) (x : ℕ) → LiesIn (union_of_runs [] runs) x ↔ LiesIn runs x
union_all runs x =
    let both = union_of_runs-IsUnion [] runs x in
    (λ h. elim (both.0 h) [ inl k ↦ absurd k.1 | inr k ↦ k ], λ h. both.1 (inr h))

abbrev pub first_byte : ℕ → Run
first_byte x = run x (x + 1)

pub offsets_are : (xs : List ℕ) → AreOffsets (λ x. In x xs) (union_of_runs [] (map first_byte xs))
offsets_are xs x =
    let all = union_all (map first_byte xs) x in (
      λ h.
          let l = all.0 h in
          let s = (In-map first_byte xs l.0).0 l.1 in
          let w = subst (λ (r : Run). IsWithin r x) s.2 l.2 in
          let from : s.0 ≤ x = w.from in
          let before : x + 1 ≤ s.0 + 1 = w.before in
          let same : s.0 ≡ x = omega (arith, from, before) in subst (λ (y : ℕ). In y xs) same s.1,
      λ h. all.1 (
        first_byte x,
        (In-map first_byte xs (first_byte x)).1 (x, h, refl),
        record { from = omega arith; before = omega arith },
      ),
    )

-- A set of offsets that are those of which something holds.
pub offsets_of : {E : Type 0} (result : Result Cover E) (xs ys : List ℕ) (P : ℕ → Type 0) → xs ≡ ys
    → ((x : ℕ) → In x ys ↔ P x) → IfOk result (λ c. AreOffsets (λ x. In x xs) c) → IfOk result (λ c. AreOffsets P c)
offsets_of (Ok c) xs ys P e f a = grind arith
offsets_of (Err f) xs ys P e g a = tt

-- ---- partitions

pub part_says : (p q : PackPart) → is_part p q ≡ true → p ≡ q
part_says parts.Header parts.Header e = refl
part_says parts.Body parts.Body e = refl
part_says parts.Footer parts.Footer e = refl
part_says _ _ e = absurd cc

pub part_itself : (p : PackPart) → is_part p p ≡ true
part_itself parts.Header = refl
part_itself parts.Body = refl
part_itself parts.Footer = refl

pub partitions_begin : (notes : List NoteParts) (part : PackPart) (x : ℕ)
    → In x (partition_offsets part (partitions_of notes)) ↔ BeginsPartition notes part x
partitions_begin notes part x =
    let test = λ (p : PartitionParts). is_part p.pack.part part in
    let m = In-map (λ (p : PartitionParts). p.offset) (filter test (partitions_of notes)) x in (
      λ h.
          let s = m.0 h in
          let k = (In-filter test (partitions_of notes) s.0).0 s.1 in
          (s.0, k.0, part_says s.0.pack.part part k.1, sym s.2),
      λ h. m.1 (
        h.0,
        (In-filter test (partitions_of notes) h.0).1
            (h.1, subst (λ q. is_part h.0.pack.part q ≡ true) h.2 (part_itself h.0.pack.part)),
        sym h.3,
      ),
    )

-- No note begins as far as the greatest end.
note_below : (notes : List NoteParts) (n : NoteParts) → IsCatalogue notes → In n notes → n.offset < greatest_end
note_below notes n is h = let k = all-In IsNote notes n is.members h in let w = k.within in omega (arith, w)

pub partitions_within : (notes : List NoteParts) (part : PackPart) → IsCatalogue notes
    → AllByRecursion (λ x. x < greatest_end) (partition_offsets part (partitions_of notes))
partitions_within notes part is =
    all_from_In (λ x. x < greatest_end) (partition_offsets part (partitions_of notes)) (λ x h.
    let b = (partitions_begin notes part x).0 h in
    let p = (partitions_are notes b.0).0 b.1 in
    let l = note_below notes p.0 is p.1.held in
    let at = p.2.offset in
    let same = b.3 in omega (arith, l, at, same))

-- ---- random index packs

pub random_index_says : (k : Kind) → (is_random_index k ≡ true) ↔ (k ≡ kinds.Rip)
random_index_says kinds.Rip = (λ e. refl, λ e. refl)
random_index_says _ = (λ e. absurd cc, λ e. absurd cc)

pub random_index_begin : (notes : List NoteParts) (x : ℕ)
    → In x (random_index_offsets (clear_notes notes)) ↔ BeginsRandomIndex notes x
random_index_begin notes x =
    let test = λ (n : NoteParts). is_random_index (kind_of n.key) in
    let m = In-map (λ (n : NoteParts). n.offset) (filter test (clear_notes notes)) x in (
      λ h.
          let s = m.0 h in
          let k = (In-filter test (clear_notes notes) s.0).0 s.1 in
          (s.0, (In-clear_notes s.0 notes).0 k.0, (random_index_says (kind_of s.0.key)).0 k.1, sym s.2),
      λ h. m.1 (
        h.0,
        (In-filter test (clear_notes notes) h.0).1
            ((In-clear_notes h.0 notes).1 h.1, (random_index_says (kind_of h.0.key)).1 h.2),
        sym h.3,
      ),
    )

pub random_index_within : (notes : List NoteParts) → IsCatalogue notes
    → AllByRecursion (λ x. x < greatest_end) (random_index_offsets (clear_notes notes))
random_index_within notes is = all_from_In (λ x. x < greatest_end) (random_index_offsets (clear_notes notes)) (λ x h.
    let b = (random_index_begin notes x).0 h in
    let l = note_below notes b.0 is b.1.held in
    let same = b.3 in omega (arith, l, same))

-- ---- packets of a zone

pub zone_says : (zone : Zone) (k : Kind) → is_of_zone zone k ≡ true → IsOfZone zone k
zone_says zones.Metadata kinds.Primer e = inl refl
zone_says zones.Metadata kinds.Preface e = inr (preface refl)
zone_says zones.Metadata kinds.Identification e = inr (identification refl)
zone_says zones.Metadata kinds.ContentStorage e = inr (storage refl)
zone_says zones.Metadata kinds.MaterialPackage e = inr (material_package refl)
zone_says zones.Metadata kinds.SourcePackage e = inr (source_package refl)
zone_says zones.Metadata kinds.RawSet e = inr (raw_set refl)
zone_says zones.Metadata _ e = absurd cc
zone_says zones.Index kinds.Segment e = refl
zone_says zones.Index _ e = absurd cc

set_in_zone : (k : Kind) → IsSetKind k → is_of_zone zones.Metadata k ≡ true
set_in_zone k (preface e) = ap (is_of_zone zones.Metadata) e
set_in_zone k (identification e) = ap (is_of_zone zones.Metadata) e
set_in_zone k (storage e) = ap (is_of_zone zones.Metadata) e
set_in_zone k (material_package e) = ap (is_of_zone zones.Metadata) e
set_in_zone k (source_package e) = ap (is_of_zone zones.Metadata) e
set_in_zone k (raw_set e) = ap (is_of_zone zones.Metadata) e

pub zone_tells : (zone : Zone) (k : Kind) → IsOfZone zone k → is_of_zone zone k ≡ true
zone_tells zones.Metadata k (inl e) = ap (is_of_zone zones.Metadata) e
zone_tells zones.Metadata k (inr s) = set_in_zone k s
zone_tells zones.Index k e = ap (is_of_zone zones.Index) e

pub zone_are : (notes : List NoteParts) (zone : Zone)
    → AreOffsets (LiesInZone notes zone) (union_of_runs [] (map run_of (zone_notes zone (clear_notes notes))))
zone_are notes zone x =
    let test = λ (n : NoteParts). is_of_zone zone (kind_of n.key) in
    let all = union_all (map run_of (zone_notes zone (clear_notes notes))) x in (
      λ h.
          let l = all.0 h in
          let s = (In-map run_of (zone_notes zone (clear_notes notes)) l.0).0 l.1 in
          let k = (In-filter test (clear_notes notes) s.0).0 s.1 in
          let w = subst (λ (r : Run). IsWithin r x) s.2 l.2 in (
            s.0,
            (In-clear_notes s.0 notes).0 k.0,
            zone_says zone (kind_of s.0.key) k.1,
            record { from = w.from; before = w.before },
          ),
      λ h. all.1 (
        run_of h.0,
        (In-map run_of (zone_notes zone (clear_notes notes)) (run_of h.0)).1 (
          h.0,
          (In-filter test (clear_notes notes) h.0).1
              ((In-clear_notes h.0 notes).1 h.1, zone_tells zone (kind_of h.0.key) h.2),
          refl,
        ),
        record { from = h.3.from; before = h.3.before },
      ),
    )

-- ---- missing places

-- What is kept of what is mapped is what is mapped and kept.
kept_left : (p : ℕ → Bool) (f : Claim → Option ℕ) (claims : List Claim) → filter p (filter_map f claims)
    ≡ filter_map (λ c. option_and_then (λ x. if p x then Some x else None) (f c)) claims
kept_left p f [] = refl
kept_left p f (c ∷ claims) = grind (arith, filter_map, kept_left p f claims)

pub missing_members : (notes : List NoteParts) (xs ys : List ℕ)
    → xs ≡ filter_map (missing_place notes) (claims_of notes) → IsPermutation xs ys
    → SameMembers ys (missing_places notes)
unfolding missing_places
missing_members notes xs ys e p x =
    let same : xs ≡ missing_places notes = e ∙ sym (kept_left (is_missing notes) named_place (claims_of notes)) in (
      λ h. subst (In x) same (In-from_Contains x xs
          (Contains-permutation ys xs x (IsPermutation-sym xs ys p) (Contains-from_In x ys h))),
      λ h. In-from_Contains x ys (Contains-permutation xs ys x p (Contains-from_In x xs (subst (In x) (sym same) h))),
    )

missing_below : (notes : List NoteParts) (x : ℕ) → In x (missing_places notes) → x < greatest_end
unfolding missing_places
missing_below notes x h =
    let k = (In-filter (is_missing notes) (filter_map named_place (claims_of notes)) x).0 h in
    let t = (three_parts (is_in_file notes x) (not (is_disputed_at notes x))
    (begins_clear_head notes x || not (is_held notes x)) k.1).0 in
    ltb-true x greatest_end (and_parts (nat_lt x greatest_end)
    (option_map_or (λ e. nat_lt x e) (end_of_file notes) true) t).0

pub missing_within : (notes : List NoteParts) (xs : List ℕ) → SameMembers xs (missing_places notes)
    → AllByRecursion (λ x. x < greatest_end) xs
missing_within notes xs s = all_from_In (λ x. x < greatest_end) xs (λ x h. missing_below notes x ((s x).0 h))
