-- For each cell a mark fits: of each it is known whether what it says is true.
use Rattle.mxf_views.proofs.Common.{◌≡◌, ◌⊎◌, ◌<◌, ◌≤◌, ◌+◌, ◌-◌, ℕ, zero, suc, Bool, true, false, List, [], ◌∷◌, refl}
use Rattle.mxf_views.proofs.Common.{sym, subst, inl, inr, arith, ap, ◌∙◌, cases_lt, NoteParts, IsInSpan}
use Rattle.mxf_views.proofs.Common.{kind_of, In, clear_notes, In-clear_notes, PartitionParts, partitions_of, LiesIn}
use Rattle.mxf_sets.specs.declared.pack.part.PackPart.{PackPart}
use Rattle.mxf_places.specs.AtHand.{KnownParts, has_offset}
use Rattle.mxf_places.specs.Held.{IsDisputedAt, IsHeld, is_disputed_at, is_held}
use Rattle.mxf_map.specs.Layers.{IsOfZone, is_of_zone, is_part, is_random_index}
use Rattle.mxf_map.specs.Map.{HasByteOf, HasOffset, HasPartition, IsInCell, IsMark, NoneHeld, Says, rank}
use Rattle.mxf_restore.specs.Missing.{missing_places}
use Rattle.mxf_map.specs.declared.map.Mark.{Mark}
use Rattle.mxf_places.specs.declared.stretch.Zone.{Zone}
use Rattle.mxf_places.proofs.AtHandLaws.{has_offset-says}
use Rattle.mxf_places.proofs.HeldLaws.{is_disputed_at-says, is_held-says}
use Rattle.mxf_map.proofs.LayerLaws.{part_itself, part_says, random_index_says, zone_says, zone_tells}
use Rattle.mxf_map.proofs.MarkLaws.{at_rank, ranked}
use Rattle.mxf_klv.specs.declared.kinds.Kind.TheVariants as kinds
use Rattle.mxf_sets.specs.declared.pack.part.PackPart.TheVariants as parts
use Rattle.mxf_map.specs.declared.map.Mark.TheVariants as marks
use Rattle.mxf_places.specs.declared.stretch.Zone.TheVariants as zones

-- It is known whether something is true.
abbrev Known : Type 0 → Type 0
Known P = P ⊎ ¬ P

by_test : (P : Type 0) (b : Bool) → (b ≡ true → P) → (P → b ≡ true) → Known P
by_test P true f g = inl (f refl)
by_test P false f g = inr (λ p. let t = g p in cc (t))

both : (P Q : Type 0) → Known P → Known Q → Known (P × Q)
both P Q (inl p) (inl q) = inl (p, q)
both P Q (inl p) (inr n) = inr (λ s. n s.1)
both P Q (inr n) q = inr (λ s. n s.0)

denied : (P : Type 0) → Known P → Known (¬ P)
denied P (inl p) = inr (λ n. n p)
denied P (inr n) = inl n

-- One of a list, or one of a range.
any_in : {K : Type 0} (P : K → Type 0) → ((x : K) → Known (P x)) → (xs : List K) → Known ((x : K) × In x xs × P x)
any_in P known [] = inr (λ s. s.1)
any_in P known (x ∷ xs) =
    elim (known x) [
      | inl p ↦ inl (x, inl refl, p)
      | inr n ↦ elim (any_in P known xs) [
        | inl s ↦ inl (s.0, inr s.1, s.2)
        | inr m ↦ inr (λ s. elim s.1 [ inl e ↦ n (subst P e s.2) | inr k ↦ m (s.0, k, s.2) ])
      ]
    ]

any_of : (P : ℕ → Type 0) → ((x : ℕ) → Known (P x)) → (from len : ℕ)
    → Known ((x : ℕ) × IsInCell from (from + len) x × P x)
any_of P known from zero = inr (λ s. let l = s.1.above in let r = s.1.below in absurd (omega (arith, l, r)))
any_of P known from (suc len) =
    elim (known (from + len)) [
      | inl p ↦ inl (from + len, record { above = omega arith; below = omega arith }, p)
      | inr n ↦ elim (any_of P known from len) [
        | inl s ↦
            let l = s.1.above in
            let r = s.1.below in
            inl (s.0, record { above = omega (arith, l); below = omega (arith, r) }, s.2)
        | inr m ↦ inr (λ s.
            let l = s.1.above in
            let r = s.1.below in
            elim (cases_lt s.0 (from + len)) [
              | inl below ↦ m (s.0, record { above = l; below = below }, s.2)
              | inr above ↦
                  let same : s.0 ≡ from + len = omega (arith, above, r) in n (subst P same s.2)
            ])
      ]
    ]

any_in_cell : (P : ℕ → Type 0) → ((x : ℕ) → Known (P x)) → (from to : ℕ) → Known ((x : ℕ) × IsInCell from to x × P x)
any_in_cell P known from to =
    elim (any_of P known from (to - from)) [
      | inl s ↦
          let l = s.1.above in
          let r = s.1.below in inl (s.0, record { above = l; below = omega (arith, l, r) }, s.2)
      | inr n ↦ inr (λ s.
          let l = s.1.above in
          let r = s.1.below in n (s.0, record { above = l; below = omega (arith, l, r) }, s.2))
    ]

in_cell : (from to x : ℕ) → Known (IsInCell from to x)
in_cell from to x = grind (arith, cases_lt)

in_span : (n : NoteParts) (x : ℕ) → Known (IsInSpan n x)
in_span n x = grind (arith, cases_lt)

held : (notes : List NoteParts) (x : ℕ) → Known (IsHeld notes x)
held notes x = let s = is_held-says notes x in by_test (IsHeld notes x) (is_held notes x) s.0 s.1

partition_known : (notes : List NoteParts) (from to : ℕ) (part : PackPart) → Known (HasPartition notes from to part)
partition_known notes from to part =
    let P = λ (p : PartitionParts). (p.pack.part ≡ part) × IsInCell from to p.offset in
    elim (any_in P (λ p. both (p.pack.part ≡ part) (IsInCell from to p.offset)
    (by_test (p.pack.part ≡ part) (is_part p.pack.part part) (part_says p.pack.part part)
    (λ e. subst (λ (q : PackPart). is_part p.pack.part q ≡ true) e (part_itself p.pack.part)))
    (in_cell from to p.offset)) (partitions_of notes)) [
      | inl s ↦ inl (s.0, s.1, s.2.0, s.2.1)
      | inr n ↦ inr (λ s. n (s.0, s.1, (s.2, s.3)))
    ]

random_index_known : (file : KnownParts) (from to : ℕ) → Known (Says file from to marks.RandomIndex)
random_index_known file from to =
    let P = λ (n : NoteParts). (kind_of n.key ≡ kinds.Rip) × IsInCell from to n.offset in
    elim (any_in P (λ n. both (kind_of n.key ≡ kinds.Rip) (IsInCell from to n.offset)
    (let s = random_index_says (kind_of n.key) in
    by_test (kind_of n.key ≡ kinds.Rip) (is_random_index (kind_of n.key)) s.0 s.1)
    (in_cell from to n.offset)) (clear_notes file.notes)) [
      | inl s ↦ inl (s.0, (In-clear_notes s.0 file.notes).0 s.1, s.2.0, s.2.1)
      | inr m ↦ inr (λ s. m (s.0, (In-clear_notes s.0 file.notes).1 s.1, (s.2, s.3)))
    ]

zone_known : (notes : List NoteParts) (from to : ℕ) (zone : Zone) → Known (HasByteOf notes from to (IsOfZone zone))
zone_known notes from to zone =
    let B = λ (n : NoteParts). (x : ℕ) × IsInCell from to x × IsInSpan n x in
    let P = λ (n : NoteParts). IsOfZone zone (kind_of n.key) × B n in
    elim (any_in P (λ n. both (IsOfZone zone (kind_of n.key)) (B n)
    (by_test (IsOfZone zone (kind_of n.key)) (is_of_zone zone (kind_of n.key)) (zone_says zone (kind_of n.key))
    (zone_tells zone (kind_of n.key)))
    (any_in_cell (IsInSpan n) (in_span n) from to)) (clear_notes notes)) [
      | inl s ↦ inl (s.0, (In-clear_notes s.0 notes).0 s.1, s.2.0, s.2.1)
      | inr m ↦ inr (λ s. m (s.0, (In-clear_notes s.0 notes).1 s.1, (s.2, s.3)))
    ]

none_known : (notes : List NoteParts) (from to : ℕ) → Known (NoneHeld notes from to)
none_known notes from to =
    elim (any_in_cell (IsHeld notes) (held notes) from to) [
      | inl s ↦ inr (λ f. f s.0 s.1 s.2)
      | inr n ↦ inl (λ x cell h. n (x, cell, h))
    ]

known : (file : KnownParts) (from to : ℕ) (m : Mark) → Known (Says file from to m)
known file from to marks.Disputed =
    any_in_cell (IsDisputedAt file.notes) (λ x. let s = is_disputed_at-says file.notes x in
    by_test (IsDisputedAt file.notes x) (is_disputed_at file.notes x) s.0 s.1) from to
known file from to marks.Header = partition_known file.notes from to parts.Header
known file from to marks.Footer = partition_known file.notes from to parts.Footer
known file from to marks.Body = partition_known file.notes from to parts.Body
known file from to marks.RandomIndex = random_index_known file from to
known file from to marks.Missing = any_in (IsInCell from to) (in_cell from to) (missing_places file.notes)
known file from to marks.Hand =
    both (NoneHeld file.notes from to) (HasOffset file.at.hand from to) (none_known file.notes from to)
    (any_in_cell (LiesIn file.at.hand) (λ x. let s = has_offset-says file.at.hand x in
    by_test (LiesIn file.at.hand x) (has_offset file.at.hand x) s.0 s.1) from to)
known file from to marks.Empty = none_known file.notes from to
known file from to marks.Part =
    any_in_cell (λ x. ¬ IsHeld file.notes x) (λ x. denied (IsHeld file.notes x) (held file.notes x)) from to
known file from to marks.Metadata = zone_known file.notes from to zones.Metadata
known file from to marks.Index = zone_known file.notes from to zones.Index
known file from to marks.Whole = inl tt

-- The mark at a number has no greater rank.
rank_at : (i : ℕ) → rank (at_rank i) ≤ i
rank_at zero = omega arith
rank_at (suc zero) = omega arith
rank_at (suc (suc zero)) = omega arith
rank_at (suc (suc (suc zero))) = omega arith
rank_at (suc (suc (suc (suc zero)))) = omega arith
rank_at (suc (suc (suc (suc (suc zero))))) = omega arith
rank_at (suc (suc (suc (suc (suc (suc zero)))))) = omega arith
rank_at (suc (suc (suc (suc (suc (suc (suc zero))))))) = omega arith
rank_at (suc (suc (suc (suc (suc (suc (suc (suc zero)))))))) = omega arith
rank_at (suc (suc (suc (suc (suc (suc (suc (suc (suc zero))))))))) = omega arith
rank_at (suc (suc (suc (suc (suc (suc (suc (suc (suc (suc zero)))))))))) = omega arith
rank_at (suc (suc (suc (suc (suc (suc (suc (suc (suc (suc (suc i))))))))))) = omega arith

-- The first mark that says something true, or none below a rank.
first_below : (file : KnownParts) (from to i : ℕ)
    → ((m : Mark) × IsMark file from to m) ⊎ ((other : Mark) → rank other < i → ¬ Says file from to other)
first_below file from to zero = inr (λ other l says. absurd (omega (arith, l)))
first_below file from to (suc i) =
    elim (first_below file from to i) [
      | inl s ↦ inl s
      | inr none ↦ elim (known file from to (at_rank i)) [
        | inl says ↦ elim (cases_lt (rank (at_rank i)) i) [
          | inl l ↦ absurd (none (at_rank i) l says)
          | inr g ↦ inl (
            at_rank i,
            record { says = says; first = λ other l. none other (let r = rank_at i in omega (arith, l, r)) },
          )
        ]
        | inr not_here ↦ inr (λ other l says. elim (cases_lt (rank other) i) [
          | inl below ↦ none other below says
          | inr above ↦
              let same : rank other ≡ i = omega (arith, l, above) in
              not_here (subst (λ (m : Mark). Says file from to m) (sym (ap at_rank (sym same) ∙ ranked other)) says)
        ])
      ]
    ]

-- For each cell a mark fits.
pub some_mark : (file : KnownParts) (from to : ℕ) → (m : Mark) × IsMark file from to m
some_mark file from to =
    elim (first_below file from to 12) [ inl s ↦ s | inr none ↦ absurd (none marks.Whole (omega arith) tt) ]
