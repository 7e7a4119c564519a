-- What the marks of cells say, by sets of offsets.
use Rattle.mxf_views.proofs.Common.{◌≡◌, ◌↔◌, ◌⊎◌, ◌<◌, ◌≤◌, ◌+◌, ◌-◌, ℕ, zero, suc, Bool, true, false, not, IsTrue}
use Rattle.mxf_views.proofs.Common.{List, [], ◌∷◌, refl, sym, subst, inl, inr, arith, get_or, length, min}
use Rattle.mxf_views.proofs.Common.{cases_lt, not-true-false, not_true, NoteParts, In, LiesIn}
use Rattle.mxf_sets.specs.declared.pack.part.PackPart.{PackPart}
use Rattle.mxf_catalogue.specs.declared.run.Run.{Run}
use Rattle.mxf_places.specs.AtHand.{KnownParts}
use Rattle.mxf_places.specs.Held.{IsHeld, is_held}
use Rattle.mxf_map.specs.Layers.{AreOffsets, BeginsPartition, BeginsRandomIndex, IsOfZone, LiesInZone, marks_in_order}
use Rattle.mxf_map.specs.Map.{AreMarks, HasByteOf, HasPartition, IsMark, Says, rank, IsMap, MapParts}
use Rattle.mxf_restore.specs.Missing.{missing_places}
use Rattle.mxf_map.specs.declared.map.Mark.{Mark}
use Rattle.mxf_places.specs.declared.stretch.Zone.{Zone}
use Rattle.mxf_places.proofs.HeldLaws.{is_held-says}
use Rattle.mxf_map.specs.declared.map.Mark.TheVariants as marks

-- A test of one mark of what is known is one of an equal mark of what is equal.
pub told : (part all : KnownParts) (from to : ℕ) (mark given : Mark) (b : Bool) → part ≡ all → mark ≡ given
    → IsTrue b ↔ Says part from to given → IsTrue b ↔ Says all from to mark
told part all from to mark given b e f h = subst (λ (k : KnownParts). IsTrue b ↔ Says k from to mark) e
    (subst (λ (m : Mark). IsTrue b ↔ Says part from to m) (sym f) h)

-- An offset of a set lies from one up to another.
abbrev pub Meets : List Run → ℕ → ℕ → Bool → Type 0
Meets runs from to b = IsTrue b ↔ ((at : ℕ) × LiesIn runs at × (from ≤ at) × (at < to))

pub partition_met : (notes : List NoteParts) (from to : ℕ) (part : PackPart) (runs : List Run) (b : Bool)
    → AreOffsets (BeginsPartition notes part) runs → Meets runs from to b → IsTrue b ↔ HasPartition notes from to part
partition_met notes from to part runs b are meets = (
  λ h.
      let s = meets.0 h in
      let p = (are s.0).0 s.1 in
      let above = s.2 in
      let below = s.3 in
      let same = p.3 in
      (p.0, p.1, p.2, record { above = omega (arith, above, same); below = omega (arith, below, same) }),
  λ h. meets.1 (h.0.offset, (are h.0.offset).1 (h.0, h.1, h.2, refl), h.3.above, h.3.below),
)

pub random_index_met : (known : KnownParts) (from to : ℕ) (runs : List Run) (b : Bool)
    → AreOffsets (BeginsRandomIndex known.notes) runs → Meets runs from to b
    → IsTrue b ↔ Says known from to marks.RandomIndex
random_index_met known from to runs b are meets = (
  λ h.
      let s = meets.0 h in
      let n = (are s.0).0 s.1 in
      let above = s.2 in
      let below = s.3 in
      let same = n.3 in
      (n.0, n.1, n.2, record { above = omega (arith, above, same); below = omega (arith, below, same) }),
  λ h. meets.1 (h.0.offset, (are h.0.offset).1 (h.0, h.1, h.2, refl), h.3.above, h.3.below),
)

pub missing_met : (known : KnownParts) (from to : ℕ) (runs : List Run) (b : Bool)
    → AreOffsets (λ x. In x (missing_places known.notes)) runs → Meets runs from to b
    → IsTrue b ↔ Says known from to marks.Missing
missing_met known from to runs b are meets = (
  λ h. let s = meets.0 h in (s.0, (are s.0).0 s.1, record { above = s.2; below = s.3 }),
  λ h. meets.1 (h.0, (are h.0).1 h.1, h.2.above, h.2.below),
)

pub zone_met : (notes : List NoteParts) (from to : ℕ) (zone : Zone) (runs : List Run) (b : Bool)
    → AreOffsets (LiesInZone notes zone) runs → Meets runs from to b
    → IsTrue b ↔ HasByteOf notes from to (IsOfZone zone)
zone_met notes from to zone runs b are meets = (
  λ h.
      let s = meets.0 h in
      let n = (are s.0).0 s.1 in
      (n.0, n.1, n.2, (s.0, record { above = s.2; below = s.3 }, n.3)),
  λ h. meets.1 (h.3.0, (are h.3.0).1 (h.0, h.1, h.2, h.3.2), h.3.1.above, h.3.1.below),
)

pub none_held : (known : KnownParts) (from to : ℕ) (b : Bool)
    → IsTrue b ↔ ((at : ℕ) × IsHeld known.notes at × (from ≤ at) × (at < to))
    → IsTrue (not b) ↔ Says known from to marks.Empty
none_held known from to b is = (
  λ h x cell held. not-true-false b h (is.1 (x, held, cell.above, cell.below)),
  λ f. not_true b (λ t. let s = is.0 t in f s.0 record { above = s.2; below = s.3 } s.1),
)

-- Where nothing of a cell is held it has a byte at hand where an offset of the runs lies in it, and else it hasn't.
pub hand_met : (known : KnownParts) (from to : ℕ) (held hand : Bool)
    → IsTrue held ↔ ((at : ℕ) × IsHeld known.notes at × (from ≤ at) × (at < to)) → Meets known.at.hand from to hand
    → held ≡ false → IsTrue hand ↔ Says known from to marks.Hand
hand_met known from to held hand is meets none = grind (arith, none_held)

pub hand_denied : (known : KnownParts) (from to : ℕ) (held : Bool)
    → IsTrue held ↔ ((at : ℕ) × IsHeld known.notes at × (from ≤ at) × (at < to)) → held ≡ true
    → IsTrue (not held) ↔ Says known from to marks.Hand
hand_denied known from to held is some =
    (λ h. absurd (not-true-false held h some), λ s. (none_held known from to held is).1 s.0)

-- All numbers of a range pass a test, or some doesn't.
all_or_some : (p : ℕ → Bool) (from len : ℕ) → ((x : ℕ) → from ≤ x → x < from + len → p x ≡ true)
    ⊎ ((x : ℕ) × (from ≤ x) × (x < from + len) × (p x ≡ false))
all_or_some p from zero = inl (λ x l r. absurd (omega arith))
all_or_some p from (suc len) =
    elim (all_or_some p from len) [
      | inr s ↦
          let l = s.1 in
          let r = s.2 in inr (s.0, omega (arith, l), omega (arith, r), s.3)
      | inl all ↦ elim (p (from + len)) as (λ b. p (from + len) ≡ b
          → ((x : ℕ) → from ≤ x → x < from + suc len → p x ≡ true)
          ⊎ ((x : ℕ) × (from ≤ x) × (x < from + suc len) × (p x ≡ false))) [
            | true ↦ λ t. inl (λ x l r. elim (cases_lt x (from + len)) [
              | inl below ↦ all x l below
              | inr above ↦ let same : x ≡ from + len = omega arith in subst (λ y. p y ≡ true) (sym same) t
            ])
            | false ↦ λ t. inr (from + len, omega arith, omega arith, t)
          ] refl
    ]

pub some_lacks : (known : KnownParts) (from to : ℕ) (b : Bool)
    → IsTrue b ↔ ((at : ℕ) → from ≤ at → at < to → IsHeld known.notes at)
    → IsTrue (not b) ↔ Says known from to marks.Part
some_lacks known from to b is = (
  λ h. elim (all_or_some (is_held known.notes) from (to - from)) [
    | inl all ↦ absurd (not-true-false b h
        (is.1 (λ at l r. (is_held-says known.notes at).0 (all at l (omega (arith, l, r))))))
    | inr s ↦
        let l = s.1 in
        let r = s.2 in (
          s.0,
          record { above = omega (arith, l); below = omega (arith, l, r) },
          λ held. let t = (is_held-says known.notes s.0).1 held in let f = s.3 in cc (t, f),
        )
  ],
  λ s. not_true b (λ t. s.2 (is.0 t s.0 s.1.above s.1.below)),
)

-- ---- the first mark

-- A mark stands at its rank.
mark_at : (m d : Mark) → rank m < 11 → get_or marks_in_order (rank m) d ≡ m
mark_at marks.Disputed d h = refl
mark_at marks.Header d h = refl
mark_at marks.Footer d h = refl
mark_at marks.Body d h = refl
mark_at marks.RandomIndex d h = refl
mark_at marks.Missing d h = refl
mark_at marks.Hand d h = refl
mark_at marks.Empty d h = refl
mark_at marks.Part d h = refl
mark_at marks.Metadata d h = refl
mark_at marks.Index d h = refl
mark_at marks.Whole d h = absurd (omega (arith, h))

-- Where one more of the marks says nothing true, none up to it does.
pub none_more : (known : KnownParts) (from to i : ℕ) (d : Mark) (all : List Mark) → all ≡ marks_in_order
    → i < length all → ((other : Mark) → rank other < i → ¬ Says known from to other)
    → ¬ Says known from to (get_or all i d) → (other : Mark) → rank other < i + 1 → ¬ Says known from to other
none_more known from to i d all e within before here other below says = grind (arith, cases_lt, mark_at)

-- Each mark but the last stands at its rank.
rank_at : (i : ℕ) (d : Mark) → i < 11 → rank (get_or marks_in_order i d) ≡ i
rank_at zero d h = refl
rank_at (suc zero) d h = refl
rank_at (suc (suc zero)) d h = refl
rank_at (suc (suc (suc zero))) d h = refl
rank_at (suc (suc (suc (suc zero)))) d h = refl
rank_at (suc (suc (suc (suc (suc zero))))) d h = refl
rank_at (suc (suc (suc (suc (suc (suc zero)))))) d h = refl
rank_at (suc (suc (suc (suc (suc (suc (suc zero))))))) d h = refl
rank_at (suc (suc (suc (suc (suc (suc (suc (suc zero)))))))) d h = refl
rank_at (suc (suc (suc (suc (suc (suc (suc (suc (suc zero))))))))) d h = refl
rank_at (suc (suc (suc (suc (suc (suc (suc (suc (suc (suc zero)))))))))) d h = refl
rank_at (suc (suc (suc (suc (suc (suc (suc (suc (suc (suc (suc i))))))))))) d h = absurd (omega (arith, h))

-- Where none of the marks so far says something true, the next that does is the cell's.
pub first_found : (known : KnownParts) (from to i : ℕ) (d : Mark) (all : List Mark) → all ≡ marks_in_order
    → i < length all → ((other : Mark) → rank other < i → ¬ Says known from to other)
    → Says known from to (get_or all i d) → IsMark known from to (get_or all i d)
first_found known from to i d all e within before says = grind (arith, rank_at)

-- Where none of them does, the last is.
pub none_found : (known : KnownParts) (from to i : ℕ) (all : List Mark) → all ≡ marks_in_order
    → length all ≤ i → ((other : Mark) → rank other < i → ¬ Says known from to other) → IsMark known from to marks.Whole
none_found known from to i all e past before = grind arith

-- ---- the marks of all cells

-- A cell and those of which the next begins where it ends are cells one after another.
pub marks_go_on : (known : KnownParts) (size end from step : ℕ) (m : Mark) (rest : List Mark) → from < end
    → step ≡ min size (end - from) → IsMark known from (from + step) m → AreMarks known size end (from + step) rest
    → AreMarks known size end from (m ∷ rest)
marks_go_on known size end from step m rest below e is go =
    let to : from + step ≡ min (from + size) end = omega arith in (
      below,
      subst (λ (x : ℕ). IsMark known from x m) to is,
      behind rest go,
    )
  where
    behind : (l : List Mark) → AreMarks known size end (from + step) l → AreMarks known size end (from + size) l
    behind [] h = omega (arith, h, e)
    behind (x ∷ xs) h =
        let more : from + step < end = h.0 in
        let same : from + step ≡ from + size = omega arith in
        subst (λ (y : ℕ). AreMarks known size end y (x ∷ xs)) same h

-- ---- one mark fits

abbrev pub at_rank : ℕ → Mark
at_rank i = get_or marks_in_order i marks.Whole

pub ranked : (m : Mark) → at_rank (rank m) ≡ m
ranked marks.Disputed = refl
ranked marks.Header = refl
ranked marks.Footer = refl
ranked marks.Body = refl
ranked marks.RandomIndex = refl
ranked marks.Missing = refl
ranked marks.Hand = refl
ranked marks.Empty = refl
ranked marks.Part = refl
ranked marks.Metadata = refl
ranked marks.Index = refl
ranked marks.Whole = refl

-- Two marks that fit are one.
pub one_mark : (known : KnownParts) (from to : ℕ) (a b : Mark) → IsMark known from to a → IsMark known from to b → a ≡ b
one_mark known from to a b x y = grind (arith, cases_lt, ranked)

one_list : (known : KnownParts) (size end from : ℕ) (a b : List Mark) → AreMarks known size end from a
    → AreMarks known size end from b → a ≡ b
one_list known size end from [] [] x y = refl
one_list known size end from [] (m ∷ ms) x y = let l = y.0 in absurd (omega (arith, x, l))
one_list known size end from (m ∷ ms) [] x y = let l = x.0 in absurd (omega (arith, y, l))
one_list known size end from (m ∷ ms) (n ∷ ns) x y =
    let first = one_mark known from (min (from + size) end) m n x.1 y.1 in
    let rest = one_list known size end (from + size) ms ns x.2 y.2 in λ i. first i ∷ rest i

-- Two maps of one content with as many cells are one.
pub one_map : (known : KnownParts) (cells : ℕ) (m n : MapParts) → IsMap known cells m → IsMap known cells n → m ≡ n
one_map known cells m n x y = grind (arith, one_list)
