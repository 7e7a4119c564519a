-- Between which file offsets an offset of a stream lies has one answer.
use Rattle.std.proofs.Common.{List, ◌≡◌, ◌∙◌, ◌≤◌, ◌+◌, ◌-◌, ℕ, Option, None, Some, refl, sym, ap, inl, inr, arith}
use Rattle.mxf_klv.specs.Parts.{NoteParts}
use Rattle.mxf_views.specs.RandomIndex.{RipAtParts}
use Rattle.mxf_units.specs.Units.{UnitsParts}
use Rattle.mxf_units.specs.declared.essence_zone.part.StreamPart.{StreamPart}
use Rattle.mxf_partial.specs.StreamTable.{PartsDiffer}
use Rattle.mxf_partial.specs.Streams.{GoesUpTo, IsGreatestOffset, IsHigh, IsLow, IsPartBehind, origin_of}

same_numbers : (p q : StreamPart) → GoesUpTo p q → GoesUpTo q p
    → (p.body_offset ≡ q.body_offset) × (p.partition ≡ q.partition)
same_numbers p q (inl l) (inl m) = absurd (omega (arith, l, m))
same_numbers p q (inl l) (inr m) = let e = m.0 in absurd (omega (arith, l, e))
same_numbers p q (inr l) (inl m) = let e = l.0 in absurd (omega (arith, m, e))
same_numbers p q (inr l) (inr m) = let a = l.1 in let b = m.1 in (l.0, omega (arith, a, b))

pub low_one : (notes : List NoteParts) (b s x y : ℕ) → PartsDiffer notes → IsLow notes b s x → IsLow notes b s y → x ≡ y
low_one notes b s x y differ (inl f) (inl g) = f.1 ∙ sym g.1
low_one notes b s x y differ (inl f) (inr g) =
    let l = f.0 g.0 g.1.part in let m = g.1.begins in absurd (omega (arith, l, m))
low_one notes b s x y differ (inr f) (inl g) =
    let l = g.0 f.0 f.1.part in let m = f.1.begins in absurd (omega (arith, l, m))
low_one notes b s x y differ (inr f) (inr g) =
    let n = same_numbers f.0 g.0 (g.1.last f.0 f.1.part f.1.begins) (f.1.last g.0 g.1.part g.1.begins) in
    let same = differ f.0 g.0 f.1.part.part g.1.part.part n.1 in
    f.2 ∙ ap (λ (p : StreamPart). origin_of p + (s - p.body_offset)) same ∙ sym g.2

greatest_at_most : (u : UnitsParts) (b s x y : ℕ) → IsGreatestOffset u b s x → IsGreatestOffset u b s y → x ≤ y
greatest_at_most u b s x y f g =
    elim f.some [ inl e ↦ let l = g.above in omega (arith, e, l) | inr e ↦ g.greatest_is x e ]

greatest_one : (u : UnitsParts) (b s x y : ℕ) → IsGreatestOffset u b s x → IsGreatestOffset u b s y → x ≡ y
greatest_one u b s x y f g =
    let l = greatest_at_most u b s x y f g in let m = greatest_at_most u b s y x g f in omega (arith, l, m)

behind_one : (u : UnitsParts) (b s x y : ℕ) (p q : StreamPart) → IsPartBehind u.known.notes b s p
    → IsPartBehind u.known.notes b s q → x ≡ p.partition - (p.body_offset - s) → y ≡ q.partition - (q.body_offset - s)
    → x ≡ y
behind_one u b s x y p q f g e h =
    let n = same_numbers p q (f.first q g.part g.behind) (g.first p f.part f.behind) in
    let a = n.0 in let c = n.1 in omega (arith, e, h, a, c)

by_rip_one : (b s x y : ℕ) (u : UnitsParts) (r q : RipAtParts) (m n : ℕ) → r ≡ q → IsGreatestOffset u b s m
    → IsGreatestOffset u b s n → x ≡ r.offset - (m - s) → y ≡ q.offset - (n - s) → x ≡ y
by_rip_one b s x y u r q m n same f g e h =
    let one = greatest_one u b s m n f g in
    let offset = ap (λ (p : RipAtParts). p.offset) same in
    e ∙ (λ i. offset i - (one i - s)) ∙ sym h

pub high_one : (u : UnitsParts) (b s : ℕ) (x y : Option ℕ) → IsHigh u b s x → IsHigh u b s y → x ≡ y
high_one u b s None None f g = refl
high_one u b s None (Some y) f (inl g) =
    let l = f.0 g.0 g.1.part in let m = g.1.behind in absurd (omega (arith, l, m))
high_one u b s None (Some y) f (inr g) = absurd (f.1 g.1.0 g.1.1)
high_one u b s (Some x) None (inl f) g =
    let l = g.0 f.0 f.1.part in let m = f.1.behind in absurd (omega (arith, l, m))
high_one u b s (Some x) None (inr f) g = absurd (g.1 f.1.0 f.1.1)
high_one u b s (Some x) (Some y) (inl f) (inl g) = ap (λ (n : ℕ). Some n) (behind_one u b s x y f.0 g.0 f.1 g.1 f.2 g.2)
high_one u b s (Some x) (Some y) (inl f) (inr g) =
    let l = g.0 f.0 f.1.part in let m = f.1.behind in absurd (omega (arith, l, m))
high_one u b s (Some x) (Some y) (inr f) (inl g) =
    let l = f.0 g.0 g.1.part in let m = g.1.behind in absurd (omega (arith, l, m))
high_one u b s (Some x) (Some y) (inr f) (inr g) =
    let same : f.1.0 ≡ g.1.0 = cc (f.1.1, g.1.1) in
    ap (λ (n : ℕ). Some n) (by_rip_one b s x y u f.1.0 g.1.0 f.1.2.0 g.1.2.0 same f.1.2.1 g.1.2.1 f.1.2.2 g.1.2.2)
