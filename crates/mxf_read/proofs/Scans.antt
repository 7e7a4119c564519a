-- Notes as a scan makes them.
use Rattle.mxf_views.proofs.Common.{◌≡◌, ℕ, suc, ◌≤◌, Bool, true, false, ◌&&◌, if◌then◌else◌, List, [], ◌∷◌, ◌++◌}
use Rattle.mxf_views.proofs.Common.{length, map, refl, NoteParts, AreApart, reduced_with, end_of, sym, ap, ◌∙◌, subst}
use Rattle.mxf_skim.specs.PassedOver.{is_in_container, is_of_container, noted_by, passed_note, skimmed}
use Rattle.mxf_skim.specs.declared.scan.Scan.{Scan}
use Rattle.mxf_skim.specs.declared.scan.Scan.TheVariants.{Full, Skim}
use Rattle.mxf_read.specs.ValueSoFar.{noted_if, passes}
use Rattle.mxf_views.proofs.Common.{inl, inr, end_after, heads_at, notes_from, notes_in, packets_in, reduced_union, rest_in}
use Rattle.mxf_read.proofs.Pieces.{alone, apart_packets, heads_few}
use Rattle.mxf_read.proofs.Taking.{union_append, with_last}

pub noted_none : (scan : Scan) → noted_by scan [] ≡ []
noted_none Full = refl
noted_none Skim = refl

counted : (notes : List NoteParts) → length (map skimmed notes) ≡ length notes
counted [] = refl
counted (n ∷ notes) = ap suc (counted notes)

pub noted_count : (scan : Scan) (notes : List NoteParts) → length (noted_by scan notes) ≡ length notes
noted_count Full notes = refl
noted_count Skim notes = counted notes

-- a packet that is passed over ends where it does
pub noted_end : (passing : Bool) (n : NoteParts) → end_of (noted_if passing n) ≡ end_of n
noted_end true n = refl
noted_end false n = refl

skimmed_if : (n : NoteParts) → n.whole ≡ true → noted_if (is_in_container n.key n.length) n ≡ skimmed n
skimmed_if n whole = ap (λ (w : Bool). if w && is_in_container n.key n.length then passed_note n else n) (sym whole)

map_append : (xs ys : List NoteParts) → map skimmed (xs ++ ys) ≡ map skimmed xs ++ map skimmed ys
map_append [] ys = refl
map_append (x ∷ xs) ys = ap (λ (l : List NoteParts). skimmed x ∷ l) (map_append xs ys)

-- skimmed notes stand as the notes do
pub skimmed_offset : (n : NoteParts) → (skimmed n).offset ≡ n.offset
skimmed_offset n = elim (is_of_container n) as (λ b. (if b then passed_note n else n).offset ≡ n.offset) [
  | true ↦ refl
  | false ↦ refl
]

pub skimmed_end : (n : NoteParts) → end_of (skimmed n) ≡ end_of n
skimmed_end n = elim (is_of_container n) as (λ b. end_of (if b then passed_note n else n) ≡ end_of n) [
  | true ↦ refl
  | false ↦ refl
]

pub skimmed_apart : (low : ℕ) (notes : List NoteParts) → AreApart low notes → AreApart low (map skimmed notes)
skimmed_apart low [] a = tt
skimmed_apart low (n ∷ notes) a = (
  subst (λ (o : ℕ). low ≤ o) (sym (skimmed_offset n)) a.0,
  subst (λ (e : ℕ). AreApart e (map skimmed notes)) (sym (skimmed_end n)) (skimmed_apart (end_of n) notes a.1),
)

-- a packet behind all others is noted behind them
pub with_last_by : (scan : Scan) (low : ℕ) (notes : List NoteParts) (n : NoteParts) → n.whole ≡ true
    → AreApart low (notes ++ n ∷ [])
    → reduced_with (noted_if (passes scan n.key n.length) n) (noted_by scan notes) ≡ noted_by scan (notes ++ n ∷ [])
with_last_by Full low notes n whole apart = with_last low notes n apart
with_last_by Skim low notes n whole apart =
    let all = map_append notes (n ∷ []) in
    ap (λ (m : NoteParts). reduced_with m (map skimmed notes)) (skimmed_if n whole)
    ∙ with_last low (map skimmed notes) (skimmed n)
    (subst (AreApart low) all (skimmed_apart low (notes ++ n ∷ []) apart))
    ∙ sym all

-- ---- the notes of a piece

noted_append : (scan : Scan) (xs ys : List NoteParts) → noted_by scan (xs ++ ys) ≡ noted_by scan xs ++ noted_by scan ys
noted_append Full xs ys = refl
noted_append Skim xs ys = map_append xs ys

-- a head stays
noted_heads : (scan : Scan) (at : ℕ) (rest : List ℕ) → noted_by scan (heads_at at rest) ≡ heads_at at rest
noted_heads Full at rest = refl
noted_heads Skim at rest =
    elim (heads_few at rest) [
      | inl none ↦ ap (map skimmed) none ∙ sym none
      | inr s ↦ ap (map skimmed) s.1
          ∙ ap (λ (m : NoteParts). m ∷ [])
          (ap (λ (w : Bool). if w && is_in_container s.0.key s.0.length then passed_note s.0 else s.0)
          (ap (λ (m : NoteParts). m.whole) s.2.head))
          ∙ sym s.1
    ]

noted_apart : (scan : Scan) (low : ℕ) (notes : List NoteParts) → AreApart low notes → AreApart low (noted_by scan notes)
noted_apart Full low notes a = a
noted_apart Skim low notes a = skimmed_apart low notes a

-- those of the packets, with the head that was added
pub noted_in : (scan : Scan) (o : ℕ) (m : List ℕ) → reduced_union (noted_by scan (notes_from o (packets_in o m)))
    (heads_at (end_after o (packets_in o m)) (rest_in o m)) ≡ reduced_union [] (noted_by scan (notes_in o m))
noted_in scan o m =
    let notes = notes_from o (packets_in o m) in
    let end = end_after o (packets_in o m) in
    let heads = heads_at end (rest_in o m) in
    let front = alone o (noted_by scan notes) (noted_apart scan o notes (apart_packets o (packets_in o m))) in
    ap (λ (l : List NoteParts). reduced_union l heads) (sym front)
    ∙ sym (union_append [] (noted_by scan notes) heads)
    ∙ ap (λ (l : List NoteParts). reduced_union [] (noted_by scan notes ++ l)) (sym (noted_heads scan end (rest_in o m)))
    ∙ ap (reduced_union []) (sym (noted_append scan notes heads))
