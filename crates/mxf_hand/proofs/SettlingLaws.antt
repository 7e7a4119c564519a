-- For which stops of pieces what is held makes up.
use Rattle.mxf_views.proofs.Common.{◌≡◌, ◌↔◌, ◌∙◌, ℕ, ◌+◌, ◌<◌, ◌≤◌, ◌==◌, Bool, true, false, IsTrue, not, nat_lt}
use Rattle.mxf_views.proofs.Common.{List, Option, Some, None, arith, ap, eq-eqb, eqb-true, find, inl, inr, refl, subst}
use Rattle.mxf_views.proofs.Common.{sym, lt-ltb, [], ◌∷◌, count_by, filter, length, ltb-true, map, IsNonDecreasingBy}
use Rattle.mxf_views.proofs.Common.{get_or-map, length-map, range_with_len, option_map_or, and_from, and_parts}
use Rattle.mxf_views.proofs.Common.{In-filter, In-map, found-In, list_any-In, none_found, range-all, range-full}
use Rattle.mxf_views.proofs.Common.{same_bool, NoteParts, In, IsContent, DisputedParts, disputed_notes, is_disputed}
use Rattle.mxf_views.proofs.Common.{undisputed_notes, offsets_rise, IsContent-filter, In-undisputed_notes}
use Rattle.mxf_views.proofs.Common.{SharesByte-same_offset, notes-disputed_notes, same_note}
use Rattle.mxf_klv.specs.declared.piece.Stop.{Stop}
use Rattle.std.proofs.Common.{slice_get}
use Rattle.mxf_catalogue.specs.Disputes.{whole_notes}
use Rattle.mxf_catalogue.proofs.DisputeLaws.{IsContent-disputed_notes}
use Rattle.mxf_places.specs.Held.{IsHeld, is_held}
use Rattle.mxf_places.proofs.HeldLaws.{is_held-says}
use Rattle.mxf_read.specs.declared.gathering.report.PieceReport.{PieceReport}
use Rattle.mxf_hand.specs.declared.given.Extent.{Extent}
use Rattle.mxf_hand.specs.Settling.{BeginsWhole, IsHeldExtent, IsWholeStop, MakesUpFor, begins_whole, is_all_held}
use Rattle.mxf_hand.specs.Settling.{disputed_starts, is_whole_stop, makes_up_for}
use Rattle.mxf_klv.specs.declared.piece.Stop.TheVariants as stops

begins-says : (notes : List NoteParts) (x : ℕ) → IsTrue (begins_whole notes x) ↔ BeginsWhole notes x
begins-says notes x = grind (arith, list_any-In, and_parts, eqb-true, and_from, eq-eqb)

all_held-says : (notes : List NoteParts) (e : Extent) → IsTrue (is_all_held notes e) ↔ IsHeldExtent notes e
all_held-says notes e = (
  λ t.
      let p = and_parts (nat_lt 0 e.size) (count_by (is_held notes) (range_with_len e.offset e.size) == e.size) t in
      record {
        some = ltb-true _ _ p.0;
        held = λ x above below.
            (is_held-says notes x).0 (range-full (is_held notes) e.offset e.size (eqb-true _ _ p.1) x above below);
      },
  λ h. and_from (nat_lt 0 e.size) (count_by (is_held notes) (range_with_len e.offset e.size) == e.size)
      (lt-ltb 0 e.size h.some) (eq-eqb _ _ (range-all (is_held notes) e.offset e.size
      (λ o above below. (is_held-says notes o).1 (h.held o above below)))),
)

source-says : (notes : List NoteParts) (o : Option Extent) → IsTrue (option_map_or (is_all_held notes) o false)
    ↔ ((e : Extent) × (o ≡ Some e) × IsHeldExtent notes e)
source-says notes None = (λ t. cc, λ s. let e = s.1 in absurd cc)
source-says notes (Some e) = (
  λ t. (e, refl, (all_held-says notes e).0 t),
  λ s. (all_held-says notes e).1 (subst (IsHeldExtent notes) (same e s.0 (sym s.1)) s.2),
)
  where
    same : (a b : Extent) → Some b ≡ Some a → b ≡ a
    same a b h = cc (h)

stop-says : (notes : List NoteParts) (extents : List Extent) (part : ℕ) (stop : Stop)
    → IsTrue (makes_up_for notes extents part stop) ↔ MakesUpFor notes extents part stop
stop-says notes extents part stops.End = (λ t. cc, λ h. absurd h)
stop-says notes extents part (stops.NotUl at) = (λ t. cc, λ h. absurd h)
stop-says notes extents part (stops.BadLength at) = (λ t. cc, λ h. absurd h)
stop-says notes extents part (stops.TooFar at) = (λ t. cc, λ h. absurd h)
stop-says notes extents part (stops.Truncated at) = begins-says notes at
stop-says notes extents part (stops.NoStart at) = source-says notes (slice_get extents part)

pub whole-says : (notes : List NoteParts) (extents : List Extent) (piece : PieceReport)
    → IsTrue (is_whole_stop notes extents piece) ↔ IsWholeStop notes extents piece
whole-says notes extents piece = stop-says notes extents piece.part piece.report.stop

-- ---- by the tests that are made

-- all offsets of an extent
pub all_held-by : (notes : List NoteParts) (e : Extent) (b : Bool)
    → IsTrue b ↔ ((0 < e.size) × ((x : ℕ) → e.offset ≤ x → x < e.offset + e.size → IsHeld notes x))
    → b ≡ is_all_held notes e
all_held-by notes e b says =
    let all = all_held-says notes e in
    same_bool b (is_all_held notes e) (λ t. let p = says.0 t in all.1 (record { some = p.0; held = p.1 }))
    (λ t. let p = all.0 t in says.1 (p.some, p.held))

-- an undisputed note is the only one at its offset
pub begins-undisputed : (notes : List NoteParts) (x : ℕ) (n : NoteParts)
    → find (λ m. m.offset == x) (undisputed_notes notes) ≡ Some n → n.whole ≡ begins_whole notes x
begins-undisputed notes x n e =
    let found = found-In (λ (m : NoteParts). m.offset == x) (undisputed_notes notes) n e in
    let alone = (In-undisputed_notes n notes).0 found.0 in
    let at : n.offset ≡ x = eqb-true _ _ found.1 in
    let says = begins-says notes x in
    same_bool n.whole (begins_whole notes x) (λ t. says.1 (n, alone.0, t, at)) (λ t.
    let b = says.0 t in
    elim (same_note b.0 n) [
      | inl same ↦ subst (λ (m : NoteParts). m.whole ≡ true) same b.2
      | inr other ↦ absurd (alone.1 (b.0, b.1, other, SharesByte-same_offset b.0 n (b.3 ∙ sym at)))
    ])

-- where no undisputed note begins, a whole one does if a disputed one has the offset
pub begins-disputed : (notes : List NoteParts) (x : ℕ) → find (λ m. m.offset == x) (undisputed_notes notes) ≡ None
    → (b : Bool) → IsTrue b ↔ In x (map (λ o. o) (disputed_starts notes)) → b ≡ begins_whole notes x
begins-disputed notes x e b says =
    let ds = disputed_notes notes in
    let listed = notes-disputed_notes notes in
    same_bool b (begins_whole notes x) (λ t.
    let o = (In-map (λ (o : ℕ). o) (disputed_starts notes) x).0 (says.0 t) in
    let d = (In-map (λ (c : DisputedParts). c.note.offset) (filter (λ c. c.note.whole) ds) o.0).0 o.1 in
    let k = (In-filter (λ (c : DisputedParts). c.note.whole) ds d.0).0 d.1 in
    let n = (In-map (λ (c : DisputedParts). c.note) ds d.0.note).1 (d.0, k.0, refl) in
    let held = (In-filter (λ m. is_disputed m notes) notes d.0.note).0 (subst (In d.0.note) listed n) in
    (begins-says notes x).1 (d.0.note, held.0, k.1, sym (o.2 ∙ d.2))) (λ t.
    let n = (begins-says notes x).0 t in
    let d = (In-map (λ (c : DisputedParts). c.note) ds n.0).0 (subst (In n.0) (sym listed)
    ((In-filter (λ m. is_disputed m notes) notes n.0).1 (n.1, disputed n.0 n.1 (eq-eqb _ _ n.3)))) in
    let whole = subst (λ (m : NoteParts). m.whole ≡ true) d.2 n.2 in
    let k = (In-filter (λ (c : DisputedParts). c.note.whole) ds d.0).1 (d.1, whole) in
    let o = (In-map (λ (c : DisputedParts). c.note.offset) (filter (λ c. c.note.whole) ds) x).1
    (d.0, k, sym n.3 ∙ ap (λ (m : NoteParts). m.offset) d.2) in
    says.1 ((In-map (λ (o : ℕ). o) (disputed_starts notes) x).1 (x, o, refl)))
  where
    disputed : (n : NoteParts) → In n notes → (n.offset == x) ≡ true → is_disputed n notes ≡ true
    disputed n i at = by (is_disputed n notes) refl
      where
        by : (b : Bool) → is_disputed n notes ≡ b → is_disputed n notes ≡ true
        by true h = h
        by false h = absurd (none_found (λ (m : NoteParts). m.offset == x) (undisputed_notes notes) n e
            ((In-filter (λ m. not (is_disputed m notes)) notes n).1 (i, ap not h)) at)

-- the starts of disputed notes are offsets of a content, so they never fall
starts_of : (ds : List DisputedParts) → map (λ d. d.note.offset) (filter (λ d. d.note.whole) ds)
    ≡ map (λ n. n.offset) (whole_notes (map (λ d. d.note) ds))
starts_of [] = refl
starts_of (d ∷ ds) = grind (arith, starts_of ds)

mapped_never_fall : {K : Type 0} (key : K → ℕ) (xs : List K) → IsNonDecreasingBy key xs
    → IsNonDecreasingBy (λ n. n) (map key xs)
mapped_never_fall key [] r i j d l h = absurd (omega arith)
mapped_never_fall key (x ∷ xs) r i j d l h =
    let within : j < length (x ∷ xs) = subst (λ n. j < n) (length-map (x ∷ xs) key) h in
    let a = get_or-map key (x ∷ xs) i x d (omega (arith, within, l)) in
    let b = get_or-map key (x ∷ xs) j x d within in
    omega (arith, r i j x l within, a, b)

pub starts_never_fall : (notes : List NoteParts) → IsContent notes → IsNonDecreasingBy (λ n. n) (disputed_starts notes)
starts_never_fall notes c =
    grind (arith, starts_of, mapped_never_fall, offsets_rise, IsContent-filter, IsContent-disputed_notes)

pub not_twice : (b : Bool) → not (not b) ≡ b
not_twice true = refl
not_twice false = refl
