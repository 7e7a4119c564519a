-- Notes each of which begins at or above the end of the one before.
use Rattle.mxf_klv.proofs.Common.{◌∙◌, arith, ap, sym, subst, inl, inr, refl, NoteParts, end_of, In}
use Rattle.std.specs.Prelude.{◌≡◌, ℕ, ◌≤◌, List, [], ◌∷◌, map, ◌↔◌, ◌≢◌}
use Rattle.mxf_catalogue.specs.declared.run.Run.{Run}
use Rattle.mxf_catalogue.specs.Content.{AreReduced, IsCatalogue}
use Rattle.mxf_catalogue.specs.Covers.{union_of_runs, union_of_runs-IsUnion}
use Rattle.mxf_catalogue.specs.Disputes.{AreApart, SharesByte}
use Rattle.mxf_catalogue.specs.NoteLists.{Covers, AreCatalogueFields, StandApart, covered_run}
use Rattle.mxf_catalogue.specs.Runs.{IsWithin}
use Rattle.mxf_catalogue.proofs.DisputeLaws.{SharesByte-symmetric}
use Rattle.mxf_catalogue.proofs.KeptLaws.{above_far, whole_none}
use Rattle.mxf_klv.proofs.Lists.{In-map, all_from_In}
use Rattle.mxf_klv.proofs.RisingBy.{IsRisingBy}

-- none begins below the bound
pub begins_above : (low : ℕ) (notes : List NoteParts) (n : NoteParts) → AreApart low notes → In n notes → low ≤ n.offset
begins_above low [] n a h = absurd h
begins_above low (x ∷ xs) n a (inl e) =
    let l : low ≤ x.offset = a.0 in
    let o : n.offset ≡ x.offset = ap (λ (m : NoteParts). m.offset) e in omega (arith, l, o)
begins_above low (x ∷ xs) n a (inr h) =
    let l : low ≤ x.offset = a.0 in
    let more : end_of x ≤ n.offset = begins_above (end_of x) xs n a.1 h in omega (arith, l, more)

-- so their offsets rise
pub apart_rises : (low : ℕ) (notes : List NoteParts) → AreApart low notes → IsRisingBy (λ n. n.offset) notes
apart_rises low [] a = tt
apart_rises low (n ∷ notes) a = grind (arith, all_from_In, begins_above, apart_rises (end_of n) notes a.1)

-- no two share a byte
stand_apart : (low : ℕ) (notes : List NoteParts) → AreApart low notes → StandApart notes
stand_apart low [] a m n h k ne s = h
stand_apart low (x ∷ xs) a m n (inl e) (inl f) ne s = ne (e ∙ sym f)
stand_apart low (x ∷ xs) a m n (inl e) (inr k) ne s =
    above_far n x (begins_above (end_of x) xs n a.1 k) (subst (SharesByte n) e (SharesByte-symmetric m n s))
stand_apart low (x ∷ xs) a m n (inr h) (inl f) ne s =
    above_far m x (begins_above (end_of x) xs m a.1 h) (subst (SharesByte m) f s)
stand_apart low (x ∷ xs) a m n (inr h) (inr k) ne s = stand_apart (end_of x) xs a.1 m n h k ne s

-- so they are the undisputed notes of a content, and it has no others
pub whole_apart : (notes : List NoteParts) (runs : List Run) → IsCatalogue notes → AreReduced notes
    → AreApart 0 notes → Covers runs notes → AreCatalogueFields notes [] [] runs
whole_apart notes runs is red apart covers = grind (arith, whole_none, stand_apart)

-- the runs of what each covers are those of what they cover
pub covers_all : (notes : List NoteParts) → Covers (union_of_runs [] (map covered_run notes)) notes
covers_all notes at =
    let both = union_of_runs-IsUnion [] (map covered_run notes) at in (
      λ h. elim (both.0 h) [
        | inl k ↦ absurd k.1
        | inr k ↦
            let s = (In-map covered_run notes k.0).0 k.1 in
            let w = subst (λ (r : Run). IsWithin r at) s.2 k.2 in
            (s.0, s.1, record { from = w.from; before = w.before })
      ],
      λ h. both.1 (inr (
        covered_run h.0,
        (In-map covered_run notes (covered_run h.0)).1 (h.0, h.1, refl),
        record { from = h.2.from; before = h.2.before },
      )),
    )

-- ---- notes apart that are all those with a property

pub later_differs : (m n : NoteParts) (ws : List NoteParts) → AreApart 0 (m ∷ n ∷ ws) → m ≢ n
later_differs m n ws a e = grind arith

pub picked_none : (P : NoteParts → Type 0) (ws : List NoteParts) → ((n : NoteParts) → In n ws ↔ P n)
    → ((n : NoteParts) → P n → ⊥) → ws ≡ []
picked_none P [] w f = refl
picked_none P (n ∷ ws) w f = absurd (f n ((w n).0 (inl refl)))

pub picked_one : (P : NoteParts → Type 0) (ws : List NoteParts) → ((n : NoteParts) → In n ws ↔ P n) → AreApart 0 ws
    → (n : NoteParts) → P n → ((m : NoteParts) → P m → m ≡ n) → ws ≡ n ∷ []
picked_one P [] w a n h only = absurd ((w n).1 h)
picked_one P (x ∷ []) w a n h only = ap (λ (y : NoteParts). y ∷ []) (only x ((w x).0 (inl refl)))
picked_one P (x ∷ y ∷ ws) w a n h only =
    absurd (later_differs x y ws a (only x ((w x).0 (inl refl)) ∙ sym (only y ((w y).0 (inr (inl refl))))))

pub picked_several : (P : NoteParts → Type 0) (ws : List NoteParts) → ((n : NoteParts) → In n ws ↔ P n)
    → (m n : NoteParts) → P m → P n → m ≢ n
    → (x : NoteParts) × (y : NoteParts) × (rest : List NoteParts) × (ws ≡ x ∷ y ∷ rest)
picked_several P [] w m n h k ne = absurd ((w m).1 h)
picked_several P (x ∷ []) w m n h k ne = grind arith
picked_several P (x ∷ y ∷ rest) w m n h k ne = (x, y, rest, refl)
