-- How many notes are disputed, and where they lie.
use Rattle.mxf_views.proofs.Common.{◌≡◌, ◌↔◌, ◌⊎◌, ◌≤◌, ◌∙◌, ℕ, List, [], ◌∷◌, None, Some, ap, arith, inl, inr, length}
use Rattle.mxf_views.proofs.Common.{map, max, min, refl, subst, sym, cases_lt, In-filter, In-map, covered_end}
use Rattle.mxf_views.proofs.Common.{NoteParts, In, DisputedParts, IsDisputed, disputed_notes, is_disputed}
use Rattle.mxf_views.proofs.Common.{is_disputed-IsDisputed, notes-disputed_notes}
use Rattle.mxf_restore.specs.Disputes.{AreDisputes, IsDisputedIn, disputes_in, disputes_of, greatest_end, least_start}
use Rattle.mxf_restore.specs.declared.disputes.Disputes.{Disputes}

-- ---- members

listed : (notes : List NoteParts) (d : DisputedParts) → In d (disputed_notes notes) → IsDisputedIn notes d.note
listed notes d i =
    let n : In d.note (map (λ (x : DisputedParts). x.note) (disputed_notes notes)) =
    (In-map (λ (x : DisputedParts). x.note) (disputed_notes notes) d.note).1 (d, i, refl) in
    let p = (In-filter (λ m. is_disputed m notes) notes d.note).0 (subst (In d.note) (notes-disputed_notes notes) n) in
    record { held = p.0; disputed = (is_disputed-IsDisputed d.note notes).0 p.1 }

lists : (notes : List NoteParts) (n : NoteParts) → IsDisputedIn notes n
    → (d : DisputedParts) × In d (disputed_notes notes) × (n ≡ d.note)
lists notes n i =
    (In-map (λ (x : DisputedParts). x.note) (disputed_notes notes) n).0 (subst (In n) (sym (notes-disputed_notes notes))
    ((In-filter (λ m. is_disputed m notes) notes n).1 (i.held, (is_disputed-IsDisputed n notes).1 i.disputed)))

-- ---- least and greatest

least-le : (x : ℕ) (ds : List DisputedParts) → least_start x ds ≤ x
least-le x [] = omega arith
least-le x (d ∷ ds) = let h = least-le (min x d.note.offset) ds in omega (arith, h)

least-all : (x : ℕ) (ds : List DisputedParts) (d : DisputedParts) → In d ds → least_start x ds ≤ d.note.offset
least-all x [] d i = absurd i
least-all x (y ∷ ds) d (inl e) =
    let h = least-le (min x y.note.offset) ds in
    let s = ap (λ (z : DisputedParts). z.note.offset) e in omega (arith, h, s)
least-all x (y ∷ ds) d (inr i) = least-all (min x y.note.offset) ds d i

either-min : (a b : ℕ) → (min a b ≡ a) ⊎ (min a b ≡ b)
either-min a b = elim (cases_lt a b) [ inl h ↦ inl (omega (arith, h)) | inr h ↦ inr (omega (arith, h)) ]

either-max : (a b : ℕ) → (max a b ≡ a) ⊎ (max a b ≡ b)
either-max a b = elim (cases_lt a b) [ inl h ↦ inr (omega (arith, h)) | inr h ↦ inl (omega (arith, h)) ]

least-one : (x : ℕ) (ds : List DisputedParts)
    → (least_start x ds ≡ x) ⊎ ((d : DisputedParts) × In d ds × (d.note.offset ≡ least_start x ds))
least-one x [] = inl refl
least-one x (d ∷ ds) =
    elim (least-one (min x d.note.offset) ds) [
      | inl e ↦ elim (either-min x d.note.offset) [ inl a ↦ inl (e ∙ a) | inr b ↦ inr (d, inl refl, sym (e ∙ b)) ]
      | inr s ↦ inr (s.0, inr s.1, s.2)
    ]

greatest-ge : (x : ℕ) (ds : List DisputedParts) → x ≤ greatest_end x ds
greatest-ge x [] = omega arith
greatest-ge x (d ∷ ds) = let h = greatest-ge (max x (covered_end d.note)) ds in omega (arith, h)

greatest-all : (x : ℕ) (ds : List DisputedParts) (d : DisputedParts) → In d ds → covered_end d.note ≤ greatest_end x ds
greatest-all x [] d i = absurd i
greatest-all x (y ∷ ds) d (inl e) =
    let h = greatest-ge (max x (covered_end y.note)) ds in
    let s = ap (λ (z : DisputedParts). covered_end z.note) e in omega (arith, h, s)
greatest-all x (y ∷ ds) d (inr i) = greatest-all (max x (covered_end y.note)) ds d i

greatest-one : (x : ℕ) (ds : List DisputedParts)
    → (greatest_end x ds ≡ x) ⊎ ((d : DisputedParts) × In d ds × (covered_end d.note ≡ greatest_end x ds))
greatest-one x [] = inl refl
greatest-one x (d ∷ ds) =
    elim (greatest-one (max x (covered_end d.note)) ds) [
      | inl e ↦ elim (either-max x (covered_end d.note)) [
        | inl a ↦ inl (e ∙ a)
        | inr b ↦ inr (d, inl refl, sym (e ∙ b))
      ]
      | inr s ↦ inr (s.0, inr s.1, s.2)
    ]

-- the first itself is one of all
first-least : (d : DisputedParts) (ds : List DisputedParts)
    → (e : DisputedParts) × In e (d ∷ ds) × (e.note.offset ≡ least_start d.note.offset (d ∷ ds))
first-least d ds = elim (least-one d.note.offset (d ∷ ds)) [ inl e ↦ (d, inl refl, sym e) | inr s ↦ s ]

first-greatest : (d : DisputedParts) (ds : List DisputedParts)
    → (e : DisputedParts) × In e (d ∷ ds) × (covered_end e.note ≡ greatest_end (covered_end d.note) (d ∷ ds))
first-greatest d ds = elim (greatest-one (covered_end d.note) (d ∷ ds)) [ inl e ↦ (d, inl refl, sym e) | inr s ↦ s ]

-- ---- laws

found : (notes : List NoteParts) (all : List DisputedParts) (d : Disputes) → disputed_notes notes ≡ all
    → disputes_in all ≡ Some d → AreDisputes notes d
found notes [] d e h = absurd cc
found notes (f ∷ ds) d e h =
    let own : Disputes = record {
      notes = length (f ∷ ds);
      start = least_start f.note.offset (f ∷ ds);
      end = greatest_end (covered_end f.note) (f ∷ ds);
    } in
    let same : own ≡ d = cc (h) in
    let in_all = λ (x : DisputedParts) (i : In x (f ∷ ds)). listed notes x (subst (In x) (sym e) i) in
    let of_all : (n : NoteParts) → IsDisputedIn notes n → (x : DisputedParts) × In x (f ∷ ds) × (n ≡ x.note) =
    λ n i. let s = lists notes n i in (s.0, subst (In s.0) e s.1, s.2) in
    let first = first-least f ds in
    let last = first-greatest f ds in
    let all : AreDisputes notes own = record {
      count = ap length (sym e);
      first = (first.0.note, in_all first.0 first.1, first.2);
      none_before = λ n i. let s = of_all n i in
          let l = least-all f.note.offset (f ∷ ds) s.0 s.1 in
          let k = ap (λ (m : NoteParts). m.offset) s.2 in omega (arith, l, k);
      last = (last.0.note, in_all last.0 last.1, last.2);
      none_behind = λ n i. let s = of_all n i in
          let g = greatest-all (covered_end f.note) (f ∷ ds) s.0 s.1 in
          let k = ap covered_end s.2 in omega (arith, g, k);
    } in
    subst (AreDisputes notes) same all

same-disputes : (notes : List NoteParts) (c d : Disputes) → AreDisputes notes c → AreDisputes notes d → c ≡ d
same-disputes notes c d p q =
    let many = p.count ∙ sym q.count in
    let a = p.none_before q.first.0 q.first.1 in
    let b = q.none_before p.first.0 p.first.1 in
    let ea = q.first.2 in
    let eb = p.first.2 in
    let start : c.start ≡ d.start = omega (arith, a, b, ea, eb) in
    let g = p.none_behind q.last.0 q.last.1 in
    let h = q.none_behind p.last.0 p.last.1 in
    let eg = q.last.2 in
    let eh = p.last.2 in
    let end : c.end ≡ d.end = omega (arith, g, h, eg, eh) in
    λ i. record { notes = many i; start = start i; end = end i }

pub disputes-some : (notes : List NoteParts) (d : Disputes) → (disputes_of notes ≡ Some d) ↔ AreDisputes notes d
disputes-some notes d = (λ h. found notes (disputed_notes notes) d refl h, λ a. there (disputed_notes notes) refl a)
  where
    there : (all : List DisputedParts) → disputed_notes notes ≡ all → AreDisputes notes d → disputes_in all ≡ Some d
    there [] e a = absurd (subst (In _) e (lists notes a.first.0 a.first.1).1)
    there (f ∷ ds) e a = ap (λ (x : Disputes). Some x) (same-disputes notes _ d (found notes (f ∷ ds) _ e refl) a)

pub disputes-none : (notes : List NoteParts)
    → (disputes_of notes ≡ None) ↔ ((n : NoteParts) → In n notes → ¬ IsDisputed n notes)
disputes-none notes = (none (disputed_notes notes) refl, no_other (disputed_notes notes) refl)
  where
    none : (all : List DisputedParts) → disputed_notes notes ≡ all → disputes_in all ≡ None → (n : NoteParts)
        → In n notes → ¬ IsDisputed n notes
    none [] e h n i d = absurd (subst (In _) e (lists notes n (record { held = i; disputed = d })).1)
    none (f ∷ ds) e h n i d = absurd cc

    no_other : (all : List DisputedParts) → disputed_notes notes ≡ all
        → ((n : NoteParts) → In n notes → ¬ IsDisputed n notes) → disputes_in all ≡ None
    no_other [] e h = refl
    no_other (f ∷ ds) e h =
        let i = listed notes f (subst (In f) (sym e) (inl refl)) in absurd (h f.note i.held i.disputed)
