-- Holes are the maximal ranges of offsets that aren't held.
use Rattle.mxf_views.proofs.Common.{◌≡◌, ◌↔◌, ◌⊎◌, ◌∙◌, ◌+◌, ◌-◌, ◌<◌, ◌≤◌, ℕ, true, false, List, [], ◌∷◌, None, Some}
use Rattle.mxf_views.proofs.Common.{filter, is_some, map, if◌then◌else◌, refl, sym, ap, subst, inl, inr, arith}
use Rattle.mxf_views.proofs.Common.{cases_lt, same_Some, NoteParts, covered_end, In, In-append, In-filter, In-map}
use Rattle.mxf_views.proofs.Common.{IsContent, AreMaximal, IsWithin, LiesIn, covers_below_end, covers_first, has_byte}
use Rattle.mxf_views.proofs.Common.{starts_above, IsGap, gaps_of}
use Rattle.mxf_catalogue.specs.declared.run.Run.{Run}
use Rattle.mxf_views.proofs.GapsLaws.{gaps_are}
use Rattle.mxf_places.specs.Held.{IsHeld, end_of_file, held_end, is_held}
use Rattle.mxf_restore.specs.Sections.{IsHole, closed_hole, holes_of}
use Rattle.mxf_places.specs.declared.at_hand.OffsetRange.{OffsetRange}
use Rattle.mxf_places.proofs.HeldLaws.{held_end-bound, is_held-says}

-- The last hole, which has no end, where the end of the file isn't known.
abbrev pub open_holes : List NoteParts → List OffsetRange
open_holes notes = if is_some (end_of_file notes) then [] else record { start = held_end notes; end = None } ∷ []

abbrev pub closed_holes : List NoteParts → List OffsetRange
closed_holes notes = map closed_hole (filter (λ gap. is_held notes gap.end) (gaps_of notes))

-- Of two runs one lies below the other, or they are one.
pub apart : (low : ℕ) (runs : List Run) (r s : Run) → AreMaximal low runs → In r runs → In s runs
    → (r ≡ s) ⊎ ((r.end < s.start) ⊎ (s.end < r.start))
apart low [] r s m h k = absurd h
apart low (x ∷ runs) r s m (inl e) (inl f) = inl (e ∙ sym f)
apart low (x ∷ runs) r s m (inl e) (inr k) =
    let b = ap (λ (y : Run). y.end) e in
    let i : x.end + 1 ≤ s.start = starts_above (x.end + 1) runs s m.2 k in
    inr (inl (omega (arith, b, i)))
apart low (x ∷ runs) r s m (inr h) (inl f) =
    let b = ap (λ (y : Run). y.end) f in
    let i : x.end + 1 ≤ r.start = starts_above (x.end + 1) runs r m.2 h in
    inr (inr (omega (arith, b, i)))
apart low (x ∷ runs) r s m (inr h) (inr k) = apart (x.end + 1) runs r s m.2 h k

module _ (notes : List NoteParts) where
  pub held_or_not : (x : ℕ) → IsHeld notes x ⊎ (IsHeld notes x → ⊥)
  held_or_not x =
      let says = is_held-says notes x in
      elim (is_held notes x) as (λ b. is_held notes x ≡ b → IsHeld notes x ⊎ (IsHeld notes x → ⊥)) [
        | true ↦ λ e. inl (says.0 e)
        | false ↦ λ e. inr (λ h. let t = says.1 h in cc (t, e))
      ] refl

  -- Nothing at or above the first offset above all that is held is, and the one below it is.
  pub none_above : (x : ℕ) → held_end notes ≤ x → IsHeld notes x → ⊥
  none_above x l h =
      let b = (held_end-bound notes x).0 l h.0 h.1 in
      let c : x + 1 ≤ covered_end h.0 = h.2.before in omega (arith, b, c)

  pub last_held : (x : ℕ) → x + 1 ≡ held_end notes → IsHeld notes x
  last_held x e = elim (held_or_not x) [
    | inl h ↦ h
    | inr never ↦ absurd (
        let low = (held_end-bound notes x).1 (λ n k. elim (cases_lt x (covered_end n)) [
          | inl l ↦ (
              let top = (held_end-bound notes (held_end notes)).0 (omega arith) n k in
              let from : n.offset ≤ x = omega (arith, top, covers_first n, e) in
              absurd (never (n, k, record { from = from; before = omega (arith, l) })))
          | inr l ↦ l
        ]) in omega (arith, low, e))
  ]

  -- ---- holes are maximal ranges

  pub open_is : end_of_file notes ≡ None → IsHole notes (record { start = held_end notes; end = None })
  open_is e = record {
    some = (omega arith, inl refl);
    none_held = λ x l. none_above x l.0;
    first = last_held;
    last = e;
  }

  module _ (content : IsContent notes) where
    pub maximal : AreMaximal 0 (gaps_of notes)
    maximal = (gaps_are notes content).maximal

    pub gap_there : (r : Run) (x : ℕ) → In r (gaps_of notes) → IsWithin r x → IsGap notes x
    gap_there r x k w = ((gaps_are notes content).offsets x).0 (r, k, w)

    pub run_there : (x : ℕ) → IsGap notes x → LiesIn (gaps_of notes) x
    run_there x g = ((gaps_are notes content).offsets x).1 g

    -- The offset just below a run lies in none.
    not_before : (r s : Run) (x : ℕ) → In r (gaps_of notes) → In s (gaps_of notes) → x + 1 ≡ r.start → IsWithin s x → ⊥
    not_before r s x k i e w =
        let some : r.start < r.end = has_byte 0 (gaps_of notes) r maximal k in
        let from : s.start ≤ x = w.from in
        let before : x + 1 ≤ s.end = w.before in
        elim (apart 0 (gaps_of notes) s r maximal i k) [
          | inl q ↦ (let f = ap (λ (y : Run). y.start) q in omega (arith, f, from, e))
          | inr o ↦ elim o [ inl l ↦ omega (arith, l, before, e) | inr l ↦ omega (arith, l, from, e, some) ]
        ]

    pub closed_is : (r : Run) → In r (gaps_of notes) → is_held notes r.end ≡ true → IsHole notes (closed_hole r)
    closed_is r k t =
        let some : r.start < r.end = has_byte 0 (gaps_of notes) r maximal k in
        record {
          some = (omega arith, inr (r.end, refl, some));
          none_held = λ x l h. elim l.1 [
            | inl e ↦ absurd (cc (e))
            | inr s ↦ (
                let e = same_Some r.end s.0 s.1 in
                let from : r.start ≤ x = l.0 in
                let before : x + 1 ≤ r.end = omega (arith, e, s.2) in
                (gap_there r x k (record { from = from; before = before })).in_none h.0 h.1 h.2)
          ];
          first = λ x e. elim (held_or_not x) [
            | inl h ↦ h
            | inr never ↦ absurd (
                let top = (gap_there r r.start k (record { from = omega arith; before = omega (arith, some) })).below in
                let s = run_there x (record {
                  below = (top.0, top.1, omega (arith, top.2, e));
                  in_none = λ n i c. never (n, i, c);
                }) in
                not_before r s.0 x k s.1 e s.2)
          ];
          last = (is_held-says notes r.end).0 t;
        }

    pub to_hole : (h : OffsetRange) → In h (holes_of notes) → IsHole notes h
    unfolding holes_of
    to_hole h k = elim ((In-append h (closed_holes notes) (open_holes notes)).0 k) [
      | inl a ↦ (
          let s = (In-map closed_hole (filter (λ gap. is_held notes gap.end) (gaps_of notes)) h).0 a in
          let f = (In-filter (λ gap. is_held notes gap.end) (gaps_of notes) s.0).0 s.1 in
          subst (IsHole notes) (sym s.2) (closed_is s.0 f.0 f.1))
      | inr b ↦ elim (end_of_file notes) as (λ o. end_of_file notes ≡ o
          → In h (if is_some o then [] else record { start = held_end notes; end = None } ∷ []) → IsHole notes h) [
            | None ↦ λ e i. elim i [ inl q ↦ subst (IsHole notes) (sym q) (open_is e) | inr j ↦ absurd j ]
            | Some x ↦ λ e i. absurd i
          ] refl b
    ]

    -- ---- maximal ranges are holes

    from_open : (start : ℕ) → IsHole notes (record { start = start; end = None })
        → In (record { start = start; end = None }) (holes_of notes)
    unfolding holes_of
    from_open start h =
        let low : held_end notes ≤ start =
        (held_end-bound notes start).1 (λ n k. elim (cases_lt start (covered_end n)) [
          | inl l ↦ elim (cases_lt start n.offset) [
            | inl f ↦ absurd (h.none_held n.offset (omega (arith, f), inl refl)
                (n, k, record { from = omega arith; before = covers_first n }))
            | inr f ↦ absurd (h.none_held start (omega arith, inl refl)
                (n, k, record { from = f; before = omega (arith, l) }))
          ]
          | inr l ↦ l
        ]) in
        let high : start ≤ held_end notes = elim (cases_lt (held_end notes) start) [
          | inl l ↦ (
              let below : start - 1 + 1 ≡ start = omega (arith, l) in
              let held = h.first (start - 1) below in
              absurd (none_above (start - 1) (omega (arith, l)) held))
          | inr l ↦ l
        ] in
        let same : start ≡ held_end notes = omega (arith, low, high) in
        let one : open_holes notes ≡ record { start = held_end notes; end = None } ∷ [] =
        ap (λ o. if is_some o then [] else record { start = held_end notes; end = None } ∷ []) h.last in
        (In-append _ (closed_holes notes) (open_holes notes)).1
        (inr (subst (In _) (sym one) (inl (λ i. record { start = same i; end = None }))))

    from_closed : (start e : ℕ) → IsHole notes (record { start = start; end = Some e })
        → In (record { start = start; end = Some e }) (holes_of notes)
    unfolding holes_of
    from_closed start e h =
        let last : IsHeld notes e = h.last in
        let some : start < e = elim h.some.1 [
          | inl q ↦ absurd (cc (q))
          | inr s ↦ (let q = same_Some e s.0 s.1 in omega (arith, q, s.2))
        ] in
        let gap : (x : ℕ) → start ≤ x → x < e → IsGap notes x = λ x l m. (
        let o : last.0.offset ≤ e = last.2.from in
        let c : e + 1 ≤ covered_end last.0 = last.2.before in
        let d = covers_below_end last.0 in
        record {
          below = (last.0, last.1, omega (arith, c, d, m));
          in_none = λ n k w. h.none_held x (l, inr (e, refl, m)) (n, k, w);
        }) in
        let s = run_there start (gap start (omega arith) some) in
        let r = s.0 in
        let from : r.start ≤ start = s.2.from in
        let before : start + 1 ≤ r.end = s.2.before in
        let low : start ≤ r.start = elim (cases_lt r.start start) [
          | inl l ↦ (
              let held = h.first (start - 1) (omega (arith, l)) in
              let w : IsWithin r (start - 1) = record { from = omega (arith, l); before = omega (arith, l, before) } in
              absurd ((gap_there r (start - 1) s.1 w).in_none held.0 held.1 held.2))
          | inr l ↦ l
        ] in
        let high : r.end ≤ e = elim (cases_lt e r.end) [
          | inl l ↦ (
              let w : IsWithin r e = record { from = omega (arith, from, some); before = omega (arith, l) } in
              absurd ((gap_there r e s.1 w).in_none last.0 last.1 last.2))
          | inr l ↦ l
        ] in
        let reach : e ≤ r.end = elim (cases_lt r.end e) [
          | inl l ↦ absurd (
              let t = run_there r.end (gap r.end (omega (arith, before)) l) in
              let tf : t.0.start ≤ r.end = t.2.from in
              let tb : r.end + 1 ≤ t.0.end = t.2.before in
              elim (apart 0 (gaps_of notes) r t.0 maximal s.1 t.1) [
                | inl q ↦ (let f = ap (λ (y : Run). y.end) q in omega (arith, f, tb))
                | inr o ↦ elim o [ inl m ↦ omega (arith, m, tf) | inr m ↦ omega (arith, m, tb, from, before) ]
              ])
          | inr l ↦ l
        ] in
        let a : start ≡ r.start = omega (arith, low, from) in
        let b : e ≡ r.end = omega (arith, high, reach) in
        let held : is_held notes r.end ≡ true = (is_held-says notes r.end).1 (subst (IsHeld notes) b last) in
        let kept = (In-filter (λ gap. is_held notes gap.end) (gaps_of notes) r).1 (s.1, held) in
        (In-append _ (closed_holes notes) (open_holes notes)).1
        (inl ((In-map closed_hole (filter (λ gap. is_held notes gap.end) (gaps_of notes)) _).1
        (r, kept, λ i. record { start = a i; end = Some (b i) })))

    pub from_hole : (h : OffsetRange) → IsHole notes h → In h (holes_of notes)
    from_hole h is = elim h.end as (λ o. IsHole notes (record { start = h.start; end = o })
        → In (record { start = h.start; end = o }) (holes_of notes)) [
          | None ↦ from_open h.start
          | Some e ↦ from_closed h.start e
        ] is

    pub holes_are : (h : OffsetRange) → In h (holes_of notes) ↔ IsHole notes h
    holes_are h = (to_hole h, from_hole h)
