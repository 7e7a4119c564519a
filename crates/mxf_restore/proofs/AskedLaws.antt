-- What is asked for of a section, by the function and by the relation.
use Rattle.mxf_views.proofs.Common.{◌≡◌, ◌↔◌, ◌⊎◌, ◌∙◌, ◌&&◌, ◌||◌, ◌==◌, ◌<◌, ◌≤◌, ◌+◌, ℕ, Bool, true, false, not, max}
use Rattle.mxf_views.proofs.Common.{List, [], ◌∷◌, Option, None, Some, is_some, option_map, filter, if◌then◌else◌}
use Rattle.mxf_views.proofs.Common.{nat_le, nat_lt, IsSome, IsTrue, refl, sym, ap, subst, inl, inr, arith, lt-ltb}
use Rattle.mxf_views.proofs.Common.{ltb-true, and_from, and_parts, cases_Bool, cases_lt, or_cases, or_left, or_right}
use Rattle.mxf_views.proofs.Common.{same_Some, option_map_or, NoteParts, end_of, In, not-true-false, not_true, IsContent}
use Rattle.mxf_views.proofs.Common.{IsCover}
use Rattle.std.proofs.Common.{leb-true, le-leb}
use Rattle.mxf_places.specs.AtHand.{AtHandParts, edge_of, up_to_bound}
use Rattle.mxf_places.specs.Claims.{claim_at}
use Rattle.mxf_places.specs.Named.{IsClaim, IsClaimFor}
use Rattle.mxf_places.specs.Held.{top_of}
use Rattle.mxf_places.specs.declared.claim.Claim.{Claim}
use Rattle.mxf_places.specs.declared.reason.Reason.{Reason}
use Rattle.mxf_places.specs.declared.reason.Reason.TheVariants.{Gap}
use Rattle.mxf_places.proofs.HeldLaws.{top_of-bound}
use Rattle.mxf_restore.specs.Orders.{IsAsked, IsAskedEnd, IsHeadTo, IsOpenAt, IsSectionEnd, ReachesUpTo}
use Rattle.mxf_restore.specs.EndPacks.{HasEndPack, has_end_pack}
use Rattle.mxf_restore.specs.Plan.{asked, asked_by, asked_of, end_by, gap_from}
use Rattle.mxf_places.specs.Heads.{is_head_to, needed_of, start_of}
use Rattle.mxf_restore.specs.declared.section.Section.{Section}
use Rattle.mxf_restore.specs.declared.plan.Order.{Order}
use Rattle.mxf_places.proofs.EdgeLaws.{edge_says}
use Rattle.mxf_places.proofs.FirstLaws.{first_says, none_speaks}
use Rattle.mxf_restore.proofs.StartLaws.{heads_say, start_is, start_says}
use Rattle.mxf_restore.proofs.Options.{none_from, some_from, some_if}
use Rattle.mxf_restore.proofs.EndPackLaws.{end_pack_says}
use Rattle.mxf_places.proofs.AtHandLaws.{bound_le}

-- ---- the greatest end of notes

-- Some note ends above an offset exactly where the greatest end lies above it.
above_top : (notes : List NoteParts) (x : ℕ)
    → IsTrue (nat_lt x (top_of notes)) ↔ ((n : NoteParts) × In n notes × (x < end_of n))
above_top [] x = (λ t. absurd (let l = ltb-true x 0 t in omega (arith, l)), λ s. absurd s.1)
above_top (m ∷ notes) x =
    let ih = above_top notes x in (
      λ t.
          let l = ltb-true x (top_of (m ∷ notes)) t in
          elim (cases_lt x (end_of m)) [
            | inl k ↦ (m, inl refl, k)
            | inr k ↦ let s = ih.0 (lt-ltb x (top_of notes) (omega (arith, l, k))) in (s.0, inr s.1, s.2)
          ],
      λ s.
          let top = (top_of-bound (m ∷ notes) (top_of (m ∷ notes))).0 (omega arith) s.0 s.1 in
          let l = s.2 in
          lt-ltb x (top_of (m ∷ notes)) (omega (arith, top, l)),
    )

-- The greatest end is that of a note, or 0 where there is none.
top_there : (notes : List NoteParts) → (top_of notes ≡ 0) ⊎ ((n : NoteParts) × In n notes × (end_of n ≡ top_of notes))
top_there [] = inl refl
top_there (m ∷ notes) = elim (cases_lt (end_of m) (top_of notes)) [
  | inl l ↦ elim (top_there notes) [
    | inl e ↦ absurd (omega (arith, l, e))
    | inr s ↦ (let e = s.2 in inr (s.0, inr s.1, omega (arith, e, l)))
  ]
  | inr l ↦ inr (m, inl refl, omega (arith, l))
]

bound_rises : (a b : ℕ) (bound : Option ℕ) → a ≤ b → up_to_bound a bound ≤ up_to_bound b bound
bound_rises a b None l = l
bound_rises a b (Some x) l = omega (arith, l)

module _ (at : AtHandParts) (notes : List NoteParts) (content : IsContent notes) where
  -- ---- claims

  open_says : (x : ℕ) (claim : Option Claim) → claim_at notes x ≡ claim
      → IsTrue (option_map_or (λ c. c.is_open) claim false) ↔ IsOpenAt notes x
  open_says x None e = (λ t. absurd cc, λ o. let f = (first_says notes x o.0 content).1 o.1 in absurd (cc (e, f)))
  open_says x (Some c) e = (
    λ t. (c, (first_says notes x c content).0 e, t),
    λ o.
        let f = (first_says notes x o.0 content).1 o.1 in
        ap (λ (d : Claim). d.is_open) (same_Some c o.0 (sym e ∙ f)) ∙ o.2,
  )

  -- Nothing is claimed to be a gap.
  pub never_gap : (c : Claim) → IsClaim notes c → c.reason ≡ Gap → ⊥
  never_gap c k e = subst (λ (r : Reason). IsClaimFor r notes c) e k

  -- ---- ends

  module _ (cover : IsCover at.given) (p : Section) (start : ℕ) (claim : Option Claim)
      (claimed : claim_at notes start ≡ claim) where
    abbrev is_open : Bool
    is_open = option_map_or (λ c. c.is_open) claim false

    abbrev reaches : Bool
    reaches = (nat_lt p.first (top_of notes) || nat_le (p.first + 25) (edge_of at notes)) && not is_open

    reaches_says : (x : ℕ) → ((reaches ≡ true) × (edge_of at notes ≡ x)) ↔ ReachesUpTo at notes p.first start x
    reaches_says x =
        let is = edge_says at notes x cover in
        let opens = open_says start claim claimed in
        let far = nat_lt p.first (top_of notes) || nat_le (p.first + 25) (edge_of at notes) in (
          λ h.
              let t = and_parts far (not is_open) h.0 in
              let same = h.1 in record {
                is_edge = is.0 h.1;
                far = elim (or_cases (nat_lt p.first (top_of notes)) (nat_le (p.first + 25) (edge_of at notes)) t.0) [
                  | inl u ↦ inl ((above_top notes p.first).0 u)
                  | inr u ↦ (let l = leb-true (p.first + 25) (edge_of at notes) u in inr (omega (arith, l, same)))
                ];
                closed = λ o. not-true-false is_open t.1 (opens.1 o);
              },
          λ r.
              let same = is.1 r.is_edge in (
                and_from far (not is_open) (elim r.far [
                  | inl s ↦ or_left (nat_lt p.first (top_of notes)) (nat_le (p.first + 25) (edge_of at notes))
                      ((above_top notes p.first).1 s)
                  | inr l ↦ or_right (nat_lt p.first (top_of notes)) (nat_le (p.first + 25) (edge_of at notes))
                      (le-leb (p.first + 25) (edge_of at notes) (omega (arith, l, same)))
                ]) (not_true is_open (λ t. r.closed (opens.0 t))),
                same,
              ),
        )

    section_end_says : (end : Option ℕ) → (end_by at notes p claim ≡ end) ↔ IsSectionEnd at notes p start end
    section_end_says (Some x) = (
      λ e. elim p.end as (λ o. p.end ≡ o
          → (if is_some o then o else (if reaches then Some (edge_of at notes) else None)) ≡ Some x
          → IsSectionEnd at notes p start (Some x)) [
            | Some d ↦ λ f g. inl (f ∙ g)
            | None ↦ λ f g. elim (cases_Bool reaches) [
              | inl t ↦ (
                  let h = ap (λ b. if b then Some (edge_of at notes) else None) (sym t) ∙ g in
                  inr (f, (reaches_says x).0 (t, same_Some (edge_of at notes) x h)))
              | inr t ↦ absurd (
                  let h = ap (λ b. if b then Some (edge_of at notes) else None) (sym t) ∙ g in cc (h))
            ]
          ] refl e,
      λ h. elim h [
        | inl e ↦ ap (λ o. if is_some o then o else (if reaches then Some (edge_of at notes) else None)) e
        | inr k ↦ (
            let r = (reaches_says x).1 k.1 in
            ap (λ o. if is_some o then o else (if reaches then Some (edge_of at notes) else None)) k.0
            ∙ ap (λ b. if b then Some (edge_of at notes) else None) r.0 ∙ ap (λ (y : ℕ). Some y) r.1)
      ],
    )
    section_end_says None = (
      λ e. elim p.end as (λ o. p.end ≡ o
          → (if is_some o then o else (if reaches then Some (edge_of at notes) else None)) ≡ None
          → IsSectionEnd at notes p start None) [
            | Some d ↦ λ f g. absurd cc
            | None ↦ λ f g. (
              f,
              λ x r.
                  let t = ((reaches_says x).1 r).0 in
                  let h = ap (λ b. if b then Some (edge_of at notes) else None) (sym t) ∙ g in cc (h),
            )
          ] refl e,
      λ h. ap (λ o. if is_some o then o else (if reaches then Some (edge_of at notes) else None)) h.0
          ∙ elim (cases_Bool reaches) [
            | inl t ↦ absurd (h.1 (edge_of at notes) ((reaches_says (edge_of at notes)).0 (t, refl)))
            | inr t ↦ ap (λ b. if b then Some (edge_of at notes) else None) t
          ],
    )

    abbrev needed : ℕ
    needed = needed_of notes start p.first

    abbrev most : ℕ → ℕ
    most e = max e (up_to_bound (needed_of notes start p.first) p.hole.end)

    -- Each packet of the heads ends where the greatest end does at most, and one does there, or none is needed.
    needed_bound : (n : NoteParts) → IsHeadTo notes start p.first n
        → up_to_bound (end_of n) p.hole.end ≤ up_to_bound needed p.hole.end
    needed_bound n h =
        let heads = filter (λ m. is_head_to p.first m && (m.offset == start)) notes in
        let k = (heads_say notes start p.first n).1 h in
        bound_rises (end_of n) needed p.hole.end ((top_of-bound heads needed).0 (omega arith) n k)

    needed_there : (up_to_bound needed p.hole.end ≡ 0) ⊎ ((n : NoteParts) × IsHeadTo notes start p.first n
        × (up_to_bound (end_of n) p.hole.end ≡ up_to_bound needed p.hole.end))
    needed_there =
        let heads = filter (λ m. is_head_to p.first m && (m.offset == start)) notes in
        elim (top_there heads) [
          | inl e ↦ (let low = bound_le needed p.hole.end in inl (omega (arith, low, e)))
          | inr s ↦ inr (s.0, (heads_say notes start p.first s.0).0 s.1, ap (λ x. up_to_bound x p.hole.end) s.2)
        ]

    asked_end_says : (end : Option ℕ)
        → (option_map most (end_by at notes p claim) ≡ end) ↔ IsAskedEnd at notes p start end
    asked_end_says None = (
      λ e. (section_end_says None).0 (none_from most (end_by at notes p claim) e),
      λ h. ap (option_map most) ((section_end_says None).1 h),
    )
    asked_end_says (Some x) = (
      λ e.
          let s = some_from most (end_by at notes p claim) x e in
          let reach = s.2 in record {
            section_end = s.0;
            is_section_end = (section_end_says (Some s.0)).0 s.1;
            section = omega (arith, reach);
            packets = λ n h. let low = needed_bound n h in omega (arith, low, reach);
            reached = elim (cases_lt s.0 (up_to_bound needed p.hole.end)) [
              | inl l ↦ elim needed_there [
                | inl z ↦ absurd (omega (arith, z, l))
                | inr t ↦ (let same = t.2 in inr (t.0, t.1, omega (arith, same, l, reach)))
              ]
              | inr l ↦ inl (omega (arith, l, reach))
            ];
          },
      λ r.
          let e = (section_end_says (Some r.section_end)).1 r.is_section_end in
          let section = r.section in
          let low : up_to_bound needed p.hole.end ≤ x = elim needed_there [
            | inl z ↦ omega (arith, z)
            | inr t ↦ (let h = r.packets t.0 t.1 in let same = t.2 in omega (arith, h, same))
          ] in
          let high : x ≤ most r.section_end = elim r.reached [
            | inl same ↦ omega (arith, same)
            | inr t ↦ (let h = needed_bound t.0 t.1 in let same = t.2 in omega (arith, h, same))
          ] in
          ap (option_map most) e ∙ ap (λ (y : ℕ). Some y) (omega (arith, section, low, high)),
    )

  -- ---- what is asked for

  pub asked_law : IsCover at.given → (p : Section) (o : Order) → (asked_of at notes p ≡ Some o) ↔ IsAsked at notes p o
  asked_law cover p o = (
    λ e. by (claim_at notes (start_of notes p.first)) refl e,
    λ a.
        let start = (start_says notes content p.first o.start).1 a.start in
        ap (λ s. asked_by at notes p s (claim_at notes s)) start ∙ back a,
  ) where
    most : ℕ → ℕ → ℕ
    most start e = max e (up_to_bound (needed_of notes start p.first) p.hole.end)

    -- No pack is held that stands at the end of a file alone, or the end is known.
    is_known : Option ℕ → Bool
    is_known end = is_some end || not (has_end_pack notes)

    known_says : (end : Option ℕ) → (is_known end ≡ true) ↔ (IsSome end ⊎ (HasEndPack notes → ⊥))
    known_says end =
        let ended = has_end_pack notes in
        let says = end_pack_says notes content in (
          λ t. elim (or_cases (is_some end) (not ended) t) [
            | inl u ↦ inl u
            | inr u ↦ inr (λ h. not-true-false ended u (says.1 h))
          ],
          λ h. elim h [
            | inl u ↦ or_left (is_some end) (not ended) u
            | inr n ↦ or_right (is_some end) (not ended) (not_true ended (λ t. n (says.0 t)))
          ],
        )

    by : (claim : Option Claim) → claim_at notes (start_of notes p.first) ≡ claim
        → asked_by at notes p (start_of notes p.first) claim ≡ Some o → IsAsked at notes p o
    by None f e =
        let start = start_of notes p.first in
        let end = option_map (most start) (end_by at notes p None) in
        let s = some_if (is_known end) (gap_from start end) o e in
        subst (IsAsked at notes p) s.1 (record {
          start = start_is notes content p.first;
          said = inr ((none_speaks notes start content).0 f, refl, refl);
          end = (asked_end_says cover p start None f end).0 refl;
          known = λ g. (known_says end).0 s.0;
          from_start = refl;
          new = refl;
        })
    by (Some c) f e =
        let start = start_of notes p.first in
        let first = (first_says notes start c content).0 f in
        subst (IsAsked at notes p) (same_Some _ o e) (record {
          start = start_is notes content p.first;
          said = inl (c, first, refl, refl);
          end = (asked_end_says cover p start (Some c) f (option_map (most start) (end_by at notes p (Some c)))).0 refl;
          known = λ g. absurd (never_gap c first.claim g);
          from_start = refl;
          new = refl;
        })

    back : IsAsked at notes p o → asked_by at notes p o.start (claim_at notes o.start) ≡ Some o
    back a = elim a.said [
      | inl k ↦ (
          let c = k.0 in
          let f = (first_says notes o.start c content).1 k.1 in
          let end = (asked_end_says cover p o.start (Some c) f o.end).1 a.end in
          ap (asked_by at notes p o.start) f
          ∙ (λ i. Some (record {
            reason = sym k.2 i;
            start = o.start;
            end = end i;
            source = sym k.3 i;
            inside = sym a.from_start i;
            again = sym a.new i;
          })))
      | inr k ↦ (
          let f = (none_speaks notes o.start content).1 k.0 in
          let end = (asked_end_says cover p o.start None f o.end).1 a.end in
          let known = (known_says o.end).1 (a.known k.1) in
          ap (asked_by at notes p o.start) f ∙ ap (asked (has_end_pack notes) None o.start) end
          ∙ ap (λ b. if b then Some (gap_from o.start o.end) else None) known
          ∙ (λ i. Some (record {
            reason = sym k.1 i;
            start = o.start;
            end = o.end;
            source = sym k.2 i;
            inside = sym a.from_start i;
            again = sym a.new i;
          })))
    ]
