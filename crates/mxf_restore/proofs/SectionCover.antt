-- The sections of holes cover them, and share no byte.
use Rattle.mxf_views.proofs.Common.{◌≡◌, ◌↔◌, ◌⊎◌, ◌∙◌, ◌-◌, ◌<◌, ◌≤◌, ◌&&◌, ℕ, true, false, IsTrue, not, nat_lt}
use Rattle.mxf_views.proofs.Common.{if◌then◌else◌, List, [], ◌∷◌, Option, None, Some, filter, filter_map, refl, sym, ap}
use Rattle.mxf_views.proofs.Common.{subst, inl, inr, arith, ltb-true, lt-ltb, and_from, and_parts, cases_lt}
use Rattle.mxf_views.proofs.Common.{nat_cmp_total, same_Some, nat_cmp-IsAntisymmetric, option_map_or, NoteParts, In}
use Rattle.mxf_views.proofs.Common.{In-union, IsRising-union, all-In, In-filter, In-filter_map, In-flat_map, IsRisingBy}
use Rattle.mxf_views.proofs.Common.{by_itself, rises-filter, not-true-false, not_true, IsContent}
use Rattle.mxf_places.specs.Held.{IsHeld, is_held, is_in_file}
use Rattle.mxf_places.specs.Claims.{claims_of}
use Rattle.mxf_places.specs.declared.claim.Claim.{Claim}
use Rattle.mxf_places.specs.AtHand.{LiesInRange}
use Rattle.mxf_restore.specs.Sections.{AreSections, CutsAt, IsCut, IsEndOfHole, IsHole, LiesInSection, cut_of, cuts_of}
use Rattle.mxf_restore.specs.Sections.{holes_of, is_inside, sections_from, sections_in, sections_of}
use Rattle.mxf_places.specs.declared.at_hand.OffsetRange.{OffsetRange}
use Rattle.mxf_restore.specs.declared.section.Section.{Section}
use Rattle.mxf_places.proofs.EndLaws.{in_file_says}
use Rattle.mxf_places.proofs.HeldLaws.{is_held-says}
use Rattle.mxf_restore.proofs.ClaimedPlaces.{closed_says, named_says}
use Rattle.mxf_restore.proofs.HoleLaws.{from_hole, to_hole}

-- The offset lies below the end of a hole or a section.
abbrev pub Below : Option ℕ → ℕ → Type 0
Below end x = (end ≡ None) ⊎ ((e : ℕ) × (end ≡ Some e) × (x < e))

pub lower : (end : Option ℕ) (x y : ℕ) → x ≤ y → Below end y → Below end x
lower end x y l (inl e) = inl e
lower end x y l (inr s) = inr (s.0, s.1, omega (arith, s.2, l))

below_test : (end : Option ℕ) (x : ℕ) → IsTrue (option_map_or (λ e. nat_lt x e) end true) ↔ Below end x
below_test None x = (λ t. inl refl, λ b. refl)
below_test (Some e) x = (
  λ t. inr (e, refl, ltb-true x e t),
  λ b. elim b [ inl q ↦ absurd cc | inr s ↦ (let q = same_Some e s.0 s.1 in lt-ltb x e (omega (arith, q, s.2))) ],
)

pub below_some : (x e : ℕ) → Below (Some e) x → x < e
below_some x e (inl q) = absurd (cc (q))
below_some x e (inr s) = let q = same_Some e s.0 s.1 in omega (arith, q, s.2)

inside : (h : OffsetRange) (x : ℕ) → IsTrue (is_inside h x) ↔ ((h.start < x) × Below h.end x)
inside h x =
    let t = below_test h.end x in (
      λ b.
          let p = and_parts (nat_lt h.start x) (option_map_or (λ e. nat_lt x e) h.end true) b in
          (ltb-true h.start x p.0, t.0 p.1),
      λ s. and_from (nat_lt h.start x) (option_map_or (λ e. nat_lt x e) h.end true) (lt-ltb h.start x s.0) (t.1 s.1),
    )

-- ---- the sections of one hole

module _ (h : OffsetRange) where
  -- Cuts above an offset and inside the hole, rising.
  abbrev Cuts : ℕ → List ℕ → Type 0
  Cuts first [] = Below h.end first
  Cuts first (c ∷ cuts) = (first < c) × Cuts c cuts

  cuts_below : (first : ℕ) (cuts : List ℕ) → Cuts first cuts → Below h.end first
  cuts_below first [] r = r
  cuts_below first (c ∷ cuts) r = let l : first < c = r.0 in lower h.end first c (omega arith) (cuts_below c cuts r.1)

  are_cuts : (first : ℕ) (cuts : List ℕ) → Below h.end first → IsRisingBy (λ x. x) cuts
      → ((c : ℕ) → In c cuts → (first < c) × Below h.end c) → Cuts first cuts
  are_cuts first [] b r f = b
  are_cuts first (c ∷ cuts) b r f =
      let this = f c (inl refl) in (
        this.0,
        are_cuts c cuts this.1 r.1 (λ d k. (all-In (λ y. c < y) cuts d r.0 k, (f d (inr k)).1)),
      )

  covers : (first : ℕ) (cuts : List ℕ) (x : ℕ) → first ≤ x → Below h.end x
      → (p : Section) × In p (sections_from h first cuts) × (p.hole ≡ h) × LiesInSection p x
  covers first [] x l b = (record { first = first; end = h.end; hole = h }, inl refl, refl, (l, b))
  covers first (c ∷ cuts) x l b = elim (cases_lt x c) [
    | inl s ↦ (record { first = first; end = Some c; hole = h }, inl refl, refl, (l, inr (c, refl, s)))
    | inr s ↦ (let r = covers c cuts x s b in (r.0, inr r.1, r.2, r.3))
  ]

  of_hole : (first : ℕ) (cuts : List ℕ) (p : Section) → In p (sections_from h first cuts) → p.hole ≡ h
  of_hole first [] p (inl e) = ap (λ (q : Section). q.hole) e
  of_hole first [] p (inr k) = absurd k
  of_hole first (c ∷ cuts) p (inl e) = ap (λ (q : Section). q.hole) e
  of_hole first (c ∷ cuts) p (inr k) = of_hole c cuts p k

  from_first : (first : ℕ) (cuts : List ℕ) (p : Section) → Cuts first cuts → In p (sections_from h first cuts)
      → first ≤ p.first
  from_first first [] p r (inl e) = let q = ap (λ (q : Section). q.first) e in omega (arith, q)
  from_first first [] p r (inr k) = absurd k
  from_first first (c ∷ cuts) p r (inl e) = let q = ap (λ (q : Section). q.first) e in omega (arith, q)
  from_first first (c ∷ cuts) p r (inr k) =
      let l : first < c = r.0 in
      let f = from_first c cuts p r.1 k in omega (arith, f, l)

  below_end : (first : ℕ) (cuts : List ℕ) (p : Section) (x : ℕ) → Cuts first cuts → In p (sections_from h first cuts)
      → Below p.end x → Below h.end x
  below_end first [] p x r (inl e) b = subst (λ (q : Section). Below q.end x) e b
  below_end first [] p x r (inr k) b = absurd k
  below_end first (c ∷ cuts) p x r (inl e) b = elim (subst (λ (q : Section). Below q.end x) e b) [
    | inl q ↦ absurd (cc (q))
    | inr s ↦ (let q = same_Some c s.0 s.1 in lower h.end x c (omega (arith, q, s.2)) (cuts_below c cuts r.1))
  ]
  below_end first (c ∷ cuts) p x r (inr k) b = below_end c cuts p x r.1 k b

  has_first : (first : ℕ) (cuts : List ℕ) (p : Section) → Cuts first cuts → In p (sections_from h first cuts)
      → Below p.end p.first
  has_first first [] p r (inl e) = subst (λ (q : Section). Below q.end q.first) (sym e) r
  has_first first [] p r (inr k) = absurd k
  has_first first (c ∷ cuts) p r (inl e) = subst (λ (q : Section). Below q.end q.first) (sym e) (inr (c, refl, r.0))
  has_first first (c ∷ cuts) p r (inr k) = has_first c cuts p r.1 k

  begins : (first : ℕ) (cuts : List ℕ) (p : Section) → In p (sections_from h first cuts)
      → (p.first ≡ first) ⊎ In p.first cuts
  begins first [] p (inl e) = inl (ap (λ (q : Section). q.first) e)
  begins first [] p (inr k) = absurd k
  begins first (c ∷ cuts) p (inl e) = inl (ap (λ (q : Section). q.first) e)
  begins first (c ∷ cuts) p (inr k) = elim (begins c cuts p k) [ inl e ↦ inr (inl e) | inr m ↦ inr (inr m) ]

  begun : (first : ℕ) (cuts : List ℕ) → (p : Section) × In p (sections_from h first cuts) × (p.first ≡ first)
  begun first [] = (record { first = first; end = h.end; hole = h }, inl refl, refl)
  begun first (c ∷ cuts) = (record { first = first; end = Some c; hole = h }, inl refl, refl)

  begun_at : (first : ℕ) (cuts : List ℕ) (x : ℕ) → In x cuts
      → (p : Section) × In p (sections_from h first cuts) × (p.first ≡ x)
  begun_at first [] x k = absurd k
  begun_at first (c ∷ cuts) x (inl e) = let s = begun c cuts in (s.0, inr s.1, s.2 ∙ sym e)
  begun_at first (c ∷ cuts) x (inr k) = let s = begun_at c cuts x k in (s.0, inr s.1, s.2)

  apart_from : (first c : ℕ) (cuts : List ℕ) (p q : Section) (x : ℕ) → Cuts first (c ∷ cuts)
      → p ≡ record { first = first; end = Some c; hole = h } → In q (sections_from h c cuts) → LiesInSection p x
      → LiesInSection q x → ⊥
  apart_from first c cuts p q x r e k a b =
      let from = from_first c cuts q r.1 k in
      let reach : q.first ≤ x = b.0 in
      elim (subst (λ (o : Section). Below o.end x) e a.1) [
        | inl f ↦ cc (f)
        | inr s ↦ (let f = same_Some c s.0 s.1 in omega (arith, f, s.2, from, reach))
      ]

  one_piece : (first : ℕ) (cuts : List ℕ) (p q : Section) (x : ℕ) → Cuts first cuts → In p (sections_from h first cuts)
      → In q (sections_from h first cuts) → LiesInSection p x → LiesInSection q x → p ≡ q
  one_piece first [] p q x r (inl e) (inl f) a b = e ∙ sym f
  one_piece first [] p q x r (inl e) (inr k) a b = absurd k
  one_piece first [] p q x r (inr k) j a b = absurd k
  one_piece first (c ∷ cuts) p q x r (inl e) (inl f) a b = e ∙ sym f
  one_piece first (c ∷ cuts) p q x r (inl e) (inr k) a b = absurd (apart_from first c cuts p q x r e k a b)
  one_piece first (c ∷ cuts) p q x r (inr k) (inl f) a b = absurd (apart_from first c cuts q p x r f k b a)
  one_piece first (c ∷ cuts) p q x r (inr j) (inr k) a b = one_piece c cuts p q x r.1 j k a b

-- ---- the sections of all holes

-- Two holes that share an offset are one.
one_hole : (notes : List NoteParts) (h k : OffsetRange) (x : ℕ) → IsHole notes h → IsHole notes k → LiesInRange h x
    → LiesInRange k x → h ≡ k
one_hole notes h k x a b u v =
    let start = same_start in
    let end = ends h.end k.end a.last b.last u.1 v.1 (λ e l m. a.none_held e (l, m)) (λ e l m. b.none_held e (l, m)) in
    λ i. record { start = start i; end = end i }
  where
    not_below : (h k : OffsetRange) → IsHole notes h → IsHole notes k → LiesInRange h x → LiesInRange k x
        → h.start < k.start → ⊥
    not_below h k a b u v l =
        let m : k.start ≤ x = v.0 in
        let held = b.first (k.start - 1) (omega (arith, l)) in
        a.none_held (k.start - 1) (omega (arith, l), lower h.end (k.start - 1) x (omega (arith, m)) u.1) held

    same_start : h.start ≡ k.start
    same_start = elim (cases_lt h.start k.start) [
      | inl l ↦ absurd (not_below h k a b u v l)
      | inr l ↦ elim (cases_lt k.start h.start) [
        | inl m ↦ absurd (not_below k h b a v u m)
        | inr m ↦ omega (arith, l, m)
      ]
    ]

    ends : (d e : Option ℕ) → IsEndOfHole notes d → IsEndOfHole notes e → Below d x → Below e x
        → ((y : ℕ) → h.start ≤ y → Below d y → IsHeld notes y → ⊥)
        → ((y : ℕ) → k.start ≤ y → Below e y → IsHeld notes y → ⊥) → d ≡ e
    ends None None p q s t f g = refl
    ends None (Some y) p q s t f g = elim t [
      | inl z ↦ absurd (cc (z))
      | inr z ↦ (let w = same_Some y z.0 z.1 in let m : h.start ≤ x = u.0 in absurd
          (f y (omega (arith, w, z.2, m)) (inl refl) q))
    ]
    ends (Some y) None p q s t f g = elim s [
      | inl z ↦ absurd (cc (z))
      | inr z ↦ (let w = same_Some y z.0 z.1 in let m : k.start ≤ x = v.0 in absurd
          (g y (omega (arith, w, z.2, m)) (inl refl) p))
    ]
    ends (Some y) (Some z) p q s t f g =
        let above_y = below_some x y s in
        let above_z = below_some x z t in
        let m : h.start ≤ x = u.0 in
        let n : k.start ≤ x = v.0 in
        elim (cases_lt y z) [
          | inl l ↦ absurd (g y (omega (arith, n, above_y)) (inr (z, refl, l)) p)
          | inr l ↦ elim (cases_lt z y) [
            | inl o ↦ absurd (f z (omega (arith, m, above_z)) (inr (y, refl, o)) q)
            | inr o ↦ (let same : y ≡ z = omega (arith, l, o) in ap (λ (w : ℕ). Some w) same)
          ]
        ]

-- Where a claim cuts.
cuts_say : (c : Claim) (x : ℕ) → (cut_of c ≡ Some x) ↔ CutsAt c x
cuts_say c x = named_says c (if c.is_open then None else Some c.end) x false (c.end ≡ x) (closed_says c.is_open c.end x)

module _ (notes : List NoteParts) (content : IsContent notes) where
  rising : IsRisingBy (λ x. x) (cuts_of notes)
  unfolding cuts_of
  rising = by_itself (cuts_of notes) (IsRising-union nat_cmp_total nat_cmp-IsAntisymmetric []
      (filter (λ x. is_in_file notes x && not (is_held notes x)) (filter_map cut_of (claims_of notes))) tt)

  pub is_cut : (x : ℕ) → In x (cuts_of notes) ↔ IsCut notes x
  unfolding cuts_of
  is_cut x =
      let test = λ (y : ℕ). is_in_file notes y && not (is_held notes y) in
      let named = filter_map cut_of (claims_of notes) in
      let u = In-union nat_cmp_total nat_cmp-IsAntisymmetric x [] (filter test named) in
      let f = In-filter test named x in
      let m = In-filter_map cut_of (claims_of notes) x in
      let says = is_held-says notes x in (
        λ k.
            let j = f.0 (elim (u.0 k) [ inl n ↦ absurd n | inr n ↦ n ]) in
            let b = and_parts (is_in_file notes x) (not (is_held notes x)) j.1 in
            let c = m.0 j.0 in
            record {
              claim = (c.0, c.1, (cuts_say c.0 x).0 c.2);
              in_file = (in_file_says notes x).0 b.0;
              free = λ h. not-true-false (is_held notes x) b.1 (says.1 h);
            },
        λ c. u.1 (inr (f.1 (
          m.1 (c.claim.0, c.claim.1, (cuts_say c.claim.0 x).1 c.claim.2),
          and_from (is_in_file notes x) (not (is_held notes x)) ((in_file_says notes x).1 c.in_file)
              (not_true (is_held notes x) (λ t. c.free (says.0 t))),
        ))),
      )

  cuts_in : (h : OffsetRange) → IsHole notes h → Cuts h h.start (filter (is_inside h) (cuts_of notes))
  cuts_in h is = are_cuts h h.start (filter (is_inside h) (cuts_of notes)) is.some.1
      (rises-filter (λ x. x) (is_inside h) (cuts_of notes) rising)
      (λ c k. (inside h c).0 ((In-filter (is_inside h) (cuts_of notes) c).0 k).1)

  abbrev IsPieceOf : OffsetRange → Section → Type 0
  IsPieceOf h p = In p (sections_from h h.start (filter (is_inside h) (cuts_of notes)))

  piece_in : (p : Section) → In p (sections_of notes) ↔ ((h : OffsetRange) × In h (holes_of notes) × IsPieceOf h p)
  unfolding sections_of
  piece_in p = In-flat_map (sections_in (cuts_of notes)) (holes_of notes) p

  lies_in_hole : (h : OffsetRange) (p : Section) (x : ℕ) → IsHole notes h → IsPieceOf h p → LiesInSection p x
      → LiesInRange h x
  lies_in_hole h p x is k l =
      let cuts = filter (is_inside h) (cuts_of notes) in
      let from = from_first h h.start cuts p (cuts_in h is) k in
      let m : p.first ≤ x = l.0 in
      (omega (arith, from, m), below_end h h.start cuts p x (cuts_in h is) k l.1)

  one_there : (h k : OffsetRange) (p q : Section) (x : ℕ) → IsHole notes k → h ≡ k → IsPieceOf h p → IsPieceOf k q
      → LiesInSection p x → LiesInSection q x → p ≡ q
  one_there h k p q x is e i j a b = one_piece k k.start (filter (is_inside k) (cuts_of notes)) p q x (cuts_in k is)
      (subst (λ o. IsPieceOf o p) e i) j a b

  pub are_sections : AreSections notes (sections_of notes)
  are_sections = record {
    holes = λ p k.
        let s = (piece_in p).0 k in
        subst (IsHole notes) (sym (of_hole s.0 s.0.start _ p s.2)) (to_hole notes content s.0 s.1);
    within = λ p x k l.
        let s = (piece_in p).0 k in
        subst (λ h. LiesInRange h x) (sym (of_hole s.0 s.0.start _ p s.2))
        (lies_in_hole s.0 p x (to_hole notes content s.0 s.1) s.2 l);
    some = λ p k.
        let s = (piece_in p).0 k in
        (omega arith, has_first s.0 s.0.start _ p (cuts_in s.0 (to_hole notes content s.0 s.1)) s.2);
    begins = λ p k.
        let s = (piece_in p).0 k in
        elim (begins s.0 s.0.start (filter (is_inside s.0) (cuts_of notes)) p s.2) [
          | inl e ↦ inl (e ∙ ap (λ (h : OffsetRange). h.start) (sym (of_hole s.0 s.0.start _ p s.2)))
          | inr i ↦ inr ((is_cut p.first).0 ((In-filter (is_inside s.0) (cuts_of notes) p.first).0 i).0)
        ];
    cover = λ h x is l.
        let s = covers h h.start (filter (is_inside h) (cuts_of notes)) x l.0 l.1 in
        (s.0, (piece_in s.0).1 (h, from_hole notes content h is, s.1), s.2, s.3);
    apart = λ p q x i j a b.
        let s = (piece_in p).0 i in
        let t = (piece_in q).0 j in
        let sh = to_hole notes content s.0 s.1 in
        let th = to_hole notes content t.0 t.1 in
        one_there s.0 t.0 p q x th
        (one_hole notes s.0 t.0 x sh th (lies_in_hole s.0 p x sh s.2 a) (lies_in_hole t.0 q x th t.2 b)) s.2 t.2 a b;
    cut = λ h x is l c.
        let all = cuts_of notes in
        let k = from_hole notes content h is in
        elim (cases_lt h.start x) [
          | inl m ↦ (
              let i = (In-filter (is_inside h) all x).1 ((is_cut x).1 c, (inside h x).1 (m, l.1)) in
              let s = begun_at h h.start (filter (is_inside h) all) x i in
              (s.0, (piece_in s.0).1 (h, k, s.1), s.2))
          | inr m ↦ (
              let s = begun h h.start (filter (is_inside h) all) in
              let from : h.start ≤ x = l.0 in
              let e : h.start ≡ x = omega (arith, m, from) in
              (s.0, (piece_in s.0).1 (h, k, s.1), s.2 ∙ e))
        ];
  }
