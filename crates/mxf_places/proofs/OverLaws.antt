-- Going over fills leads to where none begins.
use Rattle.mxf_views.proofs.Common.{◌≡◌, ◌≢◌, ◌↔◌, ◌⊎◌, ◌∙◌, ◌<◌, ◌≤◌, ◌==◌, ◌&&◌, ◌+◌, ℕ, true, false, IsTrue, List}
use Rattle.mxf_views.proofs.Common.{[], ◌∷◌, refl, sym, subst, inl, inr, not, cond, arith, eqb-true, eq-eqb, and_from}
use Rattle.mxf_views.proofs.Common.{and_parts, cases_lt, same_Some, Less, NoteParts, kind_of, end_of, note_cmp}
use Rattle.mxf_views.proofs.Common.{note_total, In, less_in, IsContent, AreApart, is_disputed, undisputed_notes}
use Rattle.mxf_views.proofs.Common.{In-undisputed_notes, IsContent-filter, undisputed_at-found, offset_le, is_fill}
use Rattle.mxf_catalogue.proofs.SpanLaws.{not_same}
use Rattle.mxf_views.proofs.KindLaws.{fill_kind}
use Rattle.mxf_places.specs.Claims.{over_among, over_fills}
use Rattle.mxf_places.specs.Named.{Follow, IsOver, StandsAlone}
use Rattle.mxf_klv.specs.declared.kinds.Kind.TheVariants as kinds

-- Going over the fills among packets from an offset one comes to another, which is the same or above a bound.
record Passed (packets : List NoteParts) (low from to : ℕ) : Type 0 where
  pub fills : List NoteParts
  pub are : (n : NoteParts) → In n fills → IsTrue (is_fill (kind_of n.key)) × In n packets
  pub follow : Follow fills from to
  pub last : (n : NoteParts) → In n packets → IsTrue (is_fill (kind_of n.key)) → n.offset ≢ to
  pub later : (to ≡ from) ⊎ (low < to)

passed_first : (n : NoteParts) (packets : List NoteParts) (low from to : ℕ) → low ≤ n.offset → n.offset ≡ from
    → IsTrue (is_fill (kind_of n.key)) → Passed packets (end_of n) (end_of n) to → Passed (n ∷ packets) low from to
passed_first n packets low from to above at fill p =
    let reached : end_of n ≤ to = elim p.later [ inl e ↦ omega (arith, e) | inr l ↦ omega (arith, l) ] in
    record {
      fills = n ∷ p.fills;
      are = λ m h. elim h [
        | inl e ↦ subst (λ (y : NoteParts). IsTrue (is_fill (kind_of y.key)) × In y (n ∷ packets)) (sym e)
            (fill, inl refl)
        | inr k ↦ ((p.are m k).0, inr (p.are m k).1)
      ];
      follow = (at, p.follow);
      last = λ m h f. elim h [
        | inl e ↦ λ q. let o = subst (λ (y : NoteParts). y.offset ≡ to) e q in omega (arith, o, reached)
        | inr k ↦ p.last m k f
      ];
      later = inr (omega (arith, above, reached));
    }

passed_over : (n : NoteParts) (packets : List NoteParts) (low from to : ℕ) → low ≤ n.offset
    → ((n.offset == from) && is_fill (kind_of n.key)) ≡ false → Passed packets (end_of n) from to
    → Passed (n ∷ packets) low from to
passed_over n packets low from to above other p = record {
  fills = p.fills;
  are = λ m h. ((p.are m h).0, inr (p.are m h).1);
  follow = p.follow;
  last = λ m h f. elim h [
    | inl e ↦ λ q.
        let o = subst (λ (y : NoteParts). y.offset ≡ to) e q in
        let fill = subst (λ (y : NoteParts). IsTrue (is_fill (kind_of y.key))) e f in
        elim p.later [
          | inl same ↦ (
              let t = and_from (n.offset == from) (is_fill (kind_of n.key)) (eq-eqb _ _ (o ∙ same)) fill in
              absurd (cc (t, other)))
          | inr l ↦ omega (arith, o, l)
        ]
    | inr k ↦ p.last m k f
  ];
  later = elim p.later [ inl same ↦ inl same | inr l ↦ inr (omega (arith, above, l)) ];
}

passed : (packets : List NoteParts) (low from : ℕ) → AreApart low packets
    → Passed packets low from (over_among packets from)
passed [] low from apart = record {
  fills = [];
  are = λ n h. absurd h;
  follow = refl;
  last = λ n h. absurd h;
  later = inl refl;
}
passed (n ∷ packets) low from apart =
    elim ((n.offset == from) && is_fill (kind_of n.key)) as (λ b. ((n.offset == from) && is_fill (kind_of n.key)) ≡ b
    → Passed (n ∷ packets) low from (over_among packets (cond b (end_of n) from))) [
      | true ↦ λ e.
          let t = and_parts (n.offset == from) (is_fill (kind_of n.key)) e in
          passed_first n packets low from _ apart.0 (eqb-true _ _ t.0) t.1
          (passed packets (end_of n) (end_of n) apart.1)
      | false ↦ λ e. passed_over n packets low from _ apart.0 e (passed packets (end_of n) from apart.1)
    ] refl

module _ (notes : List NoteParts) where
  pub alone : (n : NoteParts) → In n (undisputed_notes notes) → StandsAlone notes n n.offset
  alone n h =
      let u = (In-undisputed_notes n notes).0 h in record { held = u.0; undisputed = u.1; offset = refl }

  pub among : (n : NoteParts) (at : ℕ) → StandsAlone notes n at → In n (undisputed_notes notes)
  among n at s = (In-undisputed_notes n notes).1 (s.held, s.undisputed)

  pub moved : (n : NoteParts) (at to : ℕ) → StandsAlone notes n at → at ≡ to → StandsAlone notes n to
  moved n at to s e = record { held = s.held; undisputed = s.undisputed; offset = s.offset ∙ e }

  -- ---- they are apart

  ends_before : (m n : NoteParts) → In m (undisputed_notes notes) → In n (undisputed_notes notes)
      → note_cmp m n ≡ Less → end_of m ≤ n.offset
  ends_before m n h k e =
      let le : m.offset ≤ n.offset = offset_le m n e in
      elim (cases_lt n.offset (end_of m)) [
        | inl l ↦ (
            let a : n.offset ≤ n.offset = omega arith in
            let b : n.offset + 1 ≤ end_of n = omega arith in
            let c : n.offset + 1 ≤ end_of m = omega (arith, l) in
            absurd (((In-undisputed_notes m notes).0 h).1 (
              n,
              ((In-undisputed_notes n notes).0 k).0,
              (λ same. not_same m n e (sym same)),
              (n.offset, record { from = a; before = b }, record { from = le; before = c }),
            )))
        | inr l ↦ l
      ]

  all_apart : (some : List NoteParts) (low : ℕ) → IsContent some
      → ((n : NoteParts) → In n some → In n (undisputed_notes notes)) → ((n : NoteParts) → In n some → low ≤ n.offset)
      → AreApart low some
  all_apart [] low rising are above = tt
  all_apart (x ∷ xs) low rising are above = (
    above x (inl refl),
    all_apart xs (end_of x) rising.1 (λ n h. are n (inr h))
        (λ n h. ends_before x n (are x (inl refl)) (are n (inr h)) (less_in note_total x n xs rising.0 h)),
  )

  undisputed_apart : IsContent notes → AreApart 0 (undisputed_notes notes)
  undisputed_apart content =
      all_apart (undisputed_notes notes) 0 (IsContent-filter (λ n. not (is_disputed n notes)) notes content)
      (λ n h. h) (λ n h. omega arith)

  -- ---- one comes to one offset

  one_alone : (m n : NoteParts) (at : ℕ) → StandsAlone notes m at → StandsAlone notes n at → m ≡ n
  one_alone m n at s t = same_Some m n (sym (undisputed_at-found at notes m (among m at s) s.offset)
      ∙ undisputed_at-found at notes n (among n at t) t.offset)

  abbrev AreFills : List NoteParts → Type 0
  AreFills fills = (n : NoteParts) → In n fills → (kind_of n.key ≡ kinds.Fill) × StandsAlone notes n n.offset

  abbrev NoFill : ℕ → Type 0
  NoFill to = (n : NoteParts) → StandsAlone notes n to → kind_of n.key ≢ kinds.Fill

  goes_on : (n : NoteParts) (fills : List NoteParts) (from : ℕ) → NoFill from → AreFills (n ∷ fills)
      → n.offset ≡ from → ⊥
  goes_on n fills from none are at = none n (moved n n.offset from (are n (inl refl)).1 at) (are n (inl refl)).0

  ends_once : (fs gs : List NoteParts) (from to too : ℕ) → AreFills fs → Follow fs from to → NoFill to
      → AreFills gs → Follow gs from too → NoFill too → to ≡ too
  ends_once [] [] from to too f follow last g follows lasts = sym follow ∙ follows
  ends_once [] (n ∷ gs) from to too f follow last g follows lasts = absurd (goes_on n gs to last g (follows.0 ∙ follow))
  ends_once (n ∷ fs) [] from to too f follow last g follows lasts =
      absurd (goes_on n fs too lasts f (follow.0 ∙ follows))
  ends_once (n ∷ fs) (m ∷ gs) from to too f follow last g follows lasts =
      let same = one_alone n m from (moved n n.offset from (f n (inl refl)).1 follow.0)
      (moved m m.offset from (g m (inl refl)).1 follows.0) in
      ends_once fs gs (end_of n) to too (λ x h. f x (inr h)) follow.1 last (λ x h. g x (inr h))
      (subst (λ (y : NoteParts). Follow gs (end_of y) too) (sym same) follows.1) lasts

  module _ (content : IsContent notes) where
    pub over_is : (from : ℕ) → IsOver notes from (over_fills notes from)
    over_is from =
        let p = passed (undisputed_notes notes) 0 from (undisputed_apart content) in
        record {
          fills = p.fills;
          are = λ n h. ((fill_kind (kind_of n.key)).0 (p.are n h).0, alone n (p.are n h).1);
          follow = p.follow;
          last = λ n s k. p.last n (among n _ s) ((fill_kind (kind_of n.key)).1 k) s.offset;
        }

    pub over_says : (from to : ℕ) → (over_fills notes from ≡ to) ↔ IsOver notes from to
    over_says from to =
        let o = over_is from in (
          λ e. subst (IsOver notes from) e o,
          λ k. ends_once o.fills k.fills from (over_fills notes from) to o.are o.follow o.last k.are k.follow k.last,
        )
