-- How a note is disputed, told from its neighbours and from how far the notes before it reach.
use Rattle.mxf_klv.proofs.Common.{max, AllWithin, Less, sym, ap, subst, inl, inr, arith, get_or, append_assoc, ◌∙◌}
use Rattle.mxf_klv.proofs.Common.{ltb-true, ltb-false, or_cases, or_left, or_right, get_or_default, NoteParts, end_of}
use Rattle.mxf_klv.proofs.Common.{note_cmp, note_total, In, less_in}
use Rattle.std.specs.Prelude.{◌≡◌, ◌≢◌, ℕ, ◌+◌, ◌-◌, ◌<◌, ◌≤◌, nat_lt, ◌||◌, Bool, true, false, List, [], ◌∷◌, ◌++◌}
use Rattle.std.specs.Prelude.{length, ◌⊎◌, refl}
use Rattle.mxf_catalogue.specs.Content.{IsContent}
use Rattle.mxf_catalogue.specs.Disputes.{DisputedParts, SharesOffset, Overlaps, disputed_parts, is_offset_shared}
use Rattle.mxf_catalogue.specs.Disputes.{is_overlapped}
use Rattle.mxf_catalogue.specs.Reach.{IsLeft, IsReach, StandsIn}
use Rattle.mxf_catalogue.proofs.DisputeLaws.{is_offset_shared-SharesOffset, is_overlapped-Overlaps}
use Rattle.mxf_catalogue.proofs.Ranges.{offsets_rise}
use Rattle.mxf_catalogue.proofs.SpanLaws.{offset_le, not_same}
use Rattle.mxf_klv.proofs.Lists.{In-append, In-at, Contains-from_In}
use Rattle.mxf_klv.proofs.Tests.{same_bool}

before_less : (passed left : List NoteParts) (m n : NoteParts) → IsContent (passed ++ n ∷ left) → In m passed
    → note_cmp m n ≡ Less
before_less [] left m n r h = absurd h
before_less (p ∷ ps) left m n r (inl e) =
    let less = less_in note_total p n (ps ++ n ∷ left) r.0 ((In-append n ps (n ∷ left)).1 (inr (inl refl))) in
    subst (λ (x : NoteParts). note_cmp x n ≡ Less) (sym e) less
before_less (p ∷ ps) left m n r (inr h) = before_less ps left m n r.1 h

pub rises_behind : (passed left : List NoteParts) → IsContent (passed ++ left) → IsContent left
rises_behind [] left r = r
rises_behind (p ∷ ps) left r = rises_behind ps left r.1

module _ (n : NoteParts) (all left : List NoteParts) (above lower : ℕ) (s : StandsIn n all left above lower) where
  rises : IsContent (s.passed ++ n ∷ left)
  rises = subst IsContent (sym s.whole) s.rises

  earlier : (m : NoteParts) → In m s.passed → (m.offset ≤ n.offset) × (m ≢ n)
  earlier m h = let l = before_less s.passed left m n rises h in (offset_le m n l, not_same m n l)

  later : (m : NoteParts) → In m left → (n.offset ≤ m.offset) × (m ≢ n)
  later m h = grind (arith, less_in, not_same, note_total, offset_le, rises, rises_behind)

  pub left_rises : IsContent left
  left_rises = (rises_behind s.passed (n ∷ left) rises).1

  in_all : (m : NoteParts) → In m s.passed ⊎ In m left → In m all
  in_all m h = grind (arith, In-append)

  other : (m : NoteParts) → In m all → m ≢ n → In m s.passed ⊎ In m left
  other m h ne = grind (arith, In-append)

  -- the number of the notes behind that begin at the offset
  module _ (at : ℕ) (bound : at ≤ length left) (same : AllWithin (λ m. m.offset < n.offset + 1) left 0 at)
      (higher : AllWithin (λ m. n.offset + 1 ≤ m.offset) left at (length left)) where
    pub shares_offset : SharesOffset n all → (n.offset < above) ⊎ (0 < at)
    shares_offset h = elim (other h.0 h.1 h.2) [
      | inl k ↦ (let b : h.0.offset < above = s.below h.0 k in let e : h.0.offset ≡ n.offset = h.3 in inl (omega arith))
      | inr k ↦
          let c = Contains-from_In h.0 left k in
          let l : c.0 < length left = c.1 in
          let e : (get_or left c.0 h.0).offset ≡ n.offset = ap (λ (m : NoteParts). m.offset) c.2 ∙ h.3 in
          elim (nat_lt 0 at) as (λ b. nat_lt 0 at ≡ b → (n.offset < above) ⊎ (0 < at)) [
            | true ↦ λ t. inr (ltb-true _ _ t)
            | false ↦ λ t.
                let z : at ≤ 0 = ltb-false _ _ t in
                let u : n.offset + 1 ≤ (get_or left c.0 h.0).offset = higher c.0 h.0 (omega arith) l in
                absurd (omega arith)
          ] refl
    ]

    pub offset_shared : (n.offset < above) ⊎ (0 < at) → SharesOffset n all
    offset_shared (inl l) =
        let m = s.last (omega arith) in
        let e = earlier m.0 m.1 in
        let le : m.0.offset ≤ n.offset = e.0 in
        let up : m.0.offset + 1 ≡ above = m.2 in
        (m.0, in_all m.0 (inl m.1), e.1, omega arith)
    offset_shared (inr l) =
        let m = get_or left 0 n in
        let h = In-at left 0 n (omega arith) in
        let e = later m h in
        let le : n.offset ≤ m.offset = e.0 in
        let up : m.offset < n.offset + 1 = same 0 n (omega arith) l in
        (m, in_all m (inr h), e.1, omega arith)

    pub overlaps : Overlaps n all → (n.offset < lower) ⊎ ((at < length left) × ((get_or left at n).offset < end_of n))
    overlaps h =
        let ne : h.0 ≢ n = λ e. h.2 (ap (λ (m : NoteParts). m.offset) e) in
        let byte = h.3 in
        let a : h.0.offset ≤ byte.0 = byte.1.from in
        let b : byte.0 + 1 ≤ end_of h.0 = byte.1.before in
        let c : n.offset ≤ byte.0 = byte.2.from in
        let d : byte.0 + 1 ≤ end_of n = byte.2.before in
        elim (other h.0 h.1 ne) [
          | inl k ↦
              let le : h.0.offset ≤ n.offset = (earlier h.0 k).0 in
              let lt : h.0.offset < n.offset = not_equal h.0.offset n.offset le h.2 in
              let r : end_of h.0 ≤ lower = s.lower_is.bound h.0 k lt in inl (omega arith)
          | inr k ↦
              let le : n.offset ≤ h.0.offset = (later h.0 k).0 in
              let lt : n.offset < h.0.offset = not_equal n.offset h.0.offset le (λ e. h.2 (sym e)) in
              let p = Contains-from_In h.0 left k in
              let l : p.0 < length left = p.1 in
              let e : (get_or left p.0 h.0).offset ≡ h.0.offset = ap (λ (m : NoteParts). m.offset) p.2 in
              elim (nat_lt p.0 at) as (λ b. nat_lt p.0 at ≡ b
              → (n.offset < lower) ⊎ ((at < length left) × ((get_or left at n).offset < end_of n))) [
                | true ↦ λ t.
                    let u : (get_or left p.0 h.0).offset < n.offset + 1 = same p.0 h.0 (omega arith) (ltb-true _ _ t) in
                    absurd (omega arith)
                | false ↦ λ t.
                    let u : at ≤ p.0 = ltb-false _ _ t in
                    let v : (get_or left at n).offset ≤ (get_or left p.0 n).offset =
                    offsets_rise left left_rises at p.0 n u l in
                    let w : (get_or left p.0 n).offset ≡ h.0.offset =
                    ap (λ (m : NoteParts). m.offset) (get_or_default left p.0 n h.0 l) ∙ e in
                    inr (omega arith, omega arith)
              ] refl
        ]
      where
        not_equal : (a b : ℕ) → a ≤ b → (a ≡ b → ⊥) → a < b
        not_equal a b l f = elim (nat_lt a b) as (λ t. nat_lt a b ≡ t → a < b) [
          | true ↦ λ e. ltb-true _ _ e
          | false ↦ λ e. let g : b ≤ a = ltb-false _ _ e in let q : a ≡ b = omega arith in absurd (f q)
        ] refl

    pub overlapped : (n.offset < lower) ⊎ ((at < length left) × ((get_or left at n).offset < end_of n)) → Overlaps n all
    overlapped (inl l) =
        let m = s.lower_is.some (omega arith) in
        let lt : m.0.offset < n.offset = m.2 in
        let e : end_of m.0 ≡ lower = m.3 in
        let apart : m.0.offset ≢ n.offset = λ q. (let g : m.0.offset ≡ n.offset = q in omega arith) in (
          m.0,
          in_all m.0 (inl m.1),
          apart,
          (
            n.offset,
            record { from = omega arith; before = omega arith },
            record { from = omega arith; before = omega arith },
          ),
        )
    overlapped (inr (k, l)) =
        let m = get_or left at n in
        let h = In-at left at n k in
        let lt : n.offset + 1 ≤ m.offset = higher at n (omega arith) k in
        let apart : m.offset ≢ n.offset = λ q. (let g : m.offset ≡ n.offset = q in omega arith) in (
          m,
          in_all m (inr h),
          apart,
          (
            m.offset,
            record { from = omega arith; before = omega arith },
            record { from = omega arith; before = omega arith },
          ),
        )

-- a note with its marks
abbrev pub marked : NoteParts → Bool → Bool → DisputedParts
marked n p q = record { note = n; same_offset = p; overlaps = q }

-- the marks of a note, by the number of the notes behind that begin at its offset, and that begin below its end
pub marks_are : (n : NoteParts) (all left : List NoteParts) (above lower at to : ℕ) → StandsIn n all left above lower
    → at ≤ length left → AllWithin (λ m. m.offset < n.offset + 1) left 0 at
    → AllWithin (λ m. n.offset + 1 ≤ m.offset) left at (length left)
    → to ≤ length left → AllWithin (λ m. m.offset < end_of n) left 0 to
    → AllWithin (λ m. end_of n ≤ m.offset) left to (length left) → (p q : Bool)
    → p ≡ (nat_lt n.offset above || nat_lt 0 at) → q ≡ (nat_lt n.offset lower || nat_lt at to)
    → marked n p q ≡ disputed_parts n all
marks_are n all left above lower at to s bound same higher bound_to starts ends p q is_p is_q =
    grind (
      arith,
      is_offset_shared-SharesOffset n all,
      is_overlapped-Overlaps n all,
      is_offset_shared n all,
      same_bool p (is_offset_shared n all),
      offset_shared n all left above lower s at bound same higher,
      or_cases (nat_lt n.offset above) (nat_lt 0 at),
      nat_lt n.offset above,
      nat_lt 0 at,
      shares_offset n all left above lower s at bound same higher,
      or_left (nat_lt n.offset above) (nat_lt 0 at),
      or_right (nat_lt n.offset above) (nat_lt 0 at),
      is_overlapped n all,
      same_bool q (is_overlapped n all),
      overlapped n all left above lower s at bound same higher,
      or_cases (nat_lt n.offset lower) (nat_lt at to),
      nat_lt n.offset lower,
      nat_lt at to,
      overlaps n all left above lower s at bound same higher,
      or_left (nat_lt n.offset lower) (nat_lt at to),
      or_right (nat_lt n.offset lower) (nat_lt at to),
      end_of n,
    )

-- how far those reach that begin below the next note
reach_below : (n : NoteParts) (all left rest : List NoteParts) (above lower reached : ℕ)
    → (is : IsLeft all left above lower reached) → left ≡ n ∷ rest → (reach : ℕ) → (n.offset < above → reach ≡ lower)
    → (above ≤ n.offset → reach ≡ reached) → IsReach n.offset is.passed reach
reach_below n all left rest above lower reached is e reach low high =
    let whole : is.passed ++ n ∷ rest ≡ all = ap (λ (l : List NoteParts). is.passed ++ l) (sym e) ∙ is.whole in
    let rises : IsContent (is.passed ++ n ∷ rest) = subst IsContent (sym whole) is.rises in
    elim (nat_lt n.offset above) as (λ b. nat_lt n.offset above ≡ b → IsReach n.offset is.passed reach) [
      | true ↦ λ t.
          let l : n.offset < above = ltb-true _ _ t in
          let m = is.are.last (omega arith) in
          let le : m.0.offset ≤ n.offset = offset_le m.0 n (before_less is.passed rest m.0 n rises m.1) in
          let up : m.0.offset + 1 ≡ above = m.2 in
          let here : above - 1 ≡ n.offset = omega arith in
          subst (IsReach n.offset is.passed) (sym (low l))
          (subst (λ (o : ℕ). IsReach o is.passed lower) here is.are.lower_is)
      | false ↦ λ t.
          let l : above ≤ n.offset = ltb-false _ _ t in
          subst (IsReach n.offset is.passed) (sym (high l)) (record {
            bound = λ m h _. is.are.reached_is.bound m h (is.are.below m h);
            some = λ z.
                let m = is.are.reached_is.some z in
                let k : m.0.offset < above = m.2 in (m.0, m.1, omega arith, m.3);
          })
    ] refl

-- where the next note stands
pub stands_in : (n : NoteParts) (all left rest : List NoteParts) (above lower reached : ℕ)
    → IsLeft all left above lower reached → left ≡ n ∷ rest → (reach : ℕ) → (n.offset < above → reach ≡ lower)
    → (above ≤ n.offset → reach ≡ reached) → StandsIn n all rest above reach
stands_in n all left rest above lower reached is e reach low high =
    grind (arith, reach_below n all left rest above lower reached is e reach low high)

-- what is left behind it
pub left_behind : (n : NoteParts) (all left rest : List NoteParts) (above lower reached : ℕ)
    → IsLeft all left above lower reached → left ≡ n ∷ rest → (reach : ℕ) → (n.offset < above → reach ≡ lower)
    → (above ≤ n.offset → reach ≡ reached) → IsLeft all rest (n.offset + 1) reach (max reached (end_of n))
left_behind n all left rest above lower reached is e reach low high =
    let passed = is.passed ++ n ∷ [] in
    let below = reach_below n all left rest above lower reached is e reach low high in
    let whole : is.passed ++ n ∷ rest ≡ all = ap (λ (l : List NoteParts). is.passed ++ l) (sym e) ∙ is.whole in
    let rises : IsContent (is.passed ++ n ∷ rest) = subst IsContent (sym whole) is.rises in
    let split : (m : NoteParts) → In m passed → In m is.passed ⊎ (m ≡ n) = λ m h.
    elim ((In-append m is.passed (n ∷ [])).0 h) [
      | inl k ↦ inl k
      | inr k ↦ elim k [ inl q ↦ inr q | inr j ↦ absurd j ]
    ] in
    let there : In n passed = (In-append n is.passed (n ∷ [])).1 (inr (inl refl)) in
    let front : (m : NoteParts) → In m is.passed → In m passed = λ m h. (In-append m is.passed (n ∷ [])).1 (inl h) in
    let back : (m : NoteParts) → In m is.passed → m.offset ≤ n.offset = λ m h.
    offset_le m n (before_less is.passed rest m n rises h) in
    let same : n.offset ≡ n.offset + 1 - 1 = omega arith in
    let lower_is : IsReach n.offset passed reach = record {
      bound = λ m h l. elim (split m h) [
        | inl k ↦ below.bound m k l
        | inr q ↦ (let g : m.offset ≡ n.offset = ap (λ (x : NoteParts). x.offset) q in absurd (omega arith))
      ];
      some = λ z. let m = below.some z in (m.0, front m.0 m.1, m.2, m.3);
    } in
    let reached_is : IsReach (n.offset + 1) passed (max reached (end_of n)) = record {
      bound = λ m h l. elim (split m h) [
        | inl k ↦ (let b = is.are.reached_is.bound m k (is.are.below m k) in omega (arith, b))
        | inr q ↦ (let g : end_of m ≡ end_of n = ap end_of q in omega arith)
      ];
      some = λ z. elim (nat_lt reached (end_of n)) as (λ b. nat_lt reached (end_of n) ≡ b
          → (m : NoteParts) × In m passed × (m.offset < n.offset + 1) × (end_of m ≡ max reached (end_of n))) [
            | true ↦ λ t. let l : reached < end_of n = ltb-true _ _ t in (n, there, omega arith, omega arith)
            | false ↦ λ t.
                let l : end_of n ≤ reached = ltb-false _ _ t in
                let m = is.are.reached_is.some (omega arith) in
                let b = back m.0 m.1 in
                let f : end_of m.0 ≡ reached = m.3 in (m.0, front m.0 m.1, omega (arith, b), omega arith)
          ] refl;
    } in
    record {
      passed = passed;
      whole = append_assoc is.passed (n ∷ []) rest ∙ whole;
      rises = is.rises;
      are = record {
        below = λ m h. elim (split m h) [
          | inl k ↦ (let l = back m k in omega (arith, l))
          | inr q ↦ (let g : m.offset ≡ n.offset = ap (λ (x : NoteParts). x.offset) q in omega arith)
        ];
        last = λ _. (n, there, refl);
        lower_is = subst (λ (o : ℕ). IsReach o passed reach) same lower_is;
        reached_is = reached_is;
      };
    }
