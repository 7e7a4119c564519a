-- Ranges that runs lack, by the walk over the runs and by what they are.
use Rattle.mxf_views.proofs.Common.{◌≡◌, ◌↔◌, ◌∙◌, ◌⊎◌, ◌<◌, ◌≤◌, ◌+◌, ◌-◌, ℕ, Bool, true, false, IsTrue, ◌&&◌, nat_le}
use Rattle.mxf_views.proofs.Common.{nat_lt, max, min, if◌then◌else◌, List, [], ◌∷◌, ◌++◌, filter, cond, Option, Some}
use Rattle.mxf_views.proofs.Common.{None, append-nil, refl, sym, ap, subst, inl, inr, arith, lt-ltb, ltb-true, and_from}
use Rattle.mxf_views.proofs.Common.{and_parts, cases_lt, false≢true, le-ltb, same_Some, option_map_or, In, In-append}
use Rattle.mxf_views.proofs.Common.{list_any-In, IsCover, is_between, AreMaximal, LiesIn}
use Rattle.mxf_catalogue.specs.declared.run.Run.{Run}
use Rattle.std.proofs.Common.{leb-true, le-leb, ltb-false}
use Rattle.mxf_places.specs.AtHand.{IsLacking, LiesBetween, LiesInRange, has_offset, has_offsets, is_none, lacking}
use Rattle.mxf_places.specs.AtHand.{runs_end, some_range, up_to_bound}
use Rattle.mxf_places.specs.declared.at_hand.OffsetRange.{OffsetRange}

-- ---- the first offset above all

end_le : (runs : List Run) (r : Run) → In r runs → r.end ≤ runs_end runs
end_le [] r k = absurd k
end_le (s ∷ runs) r (inl e) = let same = ap (λ (q : Run). q.end) e in omega (arith, same)
end_le (s ∷ runs) r (inr k) = let ih = end_le runs r k in omega (arith, ih)

pub runs_end-bound : (low : ℕ) (runs : List Run) → AreMaximal low runs → (bound : ℕ)
    → runs_end runs ≤ bound ↔ ((x : ℕ) → LiesIn runs x → x < bound)
runs_end-bound low runs m bound = (
  λ h x k. let top = end_le runs k.0 k.1 in let below : x + 1 ≤ k.0.end = k.2.before in omega (arith, h, top, below),
  above low runs m,
) where
  above : (low : ℕ) (runs : List Run) → AreMaximal low runs → ((x : ℕ) → LiesIn runs x → x < bound)
      → runs_end runs ≤ bound
  above low [] m f = omega arith
  above low (r ∷ runs) m f =
      let some : r.start < r.end = m.1 in
      let one = f (r.end - 1) (r, inl refl, record { from = omega (arith, some); before = omega (arith, some) }) in
      let rest = above (r.end + 1) runs m.2 (λ x k. f x (k.0, inr k.1, k.2)) in omega (arith, some, one, rest)

-- ---- runs that lie elsewhere don't matter

no_range : (start end : ℕ) → end ≤ start → some_range start (Some end) ≡ []
no_range start end l = ap (λ b. if b then record { start = start; end = Some end } ∷ [] else []) (le-ltb start end l)

pub bound_le : (x : ℕ) (end : Option ℕ) → up_to_bound x end ≤ x
bound_le x None = omega arith
bound_le x (Some e) = omega arith

none_behind : (runs : List Run) (start end : ℕ) → end ≤ start → lacking runs start (Some end) ≡ []
none_behind [] start end l = no_range start end l
none_behind (r ∷ runs) start end l =
    let a = no_range start (min r.start end) (omega (arith, l)) in
    let b = none_behind runs (max start r.end) end (omega (arith, l)) in λ i. a i ++ b i

all_behind : (low : ℕ) (runs : List Run) → AreMaximal low runs → (start end : ℕ) → end ≤ low
    → lacking runs start (Some end) ≡ some_range start (Some end)
all_behind low [] m start end l = refl
all_behind low (r ∷ runs) m start end l =
    let from : low ≤ r.start = m.0 in
    let some : r.start < r.end = m.1 in
    let least : min r.start end ≡ end = omega (arith, from, l) in
    let rest = none_behind runs (max start r.end) end (omega (arith, from, some, l)) in
    (λ i. some_range start (Some (least i)) ++ rest i) ∙ append-nil (some_range start (Some end))

pub lacking-between : (low : ℕ) (runs : List Run) → AreMaximal low runs → (from start : ℕ) (end : Option ℕ)
    → from ≤ start → lacking (filter (is_between from end) runs) start end ≡ lacking runs start end
lacking-between low [] m from start end l = refl
lacking-between low (r ∷ runs) m from start end l =
    let some : r.start < r.end = m.1 in
    let kept = filter (is_between from end) runs in
    elim (nat_lt from r.end) as (λ b. nat_lt from r.end ≡ b
    → lacking (cond (b && option_map_or (λ e. nat_lt r.start e) end true) (r ∷ kept) kept) start end
    ≡ lacking (r ∷ runs) start end) [
      | false ↦ λ e.
          let before : r.end ≤ from = ltb-false from r.end e in
          let least = bound_le r.start end in
          let none = no_range start (up_to_bound r.start end) (omega (arith, least, some, before, l)) in
          let same : max start r.end ≡ start = omega (arith, before, l) in
          lacking-between (r.end + 1) runs m.2 from start end l ∙ sym (λ i. none i ++ lacking runs (same i) end)
      | true ↦ λ e. by_end some end (λ s k. lacking-between (r.end + 1) runs m.2 from s end k)
          (option_map_or (λ x. nat_lt r.start x) end true) refl
    ] refl
  where
    by_end : (some : r.start < r.end) (stop : Option ℕ)
        → ((s : ℕ) → from ≤ s → lacking (filter (is_between from stop) runs) s stop ≡ lacking runs s stop)
        → (b : Bool) → option_map_or (λ x. nat_lt r.start x) stop true ≡ b
        → lacking (cond b (r ∷ filter (is_between from stop) runs) (filter (is_between from stop) runs)) start stop
        ≡ lacking (r ∷ runs) start stop
    by_end some stop ih true e = ap (λ rest. some_range start (Some (up_to_bound r.start stop)) ++ rest)
        (ih (max start r.end) (omega (arith, l)))
    by_end some None ih false e = absurd cc
    by_end some (Some x) ih false e =
        let behind : x ≤ r.start = ltb-false r.start x e in
        ih start l ∙ all_behind (r.end + 1) runs m.2 start x (omega (arith, behind, some))
        ∙ sym (all_behind r.start (r ∷ runs) (omega arith, m.1, m.2) start x behind)

-- ---- what they are

above_low : (low : ℕ) (runs : List Run) → AreMaximal low runs → (x : ℕ) → LiesIn runs x → low ≤ x
above_low low [] m x (s, k, w) = absurd k
above_low low (r ∷ runs) m x (s, inl e, w) =
    let from : s.start ≤ x = w.from in
    let same = ap (λ (q : Run). q.start) e in
    let least : low ≤ r.start = m.0 in omega (arith, from, same, least)
above_low low (r ∷ runs) m x (s, inr k, w) =
    let ih = above_low (r.end + 1) runs m.2 x (s, k, w) in
    let least : low ≤ r.start = m.0 in
    let some : r.start < r.end = m.1 in omega (arith, ih, least, some)

some_there : (start : ℕ) (end : Option ℕ) (x : ℕ) → LiesBetween start end x
    → In (record { start = start; end = end }) (some_range start end)
some_there start None x l = inl refl
some_there start (Some e) x l = elim l.1 [
  | inl n ↦ absurd (cc (n))
  | inr s ↦
      let same = same_Some e s.0 s.1 in
      let below = s.2 in
      let from = l.0 in
      subst (In (record { start = start; end = Some e }))
      (sym (ap (λ b. if b then record { start = start; end = Some e } ∷ [] else [])
      (lt-ltb start e (omega (arith, from, same, below))))) (inl refl)
]

up_to-between : (start x at : ℕ) (end : Option ℕ) → LiesBetween start end x → x < at
    → LiesBetween start (Some (up_to_bound at end)) x
up_to-between start x at None l below = (l.0, inr (at, refl, below))
up_to-between start x at (Some e) l below = (
  l.0,
  inr (
    min at e,
    refl,
    elim l.1 [
      | inl n ↦ absurd (cc (n))
      | inr s ↦ let same = same_Some e s.0 s.1 in let less = s.2 in omega (arith, same, less, below)
    ],
  ),
)

pub lacked_there : (runs : List Run) (start : ℕ) (end : Option ℕ) (x : ℕ) → LiesBetween start end x
    → (LiesIn runs x → ⊥) → (r : OffsetRange) × In r (lacking runs start end) × LiesInRange r x
lacked_there [] start end x l free = (record { start = start; end = end }, some_there start end x l, l)
lacked_there (r ∷ runs) start end x l free =
    let head = some_range start (Some (up_to_bound r.start end)) in
    let tail = lacking runs (max start r.end) end in
    elim (cases_lt x r.start) [
      | inl below ↦ (
          let in_first = up_to-between start x r.start end l below in (
            record { start = start; end = Some (up_to_bound r.start end) },
            (In-append _ head tail).1 (inl (some_there start (Some (up_to_bound r.start end)) x in_first)),
            in_first,
          ))
      | inr from ↦ elim (cases_lt x r.end) [
        | inl before ↦ absurd (free (r, inl refl, record { from = from; before = omega (arith, before) }))
        | inr behind ↦ (
            let start_at = l.0 in
            let ih = lacked_there runs (max start r.end) end x (omega (arith, start_at, behind), l.1)
            (λ k. free (k.0, inr k.1, k.2)) in
            (ih.0, (In-append ih.0 head tail).1 (inr ih.1), ih.2))
      ]
    ]

some_is : (start : ℕ) (end : Option ℕ) (g : OffsetRange) → In g (some_range start end)
    → (g ≡ record { start = start; end = end }) × LiesBetween start end start
some_is start None g (inl e) = (e, (omega arith, inl refl))
some_is start None g (inr k) = absurd k
some_is start (Some x) g k = elim (nat_lt start x) as (λ b. nat_lt start x ≡ b
    → In g (if b then record { start = start; end = Some x } ∷ [] else [])
    → (g ≡ record { start = start; end = Some x }) × LiesBetween start (Some x) start) [
      | true ↦ λ e h. elim h [ inl same ↦ (same, (omega arith, inr (x, refl, ltb-true start x e))) | inr n ↦ absurd n ]
      | false ↦ λ e h. absurd h
    ] refl k

at_run : (r : Run) (runs : List Run) (x : ℕ) → r.start ≤ x → x < r.end → LiesIn (r ∷ runs) x
at_run r runs x from before = (r, inl refl, record { from = from; before = omega (arith, before) })

pub lacked_is : (low : ℕ) (runs : List Run) → AreMaximal low runs → (start : ℕ) (end : Option ℕ) (g : OffsetRange)
    → In g (lacking runs start end) → IsLacking runs start end g
lacked_is low [] m start end g k =
    let s = some_is start end g k in
    subst (IsLacking [] start end) (sym s.0) (record {
      some = s.1;
      between = λ x l. l;
      none = λ x l h. h.1;
      first = inl refl;
      last = inl refl;
    })
lacked_is low (r ∷ runs) m start end g k =
    let some : r.start < r.end = m.1 in
    elim ((In-append g (some_range start (Some (up_to_bound r.start end))) (lacking runs (max start r.end) end)).0 k) [
      | inl h ↦ (
          let s = some_is start (Some (up_to_bound r.start end)) g h in
          subst (IsLacking (r ∷ runs) start end) (sym s.0) (record {
            some = s.1;
            between = λ x l. up_to_end x end l;
            none = λ x l q.
                let below = below_run x end l in
                elim q.1 [
                  | inl e ↦ (
                      let from : q.0.start ≤ x = q.2.from in
                      let same = ap (λ (w : Run). w.start) e in omega (arith, below, from, same))
                  | inr j ↦ (
                      let above = above_low (r.end + 1) runs m.2 x (q.0, j, q.2) in omega (arith, below, above, some))
                ];
            first = inl refl;
            last = ends some end;
          }))
      | inr h ↦ (
          let ih = lacked_is (r.end + 1) runs m.2 (max start r.end) end g h in record {
            some = ih.some;
            between = λ x l. let b = ih.between x l in let from = b.0 in (omega (arith, from), b.1);
            none = λ x l q. elim q.1 [
              | inl e ↦ (
                  let before : x + 1 ≤ q.0.end = q.2.before in
                  let same = ap (λ (w : Run). w.end) e in
                  let from = (ih.between x l).0 in omega (arith, before, same, from))
              | inr j ↦ ih.none x l (q.0, j, q.2)
            ];
            first = elim ih.first [
              | inl e ↦ elim (cases_lt start r.end) [
                | inl below ↦ inr (
                  r.end - 1,
                  omega (arith, e, below, some),
                  at_run r runs (r.end - 1) (omega (arith, some)) (omega (arith, some)),
                )
                | inr reached ↦ inl (omega (arith, e, reached))
              ]
              | inr q ↦ inr (q.0, q.1, (q.2.0, inr q.2.1, q.2.2))
            ];
            last = elim ih.last [ inl e ↦ inl e | inr q ↦ inr (q.0, q.1, (q.2.0, inr q.2.1, q.2.2)) ];
          })
    ]
  where
    below_run : (x : ℕ) (stop : Option ℕ) → LiesBetween start (Some (up_to_bound r.start stop)) x → x < r.start
    below_run x stop l = elim l.1 [
      | inl n ↦ absurd (cc (n))
      | inr s ↦
          let same = same_Some (up_to_bound r.start stop) s.0 s.1 in
          let least = bound_le r.start stop in
          let below = s.2 in omega (arith, same, least, below)
    ]

    up_to_end : (x : ℕ) (stop : Option ℕ) → LiesBetween start (Some (up_to_bound r.start stop)) x
        → LiesBetween start stop x
    up_to_end x None l = (l.0, inl refl)
    up_to_end x (Some e) l = (
      l.0,
      inr (
        e,
        refl,
        elim l.1 [
          | inl n ↦ absurd (cc (n))
          | inr s ↦ let same = same_Some (min r.start e) s.0 s.1 in let below = s.2 in omega (arith, same, below)
        ],
      ),
    )

    ends : r.start < r.end → (stop : Option ℕ) → (Some (up_to_bound r.start stop) ≡ stop)
        ⊎ ((x : ℕ) × (Some (up_to_bound r.start stop) ≡ Some x) × LiesIn (r ∷ runs) x)
    ends some None = inr (r.start, refl, at_run r runs r.start (omega arith) some)
    ends some (Some e) = elim (cases_lt r.start e) [
      | inl l ↦ inr (r.start, ap (λ (y : ℕ). Some y) (omega (arith, l)), at_run r runs r.start (omega arith) some)
      | inr l ↦ inl (ap (λ (y : ℕ). Some y) (omega (arith, l)))
    ]

-- ---- maximal ranges that share an offset are one

module _ (runs : List Run) (start : ℕ) (end : Option ℕ) where
  abbrev Lacks : OffsetRange → Type 0
  Lacks g = IsLacking runs start end g

  not_above : (a b : OffsetRange) → Lacks a → Lacks b → LiesInRange a b.start → b.start ≤ a.start
  not_above a b p q l = elim q.first [
    | inl e ↦ let from = (p.between a.start p.some).0 in omega (arith, e, from)
    | inr s ↦ elim (cases_lt a.start b.start) [
      | inl below ↦ (
          let next = s.1 in absurd (p.none s.0 (
            omega (arith, next, below),
            elim l.1 [ inl n ↦ inl n | inr t ↦ (let less = t.2 in inr (t.0, t.1, omega (arith, next, less))) ],
          ) s.2))
      | inr k ↦ k
    ]
  ]

  not_longer : (a b : OffsetRange) → Lacks a → Lacks b → a.start ≡ b.start → (e : ℕ) → a.end ≡ Some e
      → LiesInRange b e → ⊥
  not_longer a b p q same e ends l = elim p.last [
    | inl f ↦ elim (q.between e l).1 [
      | inl n ↦ (let g = sym ends ∙ f ∙ n in cc (g))
      | inr s ↦ (
          let t = same_Some e s.0 (sym ends ∙ f ∙ s.1) in
          let less = s.2 in omega (arith, t, less))
    ]
    | inr s ↦ (
        let t = same_Some e s.0 (sym ends ∙ s.1) in
        q.none s.0 (subst (LiesInRange b) t l) s.2)
  ]

  start_below : (a : OffsetRange) → Lacks a → (e : ℕ) → a.end ≡ Some e → a.start < e
  start_below a p e ends = elim p.some.1 [
    | inl n ↦ (let f = sym ends ∙ n in absurd (cc (f)))
    | inr s ↦ let t = same_Some e s.0 (sym ends ∙ s.1) in let less = s.2 in omega (arith, t, less)
  ]

  same_ends : (a b : OffsetRange) → Lacks a → Lacks b → a.start ≡ b.start → a.end ≡ b.end
  same_ends a b p q same = by a.end b.end refl refl where
    by : (x y : Option ℕ) → a.end ≡ x → b.end ≡ y → a.end ≡ b.end
    by None None e f = e ∙ sym f
    by (Some x) None e f =
        let some = start_below a p x e in
        absurd (not_longer a b p q same x e (omega (arith, same, some), inl f))
    by None (Some y) e f =
        let some = start_below b q y f in
        absurd (not_longer b a q p (sym same) y f (omega (arith, same, some), inl e))
    by (Some x) (Some y) e f = elim (cases_lt x y) [
      | inl l ↦ (
          let some = start_below a p x e in
          absurd (not_longer a b p q same x e (omega (arith, same, some), inr (y, f, l))))
      | inr l ↦ elim (cases_lt y x) [
        | inl k ↦ (
            let some = start_below b q y f in
            absurd (not_longer b a q p (sym same) y f (omega (arith, same, some), inr (x, e, k))))
        | inr k ↦ (
            let one : x ≡ y = omega (arith, l, k) in e ∙ ap (λ (z : ℕ). Some z) one ∙ sym f)
      ]
    ]

  one_range : (a b : OffsetRange) → Lacks a → Lacks b → LiesInRange a b.start → a ≡ b
  one_range a b p q l =
      let down = not_above a b p q l in
      let up = l.0 in
      let s : a.start ≡ b.start = omega (arith, down, up) in
      let e = same_ends a b p q s in λ i. record { start = s i; end = e i }

pub members : (runs : List Run) (start : ℕ) (end : Option ℕ) (g : OffsetRange) → IsCover runs
    → In g (lacking runs start end) ↔ IsLacking runs start end g
members runs start end g c = (
  lacked_is 0 runs c.maximal start end g,
  λ p.
      let s = lacked_there runs start end g.start (p.between g.start p.some) (p.none g.start p.some) in
      subst (λ h. In h (lacking runs start end))
      (one_range runs start end s.0 g (lacked_is 0 runs c.maximal start end s.0 s.1) p s.2) s.1,
)

-- ---- offsets of runs

pub has_offset-says : (runs : List Run) (x : ℕ) → IsTrue (has_offset runs x) ↔ LiesIn runs x
has_offset-says runs x =
    let any = list_any-In (λ (r : Run). nat_le r.start x && nat_lt x r.end) runs in (
      λ h.
          let s = any.0 h in
          let t = and_parts (nat_le s.0.start x) (nat_lt x s.0.end) s.2 in
          let before = ltb-true _ _ t.1 in
          (s.0, s.1, record { from = leb-true _ _ t.0; before = omega (arith, before) }),
      λ h.
          let before : x + 1 ≤ h.0.end = h.2.before in
          any.1 (
            h.0,
            h.1,
            and_from (nat_le h.0.start x) (nat_lt x h.0.end) (le-leb _ _ h.2.from) (lt-ltb _ _ (omega (arith, before))),
          ),
    )

pub has_offsets-says : (runs : List Run) (from to : ℕ) → IsCover runs
    → IsTrue (has_offsets runs from to) ↔ ((x : ℕ) → from ≤ x → x < to → LiesIn runs x)
has_offsets-says runs from to c = (
  λ h x low high. elim (has_offset runs x) as (λ b. has_offset runs x ≡ b → LiesIn runs x) [
    | true ↦ λ e. (has_offset-says runs x).0 e
    | false ↦ λ e.
        let free = λ (k : LiesIn runs x). false≢true (sym e ∙ (has_offset-says runs x).1 k) in
        let s = lacked_there runs from (Some to) x (low, inr (to, refl, high)) free in
        absurd (none_in (lacking runs from (Some to)) h s.0 s.1)
  ] refl,
  λ f. none_if (lacking runs from (Some to)) (λ g k.
      let s = lacked_is 0 runs c.maximal from (Some to) g k in
      let l = s.between g.start s.some in
      s.none g.start s.some (f g.start l.0 (elim l.1 [
        | inl n ↦ absurd (cc (n))
        | inr t ↦ let same = same_Some to t.0 t.1 in let less = t.2 in omega (arith, same, less)
      ]))),
) where
  none_in : (gs : List OffsetRange) → is_none gs ≡ true → (g : OffsetRange) → In g gs → ⊥
  none_in [] e g k = k
  none_in (h ∷ gs) e g k = absurd cc

  none_if : (gs : List OffsetRange) → ((g : OffsetRange) → In g gs → ⊥) → is_none gs ≡ true
  none_if [] f = refl
  none_if (h ∷ gs) f = absurd (f h (inl refl))

-- ---- they rise

-- The ranges begin one above another, from an offset on.
abbrev pub Rise : ℕ → List OffsetRange → Type 0
Rise low [] = Unit {0}
Rise low (g ∷ gs) = (low ≤ g.start) × Rise (g.start + 1) gs

pub rise_from : (low high : ℕ) (gs : List OffsetRange) → low ≤ high → Rise high gs → Rise low gs
rise_from low high [] l r = tt
rise_from low high (g ∷ gs) l r = let from : high ≤ g.start = r.0 in (omega (arith, l, from), r.1)

pub lacking_rise : (low : ℕ) (runs : List Run) → AreMaximal low runs → (start : ℕ) (end : Option ℕ)
    → Rise start (lacking runs start end)
lacking_rise low [] m start end = elim (option_map_or (λ e. nat_lt start e) end true) as (λ b.
    Rise start (if b then record { start = start; end = end } ∷ [] else [])) [ true ↦ (omega arith, tt) | false ↦ tt ]
lacking_rise low (r ∷ runs) m start end =
    let some : r.start < r.end = m.1 in
    let ih = lacking_rise (r.end + 1) runs m.2 (max start r.end) end in
    let least = bound_le r.start end in
    elim (nat_lt start (up_to_bound r.start end)) as (λ b. nat_lt start (up_to_bound r.start end) ≡ b
    → Rise start ((if b then record { start = start; end = Some (up_to_bound r.start end) } ∷ [] else [])
    ++ lacking runs (max start r.end) end)) [
      | true ↦ λ e.
          let below = ltb-true start (up_to_bound r.start end) e in (
            omega arith,
            rise_from (start + 1) (max start r.end) (lacking runs (max start r.end) end)
                (omega (arith, below, least, some)) ih,
          )
      | false ↦ λ e. rise_from start (max start r.end) (lacking runs (max start r.end) end) (omega arith) ih
    ] refl

pub rise_above : (low : ℕ) (gs : List OffsetRange) (g : OffsetRange) → Rise low gs → In g gs → low ≤ g.start
rise_above low [] g r k = absurd k
rise_above low (h ∷ gs) g r (inl e) =
    let from : low ≤ h.start = r.0 in let same = ap (λ (x : OffsetRange). x.start) e in omega (arith, from, same)
rise_above low (h ∷ gs) g r (inr k) =
    let from : low ≤ h.start = r.0 in let ih = rise_above (h.start + 1) gs g r.1 k in omega (arith, from, ih)

pub one_start : (low : ℕ) (gs : List OffsetRange) (g h : OffsetRange) → Rise low gs → In g gs → In h gs
    → g.start ≡ h.start → g ≡ h
one_start low [] g h r k l s = absurd k
one_start low (x ∷ gs) g h r (inl e) (inl f) s = e ∙ sym f
one_start low (x ∷ gs) g h r (inl e) (inr k) s =
    let above = rise_above (x.start + 1) gs h r.1 k in
    let same = ap (λ (y : OffsetRange). y.start) e in absurd (omega (arith, above, same, s))
one_start low (x ∷ gs) g h r (inr k) (inl f) s =
    let above = rise_above (x.start + 1) gs g r.1 k in
    let same = ap (λ (y : OffsetRange). y.start) f in absurd (omega (arith, above, same, s))
one_start low (x ∷ gs) g h r (inr k) (inr l) s = one_start (x.start + 1) gs g h r.1 k l s
