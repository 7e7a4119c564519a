-- Excerpts of sources: what a skim doesn't compare, and that what may be asked for is at hand in them as it is in the
-- sources.
use Rattle.mxf_views.proofs.Common.{◌≡◌, ◌∙◌, ◌↔◌, ◌⊎◌, ◌<◌, ◌≤◌, ◌+◌, ◌-◌, ◌++◌, ℕ, List, [], ◌∷◌, Some, true}
use Rattle.mxf_views.proofs.Common.{false, ap, arith, cases_lt, if◌then◌else◌, inl, inr, min, not, refl, subst, sym}
use Rattle.mxf_views.proofs.Common.{all-In, In-append, same_Some, slice_get, NoteParts, In, IsCover, IsRun, LiesIn}
use Rattle.mxf_views.proofs.Common.{greatest_end}
use Rattle.mxf_catalogue.specs.declared.run.Run.{Run}
use Rattle.mxf_klv.specs.Note.{end_of}
use Rattle.mxf_skim.specs.PassedOver.{is_of_container}
use Rattle.mxf_places.specs.AtHand.{has_offset}
use Rattle.mxf_places.proofs.ByteLaws.{runs_of_cover}
use Rattle.mxf_places.proofs.AtHandLaws.{has_offset-says}
use Rattle.std.proofs.lemmas.Bool.{false≢true}
use Rattle.std.specs.Prelude.{Err, IfOk, Ok, Result}
use Rattle.mxf_hand.specs.Excerpts.{AreExcerpts, HaveMore, IsOffsetOf, IsOfRun, IsPassed, LiesAround, LiesInside}
use Rattle.mxf_hand.specs.Outside.{with_some}
use Rattle.mxf_hand.specs.Passing.{with_around, with_each, with_inside}
use Rattle.mxf_hand.specs.Places.{LiesInExtent}
use Rattle.mxf_hand.specs.declared.given.Extent.{Extent}
use Rattle.mxf_hand.specs.declared.given.excerpt.Excerpt.{Excerpt}
use Rattle.mxf_hand.proofs.OutsideLaws.{LiesIn-with_some}

-- ---- covers as sets

-- An offset lies in runs, or it doesn't.
pub lies_or_not : (runs : List Run) (x : ℕ) → LiesIn runs x ⊎ ¬ LiesIn runs x
lies_or_not runs x = elim (has_offset runs x) as (λ b. has_offset runs x ≡ b → LiesIn runs x ⊎ ¬ LiesIn runs x) [
  | true ↦ λ e. inl ((has_offset-says runs x).0 e)
  | false ↦ λ e. inr (λ l. false≢true (sym e ∙ (has_offset-says runs x).1 l))
] refl

-- What isn't outside of runs is in them.
pub outside_twice : (runs others without both : List Run)
    → ((x : ℕ) → LiesIn without x ↔ (LiesIn runs x × ¬ LiesIn others x))
    → ((x : ℕ) → LiesIn both x ↔ (LiesIn runs x × ¬ LiesIn without x))
    → (x : ℕ) → LiesIn both x ↔ (LiesIn runs x × LiesIn others x)
outside_twice runs others without both w b x = (
  λ l.
      let k = (b x).0 l in
      (k.0, elim (lies_or_not others x) [ inl o ↦ o | inr o ↦ absurd (k.1 ((w x).1 (k.0, o))) ]),
  λ k. (b x).1 (k.0, λ l. ((w x).0 l).1 k.1),
)

-- What holds of the value of one that succeeded leads to what is wanted.
pub if_ok : {T E : Type 0} (r : Result T E) (P Q : T → Type 0) → IfOk r P → ((t : T) → P t → Q t) → IfOk r Q
if_ok (Ok t) P Q p f = f t p
if_ok (Err e) P Q p f = tt

-- Covers end at or below the greatest end.
pub below_greatest : (runs : List Run) (x : ℕ) → IsCover runs → LiesIn runs x → x < greatest_end
below_greatest runs x c l =
    let within = all-In (λ (r : Run). r.end ≤ greatest_end) runs l.0 c.within l.1 in
    let before : x + 1 ≤ l.0.end = l.2.before in omega (arith, within, before)

-- ---- what a skim doesn't compare

abbrev pub IsInside : NoteParts → ℕ → Type 0
IsInside n x = (is_of_container n ≡ true) × LiesInside n x

LiesIn-with_inside : (n : NoteParts) (runs : List Run) (x : ℕ)
    → LiesIn (with_inside n runs) x ↔ LiesIn runs x ⊎ IsInside n x
LiesIn-with_inside n runs x =
    let start = n.offset + 16 + n.width + 511 in
    let end = end_of n - 511 in
    let some = LiesIn-with_some start end runs x in
    elim (is_of_container n) as (λ b. is_of_container n ≡ b
    → LiesIn (if b then with_some start end runs else runs) x ↔ LiesIn runs x ⊎ IsInside n x) [
      | true ↦ λ e. (
        λ l. elim (some.0 l) [
          | inl k ↦ inl k
          | inr k ↦ (let from = k.0 in let before = k.1 in
              inr (e, record { from = from; before = omega (arith, before) }))
        ],
        λ l. some.1 (elim l [
          | inl k ↦ inl k
          | inr k ↦ (let from = k.1.from in let before = k.1.before in inr (from, omega (arith, before)))
        ]),
      )
      | false ↦ λ e. (inl, λ l. elim l [ inl k ↦ k | inr k ↦ absurd (false≢true (sym e ∙ k.0)) ])
    ] refl

abbrev pub IsAround : NoteParts → ℕ → Type 0
IsAround n x = (n.whole ≡ false) × LiesAround n x × (x < greatest_end)

LiesIn-with_around : (n : NoteParts) (runs : List Run) (x : ℕ)
    → LiesIn (with_around n runs) x ↔ LiesIn runs x ⊎ IsAround n x
LiesIn-with_around n runs x =
    let start = n.offset - 511 in
    let end = min (end_of n + 511) greatest_end in
    let some = LiesIn-with_some start end runs x in
    elim n.whole as (λ b. n.whole ≡ b
    → LiesIn (if not b then with_some start end runs else runs) x ↔ LiesIn runs x ⊎ IsAround n x) [
      | false ↦ λ e. (
        λ l. elim (some.0 l) [
          | inl k ↦ inl k
          | inr k ↦ (let from = k.0 in let before = k.1 in inr (
            e,
            record { from = omega (arith, from); before = omega (arith, before) },
            omega (arith, before),
          ))
        ],
        λ l. some.1 (elim l [
          | inl k ↦ inl k
          | inr k ↦ (let from = k.1.from in let before = k.1.before in let most = k.2 in
              inr (omega (arith, from), omega (arith, before, most)))
        ]),
      )
      | true ↦ λ e. (inl, λ l. elim l [ inl k ↦ k | inr k ↦ absurd (false≢true (sym k.0 ∙ e)) ])
    ] refl

-- What notes add is in the runs, and what was there.
pub LiesIn-with_each : (add : NoteParts → List Run → List Run) (Adds : NoteParts → ℕ → Type 0)
    → ((n : NoteParts) (runs : List Run) (x : ℕ) → LiesIn (add n runs) x ↔ LiesIn runs x ⊎ Adds n x)
    → (runs : List Run) (notes : List NoteParts) (x : ℕ)
    → LiesIn (with_each add runs notes) x ↔ LiesIn runs x ⊎ ((n : NoteParts) × In n notes × Adds n x)
LiesIn-with_each add Adds adds runs [] x = (inl, λ l. elim l [ inl k ↦ k | inr k ↦ absurd k.1 ])
LiesIn-with_each add Adds adds runs (n ∷ notes) x =
    let ih = LiesIn-with_each add Adds adds (add n runs) notes x in
    let one = adds n runs x in (
      λ l. elim (ih.0 l) [
        | inl k ↦ elim (one.0 k) [ inl m ↦ inl m | inr m ↦ inr (n, inl refl, m) ]
        | inr k ↦ inr (k.0, inr k.1, k.2)
      ],
      λ l. ih.1 (elim l [
        | inl k ↦ inl (one.1 (inl k))
        | inr k ↦ elim k.1 [
          | inl same ↦ inl (one.1 (inr (subst (λ (m : NoteParts). Adds m x) same k.2)))
          | inr h ↦ inr (k.0, h, k.2)
        ]
      ]),
    )

-- What lies inside values and not around heads is what isn't compared.
pub are_passed : (notes : List NoteParts) (passed : List Run) → IsCover (with_each with_inside [] notes)
    → ((x : ℕ) → LiesIn passed x ↔ (LiesIn (with_each with_inside [] notes) x × ¬ LiesIn (with_each with_around [] notes) x))
    → (x : ℕ) → LiesIn passed x ↔ IsPassed notes x
are_passed notes passed cover is x =
    let insides = LiesIn-with_each with_inside IsInside LiesIn-with_inside [] notes x in
    let arounds = LiesIn-with_each with_around IsAround LiesIn-with_around [] notes x in (
      λ l.
          let k = (is x).0 l in
          let most = below_greatest (with_each with_inside [] notes) x cover k.0 in
          elim (insides.0 k.0) [
            | inl none ↦ absurd none.1
            | inr n ↦ record {
              note = n.0;
              held = n.1;
              container = n.2.0;
              inside = n.2.1;
              apart = λ head h not_whole around. k.1 (arounds.1 (inr (head, h, (not_whole, around, most))));
            }
          ],
      λ p. (is x).1 (
        insides.1 (inr (p.note, p.held, (p.container, p.inside))),
        λ l. elim (arounds.0 l) [ inl none ↦ none.1 | inr h ↦ p.apart h.0 h.1 h.2.0 h.2.1 ],
      ),
    )

-- ---- one source more

module _ (passed : List Run) (extents : List Extent) (count : ℕ) (own : Extent) (given left : List Run)
    (old new : List Excerpt) (is : slice_get extents count ≡ Some own) (are : AreExcerpts passed extents count old)
    (before : (x : ℕ) → LiesIn given x ↔ ((number : ℕ) × IsOffsetOf extents count number x))
    (leaves : (x : ℕ) → LiesIn left x ↔ (LiesInExtent own x × ¬ (LiesIn given x × LiesIn passed x)))
    (more : HaveMore count left old new) where
  -- The offsets of an excerpt of a run are those of the run.
  lies_left : (r : Run) (e : Excerpt) (x : ℕ) → In r left → IsOfRun count r e → LiesInExtent e.extent x → LiesIn left x
  lies_left r e x h o l =
      let offset = o.offset in
      let size = o.size in
      let from = l.from in
      let below = l.before in
      (r, h, record { from = omega (arith, offset, from); before = omega (arith, offset, size, from, below) })

  left_lies : (x : ℕ) → LiesIn left x → (e : Excerpt) × In e new × (e.source ≡ count) × LiesInExtent e.extent x
  left_lies x l =
      let e = more.there l.0 l.1 in
      let offset = e.2.offset in
      let size = e.2.size in
      let from : l.0.start ≤ x = l.2.from in
      let below : x + 1 ≤ l.0.end = l.2.before in (
        e.0,
        e.1,
        e.2.number,
        record { from = omega (arith, offset, from); before = omega (arith, offset, size, from, below) },
      )

  -- An offset of one of the first and of this source is one of the first, or one of this.
  which : (number x : ℕ) → IsOffsetOf extents (count + 1) number x
      → IsOffsetOf extents count number x ⊎ ((number ≡ count) × LiesInExtent own x)
  which number x o =
      let early = o.early in
      elim (cases_lt number count) [
        | inl below ↦ inl (record { own = o.own; is = o.is; early = below; lies = o.lies })
        | inr above ↦ (
            let same : number ≡ count = omega (arith, early, above) in
            let one = same_Some o.own own (sym o.is ∙ ap (slice_get extents) same ∙ is) in
            inr (same, subst (λ (e : Extent). LiesInExtent e x) one o.lies))
      ]

  pub excerpts_next : AreExcerpts passed extents (count + 1) new
  excerpts_next = record {
    within = λ e h. elim (more.come e h) [
      | inl k ↦ (
          let one = are.within e k in
          let early = one.early in
          record { own = one.own; is = one.is; early = omega (arith, early); within = one.within })
      | inr k ↦ (
          let number = k.2.number in
          record {
            own = own;
            is = ap (slice_get extents) number ∙ is;
            early = omega (arith, number);
            within = λ x l. ((leaves x).0 (lies_left k.0 e x k.1 k.2 l)).0;
          })
    ];
    given = λ number x o. elim (which number x o) [
      | inl k ↦ (let e = are.given number x k in (e.0, more.kept e.0 e.1, e.2))
      | inr k ↦ elim (lies_or_not left x) [
        | inl l ↦ (let e = left_lies x l in (e.0, e.1, e.3))
        | inr l ↦ elim (lies_or_not given x) [
          | inl g ↦ (
              let n = (before x).0 g in let e = are.given n.0 x n.1 in (e.0, more.kept e.0 e.1, e.2))
          | inr g ↦ absurd (l ((leaves x).1 (k.1, λ both. g both.0)))
        ]
      ]
    ];
    left = λ number x o free. elim (which number x o) [
      | inl k ↦ (let e = are.left number x k free in (e.0, more.kept e.0 e.1, e.2, e.3))
      | inr k ↦ (
          let e = left_lies x ((leaves x).1 (k.1, λ both. free both.1)) in (e.0, e.1, e.2 ∙ sym k.0, e.3))
    ];
    once = λ e f x h k l m p. elim (more.come e h) [
      | inl eo ↦ elim (more.come f k) [
        | inl fo ↦ are.once e f x eo fo l m p
        | inr fn ↦ absurd (apart e f x eo fn l m p)
      ]
      | inr en ↦ elim (more.come f k) [
        | inl fo ↦ absurd (apart f e x fo en m l p)
        | inr fn ↦ en.2.number ∙ sym fn.2.number
      ]
    ];
  }
    where
      apart : (e f : Excerpt) (x : ℕ) → In e old → (r : Run) × In r left × IsOfRun count r f → LiesInExtent e.extent x
          → LiesInExtent f.extent x → LiesIn passed x → ⊥
      apart e f x eo fn l m p =
          let one = are.within e eo in
          let offset : IsOffsetOf extents count e.source x =
          record { own = one.own; is = one.is; early = one.early; lies = one.within x l } in
          let there = (before x).1 (e.source, offset) in
          ((leaves x).0 (lies_left fn.0 f x fn.1 fn.2 m)).1 (there, p)

  pub given_next : (next : List Run) → ((x : ℕ) → LiesIn next x ↔ LiesIn given x ⊎ ((own.offset ≤ x)
      × (x < own.offset + own.size)))
      → (x : ℕ) → LiesIn next x ↔ ((number : ℕ) × IsOffsetOf extents (count + 1) number x)
  given_next next adds x = (
    λ l. elim ((adds x).0 l) [
      | inl g ↦ (
          let n = (before x).0 g in
          let early = n.1.early in
          (n.0, record { own = n.1.own; is = n.1.is; early = omega (arith, early); lies = n.1.lies }))
      | inr k ↦ (
        count,
        record { own = own; is = is; early = omega arith; lies = record { from = k.0; before = k.1 } },
      )
    ],
    λ n. (adds x).1 (elim (which n.0 x n.1) [
      | inl k ↦ inl ((before x).1 (n.0, k))
      | inr k ↦ inr (k.1.from, k.1.before)
    ]),
  )

-- ---- steps of what makes them

-- What is left of an extent: its offsets but those that are given and not compared.
pub left_is : (own given passed again repeated left : List Run) (e : Extent)
    → own ≡ with_some e.offset (e.offset + e.size) []
    → ((x : ℕ) → LiesIn again x ↔ (LiesIn own x × LiesIn given x))
    → ((x : ℕ) → LiesIn repeated x ↔ (LiesIn again x × LiesIn passed x))
    → ((x : ℕ) → LiesIn left x ↔ (LiesIn own x × ¬ LiesIn repeated x))
    → (x : ℕ) → LiesIn left x ↔ (LiesInExtent e x × ¬ (LiesIn given x × LiesIn passed x))
left_is own given passed again repeated left e is a r l x =
    let some = LiesIn-with_some e.offset (e.offset + e.size) [] x in
    let here : LiesIn own x → LiesInExtent e x = λ k. elim (some.0 (subst (λ (runs : List Run). LiesIn runs x) is k)) [
      | inl none ↦ absurd none.1
      | inr m ↦ record { from = m.0; before = m.1 }
    ] in
    let back : LiesInExtent e x → LiesIn own x =
    λ m. subst (λ (runs : List Run). LiesIn runs x) (sym is) (some.1 (inr (m.from, m.before))) in (
      λ k.
          let m = (l x).0 k in
          (here m.0, λ both. m.1 ((r x).1 ((a x).1 (m.0, both.0), both.1))),
      λ m. (l x).1 (back m.0, λ k. let n = (r x).0 k in m.1 (((a x).0 n.0).1, n.1)),
    )

-- One run more.
pub added_next : (source : ℕ) (cover rest more : List Run) (r : Run) (e : Excerpt) (old now new : List Excerpt)
    → rest ≡ r ∷ more → new ≡ now ++ e ∷ [] → IsOfRun source r e → ((s : Run) → In s rest → In s cover)
    → ((f : Excerpt) → In f old → In f now)
    → ((f : Excerpt) → In f now → In f old ⊎ ((s : Run) × In s cover × IsOfRun source s f))
    → ((s : Run) → In s cover → In s rest ⊎ ((f : Excerpt) × In f now × IsOfRun source s f))
    → ((f : Excerpt) → In f old → In f new)
    × ((f : Excerpt) → In f new → In f old ⊎ ((s : Run) × In s cover × IsOfRun source s f))
    × ((s : Run) → In s cover → In s more ⊎ ((f : Excerpt) × In f new × IsOfRun source s f))
    × ((s : Run) → In s more → In s cover)
added_next source cover rest more r e old now new is grown of_run left kept come there =
    let member = λ (f : Excerpt). In-append f now (e ∷ []) in
    let into : (f : Excerpt) → In f now ⊎ In f (e ∷ []) → In f new =
    λ f h. subst (λ (l : List Excerpt). In f l) (sym grown) ((member f).1 h) in
    let first : In r rest = subst (λ (l : List Run). In r l) (sym is) (inl refl) in (
      λ f h. into f (inl (kept f h)),
      λ f h. elim ((member f).0 (subst (λ (l : List Excerpt). In f l) grown h)) [
        | inl k ↦ come f k
        | inr k ↦ elim k [
          | inl same ↦ inr (r, left r first, subst (λ (g : Excerpt). IsOfRun source r g) (sym same) of_run)
          | inr none ↦ absurd none
        ]
      ],
      λ s h. elim (there s h) [
        | inl k ↦ elim (subst (λ (l : List Run). In s l) is k) [
          | inl same ↦ inr (e, into e (inr (inl refl)), subst (λ (t : Run). IsOfRun source t e) (sym same) of_run)
          | inr m ↦ inl m
        ]
        | inr k ↦ inr (k.0, into k.0 (inl k.1), k.2)
      ],
      λ s h. left s (subst (λ (l : List Run). In s l) (sym is) (inr h)),
    )

-- The run is one of a cover, so it has a byte and ends at or below the greatest end.
pub is_run : (cover rest more : List Run) (r : Run) → IsCover cover → rest ≡ r ∷ more
    → ((s : Run) → In s rest → In s cover) → IsRun r
is_run cover rest more r c is left =
    all-In IsRun cover r (runs_of_cover cover c) (left r (subst (λ (l : List Run). In r l) (sym is) (inl refl)))
