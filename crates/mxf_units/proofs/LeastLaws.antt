-- The least of numbers above another.
use Rattle.mxf_views.proofs.Common.{◌≡◌, ◌∙◌, ◌^◌, ◌<◌, ◌≤◌, ◌++◌, ◌==◌, ◌&&◌, ◌||◌, ℕ, zero, suc, Bool, true, false}
use Rattle.mxf_views.proofs.Common.{Option, None, Some, List, [], ◌∷◌, refl, sym, ap, subst, inl, inr, arith, length}
use Rattle.mxf_views.proofs.Common.{drop, get_or, nat_lt, nat_le, min, eq-eqb, eqb-true, ltb-true, lt-ltb}
use Rattle.mxf_views.proofs.Common.{if◌then◌else◌, ◌⊎◌, and_from, and_parts, cases_lt, le-leb, le-ltb, leb-true}
use Rattle.mxf_views.proofs.Common.{ltb-false, filter_map-append, AllByRecursion, AllWithin, cons_option}
use Rattle.mxf_views.proofs.Common.{IsPartitionedBy, nat_cmp, Less, nat_cmp_total, nat_cmp-IsAntisymmetric, In}
use Rattle.mxf_views.proofs.Common.{In-union, IsRising, SameMembers, less_in, union, In-at, In-filter_map, all-In}
use Rattle.mxf_views.proofs.Common.{all_from_In, either, lt_from_less, place_cmp, IsBelow}
use Rattle.mxf_views.specs.declared.index.place.StreamPlace.{StreamPlace}
use Rattle.std.proofs.Common.{slice_get}
use Rattle.std.specs.Option.{option_and_then}
use Rattle.mxf_units.specs.Streams.{IsSmall, in_order, least_above, lesser, offset_in, offsets_in}
use Rattle.mxf_views.proofs.PlaceLaws.{below_from, place_cmp-IsAntisymmetric, place_total}

-- What it is: none of the numbers lies above, or this one does and no lesser one.
abbrev pub IsLeast : ℕ → List ℕ → Option ℕ → Type 0
IsLeast low xs None = (x : ℕ) → In x xs → x ≤ low
IsLeast low xs (Some m) = In m xs × (low < m) × ((x : ℕ) → In x xs → low < x → m ≤ x)

lesser_step : (low x : ℕ) (xs : List ℕ) (rest : Option ℕ) → low < x → IsLeast low xs rest
    → IsLeast low (x ∷ xs) (lesser (Some x) rest)
lesser_step low x xs None above is = (
  inl refl,
  above,
  λ y h l. elim h [ inl e ↦ omega (arith, e) | inr k ↦ let n = is y k in absurd (omega (arith, n, l)) ],
)
lesser_step low x xs (Some m) above is =
    elim (cases_lt x m) [
      | inl below ↦
          let e : min x m ≡ x = omega (arith, below) in
          subst (λ n. IsLeast low (x ∷ xs) (Some n)) (sym e) (
            inl refl,
            above,
            λ y h l. elim h [ inl s ↦ omega (arith, s) | inr k ↦ let n = is.2 y k l in omega (arith, n, below) ],
          )
      | inr least ↦
          let e : min x m ≡ m = omega (arith, least) in
          subst (λ n. IsLeast low (x ∷ xs) (Some n)) (sym e) (
            inr is.0,
            is.1,
            λ y h l. elim h [ inl s ↦ omega (arith, s, least) | inr k ↦ is.2 y k l ],
          )
    ]

skip_step : (low x : ℕ) (xs : List ℕ) (rest : Option ℕ) → x ≤ low → IsLeast low xs rest → IsLeast low (x ∷ xs) rest
skip_step low x xs None far is = λ y h. elim h [ inl e ↦ omega (arith, e, far) | inr k ↦ is y k ]
skip_step low x xs (Some m) far is = (
  inr is.0,
  is.1,
  λ y h l. elim h [ inl e ↦ absurd (omega (arith, e, far, l)) | inr k ↦ is.2 y k l ],
)

pub least-is : (low : ℕ) (xs : List ℕ) → IsLeast low xs (least_above low xs)
least-is low [] = λ x h. absurd h
least-is low (x ∷ xs) =
    let ih = least-is low xs in
    elim (nat_lt low x) as (λ b. nat_lt low x ≡ b
    → IsLeast low (x ∷ xs) (lesser (if b then Some x else None) (least_above low xs))) [
      | true ↦ λ e. lesser_step low x xs (least_above low xs) (ltb-true _ _ e) ih
      | false ↦ λ e. skip_step low x xs (least_above low xs) (ltb-false _ _ e) ih
    ] refl

-- There is one.
pub one_least : (low : ℕ) (xs : List ℕ) (a b : Option ℕ) → IsLeast low xs a → IsLeast low xs b → a ≡ b
one_least low xs None None f g = refl
one_least low xs None (Some m) f g =
    let n = f m g.0 in let l : low < m = g.1 in absurd (omega (arith, n, l))
one_least low xs (Some m) None f g =
    let n = g m f.0 in let l : low < m = f.1 in absurd (omega (arith, n, l))
one_least low xs (Some m) (Some n) f g =
    let a = f.2 n g.0 g.1 in
    let b = g.2 m f.0 f.1 in
    let e : m ≡ n = omega (arith, a, b) in ap (λ (k : ℕ). Some k) e

least-members : (low : ℕ) (xs ys : List ℕ) (r : Option ℕ) → SameMembers xs ys → IsLeast low xs r → IsLeast low ys r
least-members low xs ys None same is = λ x h. is x ((same x).1 h)
least-members low xs ys (Some m) same is = ((same m).0 is.0, is.1, λ x h l. is.2 x ((same x).1 h) l)

-- It is by the members of the list alone.
pub least-same : (low : ℕ) (xs ys : List ℕ) → SameMembers xs ys → least_above low xs ≡ least_above low ys
least-same low xs ys same = one_least low ys (least_above low xs) (least_above low ys)
    (least-members low xs ys (least_above low xs) same (least-is low xs)) (least-is low ys)

-- That of two lists is the lesser one.
pub lesser_assoc : (a b c : Option ℕ) → lesser (lesser a b) c ≡ lesser a (lesser b c)
lesser_assoc None b c = refl
lesser_assoc (Some x) None c = refl
lesser_assoc (Some x) (Some y) None = refl
lesser_assoc (Some x) (Some y) (Some z) =
    let e : min (min x y) z ≡ min x (min y z) = omega arith in ap (λ (n : ℕ). Some n) e

pub least-append : (low : ℕ) (xs ys : List ℕ)
    → least_above low (xs ++ ys) ≡ lesser (least_above low xs) (least_above low ys)
least-append low [] ys = refl
least-append low (x ∷ xs) ys = ap (lesser (if nat_lt low x then Some x else None)) (least-append low xs ys)
    ∙ sym (lesser_assoc (if nat_lt low x then Some x else None) (least_above low xs) (least_above low ys))

-- ---- of rising numbers

-- Behind those that lie at or below the bound the first one is the least above it.
pub least-first : (low : ℕ) (xs : List ℕ) (k : ℕ) → k ≤ length xs → IsRising nat_cmp xs
    → AllWithin (λ x. x ≤ low) xs 0 k → AllWithin (λ x. low < x) xs k (length xs)
    → slice_get (drop k xs) 0 ≡ least_above low xs
least-first low [] zero h r below above = refl
least-first low [] (suc k) h r below above = absurd (omega arith)
least-first low (x ∷ xs) zero h r below above =
    let a : low < x = above 0 x (omega arith) (omega arith) in
    one_least low (x ∷ xs) (Some x) (least_above low (x ∷ xs)) (
      inl refl,
      a,
      λ y i l. elim i [
        | inl e ↦ omega (arith, e)
        | inr i ↦ let b : x < y = lt_from_less x y (less_in nat_cmp_total x y xs r.0 i) in omega (arith, b)
      ],
    ) (least-is low (x ∷ xs))
least-first low (x ∷ xs) (suc k) h r below above =
    let a : x ≤ low = below 0 x (omega arith) (omega arith) in
    least-first low xs k (omega arith) r.1 (λ j d l m. below (suc j) d (omega arith) (omega arith))
    (λ j d l m. above (suc j) d (omega arith) (omega arith))
    ∙ sym (ap (λ b. lesser (if b then Some x else None) (least_above low xs)) (le-ltb low x a))

-- ---- of rising places

-- The place isn't behind an offset of a stream.
abbrev pub is_up_to : ℕ → ℕ → StreamPlace → Bool
is_up_to body_sid offset p = nat_lt p.body_sid body_sid || ((p.body_sid == body_sid) && nat_le p.offset offset)

up_to-says : (body_sid offset : ℕ) (p : StreamPlace) → is_up_to body_sid offset p ≡ true
    → (p.body_sid < body_sid) ⊎ ((p.body_sid ≡ body_sid) × (p.offset ≤ offset))
up_to-says body_sid offset p e = elim (nat_lt p.body_sid body_sid) as (λ a. nat_lt p.body_sid body_sid ≡ a
    → (a || ((p.body_sid == body_sid) && nat_le p.offset offset)) ≡ true
    → (p.body_sid < body_sid) ⊎ ((p.body_sid ≡ body_sid) × (p.offset ≤ offset))) [
      | true ↦ λ f g. inl (ltb-true _ _ f)
      | false ↦ λ f g.
          let s = and_parts (p.body_sid == body_sid) (nat_le p.offset offset) g in
          inr (eqb-true _ _ s.0, leb-true _ _ s.1)
    ] refl e

says-up_to : (body_sid offset : ℕ) (p : StreamPlace)
    → (p.body_sid < body_sid) ⊎ ((p.body_sid ≡ body_sid) × (p.offset ≤ offset)) → is_up_to body_sid offset p ≡ true
says-up_to body_sid offset p (inl l) = either _ _ (inl (lt-ltb _ _ l))
says-up_to body_sid offset p (inr s) =
    either _ _ (inr (and_from (p.body_sid == body_sid) (nat_le p.offset offset) (eq-eqb _ _ s.0) (le-leb _ _ s.1)))

behind-says : (body_sid offset : ℕ) (p : StreamPlace) → is_up_to body_sid offset p ≡ false
    → (body_sid < p.body_sid) ⊎ ((p.body_sid ≡ body_sid) × (offset < p.offset))
behind-says body_sid offset p e =
    let no : (p.body_sid < body_sid) ⊎ ((p.body_sid ≡ body_sid) × (p.offset ≤ offset)) → ⊥ =
    λ h. let t = says-up_to body_sid offset p h in cc (t, e) in
    elim (cases_lt body_sid p.body_sid) [
      | inl l ↦ inl l
      | inr g ↦ elim (cases_lt p.body_sid body_sid) [
        | inl l ↦ absurd (no (inl l))
        | inr h ↦
            let same : p.body_sid ≡ body_sid = omega (arith, g, h) in
            elim (cases_lt offset p.offset) [ inl l ↦ inr (same, l) | inr m ↦ absurd (no (inr (same, m))) ]
      ]
    ]

earlier : (body_sid offset : ℕ) (p q : StreamPlace) → IsBelow p q → is_up_to body_sid offset q ≡ true
    → is_up_to body_sid offset p ≡ true
earlier body_sid offset p q b e =
    says-up_to body_sid offset p (elim b [
      | inl l ↦ elim (up_to-says body_sid offset q e) [
        | inl m ↦ inl (omega (arith, l, m))
        | inr s ↦ let same = s.0 in inl (omega (arith, l, same))
      ]
      | inr t ↦
          let at = t.0 in
          let l = t.1 in
          elim (up_to-says body_sid offset q e) [
            | inl m ↦ inl (omega (arith, at, m))
            | inr s ↦ let same = s.0 in let m = s.1 in inr (at ∙ same, omega (arith, l, m))
          ]
    ])

-- Rising places have those that aren't behind an offset first.
pub parted : (body_sid offset : ℕ) (xs : List StreamPlace) → IsRising place_cmp xs
    → IsPartitionedBy (is_up_to body_sid offset) xs
parted body_sid offset [] r i j d l h e = absurd (omega arith)
parted body_sid offset (x ∷ xs) r zero zero d l h e = e
parted body_sid offset (x ∷ xs) r zero (suc j) d l h e = earlier body_sid offset x (get_or xs j d)
    (below_from x (get_or xs j d) (less_in place_total x (get_or xs j d) xs r.0 (In-at xs j d (omega arith)))) e
parted body_sid offset (x ∷ xs) r (suc i) zero d l h e = absurd (omega arith)
parted body_sid offset (x ∷ xs) r (suc i) (suc j) d l h e =
    parted body_sid offset xs r.1 i j d (omega arith) (omega arith) e

pub offset_in-says : (body_sid y : ℕ) (q : StreamPlace) → offset_in body_sid q ≡ Some y
    → (q.body_sid ≡ body_sid) × (q.offset ≡ y)
offset_in-says body_sid y q e = elim (q.body_sid == body_sid) as (λ b. (q.body_sid == body_sid) ≡ b
    → (if b then Some q.offset else None) ≡ Some y → (q.body_sid ≡ body_sid) × (q.offset ≡ y)) [
      | true ↦ λ f g. (eqb-true _ _ f, cc)
      | false ↦ λ f g. absurd cc
    ] refl e

offsets-after : (body_sid : ℕ) (x : StreamPlace) (xs : List StreamPlace) (y : ℕ)
    → AllByRecursion (λ q. place_cmp x q ≡ Less) xs → In y (offsets_in body_sid xs)
    → (x.body_sid ≤ body_sid) × (x.body_sid ≡ body_sid → x.offset < y)
offsets-after body_sid x xs y all h =
    let s = (In-filter_map (offset_in body_sid) xs y).0 h in
    let t = offset_in-says body_sid y s.0 s.2 in
    let same = t.0 in
    let at = t.1 in
    elim (below_from x s.0 (less_in place_total x s.0 xs all s.1)) [
      | inl l ↦ (omega (arith, l, same), λ e. absurd (omega (arith, l, same, e)))
      | inr u ↦ let v = u.0 in let l = u.1 in (omega (arith, v, same), λ e. omega (arith, l, at))
    ]

-- Behind those that aren't behind an offset the first place is the next in the stream, if it is one of it.
pub first-found : (body_sid offset : ℕ) (xs : List StreamPlace) (k : ℕ) → k ≤ length xs → IsRising place_cmp xs
    → AllWithin (λ x. is_up_to body_sid offset x ≡ true) xs 0 k
    → AllWithin (λ x. is_up_to body_sid offset x ≡ false) xs k (length xs)
    → option_and_then (offset_in body_sid) (slice_get (drop k xs) 0) ≡ least_above offset (offsets_in body_sid xs)
first-found body_sid offset [] zero h r below above = refl
first-found body_sid offset [] (suc k) h r below above = absurd (omega arith)
first-found body_sid offset (x ∷ xs) zero h r below above =
    let far = behind-says body_sid offset x (above 0 x (omega arith) (omega arith)) in
    elim (x.body_sid == body_sid) as (λ b. (x.body_sid == body_sid) ≡ b → (if b then Some x.offset else None)
    ≡ least_above offset (cons_option (if b then Some x.offset else None) (offsets_in body_sid xs))) [
      | true ↦ λ e.
          let same = eqb-true _ _ e in
          let a : offset < x.offset = elim far [ inl l ↦ absurd (omega (arith, l, same)) | inr s ↦ s.1 ] in
          one_least offset (x.offset ∷ offsets_in body_sid xs) (Some x.offset)
          (least_above offset (x.offset ∷ offsets_in body_sid xs)) (
            inl refl,
            a,
            λ y i l. elim i [
              | inl f ↦ omega (arith, f)
              | inr i ↦ let m = (offsets-after body_sid x xs y r.0 i).1 same in omega (arith, m)
            ],
          ) (least-is offset (x.offset ∷ offsets_in body_sid xs))
      | false ↦ λ e. one_least offset (offsets_in body_sid xs) None (least_above offset (offsets_in body_sid xs))
          (λ y i.
          let m = (offsets-after body_sid x xs y r.0 i).0 in
          absurd (elim far [
            | inl l ↦ omega (arith, l, m)
            | inr s ↦ let t = eq-eqb x.body_sid body_sid s.0 in cc (t, e)
          ])) (least-is offset (offsets_in body_sid xs))
    ] refl
first-found body_sid offset (x ∷ xs) (suc k) h r below above =
    let near = up_to-says body_sid offset x (below 0 x (omega arith) (omega arith)) in
    let ih = first-found body_sid offset xs k (omega arith) r.1 (λ j d l m. below (suc j) d (omega arith) (omega arith))
    (λ j d l m. above (suc j) d (omega arith) (omega arith)) in
    elim (x.body_sid == body_sid) as (λ b. (x.body_sid == body_sid) ≡ b
    → option_and_then (offset_in body_sid) (slice_get (drop k xs) 0)
    ≡ least_above offset (cons_option (if b then Some x.offset else None) (offsets_in body_sid xs))) [
      | true ↦ λ e.
          let same = eqb-true _ _ e in
          let a : x.offset ≤ offset = elim near [ inl l ↦ absurd (omega (arith, l, same)) | inr s ↦ s.1 ] in
          ih ∙ sym (ap (λ b. lesser (if b then Some x.offset else None)
          (least_above offset (offsets_in body_sid xs))) (le-ltb offset x.offset a))
      | false ↦ λ e. ih
    ] refl

-- The order of places doesn't matter.
pub least-in_order : (body_sid offset : ℕ) (xs : List StreamPlace)
    → least_above offset (offsets_in body_sid (in_order xs)) ≡ least_above offset (offsets_in body_sid xs)
least-in_order body_sid offset xs = least-same offset (offsets_in body_sid (in_order xs)) (offsets_in body_sid xs) (λ y.
    let a = In-filter_map (offset_in body_sid) (in_order xs) y in
    let b = In-filter_map (offset_in body_sid) xs y in (
      λ h.
          let s = a.0 h in
          b.1 (
            s.0,
            elim ((In-union place_total place_cmp-IsAntisymmetric s.0 [] xs).0 s.1) [ inl k ↦ absurd k | inr k ↦ k ],
            s.2,
          ),
      λ h. let s = b.0 h in a.1 (s.0, (In-union place_total place_cmp-IsAntisymmetric s.0 [] xs).1 (inr s.1), s.2),
    ))

-- The same of numbers.
pub least-rising : (low : ℕ) (xs : List ℕ) → least_above low (union nat_cmp [] xs) ≡ least_above low xs
least-rising low xs =
    least-same low (union nat_cmp [] xs) xs (λ y. (
      λ h. elim ((In-union nat_cmp_total nat_cmp-IsAntisymmetric y [] xs).0 h) [ inl k ↦ absurd k | inr k ↦ k ],
      λ h. (In-union nat_cmp_total nat_cmp-IsAntisymmetric y [] xs).1 (inr h),
    ))

-- The next place is the lesser one of those that are listed and those of units of one size.
pub next-parts : (body_sid offset : ℕ) (listed sized : List StreamPlace)
    → lesser (least_above offset (offsets_in body_sid listed)) (least_above offset (offsets_in body_sid sized))
    ≡ least_above offset (offsets_in body_sid (listed ++ sized))
next-parts body_sid offset listed sized =
    sym (least-append offset (offsets_in body_sid listed) (offsets_in body_sid sized))
    ∙ ap (least_above offset) (sym (filter_map-append (offset_in body_sid) listed sized))

-- ---- small places

pub small-in_order : (xs : List StreamPlace) → AllByRecursion IsSmall xs → AllByRecursion IsSmall (in_order xs)
small-in_order xs a = all_from_In IsSmall (in_order xs) (λ p h.
    all-In IsSmall xs p a (elim ((In-union place_total place_cmp-IsAntisymmetric p [] xs).0 h) [
      | inl k ↦ absurd k
      | inr k ↦ k
    ]))

pub small-least : (body_sid offset : ℕ) (xs : List StreamPlace) (n : ℕ) → AllByRecursion IsSmall xs
    → least_above offset (offsets_in body_sid xs) ≡ Some n → n < 2 ^ 96
small-least body_sid offset xs n a e =
    let is = subst (IsLeast offset (offsets_in body_sid xs)) e (least-is offset (offsets_in body_sid xs)) in
    let s = (In-filter_map (offset_in body_sid) xs n).0 is.0 in
    let at = (offset_in-says body_sid n s.0 s.2).1 in
    subst (λ m. m < 2 ^ 96) at (all-In IsSmall xs s.0 a s.1)
