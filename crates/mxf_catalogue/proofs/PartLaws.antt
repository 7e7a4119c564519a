-- The two parts of a content, and what a new note does to them.
use Rattle.mxf_klv.proofs.Common.{◌==◌, eqb-true, eq-eqb, sym, ◌∙◌, ap, subst, inl, inr, arith, is_lt, is_eq, Less}
use Rattle.mxf_klv.proofs.Common.{Equal, Greater, tied_itself, NoteParts, IsNote, note_cmp, note_total}
use Rattle.mxf_klv.proofs.Common.{note_cmp-IsAntisymmetric, In, SameMembers, less_in, head_note}
use Rattle.std.specs.Prelude.{◌≡◌, ◌≢◌, ◌+◌, Bool, true, false, cond, not, List, [], ◌∷◌, length, ◌⊎◌, ◌↔◌, filter, map}
use Rattle.std.specs.Prelude.{refl}
use Rattle.mxf_catalogue.specs.Content.{AreReduced, IsContent, IsCatalogue, has_note, reduced_with, with_note, union_of}
use Rattle.mxf_catalogue.specs.Disputes.{SharesByte, IsDisputed, is_byte_shared, is_offset_shared, is_overlapped}
use Rattle.mxf_catalogue.specs.Disputes.{is_disputed, clear_notes, disputed_parts, disputed_notes, undisputed_notes}
use Rattle.mxf_catalogue.specs.Disputes.{whole_notes}
use Rattle.mxf_catalogue.specs.NoteLists.{AreNoteLists, StandApart, touching, away_from, disputed_with, moved_by}
use Rattle.mxf_catalogue.specs.NoteLists.{moved_notes}
use Rattle.mxf_catalogue.proofs.ContentLaws.{same_content, In-with_note, In-union_of, IsContent-with_note}
use Rattle.mxf_catalogue.proofs.ContentLaws.{IsContent-union_of, IsCatalogue-with_note, IsCatalogue-union_of}
use Rattle.mxf_catalogue.proofs.DisputeLaws.{is_byte_shared-SharesByte, is_offset_shared-SharesOffset}
use Rattle.mxf_catalogue.proofs.DisputeLaws.{is_overlapped-Overlaps, SharesByte-same_offset, SharesByte-symmetric}
use Rattle.mxf_catalogue.proofs.DisputeLaws.{is_disputed-IsDisputed, IsContent-filter, In-undisputed_notes}
use Rattle.mxf_catalogue.proofs.HeadLaws.{AreReduced-part, In-reduced_with, IsContent-reduced_with, same_note}
use Rattle.mxf_klv.proofs.Lists.{all-In, all_from_In, In-filter, all-filter}
use Rattle.mxf_klv.proofs.Tests.{not_true, not-true-false, same_bool}

IsCatalogue-filter : (p : NoteParts → Bool) (notes : List NoteParts) → IsCatalogue notes → IsCatalogue (filter p notes)
IsCatalogue-filter p notes c = grind (arith, IsContent-filter, all-filter)

pub In-touching : (x n : NoteParts) (notes : List NoteParts) → In n (touching x notes) ↔ (In n notes × SharesByte x n)
In-touching x n notes =
    let f = In-filter (λ m. is_byte_shared x m) notes n in let s = is_byte_shared-SharesByte x n in
    (λ h. ((f.0 h).0, s.0 (f.0 h).1), λ h. f.1 (h.0, s.1 h.1))

pub In-away_from : (x n : NoteParts) (notes : List NoteParts)
    → In n (away_from x notes) ↔ (In n notes × (SharesByte x n → ⊥))
In-away_from x n notes =
    let f = In-filter (λ m. not (is_byte_shared x m)) notes n in let s = is_byte_shared-SharesByte x n in
    (λ h. ((f.0 h).0, λ k. not-true-false _ (f.0 h).1 (s.1 k)), λ h. f.1 (h.0, not_true _ (λ k. h.1 (s.0 k))))

-- A note shares its bytes with the note or doesn't.
touches_or_not : (x n : NoteParts) → SharesByte x n ⊎ (SharesByte x n → ⊥)
touches_or_not x n =
    let s = is_byte_shared-SharesByte x n in
    elim (is_byte_shared x n) as (λ b. is_byte_shared x n ≡ b
    → SharesByte x n ⊎ (SharesByte x n → ⊥)) [
      | true ↦ λ e. inl (s.0 e)
      | false ↦ λ e. inr (λ k. let t = s.1 k in
          cc (t, e))
    ] refl

-- The first part is the list of the undisputed notes.
pub undisputed_part : (c d : List NoteParts) → AreNoteLists c d → c ≡ undisputed_notes (union_of c d)
undisputed_part c d p =
    let u = union_of c d in
    same_content c (undisputed_notes u) p.undisputed_is.content
    (IsContent-filter (λ n. not (is_disputed n u)) u (IsContent-union_of c d p.undisputed_is.content))
    (λ n. (
      (λ h. (In-undisputed_notes n u).1 (
        (In-union_of n c d).1 (inl h),
        λ k. p.apart n k.0 h ((In-union_of k.0 c d).0 k.1) (λ e. k.2 (sym e)) (SharesByte-symmetric k.0 n k.3),
      )),
      (λ h. let k = (In-undisputed_notes n u).0 h in
          elim ((In-union_of n c d).0 k.0) [
            | inl i ↦ i
            | inr j ↦ absurd (k.1 (let s = p.shared n j in (s.0, (In-union_of s.0 c d).1 (inr s.1), s.2, s.3)))
          ]),
    ))

-- Those of it that are no heads are the clear notes.
pub clear_part : (c d : List NoteParts) → AreNoteLists c d → whole_notes c ≡ clear_notes (union_of c d)
clear_part c d p = ap whole_notes (undisputed_part c d p)

-- The parts together, once a note is there.
view_with : (x : NoteParts) (c d c' d' : List NoteParts) → IsContent c → IsContent c'
    → ((n : NoteParts) → (In n c' ⊎ In n d') ↔ ((n ≡ x) ⊎ (In n c ⊎ In n d)))
    → union_of c' d' ≡ with_note x (union_of c d)
view_with x c d c' d' r r' same =
    same_content _ _ (IsContent-union_of c' d' r') (IsContent-with_note x (union_of c d) (IsContent-union_of c d r))
    (λ n.
    let new = In-union_of n c' d' in let one = In-with_note n x (union_of c d) in let old = In-union_of n c d in (
      λ h. one.1 (elim ((same n).0 (new.0 h)) [ inl e ↦ inl e | inr k ↦ inr (old.1 k) ]),
      λ h. new.1 ((same n).1 (elim (one.0 h) [ inl e ↦ inl e | inr k ↦ inr (old.0 k) ])),
    ))

-- A note that shares no byte with the others is clear.
pub parts_with_clear : (x : NoteParts) (c d : List NoteParts) → IsNote x → AreNoteLists c d
    → ((n : NoteParts) → In n c ⊎ In n d → SharesByte x n → ⊥) → AreNoteLists (with_note x c) d
parts_with_clear x c d is p far = record {
  undisputed_is = IsCatalogue-with_note x c is p.undisputed_is;
  disputed_is = p.disputed_is;
  apart = λ m n h k ne s.
      let old : (n : NoteParts) → In n (with_note x c) ⊎ In n d
      → (n ≡ x) ⊎ (In n c ⊎ In n d) =
      λ n i. elim i [
        | inl j ↦ elim ((In-with_note n x c).0 j) [ inl e ↦ inl e | inr l ↦ inr (inl l) ]
        | inr j ↦ inr (inr j)
      ] in
      elim ((In-with_note m x c).0 h) [
        | inl e ↦ elim (old n k) [ inl f ↦ ne (e ∙ sym f) | inr i ↦ far n i (subst (λ y. SharesByte y n) e s) ]
        | inr i ↦ elim (old n k) [
          | inl f ↦ far m (inl i) (subst (λ y. SharesByte y m) f (SharesByte-symmetric m n s))
          | inr j ↦ p.apart m n i j ne s
        ]
      ];
  shared = p.shared;
}

pub view_with_clear : (x : NoteParts) (c d : List NoteParts) → AreNoteLists c d
    → union_of (with_note x c) d ≡ with_note x (union_of c d)
view_with_clear x c d p =
    view_with x c d (with_note x c) d p.undisputed_is.content (IsContent-with_note x c p.undisputed_is.content)
    (λ n. let one = In-with_note n x c in (
      λ h. elim h [ inl k ↦ elim (one.0 k) [ inl e ↦ inl e | inr i ↦ inr (inl i) ] | inr k ↦ inr (inr k) ],
      λ h. elim h [ inl e ↦ inl (one.1 (inl e)) | inr k ↦ elim k [ inl i ↦ inl (one.1 (inr i)) | inr i ↦ inr i ] ],
    ))

pub In-disputed_with : (x n : NoteParts) (c d : List NoteParts)
    → In n (disputed_with x c d) ↔ ((n ≡ x) ⊎ (In n d ⊎ (In n c × SharesByte x n)))
In-disputed_with x n c d =
    let one = In-with_note n x (union_of d (touching x c)) in let two = In-union_of n d (touching x c) in
    let t = In-touching x n c in (
      λ h. elim (one.0 h) [ inl e ↦ inl e | inr k ↦ inr (elim (two.0 k) [ inl i ↦ inl i | inr i ↦ inr (t.0 i) ]) ],
      λ h. one.1 (elim h [ inl e ↦ inl e | inr k ↦ inr (two.1 (elim k [ inl i ↦ inl i | inr i ↦ inr (t.1 i) ])) ]),
    )

pub parts_with_disputed : (x : NoteParts) (c d : List NoteParts) → IsNote x → AreNoteLists c d → (In x c ⊎ In x d → ⊥)
    → ((n : NoteParts) × (In n c ⊎ In n d) × SharesByte x n) → AreNoteLists (away_from x c) (disputed_with x c d)
parts_with_disputed x c d is p new hit =
    let there = λ (n : NoteParts). In-disputed_with x n c d in
    let other : (n : NoteParts) → In n c ⊎ In n d → x ≢ n = λ n h e. new (subst (λ y. In y c ⊎ In y d) (sym e) h) in
    record {
      undisputed_is = IsCatalogue-filter (λ n. not (is_byte_shared x n)) c p.undisputed_is;
      disputed_is = IsCatalogue-with_note x _ is (IsCatalogue-union_of d (touching x c) p.disputed_is
          (IsCatalogue-filter (λ n. is_byte_shared x n) c p.undisputed_is));
      apart = λ m n h k ne s.
          let a = (In-away_from x m c).0 h in
          elim k [
            | inl i ↦ p.apart m n a.0 (inl ((In-away_from x n c).0 i).0) ne s
            | inr i ↦ elim ((there n).0 i) [
              | inl e ↦ a.1 (subst (λ y. SharesByte y m) e (SharesByte-symmetric m n s))
              | inr j ↦ elim j [ inl l ↦ p.apart m n a.0 (inr l) ne s | inr l ↦ p.apart m n a.0 (inl l.0) ne s ]
            ]
          ];
      shared = λ n h. elim ((there n).0 h) [
        | inl e ↦
            let m = hit.0 in
            let in_it : In m (disputed_with x c d) = (there m).1
            (inr (elim hit.1 [ inl i ↦ inr (i, hit.2) | inr i ↦ inl i ])) in (
              m,
              in_it,
              (λ f. other m hit.1 (sym (f ∙ e))),
              subst (SharesByte m) (sym e) (SharesByte-symmetric x m hit.2),
            )
        | inr k ↦ elim k [
          | inl i ↦ let s = p.shared n i in (s.0, (there s.0).1 (inr (inl s.1)), s.2, s.3)
          | inr i ↦ (x, (there x).1 (inl refl), other n (inl i.0), i.1)
        ]
      ];
    }

pub view_with_disputed : (x : NoteParts) (c d : List NoteParts) → AreNoteLists c d
    → union_of (away_from x c) (disputed_with x c d) ≡ with_note x (union_of c d)
view_with_disputed x c d p = view_with x c d (away_from x c) (disputed_with x c d) p.undisputed_is.content
    (IsContent-filter (λ n. not (is_byte_shared x n)) c p.undisputed_is.content)
    (λ n. let t = In-disputed_with x n c d in let a = In-away_from x n c in (
      λ h. elim h [
        | inl k ↦ inr (inl (a.0 k).0)
        | inr k ↦ elim (t.0 k) [ inl e ↦ inl e | inr i ↦ inr (elim i [ inl j ↦ inr j | inr j ↦ inl j.0 ]) ]
      ],
      λ h. elim h [
        | inl e ↦ inr (t.1 (inl e))
        | inr k ↦ elim k [
          | inl i ↦ elim (touches_or_not x n) [ inl s ↦ inr (t.1 (inr (inr (i, s)))) | inr s ↦ inl (a.1 (i, s)) ]
          | inr i ↦ inr (t.1 (inr (inl i)))
        ]
      ],
    ))

filter_same : (p q : NoteParts → Bool) (notes : List NoteParts) → ((n : NoteParts) → In n notes → p n ≡ q n)
    → filter p notes ≡ filter q notes
filter_same p q [] f = refl
filter_same p q (x ∷ xs) f = (λ i. cond (f x (inl refl) i) (x ∷ filter p xs) (filter p xs))
    ∙ ap (λ l. cond (q x) (x ∷ l) l) (filter_same p q xs (λ n h. f n (inr h)))

-- Two filters may change places.
pub filter-both : (p q : NoteParts → Bool) (notes : List NoteParts)
    → filter p (filter q notes) ≡ filter q (filter p notes)
filter-both p q [] = refl
filter-both p q (x ∷ xs) = grind (arith, filter-both p q xs)

-- The clear notes that it touches are those that it moves.
pub moved_part : (x : NoteParts) (c d : List NoteParts) → AreNoteLists c d → AreReduced (union_of c d)
    → (has_note (union_of c d) x → ⊥) → map (λ n. n.offset) (whole_notes (touching x c)) ≡ moved_by x (union_of c d)
unfolding moved_notes
moved_part x c d p red new =
    let u = union_of c d in
    let test : (n : NoteParts) → In n c → is_byte_shared x n ≡ is_disputed n (reduced_with x u) = λ n h.
    let s = is_byte_shared-SharesByte x n in let t = is_disputed-IsDisputed n (reduced_with x u) in
    let there = λ (m : NoteParts). In-reduced_with m x u red new in
    same_bool _ _
    (λ k. t.1 (
      x,
      (there x).1 (inl refl),
      (λ e. new (inl ((In-union_of x c d).1 (inl (subst (λ y. In y c) (sym e) h))))),
      s.0 k,
    )) (λ k.
    let w = t.0 k in
    s.1 (elim ((there w.0).0 w.1) [
      | inl e ↦ subst (λ y. SharesByte y n) e w.3
      | inr i ↦ absurd
          (p.apart n w.0 h ((In-union_of w.0 c d).0 i.0) (λ e. w.2 (sym e)) (SharesByte-symmetric w.0 n w.3))
    ])) in
    ap (λ l. map (λ (n : NoteParts). n.offset) l) (filter-both (λ n. n.whole) (λ n. is_byte_shared x n) c
    ∙ filter_same _ _ (whole_notes c) (λ n h. test n ((In-filter (λ m. m.whole) c n).0 h).0)
    ∙ ap (filter (λ n. is_disputed n (reduced_with x u))) (clear_part c d p))

pub apart_of : (c d : List NoteParts) → AreNoteLists c d → StandApart c
apart_of c d p m n h k ne s = p.apart m n h (inl k) ne s

-- No note is in both parts.
pub not_in_both : (c d : List NoteParts) → AreNoteLists c d → (n : NoteParts) → In n c → In n d → ⊥
not_in_both c d p n h k = let s = p.shared n k in
    p.apart n s.0 h (inr s.1) (λ e. s.2 (sym e)) (SharesByte-symmetric s.0 n s.3)

pub no_members : (notes : List NoteParts) → ((n : NoteParts) → In n notes → ⊥) → notes ≡ []
no_members [] f = refl
no_members (n ∷ ns) f = absurd (f n (inl refl))

pub some_member : (notes : List NoteParts) → (notes ≡ [] → ⊥) → (n : NoteParts) × In n notes
some_member [] f = absurd (f refl)
some_member (n ∷ ns) f = (n, inl refl)

-- There are as many notes as in both parts.
length-with_new : (x : NoteParts) (notes : List NoteParts) → (In x notes → ⊥)
    → length (with_note x notes) ≡ length notes + 1
length-with_new x [] new = omega arith
length-with_new x (y ∷ ys) new =
    let ih : length (with_note x ys) ≡ length ys + 1 = length-with_new x ys (λ h. new (inr h)) in
    elim (note_cmp x y) as (λ o. note_cmp x y ≡ o
    → length (cond (is_lt o) (x ∷ y ∷ ys) (cond (is_eq o) (y ∷ ys) (y ∷ with_note x ys))) ≡ length (y ∷ ys) + 1) [
      | Less ↦ λ e. omega arith
      | Equal ↦ λ e. absurd (new (inl (note_cmp-IsAntisymmetric x y e)))
      | Greater ↦ λ e. omega arith
    ] refl

length-union_apart : (xs ys : List NoteParts) → IsContent ys → ((n : NoteParts) → In n xs → In n ys → ⊥)
    → length (union_of xs ys) ≡ length xs + length ys
length-union_apart xs [] r f = omega arith
length-union_apart xs (y ∷ ys) r f =
    let new : length (with_note y xs) ≡ length xs + 1 = length-with_new y xs (λ h. f y h (inl refl)) in
    let ih = length-union_apart (with_note y xs) ys r.1
    (λ n h k. elim ((In-with_note n y xs).0 h) [
      | inl e ↦ let t = less_in note_total y n ys r.0 k in
          let u = tied_itself note_total y in let v = ap (note_cmp y) e in cc (t, u, v)
      | inr i ↦ f n i (inr k)
    ]) in
    omega (arith, new, ih)

pub length-parts : (c d : List NoteParts) → AreNoteLists c d → length (union_of c d) ≡ length c + length d
length-parts c d p = length-union_apart c d p.disputed_is.content (not_in_both c d p)

pub is_nil : (notes : List NoteParts) → (length notes == 0) ≡ true → notes ≡ []
is_nil [] e = refl
is_nil (n ∷ ns) e = let f : length (n ∷ ns) ≡ 0 = eqb-true _ _ e in absurd (omega arith)

pub is_not_nil : (notes : List NoteParts) → (length notes == 0) ≡ false → notes ≡ [] → ⊥
is_not_nil notes e q = let t = eq-eqb (length notes) 0 (ap length q) in cc (t, e)

-- The disputed part is the list of the disputed notes, and it alone decides how they are disputed.
disputed_is : (c d : List NoteParts) → AreNoteLists c d → (n : NoteParts) → IsDisputed n (union_of c d)
    → In n (union_of c d) → In n d
disputed_is c d p n k h = elim ((In-union_of n c d).0 h) [
  | inl i ↦ absurd (p.apart n k.0 i ((In-union_of k.0 c d).0 k.1) (λ e. k.2 (sym e)) (SharesByte-symmetric k.0 n k.3))
  | inr i ↦ i
]

pub disputed_part : (c d : List NoteParts) → AreNoteLists c d
    → d ≡ filter (λ n. is_disputed n (union_of c d)) (union_of c d)
disputed_part c d p =
    let u = union_of c d in
    same_content d (filter (λ n. is_disputed n u) u) p.disputed_is.content
    (IsContent-filter (λ n. is_disputed n u) u (IsContent-union_of c d p.undisputed_is.content)) (λ n.
    let f = In-filter (λ m. is_disputed m u) u n in let t = is_disputed-IsDisputed n u in (
      (λ h. f.1 (
        (In-union_of n c d).1 (inr h),
        t.1 (let s = p.shared n h in
            (s.0, (In-union_of s.0 c d).1 (inr s.1), s.2, s.3)),
      )),
      (λ h. let k = f.0 h in disputed_is c d p n (t.0 k.1) k.0),
    ))

pub In-disputed_part : (c d : List NoteParts) → AreNoteLists c d → (n : NoteParts)
    → In n d ↔ (In n (union_of c d) × IsDisputed n (union_of c d))
In-disputed_part c d p n =
    let u = union_of c d in (
      λ h. ((In-union_of n c d).1 (inr h), let s = p.shared n h in (s.0, (In-union_of s.0 c d).1 (inr s.1), s.2, s.3)),
      λ h. disputed_is c d p n h.1 h.0,
    )

-- What shares a byte with a disputed note is disputed.
partner : (c d : List NoteParts) → AreNoteLists c d → (m n : NoteParts) → In n d → In m (union_of c d) → m ≢ n
    → SharesByte m n → In m d
partner c d p m n h k ne s = elim ((In-union_of m c d).0 k) [ inl i ↦ absurd (p.apart m n i (inr h) ne s) | inr i ↦ i ]

marks_by_part : (c d : List NoteParts) → AreNoteLists c d → (n : NoteParts) → In n d
    → disputed_parts n d ≡ disputed_parts n (union_of c d)
marks_by_part c d p n h =
    let u = union_of c d in
    let a = is_offset_shared-SharesOffset n d in let b = is_offset_shared-SharesOffset n u in
    let e = is_overlapped-Overlaps n d in let f = is_overlapped-Overlaps n u in
    let same = same_bool (is_offset_shared n d) (is_offset_shared n u)
    (λ t. b.1 (let s = a.0 t in (s.0, (In-union_of s.0 c d).1 (inr s.1), s.2, s.3)))
    (λ t. a.1 (let s = b.0 t in (s.0, partner c d p s.0 n h s.1 s.2 (SharesByte-same_offset s.0 n s.3), s.2, s.3))) in
    let over = same_bool (is_overlapped n d) (is_overlapped n u)
    (λ t. f.1 (let s = e.0 t in (s.0, (In-union_of s.0 c d).1 (inr s.1), s.2, s.3)))
    (λ t. e.1 (let s = f.0 t in (
      s.0,
      partner c d p s.0 n h s.1 (λ q. s.2 (ap (λ (m : NoteParts). m.offset) q)) s.3,
      s.2,
      s.3,
    ))) in
    λ i. record { note = n; same_offset = same i; overlaps = over i }

map_same : {B : Type 0} (f g : NoteParts → B) (notes : List NoteParts) → ((n : NoteParts) → In n notes → f n ≡ g n)
    → map f notes ≡ map g notes
map_same f g [] h = refl
map_same f g (x ∷ xs) h = λ i. h x (inl refl) i ∷ map_same f g xs (λ n k. h n (inr k)) i

pub disputed_by_part : (c d : List NoteParts) → AreNoteLists c d
    → map (λ n. disputed_parts n d) d ≡ disputed_notes (union_of c d)
disputed_by_part c d p = map_same (λ n. disputed_parts n d) (λ n. disputed_parts n (union_of c d)) d
    (marks_by_part c d p) ∙ ap (map (λ n. disputed_parts n (union_of c d))) (disputed_part c d p)

-- One content has one pair of parts.
pub same_parts : (c d c' d' : List NoteParts) → AreNoteLists c d → AreNoteLists c' d'
    → SameMembers (union_of c d) (union_of c' d') → (c ≡ c') × (d ≡ d')
same_parts c d c' d' p p' s =
    let u = same_content (union_of c d) (union_of c' d') (IsContent-union_of c d p.undisputed_is.content)
    (IsContent-union_of c' d' p'.undisputed_is.content) s in (
      undisputed_part c d p ∙ ap undisputed_notes u ∙ sym (undisputed_part c' d' p'),
      disputed_part c d p ∙ ap (λ l. filter (λ n. is_disputed n l) l) u ∙ sym (disputed_part c' d' p'),
    )

-- A note takes the place of its head in one of the parts.

-- what shares a byte with a head shares it with the note of its packet
pub with_head : (x n : NoteParts) → SharesByte x n → SharesByte (head_note x) n
with_head x n s = (s.0, record { from = s.1.from; before = s.1.before }, s.2)

pub with_whole : (x n : NoteParts) → SharesByte (head_note x) n → SharesByte x n
with_whole x n s = (s.0, record { from = s.1.from; before = s.1.before }, s.2)

module _ (x : NoteParts) (c d : List NoteParts) (is : IsNote x) (p : AreNoteLists c d) (red : AreReduced (union_of c d))
    (new : has_note (union_of c d) x → ⊥) where
  abbrev u : List NoteParts
  u = union_of c d

  in_c : (n : NoteParts) → In n c → In n u
  in_c n h = (In-union_of n c d).1 (inl h)

  in_d : (n : NoteParts) → In n d → In n u
  in_d n h = (In-union_of n c d).1 (inr h)

  new_c : has_note c x → ⊥
  new_c h = new (elim h [ inl i ↦ inl (in_c x i) | inr s ↦ inr (s.0, in_c s.0 s.1, s.2) ])

  new_d : has_note d x → ⊥
  new_d h = new (elim h [ inl i ↦ inl (in_d x i) | inr s ↦ inr (s.0, in_d s.0 s.1, s.2) ])

  there_c : (n : NoteParts) → In n (reduced_with x c) ↔ ((n ≡ x) ⊎ (In n c × (n ≢ head_note x)))
  there_c n = In-reduced_with n x c (AreReduced-part c u in_c red) new_c

  there_d : (n : NoteParts) → In n (reduced_with x d) ↔ ((n ≡ x) ⊎ (In n d × (n ≢ head_note x)))
  there_d n = In-reduced_with n x d (AreReduced-part d u in_d red) new_d

  there_u : (n : NoteParts) → In n (reduced_with x u) ↔ ((n ≡ x) ⊎ (In n u × (n ≢ head_note x)))
  there_u n = In-reduced_with n x u red new

  is_c : IsCatalogue (reduced_with x c)
  is_c = record {
    content = IsContent-reduced_with x c p.undisputed_is.content;
    members = all_from_In IsNote (reduced_with x c) (λ n h. elim ((there_c n).0 h) [
      | inl e ↦ subst IsNote (sym e) is
      | inr i ↦ all-In IsNote c n p.undisputed_is.members i.0
    ]);
  }

  is_d : IsCatalogue (reduced_with x d)
  is_d = record {
    content = IsContent-reduced_with x d p.disputed_is.content;
    members = all_from_In IsNote (reduced_with x d) (λ n h. elim ((there_d n).0 h) [
      | inl e ↦ subst IsNote (sym e) is
      | inr i ↦ all-In IsNote d n p.disputed_is.members i.0
    ]);
  }

  pub parts_swap_clear : In (head_note x) c → AreNoteLists (reduced_with x c) d
  parts_swap_clear h = record {
    undisputed_is = is_c;
    disputed_is = p.disputed_is;
    apart = λ m n i k ne s. elim ((there_c m).0 i) [
      | inl e ↦
          let s' = with_head x n (subst (λ y. SharesByte y n) e s) in
          elim k [
            | inl j ↦ elim ((there_c n).0 j) [
              | inl f ↦ ne (e ∙ sym f)
              | inr q ↦ p.apart (head_note x) n h (inl q.0) (λ r. q.1 (sym r)) s'
            ]
            | inr j ↦ p.apart (head_note x) n h (inr j) (λ r. not_in_both c d p n (subst (λ y. In y c) r h) j) s'
          ]
      | inr a ↦ elim k [
        | inl j ↦ elim ((there_c n).0 j) [
          | inl f ↦
              let s' = with_head x m (subst (λ y. SharesByte y m) f (SharesByte-symmetric m n s)) in
              p.apart (head_note x) m h (inl a.0) (λ r. a.1 (sym r)) s'
          | inr q ↦ p.apart m n a.0 (inl q.0) ne s
        ]
        | inr j ↦ p.apart m n a.0 (inr j) ne s
      ]
    ];
    shared = p.shared;
  }

  pub view_swap_clear : In (head_note x) c → union_of (reduced_with x c) d ≡ reduced_with x (union_of c d)
  view_swap_clear h = same_content _ _ (IsContent-union_of (reduced_with x c) d is_c.content)
      (IsContent-reduced_with x u (IsContent-union_of c d p.undisputed_is.content)) (λ n.
      let v = In-union_of n (reduced_with x c) d in
      let w = In-union_of n c d in (
        λ i. (there_u n).1 (elim (v.0 i) [
          | inl j ↦ elim ((there_c n).0 j) [ inl e ↦ inl e | inr q ↦ inr (w.1 (inl q.0), q.1) ]
          | inr j ↦ inr (w.1 (inr j), λ e. not_in_both c d p n (subst (λ y. In y c) (sym e) h) j)
        ]),
        λ i. v.1 (elim ((there_u n).0 i) [
          | inl e ↦ inl ((there_c n).1 (inl e))
          | inr q ↦ elim (w.0 q.0) [ inl j ↦ inl ((there_c n).1 (inr (j, q.1))) | inr j ↦ inr j ]
        ]),
      ))

  pub parts_swap_disputed : In (head_note x) d → AreNoteLists c (reduced_with x d)
  parts_swap_disputed h = record {
    undisputed_is = p.undisputed_is;
    disputed_is = is_d;
    apart = λ m n i k ne s. elim k [
      | inl j ↦ p.apart m n i (inl j) ne s
      | inr j ↦ elim ((there_d n).0 j) [
        | inl e ↦
            let s' = with_head x m (subst (λ y. SharesByte y m) e (SharesByte-symmetric m n s)) in
            p.apart m (head_note x) i (inr h)
            (λ r. not_in_both c d p m i (subst (λ y. In y d) (sym r) h)) (SharesByte-symmetric (head_note x) m s')
        | inr q ↦ p.apart m n i (inr q.0) ne s
      ]
    ];
    shared = λ n i. elim ((there_d n).0 i) [
      | inl e ↦
          let s = p.shared (head_note x) h in (
            s.0,
            (there_d s.0).1 (inr (s.1, s.2)),
            (λ r. new (inl (in_d x (subst (λ y. In y d) (r ∙ e) s.1)))),
            subst (SharesByte s.0) (sym e)
                (SharesByte-symmetric x s.0 (with_whole x s.0 (SharesByte-symmetric s.0 (head_note x) s.3))),
          )
      | inr q ↦
          let s = p.shared n q.0 in
          elim (same_note s.0 (head_note x)) [
            | inl e ↦ (
              x,
              (there_d x).1 (inl refl),
              (λ r. new (inl (in_d x (subst (λ y. In y d) (sym r) q.0)))),
              with_whole x n (subst (λ y. SharesByte y n) e s.3),
            )
            | inr ne ↦ (s.0, (there_d s.0).1 (inr (s.1, ne)), s.2, s.3)
          ]
    ];
  }

  pub view_swap_disputed : In (head_note x) d → union_of c (reduced_with x d) ≡ reduced_with x (union_of c d)
  view_swap_disputed h = same_content _ _ (IsContent-union_of c (reduced_with x d) p.undisputed_is.content)
      (IsContent-reduced_with x u (IsContent-union_of c d p.undisputed_is.content)) (λ n.
      let v = In-union_of n c (reduced_with x d) in
      let w = In-union_of n c d in (
        λ i. (there_u n).1 (elim (v.0 i) [
          | inl j ↦ inr (w.1 (inl j), λ e. not_in_both c d p n j (subst (λ y. In y d) (sym e) h))
          | inr j ↦ elim ((there_d n).0 j) [ inl e ↦ inl e | inr q ↦ inr (w.1 (inr q.0), q.1) ]
        ]),
        λ i. v.1 (elim ((there_u n).0 i) [
          | inl e ↦ inr ((there_d n).1 (inl e))
          | inr q ↦ elim (w.0 q.0) [ inl j ↦ inl j | inr j ↦ inr ((there_d n).1 (inr (j, q.1))) ]
        ]),
      ))
