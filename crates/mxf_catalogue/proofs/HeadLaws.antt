-- Reduced contents: the laws of reduced lists, of notes and their heads.
use Rattle.mxf_klv.proofs.Common.{sym, ◌∙◌, ap, subst, inl, inr, NoteParts, head_note, note_total}
use Rattle.mxf_klv.proofs.Common.{note_cmp-IsAntisymmetric, In, SameMembers}
use Rattle.std.specs.Prelude.{◌≡◌, ◌≢◌, ◌↔◌, ◌⊎◌, List, [], ◌∷◌, ◌++◌, refl}
use Rattle.mxf_klv.proofs.HeadOrder.{head_note-once, head_note-below, head_note-between}
use Rattle.mxf_catalogue.specs.Content.{AreReduced, IsContent, IsLocated, IsReplaced, has_note, reduced, reduced_union}
use Rattle.mxf_catalogue.specs.Content.{reduced_with, reduced_union-IsUnion, union_of, with_note}
use Rattle.mxf_catalogue.specs.Reduced.{IsKnown}
use Rattle.mxf_catalogue.proofs.ContentLaws.{In-with_note, IsContent-union_of, IsContent-with_note}
use Rattle.mxf_catalogue.specs.ReducedLaws.{Has-reduce, Has-union, Has-with_one, In-reduce, In-untold, IsReduced-reduce}
use Rattle.mxf_catalogue.specs.ReducedLaws.{IsRising-reduce, one_from_has, reduce-reduced, same_or_not, reduce-union}
use Rattle.mxf_catalogue.specs.ReducedLaws.{same_from_has}
use Rattle.mxf_catalogue.proofs.ReducedPlaces.{next_tells, reduced_push, swap_is, unreduced_push}

pub In-reduced : (n : NoteParts) (notes : List NoteParts)
    → In n (reduced notes) ↔ (In n notes × (IsReplaced n notes → ⊥))
In-reduced n notes = In-reduce note_total note_cmp-IsAntisymmetric head_note head_note-once n notes

pub AreReduced-reduced : (notes : List NoteParts) → AreReduced (reduced notes)
AreReduced-reduced notes = IsReduced-reduce note_total note_cmp-IsAntisymmetric head_note head_note-once notes

pub IsContent-reduced : (notes : List NoteParts) → IsContent notes → IsContent (reduced notes)
IsContent-reduced notes r = IsRising-reduce note_total note_cmp-IsAntisymmetric head_note head_note-once notes r

pub reduced-same : (notes : List NoteParts) → IsContent notes → AreReduced notes → reduced notes ≡ notes
reduced-same notes r a = reduce-reduced note_total note_cmp-IsAntisymmetric head_note head_note-once notes r a

pub has-reduced : (n : NoteParts) (notes : List NoteParts) → has_note (reduced notes) n ↔ has_note notes n
has-reduced n notes = Has-reduce note_total note_cmp-IsAntisymmetric head_note head_note-once n notes

pub has-union_of : (n : NoteParts) (a b : List NoteParts) → has_note (union_of a b) n ↔ has_note a n ⊎ has_note b n
has-union_of n a b = Has-union note_total note_cmp-IsAntisymmetric head_note head_note-once n a b

pub has-reduced_union : (n : NoteParts) (a b : List NoteParts)
    → has_note (reduced_union a b) n ↔ has_note a n ⊎ has_note b n
has-reduced_union n a b = reduced_union-IsUnion a b n

pub has-with_note : (n m : NoteParts) (notes : List NoteParts)
    → has_note (with_note m notes) n ↔ ((n ≡ m) ⊎ (n ≡ head_note m)) ⊎ has_note notes n
has-with_note n m notes = Has-with_one note_total note_cmp-IsAntisymmetric head_note head_note-once n m notes

pub has-reduced_with : (n m : NoteParts) (notes : List NoteParts)
    → has_note (reduced_with m notes) n ↔ ((n ≡ m) ⊎ (n ≡ head_note m)) ⊎ has_note notes n
has-reduced_with n m notes =
    let a = has-reduced n (with_note m notes) in
    let b = has-with_note n m notes in (λ h. b.0 (a.0 h), λ h. a.1 (b.1 h))

-- reduced contents that have the same are one list
pub one_reduced : (a b : List NoteParts) → IsContent a → IsContent b → AreReduced a → AreReduced b
    → ((n : NoteParts) → has_note a n ↔ has_note b n) → a ≡ b
one_reduced a b r s p q h = one_from_has note_total note_cmp-IsAntisymmetric head_note head_note-once a b r s p q h

-- a reduced content that has what a set has with its heads lists the located packets of the set
pub In-located : (handed : NoteParts → Type 0) (notes : List NoteParts) → AreReduced notes
    → ((n : NoteParts) → has_note notes n ↔ IsKnown head_note handed n) → (n : NoteParts)
    → In n notes ↔ IsLocated handed n
In-located handed notes r h n = In-untold note_total note_cmp-IsAntisymmetric head_note head_note-once handed notes r h
    n

pub IsContent-reduced_with : (n : NoteParts) (notes : List NoteParts) → IsContent notes
    → IsContent (reduced_with n notes)
IsContent-reduced_with n notes r = IsContent-reduced (with_note n notes) (IsContent-with_note n notes r)

pub IsContent-reduced_union : (a b : List NoteParts) → IsContent a → IsContent (reduced_union a b)
IsContent-reduced_union a [] r = r
IsContent-reduced_union a (n ∷ b) r = IsContent-reduced_union (reduced_with n a) b (IsContent-reduced_with n a r)

pub AreReduced-reduced_union : (a b : List NoteParts) → AreReduced a → AreReduced (reduced_union a b)
AreReduced-reduced_union a [] p = p
AreReduced-reduced_union a (n ∷ b) p =
    AreReduced-reduced_union (reduced_with n a) b (AreReduced-reduced (with_note n a))

-- note after note, or all at once
pub reduced_union-is : (a b : List NoteParts) → IsContent a → AreReduced a → reduced_union a b ≡ reduced (union_of a b)
reduced_union-is a b r p = one_reduced (reduced_union a b) (reduced (union_of a b)) (IsContent-reduced_union a b r)
    (IsContent-reduced (union_of a b) (IsContent-union_of a b r)) (AreReduced-reduced_union a b p)
    (AreReduced-reduced (union_of a b)) (λ n.
    let u = has-reduced_union n a b in
    let v = has-reduced n (union_of a b) in
    let w = has-union_of n a b in (λ h. v.1 (w.1 (u.0 h)), λ h. u.1 (w.0 (v.0 h))))

-- a union with a union of the same
pub reduced_union-all : (a b : List NoteParts) → IsContent a → AreReduced a → IsContent b
    → reduced_union [] (union_of a b) ≡ reduced_union a b
reduced_union-all a b r p s =
    one_reduced (reduced_union [] (union_of a b)) (reduced_union a b) (IsContent-reduced_union [] (union_of a b) tt)
    (IsContent-reduced_union a b r) (AreReduced-reduced_union [] (union_of a b) (λ x i k. i))
    (AreReduced-reduced_union a b p) (λ n.
    let u = has-reduced_union n [] (union_of a b) in
    let v = has-reduced_union n a b in
    let w = has-union_of n a b in (
      λ h. elim (u.0 h) [ inl k ↦ elim k [ inl i ↦ absurd i | inr t ↦ absurd t.1 ] | inr k ↦ v.1 (w.0 k) ],
      λ h. u.1 (inr (w.1 (v.0 h))),
    ))

-- reducing before a union or after it is one
pub reduced-before : (a b : List NoteParts) → IsContent a → IsContent b
    → reduced (union_of a b) ≡ reduced (union_of (reduced a) (reduced b))
reduced-before a b r s = reduce-union note_total note_cmp-IsAntisymmetric head_note head_note-once a b r s

pub reduced_union-none : (b : List NoteParts) → IsContent b → AreReduced b → reduced_union [] b ≡ b
reduced_union-none b r p =
    one_reduced (reduced_union [] b) b (IsContent-reduced_union [] b tt) r (AreReduced-reduced_union [] b
    (λ x i k. i)) p
    (λ n. let u = has-reduced_union n [] b in (
      λ h. elim (u.0 h) [ inl k ↦ elim k [ inl i ↦ absurd i | inr s ↦ absurd s.1 ] | inr k ↦ k ],
      λ h. u.1 (inr h),
    ))

-- a note that the content has changes nothing
pub reduced_with-present : (n : NoteParts) (notes : List NoteParts) → IsContent notes → AreReduced notes
    → has_note notes n → reduced_with n notes ≡ notes
reduced_with-present n notes r p h = one_reduced (reduced_with n notes) notes (IsContent-reduced_with n notes r) r
    (AreReduced-reduced (with_note n notes)) p
    (λ m. let w = has-reduced_with m n notes in (
      λ k. elim (w.0 k) [
        | inl e ↦ elim e [
          | inl q ↦ subst (λ x. has_note notes x) (sym q) h
          | inr q ↦ subst (λ x. has_note notes x) (sym q) (elim h [
            | inl i ↦ inr (n, i, refl)
            | inr s ↦ inr (s.0, s.1, sym (head_note-once s.0) ∙ ap head_note s.2)
          ])
        ]
        | inr i ↦ i
      ],
      λ k. w.1 (inr k),
    ))

-- a note that the content hasn't, nor its head: both stand beside the others
pub AreReduced-with_note : (n : NoteParts) (notes : List NoteParts) → AreReduced notes → (has_note notes n → ⊥)
    → (In (head_note n) notes → ⊥) → AreReduced (with_note n notes)
AreReduced-with_note n notes r new alone x h k =
    let w = λ (z : NoteParts). In-with_note z n notes in
    elim ((w x).0 h) [
      | inl e ↦ elim ((w k.0).0 k.1) [ inl f ↦ k.2 (f ∙ sym e) | inr i ↦ new (inr (k.0, i, k.3 ∙ e)) ]
      | inr i ↦ elim ((w k.0).0 k.1) [
        | inl f ↦ alone (subst (λ z. In z notes) (sym k.3 ∙ ap head_note f) i)
        | inr j ↦ r x i (k.0, j, k.2, k.3)
      ]
    ]

pub reduced_with-new : (n : NoteParts) (notes : List NoteParts) → IsContent notes → AreReduced notes
    → (has_note notes n → ⊥) → (In (head_note n) notes → ⊥) → reduced_with n notes ≡ with_note n notes
reduced_with-new n notes r p new alone =
    reduced-same (with_note n notes) (IsContent-with_note n notes r) (AreReduced-with_note n notes p new alone)

-- what a content lists with a new note: the note, and what it had, save for the note's head
pub In-reduced_with : (x n : NoteParts) (notes : List NoteParts) → AreReduced notes → (has_note notes n → ⊥)
    → In x (reduced_with n notes) ↔ ((x ≡ n) ⊎ (In x notes × (x ≢ head_note n)))
In-reduced_with x n notes p new =
    let r = In-reduced x (with_note n notes) in
    let w = λ (z : NoteParts). In-with_note z n notes in (
      λ h. elim ((w x).0 (r.0 h).0) [
        | inl e ↦ inl e
        | inr i ↦ inr (
          i,
          λ e. (r.0 h).1 (n, (w n).1 (inl refl), (λ q. new (inl (subst (λ z. In z notes) (sym q) i))), sym e),
        )
      ],
      λ h. r.1 (elim h [
        | inl e ↦ (
          (w x).1 (inl e),
          λ k. elim ((w k.0).0 k.1) [ inl f ↦ k.2 (f ∙ sym e) | inr i ↦ new (inr (k.0, i, k.3 ∙ e)) ],
        )
        | inr s ↦ (
          (w x).1 (inr s.0),
          λ k. elim ((w k.0).0 k.1) [ inl f ↦ s.1 (sym k.3 ∙ ap head_note f) | inr i ↦ p x s.0 (k.0, i, k.2, k.3) ],
        )
      ]),
    )

-- where a note's head stands, the note takes its place
pub swapped : (front back : List NoteParts) (n : NoteParts) → IsContent (front ++ head_note n ∷ back)
    → AreReduced (front ++ head_note n ∷ back) → n ≢ head_note n
    → front ++ n ∷ back ≡ reduced_with n (front ++ head_note n ∷ back)
swapped front back n r p ne =
    swap_is note_total note_cmp-IsAntisymmetric head_note head_note-once head_note-below head_note-between
    front back (head_note n) n r p refl ne

-- what replaces a head stands directly behind its place
pub next_replaces : (front back : List NoteParts) (n w : NoteParts) → IsContent (front ++ n ∷ back)
    → In w (front ++ back) → head_note w ≡ n
    → (z : NoteParts) × (more : List NoteParts) × (back ≡ z ∷ more) × (head_note z ≡ n)
next_replaces front back n w r h e =
    next_tells note_total note_cmp-IsAntisymmetric head_note head_note-once head_note-below head_note-between
    front back n w r h e

-- a reduced content goes on with a note above all of it that doesn't replace the last
pub AreReduced-push : (notes : List NoteParts) (n : NoteParts) → IsContent (notes ++ n ∷ []) → AreReduced notes
    → ((front : List NoteParts) (l : NoteParts) → notes ≡ front ++ l ∷ [] → head_note n ≡ l → ⊥)
    → AreReduced (notes ++ n ∷ [])
AreReduced-push notes n r p last =
    reduced_push note_total note_cmp-IsAntisymmetric head_note head_note-once head_note-below head_note-between
    notes n r p last

pub not-AreReduced-push : (notes front : List NoteParts) (n l : NoteParts) → IsContent (notes ++ n ∷ [])
    → notes ≡ front ++ l ∷ [] → head_note n ≡ l → AreReduced (notes ++ n ∷ []) → ⊥
not-AreReduced-push notes front n l r e t =
    unreduced_push note_total note_cmp-IsAntisymmetric head_note head_note-once head_note-below head_note-between
    notes front n l r e t

pub same_note : (a b : NoteParts) → (a ≡ b) ⊎ (a ≢ b)
same_note a b = same_or_not note_total note_cmp-IsAntisymmetric a b

-- notes that are all of a reduced content are reduced
pub AreReduced-part : (some all : List NoteParts) → ((n : NoteParts) → In n some → In n all) → AreReduced all
    → AreReduced some
AreReduced-part some all f r x h k = r x (f x h) (k.0, f k.0 k.1, k.2, k.3)

-- reduced contents that have the same list the same
pub same_members : (a b : List NoteParts) → AreReduced a → AreReduced b
    → ((n : NoteParts) → has_note a n ↔ has_note b n) → SameMembers a b
same_members a b p q h = same_from_has note_total note_cmp-IsAntisymmetric head_note head_note-once a b p q h
