-- The notes of all sources together.
use Rattle.mxf_klv.proofs.Common.{◌≡◌, ◌≢◌, ◌↔◌, ◌⊎◌, ◌∙◌, ◌+◌, ◌++◌, ℕ, zero, suc, List, [], ◌∷◌, refl, sym, ap, subst}
use Rattle.mxf_klv.proofs.Common.{inl, inr, get_or, true, false≢true, AllByRecursion, NoteParts, head_note, In}
use Rattle.mxf_klv.proofs.Lists.{all_append}
use Rattle.mxf_catalogue.specs.Content.{AreReduced, IsContent, IsLocated, has_note, reduced_union}
use Rattle.mxf_catalogue.specs.Reduced.{IsKnown}
use Rattle.mxf_catalogue.proofs.HeadLaws.{AreReduced-reduced_union, In-located, IsContent-reduced_union}
use Rattle.mxf_catalogue.proofs.HeadLaws.{has-reduced_union, one_reduced}
use Rattle.mxf_readings.specs.Readings.{IsHeld, all_notes, content_of, sources_of}
use Rattle.mxf_readings.proofs.SourceLaws.{at_number, sources_say}

pub all_content : (contents : List (List NoteParts)) → AllByRecursion IsContent contents
    → IsContent (all_notes contents)
all_content [] a = tt
all_content (c ∷ contents) a = IsContent-reduced_union c (all_notes contents) a.0

no_heads : AreReduced []
no_heads n h t = h

pub all_reduced : (contents : List (List NoteParts)) → AllByRecursion AreReduced contents
    → AreReduced (all_notes contents)
all_reduced [] a = no_heads
all_reduced (c ∷ contents) a = AreReduced-reduced_union c (all_notes contents) a.0

has_none : (n : NoteParts) → has_note [] n → ⊥
has_none n (inl h) = h
has_none n (inr s) = s.1

-- All have what the first and the others have.
has_parts : (n : NoteParts) (a b : List (List NoteParts))
    → has_note (all_notes (a ++ b)) n ↔ has_note (all_notes a) n ⊎ has_note (all_notes b) n
has_parts n [] b = (inr, λ h. elim h [ inl k ↦ absurd (has_none n k) | inr k ↦ k ])
has_parts n (c ∷ a) b =
    let ih = has_parts n a b in
    let whole = has-reduced_union n c (all_notes (a ++ b)) in
    let front = has-reduced_union n c (all_notes a) in (
      λ h. elim (whole.0 h) [
        | inl k ↦ inl (front.1 (inl k))
        | inr k ↦ elim (ih.0 k) [ inl i ↦ inl (front.1 (inr i)) | inr i ↦ inr i ]
      ],
      λ h. whole.1 (elim h [
        | inl k ↦ elim (front.0 k) [ inl i ↦ inl i | inr i ↦ inr (ih.1 (inl i)) ]
        | inr k ↦ inr (ih.1 (inr k))
      ]),
    )

-- Two parts joined are all.
pub parts_joined : (a b : List (List NoteParts)) → IsContent (all_notes (a ++ b)) → AreReduced (all_notes (a ++ b))
    → IsContent (all_notes a) → AreReduced (all_notes a)
    → all_notes (a ++ b) ≡ reduced_union (all_notes a) (all_notes b)
parts_joined a b c r d s =
    let x = all_notes a in
    let y = all_notes b in
    one_reduced (all_notes (a ++ b)) (reduced_union x y) c (IsContent-reduced_union x y d) r
    (AreReduced-reduced_union x y s) (λ n.
    let p = has_parts n a b in
    let q = has-reduced_union n x y in (λ h. q.1 (p.0 h), λ h. p.1 (q.0 h)))

pub all_parts : (a b : List (List NoteParts)) → AllByRecursion IsContent a → AllByRecursion AreReduced a
    → AllByRecursion IsContent b → AllByRecursion AreReduced b
    → all_notes (a ++ b) ≡ reduced_union (all_notes a) (all_notes b)
all_parts a b c r d s = parts_joined a b (all_content (a ++ b) (all_append IsContent a b c d))
    (all_reduced (a ++ b) (all_append AreReduced a b r s)) (all_content a c) (all_reduced a r)

-- Some content has it, or one of which it is the head.
abbrev Knows : List (List NoteParts) → NoteParts → Type 0
Knows contents n = (i : ℕ) × has_note (get_or contents i []) n

has_some : (n : NoteParts) (contents : List (List NoteParts)) → has_note (all_notes contents) n ↔ Knows contents n
has_some n [] = (λ h. absurd (has_none n h), λ s. absurd (has_none n s.1))
has_some n (c ∷ contents) =
    let ih = has_some n contents in
    let u = has-reduced_union n c (all_notes contents) in (
      λ h. elim (u.0 h) [ inl k ↦ (zero, k) | inr k ↦ let s = ih.0 k in (suc s.0, s.1) ],
      λ s. u.1 (back ih.1 s.0 s.1),
    )
  where
    back : (Knows contents n → has_note (all_notes contents) n) → (i : ℕ) → has_note (get_or (c ∷ contents) i []) n
        → has_note c n ⊎ has_note (all_notes contents) n
    back others zero h = inl h
    back others (suc i) h = inr (others (i, h))

held_at : (n : NoteParts) (contents : List (List NoteParts)) (i : ℕ) → In n (get_or contents i []) → IsHeld contents n
held_at n contents i h = (1 + i, (at_number (1 + i) n contents).0 (i, refl, h))

at_held : (n : NoteParts) (contents : List (List NoteParts)) → IsHeld contents n → (i : ℕ) × In n (get_or contents i [])
at_held n contents s = let t = (at_number s.0 n contents).1 s.1 in (t.0, t.2)

known : (n : NoteParts) (contents : List (List NoteParts))
    → has_note (all_notes contents) n ↔ IsKnown head_note (IsHeld contents) n
known n contents =
    let some = has_some n contents in (
      λ h.
          let s = some.0 h in
          elim s.1 [ inl k ↦ inl (held_at n contents s.0 k) | inr k ↦ inr (k.0, held_at k.0 contents s.0 k.1, k.2) ],
      λ h. some.1 (elim h [
        | inl k ↦ let t = at_held n contents k in (t.0, inl t.1)
        | inr k ↦ let t = at_held k.0 contents k.1 in (t.0, inr (k.0, t.1, k.2))
      ]),
    )

pub all_located : (n : NoteParts) (contents : List (List NoteParts)) → AllByRecursion AreReduced contents
    → In n (all_notes contents) ↔ IsLocated (IsHeld contents) n
all_located n contents r =
    In-located (IsHeld contents) (all_notes contents) (all_reduced contents r) (λ m. known m contents) n

pub some_source : (n : NoteParts) (contents : List (List NoteParts)) → AllByRecursion AreReduced contents
    → In n (all_notes contents) → sources_of n contents ≢ []
some_source n contents r h e =
    let held = ((all_located n contents r).0 h).0 in
    subst (In held.0) e ((sources_say held.0 n contents).1 held.1)

-- The note of a whole packet that some source has is one of all.
pub whole_joined : (number : ℕ) (n : NoteParts) (contents : List (List NoteParts)) → n.whole ≡ true
    → In n (content_of number contents) → In n (all_notes contents)
whole_joined number n contents whole h =
    elim ((known n contents).1 (inl (number, h))) [
      | inl k ↦ k
      | inr s ↦ absurd (false≢true (ap (λ (m : NoteParts). m.whole) s.2 ∙ whole))
    ]

-- What two halves of some contents hold together.
pub halves_joined : (contents front back others : List (List NoteParts)) (first f b : List NoteParts)
    → contents ≡ first ∷ others → IsContent first → AreReduced first → front ++ back ≡ contents
    → f ≡ all_notes front → b ≡ all_notes back → IsContent f → AreReduced f → reduced_union f b ≡ all_notes contents
halves_joined contents front back others first f b begins content reduced halves is_f is_b content_f reduced_f =
    let whole = halves ∙ begins in
    let c = subst (λ (l : List (List NoteParts)). IsContent (all_notes l)) (sym whole)
    (IsContent-reduced_union first (all_notes others) content) in
    let r = subst (λ (l : List (List NoteParts)). AreReduced (all_notes l)) (sym whole)
    (AreReduced-reduced_union first (all_notes others) reduced) in
    ap (λ (x : List NoteParts). reduced_union x b) is_f
    ∙ ap (λ (x : List NoteParts). reduced_union (all_notes front) x) is_b
    ∙ sym (parts_joined front back c r (subst IsContent is_f content_f) (subst AreReduced is_f reduced_f))
    ∙ ap all_notes halves
