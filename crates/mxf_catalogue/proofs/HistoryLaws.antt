-- What a history of calls leaves is the set that it was handed.
use Rattle.mxf_klv.proofs.Common.{inl, inr, sym, ap, subst, ◌∙◌, NoteParts, In, head_note}
use Rattle.std.specs.Prelude.{◌≡◌, ◌↔◌, ◌⊎◌, refl, take}
use Rattle.mxf_klv.specs.PieceReading.{notes_in}
use Rattle.mxf_catalogue.specs.Content.{AreReduced, IsContent, IsLocated, has_note, with_note}
use Rattle.mxf_catalogue.specs.Reduced.{IsKnown}
use Rattle.mxf_catalogue.specs.History.{Hands, HandsSame, content, History, New, Add, Join, Read, Absorb, Cut, Of}
use Rattle.mxf_catalogue.proofs.ContentLaws.{same_content}
use Rattle.mxf_catalogue.proofs.HeadLaws.{AreReduced-reduced, AreReduced-reduced_union, IsContent-reduced_union}
use Rattle.mxf_catalogue.proofs.HeadLaws.{IsContent-reduced_with, In-located, has-reduced_union, has-reduced_with}
use Rattle.mxf_catalogue.proofs.HeadLaws.{one_reduced}
use Rattle.mxf_klv.proofs.HeadOrder.{head_note-once}

-- a set of two has with heads what both have
pub known-both : (P Q : NoteParts → Type 0) (n : NoteParts)
    → IsKnown head_note (λ m. P m ⊎ Q m) n ↔ IsKnown head_note P n ⊎ IsKnown head_note Q n
known-both P Q n = (
  λ h. elim h [
    | inl k ↦ elim k [ inl p ↦ inl (inl p) | inr q ↦ inr (inl q) ]
    | inr s ↦ elim s.1 [ inl p ↦ inl (inr (s.0, p, s.2)) | inr q ↦ inr (inr (s.0, q, s.2)) ]
  ],
  λ h. elim h [
    | inl k ↦ elim k [ inl p ↦ inl (inl p) | inr s ↦ inr (s.0, inl s.1, s.2) ]
    | inr k ↦ elim k [ inl q ↦ inl (inr q) | inr s ↦ inr (s.0, inr s.1, s.2) ]
  ],
)

pub IsContent-content : (h : History) → IsContent (content h)
IsContent-content New = tt
IsContent-content (Add h m) = IsContent-reduced_with m (content h) (IsContent-content h)
IsContent-content (Join h k) = IsContent-reduced_union (content h) (content k) (IsContent-content h)
IsContent-content (Read bytes notes is) = is.1.catalogue.content
IsContent-content (Absorb h offset bytes) =
    IsContent-reduced_union (content h) (notes_in offset bytes) (IsContent-content h)
IsContent-content (Cut h offset bytes noted) =
    IsContent-reduced_union (content h) (take noted (notes_in offset bytes)) (IsContent-content h)
IsContent-content (Of h) = IsContent-content h

pub AreReduced-content : (h : History) → AreReduced (content h)
AreReduced-content New = λ x i k. i
AreReduced-content (Add h m) = AreReduced-reduced (with_note m (content h))
AreReduced-content (Join h k) = AreReduced-reduced_union (content h) (content k) (AreReduced-content h)
AreReduced-content (Read bytes notes is) = is.1.reduced
AreReduced-content (Absorb h offset bytes) =
    AreReduced-reduced_union (content h) (notes_in offset bytes) (AreReduced-content h)
AreReduced-content (Cut h offset bytes noted) =
    AreReduced-reduced_union (content h) (take noted (notes_in offset bytes)) (AreReduced-content h)
AreReduced-content (Of h) = AreReduced-content h

-- the content has what was handed, with its heads
pub has-content : (h : History) (n : NoteParts) → has_note (content h) n ↔ IsKnown head_note (Hands h) n
has-content New n = (λ k. k, λ k. k)
has-content (Add h m) n =
    let one = has-reduced_with n m (content h) in
    let ih = has-content h n in
    let k = known-both (Hands h) (λ x. x ≡ m) n in (
      λ i. k.1 (elim (one.0 i) [
        | inl e ↦ inr (elim e [ inl q ↦ inl q | inr q ↦ inr (m, refl, sym q) ])
        | inr j ↦ inl (ih.0 j)
      ]),
      λ i. one.1 (elim (k.0 i) [
        | inl j ↦ inr (ih.1 j)
        | inr j ↦ inl (elim j [ inl q ↦ inl q | inr s ↦ inr (sym s.2 ∙ ap head_note s.1) ])
      ]),
    )
has-content (Join h k) n =
    let all = has-reduced_union n (content h) (content k) in
    let ih = has-content h n in let ik = has-content k n in
    let b = known-both (Hands h) (Hands k) n in (
      λ m. b.1 (elim (all.0 m) [ inl i ↦ inl (ih.0 i) | inr j ↦ inr (ik.0 j) ]),
      λ m. all.1 (elim (b.0 m) [ inl i ↦ inl (ih.1 i) | inr j ↦ inr (ik.1 j) ]),
    )
has-content (Read bytes notes is) n = (λ k. k, λ k. k)
has-content (Absorb h offset bytes) n =
    let all = has-reduced_union n (content h) (notes_in offset bytes) in
    let ih = has-content h n in
    let b = known-both (Hands h) (λ m. In m (notes_in offset bytes)) n in (
      λ m. b.1 (elim (all.0 m) [ inl i ↦ inl (ih.0 i) | inr j ↦ inr j ]),
      λ m. all.1 (elim (b.0 m) [ inl i ↦ inl (ih.1 i) | inr j ↦ inr j ]),
    )
has-content (Cut h offset bytes noted) n =
    let some = take noted (notes_in offset bytes) in
    let all = has-reduced_union n (content h) some in
    let ih = has-content h n in
    let b = known-both (Hands h) (λ m. In m some) n in (
      λ m. b.1 (elim (all.0 m) [ inl i ↦ inl (ih.0 i) | inr j ↦ inr j ]),
      λ m. all.1 (elim (b.0 m) [ inl i ↦ inl (ih.1 i) | inr j ↦ inr j ]),
    )
has-content (Of h) n = has-content h n

-- the content is the handed set without the heads that are replaced
pub In-content : (h : History) (n : NoteParts) → In n (content h) ↔ IsLocated (Hands h) n
In-content h n = In-located (Hands h) (content h) (AreReduced-content h) (has-content h) n

-- one set of located packets, one content
pub same_history_content : (h k : History) → HandsSame (Hands h) (Hands k) ↔ (content h ≡ content k)
same_history_content h k = (
  λ s. same_content (content h) (content k) (IsContent-content h) (IsContent-content k) (λ n. (
    λ i. (In-content k n).1 ((s n).0 ((In-content h n).0 i)),
    λ i. (In-content h n).1 ((s n).1 ((In-content k n).0 i)),
  )),
  λ e n. (
    λ l. (In-content k n).0 (subst (In n) e ((In-content h n).1 l)),
    λ l. (In-content h n).0 (subst (In n) (sym e) ((In-content k n).1 l)),
  ),
)

-- one set of notes, with what they tell
known-same : (P Q : NoteParts → Type 0) (n : NoteParts) → ((m : NoteParts) → P m → Q m) → IsKnown head_note P n
    → IsKnown head_note Q n
known-same P Q n f k = elim k [ inl p ↦ inl (f n p) | inr s ↦ inr (s.0, f s.0 s.1, s.2) ]

-- histories that were handed the same notes leave equal contents
pub equal_history_content : (h k : History) → ((n : NoteParts) → Hands h n ↔ Hands k n) → content h ≡ content k
equal_history_content h k s =
    one_reduced (content h) (content k) (IsContent-content h) (IsContent-content k) (AreReduced-content h)
    (AreReduced-content k) (λ n. (
      λ i. (has-content k n).1 (known-same (Hands h) (Hands k) n (λ m. (s m).0) ((has-content h n).0 i)),
      λ i. (has-content h n).1 (known-same (Hands k) (Hands h) n (λ m. (s m).1) ((has-content k n).0 i)),
    ))

-- the head of a note that was handed adds nothing
pub head_adds_nothing : (h : History) (n : NoteParts) → Hands h n → content (Add h (head_note n)) ≡ content h
head_adds_nothing h n p =
    let there : has_note (content h) (head_note n) = (has-content h (head_note n)).1 (inr (n, p, refl)) in
    one_reduced (content (Add h (head_note n))) (content h) (IsContent-content (Add h (head_note n)))
    (IsContent-content h) (AreReduced-content (Add h (head_note n))) (AreReduced-content h) (λ m.
    let one = has-reduced_with m (head_note n) (content h) in (
      λ i. elim (one.0 i) [
        | inl e ↦ elim e [
          | inl q ↦ subst (has_note (content h)) (sym q) there
          | inr q ↦ subst (has_note (content h)) (sym (q ∙ head_note-once n)) there
        ]
        | inr j ↦ j
      ],
      λ j. one.1 (inr j),
    ))
