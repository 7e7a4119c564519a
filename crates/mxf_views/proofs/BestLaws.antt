-- The preferred copy of those seen so far.
use Rattle.mxf_views.proofs.Common.{◌≡◌, ◌<◌, ◌⊎◌, true, false, List, [], ◌∷◌, ◌++◌, Option, Some, None, refl, cond}
use Rattle.mxf_views.proofs.Common.{append_assoc, append-nil, subst, ◌∙◌, sym, inl, inr, arith, ℕ, ◌↔◌, ◌&&◌, is_some}
use Rattle.mxf_views.proofs.Common.{In, best_of, preferred_of, rank, better, is_candidate, IsBest, IsPreferred, In-end}
use Rattle.mxf_views.specs.declared.copy.CopyInfo.{CopyInfo}
use Rattle.mxf_views.specs.Copies.{is_above, IsNotAbove, IsCandidate}

candidate_says : (c : CopyInfo) (o : Option ℕ) → c.start ≡ o → is_some o ≡ true → c.prefaces ≡ 1 → IsCandidate c
candidate_says c None e h one = absurd cc
candidate_says c (Some s) e h one = record { start = s; begins = e; one = one }

pub candidate_iff : (c : CopyInfo) → (is_candidate c ≡ true) ↔ IsCandidate c
candidate_iff c = grind (arith, is_some, candidate_says)

above_says : (c b : CopyInfo) → is_above c (Some b) ≡ true
    → (rank b < rank c) ⊎ ((rank b ≡ rank c) × (b.partition < c.partition))
above_says c b e = grind (arith)

not_above_says : (c b : CopyInfo) → is_above c (Some b) ≡ false → IsNotAbove c b
not_above_says c b e = grind (arith)

through : (d b c : CopyInfo) → IsNotAbove d b → (rank b < rank c) ⊎
    ((rank b ≡ rank c) × (b.partition < c.partition)) → IsNotAbove d c
through d b c (inl p) (inl q) = inl (omega arith)
through d b c (inl p) (inr q) = let e = q.0 in inl (omega arith)
through d b c (inr p) (inl q) = let e = p.0 in inl (omega arith)
through d b c (inr p) (inr q) = inr (p.0 ∙ q.0, let x = p.1 in let y = q.1 in omega arith)

below_new : (seen : List CopyInfo) (best : Option CopyInfo) (c d : CopyInfo) → IsPreferred seen best
    → is_above c best ≡ true → In d seen → IsCandidate d → IsNotAbove d c
below_new seen None c d p a h k = absurd (p d h k)
below_new seen (Some b) c d p a h k = through d b c (p.best d h k) (above_says c b a)

pub best_takes : (seen : List CopyInfo) (best : Option CopyInfo) (c : CopyInfo) → IsPreferred seen best
    → is_candidate c ≡ true → is_above c best ≡ true → IsBest (seen ++ c ∷ []) c
best_takes seen best c p k a = grind (arith, In-end, candidate_iff, below_new)

pub best_keeps : (seen : List CopyInfo) (best : Option CopyInfo) (c : CopyInfo) → IsPreferred seen best
    → (is_candidate c ≡ false) ⊎ (is_above c best ≡ false) → IsPreferred (seen ++ c ∷ []) best
best_keeps seen None c p (inl k) = grind (arith, In-end, candidate_iff)
best_keeps seen None c p (inr a) = absurd cc
best_keeps seen (Some b) c p (inl k) = grind (arith, In-end, candidate_iff)
best_keeps seen (Some b) c p (inr a) = grind (arith, In-end, not_above_says)

best_after : (seen left : List CopyInfo) (best : Option CopyInfo) → IsPreferred seen best
    → IsPreferred (seen ++ left) (best_of best left)
best_after seen [] best p = subst (λ (l : List CopyInfo). IsPreferred l best) (sym (append-nil seen)) p
best_after seen (c ∷ left) best p =
    let more : IsPreferred (seen ++ c ∷ []) (better best c) =
    elim (is_candidate c) as (λ k. is_candidate c ≡ k
    → IsPreferred (seen ++ c ∷ []) (cond (k && is_above c best) (Some c) best)) [
      | true ↦ grind (arith, is_above, cond, best_takes, best_keeps)
      | false ↦ λ k. best_keeps seen best c p (inl k)
    ] refl in
    let whole = append_assoc seen (c ∷ []) left in
    subst (λ (l : List CopyInfo). IsPreferred l (best_of (better best c) left)) whole (best_after (seen
    ++ c ∷ []) left (better best c) more)

-- The preferred copy is a candidate that no candidate stands above.
pub preferred_is : (copies : List CopyInfo) → IsPreferred copies (preferred_of copies)
preferred_is copies = best_after [] copies None (λ d h t. h)

-- Two such are copies of one partition.
pub one_best : (copies : List CopyInfo) (a b : CopyInfo) → IsBest copies a → IsBest copies b → a.partition ≡ b.partition
one_best copies a b p q = grind (arith)
