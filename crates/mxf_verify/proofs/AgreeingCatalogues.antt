-- A saved catalogue beside a reference, and the join of both.
use Rattle.mxf_views.proofs.Common.{◌≡◌, ◌↔◌, ◌+◌, ◌<◌, ◌≤◌, ◌∙◌, ℕ, IsTrue, List, [], ◌∷◌, cond, map, refl, sym}
use Rattle.mxf_views.proofs.Common.{ap, subst, inl, inr, arith, false≢true, IsCovered, covered_end, end_of, head_note}
use Rattle.mxf_views.proofs.Common.{NoteParts, In, In-map, AreReduced, IsCatalogue, has_note, reduced_union}
use Rattle.mxf_views.proofs.Common.{AreReduced-reduced_union, IsContent-reduced_union, has-reduced_union, one_reduced}
use Rattle.mxf_verify.specs.Comparing.{IsHeadOf, SharesHeldByte, is_head_of}
use Rattle.mxf_verify.specs.Opposing.{is_had}
use Rattle.mxf_readings.specs.Readings.{all_notes}
use Rattle.mxf_verify.specs.Verifications.{IsVerification, VerificationParts}
use Rattle.mxf_verify.specs.Verifying.{DiffersIn, IsByteOf, IsDiffering, IsHeldBy, Source, Saved}
use Rattle.mxf_verify.specs.VerificationLaws.{HasNoEmptyHead}
use Rattle.mxf_verify.proofs.ComparingLaws.{head-by_test, holds_first}
use Rattle.mxf_verify.proofs.CandidateLaws.{covered_by_size, front_within}
use Rattle.mxf_verify.proofs.KnownLaws.{or_not}
use Rattle.mxf_verify.proofs.OpposingLaws.{had-by_test, has_head}
use Rattle.mxf_verify.proofs.RangeLaws.{lies_or_not}
use Rattle.mxf_verify.proofs.WholeLaws.{count_none, no_runs, none_of, none_runs}

-- The reference has each note of the catalogue.
abbrev HasEach : List NoteParts → List NoteParts → Type 0
HasEach reference saved = (m : NoteParts) → In m saved → has_note reference m

-- joining a catalogue changes nothing exactly where each of its notes is had
joined_same : (reference saved : List NoteParts) → IsCatalogue reference → AreReduced reference
    → HasEach reference saved ↔ (reduced_union reference saved ≡ reference)
joined_same reference saved is red = (
  λ each. one_reduced (reduced_union reference saved) reference
      (IsContent-reduced_union reference saved is.content) is.content (AreReduced-reduced_union reference saved red) red
      (λ n.
      let u = has-reduced_union n reference saved in (
        λ h. elim (u.0 h) [
          | inl k ↦ k
          | inr k ↦ elim k [ inl i ↦ each n i | inr s ↦ has_head s.0 n reference (each s.0 s.1) s.2 ]
        ],
        λ h. u.1 (inl h),
      )),
  λ e m i. subst (λ l. has_note l m) e ((has-reduced_union m reference saved).1 (inr (inl i))),
)

-- what a head holds, its packet holds too
head_held : (w n : NoteParts) (at : ℕ) → head_note w ≡ n → IsCovered n at → IsCovered w at
head_held w n at e h = grind (arith, front_within, covered_by_size)

-- where each note is had, nothing differs and each byte is held
module _ (reference saved : List NoteParts) where
  none_differs : HasEach reference saved → (n : NoteParts) → ¬ DiffersIn reference n (Saved saved)
  none_differs each n d = d.2 (each d.0 d.1)

  all_held : HasEach reference saved → (at : ℕ) → IsHeldBy saved at → IsHeldBy reference at
  all_held each at h = grind (arith, head_held)

  module _ (none : (n : NoteParts) → In n reference → ¬ DiffersIn reference n (Saved saved))
      (held : (at : ℕ) → IsHeldBy saved at → IsHeldBy reference at) (heads : HasNoEmptyHead reference) where
    -- a note of the reference that shares a byte with one that it hasn't is the head of that
    head_there : (m n : NoteParts) → In m saved → ¬ has_note reference m → In n reference → SharesHeldByte m n
        → IsHeadOf n m
    head_there m n i lacks j shares =
        elim (or_not (is_head_of n m) (head-by_test n m)) [
          | inl head ↦ head
          | inr other ↦ absurd (none n j (
            m,
            i,
            lacks,
            record {
              differ = λ same. lacks (inl (subst (λ x. In x reference) (sym same) j));
              share = shares;
              no_head = λ h. lacks (inr (n, j, h.1));
              no_packet = other;
            },
          ))
        ]

    -- so it has each note
    each_had : HasEach reference saved
    each_had m i =
        elim (or_not (is_had m reference) (had-by_test m reference)) [ inl h ↦ h | inr f ↦ absurd (lacked m i f) ]
      where
        lacked : (m : NoteParts) → In m saved → ¬ has_note reference m → ⊥
        lacked m i lacks =
            let own = holds_first m in
            let here : IsCovered m m.offset = record { from = omega arith; before = omega arith } in
            let first = held m.offset (m, i, here) in
            let n = first.0 in
            let head = head_there m n i lacks first.1 (m.offset, here, first.2) in
            let same : head_note m ≡ n = head.1 in
            let whole : covered_end m ≡ end_of m = ap (λ b. cond b (end_of m) (m.offset + 16 + m.width)) head.0 in
            let length : m.length ≡ n.length = ap (λ (x : NoteParts). x.length) same in
            let no_whole : ¬ IsTrue n.whole = λ t. false≢true (ap (λ (x : NoteParts). x.whole) same ∙ t) in
            let some : 0 < n.length = heads n first.1 no_whole in
            let at = m.offset + 16 + m.width in
            let behind : IsCovered m at = record { from = omega arith; before = omega arith } in
            let second = held at (m, i, behind) in
            let other = head_there m second.0 i lacks second.1 (at, behind, second.2) in
            let below : IsCovered (head_note m) at = subst (λ x. IsCovered x at) (sym other.1) second.2 in
            let before : at + 1 ≤ m.offset + 16 + m.width = below.before in
            omega arith

-- All together have what one of them has.
had_by_all : (m : NoteParts) (contents : List (List NoteParts)) (c : List NoteParts) → In c contents → has_note c m
    → has_note (all_notes contents) m
had_by_all m [] c i h = absurd i
had_by_all m (d ∷ contents) c (inl e) h =
    (has-reduced_union m d (all_notes contents)).1 (inl (subst (λ l. has_note l m) e h))
had_by_all m (d ∷ contents) c (inr i) h =
    (has-reduced_union m d (all_notes contents)).1 (inr (had_by_all m contents c i h))

had_by_one : (m : NoteParts) (contents : List (List NoteParts)) → has_note (all_notes contents) m
    → (c : List NoteParts) × In c contents × has_note c m
had_by_one m [] (inl i) = absurd i
had_by_one m [] (inr s) = absurd s.1
had_by_one m (d ∷ contents) h =
    elim ((has-reduced_union m d (all_notes contents)).0 h) [
      | inl k ↦ (d, inl refl, k)
      | inr k ↦ let s = had_by_one m contents k in (s.0, inr s.1, s.2)
    ]

-- The reference has each note of all catalogues exactly where it has each of each.
module _ (reference : List NoteParts) (contents : List (List NoteParts)) where
  each_of_all : HasEach reference (all_notes contents) → (c : List NoteParts) → In c contents → HasEach reference c
  each_of_all each c i m j =
      elim (had_by_all m contents c i (inl j)) [
        | inl k ↦ each m k
        | inr s ↦ has_head s.0 m reference (each s.0 s.1) s.2
      ]

  all_of_each : ((c : List NoteParts) → In c contents → HasEach reference c) → HasEach reference (all_notes contents)
  all_of_each each m i =
      let s = had_by_one m contents (inl i) in
      elim s.2 [ inl k ↦ each s.0 s.1 m k | inr h ↦ has_head h.0 m reference (each s.0 s.1 h.0 h.1) h.2 ]

module _ (reference : List NoteParts) (contents : List (List NoteParts)) (v : VerificationParts)
    (told : IsVerification reference (map Saved contents) v) where
  saved_source : (s : Source) → In s (map Saved contents) → (c : List NoteParts) × In c contents × (s ≡ Saved c)
  saved_source s i = (In-map Saved contents s).0 i

  source_saved : (c : List NoteParts) → In c contents → In (Saved c) (map Saved contents)
  source_saved c i = (In-map Saved contents (Saved c)).1 (c, i, refl)

  -- of those that say nothing else each note is had
  each_told : HasNoEmptyHead reference → v.damaged ≡ 0 → v.unknown ≡ [] → (c : List NoteParts) → In c contents
      → HasEach reference c
  each_told heads none known c i = each_had reference c
      (λ n j d. none_of reference (IsDiffering reference (map Saved contents)) v.damaged told.damaged none n j
      (Saved c, source_saved c i, d))
      (λ at h. elim (lies_or_not v.held at) [
        | inl l ↦ (told.held.offsets at).0 l
        | inr f ↦ absurd (no_runs _ v.unknown told.unknown known at
            ((Saved c, source_saved c i, h), λ k. f ((told.held.offsets at).1 k)))
      ])
      heads

  -- and where each is had, nothing differs and nothing is unknown
  told_nothing : ((c : List NoteParts) → In c contents → HasEach reference c) → (v.damaged ≡ 0) × (v.unknown ≡ [])
  told_nothing each = (
    count_none reference (IsDiffering reference (map Saved contents)) v.damaged told.damaged (λ n i d.
        let s = saved_source d.0 d.1 in
        none_differs reference s.0 (each s.0 s.1) n (subst (DiffersIn reference n) s.2 d.2)),
    none_runs v.unknown told.unknown.maximal (λ at l.
        let u = (told.unknown.offsets at).0 l in
        let s = saved_source u.0.0 u.0.1 in
        u.1 (all_held reference s.0 (each s.0 s.1) at (subst (λ x. IsByteOf x at) s.2 u.0.2))),
  )

pub agrees_joined : (reference : List NoteParts) (contents : List (List NoteParts)) (v : VerificationParts)
    → IsCatalogue reference → AreReduced reference → HasNoEmptyHead reference
    → IsVerification reference (map Saved contents) v
    → ((v.damaged ≡ 0) × (v.unknown ≡ [])) ↔ (reduced_union reference (all_notes contents) ≡ reference)
agrees_joined reference contents v is red heads told =
    let joined = joined_same reference (all_notes contents) is red in (
      λ h. joined.0 (all_of_each reference contents (each_told reference contents v told heads h.0 h.1)),
      λ e. told_nothing reference contents v told (each_of_all reference contents (joined.1 e)),
    )
