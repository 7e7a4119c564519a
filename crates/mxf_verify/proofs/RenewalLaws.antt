-- What a renewed content has, and what is dropped.
use Rattle.mxf_views.proofs.Common.{sym, ◌∙◌, ap, subst, inl, inr, and_from, and_parts, NoteParts, head_note, In}
use Rattle.mxf_views.proofs.Common.{AreReduced, IsContent, IsLocated, has_note, reduced_union, In-filter, filter_all}
use Rattle.mxf_views.proofs.Common.{filter_none, not_true, not-true-false, IsContent-filter, AreReduced-reduced_union}
use Rattle.mxf_views.proofs.Common.{In-located, IsContent-reduced_union, has-reduced_union, one_reduced}
use Rattle.mxf_views.proofs.Common.{reduced_union-none, same_note}
use Rattle.std.specs.Prelude.{◌≡◌, ◌↔◌, ◌⊎◌, not, ◌&&◌, List, [], refl}
use Rattle.mxf_catalogue.specs.Reduced.{IsKnown}
use Rattle.mxf_catalogue.proofs.HeadLaws.{AreReduced-part}
use Rattle.mxf_verify.specs.Comparing.{SharesHeldByte}
use Rattle.mxf_verify.specs.Opposing.{IsContradicted, is_contradicted, is_had, is_opposed}
use Rattle.mxf_verify.specs.Renewing.{IsDropped, IsKept, added_of, dropped_of, kept_of, renewed_of}
use Rattle.mxf_verify.proofs.KnownLaws.{or_not}
use Rattle.mxf_verify.proofs.OpposingLaws.{contradicted-by_test, had-by_test, has_head, opposed-by_test}

-- ---- what is had and what is contradicted

had_or_not : (n : NoteParts) (notes : List NoteParts) → has_note notes n ⊎ (has_note notes n → ⊥)
had_or_not n notes = or_not (is_had n notes) (had-by_test n notes)

contradicted_or_not : (n : NoteParts) (notes : List NoteParts) → IsContradicted n notes ⊎ (IsContradicted n notes → ⊥)
contradicted_or_not n notes = or_not (is_contradicted n notes) (contradicted-by_test n notes)

-- ---- what is dropped and kept

pub In-dropped : (n : NoteParts) (old new : List NoteParts) → In n (dropped_of old new) ↔ IsDropped old new n
In-dropped n old new =
    let f = In-filter (λ m. is_opposed m new) old n in
    let o = opposed-by_test n new in (
      λ h.
          let p = f.0 h in
          let q = o.0 p.1 in record { held = p.0; lacked = q.lacked; contradicted = q.contradicted },
      λ d. f.1 (d.held, o.1 (record { lacked = d.lacked; contradicted = d.contradicted })),
    )

pub In-kept : (n : NoteParts) (old new : List NoteParts) → In n (kept_of old new) ↔ IsKept old new n
In-kept n old new =
    let f = In-filter (λ m. not (is_contradicted m new)) old n in
    let d = contradicted-by_test n new in (
      λ h.
          let p = f.0 h in
          record { held = p.0; free = λ c. not-true-false (is_contradicted n new) p.1 (d.1 c) },
      λ k. f.1 (k.held, not_true (is_contradicted n new) (λ t. k.free (d.0 t))),
    )

pub IsContent-dropped : (old new : List NoteParts) → IsContent old → IsContent (dropped_of old new)
IsContent-dropped old new r = IsContent-filter (λ n. is_opposed n new) old r

-- ---- what the renewed content has

has-renewed : (n : NoteParts) (old new : List NoteParts)
    → has_note (renewed_of old new) n ↔ has_note new n ⊎ has_note (kept_of old new) n
has-renewed n old new = has-reduced_union n new (kept_of old new)

pub IsContent-renewed : (old new : List NoteParts) → IsContent new → IsContent (renewed_of old new)
IsContent-renewed old new r = IsContent-reduced_union new (kept_of old new) r

pub AreReduced-renewed : (old new : List NoteParts) → AreReduced new → AreReduced (renewed_of old new)
AreReduced-renewed old new p = AreReduced-reduced_union new (kept_of old new) p

known-renewed : (n : NoteParts) (old new : List NoteParts)
    → has_note (renewed_of old new) n ↔ IsKnown head_note (λ m. In m new ⊎ IsKept old new m) n
known-renewed n old new =
    let r = has-renewed n old new in (
      λ h. elim (r.0 h) [
        | inl a ↦ elim a [ inl i ↦ inl (inl i) | inr s ↦ inr (s.0, inl s.1, s.2) ]
        | inr b ↦ elim b [
          | inl i ↦ inl (inr ((In-kept n old new).0 i))
          | inr s ↦ inr (s.0, inr ((In-kept s.0 old new).0 s.1), s.2)
        ]
      ],
      λ h. r.1 (elim h [
        | inl k ↦ elim k [ inl i ↦ inl (inl i) | inr p ↦ inr (inl ((In-kept n old new).1 p)) ]
        | inr s ↦ elim s.1 [ inl i ↦ inl (inr (s.0, i, s.2)) | inr p ↦ inr (inr (s.0, (In-kept s.0 old new).1 p, s.2)) ]
      ]),
    )

pub In-renewed : (n : NoteParts) (old new : List NoteParts) → AreReduced new
    → In n (renewed_of old new) ↔ IsLocated (λ m. In m new ⊎ IsKept old new m) n
In-renewed n old new p =
    In-located (λ m. In m new ⊎ IsKept old new m) (renewed_of old new) (AreReduced-renewed old new p)
    (λ m. known-renewed m old new) n

-- ---- laws

pub new-had : (n : NoteParts) (old new : List NoteParts) → In n new → has_note (renewed_of old new) n
new-had n old new i = (has-renewed n old new).1 (inl (inl i))

pub stayed-free : (n : NoteParts) (old new : List NoteParts) → AreReduced new → In n (renewed_of old new)
    → (has_note new n → ⊥) → IsContradicted n new → ⊥
stayed-free n old new p i lacked c = elim ((In-renewed n old new p).0 i).0 [ inl k ↦ lacked (inl k) | inr k ↦ k.free c ]

kept-had : (n : NoteParts) (old new : List NoteParts) → In n old → (IsContradicted n new → ⊥)
    → has_note (renewed_of old new) n
kept-had n old new i f = (has-renewed n old new).1 (inr (inl ((In-kept n old new).1 (record { held = i; free = f }))))

pub untouched-had : (n : NoteParts) (old new : List NoteParts) → In n old
    → ((m : NoteParts) → In m new → SharesHeldByte m n → ⊥) → has_note (renewed_of old new) n
untouched-had n old new i f = kept-had n old new i (λ c. f c.0 c.1 c.2.share)

pub had_or_dropped : (n : NoteParts) (old new : List NoteParts) → In n old
    → has_note (renewed_of old new) n ⊎ IsDropped old new n
had_or_dropped n old new i =
    elim (had_or_not n new) [
      | inl h ↦ inl ((has-renewed n old new).1 (inl h))
      | inr l ↦ elim (contradicted_or_not n new) [
        | inl c ↦ inr (record { held = i; lacked = l; contradicted = c })
        | inr f ↦ inl (kept-had n old new i f)
      ]
    ]

pub dropped-not_had : (n : NoteParts) (old new : List NoteParts) → AreReduced old → has_note (renewed_of old new) n
    → IsDropped old new n → ⊥
dropped-not_had n old new r h d =
    elim ((has-renewed n old new).0 h) [
      | inl k ↦ d.lacked k
      | inr k ↦ elim k [
        | inl i ↦ ((In-kept n old new).0 i).free d.contradicted
        | inr s ↦ let p = (In-kept s.0 old new).0 s.1 in
            elim (same_note s.0 n) [
              | inl e ↦ p.free (subst (λ m. IsContradicted m new) (sym e) d.contradicted)
              | inr ne ↦ r n d.held (s.0, p.held, ne, s.2)
            ]
      ]
    ]

has-all : (n : NoteParts) (old new : List NoteParts) → dropped_of old new ≡ [] → has_note old n
    → has_note (renewed_of old new) n
has-all n old new e h =
    let each = λ (m : NoteParts) (i : In m old). elim (had_or_dropped m old new i) as (λ _. has_note
    (renewed_of old new) m) [ inl k ↦ k | inr d ↦ absurd (subst (λ l. In m l) e ((In-dropped m old new).1 d)) ] in
    elim h [ inl i ↦ each n i | inr s ↦ has_head s.0 n (renewed_of old new) (each s.0 s.1) s.2 ]

kept-old : (n : NoteParts) (old new : List NoteParts) → has_note (kept_of old new) n → has_note old n
kept-old n old new h = elim h [
  | inl i ↦ inl ((In-kept n old new).0 i).held
  | inr s ↦ inr (s.0, ((In-kept s.0 old new).0 s.1).held, s.2)
]

pub joined-renewed : (old new : List NoteParts) → IsContent old → AreReduced old → IsContent new → AreReduced new
    → dropped_of old new ≡ [] → renewed_of old new ≡ reduced_union old new
joined-renewed old new r p s q e =
    one_reduced (renewed_of old new) (reduced_union old new) (IsContent-renewed old new s)
    (IsContent-reduced_union old new r) (AreReduced-renewed old new q) (AreReduced-reduced_union old new p) (λ n.
    let a = has-renewed n old new in
    let b = has-reduced_union n old new in (
      λ h. b.1 (elim (a.0 h) [ inl k ↦ inr k | inr k ↦ inl (kept-old n old new k) ]),
      λ h. elim (b.0 h) [ inl k ↦ has-all n old new e k | inr k ↦ a.1 (inl k) ],
    ))

-- what stayed stays again
stayed-again : (n : NoteParts) (old new : List NoteParts) → AreReduced new → In n (renewed_of old new)
    → has_note (renewed_of (renewed_of old new) new) n
stayed-again n old new q i =
    elim (had_or_not n new) [
      | inl h ↦ (has-renewed n (renewed_of old new) new).1 (inl h)
      | inr l ↦ kept-had n (renewed_of old new) new i (stayed-free n old new q i l)
    ]

pub renewed-again : (old new : List NoteParts) → IsContent new → AreReduced new
    → renewed_of (renewed_of old new) new ≡ renewed_of old new
renewed-again old new s q =
    let once = renewed_of old new in
    one_reduced (renewed_of once new) once (IsContent-renewed once new s) (IsContent-renewed old new s)
    (AreReduced-renewed once new q) (AreReduced-renewed old new q) (λ n. (
      λ h. elim ((has-renewed n once new).0 h) [
        | inl k ↦ (has-renewed n old new).1 (inl k)
        | inr k ↦ kept-old n once new k
      ],
      λ h. elim h [
        | inl i ↦ stayed-again n old new q i
        | inr k ↦ has_head k.0 n (renewed_of once new) (stayed-again k.0 old new q k.1) k.2
      ],
    ))

pub none-again : (old new : List NoteParts) → AreReduced new → dropped_of (renewed_of old new) new ≡ []
none-again old new q = filter_none (λ n. is_opposed n new) (renewed_of old new) (λ n i t.
    let o = (opposed-by_test n new).0 t in stayed-free n old new q i o.lacked o.contradicted)

pub renewed-by_nothing : (old : List NoteParts) → IsContent old → AreReduced old → renewed_of old [] ≡ old
renewed-by_nothing old r p =
    ap (λ l. reduced_union [] l) (filter_all (λ n. not (is_contradicted n [])) old (λ n i. refl))
    ∙ reduced_union-none old r p

-- ---- what is added

In-added : (n : NoteParts) (old new : List NoteParts)
    → In n (added_of old new) ↔ (In n old × (has_note new n → ⊥) × (IsContradicted n new → ⊥))
In-added n old new =
    let f = In-filter (λ m. not (is_had m new) && not (is_contradicted m new)) old n in
    let h = had-by_test n new in
    let c = contradicted-by_test n new in (
      λ i.
          let p = f.0 i in
          let q = and_parts (not (is_had n new)) (not (is_contradicted n new)) p.1 in (
            p.0,
            (λ k. not-true-false (is_had n new) q.0 (h.1 k)),
            (λ k. not-true-false (is_contradicted n new) q.1 (c.1 k)),
          ),
      λ s. f.1 (
        s.0,
        and_from _ _ (not_true (is_had n new) (λ t. s.1 (h.0 t))) (not_true (is_contradicted n new) (λ t. s.2 (c.0 t))),
      ),
    )

pub renewed-by_added : (old new : List NoteParts) → IsContent new → AreReduced new
    → reduced_union new (added_of old new) ≡ renewed_of old new
renewed-by_added old new s q =
    let all = reduced_union new (added_of old new) in
    let has-all = λ (n : NoteParts). has-reduced_union n new (added_of old new) in
    let each = λ (n : NoteParts) (i : In n (kept_of old new)).
    let k = (In-kept n old new).0 i in
    elim (had_or_not n new) as (λ _. has_note all n) [
      | inl h ↦ (has-all n).1 (inl h)
      | inr l ↦ (has-all n).1 (inr (inl ((In-added n old new).1 (k.held, l, k.free))))
    ] in
    one_reduced all (renewed_of old new) (IsContent-reduced_union new (added_of old new) s)
    (IsContent-renewed old new s)
    (AreReduced-reduced_union new (added_of old new) q) (AreReduced-renewed old new q) (λ n. (
      λ h. elim ((has-all n).0 h) [
        | inl k ↦ (has-renewed n old new).1 (inl k)
        | inr k ↦ elim k [
          | inl i ↦ let a = (In-added n old new).0 i in kept-had n old new a.0 a.2
          | inr t ↦ let a = (In-added t.0 old new).0 t.1 in
              has_head t.0 n (renewed_of old new) (kept-had t.0 old new a.0 a.2) t.2
        ]
      ],
      λ h. elim ((has-renewed n old new).0 h) [
        | inl k ↦ (has-all n).1 (inl k)
        | inr k ↦ elim k [ inl i ↦ each n i | inr t ↦ has_head t.0 n all (each t.0 t.1) t.2 ]
      ],
    ))

pub added-none : (old new : List NoteParts) → IsContent old → AreReduced old
    → reduced_union [] (added_of old new) ≡ added_of old new
added-none old new r p = reduced_union-none (added_of old new)
    (IsContent-filter (λ n. not (is_had n new) && not (is_contradicted n new)) old r)
    (AreReduced-part (added_of old new) old (λ n i. ((In-added n old new).0 i).0) p)
