-- The heads of packets that were read, among disputed notes.
use Rattle.mxf_klv.proofs.Common.{◌≡◌, ◌≢◌, ◌↔◌, ◌⊎◌, Bool, true, false, not, List, [], ◌∷◌, ◌++◌, refl, sym, ap}
use Rattle.mxf_klv.proofs.Common.{subst, ◌∙◌, inl, inr, filter, NoteParts, In, and_from, and_parts, cond, head_note}
use Rattle.mxf_klv.proofs.Lists.{In-append, In-filter, In-map, filter_all}
use Rattle.mxf_klv.proofs.Tests.{not_true, not-true-false}
use Rattle.std.specs.Str.{bytes_eq}
use Rattle.mxf_catalogue.specs.Content.{AreReduced, IsContent, has_note, reduced_union, reduced_with}
use Rattle.mxf_catalogue.specs.Disputes.{DisputedParts, disputed_notes, is_disputed}
use Rattle.mxf_catalogue.proofs.DisputeLaws.{In-disputed_notes, SharesByte-same_offset, is_disputed-IsDisputed}
use Rattle.mxf_catalogue.proofs.DisputeLaws.{notes-disputed_notes}
use Rattle.mxf_catalogue.proofs.HeadLaws.{has-reduced_with, reduced_union-none}
use Rattle.mxf_skim.specs.PassedOver.{is_of_container, is_passed_over, no_digest, was_read}
use Rattle.mxf_skim.specs.Preferring.{AreHeadsRead, IsReadIn, is_outread, is_read_in, prefer_read}
use Rattle.mxf_skim.proofs.PreferringLaws.{IsContent-prefer_read, is_read_in-IsReadIn}

-- It is the head of one of the disputed notes, which was read.
abbrev pub IsHeadRead : List DisputedParts → NoteParts → Type 0
IsHeadRead disputed h =
    (d : DisputedParts) × In d disputed × (was_read d.note ≡ true) × (h ≡ head_note d.note)

-- no note was looked at
pub heads_begin : (read : List NoteParts) (left all : List DisputedParts) (h : NoteParts) → read ≡ [] → left ≡ all
    → (has_note read h ⊎ IsHeadRead left h) ↔ IsHeadRead all h
heads_begin read left all h none same = (
  λ k. elim k [
    | inl a ↦
        elim (subst (λ (l : List NoteParts). has_note l h) none a) [ inl i ↦ absurd i | inr s ↦ absurd s.1 ]
    | inr s ↦ subst (λ (l : List DisputedParts). IsHeadRead l h) same s
  ],
  λ k. inr (subst (λ (l : List DisputedParts). IsHeadRead l h) (sym same) k),
)

-- one more was
pub heads_on : (read new : List NoteParts) (d : DisputedParts) (n : NoteParts) (left more : List DisputedParts)
    (h : NoteParts) → d.note ≡ n
    → (has_note new h ↔ (has_note read h ⊎ ((was_read n ≡ true) × (h ≡ head_note n)))) → left ≡ d ∷ more
    → (has_note new h ⊎ IsHeadRead more h) ↔ (has_note read h ⊎ IsHeadRead left h)
heads_on read new d n left more h of_it added is = (
  λ k. elim k [
    | inl a ↦ elim (added.0 a) [
      | inl b ↦ inl b
      | inr b ↦ inr (
        d,
        subst (In d) (sym is) (inl refl),
        subst (λ (m : NoteParts). was_read m ≡ true) (sym of_it) b.0,
        b.1 ∙ ap head_note (sym of_it),
      )
    ]
    | inr s ↦ inr (s.0, subst (In s.0) (sym is) (inr s.1), s.2, s.3)
  ],
  λ k. elim k [
    | inl a ↦ inl (added.1 (inl a))
    | inr s ↦ elim (subst (In s.0) is s.1) [
      | inl p ↦ inl (added.1 (inr (
        subst (λ (m : NoteParts). was_read m ≡ true) (ap (λ (c : DisputedParts). c.note) p ∙ of_it) s.2,
        s.3 ∙ ap head_note (ap (λ (c : DisputedParts). c.note) p ∙ of_it),
      )))
      | inr i ↦ inr (s.0, i, s.2, s.3)
    ]
  ],
)

-- the head of a packet comes to the heads
pub head_added : (read new : List NoteParts) (n h : NoteParts) → new ≡ reduced_with (head_note n) read
    → was_read n ≡ true
    → has_note new h ↔ (has_note read h ⊎ ((was_read n ≡ true) × (h ≡ head_note n)))
head_added read new n h e read_it =
    let w = has-reduced_with h (head_note n) read in (
      λ k. elim (w.0 (subst (λ (l : List NoteParts). has_note l h) e k)) [
        | inl b ↦ inr (read_it, elim b [ inl p ↦ p | inr p ↦ p ])
        | inr b ↦ inl b
      ],
      λ k. subst (λ (l : List NoteParts). has_note l h) (sym e) (w.1 (elim k [
        | inl b ↦ inr b
        | inr b ↦ inl (inl b.1)
      ])),
    )

-- all disputed notes were looked at
pub heads_found : (notes read : List NoteParts)
    → ((h : NoteParts) → (has_note read h ⊎ IsHeadRead [] h) ↔ IsHeadRead (disputed_notes notes) h)
    → AreHeadsRead notes read
heads_found notes read all h =
    let a = all h in (
      λ k.
          let s = a.0 (inl k) in
          let d = (In-disputed_notes s.0 notes).0 s.1 in (s.0.note, d.held, d.disputed, s.2, s.3),
      λ k.
          let there : In k.0 (filter (λ n. is_disputed n notes) notes) =
          (In-filter (λ n. is_disputed n notes) notes k.0).1 (k.1, (is_disputed-IsDisputed k.0 notes).1 k.2) in
          let m = (In-map (λ d. d.note) (disputed_notes notes) k.0).0
          (subst (In k.0) (sym (notes-disputed_notes notes)) there) in
          let same : k.0 ≡ m.0.note = m.2 in
          elim (a.1 (m.0, m.1, subst (λ (n : NoteParts). was_read n ≡ true) same k.3, k.4 ∙ ap head_note same)) [
            | inl b ↦ b
            | inr s ↦ absurd s.1
          ],
    )

-- a note that was passed over isn't one that was read
pub two_notes : (n m : NoteParts) → is_passed_over n ≡ true → was_read m ≡ true → n ≢ m
two_notes n m passed read same =
    let p = and_parts (is_of_container n) (bytes_eq n.held no_digest) passed in
    let q = and_parts (is_of_container m) (not (bytes_eq m.held no_digest)) read in
    not-true-false (bytes_eq m.held no_digest) q.1 (sym (ap (λ (x : NoteParts). bytes_eq x.held no_digest) same) ∙ p.1)

-- another reading of a packet of the notes that was passed over is found among the heads
pub read_in_heads : (notes heads : List NoteParts) (n : NoteParts) → AreHeadsRead notes heads → In n notes
    → is_passed_over n ≡ true → IsReadIn n notes ↔ has_note heads (head_note n)
read_in_heads notes heads n are there passed =
    let a = are (head_note n) in (
      λ r. a.1 (
        r.other,
        r.held,
        (
          n,
          there,
          two_notes n r.other passed r.read,
          SharesByte-same_offset n r.other (ap (λ (x : NoteParts). x.offset) (sym r.same)),
        ),
        r.read,
        sym r.same,
      ),
      λ h. let k = a.0 h in record { other = k.0; held = k.1; read = k.3; same = sym k.4 },
    )

-- nothing gives way where nothing was read
pub all_preferred : (notes heads : List NoteParts) → AreHeadsRead notes heads → heads ≡ [] → notes ≡ prefer_read notes
all_preferred notes heads are none =
    sym (filter_all (λ n. not (is_outread notes n)) notes (λ n there.
    not_true (is_outread notes n) (λ e.
    let p = and_parts (is_passed_over n) (is_read_in n notes) e in
    let h = (read_in_heads notes heads n are there p.0).0 ((is_read_in-IsReadIn n notes).0 p.1) in
    elim (subst (λ (l : List NoteParts). has_note l (head_note n)) none h) [ inl i ↦ i | inr s ↦ s.1 ])))

-- what is kept is a content
pub kept_all : (notes : List NoteParts) → IsContent notes → AreReduced notes
    → reduced_union [] (prefer_read notes) ≡ prefer_read notes
kept_all notes content reduced =
    reduced_union-none (prefer_read notes) (IsContent-prefer_read notes content)
    (λ x i k.
    let f = λ (z : NoteParts). In-filter (λ m. not (is_outread notes m)) notes z in
    reduced x ((f x).0 i).0 (k.0, ((f k.0).0 k.1).0, k.2, k.3))

-- one more note was looked at
pub kept_on : (notes heads kept new left more done : List NoteParts) (n : NoteParts) → AreHeadsRead notes heads
    → notes ≡ done ++ left → left ≡ n ∷ more
    → (is_passed_over n ≡ true → has_note heads (head_note n) → new ≡ kept)
    → ((is_passed_over n ≡ true → has_note heads (head_note n) → ⊥) → new ≡ reduced_with n kept)
    → reduced_union new (filter (λ m. not (is_outread notes m)) more)
    ≡ reduced_union kept (filter (λ m. not (is_outread notes m)) left)
kept_on notes heads kept new left more done n are whole is gone stays =
    let there : In n notes =
    subst (In n) (sym (whole ∙ ap (λ (l : List NoteParts). done ++ l) is)) ((In-append n done (n ∷ more)).1 (inr
    (inl refl))) in
    let p = λ (m : NoteParts). not (is_outread notes m) in
    elim (is_outread notes n) as (λ b. is_outread notes n ≡ b
    → reduced_union new (filter p more) ≡ reduced_union kept (filter p left)) [
      | true ↦ λ e.
          let t = and_parts (is_passed_over n) (is_read_in n notes) e in
          let h = (read_in_heads notes heads n are there t.0).0 ((is_read_in-IsReadIn n notes).0 t.1) in
          ap (λ (k : List NoteParts). reduced_union k (filter p more)) (gone t.0 h)
          ∙ ap (λ (b : Bool). reduced_union kept (cond (not b) (n ∷ filter p more) (filter p more))) (sym e)
          ∙ ap (λ (l : List NoteParts). reduced_union kept (filter p l)) (sym is)
      | false ↦ λ e.
          let lacks = λ (q : is_passed_over n ≡ true) (h : has_note heads (head_note n)).
          let r = (is_read_in-IsReadIn n notes).1 ((read_in_heads notes heads n are there q).1 h) in
          let t = and_from (is_passed_over n) (is_read_in n notes) q r in
          absurd (cc (t, e)) in
          ap (λ (k : List NoteParts). reduced_union k (filter p more)) (stays lacks)
          ∙ ap (λ (b : Bool). reduced_union kept (cond (not b) (n ∷ filter p more) (filter p more))) (sym e)
          ∙ ap (λ (l : List NoteParts). reduced_union kept (filter p l)) (sym is)
    ] refl

pub kept_begin : (notes kept left : List NoteParts) → kept ≡ [] → left ≡ notes
    → reduced_union kept (filter (λ n. not (is_outread notes n)) left) ≡ reduced_union [] (prefer_read notes)
kept_begin notes kept left none same =
    ap (λ (k : List NoteParts). reduced_union k (filter (λ n. not (is_outread notes n)) left)) none
    ∙ ap (λ (l : List NoteParts). reduced_union [] (filter (λ n. not (is_outread notes n)) l)) same

pub kept_end : (notes kept left : List NoteParts) → left ≡ []
    → reduced_union kept (filter (λ n. not (is_outread notes n)) left) ≡ reduced_union [] (prefer_read notes)
    → IsContent notes → AreReduced notes → kept ≡ prefer_read notes
kept_end notes kept left none all content reduced =
    sym (ap (λ (l : List NoteParts). reduced_union kept (filter (λ n. not (is_outread notes n)) l)) none)
    ∙ all ∙ kept_all notes content reduced
