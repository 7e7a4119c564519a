-- What a round takes, by the functions and by the relation.
use Rattle.mxf_views.proofs.Common.{◌≡◌, ◌∙◌, ◌↔◌, ◌<◌, ◌≤◌, ◌&&◌, ◌==◌, ◌++◌, ℕ, List, [], ◌∷◌}
use Rattle.mxf_views.proofs.Common.{None, Option, Some, Bool, true, false, ap, eq-eqb, eqb-true, inl, inr, map}
use Rattle.mxf_views.proofs.Common.{nat_lt, not, refl, subst, sym, and_from, and_parts, cond, filter}
use Rattle.mxf_views.proofs.Common.{lt-ltb, ltb-true, le-leb, leb-true, not-true-false, same_Some, NoteParts, In}
use Rattle.mxf_views.proofs.Common.{In-append, In-filter, In-flat_map, In-map, list_any-In, option_map_or}
use Rattle.mxf_views.proofs.Common.{IsContent, IsContent-filter, IsCover, end_of, covered_end}
use Rattle.mxf_klv.specs.NoteOrder.{note_total}
use Rattle.mxf_klv.specs.Rising.{not_less_itself}
use Rattle.mxf_places.specs.AtHand.{has_offsets}
use Rattle.mxf_places.specs.Heads.{heads_to, is_head_to, start_of}
use Rattle.mxf_places.proofs.AtHandLaws.{has_offsets-says}
use Rattle.mxf_restore.specs.Sections.{sections_of}
use Rattle.mxf_restore.specs.declared.section.Section.{Section}
use Rattle.mxf_restore.proofs.StartLaws.{head_says, start_says}
use Rattle.mxf_hand.specs.Hand.{HandBytes, is_value_at_hand, packet_of, read_heads, read_packets}
use Rattle.mxf_hand.specs.Heads.{fits, fitting}
use Rattle.mxf_hand.specs.Rounds.{heads_taken, is_crossed, is_taken, made_in, packets_in, read_heads_in, read_heads_of}
use Rattle.mxf_hand.specs.Rounds.{read_in, taken_in}
use Rattle.mxf_hand.specs.Sections.{ends_within, from_of, heads_of, made_of, made_of_head, only, packets_of}
use Rattle.mxf_hand.specs.Sections.{read_from}
use Rattle.mxf_hand.specs.Taken.{Fits, IsHeadRead, IsHeadTaken, IsMade, IsPacketRead, IsReadFrom}
use Rattle.mxf_hand.specs.Taken.{IsReadInRound, IsTaken, IsTheFit}
use Rattle.mxf_hand.specs.declared.found.CutHead.{CutHead}
use Rattle.mxf_hand.proofs.HandLaws.{at_fits, fits_at}

-- What is in the list of a value that there may be.
in_mapped : {A B : Type 0} (f : A → List B) (o : Option A) (y : B)
    → In y (option_map_or f o []) ↔ ((a : A) × (o ≡ Some a) × In y (f a))
in_mapped f None y = (λ h. absurd h, λ k. absurd cc)
in_mapped f (Some a) y = (λ h. (a, refl, h), λ k. subst (λ x. In y (f x)) (sym (same_Some _ _ k.1)) k.2)

ends_say : (end : Option ℕ) (n : NoteParts)
    → (ends_within end n ≡ true) ↔ ((e : ℕ) → end ≡ Some e → end_of n ≤ e)
ends_say None n = (λ t e is. absurd cc, λ f. refl)
ends_say (Some e) n = (
  λ t d is. subst (λ (k : ℕ). end_of n ≤ k) (same_Some e d is) (leb-true (end_of n) e t),
  λ f. le-leb (end_of n) e (f e refl),
)

module _ (h : HandBytes) (notes : List NoteParts) (content : IsContent notes) (p : Section) where
  -- The heads that fit are those of the list.
  fitting_says : (n : NoteParts) → In n (fitting h notes p.first) ↔ Fits h notes p n
  fitting_says n =
      let begins = λ (m : NoteParts). (m.offset == start_of notes p.first) && fits h m in
      let outer = In-filter begins (heads_to p.first notes) n in
      let inner = In-filter (is_head_to p.first) notes n in
      let says = head_says p.first n in
      let start = start_says notes content p.first n.offset in (
        λ i.
            let k = outer.0 i in
            let both = and_parts (n.offset == start_of notes p.first) (fits h n) k.1 in
            let m = inner.0 k.0 in
            let head = says.0 m.1 in record {
              start = start.0 (sym (eqb-true n.offset (start_of notes p.first) both.0));
              head = record { held = m.0; head = head.0; begins = refl; ends = head.1 };
              agrees = fits_at h n both.1;
            },
        λ f.
            let head = f.head in
            outer.1 (
              inner.1 (head.held, says.1 (head.head, head.ends)),
              and_from (n.offset == start_of notes p.first) (fits h n)
                  (eq-eqb n.offset (start_of notes p.first) (sym (start.1 f.start))) (at_fits h n f.agrees),
            ),
      )

  -- No note stands twice among them.
  fitting_rises : IsContent (fitting h notes p.first)
  fitting_rises =
      IsContent-filter (λ m. (m.offset == start_of notes p.first) && fits h m) (heads_to p.first notes)
      (IsContent-filter (is_head_to p.first) notes content)

  -- Exactly one head fits if the list has one.
  one_says : (n : NoteParts) → (fitting h notes p.first ≡ n ∷ []) ↔ IsTheFit h notes p n
  one_says n = (
    λ e.
        let says = λ (m : NoteParts). subst (λ (l : List NoteParts). In m l ↔ Fits h notes p m) e (fitting_says m) in
        record {
          fits = (says n).0 (inl refl);
          only = λ m f. elim ((says m).1 f) [ inl same ↦ same | inr none ↦ absurd none ];
        },
    λ one. alone (fitting h notes p.first) fitting_rises (λ m i. one.only m ((fitting_says m).0 i))
        ((fitting_says n).1 one.fits),
  )
    where
      alone : (l : List NoteParts) → IsContent l → ((m : NoteParts) → In m l → m ≡ n) → In n l → l ≡ n ∷ []
      alone [] rise all i = absurd i
      alone (x ∷ []) rise all i = ap (λ (y : NoteParts). y ∷ []) (all x (inl refl))
      alone (x ∷ y ∷ l) rise all i =
          let same : x ≡ y = all x (inl refl) ∙ sym (all y (inr (inl refl))) in
          absurd (not_less_itself note_total y (rw same at rise.0.0))

  none_says : (fitting h notes p.first ≡ []) ↔ ((n : NoteParts) → ¬ Fits h notes p n)
  none_says = (
    λ e n f. subst (λ (l : List NoteParts). In n l) e ((fitting_says n).1 f),
    λ none. empty (fitting h notes p.first) (λ n i. none n ((fitting_says n).0 i)),
  )
    where
      empty : (l : List NoteParts) → ((n : NoteParts) → In n l → ⊥) → l ≡ []
      empty [] f = refl
      empty (x ∷ l) f = absurd (f x (inl refl))

  -- Where the section is read from.
  from_says : (from : ℕ) → (from_of h notes p ≡ Some from) ↔ IsReadFrom h notes p from
  from_says from = (
    λ e. forth (fitting h notes p.first) refl e,
    λ r. elim r [
      | inl one ↦ ap (read_from (start_of notes p.first)) ((one_says one.0).1 one.1) ∙ ap Some (sym one.2)
      | inr none ↦ ap (read_from (start_of notes p.first)) (none_says.1 none.0)
          ∙ ap Some ((start_says notes content p.first from).1 none.1)
    ],
  )
    where
      forth : (l : List NoteParts) → fitting h notes p.first ≡ l → read_from (start_of notes p.first) l ≡ Some from
          → IsReadFrom h notes p from
      forth [] is e = inr (none_says.0 is, (start_says notes content p.first from).0 (same_Some _ _ e))
      forth (n ∷ []) is e = inl (n, (one_says n).0 is, sym (same_Some _ _ e))
      forth (n ∷ m ∷ l) is e = absurd cc

  packets_say : (n : NoteParts) → In n (packets_of h notes p) ↔ IsPacketRead h notes p n
  packets_say n =
      let mapped = in_mapped (read_packets h p.end) (from_of h notes p) n in (
        λ i. let k = mapped.0 i in (k.0, (from_says k.0).0 k.1, k.2),
        λ r. mapped.1 (r.0, (from_says r.0).1 r.1, r.2),
      )

  heads_say_read : (n : NoteParts) → In n (heads_of h notes p) ↔ IsHeadRead h notes p n
  heads_say_read n =
      let mapped = in_mapped (read_heads h p.end) (from_of h notes p) n in (
        λ i. let k = mapped.0 i in (k.0, (from_says k.0).0 k.1, k.2),
        λ r. mapped.1 (r.0, (from_says r.0).1 r.1, r.2),
      )

  only_says : (n : NoteParts) → (only (fitting h notes p.first) ≡ Some n) ↔ (fitting h notes p.first ≡ n ∷ [])
  only_says n = (forth (fitting h notes p.first), λ e. ap only e)
    where
      forth : (l : List NoteParts) → only l ≡ Some n → l ≡ n ∷ []
      forth [] e = absurd cc
      forth (x ∷ []) e = ap (λ (y : NoteParts). y ∷ []) (same_Some x n e)
      forth (x ∷ y ∷ l) e = absurd cc

  made_says : IsCover h.runs → (n : NoteParts) → In n (made_of h notes p) ↔ IsMade h notes p n
  made_says cover n =
      let mapped = in_mapped (made_of_head h p.hole.end) (only (fitting h notes p.first)) n in (
        λ i.
            let k = mapped.0 i in
            let head = k.0 in
            let one = (one_says head).0 ((only_says head).0 k.1) in
            let m = if_made head k.2 in
            let both = and_parts (is_value_at_hand h head) (ends_within p.hole.end head) m.0 in
            let value = (and_parts (not head.whole)
            (nat_lt 0 head.length && has_offsets h.runs (covered_end head) (end_of head)) both.0).1 in
            let parts = and_parts (nat_lt 0 head.length) (has_offsets h.runs (covered_end head) (end_of head)) value in
            record {
              head = head;
              one = one;
              some = ltb-true 0 head.length parts.0;
              value = (has_offsets-says h.runs (covered_end head) (end_of head) cover).0 parts.1;
              ends = (ends_say p.hole.end head).0 both.1;
              is = m.1;
            },
        λ r.
            let head = r.head in
            let whole : not head.whole ≡ true = ap not r.one.fits.head.head in
            let value = and_from (nat_lt 0 head.length) (has_offsets h.runs (covered_end head) (end_of head))
            (lt-ltb 0 head.length r.some) ((has_offsets-says h.runs (covered_end head) (end_of head) cover).1 r.value) in
            let at_hand = and_from (not head.whole)
            (nat_lt 0 head.length && has_offsets h.runs (covered_end head) (end_of head)) whole value in
            let all = and_from (is_value_at_hand h head) (ends_within p.hole.end head) at_hand
            ((ends_say p.hole.end head).1 r.ends) in
            mapped.1 (
              head,
              (only_says head).1 ((one_says head).1 r.one),
              made_if head all r.is,
            ),
      )
    where
      if_made : (head : NoteParts) → In n (made_of_head h p.hole.end head)
          → ((is_value_at_hand h head && ends_within p.hole.end head) ≡ true) × (n ≡ packet_of h head)
      if_made head i =
          elim (is_value_at_hand h head && ends_within p.hole.end head) as (λ b.
          (is_value_at_hand h head && ends_within p.hole.end head) ≡ b → In n (cond b (packet_of h head ∷ []) [])
          → ((is_value_at_hand h head && ends_within p.hole.end head) ≡ true) × (n ≡ packet_of h head)) [
            | true ↦ λ e k. (e, elim k [ inl same ↦ same | inr none ↦ absurd none ])
            | false ↦ λ e k. absurd k
          ] refl i

      made_if : (head : NoteParts) → (is_value_at_hand h head && ends_within p.hole.end head) ≡ true
          → n ≡ packet_of h head → In n (made_of_head h p.hole.end head)
      made_if head all is =
          subst (λ (b : Bool). In n (cond b (packet_of h head ∷ []) [])) (sym all) (inl is)

-- ---- all sections

module _ (h : HandBytes) (notes : List NoteParts) (content : IsContent notes) (cover : IsCover h.runs) where
  -- The heads that are read are those of sections.
  cut_says : (head : CutHead) → In head (read_heads_in h notes (sections_of notes))
      ↔ ((p : Section) × In p (sections_of notes) × In head.note (heads_of h notes p) × (head.hole_end ≡ p.hole.end))
  cut_says head = (
    λ i.
        let k = (In-flat_map (read_heads_of h notes) (sections_of notes) head).0 i in
        let m = (In-map (λ (n : NoteParts). record { note = n; hole_end = k.0.hole.end }) (heads_of h notes k.0) head).0
        k.2 in (
          k.0,
          k.1,
          subst (λ (c : CutHead). In c.note (heads_of h notes k.0)) (sym m.2) m.1,
          ap (λ (c : CutHead). c.hole_end) m.2,
        ),
    λ k. (In-flat_map (read_heads_of h notes) (sections_of notes) head).1 (
      k.0,
      k.1,
      (In-map (λ (n : NoteParts). record { note = n; hole_end = k.0.hole.end }) (heads_of h notes k.0) head).1
          (head.note, k.2, λ i. record { note = head.note; hole_end = k.3 i }),
    ),
  )

  read_says : (m : NoteParts) → In m (read_in h notes (sections_of notes)) ↔ IsReadInRound h notes m
  read_says m =
      let sections = sections_of notes in
      let both = In-append m (packets_in h notes sections)
      (map (λ (c : CutHead). c.note) (read_heads_in h notes sections)) in
      let packets = In-flat_map (packets_of h notes) sections m in
      let heads = In-map (λ (c : CutHead). c.note) (read_heads_in h notes sections) m in (
        λ i. elim (both.0 i) [
          | inl k ↦ (let q = packets.0 k in (q.0, q.1, inl ((packets_say h notes content q.0 m).0 q.2)))
          | inr k ↦ (
              let c = heads.0 k in
              let q = (cut_says c.0).0 c.1 in
              let there = subst (λ (n : NoteParts). In n (heads_of h notes q.0)) (sym c.2) q.2 in
              (q.0, q.1, inr ((heads_say_read h notes content q.0 m).0 there)))
        ],
        λ r. both.1 (elim r.2 [
          | inl k ↦ inl (packets.1 (r.0, r.1, (packets_say h notes content r.0 m).1 k))
          | inr k ↦ inr (heads.1 (
            record { note = m; hole_end = r.0.hole.end },
            (cut_says (record { note = m; hole_end = r.0.hole.end })).1
                (r.0, r.1, (heads_say_read h notes content r.0 m).1 k, refl),
            refl,
          ))
        ]),
      )

  crossed_says : (n : NoteParts) → (is_crossed (read_in h notes (sections_of notes)) n ≡ true)
      ↔ ((m : NoteParts) × IsReadInRound h notes m × (n.offset < m.offset) × (m.offset < end_of n))
  crossed_says n =
      let test = λ (m : NoteParts). nat_lt n.offset m.offset && nat_lt m.offset (end_of n) in
      let any = list_any-In test (read_in h notes (sections_of notes)) in (
        λ t.
            let k = any.0 t in
            let both = and_parts (nat_lt n.offset k.0.offset) (nat_lt k.0.offset (end_of n)) k.2 in (
              k.0,
              (read_says k.0).0 k.1,
              ltb-true n.offset k.0.offset both.0,
              ltb-true k.0.offset (end_of n) both.1,
            ),
        λ k. any.1 (
          k.0,
          (read_says k.0).1 k.1,
          and_from (nat_lt n.offset k.0.offset) (nat_lt k.0.offset (end_of n)) (lt-ltb n.offset k.0.offset k.2)
              (lt-ltb k.0.offset (end_of n) k.3),
        ),
      )

  free_says : (n : NoteParts) → (not (is_crossed (read_in h notes (sections_of notes)) n) ≡ true)
      ↔ ((m : NoteParts) → IsReadInRound h notes m → n.offset < m.offset → m.offset < end_of n → ⊥)
  free_says n =
      let crossed = is_crossed (read_in h notes (sections_of notes)) n in (
        λ t m r from to. not-true-false crossed t ((crossed_says n).1 (m, r, from, to)),
        λ f. elim crossed as (λ b. crossed ≡ b → not b ≡ true) [
          | true ↦ λ e. (let k = (crossed_says n).0 e in absurd (f k.0 k.1 k.2 k.3))
          | false ↦ λ e. refl
        ] refl,
      )

  taken_heads_say : (n : NoteParts) → In n (heads_taken h notes (sections_of notes))
      ↔ ((p : Section) × In p (sections_of notes) × IsHeadTaken h notes p n)
  taken_heads_say n =
      let sections = sections_of notes in
      let test = is_taken (read_in h notes sections) in
      let mapped = In-map (λ (c : CutHead). c.note) (filter test (read_heads_in h notes sections)) n in (
        λ i.
            let c = mapped.0 i in
            let kept = (In-filter test (read_heads_in h notes sections) c.0).0 c.1 in
            let q = (cut_says c.0).0 kept.0 in
            let both = and_parts (ends_within c.0.hole_end c.0.note) (not (is_crossed (read_in h notes sections) c.0.note))
            kept.1 in
            let ends : ends_within q.0.hole.end n ≡ true =
            subst (λ (m : NoteParts). ends_within q.0.hole.end m ≡ true) (sym c.2)
            (subst (λ (e : Option ℕ). ends_within e c.0.note ≡ true) q.3 both.0) in
            let free : not (is_crossed (read_in h notes sections) n) ≡ true =
            subst (λ (m : NoteParts). not (is_crossed (read_in h notes sections) m) ≡ true) (sym c.2) both.1 in
            let there = subst (λ (m : NoteParts). In m (heads_of h notes q.0)) (sym c.2) q.2 in (
              q.0,
              q.1,
              record {
                read = (heads_say_read h notes content q.0 n).0 there;
                ends = (ends_say q.0.hole.end n).0 ends;
                free = (free_says n).0 free;
              },
            ),
        λ r.
            let head : CutHead = record { note = n; hole_end = r.0.hole.end } in
            mapped.1 (
              head,
              (In-filter test (read_heads_in h notes sections) head).1 (
                (cut_says head).1 (r.0, r.1, (heads_say_read h notes content r.0 n).1 r.2.read, refl),
                and_from (ends_within r.0.hole.end n) (not (is_crossed (read_in h notes sections) n))
                    ((ends_say r.0.hole.end n).1 r.2.ends) ((free_says n).1 r.2.free),
              ),
              refl,
            ),
      )

  pub taken_says : (n : NoteParts) → In n (taken_in h notes (sections_of notes)) ↔ IsTaken h notes n
  taken_says n =
      let sections = sections_of notes in
      let outer = In-append n (packets_in h notes sections)
      (made_in h notes sections ++ heads_taken h notes sections) in
      let inner = In-append n (made_in h notes sections) (heads_taken h notes sections) in
      let packets = In-flat_map (packets_of h notes) sections n in
      let made = In-flat_map (made_of h notes) sections n in (
        λ i. elim (outer.0 i) [
          | inl k ↦ (let q = packets.0 k in (q.0, q.1, inl ((packets_say h notes content q.0 n).0 q.2)))
          | inr k ↦ elim (inner.0 k) [
            | inl m ↦ (let q = made.0 m in (q.0, q.1, inr (inl ((made_says h notes content q.0 cover n).0 q.2))))
            | inr m ↦ (let q = (taken_heads_say n).0 m in (q.0, q.1, inr (inr q.2)))
          ]
        ],
        λ t. outer.1 (elim t.2 [
          | inl k ↦ inl (packets.1 (t.0, t.1, (packets_say h notes content t.0 n).1 k))
          | inr k ↦ inr (inner.1 (elim k [
            | inl m ↦ inl (made.1 (t.0, t.1, (made_says h notes content t.0 cover n).1 m))
            | inr m ↦ inr ((taken_heads_say n).1 (t.0, t.1, m))
          ]))
        ]),
      )
