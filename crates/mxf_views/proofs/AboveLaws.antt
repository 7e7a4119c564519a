-- A content and notes that begin where it ends, or above: the clear notes of both are those of the one and then those
-- of the other.
use Rattle.mxf_views.proofs.Common.{◌≡◌, ℕ, ◌+◌, ◌-◌, ◌≤◌, ◌⊎◌, Bool, cond, List, [], ◌∷◌, ◌++◌, sym, ap, subst, ◌∙◌}
use Rattle.mxf_views.proofs.Common.{inl, inr, arith, leb-true, le-leb, ◌↔◌, nat_le, count_by, and_from, and_parts}
use Rattle.mxf_views.proofs.Common.{NoteParts, IsNote, end_of, In, AreReduced, IsCatalogue, IsContent, union_of, LiesIn}
use Rattle.mxf_views.proofs.Common.{IsClear, clear_notes, lies_in, same_content, In-clear_notes, IsContent-clear_notes}
use Rattle.mxf_views.proofs.Common.{zone_of, Option, filter_map, kept_among, MeetAt, clear_from, all-In, In-append}
use Rattle.mxf_views.proofs.Common.{same_bool, filter-append, reduced_union, Covers, In-union_of, IsContent-union_of}
use Rattle.mxf_views.proofs.Common.{filter_none, filter_all, covers_first, reduced_with, IsUnionAt, reduced_union-none}
use Rattle.mxf_views.proofs.Common.{filter_alike, filter_map-append}
use Rattle.mxf_catalogue.specs.declared.run.Run.{Run}
use Rattle.mxf_catalogue.proofs.HeadLaws.{reduced-same, reduced_union-is}
use Rattle.mxf_catalogue.proofs.ClearLaws.{clear_in_union, contents_append}

-- ---- the clear notes

module _ (b : ℕ) (own other : List NoteParts) (m : MeetAt b own other) where
  nothing_shared : (x y : NoteParts) → In x own → In y other → (o : ℕ) → x.offset ≤ o → o + 1 ≤ end_of x
      → y.offset ≤ o → ⊥
  nothing_shared x y h k o from before low =
      let e : end_of x ≤ b = m.ends x h in
      let g : b ≤ y.offset = m.begins y k in omega (arith, e, g, before, low)

  pub clear_in_both : (n : NoteParts) → IsClear n (union_of own other) ↔ (IsClear n own ⊎ IsClear n other)
  clear_in_both n =
      let all = λ (x : NoteParts). In-union_of x own other in (
        λ c. clear_in_union own other n c,
        λ h. elim h [
          | inl c ↦ record {
            held = (all n).1 (inl c.held);
            whole = c.whole;
            undisputed = λ d. elim ((all d.0).0 d.1) [
              | inl k ↦ c.undisputed (d.0, k, d.2, d.3)
              | inr k ↦ nothing_shared n d.0 c.held k d.3.0 d.3.2.from d.3.2.before d.3.1.from
            ];
          }
          | inr c ↦ record {
            held = (all n).1 (inr c.held);
            whole = c.whole;
            undisputed = λ d. elim ((all d.0).0 d.1) [
              | inl k ↦ nothing_shared d.0 n k c.held d.3.0 d.3.1.from d.3.1.before d.3.2.from
              | inr k ↦ c.undisputed (d.0, k, d.2, d.3)
            ];
          }
        ],
      )

  pub union_is_content : IsContent (union_of own other)
  union_is_content = IsContent-union_of own other m.own_is.content

  -- None of the one is the head of one of the other.
  pub union_is_reduced : reduced_union own other ≡ union_of own other
  union_is_reduced =
      let all = λ (x : NoteParts). In-union_of x own other in
      let apart : (x y : NoteParts) → In x own → In y other → x.offset ≡ y.offset → ⊥ = λ x y h k e.
      nothing_shared x y h k x.offset (omega arith) (omega arith) (omega (arith, e)) in
      reduced_union-is own other m.own_is.content m.own_reduced
      ∙ reduced-same (union_of own other) union_is_content (λ x h k.
      let same : k.0.offset ≡ x.offset = ap (λ (y : NoteParts). y.offset) k.3 in
      elim ((all x).0 h) [
        | inl i ↦ elim ((all k.0).0 k.1) [
          | inl j ↦ m.own_reduced x i (k.0, j, k.2, k.3)
          | inr j ↦ apart x k.0 i j (sym same)
        ]
        | inr i ↦ elim ((all k.0).0 k.1) [
          | inl j ↦ apart k.0 x j i same
          | inr j ↦ m.other_reduced x i (k.0, j, k.2, k.3)
        ]
      ])

  pub clear_of_both : clear_notes (union_of own other) ≡ clear_notes own ++ clear_notes other
  clear_of_both = same_content (clear_notes (union_of own other)) (clear_notes own ++ clear_notes other)
      (IsContent-clear_notes (union_of own other) union_is_content)
      (contents_append (clear_notes own) (clear_notes other) (IsContent-clear_notes own m.own_is.content)
      (IsContent-clear_notes other m.other_is.content) (λ x y h k.
      let e : end_of x ≤ b = m.ends x ((In-clear_notes x own).0 h).held in
      let g : b ≤ y.offset = m.begins y ((In-clear_notes y other).0 k).held in omega (arith, e, g))) (λ n.
      let u = In-clear_notes n (union_of own other) in
      let x = In-clear_notes n own in
      let y = In-clear_notes n other in
      let c = clear_in_both n in
      let a = In-append n (clear_notes own) (clear_notes other) in (
        λ h. a.1 (elim (c.0 (u.0 h)) [ inl k ↦ inl (x.1 k) | inr k ↦ inr (y.1 k) ]),
        λ h. u.1 (c.1 (elim (a.0 h) [ inl k ↦ inl (x.0 k) | inr k ↦ inr (y.0 k) ])),
      ))

  -- ---- zones

  pub zone_below : (bytes : ℕ) → zone_of b bytes (clear_notes own) ≡ []
  zone_below bytes = filter_none (lies_in b bytes) (clear_notes own) (λ n h t.
      let e : end_of n ≤ b = m.ends n ((In-clear_notes n own).0 h).held in
      let l : b ≤ n.offset = leb-true b n.offset (and_parts (nat_le b n.offset) (nat_le (end_of n) (b + bytes)) t).0 in
      omega (arith, e, l))

  pub zone_of_both : (start bytes : ℕ) → zone_of start bytes (clear_notes (union_of own other))
      ≡ zone_of start bytes (clear_notes own) ++ zone_of start bytes (clear_notes other)
  zone_of_both start bytes = ap (zone_of start bytes) clear_of_both
      ∙ filter-append (lies_in start bytes) (clear_notes own) (clear_notes other)

  pub zone_from : (bytes : ℕ) → zone_of b bytes (clear_notes (union_of own other)) ≡ zone_of b bytes (clear_notes other)
  zone_from bytes = zone_of_both b bytes ∙ ap (λ l. l ++ zone_of b bytes (clear_notes other)) (zone_below bytes)

  pub new_are_clear : clear_from b (union_of own other) ≡ clear_notes other
  new_are_clear = zone_from 18446744073709551615
      ∙ filter_all (lies_in b 18446744073709551615) (clear_notes other) (λ n h.
      let held = ((In-clear_notes n other).0 h).held in
      let low : b ≤ n.offset = m.begins n held in
      let within = (all-In IsNote other n m.other_is.members held).within in
      let high : end_of n ≤ b + 18446744073709551615 = omega (arith, within) in
      and_from (nat_le b n.offset) (nat_le (end_of n) (b + 18446744073709551615)) (le-leb b n.offset low)
      (le-leb (end_of n) (b + 18446744073709551615) high))

  pub no_bytes : (bytes : ℕ) → bytes ≡ 0 → zone_of b bytes (clear_notes other) ≡ []
  no_bytes bytes none = filter_none (lies_in b bytes) (clear_notes other) (λ n h t.
      let l : b ≤ n.offset = m.begins n ((In-clear_notes n other).0 h).held in
      let e : end_of n ≤ b + bytes =
      leb-true (end_of n) (b + bytes) (and_parts (nat_le b n.offset) (nat_le (end_of n) (b + bytes)) t).1 in
      omega (arith, e, l, none))

  -- Of what is new the part of a zone that begins below the boundary is that from the boundary on.
  pub zone_goes_on : (start bytes : ℕ) → start ≤ b
      → zone_of start bytes (clear_notes other) ≡ zone_of b (bytes - (b - start)) (clear_notes other)
  zone_goes_on start bytes l =
      let rest = bytes - (b - start) in
      filter_alike (lies_in start bytes) (lies_in b rest) (clear_notes other) (λ n h.
      let low : b ≤ n.offset = m.begins n ((In-clear_notes n other).0 h).held in
      let from : start ≤ n.offset = omega (arith, low, l) in
      same_bool (lies_in start bytes n) (lies_in b rest n) (λ t.
      let e : end_of n ≤ start + bytes =
      leb-true (end_of n) (start + bytes) (and_parts (nat_le start n.offset) (nat_le (end_of n) (start + bytes)) t).1 in
      and_from (nat_le b n.offset) (nat_le (end_of n) (b + rest)) (le-leb b n.offset low)
      (le-leb (end_of n) (b + rest) (omega (arith, e, l, low)))) (λ t.
      let e : end_of n ≤ b + rest =
      leb-true (end_of n) (b + rest) (and_parts (nat_le b n.offset) (nat_le (end_of n) (b + rest)) t).1 in
      and_from (nat_le start n.offset) (nat_le (end_of n) (start + bytes)) (le-leb start n.offset from)
      (le-leb (end_of n) (start + bytes) (omega (arith, e, l, low)))))

  -- ---- what is kept

  pub taken_of_both : {A : Type 0} (take : NoteParts → Option A)
      → kept_among take own ++ filter_map take (clear_from b (union_of own other))
      ≡ kept_among take (union_of own other)
  taken_of_both take = ap (λ l. kept_among take own ++ filter_map take l) new_are_clear
      ∙ sym (filter_map-append take (clear_notes own) (clear_notes other)) ∙ ap (filter_map take) (sym clear_of_both)

  pub count_of_both : (test : NoteParts → Bool) → count_by test (clear_notes (union_of own other))
      ≡ count_by test (clear_notes own) + count_by test (clear_from b (union_of own other))
  count_of_both test = ap (count_by test) clear_of_both ∙ count_append test (clear_notes own) (clear_notes other)
      ∙ ap (λ l. count_by test (clear_notes own) + count_by test l) (sym new_are_clear)
    where
      count_append : (test : NoteParts → Bool) (xs ys : List NoteParts)
          → count_by test (xs ++ ys) ≡ count_by test xs + count_by test ys
      count_append test xs ys = Rattle.std.proofs.lemmas.List.Sums.sum_by-append (λ n. cond (test n) 1 0) xs ys

-- ---- how two catalogues meet

pub meet_at : (end : ℕ) (own other : List NoteParts) (others : List Run) → IsCatalogue own → IsCatalogue other
    → AreReduced own → AreReduced other → Covers others other
    → ((bound : ℕ) → end ≤ bound ↔ ((n : NoteParts) → In n own → end_of n ≤ bound))
    → ((offset : ℕ) → LiesIn others offset → end ≤ offset) → MeetAt end own other
meet_at end own other others c d p q covers_other greatest above = record {
  own_is = c;
  other_is = d;
  own_reduced = p;
  other_reduced = q;
  ends = (greatest end).0 (omega arith);
  begins = λ n h.
      let first : n.offset ≤ n.offset = omega arith in
      above n.offset ((covers_other n.offset).1 (n, h, record { from = first; before = covers_first n }));
}

-- One note that begins where a catalogue ends, or above.
pub meet_one : (end : ℕ) (own : List NoteParts) (x : NoteParts) → IsCatalogue own → AreReduced own → IsNote x
    → ((bound : ℕ) → end ≤ bound ↔ ((n : NoteParts) → In n own → end_of n ≤ bound)) → end ≤ x.offset
    → MeetAt end own (x ∷ [])
meet_one end own x c p is greatest above = record {
  own_is = c;
  other_is = record { content = (tt, tt); members = (is, tt) };
  own_reduced = p;
  other_reduced = λ n h k. k.2 (alone k.0 k.1 ∙ sym (alone n h));
  ends = (greatest end).0 (omega arith);
  begins = λ n h. subst (λ (y : NoteParts). end ≤ y.offset) (sym (alone n h)) above;
}
  where
    alone : (n : NoteParts) → In n (x ∷ []) → n ≡ x
    alone n (inl e) = e
    alone n (inr h) = absurd h

pub with_one_above : (b : ℕ) (notes own : List NoteParts) (x : NoteParts) → MeetAt b own (x ∷ [])
    → notes ≡ reduced_with x own → IsUnionAt b notes own
with_one_above b notes own x m e =
    record { other = x ∷ []; meet = m; union = e ∙ union_is_reduced b own (x ∷ []) m }

-- All notes begin where none ends.
meet_none : (notes : List NoteParts) → IsCatalogue notes → AreReduced notes → MeetAt 0 [] notes
meet_none notes c r = grind (arith)

pub all_above_none : (notes : List NoteParts) → IsCatalogue notes → AreReduced notes → IsUnionAt 0 notes []
all_above_none notes c r = record {
  other = notes;
  meet = meet_none notes c r;
  union = sym (reduced_union-none notes c.content r) ∙ union_is_reduced 0 [] notes (meet_none notes c r);
}

-- From the first offset on there are all clear notes.
pub all_from_none : (notes : List NoteParts) → IsCatalogue notes → AreReduced notes
    → clear_from 0 notes ≡ clear_notes notes
all_from_none notes c r =
    let meet = meet_none notes c r in
    ap (clear_from 0) (sym (reduced_union-none notes c.content r) ∙ union_is_reduced 0 [] notes meet)
    ∙ new_are_clear 0 [] notes meet
