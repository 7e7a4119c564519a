-- Strange packets, and packets of header metadata, in words.
use Rattle.mxf_views.proofs.Common.{◌≡◌, ◌↔◌, ◌∙◌, ℕ, Bool, true, false, List, [], ◌∷◌, ◌&&◌, ◌||◌, ◌+◌, ◌==◌, not}
use Rattle.mxf_views.proofs.Common.{Some, sym, ap, refl, subst, arith, In, NoteParts, kind_of, either, inl, inr}
use Rattle.mxf_views.proofs.Common.{and_from, and_parts, bytes_eq, bytes_eq-Decides, drop, list_any-In, not_true, take}
use Rattle.mxf_views.proofs.Common.{IsContent, IsClear, IsCopy, copies_of, eq-eqb, eqb-true, is_fill, ◌⊎◌}
use Rattle.mxf_klv.proofs.Lists.{In-filter_map}
use Rattle.mxf_klv.proofs.Tests.{not-true-false}
use Rattle.mxf_klv.specs.declared.kinds.Kind.{Kind}
use Rattle.mxf_klv.specs.declared.kinds.Kind.TheVariants as kinds
use Rattle.mxf_views.proofs.CopyLaws.{copies_are, set_note}
use Rattle.mxf_views.proofs.KindLaws.{fill_kind, primer_kind}
use Rattle.mxf_views.specs.declared.copy.CopyInfo.{CopyInfo}
use Rattle.mxf_views.specs.Copies.{is_primer, is_set_note}
use Rattle.mxf_doubts.specs.declared.sound.Zone.{Zone}
use Rattle.mxf_klv.specs.Kind.{is_in_containers}
use Rattle.mxf_doubts.specs.DoubtCauses.{HasStructure1, IsDark, IsFirstPrimer, IsOfHeader, IsStrange, IsStrangeInside, IsStrangeOutside}
use Rattle.mxf_doubts.specs.DoubtCauses.{a_fill, a_primer, a_set, an_unknown, essence, raw_set, unknown}
use Rattle.mxf_doubts.specs.Doubts.{is_of_header, is_strange_inside, is_strange_outside}
use Rattle.mxf_doubts.specs.Sound.{begin_at, filled_by, is_first_primer, is_in_sound_zone, sound_zones}
use Rattle.mxf_doubts.specs.Strange.{IsLone, bare_key, has_structure_1, is_essence, is_lone, is_named, is_other, is_strange}
use Rattle.mxf_doubts.specs.Strange.{is_container_packet, is_dark, is_strange_as, named_keys}
use Rattle.mxf_doubts.proofs.LoneLaws.{lone}
use Rattle.mxf_doubts.proofs.SoundLaws.{in_sound_zone}

pub other_kind : (k : Kind) → (is_other k ≡ true) ↔ (k ≡ kinds.Other)
other_kind kinds.Other = (λ e. refl, λ e. refl)
other_kind _ = (λ e. absurd cc, λ e. absurd cc)

pub essence_kind : (k : Kind) → (is_essence k ≡ true) ↔ (k ≡ kinds.Essence)
essence_kind kinds.Essence = (λ e. refl, λ e. refl)
essence_kind _ = (λ e. absurd cc, λ e. absurd cc)

named_in : (key : List ℕ) → (is_named key ≡ true) ↔ In (bare_key key) named_keys
named_in key = (
  λ t.
      let s = (list_any-In (λ named. bytes_eq named (bare_key key)) named_keys).0 t in
      subst (λ (k : List ℕ). In k named_keys) ((bytes_eq-Decides s.0 (bare_key key)).0 s.2) s.1,
  λ i. (list_any-In (λ named. bytes_eq named (bare_key key)) named_keys).1 (
    bare_key key,
    i,
    (bytes_eq-Decides (bare_key key) (bare_key key)).1 refl,
  ),
)

structure : (key : List ℕ) → (not (has_structure_1 key) ≡ true) ↔ (HasStructure1 key → ⊥)
structure key = (
  λ t h. not-true-false (has_structure_1 key) t ((bytes_eq-Decides (take 1 (drop 6 key)) (0x01 ∷ [])).1 h),
  λ h. not_true (has_structure_1 key) (λ t. h ((bytes_eq-Decides (take 1 (drop 6 key)) (0x01 ∷ [])).0 t)),
)

strange_by : (notes : List NoteParts) (n : NoteParts) (k : Kind) (lone : Bool) → kind_of n.key ≡ k
    → (lone ≡ true) ↔ IsLone notes n → (is_strange_as k n.key lone ≡ true) ↔ IsStrange notes n
strange_by notes n kinds.Other lone e l = (
  λ t.
      let p = and_parts lone (not (is_named n.key)) t in
      unknown e (l.0 p.0) (λ i. not-true-false (is_named n.key) p.1 ((named_in n.key).1 i)),
  λ s. elim s [
    | unknown f q m ↦ and_from lone (not (is_named n.key)) (l.1 q) (not_true (is_named n.key) (λ t. m ((named_in n.key).0 t)))
    | essence f h ↦ absurd (let d = sym e ∙ f in cc d)
    | raw_set f h ↦ absurd (let d = sym e ∙ f in cc d)
  ],
)
strange_by notes n kinds.Essence lone e l = (
  λ t. essence e ((structure n.key).0 t),
  λ s. elim s [
    | unknown f q m ↦ absurd (let d = sym e ∙ f in cc d)
    | essence f h ↦ (structure n.key).1 h
    | raw_set f h ↦ absurd (let d = sym e ∙ f in cc d)
  ],
)
strange_by notes n kinds.RawSet lone e l = (
  λ t. raw_set e ((structure n.key).0 t),
  λ s. elim s [
    | unknown f q m ↦ absurd (let d = sym e ∙ f in cc d)
    | essence f h ↦ absurd (let d = sym e ∙ f in cc d)
    | raw_set f h ↦ (structure n.key).1 h
  ],
)
strange_by notes n _ lone e l = (
  λ t. absurd cc,
  λ s. elim s [
    | unknown f q m ↦ absurd (let d = sym e ∙ f in cc d)
    | essence f h ↦ absurd (let d = sym e ∙ f in cc d)
    | raw_set f h ↦ absurd (let d = sym e ∙ f in cc d)
  ],
)

pub strange : (notes : List NoteParts) (n : NoteParts) → IsContent notes → IsClear n notes
    → (is_strange notes n ≡ true) ↔ IsStrange notes n
unfolding is_strange
strange notes n r c = strange_by notes n (kind_of n.key) (is_lone notes n) refl (lone notes n r c.held)

-- ---- Dark data

pub three : (a b c : Bool) → (a && b && c) ≡ true → (a ≡ true) × (b ≡ true) × (c ≡ true)
three a b c t = grind arith

pub three_from : (a b c : Bool) → a ≡ true → b ≡ true → c ≡ true → (a && b && c) ≡ true
three_from a b c t u v = grind arith

one_of : (a b : Bool) → (a || b) ≡ true → (a ≡ true) ⊎ (b ≡ true)
one_of true b t = inl refl
one_of false b t = inr t

pub dark : (notes : List NoteParts) (n : NoteParts) → IsContent notes → IsClear n notes
    → (is_dark notes n ≡ true) ↔ IsDark notes n
unfolding is_dark
dark notes n r c =
    let k = kind_of n.key in
    let inside = is_in_containers n.key in
    let contained = bytes_eq-Decides (take 4 (drop 8 n.key)) (0x0D ∷ 0x01 ∷ 0x03 ∷ 0x01 ∷ []) in
    let s = strange notes n r c in (
      λ t.
          let p = three (is_other k) (not (is_strange notes n)) (not (is_container_packet n)) t in record {
            kind = (other_kind k).0 p.0;
            usual = λ w. not-true-false (is_strange notes n) p.1 (s.1 w);
            outside = λ e.
                not-true-false (is_container_packet n) p.2
                (either (is_essence k) (is_other k && inside) (inr (and_from (is_other k) inside p.0 (contained.1 e))));
          },
      λ d.
          three_from (is_other k) (not (is_strange notes n)) (not (is_container_packet n)) ((other_kind k).1 d.kind)
          (not_true (is_strange notes n) (λ t. d.usual (s.0 t)))
          (not_true (is_container_packet n) (λ t. elim (one_of (is_essence k) (is_other k && inside) t) [
            | inl e ↦ (let f = (essence_kind k).0 e in let g = sym d.kind ∙ f in cc g)
            | inr e ↦ d.outside (contained.0 (and_parts (is_other k) inside e).1)
          ])),
    )

-- ---- The primer pack of a finished copy

filled_is : (c : CopyInfo) (z : Zone) → filled_by c ≡ Some z → (c.finished ≡ true) × (c.start ≡ Some z.start)
filled_is c z e = grind arith

filled_from : (c : CopyInfo) (start : ℕ) → c.finished ≡ true → c.start ≡ Some start
    → filled_by c ≡ Some record { start = start; end = start + c.bytes }
filled_from c start f e = grind arith

begun : (notes : List NoteParts) (offset : ℕ) → IsContent notes → (begin_at offset (sound_zones notes) ≡ true)
    ↔ ((c : CopyInfo) × IsCopy notes c × (c.finished ≡ true) × (c.start ≡ Some offset))
begun notes offset r = (
  λ t.
      let s = (list_any-In (λ (z : Zone). z.start == offset) (sound_zones notes)).0 t in
      let m = (In-filter_map filled_by (copies_of notes) s.0).0 s.1 in
      let f = filled_is m.0 s.0 m.2 in
      (m.0, (copies_are notes m.0 r).0 m.1, f.0, f.1 ∙ ap Some (eqb-true s.0.start offset s.2)),
  λ s.
      let z : Zone = record { start = offset; end = offset + s.0.bytes } in
      (list_any-In (λ (z : Zone). z.start == offset) (sound_zones notes)).1 (
        z,
        (In-filter_map filled_by (copies_of notes) z).1 (s.0, (copies_are notes s.0 r).1 s.1, filled_from s.0 offset s.2 s.3),
        eq-eqb offset offset refl,
      ),
)

pub first_primer : (notes : List NoteParts) (n : NoteParts) → IsContent notes
    → (is_first_primer notes n ≡ true) ↔ IsFirstPrimer notes n
first_primer notes n r = (
  λ t.
      let p = and_parts (is_primer (kind_of n.key)) (begin_at n.offset (sound_zones notes)) t in
      let b = (begun notes n.offset r).0 p.1 in record {
        kind = (primer_kind (kind_of n.key)).0 p.0;
        copy = b.0;
        copied = b.1;
        finished = b.2;
        begins = b.3;
      },
  λ s. and_from (is_primer (kind_of n.key)) (begin_at n.offset (sound_zones notes)) ((primer_kind (kind_of n.key)).1 s.kind)
      ((begun notes n.offset r).1 (s.copy, s.copied, s.finished, s.begins)),
)

-- What holds where one of four tests passes.
pub four_ways : {P : Type 0} (a b c d : Bool) → (a ≡ true → P) → (b ≡ true → P) → (c ≡ true → P) → (d ≡ true → P)
    → (P → (a ≡ true) ⊎ ((b ≡ true) ⊎ ((c ≡ true) ⊎ (d ≡ true)))) → ((a || b || c || d) ≡ true) ↔ P
four_ways true b c d f g h k back = (λ t. f refl, λ p. refl)
four_ways false true c d f g h k back = (λ t. g refl, λ p. refl)
four_ways false false true d f g h k back = (λ t. h refl, λ p. refl)
four_ways false false false true f g h k back = (λ t. k refl, λ p. refl)
four_ways false false false false f g h k back = (
  λ t. absurd cc,
  λ p. absurd (elim (back p) [
    | inl e ↦ cc e
    | inr r ↦ elim r [ inl e ↦ cc e | inr r ↦ elim r [ inl e ↦ cc e | inr e ↦ cc e ] ]
  ]),
)

of_header : (notes : List NoteParts) (n : NoteParts) → IsContent notes → (is_of_header notes n ≡ true) ↔ IsOfHeader notes n
of_header notes n r =
    let s = set_note n in
    let f = fill_kind (kind_of n.key) in
    let o = other_kind (kind_of n.key) in
    let p = first_primer notes n r in
    four_ways (is_set_note n) (is_fill (kind_of n.key)) (is_other (kind_of n.key)) (is_first_primer notes n)
    (λ t. a_set (s.0 t)) (λ t. a_fill (f.0 t)) (λ t. an_unknown (o.0 t)) (λ t. a_primer (p.0 t))
    (λ h. elim h [
      | a_set k ↦ inl (s.1 k)
      | a_fill k ↦ inr (inl (f.1 k))
      | an_unknown k ↦ inr (inr (inl (o.1 k)))
      | a_primer k ↦ inr (inr (inr (p.1 k)))
    ])

-- ---- Inside and outside of header metadata

pub strange_inside : (notes : List NoteParts) (n : NoteParts) → IsContent notes → IsClear n notes
    → (is_strange_inside notes n ≡ true) ↔ IsStrangeInside notes n
unfolding is_strange_inside
strange_inside notes n r c =
    let z = in_sound_zone notes n r in
    let s = strange notes n r c in
    let h = of_header notes n r in (
      λ t.
          let p = and_parts (is_in_sound_zone notes n) (is_strange notes n || not (is_of_header notes n)) t in record {
            sound = z.0 p.0;
            why = elim (one_of (is_strange notes n) (not (is_of_header notes n)) p.1) [
              | inl t ↦ inl (s.0 t)
              | inr t ↦ inr (λ k. not-true-false (is_of_header notes n) t (h.1 k))
            ];
          },
      λ k. and_from (is_in_sound_zone notes n) (is_strange notes n || not (is_of_header notes n)) (z.1 k.sound)
          (elim k.why [
            | inl w ↦ either (is_strange notes n) (not (is_of_header notes n)) (inl (s.1 w))
            | inr w ↦ either (is_strange notes n) (not (is_of_header notes n))
                (inr (not_true (is_of_header notes n) (λ t. w (h.0 t))))
          ]),
    )

pub strange_outside : (notes : List NoteParts) (n : NoteParts) → IsContent notes → IsClear n notes
    → (is_strange_outside notes n ≡ true) ↔ IsStrangeOutside notes n
unfolding is_strange_outside
strange_outside notes n r c =
    let z = in_sound_zone notes n r in
    let s = strange notes n r c in (
      λ t.
          let p = and_parts (not (is_in_sound_zone notes n)) (is_strange notes n) t in record {
            outside = λ k. not-true-false (is_in_sound_zone notes n) p.0 (z.1 k);
            strange = s.0 p.1;
          },
      λ k. and_from (not (is_in_sound_zone notes n)) (is_strange notes n)
          (not_true (is_in_sound_zone notes n) (λ t. k.outside (z.0 t))) (s.1 k.strange),
    )
