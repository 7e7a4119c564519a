-- Orderly copies, their sets, and the first that lacks a label, in words.
use Rattle.mxf_views.proofs.Common.{◌≡◌, ◌↔◌, ◌∙◌, ◌≤◌, ◌<◌, ◌+◌, ℕ, Bool, true, false, List, [], ◌∷◌, ◌&&◌, ◌==◌, if◌then◌else◌}
use Rattle.mxf_views.proofs.Common.{Option, Some, None, AreBytes, IsContent, In, In-clear_notes, NoteParts, sym, ap, refl}
use Rattle.mxf_views.proofs.Common.{and_from, and_parts, arith, cond, end_of, eq-eqb, eqb-true, find, is_fill, kind_of}
use Rattle.mxf_views.proofs.Common.{le-leb, leb-true, list_any, list_any-In, nat_le, subst, copies_of, filter_map, inl, inr}
use Rattle.std.specs.Option.{option_map, option_map_or}
use Rattle.std.specs.Prelude.{is_none, unwrap_or}
use Rattle.mxf_klv.proofs.Lists.{In-filter, In-filter_map, In-list_all, found-In, list_all-In}
use Rattle.mxf_sets.proofs.LabelLaws.{only_label}
use Rattle.mxf_sets.specs.Batch.{BatchParts}
use Rattle.mxf_sets.specs.Items.{ItemParts}
use Rattle.mxf_sets.specs.PackReadings.{label_of}
use Rattle.mxf_sets.specs.Primer.{IsOnlyLabel}
use Rattle.mxf_catalogue.proofs.SpanLaws.{AreApart-clear_notes, AreApart-filter}
use Rattle.mxf_catalogue.specs.Disputes.{AreApart, clear_notes, lies_in}
use Rattle.mxf_views.proofs.CopyLaws.{copies_are, set_note}
use Rattle.mxf_views.proofs.KindLaws.{fill_kind, primer_kind}
use Rattle.mxf_views.proofs.SetItemLaws.{set_items_iff}
use Rattle.mxf_views.specs.declared.copy.CopyInfo.{CopyInfo}
use Rattle.mxf_views.specs.Copies.{is_primer, is_set_note, sets_from, sets_in, zone_of}
use Rattle.mxf_views.specs.Labels.{primer_of}
use Rattle.mxf_views.specs.SetItems.{set_items}
use Rattle.mxf_doubts.specs.DoubtCauses.{IsFirstUnlabelled, IsOfCopy, IsOrderly, IsOrderlyNote, IsSetIn, LacksLabel}
use Rattle.mxf_doubts.specs.DoubtCauses.{its_fill, its_primer, its_set, its_unknown}
use Rattle.mxf_doubts.specs.Header.{first_lacking, first_unlabelled, is_orderly, is_orderly_from, is_orderly_note, lacks_label}
use Rattle.mxf_doubts.specs.Header.{lacks_labels, sets_in_copy}
use Rattle.mxf_doubts.specs.Strange.{is_other}
use Rattle.mxf_doubts.proofs.StrangeLaws.{four_ways, other_kind}

-- ---- The packets of a copy

pub in_zone : (notes : List NoteParts) (c : CopyInfo) (start : ℕ) (n : NoteParts)
    → In n (zone_of start c.bytes (clear_notes notes)) ↔ IsOfCopy notes c start n
in_zone notes c start n =
    let f = In-filter (lies_in start c.bytes) (clear_notes notes) n in (
      λ h.
          let s = f.0 h in
          let p = and_parts (nat_le start n.offset) (nat_le (end_of n) (start + c.bytes)) s.1 in
          record { clear = (In-clear_notes n notes).0 s.0; from = leb-true _ _ p.0; before = leb-true _ _ p.1 },
      λ k. f.1 ((In-clear_notes n notes).1 k.clear, and_from _ _ (le-leb _ _ k.from) (le-leb _ _ k.before)),
    )

pub set_in : (notes : List NoteParts) (c : CopyInfo) (start : ℕ) (n : NoteParts)
    → In n (sets_in start c.bytes (clear_notes notes)) ↔ IsSetIn notes c start n
set_in notes c start n =
    let f = In-filter is_set_note (zone_of start c.bytes (clear_notes notes)) n in (
      λ h. let s = f.0 h in ((in_zone notes c start n).0 s.0, (set_note n).0 s.1),
      λ k. f.1 ((in_zone notes c start n).1 k.0, (set_note n).1 k.1),
    )

orderly_note : (start : ℕ) (n : NoteParts) → (is_orderly_note start n ≡ true) ↔ IsOrderlyNote start n
orderly_note start n =
    let s = set_note n in
    let f = fill_kind (kind_of n.key) in
    let o = other_kind (kind_of n.key) in
    let p = primer_kind (kind_of n.key) in
    let primer = is_primer (kind_of n.key) && (n.offset == start) in
    four_ways (is_set_note n) (is_fill (kind_of n.key)) (is_other (kind_of n.key)) primer
    (λ t. its_set (s.0 t)) (λ t. its_fill (f.0 t)) (λ t. its_unknown (o.0 t))
    (λ t.
    let q = and_parts (is_primer (kind_of n.key)) (n.offset == start) t in
    its_primer (p.0 q.0) (eqb-true n.offset start q.1))
    (λ h. elim h [
      | its_primer k e ↦ inr (inr (inr (and_from (is_primer (kind_of n.key)) (n.offset == start) (p.1 k) (eq-eqb n.offset start e))))
      | its_set k ↦ inl (s.1 k)
      | its_fill k ↦ inr (inl (f.1 k))
      | its_unknown k ↦ inr (inr (inl (o.1 k)))
    ])

orderly_from : (notes : List NoteParts) (c : CopyInfo) (start : ℕ) → (is_orderly_from notes c.bytes (Some start) ≡ true)
    ↔ ((n : NoteParts) → IsOfCopy notes c start n → IsOrderlyNote start n)
orderly_from notes c start =
    let zone = zone_of start c.bytes (clear_notes notes) in (
      λ t n k. (orderly_note start n).0 (list_all-In (is_orderly_note start) zone n t ((in_zone notes c start n).1 k)),
      λ all. In-list_all (is_orderly_note start) zone (λ n i. (orderly_note start n).1 (all n ((in_zone notes c start n).0 i))),
    )

pub orderly : (notes : List NoteParts) (c : CopyInfo) → IsContent notes → In c (copies_of notes)
    → (is_orderly notes c ≡ true) ↔ ((start : ℕ) × IsOrderly notes c start)
unfolding is_orderly
orderly notes c r i = (
  λ t.
      let p = and_parts c.finished (is_orderly_from notes c.bytes c.start) t in
      elim c.start as (λ s. c.start ≡ s → is_orderly_from notes c.bytes s ≡ true → (start : ℕ) × IsOrderly notes c start) [
        | None ↦ λ e u. absurd cc
        | Some start ↦ λ e u. (
          start,
          record {
            copied = (copies_are notes c r).0 i;
            finished = p.0;
            begins = e;
            each = (orderly_from notes c start).0 u;
          },
        )
      ] refl p.1,
  λ s. and_from c.finished (is_orderly_from notes c.bytes c.start) s.1.finished
      (subst (λ (o : Option ℕ). is_orderly_from notes c.bytes o ≡ true) (sym s.1.begins)
      ((orderly_from notes c s.0).1 s.1.each)),
)

-- ---- The first set that lacks a label

none_is : (o : Option (List ℕ)) → (is_none o ≡ true) ↔ (o ≡ None)
none_is None = (λ t. refl, λ e. refl)
none_is (Some x) = (λ t. absurd cc, λ e. absurd cc)

lacks_one : (primer : BatchParts) (i : ItemParts) → (lacks_label primer i ≡ true)
    ↔ ((0x8000 ≤ i.tag) × ((label : List ℕ) → IsOnlyLabel i.tag primer label → ⊥))
lacks_one primer i = (
  λ t.
      let p = and_parts (nat_le 0x8000 i.tag) (is_none (label_of i.tag primer)) t in
      let e = (none_is (label_of i.tag primer)).0 p.1 in
      (leb-true _ _ p.0, λ label only. let f = (only_label i.tag primer label).1 only in cc (e, f)),
  λ s. and_from (nat_le 0x8000 i.tag) (is_none (label_of i.tag primer)) (le-leb _ _ s.0)
      ((none_is (label_of i.tag primer)).1
      (elim (label_of i.tag primer) as (λ o. label_of i.tag primer ≡ o → o ≡ None) [
        | None ↦ λ e. refl
        | Some label ↦ λ e. absurd (s.1 label ((only_label i.tag primer label).0 e))
      ] refl)),
)

lacking : (primer : BatchParts) (n : NoteParts) → AreBytes n.held → (lacks_labels primer n ≡ true) ↔ LacksLabel primer n
lacking primer n b =
    let of_items = λ (o : Option (List ItemParts)). option_map_or (list_any (lacks_label primer)) o false in (
      λ t.
          elim (set_items n) as (λ o. set_items n ≡ o → of_items o ≡ true → LacksLabel primer n) [
            | None ↦ λ e u. absurd cc
            | Some items ↦ λ e u.
                let s = (list_any-In (lacks_label primer) items).0 u in
                let l = (lacks_one primer s.0).0 s.2 in record {
                  items = items;
                  made = (set_items_iff n (Some items) b).0 e;
                  item = s.0;
                  has = s.1;
                  dynamic = l.0;
                  none = l.1;
                }
          ] refl t,
      λ k.
          let e : set_items n ≡ Some k.items = (set_items_iff n (Some k.items) b).1 k.made in
          subst (λ (o : Option (List ItemParts)). of_items o ≡ true) (sym e)
          ((list_any-In (lacks_label primer) k.items).1 (k.item, k.has, (lacks_one primer k.item).1 (k.dynamic, k.none))),
    )

-- What stands apart stands in the order of offsets.
later : (low : ℕ) (notes : List NoteParts) (m : NoteParts) → AreApart low notes → In m notes → low ≤ m.offset
later low [] m a i = absurd i
later low (n ∷ notes) m a (inl e) = subst (λ (x : NoteParts). low ≤ x.offset) (sym e) a.0
later low (n ∷ notes) m a (inr i) =
    let l = later (end_of n) notes m a.1 i in
    let grows : n.offset ≤ end_of n = omega arith in
    omega (arith, l, a.0, grows)

first_found : (p : NoteParts → Bool) (low : ℕ) (notes : List NoteParts) (n m : NoteParts) → AreApart low notes
    → find p notes ≡ Some n → In m notes → m.offset < n.offset → p m ≡ true → ⊥
first_found p low [] n m a e i l t = i
first_found p low (x ∷ notes) n m a e i l t =
    elim (p x) as (λ b. p x ≡ b → cond b (Some x) (find p notes) ≡ Some n → ⊥) [
      | true ↦ λ u f.
          let same : x ≡ n = ap (λ (o : Option NoteParts). unwrap_or o x) f in
          let at = ap (λ (y : NoteParts). y.offset) same in
          elim i [
            | inl q ↦ (let o = ap (λ (y : NoteParts). y.offset) q in omega (arith, o, at, l))
            | inr k ↦ (
                let o = later (end_of x) notes m a.1 k in
                let grows : x.offset ≤ end_of x = omega arith in
                omega (arith, o, at, l, grows))
          ]
      | false ↦ λ u f. elim i [
        | inl q ↦ (let v = ap p (sym q) ∙ t in cc (u, v))
        | inr k ↦ first_found p (end_of x) notes n m a.1 f k l t
      ]
    ] refl e

found_as_first : (p : NoteParts → Bool) (low : ℕ) (notes : List NoteParts) (n : NoteParts) → AreApart low notes
    → In n notes → p n ≡ true → ((m : NoteParts) → In m notes → m.offset < n.offset → p m ≡ true → ⊥) → find p notes ≡ Some n
found_as_first p low [] n a i t none = absurd i
found_as_first p low (x ∷ notes) n a i t none =
    elim (p x) as (λ b. p x ≡ b → cond b (Some x) (find p notes) ≡ Some n) [
      | true ↦ λ u. elim i [
        | inl q ↦ ap Some (sym q)
        | inr k ↦ absurd (
            let o = later (end_of x) notes n a.1 k in
            let grows : x.offset < end_of x = omega arith in
            none x (inl refl) (omega (arith, o, grows)) u)
      ]
      | false ↦ λ u. elim i [
        | inl q ↦ absurd (let v = ap p (sym q) ∙ t in cc (u, v))
        | inr k ↦ found_as_first p (end_of x) notes n a.1 k t (λ m j l v. none m (inr j) l v)
      ]
    ] refl

sets_apart : (notes : List NoteParts) (c : CopyInfo) (start : ℕ) → IsContent notes
    → AreApart 0 (sets_in start c.bytes (clear_notes notes))
sets_apart notes c start r =
    AreApart-filter is_set_note 0 (zone_of start c.bytes (clear_notes notes))
    (AreApart-filter (lies_in start c.bytes) 0 (clear_notes notes) (AreApart-clear_notes notes r))

-- The offset of the first of the sets that lacks a label.
abbrev offset_of_first : List NoteParts → Option BatchParts → Option ℕ
offset_of_first sets primer = option_map (λ n. n.offset) (first_lacking sets primer)

module _ (notes : List NoteParts) (o : ℕ) (r : IsContent notes) (b : (n : NoteParts) → In n notes → AreBytes n.held) where
  found_one : (c : CopyInfo) (start : ℕ) → IsOrderly notes c start
      → offset_of_first (sets_in_copy notes c) (primer_of notes c) ≡ Some o → IsFirstUnlabelled notes o
  found_one c start k e =
      let clear = clear_notes notes in
      let sets = sets_in start c.bytes clear in
      let begun = subst (λ (s : Option ℕ). offset_of_first (sets_from clear c.bytes s) (primer_of notes c) ≡ Some o) k.begins e in
      elim (primer_of notes c) as (λ q. primer_of notes c ≡ q → offset_of_first sets q ≡ Some o → IsFirstUnlabelled notes o) [
        | None ↦ λ q f. absurd cc
        | Some primer ↦ λ q f.
            elim (find (lacks_labels primer) sets) as (λ x. find (lacks_labels primer) sets ≡ x
            → option_map (λ (n : NoteParts). n.offset) x ≡ Some o → IsFirstUnlabelled notes o) [
              | None ↦ λ g h. absurd cc
              | Some n ↦ λ g h.
                  let s = found-In (lacks_labels primer) sets n g in
                  let inside = (set_in notes c start n).0 s.0 in
                  let at : n.offset ≡ o = ap (λ (x : Option ℕ). unwrap_or x 0) h in record {
                    copy = c;
                    start = start;
                    orderly = k;
                    set = n;
                    in_copy = inside;
                    there = at;
                    primer = primer;
                    is_primer = q;
                    lacks = (lacking primer n (b n inside.0.clear.held)).0 s.1;
                    first = λ m j l v.
                        first_found (lacks_labels primer) 0 sets n m (sets_apart notes c start r) g ((set_in notes c start m).1 j)
                        (omega (arith, l, at)) ((lacking primer m (b m j.0.clear.held)).1 v);
                  }
            ] refl f
      ] refl begun

  is_found : (k : IsFirstUnlabelled notes o) → offset_of_first (sets_in_copy notes k.copy) (primer_of notes k.copy) ≡ Some o
  is_found k =
      let c = k.copy in
      let clear = clear_notes notes in
      let sets = sets_in k.start c.bytes clear in
      let g = found_as_first (lacks_labels k.primer) 0 sets k.set (sets_apart notes c k.start r)
      ((set_in notes c k.start k.set).1 k.in_copy) ((lacking k.primer k.set (b k.set k.in_copy.0.clear.held)).1 k.lacks)
      (λ m i l t.
      let j = (set_in notes c k.start m).0 i in
      k.first m j (omega (arith, l, k.there)) ((lacking k.primer m (b m j.0.clear.held)).0 t)) in
      ap (λ (s : Option ℕ). offset_of_first (sets_from clear c.bytes s) (primer_of notes c)) k.orderly.begins
      ∙ ap (λ (q : Option BatchParts). offset_of_first sets q) k.is_primer
      ∙ ap (λ (x : Option NoteParts). option_map (λ (n : NoteParts). n.offset) x) g ∙ ap Some k.there

  pub unlabelled : In o (filter_map (first_unlabelled notes) (copies_of notes)) ↔ IsFirstUnlabelled notes o
  unfolding first_unlabelled
  unlabelled =
      let m = In-filter_map (first_unlabelled notes) (copies_of notes) o in (
        λ h.
            let s = m.0 h in
            let c = s.0 in
            elim (is_orderly notes c) as (λ t. is_orderly notes c ≡ t
            → (if t then offset_of_first (sets_in_copy notes c) (primer_of notes c) else None) ≡ Some o
            → IsFirstUnlabelled notes o) [
              | true ↦ λ t e. let k = (orderly notes c r s.1).0 t in found_one c k.0 k.1 e
              | false ↦ λ t e. absurd cc
            ] refl s.2,
        λ k.
            let c = k.copy in
            let i = (copies_are notes c r).1 k.orderly.copied in
            let t = (orderly notes c r i).1 (k.start, k.orderly) in
            m.1 (
              c,
              i,
              ap (λ (t : Bool). if t then offset_of_first (sets_in_copy notes c) (primer_of notes c) else None) t ∙ is_found k,
            ),
      )
