-- References to none of the sets of a copy, in words.
use Rattle.mxf_views.proofs.Common.{◌≡◌, ◌↔◌, ◌∙◌, ◌==◌, ◌||◌, ℕ, Bool, true, false, List, [], ◌∷◌, ◌&&◌, if◌then◌else◌, not, length}
use Rattle.mxf_views.proofs.Common.{Option, Some, None, AreBytes, IsContent, In, NoteParts, sym, ap, refl, subst, ◌⊎◌}
use Rattle.mxf_views.proofs.Common.{and_from, and_parts, arith, bytes_eq, bytes_eq-Decides, eq-eqb, eqb-true, filter, flat_map, inl, inr}
use Rattle.mxf_views.proofs.Common.{is_fill, is_some, kind_of, list_any, list_any-In, map, not_true, copies_of, keeps_value}
use Rattle.std.specs.Option.{option_map_or}
use Rattle.std.specs.Prelude.{Err, Ok, unwrap_or}
use Rattle.std.specs.Result.{result_ok}
use Rattle.mxf_klv.proofs.Lists.{In-chosen, In-flat_map, In-list_all, list_all-In}
use Rattle.mxf_klv.proofs.Tests.{not-true-false}
use Rattle.mxf_klv.specs.declared.kinds.Kind.TheVariants as kinds
use Rattle.mxf_sets.specs.Batch.{batch_items}
use Rattle.mxf_sets.specs.Fields.{is_batch}
use Rattle.mxf_sets.specs.Instance.{instance_uid_at}
use Rattle.mxf_sets.specs.Items.{ItemParts}
use Rattle.mxf_sets.specs.PackReadings.{batch_in}
use Rattle.mxf_sets.specs.Readable.{read_as}
use Rattle.mxf_catalogue.specs.Disputes.{clear_notes}
use Rattle.mxf_views.proofs.CopyLaws.{copies_are}
use Rattle.mxf_views.proofs.KindLaws.{fill_kind, primer_kind}
use Rattle.mxf_views.proofs.SetItemLaws.{set_items_iff}
use Rattle.mxf_views.specs.declared.copy.CopyInfo.{CopyInfo}
use Rattle.mxf_views.specs.Copies.{is_primer, sets_from, sets_in, zone_of}
use Rattle.mxf_views.specs.Readings.{IsReadAs}
use Rattle.mxf_views.specs.SetItems.{set_items}
use Rattle.mxf_doubts.specs.DoubtCauses.{HasInstance, HoldsReference, IsSetIn, IsTold, IsUnreferred, RefersToNone, many, one}
use Rattle.mxf_doubts.specs.Header.{has_instance, instance_of, is_batch_tag, is_orderly, is_reference_tag, is_told_from}
use Rattle.mxf_doubts.specs.Header.{is_told_note, references_of, refers_to_none, unreferred}
use Rattle.mxf_doubts.proofs.OrderlyLaws.{in_zone, orderly, set_in}

-- ---- What an item holds

disjoint : (tag : ℕ) → is_reference_tag tag ≡ true → is_batch_tag tag ≡ false
disjoint tag t = grind (arith, eqb-true)

holds : (i : ItemParts) (uid : List ℕ) → In uid (references_of i) ↔ HoldsReference i uid
holds i uid =
    let is_one = is_reference_tag i.tag in
    let is_many = is_batch_tag i.tag && is_batch 16 i.value in
    let as_one = λ (t : Bool). if t then i.value ∷ [] else [] in
    let as_many = λ (t : Bool). if t then batch_items (batch_in i.value) else [] in (
      λ h.
          elim is_one as (λ t. is_one ≡ t → In uid (if t then as_one (length i.value == 16) else as_many is_many)
          → HoldsReference i uid) [
            | true ↦ λ t h.
                elim (length i.value == 16) as (λ l. (length i.value == 16) ≡ l → In uid (as_one l) → HoldsReference i uid) [
                  | true ↦ λ l h. elim h [ inl e ↦ one t (eqb-true _ 16 l) (sym e) | inr k ↦ absurd k ]
                  | false ↦ λ l h. absurd h
                ] refl h
            | false ↦ λ t h.
                elim is_many as (λ m. is_many ≡ m → In uid (as_many m) → HoldsReference i uid) [
                  | true ↦ λ m h. let p = and_parts (is_batch_tag i.tag) (is_batch 16 i.value) m in many p.0 p.1 h
                  | false ↦ λ m h. absurd h
                ] refl h
          ] refl h,
      λ k. elim k [
        | one t l e ↦
            subst (λ (b : Bool). In uid (if b then as_one (length i.value == 16) else as_many is_many)) (sym t)
            (subst (λ (b : Bool). In uid (as_one b)) (sym (eq-eqb (length i.value) 16 l)) (inl (sym e)))
        | many t m h ↦
            let other : is_one ≡ false = not_one i.tag t in
            subst (λ (b : Bool). In uid (if b then as_one (length i.value == 16) else as_many is_many)) (sym other)
            (subst (λ (b : Bool). In uid (as_many b)) (sym (and_from (is_batch_tag i.tag) (is_batch 16 i.value) t m)) h)
      ],
    )
  where
    not_one : (tag : ℕ) → is_batch_tag tag ≡ true → is_reference_tag tag ≡ false
    not_one tag t = elim (is_reference_tag tag) as (λ b. is_reference_tag tag ≡ b → b ≡ false) [
      | true ↦ λ u. absurd (let d = disjoint tag u in cc (t, d))
      | false ↦ λ u. refl
    ] refl

-- ---- Instance identifiers

read_says : (n : NoteParts) (uid : List ℕ) → (read_as instance_uid_at n ≡ Some uid) ↔ IsReadAs instance_uid_at n uid
read_says n uid = (
  λ e.
      elim (keeps_value n) as (λ b. keeps_value n ≡ b → (if b then result_ok (instance_uid_at n.held) else None) ≡ Some uid
      → IsReadAs instance_uid_at n uid) [
        | true ↦ λ t f.
            elim (instance_uid_at n.held) as (λ r. instance_uid_at n.held ≡ r → result_ok r ≡ Some uid
            → IsReadAs instance_uid_at n uid) [
              | Ok u ↦ λ q g. (t, q ∙ ap Ok (ap (λ (o : Option (List ℕ)). unwrap_or o u) g))
              | Err x ↦ λ q g. absurd cc
            ] refl f
        | false ↦ λ t f. absurd cc
      ] refl e,
  λ k. ap (λ (b : Bool). if b then result_ok (instance_uid_at n.held) else None) k.0 ∙ ap result_ok k.1,
)

instance : (n : NoteParts) (uid : List ℕ) → AreBytes n.held → (instance_of n ≡ Some uid) ↔ HasInstance n uid
instance n uid b = (
  λ e.
      elim (set_items n) as (λ o. set_items n ≡ o → (if is_some o then read_as instance_uid_at n else None) ≡ Some uid
      → HasInstance n uid) [
        | None ↦ λ s f. absurd cc
        | Some items ↦ λ s f.
            record { items = items; made = (set_items_iff n (Some items) b).0 s; uid_is = (read_says n uid).0 f }
      ] refl e,
  λ k.
      let s : set_items n ≡ Some k.items = (set_items_iff n (Some k.items) b).1 k.made in
      ap (λ (o : Option (List ItemParts)). if is_some o then read_as instance_uid_at n else None) s ∙ (read_says n uid).1 k.uid_is,
)

some_is : (o : Option (List ℕ)) → (is_some o ≡ true) ↔ ((uid : List ℕ) × (o ≡ Some uid))
some_is None = (λ t. absurd cc, λ s. absurd (let e = s.1 in cc e))
some_is (Some uid) = (λ t. (uid, refl), λ s. refl)

three_ways : (a b c : Bool) → ((a || b || c) ≡ true) ↔ ((a ≡ true) ⊎ ((b ≡ true) ⊎ (c ≡ true)))
three_ways true b c = (λ t. inl refl, λ s. refl)
three_ways false true c = (λ t. inr (inl refl), λ s. refl)
three_ways false false true = (λ t. inr (inr refl), λ s. refl)
three_ways false false false = (
  λ t. absurd cc,
  λ s. elim s [ inl e ↦ absurd cc | inr r ↦ elim r [ inl e ↦ absurd cc | inr e ↦ absurd cc ] ],
)

-- What a told packet is.
abbrev IsToldNote : NoteParts → Type 0
IsToldNote n =
    (kind_of n.key ≡ kinds.Fill) ⊎ ((kind_of n.key ≡ kinds.Primer) ⊎ ((uid : List ℕ) × HasInstance n uid))

told_note : (n : NoteParts) → AreBytes n.held → (is_told_note n ≡ true) ↔ IsToldNote n
told_note n b =
    let w = three_ways (is_fill (kind_of n.key)) (is_primer (kind_of n.key)) (is_some (instance_of n)) in
    let f = fill_kind (kind_of n.key) in
    let p = primer_kind (kind_of n.key) in
    let s = some_is (instance_of n) in (
      λ t. elim (w.0 t) [
        | inl e ↦ inl (f.0 e)
        | inr r ↦ elim r [
          | inl e ↦ inr (inl (p.0 e))
          | inr e ↦ let u = s.0 e in inr (inr (u.0, (instance n u.0 b).0 u.1))
        ]
      ],
      λ k. w.1 (elim k [
        | inl e ↦ inl (f.1 e)
        | inr r ↦ inr (elim r [
          | inl e ↦ inl (p.1 e)
          | inr u ↦ inr (s.1 (u.0, (instance n u.0 b).1 u.1))
        ])
      ]),
    )

-- ---- The sets of a copy

module _ (notes : List NoteParts) (r : IsContent notes) (b : (n : NoteParts) → In n notes → AreBytes n.held) where
  module _ (c : CopyInfo) (start : ℕ) where
    abbrev sets : List NoteParts
    sets = sets_in start c.bytes (clear_notes notes)

    told_from : (is_told_from notes c.bytes (Some start) ≡ true) ↔ IsTold notes c start
    told_from =
        let zone = zone_of start c.bytes (clear_notes notes) in (
          λ t. record {
            each = λ n k. (told_note n (b n k.clear.held)).0 (list_all-In is_told_note zone n t ((in_zone notes c start n).1 k));
          },
          λ k. In-list_all is_told_note zone (λ n i.
              let j = (in_zone notes c start n).0 i in
              (told_note n (b n j.clear.held)).1 (k.each n j)),
        )

    has : (uid : List ℕ) → (has_instance sets uid ≡ true) ↔ ((m : NoteParts) × IsSetIn notes c start m × HasInstance m uid)
    has uid =
        let test = λ (n : NoteParts). option_map_or (bytes_eq uid) (instance_of n) false in
        let l = list_any-In test sets in (
          λ t.
              let s = l.0 t in
              let i = (set_in notes c start s.0).0 s.1 in (
                s.0,
                i,
                (instance s.0 uid (b s.0 i.0.clear.held)).0 (same_uid uid (instance_of s.0) s.2),
              ),
          λ k. l.1 (
            k.0,
            (set_in notes c start k.0).1 k.1,
            ap (λ (o : Option (List ℕ)). option_map_or (bytes_eq uid) o false)
                ((instance k.0 uid (b k.0 k.1.0.clear.held)).1 k.2) ∙ (bytes_eq-Decides uid uid).1 refl,
          ),
        )
      where
        same_uid : (uid : List ℕ) (o : Option (List ℕ)) → option_map_or (bytes_eq uid) o false ≡ true → o ≡ Some uid
        same_uid uid None t = absurd cc
        same_uid uid (Some other) t = ap Some (sym ((bytes_eq-Decides uid other).0 t))

    refers : (n : NoteParts) → AreBytes n.held → (refers_to_none sets n ≡ true) ↔ RefersToNone notes c start n
    refers n h =
        let lost = λ (uid : List ℕ). not (has_instance sets uid) in
        let of_items = λ (o : Option (List ItemParts)). option_map_or (flat_map references_of) o [] in (
          λ t.
              elim (set_items n) as (λ o. set_items n ≡ o → list_any lost (of_items o) ≡ true → RefersToNone notes c start n) [
                | None ↦ λ e u. absurd cc
                | Some items ↦ λ e u.
                    let s = (list_any-In lost (flat_map references_of items)).0 u in
                    let f = (In-flat_map references_of items s.0).0 s.1 in record {
                      items = items;
                      made = (set_items_iff n (Some items) h).0 e;
                      item = f.0;
                      has = f.1;
                      uid = s.0;
                      holds = (holds f.0 s.0).0 f.2;
                      none = λ m i k. not-true-false (has_instance sets s.0) s.2 ((has s.0).1 (m, i, k));
                    }
              ] refl t,
          λ k.
              let e : set_items n ≡ Some k.items = (set_items_iff n (Some k.items) h).1 k.made in
              subst (λ (o : Option (List ItemParts)). list_any lost (of_items o) ≡ true) (sym e)
              ((list_any-In lost (flat_map references_of k.items)).1 (
                k.uid,
                (In-flat_map references_of k.items k.uid).1 (k.item, k.has, (holds k.item k.uid).1 k.holds),
                not_true (has_instance sets k.uid) (λ t. let s = (has k.uid).0 t in k.none s.0 s.1 s.2),
              )),
        )

  -- The offsets of a copy that begins there.
  abbrev offsets_from : CopyInfo → Option ℕ → List ℕ
  offsets_from c start =
      let sets = sets_from (clear_notes notes) c.bytes start in
      map (λ n. n.offset) (filter (refers_to_none sets) sets)

  chosen : (c : CopyInfo) (start o : ℕ) → In o (offsets_from c (Some start))
      ↔ ((n : NoteParts) × IsSetIn notes c start n × RefersToNone notes c start n × (n.offset ≡ o))
  chosen c start o =
      let m = In-chosen (λ (n : NoteParts). n.offset) (refers_to_none (sets c start)) (sets c start) o in (
        λ h.
            let s = m.0 h in
            let i = (set_in notes c start s.0).0 s.1 in
            (s.0, i, (refers c start s.0 (b s.0 i.0.clear.held)).0 s.2, s.3),
        λ k. m.1 (k.0, (set_in notes c start k.0).1 k.1, (refers c start k.0 (b k.0 k.1.0.clear.held)).1 k.2, k.3),
      )

  pub lost_references : (o : ℕ) → In o (flat_map (unreferred notes) (copies_of notes)) ↔ IsUnreferred notes o
  unfolding unreferred
  lost_references o =
      let m = In-flat_map (unreferred notes) (copies_of notes) o in (
        λ h.
            let s = m.0 h in
            let c = s.0 in
            let tests = is_orderly notes c && is_told_from notes c.bytes c.start in
            elim tests as (λ t. tests ≡ t → In o (if t then offsets_from c c.start else []) → IsUnreferred notes o) [
              | true ↦ λ t i.
                  let p = and_parts (is_orderly notes c) (is_told_from notes c.bytes c.start) t in
                  let k = (orderly notes c r s.1).0 p.0 in
                  let e = k.1.begins in
                  let told = (told_from c k.0).0 (subst (λ (x : Option ℕ). is_told_from notes c.bytes x ≡ true) e p.1) in
                  let n = (chosen c k.0 o).0 (subst (λ (x : Option ℕ). In o (offsets_from c x)) e i) in record {
                    copy = c;
                    start = k.0;
                    orderly = k.1;
                    told = told;
                    set = n.0;
                    in_copy = n.1;
                    there = n.3;
                    refers = n.2;
                  }
              | false ↦ λ t i. absurd i
            ] refl s.2,
        λ k.
            let c = k.copy in
            let i = (copies_are notes c r).1 k.orderly.copied in
            let e = sym k.orderly.begins in
            let told = subst (λ (x : Option ℕ). is_told_from notes c.bytes x ≡ true) e ((told_from c k.start).1 k.told) in
            let t = and_from (is_orderly notes c) (is_told_from notes c.bytes c.start)
            ((orderly notes c r i).1 (k.start, k.orderly)) told in
            m.1 (
              c,
              i,
              subst (λ (x : Bool). In o (if x then offsets_from c c.start else [])) (sym t)
                  (subst (λ (x : Option ℕ). In o (offsets_from c x)) e
                  ((chosen c k.start o).1 (k.set, k.in_copy, k.refers, k.there))),
            ),
      )
