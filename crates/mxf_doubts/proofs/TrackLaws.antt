-- Tracks that are named, and essence that no track names, in words.
use Rattle.mxf_views.proofs.Common.{◌≡◌, ◌≢◌, ◌↔◌, ◌∙◌, ℕ, Bool, true, false, List, [], ◌∷◌, ◌&&◌, ◌==◌, not, if◌then◌else◌, length}
use Rattle.mxf_views.proofs.Common.{Option, Some, None, AreBytes, IsClear, IsContent, In, In-clear_notes, NoteParts, sym, ap, refl, subst}
use Rattle.mxf_views.proofs.Common.{and_from, and_parts, bytes_eq, bytes_eq-Decides, drop, eq-eqb, eqb-true, filter, filter_map}
use Rattle.mxf_views.proofs.Common.{kind_of, list_any, list_any-In, not_true, inl}
use Rattle.std.specs.Option.{option_map_or}
use Rattle.std.specs.Prelude.{unwrap_or}
use Rattle.mxf_klv.proofs.Lists.{In-filter, In-filter_map, In-flat_map}
use Rattle.mxf_klv.proofs.Tests.{not-true-false}
use Rattle.mxf_klv.specs.declared.kinds.Kind.{Kind}
use Rattle.mxf_klv.specs.declared.kinds.Kind.TheVariants as kinds
use Rattle.mxf_sets.specs.Items.{ItemParts}
use Rattle.mxf_catalogue.specs.Disputes.{clear_notes}
use Rattle.mxf_views.proofs.SetItemLaws.{set_items_iff}
use Rattle.mxf_views.specs.SetItems.{IsMadeUpOf, set_items}
use Rattle.mxf_doubts.specs.DoubtCauses.{IsUntracked, NamesTrack}
use Rattle.mxf_doubts.specs.Sound.{is_in_sound_zone}
use Rattle.mxf_doubts.specs.Strange.{is_essence, is_lone}
use Rattle.mxf_doubts.specs.Tracks.{is_any, is_no_track, is_raw_set, is_untracked, named_tracks, numbers_in, track_number}
use Rattle.mxf_doubts.proofs.LoneLaws.{lone}
use Rattle.mxf_doubts.proofs.SoundLaws.{in_sound_zone}
use Rattle.mxf_doubts.proofs.StrangeLaws.{essence_kind, three, three_from}

raw_kind : (k : Kind) → (is_raw_set k ≡ true) ↔ (k ≡ kinds.RawSet)
raw_kind kinds.RawSet = (λ e. refl, λ e. refl)
raw_kind _ = (λ e. absurd cc, λ e. absurd cc)

abbrev zeros : List ℕ
zeros = 0x00 ∷ 0x00 ∷ 0x00 ∷ 0x00 ∷ []

abbrev number_test : ItemParts → Bool
number_test i = (i.tag == 0x4804) && (length i.value == 4) && not (bytes_eq i.value zeros)

number_says : (i : ItemParts) (number : List ℕ) → track_number i ≡ Some number
    → (i.tag ≡ 0x4804) × (i.value ≡ number) × (length number ≡ 4) × (number ≢ zeros)
number_says i number e =
    elim (number_test i) as (λ b. number_test i ≡ b → (if b then Some i.value else None) ≡ Some number
    → (i.tag ≡ 0x4804) × (i.value ≡ number) × (length number ≡ 4) × (number ≢ zeros)) [
      | true ↦ λ t f.
          let p = three (i.tag == 0x4804) (length i.value == 4) (not (bytes_eq i.value zeros)) t in
          let same : i.value ≡ number = ap (λ (o : Option (List ℕ)). unwrap_or o []) f in (
            eqb-true i.tag 0x4804 p.0,
            same,
            subst (λ (v : List ℕ). length v ≡ 4) same (eqb-true (length i.value) 4 p.1),
            λ z. not-true-false (bytes_eq i.value zeros) p.2 ((bytes_eq-Decides i.value zeros).1 (same ∙ z)),
          )
      | false ↦ λ t f. absurd cc
    ] refl e

number_from : (i : ItemParts) (number : List ℕ) → i.tag ≡ 0x4804 → i.value ≡ number → length number ≡ 4 → number ≢ zeros
    → track_number i ≡ Some number
number_from i number tag same four some =
    let t : number_test i ≡ true = three_from (i.tag == 0x4804) (length i.value == 4) (not (bytes_eq i.value zeros))
    (eq-eqb i.tag 0x4804 tag) (eq-eqb (length i.value) 4 (ap length same ∙ four))
    (not_true (bytes_eq i.value zeros) (λ t. some (sym same ∙ (bytes_eq-Decides i.value zeros).0 t))) in
    ap (λ (b : Bool). if b then Some i.value else None) t ∙ ap Some same

-- The numbers in a set.
abbrev HasNumber : NoteParts → List ℕ → Type 0
HasNumber n number =
    (kind_of n.key ≡ kinds.RawSet)
    × ((items : List ItemParts) × IsMadeUpOf n items × ((i : ItemParts) × In i items × (track_number i ≡ Some number)))

in_set : (n : NoteParts) (number : List ℕ) → AreBytes n.held → In number (numbers_in n) ↔ HasNumber n number
unfolding numbers_in
in_set n number b =
    let raw = is_raw_set (kind_of n.key) in
    let of_items = λ (o : Option (List ItemParts)). option_map_or (filter_map track_number) o [] in (
      λ h.
          elim raw as (λ r. raw ≡ r → In number (if r then of_items (set_items n) else []) → HasNumber n number) [
            | true ↦ λ t h.
                elim (set_items n) as (λ o. set_items n ≡ o → In number (of_items o) → HasNumber n number) [
                  | None ↦ λ e h. absurd h
                  | Some items ↦ λ e h.
                      let s = (In-filter_map track_number items number).0 h in
                      ((raw_kind (kind_of n.key)).0 t, (items, (set_items_iff n (Some items) b).0 e, (s.0, s.1, s.2)))
                ] refl h
            | false ↦ λ t h. absurd h
          ] refl h,
      λ s.
          let t : raw ≡ true = (raw_kind (kind_of n.key)).1 s.0 in
          let e : set_items n ≡ Some s.1.0 = (set_items_iff n (Some s.1.0) b).1 s.1.1 in
          subst (λ (r : Bool). In number (if r then of_items (set_items n) else [])) (sym t)
          (subst (λ (o : Option (List ItemParts)). In number (of_items o)) (sym e)
          ((In-filter_map track_number s.1.0 number).1 (s.1.2.0, s.1.2.1, s.1.2.2))),
    )

pub named : (notes : List NoteParts) (number : List ℕ) → IsContent notes → ((n : NoteParts) → In n notes → AreBytes n.held)
    → In number (named_tracks notes) ↔ NamesTrack notes number
named notes number r b =
    let sets = filter (is_in_sound_zone notes) (clear_notes notes) in
    let m = In-flat_map numbers_in sets number in (
      λ h.
          let s = m.0 h in
          let f = (In-filter (is_in_sound_zone notes) (clear_notes notes) s.0).0 s.1 in
          let c = (In-clear_notes s.0 notes).0 f.0 in
          let n = (in_set s.0 number (b s.0 c.held)).0 s.2 in
          let is = number_says n.1.2.0 number n.1.2.2 in record {
            set = s.0;
            clear = c;
            kind = n.0;
            sound = (in_sound_zone notes s.0 r).0 f.1;
            items = n.1.0;
            made = n.1.1;
            item = n.1.2.0;
            has = n.1.2.1;
            tag = is.0;
            value = is.1;
            four = is.2;
            some = is.3;
          },
      λ k. m.1 (
        k.set,
        (In-filter (is_in_sound_zone notes) (clear_notes notes) k.set).1 (
          (In-clear_notes k.set notes).1 k.clear,
          (in_sound_zone notes k.set r).1 k.sound,
        ),
        (in_set k.set number (b k.set k.clear.held)).1 (
          k.kind,
          (k.items, k.made, (k.item, k.has, number_from k.item number k.tag k.value k.four k.some)),
        ),
      ),
    )

any_number : (numbers : List (List ℕ)) → (is_any numbers ≡ true) ↔ ((number : List ℕ) × In number numbers)
any_number [] = (λ t. absurd cc, λ s. absurd s.1)
any_number (n ∷ numbers) = (λ t. (n, inl refl), λ s. refl)

one_number : (number : List ℕ) (numbers : List (List ℕ)) → (list_any (bytes_eq number) numbers ≡ true) ↔ In number numbers
one_number number numbers = (
  λ t.
      let s = (list_any-In (bytes_eq number) numbers).0 t in
      subst (λ (x : List ℕ). In x numbers) (sym ((bytes_eq-Decides number s.0).0 s.2)) s.1,
  λ i. (list_any-In (bytes_eq number) numbers).1 (number, i, (bytes_eq-Decides number number).1 refl),
)

pub untracked : (notes : List NoteParts) (n : NoteParts) → IsContent notes → ((m : NoteParts) → In m notes → AreBytes m.held)
    → IsClear n notes → (is_untracked notes n ≡ true) ↔ IsUntracked notes n
unfolding is_untracked
untracked notes n r b c =
    let tracks = named_tracks notes in
    let number = drop 12 n.key in
    let essence = is_essence (kind_of n.key) in
    let any = list_any (bytes_eq number) tracks in (
      λ t.
          let p = three essence (is_lone notes n) (is_no_track notes number) t in
          let q = and_parts (is_any tracks) (not any) p.2 in
          let s = (any_number tracks).0 q.0 in record {
            kind = (essence_kind (kind_of n.key)).0 p.0;
            lone = (lone notes n r c.held).0 p.1;
            some = (s.0, (named notes s.0 r b).0 s.1);
            none = λ k. not-true-false any q.1 ((one_number number tracks).1 ((named notes number r b).1 k));
          },
      λ k. three_from essence (is_lone notes n) (is_no_track notes number) ((essence_kind (kind_of n.key)).1 k.kind)
          ((lone notes n r c.held).1 k.lone)
          (and_from (is_any tracks) (not any) ((any_number tracks).1 (k.some.0, (named notes k.some.0 r b).1 k.some.1))
          (not_true any (λ t. k.none ((named notes number r b).0 ((one_number number tracks).0 t))))),
    )
