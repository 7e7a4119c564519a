-- What a skim holds of what a reading holds, and which of it is disputed.
use Rattle.mxf_views.proofs.Common.{◌≡◌, Bool, true, false, ◌&&◌, ◌||◌, not, ◌==◌, List, [], ◌∷◌, refl, sym, ap, subst}
use Rattle.mxf_views.proofs.Common.{◌∙◌, inl, inr, NoteParts, In, In-map, all-In, all_from_In, IsContent, IsCatalogue}
use Rattle.mxf_views.proofs.Common.{IsNote, AreReduced, head_note, note_cmp, note_total, length, map, map-map, filter}
use Rattle.mxf_views.proofs.Common.{filter_alike, In-filter, clear_notes, undisputed_notes, is_disputed, is_same_note}
use Rattle.mxf_views.proofs.Common.{disputed_notes, same_bool, same_note-Decides, and_parts, if◌then◌else◌}
use Rattle.std.specs.Ordering.{bool_cmp, nat_cmp, ordering_then}
use Rattle.std.specs.Cmp.Lexicographic.{slice_cmp}
use Rattle.std.specs.FinSet.{nat_cmp-IsAntisymmetric, slice_cmp-IsAntisymmetric}
use Rattle.std.specs.List.{list_any}
use Rattle.std.specs.declared.cmp.Ordering.{Ordering}
use Rattle.std.specs.declared.cmp.Ordering.TheVariants.{Less, Equal, Greater}
use Rattle.mxf_klv.specs.Note.{held_length}
use Rattle.mxf_klv.specs.Rising.{not_less_itself}
use Rattle.mxf_catalogue.specs.Disputes.{disputed_parts, is_byte_shared, is_offset_shared, is_overlapped}
use Rattle.mxf_views.proofs.NumbersLaws.{any_mapped, filter_mapped}
use Rattle.mxf_skim.specs.PassedOver.{is_in_container, is_of_container, passed_note, skimmed}
use Rattle.mxf_skim.proofs.ContainerLaws.{keeps_nothing}
use Rattle.mxf_skimmed.specs.Skims.{NoneAlike, disputed_beside, noted_beside, skim_beside}
use Rattle.mxf_skimmed.proofs.SkimmedNotes.{either_note, noted_is, says_same, stays}

-- ---- orders and lists

-- what decides behind a tie decides the whole
step : (a r s : Ordering) → ordering_then a r ≡ Less → (a ≡ Equal → r ≡ Less → s ≡ Less) → ordering_then a s ≡ Less
step Less r s e f = refl
step Equal r s e f = f refl e
step Greater r s e f = cc

same_from_tie : (a b : Bool) → bool_cmp a b ≡ Equal → a ≡ b
same_from_tie true true e = refl
same_from_tie true false e = cc
same_from_tie false true e = cc
same_from_tie false false e = refl

any_alike : {K : Type 0} (p q : K → Bool) (xs : List K) → ((x : K) → In x xs → p x ≡ q x)
    → list_any p xs ≡ list_any q xs
any_alike p q [] same = refl
any_alike p q (x ∷ xs) same = λ i. same x (inl refl) i || any_alike p q xs (λ y h. same y (inr h)) i

map_alike : {K L : Type 0} (f g : K → L) (xs : List K) → ((x : K) → In x xs → f x ≡ g x) → map f xs ≡ map g xs
map_alike f g [] same = refl
map_alike f g (x ∷ xs) same = λ i. same x (inl refl) i ∷ map_alike f g xs (λ y h. same y (inr h)) i

-- a note that was passed over holds as many bytes as one that was read
as_many : (n : NoteParts) → length n.held ≡ held_length n → length (skimmed n).held ≡ held_length n
as_many n same = elim (is_of_container n) as (λ b. is_of_container n ≡ b
    → length (if b then passed_note n else n).held ≡ held_length n) [
      | true ↦ λ e.
          let p = and_parts n.whole (is_in_container n.key n.length) e in
          let whole = p.0 in
          let none = keeps_nothing n.key n.length p.1 in
          sym (λ i. if whole i then (if none i then n.length else 32) else 0)
      | false ↦ λ e. same
    ] refl

module _ (saved : List NoteParts) where
  abbrev noted : NoteParts → NoteParts
  noted = noted_beside saved

  abbrev skim : List NoteParts → List NoteParts
  skim = skim_beside saved

  -- ---- one note

  pub noted_head : (n : NoteParts) → head_note (noted n) ≡ head_note n
  noted_head n = says_same saved head_note n (λ held. refl)

  of_container_same : (n : NoteParts) → is_of_container (noted n) ≡ is_of_container n
  of_container_same n = says_same saved is_of_container n (λ held. refl)

  -- a skim holds as many bytes as a note has to
  IsNote-noted : (n : NoteParts) → IsNote n → IsNote (noted n)
  IsNote-noted n h = subst IsNote (sym (noted_is saved n)) (record {
    label = h.label;
    width = h.width;
    within = h.within;
    held = either_note saved (λ m. length m.held ≡ held_length n) n h.held (as_many n h.held);
  })

  -- ---- two notes

  -- where all else ties, what is held decides as it did
  tied_held : (m n : NoteParts) → m.offset ≡ n.offset → m.key ≡ n.key → m.width ≡ n.width → m.length ≡ n.length
      → m.whole ≡ n.whole → note_cmp m n ≡ Less
      → (is_of_container m ≡ true → is_of_container n ≡ true → head_note m ≡ head_note n → m ≡ n)
      → slice_cmp nat_cmp m.held n.held ≡ Less → slice_cmp nat_cmp (noted m).held (noted n).held ≡ Less
  tied_held m n offset key width len whole less one last =
      let same : is_of_container m ≡ is_of_container n = λ i. whole i && is_in_container (key i) (len i) in
      elim (is_of_container m) as (λ b. is_of_container m ≡ b
      → slice_cmp nat_cmp (noted m).held (noted n).held ≡ Less) [
        | true ↦ λ e.
            let heads : head_note m ≡ head_note n = λ i. record {
              offset = offset i;
              key = key i;
              width = width i;
              length = len i;
              whole = false;
              held = [];
            } in
            absurd (not_less_itself note_total n
            (subst (λ (x : NoteParts). note_cmp x n ≡ Less) (one e (sym same ∙ e) heads) less))
        | false ↦ λ e.
            let own : (noted m).held ≡ m.held = ap (λ (x : NoteParts). x.held) (stays saved m e) in
            let other : (noted n).held ≡ n.held = ap (λ (x : NoteParts). x.held) (stays saved n (sym same ∙ e)) in
            (λ i. slice_cmp nat_cmp (own i) (other i)) ∙ last
      ] refl

  -- notes rise as they did
  less_same : (m n : NoteParts) → note_cmp m n ≡ Less
      → (is_of_container m ≡ true → is_of_container n ≡ true → head_note m ≡ head_note n → m ≡ n)
      → note_cmp (noted m) (noted n) ≡ Less
  less_same m n less one =
      let bytes = slice_cmp-IsAntisymmetric nat_cmp-IsAntisymmetric in
      (λ i. note_cmp (noted_is saved m i) (noted_is saved n i))
      ∙ step (nat_cmp m.offset n.offset) _ _ less (λ o l.
      step (slice_cmp nat_cmp m.key n.key) _ _ l (λ k l.
      step (nat_cmp m.width n.width) _ _ l (λ w l.
      step (nat_cmp m.length n.length) _ _ l (λ s l.
      step (bool_cmp m.whole n.whole) _ _ l (λ b l.
      tied_held m n (nat_cmp-IsAntisymmetric m.offset n.offset o) (bytes m.key n.key k)
      (nat_cmp-IsAntisymmetric m.width n.width w) (nat_cmp-IsAntisymmetric m.length n.length s)
      (same_from_tie m.whole n.whole b) less one l)))))

  -- where none are alike, a skim makes one note of one alone
  one_noted : (notes : List NoteParts) (m n : NoteParts) → NoneAlike notes → In m notes → In n notes
      → noted m ≡ noted n → m ≡ n
  one_noted notes m n apart i k e =
      let same : is_of_container m ≡ is_of_container n =
      sym (of_container_same m) ∙ ap is_of_container e ∙ of_container_same n in
      elim (is_of_container m) as (λ b. is_of_container m ≡ b → m ≡ n) [
        | true ↦ λ c. apart m n i k c (sym same ∙ c) (sym (noted_head m) ∙ ap head_note e ∙ noted_head n)
        | false ↦ λ c. sym (stays saved m c) ∙ e ∙ stays saved n (sym same ∙ c)
      ] refl

  -- ---- contents

  pub IsContent-skim : (notes : List NoteParts) → IsContent notes → NoneAlike notes → IsContent (skim notes)
  IsContent-skim [] r apart = tt
  IsContent-skim (n ∷ notes) r apart = (
    all_from_In (λ z. note_cmp (noted n) z ≡ Less) (map noted notes) (λ z k.
        let (m, i, e) = (In-map noted notes z).0 k in
        let less = all-In (λ x. note_cmp n x ≡ Less) notes m r.0 i in
        subst (λ x. note_cmp (noted n) x ≡ Less) (sym e) (less_same n m less (apart n m (inl refl) (inr i)))),
    IsContent-skim notes r.1 (λ x y i k. apart x y (inr i) (inr k)),
  )

  pub IsCatalogue-skim : (notes : List NoteParts) → IsCatalogue notes → NoneAlike notes → IsCatalogue (skim notes)
  IsCatalogue-skim notes h apart = record {
    content = IsContent-skim notes h.content apart;
    members = all_from_In IsNote (map noted notes) (λ z k.
        let (m, i, e) = (In-map noted notes z).0 k in
        subst IsNote (sym e) (IsNote-noted m (all-In IsNote notes m h.members i)));
  }

  -- what a skim makes of a note is a head only if the note is one, which stays
  pub head_stays : (m y : NoteParts) → head_note y ≡ noted m → noted m ≡ m
  head_stays m y e =
      let head : m.whole ≡ false =
      sym (says_same saved (λ x. x.whole) m (λ held. refl)) ∙ ap (λ (x : NoteParts). x.whole) (sym e) in
      stays saved m (ap (λ (b : Bool). b && is_in_container m.key m.length) head)

  pub AreReduced-skim : (notes : List NoteParts) → AreReduced notes → AreReduced (skim notes)
  AreReduced-skim notes reduced x h (y, k, ne, tells) =
      let (m, i, is) = (In-map noted notes x).0 h in
      let (n, j, at) = (In-map noted notes y).0 k in
      let own : noted m ≡ m = head_stays m y (tells ∙ is) in
      reduced m i (
        n,
        j,
        λ same. ne (at ∙ ap noted same ∙ sym is),
        sym (noted_head n) ∙ ap head_note (sym at) ∙ tells ∙ is ∙ own,
      )

  -- ---- disputes

  module _ (notes : List NoteParts) (apart : NoneAlike notes) where
    one_note : (m n : NoteParts) → In m notes → In n notes → is_same_note (noted m) (noted n) ≡ is_same_note m n
    one_note m n i k =
        let after = same_note-Decides (noted m) (noted n) in
        let before = same_note-Decides m n in
        same_bool (is_same_note (noted m) (noted n)) (is_same_note m n)
        (λ t. before.1 (one_noted notes m n apart i k (after.0 t)))
        (λ t. after.1 (ap noted (before.0 t)))

    offset_shared : (n : NoteParts) → In n notes → is_offset_shared (noted n) (skim notes) ≡ is_offset_shared n notes
    offset_shared n k =
        any_mapped (λ m. (m.offset == (noted n).offset) && not (is_same_note m (noted n))) noted notes
        ∙ any_alike _ _ notes (λ m i j.
        (says_same saved (λ x. x.offset) m (λ held. refl) j == says_same saved (λ x. x.offset) n (λ held. refl) j)
        && not (one_note m n i k j))

    overlapped : (n : NoteParts) → is_overlapped (noted n) (skim notes) ≡ is_overlapped n notes
    overlapped n =
        any_mapped (λ m. not (m.offset == (noted n).offset) && is_byte_shared m (noted n)) noted notes
        ∙ any_alike _ _ notes (λ m i.
        says_same saved (λ x. not (x.offset == (noted n).offset) && is_byte_shared x (noted n)) m (λ held. refl)
        ∙ says_same saved (λ x. not (m.offset == x.offset) && is_byte_shared m x) n (λ held. refl))

    pub disputed_same : (n : NoteParts) → In n notes → is_disputed (noted n) (skim notes) ≡ is_disputed n notes
    disputed_same n k j = offset_shared n k j || overlapped n j

    parts_same : (n : NoteParts) → In n notes
        → disputed_parts (noted n) (skim notes) ≡ disputed_beside saved (disputed_parts n notes)
    parts_same n k j = record {
      note = noted n;
      same_offset = offset_shared n k j;
      overlaps = overlapped n j;
    }

    pub disputed_skim : disputed_notes (skim notes) ≡ map (disputed_beside saved) (disputed_notes notes)
    disputed_skim =
        let test = λ (n : NoteParts). is_disputed n notes in
        let chosen : filter (λ n. is_disputed n (skim notes)) (skim notes) ≡ map noted (filter test notes) =
        filter_mapped (λ n. is_disputed n (skim notes)) noted notes
        ∙ ap (map noted) (filter_alike (λ n. is_disputed (noted n) (skim notes)) test notes disputed_same) in
        ap (map (λ n. disputed_parts n (skim notes))) chosen
        ∙ map-map (λ n. disputed_parts n (skim notes)) noted (filter test notes)
        ∙ map_alike (λ n. disputed_parts (noted n) (skim notes)) (λ n. disputed_beside saved (disputed_parts n notes))
        (filter test notes) (λ n h. parts_same n ((In-filter test notes n).0 h).0)
        ∙ sym (map-map (disputed_beside saved) (λ n. disputed_parts n notes) (filter test notes))

    pub undisputed_skim : undisputed_notes (skim notes) ≡ skim (undisputed_notes notes)
    undisputed_skim =
        filter_mapped (λ n. not (is_disputed n (skim notes))) noted notes
        ∙ ap (map noted) (filter_alike (λ n. not (is_disputed (noted n) (skim notes)))
        (λ n. not (is_disputed n notes)) notes (λ n h. ap not (disputed_same n h)))

    pub clear_skim : clear_notes (skim notes) ≡ skim (clear_notes notes)
    clear_skim =
        ap (filter (λ n. n.whole)) undisputed_skim
        ∙ filter_mapped (λ n. n.whole) noted (undisputed_notes notes)
        ∙ ap (map noted) (λ i. filter (λ n. says_same saved (λ x. x.whole) n (λ held. refl) i) (undisputed_notes notes))
