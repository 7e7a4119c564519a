-- The primer pack of a set.
use Rattle.mxf_views.proofs.Common.{◌≡◌, ℕ, ◌<◌, ◌≤◌, Bool, true, false, cond, List, [], ◌∷◌, Option, Some, None, refl}
use Rattle.mxf_views.proofs.Common.{sym, ap, subst, ◌∙◌, inl, inr, arith, eqb-true, eq-eqb, ◌↔◌, ◌==◌, find}
use Rattle.mxf_views.proofs.Common.{option_and_then, NoteParts, In, primer_at, read_as, IsContent, IsClear, clear_notes}
use Rattle.mxf_views.proofs.Common.{In-clear_notes, CopiesRise, IsCopy, IsStart, copies_of, is_in_copy, primer_there}
use Rattle.mxf_views.proofs.Common.{find-only, found-In, none_found, all-In, BatchParts, IsPrimerOf, IsStartFound}
use Rattle.mxf_views.proofs.Common.{primer_for, primer_of}
use Rattle.mxf_views.specs.declared.copy.CopyInfo.{CopyInfo}
use Rattle.mxf_views.specs.Labels.{is_in_zone, IsFirstWith, IsInZoneOf, IsPrimerFor}
use Rattle.mxf_views.proofs.KeptItems.{one_note}
use Rattle.mxf_views.proofs.CopyLaws.{copies_are, copies_rise, one_named}
use Rattle.mxf_views.proofs.ReadingLaws.{reads}

-- ---- the copies that have a packet

zone_says : (n : NoteParts) (c : CopyInfo) (o : Option ℕ) → c.start ≡ o → is_in_zone n c.bytes o ≡ true → IsInZoneOf n c
zone_says n c None e h = absurd cc
zone_says n c (Some s) e h = grind (arith)

in_copy : (n : NoteParts) (c : CopyInfo) → (is_in_copy n c ≡ true) ↔ IsInZoneOf n c
in_copy n c = grind (arith, zone_says)

-- what is found in copies that rise is the first
found_first : (p : CopyInfo → Bool) (copies : List CopyInfo) (c d : CopyInfo) → CopiesRise copies
    → find p copies ≡ Some c → In d copies → p d ≡ true → c.partition ≤ d.partition
found_first p [] c d r e h t = absurd h
found_first p (x ∷ copies) c d r e h t =
    elim (p x) as (λ b. p x ≡ b → cond b (Some x) (find p copies) ≡ Some c → c.partition ≤ d.partition) [
      | true ↦ λ _ q.
          let same : x ≡ c = cc (q) in
          let at = ap (λ (y : CopyInfo). y.partition) same in
          elim h [
            | inl f ↦ let k = ap (λ (y : CopyInfo). y.partition) f in omega (arith, at, k)
            | inr k ↦
                let l : x.partition < d.partition = all-In (λ
                (y : CopyInfo). x.partition < y.partition) copies d r.0 k in
                omega (arith, at, l)
          ]
      | false ↦ λ u q. elim h [
        | inl f ↦ let k = ap p f in absurd (cc (k, t, u))
        | inr k ↦ found_first p copies c d r.1 q k t
      ]
    ] refl e

-- ---- the primer at a start

there_is : (notes : List NoteParts) (n : NoteParts) (primer : BatchParts) → IsClear n notes → IsPrimerOf n primer
    → primer_there notes n.offset ≡ Some primer
there_is notes n primer c i =
    let clear = clear_notes notes in
    let found = find-only (λ (m : NoteParts). m.offset == n.offset) clear n ((In-clear_notes n notes).1 c)
    (eq-eqb n.offset n.offset refl)
    (λ m h t. one_note notes m n ((In-clear_notes m notes).0 h) c (eqb-true m.offset n.offset t)) in
    ap (option_and_then (read_as primer_at)) found ∙ (reads primer_at n primer).1 i.1

-- the primer of a copy with a start
pub start_of_copy : (notes : List NoteParts) (c : CopyInfo) (s : ℕ) → (i : IsCopy notes c) → c.start ≡ Some s
    → IsStart notes i.0.end s
start_of_copy notes c s i e = subst (IsStartFound notes i.0.end) e i.2.start

copy_primer : (notes : List NoteParts) (n : NoteParts) (c : CopyInfo) → IsFirstWith notes n c
    → IsPrimerFor notes n (primer_of notes c)
copy_primer notes n c f =
    let a = start_of_copy notes c f.has.start f.copied f.has.begins in
    let begins : c.start ≡ Some a.primer.offset = f.has.begins ∙ ap (λ (k : ℕ). Some k) (sym a.there) in
    let is : primer_of notes c ≡ Some a.readable.0 = ap (option_and_then (primer_there notes)) begins
    ∙ there_is notes a.primer a.readable.0 a.clear a.readable.1 in
    subst (IsPrimerFor notes n) (sym is) record {
      copy = c;
      first = f;
      note = a.primer;
      clear = a.clear;
      there = begins;
      read = a.readable.1;
    }

primer_is : (notes : List NoteParts) (n : NoteParts) → IsContent notes → IsPrimerFor notes n (primer_for notes n)
unfolding primer_for
primer_is notes n r =
    let copies = copies_of notes in
    elim (find (is_in_copy n) copies) as (λ o. find (is_in_copy n) copies ≡ o
    → IsPrimerFor notes n (option_and_then (primer_of notes) o)) [
      | None ↦ λ e c i h. none_found (is_in_copy n) copies c e ((copies_are notes c r).1 i) ((in_copy n c).1 h)
      | Some c ↦ λ e.
          let f = found-In (is_in_copy n) copies c e in
          copy_primer notes n c record {
            copied = (copies_are notes c r).0 f.0;
            has = (in_copy n c).0 f.1;
            first = λ d i h. found_first (is_in_copy n) copies c d (copies_rise notes r) e ((copies_are notes d r).1 i)
                ((in_copy n d).1 h);
          }
    ] refl

-- ---- there is one

same_primer : (a b : NoteParts) (x y : BatchParts) → a ≡ b → IsPrimerOf a x → IsPrimerOf b y → x ≡ y
same_primer a b x y e i j = grind (arith, reads)

one_primer : (notes : List NoteParts) (n : NoteParts) (a b : Option BatchParts) → IsContent notes
    → IsPrimerFor notes n a → IsPrimerFor notes n b → a ≡ b
one_primer notes n None None r x y = refl
one_primer notes n None (Some b) r x y = absurd (x y.copy y.first.copied y.first.has)
one_primer notes n (Some a) None r x y = absurd (y x.copy x.first.copied x.first.has)
one_primer notes n (Some a) (Some b) r x y =
    let low : x.copy.partition ≤ y.copy.partition = x.first.first y.copy y.first.copied y.first.has in
    let high : y.copy.partition ≤ x.copy.partition = y.first.first x.copy x.first.copied x.first.has in
    let copy : x.copy ≡ y.copy = one_named notes x.copy y.copy r x.first.copied y.first.copied (omega arith) in
    let starts : Some x.note.offset ≡ Some y.note.offset =
    sym x.there ∙ ap (λ (c : CopyInfo). c.start) copy ∙ y.there in
    let offset : x.note.offset ≡ y.note.offset = cc (starts) in
    let note = one_note notes x.note y.note x.clear y.clear offset in
    ap (λ (p : BatchParts). Some p) (same_primer x.note y.note a b note x.read y.read)

-- The primer is that of the first copy that has the packet.
pub primer_for_iff : (notes : List NoteParts) (n : NoteParts) (primer : Option BatchParts) → IsContent notes
    → (primer_for notes n ≡ primer) ↔ IsPrimerFor notes n primer
primer_for_iff notes n primer r = grind (arith, primer_is, one_primer)
