-- What the readers and writers of a file's parts come to.
use Rattle.mxf_klv.proofs.Common.{◌≡◌, ℕ, zero, suc, ◌+◌, ◌-◌, ◌^◌, ◌<◌, ◌≤◌, Bool, true, false, cond, List, [], ◌∷◌}
use Rattle.mxf_klv.proofs.Common.{◌++◌, length, take, drop, get_or, Result, Ok, Option, Some, sym, ap, subst, ◌∙◌}
use Rattle.mxf_klv.proofs.Common.{arith, ◌↔◌, append_assoc, append-nil, length-append, cases_lt, drop_at, take_all}
use Rattle.mxf_klv.proofs.Common.{length-take, get_or-take, get_or-drop, get_or_past, take-append-le, flat_map-append}
use Rattle.mxf_klv.proofs.Common.{get_or_from_slice_get, slice_get_within, w64, from_be_bytes, to_be_bytes, flat_map}
use Rattle.mxf_klv.proofs.Common.{ordering_index, Ordering, Less, Appends, NoteParts, keeps, note_cmp, note_parts}
use Rattle.mxf_klv.proofs.Common.{note_total, StopsIn, WritesPart, counted}
use Rattle.mxf_klv.specs.declared.writing.WriteFault.{WriteFault}
use Rattle.std.proofs.Common.{take-append-drop}
use Rattle.std.specs.Prelude.{IsTrue, ◌==◌}
use Rattle.std.specs.List.{slice_get}
use Rattle.mxf_klv.proofs.WrittenParts.{StopsIn-part, WritesPart-after}
use Rattle.mxf_catalogue.specs.declared.catalogue.file.FileFault.{FileFault}
use Rattle.mxf_catalogue.specs.declared.catalogue.file.fixed_part.FixedPart.{FixedPart}
use Rattle.mxf_catalogue.specs.Content.{IsContent}
use Rattle.mxf_catalogue.specs.declared.catalogue.file.start.Version.{Version}
use Rattle.mxf_catalogue.specs.declared.catalogue.file.start.Version.TheVariants.{Two}
use Rattle.mxf_catalogue.specs.CatalogueFile.{version_byte, number_bytes, CanBeNoted, note_bytes, start_bytes}
use Rattle.mxf_catalogue.specs.CatalogueFile.{BeginsAsFile, BeginsWithFixedPart, BeginsWithMark, BeginsWithNote}
use Rattle.mxf_catalogue.specs.CatalogueFile.{BeginsWithParts, IsRefused, IsFront, StopsAt, CanHave, IsMarkIn, mark_of}
use Rattle.mxf_catalogue.specs.FileReading.{NoteBehindMark, RefusesNote}
use Rattle.mxf_catalogue.proofs.FileBytes.{front_place, number_in, regrouped, length-number_bytes, rising_push}
use Rattle.mxf_catalogue.proofs.FileBytes.{rising_last}

-- ---- reading

fits_in_front : (n : ℕ) (bytes : List ℕ) → ((i : ℕ) → get_or bytes i 0 < 256) → (i : ℕ)
    → get_or (take n bytes) i 0 < 256
fits_in_front n bytes h i = grind (arith, cases_lt, get_or-take, get_or_past, length-take)

pub number_split : (bytes front rest : List ℕ) (n : ℕ) → front ≡ take 8 bytes → rest ≡ drop 8 bytes → 8 ≤ length bytes
    → ((i : ℕ) → get_or bytes i 0 < 256) → n ≡ from_be_bytes w64 front → bytes ≡ number_bytes n ++ rest
number_split bytes front rest n f r long h e =
    grind (
      arith,
      length-take 8 bytes,
      fits_in_front 8 bytes h,
      take-append-drop 8 bytes,
      number_in front n,
      number_bytes n,
    )

pub fixed_part_split : (bytes a key b c d : List ℕ) (offset width len : ℕ) → bytes ≡ number_bytes offset ++ a
    → offset < 2 ^ 64 → key ≡ take 16 a → b ≡ drop 16 a → 16 ≤ length a → b ≡ width ∷ c
    → c ≡ number_bytes len ++ d → len < 2 ^ 64 → ((i : ℕ) → get_or bytes i 0 < 256)
    → BeginsWithFixedPart bytes (record { offset = offset; key = key; width = width; length = len }) d
fixed_part_split bytes a key b c d offset width len e o k r long w l p h =
    let first : a ≡ drop 8 bytes = sym (ap (drop 8) e ∙ drop_at (number_bytes offset) a 8 (length-number_bytes offset))
    in
    let at : width ≡ get_or bytes 24 0 = ap (λ (t : List ℕ). get_or t 0 0) (sym w ∙ r) ∙ get_or-drop 16 a 0 0
    ∙ ap (λ (t : List ℕ). get_or t 16 0) first ∙ get_or-drop 8 bytes 16 0 in
    let fits = h 24 in
    record {
      fixed = record {
        offset = o;
        key = ap length k ∙ omega (arith, length-take 16 a);
        width = rw (sym at) at fits;
        length = p;
      };
      whole = e ∙ ap (λ (t : List ℕ). number_bytes offset ++ t) (sym (take-append-drop 16 a)
          ∙ ap (λ (t : List ℕ). t ++ drop 16 a) (sym k)
          ∙ ap (λ (t : List ℕ). key ++ t) (sym r ∙ w ∙ ap (λ (t : List ℕ). width ∷ t) l))
          ∙ sym (regrouped (record { offset = offset; key = key; width = width; length = len }) d);
    }

pub at_front_of_rest : (n : ℕ) (bytes rest more : List ℕ) (v : ℕ) → rest ≡ drop n bytes → rest ≡ v ∷ more
    → slice_get bytes n ≡ Some v
at_front_of_rest zero [] rest more v r e = let f : length (v ∷ more) ≡ 0 = ap length (sym e ∙ r) in absurd (omega arith)
at_front_of_rest zero (b ∷ bytes) rest more v r e = ap (λ (t : List ℕ). Some (get_or t 0 0)) (sym r ∙ e)
at_front_of_rest (suc n) [] rest more v r e = cc
at_front_of_rest (suc n) (b ∷ bytes) rest more v r e = at_front_of_rest n bytes rest more v r e

pub start_split : (version : Version) (bytes rest more left : List ℕ) (v count : ℕ) → BeginsAsFile bytes
    → 7 ≤ length bytes → rest ≡ drop 7 bytes → rest ≡ v ∷ more → v ≡ version_byte version
    → more ≡ number_bytes count ++ left → bytes ≡ start_bytes version count ++ left
start_split version bytes rest more left v count b long r e w m = grind (arith, take-append-drop, take_all)

is_less : (o : Ordering) → IsTrue (ordering_index o == 0) ↔ (o ≡ Less)
is_less o = grind arith

pub above_last : (notes : List NoteParts) (last n : NoteParts) (b : Bool)
    → Some last ≡ slice_get notes (length notes - 1) → IsContent notes → b ≡ (ordering_index (note_cmp last n) == 0)
    → IsTrue b ↔ IsContent (notes ++ n ∷ [])
above_last notes last n b at r e =
    let k = length notes - 1 in
    let within : k < length notes = slice_get_within notes k last (sym at) in
    let is : get_or notes k last ≡ last = get_or_from_slice_get notes k last last (sym at) in
    let test = is_less (note_cmp last n) in (
      λ h. rising_push note_total notes k last n (omega arith) r
          (subst (λ (m : NoteParts). note_cmp m n ≡ Less) (sym is) (test.0 (sym e ∙ h))),
      λ h. e ∙ test.1
          (subst (λ (m : NoteParts). note_cmp m n ≡ Less) is (rising_last note_cmp notes k last n within h)),
    )

-- the note that holds the first of the bytes behind the mark of a whole packet
pub noted : (h : FixedPart) (n : NoteParts) (bytes held more key : List ℕ) (count : ℕ) → CanBeNoted h
    → count ≡ cond (keeps h.key h.length) h.length 32 → key ≡ h.key → n ≡ note_parts h.offset key h.width h.length held
    → held ≡ take count bytes → more ≡ drop count bytes → count ≤ length bytes → NoteBehindMark h 0 bytes n more
noted h n bytes held more key count g many k is d m long =
    grind (
      arith,
      note_parts h.offset h.key h.width h.length held,
      note_parts h.offset,
      length-take count bytes,
      take-append-drop count bytes,
    )

whole_marked : (whole : Bool) → mark_of whole ≡ 0 → whole ≡ true
whole_marked whole h = grind arith

can_have_marked : (v : Version) (n : NoteParts) → IsMarkIn v (mark_of n.whole) → CanHave v n
can_have_marked v n h = grind (arith, whole_marked)

-- a note that holds what stands behind a fixed part and a mark begins with these
pub note_begins : (v : Version) (f : FixedPart) (mark : ℕ) (bytes rest behind more : List ℕ) (n : NoteParts)
    → BeginsWithFixedPart bytes f rest → BeginsWithMark v rest mark behind → NoteBehindMark f mark behind n more
    → BeginsWithNote v bytes n more
note_begins v f mark bytes rest behind more n b m h = grind (arith, append_assoc, can_have_marked)

-- the fixed part and the mark at the front
pub parts_begin : (v : Version) (f : FixedPart) (mark : ℕ) (bytes rest behind : List ℕ)
    → BeginsWithFixedPart bytes f rest → BeginsWithMark v rest mark behind → BeginsWithParts v bytes f mark behind
parts_begin v f mark bytes rest behind b m = grind arith

-- ---- writing

-- a fault in the first of two parts is a fault of the whole
pub fails_in_first : (a c : Option (List ℕ)) (before after : ℕ) (e : WriteFault) (bytes part rest : List ℕ)
    → bytes ≡ part ++ rest
    → StopsIn a c before e part × (after ≡ e.written) → StopsIn a c before e bytes × (after ≡ e.written)
fails_in_first a c before after e bytes part rest is (q, told) = grind (arith, length-append, take-append-le)

-- the first part was written, and what is told of the second is told of the whole
pub WritesPart-second : {X : Type 0} (a b c : Option (List ℕ)) (before mid after : ℕ) (r : Result X WriteFault)
    (bytes part rest : List ℕ) → bytes ≡ part ++ rest → Appends a b part
    → mid ≡ counted (before + length part) → WritesPart b c mid after r rest → WritesPart a c before after r bytes
WritesPart-second a b c before mid after r bytes part rest is p m q = grind (arith, WritesPart-after)

-- the bytes of notes, of which one stands behind some and before others
flat_at : (notes done rest : List NoteParts) (n : NoteParts) → done ++ n ∷ rest ≡ notes
    → (flat_map (note_bytes Two) done ++ note_bytes Two n) ++ flat_map (note_bytes Two) rest
    ≡ flat_map (note_bytes Two) notes
flat_at notes done rest n is = grind (arith, append_assoc, flat_map-append)

-- a fault in a note is a fault of all of them
pub fails_in_note : (a b c : Option (List ℕ)) (before mid after : ℕ) (e : WriteFault) (notes done rest : List NoteParts)
    (n : NoteParts) → done ++ n ∷ rest ≡ notes → Appends a b (flat_map (note_bytes Two) done)
    → mid ≡ counted (before + length (flat_map (note_bytes Two) done))
    → StopsIn b c mid e (note_bytes Two n) × (after ≡ e.written)
    → StopsIn a c before e (flat_map (note_bytes Two) notes) × (after ≡ e.written)
fails_in_note a b c before mid after e notes done rest n is p m (q, told) =
    grind (
      arith,
      flat_at notes done rest n is,
      StopsIn-part a b c before mid e (flat_map (note_bytes Two) done) (note_bytes Two n)
          (flat_map (note_bytes Two) rest) p m q,
      flat_map (note_bytes Two) done,
      note_bytes Two,
      note_bytes Two n,
      flat_map (note_bytes Two) rest,
    )

pub number_is : (n m : ℕ) (bs : List ℕ) → bs ≡ to_be_bytes w64 n → n ≡ m → number_bytes m ≡ bs
unfolding number_bytes
number_is n m bs e f = ap (to_be_bytes w64) (sym f) ∙ sym e

-- one more note was written
pub note_written : (a b c : Option (List ℕ)) (before mid after : ℕ) (done : List NoteParts) (n : NoteParts)
    → Appends a b (flat_map (note_bytes Two) done) → mid ≡ counted (before + length (flat_map (note_bytes Two) done))
    → Appends b c (note_bytes Two n) → after ≡ counted (mid + length (note_bytes Two n))
    → Appends a c (flat_map (note_bytes Two) (done ++ n ∷ []))
    × (after ≡ counted (before + length (flat_map (note_bytes Two) (done ++ n ∷ []))))
note_written a b c before mid after done n p m q r =
    let flat : flat_map (note_bytes Two) (done ++ n ∷ []) ≡ flat_map (note_bytes Two) done ++ note_bytes Two n =
    flat_map-append (note_bytes Two) done (n ∷ [])
    ∙ ap (λ (t : List ℕ). flat_map (note_bytes Two) done ++ t) (append-nil (note_bytes Two n)) in
    WritesPart-second {X = Unit {0}} a b c before mid after (Ok tt) (flat_map (note_bytes Two) (done ++ n ∷ []))
    (flat_map (note_bytes Two) done) (note_bytes Two n) flat p m (q, r)

-- ---- faults behind a front

pub stops : (v : Version) (bytes rest : List ℕ) (count place : ℕ) (notes : List NoteParts)
    (why : Version → ℕ → List NoteParts → List ℕ → Type 0) → IsFront v bytes count notes rest
    → place ≡ length bytes - length rest → why v count notes rest → StopsAt bytes place why
stops v bytes rest count place notes why f at w = grind (arith, front_place)

pub note_fault : (v : Version) (bytes rest : List ℕ) (count place : ℕ) (notes : List NoteParts) (fault : FileFault)
    → IsFront v bytes count notes rest → length notes < count → place ≡ length bytes - length rest
    → RefusesNote v place rest fault → IsRefused bytes fault
note_fault v bytes rest count place notes fault h k e p = grind (arith, stops)

pub is_some : (n : ℕ) → false ≡ (n == 0) → 0 < n
is_some n h = grind arith
