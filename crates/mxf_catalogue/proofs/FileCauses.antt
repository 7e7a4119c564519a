-- Bytes are the file of a content, or there is a cause in them why they are none.
use Rattle.mxf_klv.proofs.Common.{◌≡◌, ◌≢◌, ℕ, zero, suc, ◌+◌, ◌-◌, ◌^◌, ◌<◌, ◌≤◌, Bool, List, [], ◌∷◌, ◌++◌, length}
use Rattle.mxf_klv.proofs.Common.{get_or, take, drop, Option, None, Some, refl, sym, ap, subst, ◌∙◌, arith, inl, inr}
use Rattle.mxf_klv.proofs.Common.{◌⊎◌, append_assoc, length-append, cases_lt, length-drop, length-take}
use Rattle.mxf_klv.proofs.Common.{bytes_eq-Decides, Decides, w64, from_be_bytes, AllByRecursion, IsSomeAnd, IfSome}
use Rattle.mxf_klv.proofs.Common.{bytes_eq, Ordering, Less, AreBytes, IsLabel, head_note, note_cmp, CanSpell, NoteParts}
use Rattle.mxf_klv.proofs.Common.{IsRising}
use Rattle.std.proofs.Common.{take-append-drop}
use Rattle.std.proofs.lemmas.Bool.Decides.{Decides-eqb}
use Rattle.std.specs.List.{slice_get}
use Rattle.std.specs.Prelude.{◌==◌}
use Rattle.mxf_catalogue.specs.declared.catalogue.file.FileFault.{FileFault}
use Rattle.mxf_catalogue.specs.declared.catalogue.file.FileFault.TheVariants.{BadMagic, BadVersion, Truncated, BadNote}
use Rattle.mxf_catalogue.specs.declared.catalogue.file.FileFault.TheVariants.{NotReduced, NotSorted, Trailing}
use Rattle.mxf_catalogue.specs.declared.catalogue.file.FileFault.TheVariants.{OutOfMemory}
use Rattle.mxf_catalogue.specs.declared.catalogue.file.fixed_part.FixedPart.{FixedPart}
use Rattle.mxf_catalogue.specs.declared.catalogue.file.start.Version.{Version}
use Rattle.mxf_catalogue.specs.declared.catalogue.file.start.Version.TheVariants.{One, Two}
use Rattle.mxf_catalogue.specs.CatalogueFile.{magic, number_bytes, start_bytes, fixed_bytes, held_length, CanBeMarked}
use Rattle.mxf_catalogue.specs.CatalogueFile.{CanBeNoted, CanHave, IsFileOf, IsFront, IsRefused, IsCutNote}
use Rattle.mxf_catalogue.specs.CatalogueFile.{BeginsAsFile, BeginsWithFixedPart, BeginsWithMark, BeginsWithNote}
use Rattle.mxf_catalogue.specs.CatalogueFile.{BeginsWithParts, IsHeadLast, IsKnownVersion, IsMarkIn, IsUnknownVersion}
use Rattle.mxf_catalogue.specs.CatalogueFile.{length_ahead, mark_bytes, mark_of, place_after}
use Rattle.mxf_catalogue.proofs.FileBytes.{front_begins, front_next, front_whole, length-fixed_bytes, length-parts}
use Rattle.mxf_catalogue.proofs.FileLaws.{if_some}
use Rattle.mxf_catalogue.proofs.HeadLaws.{AreReduced-push, same_note}
use Rattle.mxf_catalogue.proofs.FileParts.{at_front_of_rest, fixed_part_split, number_split, parts_begin, start_split}
use Rattle.mxf_klv.proofs.RoundTrips.{AreBytes-drop, AreBytes-take}

-- ---- what can be decided

abbrev Decided : Type 0 → Type 0
Decided P = P ⊎ (P → ⊥)

by_test : (b : Bool) (P : Type 0) → Decides b P → Decided P
by_test b P h = grind arith

equal : (m n : ℕ) → Decided (m ≡ n)
equal m n = by_test (m == n) (m ≡ n) (Decides-eqb m n)

at_most : (m n : ℕ) → Decided (m ≤ n)
at_most m n = elim (cases_lt n m) [ inl above ↦ inr (λ h. omega arith) | inr h ↦ inl h ]

can_spell : (width value : ℕ) → Decided (CanSpell width value)
can_spell width value = grind (arith, at_most, cases_lt, equal)

is_label : (key : List ℕ) → Decided (IsLabel key)
is_label key = grind (arith, by_test, bytes_eq-Decides, equal)

can_be_noted : (h : FixedPart) → Decided (CanBeNoted h)
can_be_noted h = grind (arith, at_most, can_spell, is_label)

can_be_marked : (h : FixedPart) (mark : ℕ) → Decided (CanBeMarked h mark)
can_be_marked h mark = grind (arith, at_most, can_be_noted)

behind_first : (x : NoteParts) (xs front back : List NoteParts) → x ∷ xs ≡ front ++ back → 1 ≤ length front
    → (more : List NoteParts) × (xs ≡ more ++ back)
behind_first x xs [] back e l = absurd (omega arith)
behind_first x xs (f ∷ more) back e l = (more, ap (drop 1) e)

is_head_last : (notes : List NoteParts) (n : NoteParts) → Decided (IsHeadLast notes n)
is_head_last [] n = inr (λ k. let len = ap length k.1 ∙ length-append k.0 (head_note n ∷ []) in
    absurd (omega (arith, len)))
is_head_last (x ∷ []) n =
    elim (same_note x (head_note n)) [ inl e ↦ inl ([], ap (λ y. y ∷ []) e) | inr ne ↦ inr (λ k. only k.0 k.1 ne) ]
  where
    only : (front : List NoteParts) → x ∷ [] ≡ front ++ head_note n ∷ [] → (x ≢ head_note n) → ⊥
    only [] e ne = ne (ap (λ (l : List NoteParts). get_or l 0 x) e)
    only (f ∷ front) e ne =
        let len = ap length e ∙ length-append (f ∷ front) (head_note n ∷ []) in absurd (omega (arith, len))
is_head_last (x ∷ y ∷ ys) n =
    elim (is_head_last (y ∷ ys) n) [
      | inl k ↦ inl (x ∷ k.0, ap (λ l. x ∷ l) k.1)
      | inr never ↦ inr (λ k.
          let len = ap length k.1 ∙ length-append k.0 (head_note n ∷ []) in
          never (behind_first x (y ∷ ys) k.0 (head_note n ∷ []) k.1 (omega (arith, len))))
    ]

is_below : (o : Ordering) → Decided (o ≡ Less)
is_below o = grind arith

below_all_of : {K : Type 0} (R : K → K → Ordering) (x : K) (ys : List K)
    → Decided (AllByRecursion (λ y. R x y ≡ Less) ys)
below_all_of R x [] = inl tt
below_all_of R x (y ∷ ys) = grind (arith, is_below, below_all_of R x ys)

is_rising : {K : Type 0} (R : K → K → Ordering) (xs : List K) → Decided (IsRising R xs)
is_rising R [] = inl tt
is_rising R (x ∷ xs) = grind (arith, below_all_of, is_rising R xs)

-- ---- bytes and numbers

bytes_after : (xs ys : List ℕ) → AreBytes (xs ++ ys) → AreBytes ys
bytes_after [] ys h = h
bytes_after (x ∷ xs) ys h = bytes_after xs ys (λ i. h (suc i))

-- eight bytes stand for a number below 2^64
number_small : (bs : List ℕ) → AreBytes bs → from_be_bytes w64 bs < 2 ^ 64
number_small bs h = omega (arith, h 0, h 1, h 2, h 3, h 4, h 5, h 6, h 7)

-- a number in the first eight bytes
record NumberAt (bytes : List ℕ) : Type 0 where
  pub number : ℕ
  pub small : number < 2 ^ 64
  pub whole : bytes ≡ number_bytes number ++ drop 8 bytes

number_at : (bytes : List ℕ) → 8 ≤ length bytes → AreBytes bytes → NumberAt bytes
number_at bytes long h = record {
  number = from_be_bytes w64 (take 8 bytes);
  small = number_small (take 8 bytes) (AreBytes-take 8 bytes h);
  whole = number_split bytes (take 8 bytes) (drop 8 bytes) (from_be_bytes w64 (take 8 bytes)) refl refl long h refl;
}

-- the first byte and the others
record FirstOf (bytes : List ℕ) : Type 0 where
  pub first : ℕ
  pub others : List ℕ
  pub whole : bytes ≡ first ∷ others

first_of : (bytes : List ℕ) → 0 < length bytes → FirstOf bytes
first_of [] l = absurd (omega arith)
first_of (b ∷ bs) l = record { first = b; others = bs; whole = refl }

-- a fixed part in the first 33 bytes
record FixedPartAt (bytes : List ℕ) : Type 0 where
  pub fixed : FixedPart
  pub rest : List ℕ
  pub begins : BeginsWithFixedPart bytes fixed rest

fixed_part_at : (bytes : List ℕ) → 33 ≤ length bytes → AreBytes bytes → FixedPartAt bytes
fixed_part_at bytes long h =
    let a = drop 8 bytes in
    let b = drop 16 a in
    let len_a : length a ≡ length bytes - 8 = length-drop 8 bytes in
    let len_b : length b ≡ length a - 16 = length-drop 16 a in
    let offset : NumberAt bytes = number_at bytes (omega arith) h in
    let width : FirstOf b = first_of b (omega arith) in
    let len_c : length b ≡ length (width.first ∷ width.others) = ap length width.whole in
    let are : AreBytes (width.first ∷ width.others) =
    subst AreBytes width.whole (AreBytes-drop 16 a (AreBytes-drop 8 bytes h)) in
    let len : NumberAt width.others =
    number_at width.others (omega arith) (λ i. are (suc i)) in
    record {
      fixed = record { offset = offset.number; key = take 16 a; width = width.first; length = len.number };
      rest = drop 8 width.others;
      begins = fixed_part_split bytes a (take 16 a) b width.others
          (drop 8 width.others) offset.number width.first len.number
          offset.whole offset.small refl refl (omega arith) width.whole len.whole len.small h;
    }

-- a mark at the front
record MarkAt (v : Version) (bytes : List ℕ) : Type 0 where
  pub mark : ℕ
  pub rest : List ℕ
  pub begins : BeginsWithMark v bytes mark rest

mark_at : (v : Version) (bytes : List ℕ) → length_ahead v ≤ 33 + length bytes → MarkAt v bytes
mark_at One bytes long = record { mark = 0; rest = bytes; begins = record { marked = refl; whole = refl } }
mark_at Two bytes long = grind (arith, first_of bytes (omega (arith, long)))

-- a fixed part and a mark in the first bytes
record PartsAt (v : Version) (bytes : List ℕ) : Type 0 where
  pub fixed : FixedPart
  pub mark : ℕ
  pub rest : List ℕ
  pub begins : BeginsWithParts v bytes fixed mark rest

ahead_from : (v : Version) → 33 ≤ length_ahead v
ahead_from v = grind arith

parts_at : (v : Version) (bytes : List ℕ) → length_ahead v ≤ length bytes → AreBytes bytes → PartsAt v bytes
parts_at v bytes long h =
    let at : FixedPartAt bytes = fixed_part_at bytes (omega (arith, ahead_from v)) h in
    let len = ap length at.begins.whole ∙ length-append (fixed_bytes at.fixed) at.rest in
    let size = length-fixed_bytes at.fixed at.begins.fixed.key in
    let mark : MarkAt v at.rest = mark_at v at.rest (omega (arith, len, size)) in
    record {
      fixed = at.fixed;
      mark = mark.mark;
      rest = mark.rest;
      begins = parts_begin v at.fixed mark.mark bytes at.rest mark.rest at.begins mark.begins;
    }

-- ---- causes

-- what bytes are
abbrev pub IsFileOrRefused : List ℕ → Type 0
IsFileOrRefused bytes = ((notes : List NoteParts) × IsFileOf bytes notes)
    ⊎ ((fault : FileFault) × (fault ≢ OutOfMemory) × IsRefused bytes fault)

-- what longer fronts come to
abbrev GoesOn : Version → List ℕ → List ℕ → ℕ → List NoteParts → Type 0
GoesOn v bytes rest count notes =
    (n : NoteParts) (more : List ℕ) → IsFront v bytes count (notes ++ n ∷ []) more → AreBytes more
    → length more < length rest → IsFileOrRefused bytes

-- all notes are there
ended : (v : Version) (bytes rest : List ℕ) (count : ℕ) (notes : List NoteParts) → IsFront v bytes count notes rest
    → length notes ≡ count → IsFileOrRefused bytes
ended v bytes [] count notes f e = inl (notes, (v, front_whole v bytes [] count notes f e refl))
ended v bytes (b ∷ bs) count notes f e = inr (
  Trailing (place_after v notes),
  λ h. cc,
  record { version = v; count = count; notes = notes; rest = b ∷ bs; front = f; stands = refl; why = (e, omega arith) },
)

cut : (v : Version) (bytes rest : List ℕ) (count : ℕ) (notes : List NoteParts) → IsFront v bytes count notes rest
    → length notes < count → IsCutNote v rest → IsFileOrRefused bytes
cut v bytes rest count notes f lt is = inr (
  Truncated (place_after v notes),
  λ h. cc,
  inr (record { version = v; count = count; notes = notes; rest = rest; front = f; stands = refl; why = (lt, is) }),
)

-- a note stands at the front
behind_note : (v : Version) (bytes rest more : List ℕ) (count : ℕ) (notes : List NoteParts) (n : NoteParts)
    → IsFront v bytes count notes rest → length notes < count → BeginsWithNote v rest n more → AreBytes more
    → length more < length rest → GoesOn v bytes rest count notes → IsFileOrRefused bytes
behind_note v bytes rest more count notes n f lt b are short next =
    elim (is_rising note_cmp (notes ++ n ∷ [])) [
      | inl rises ↦ elim (is_head_last notes n) [
        | inl last ↦ inr (
          NotReduced (place_after v notes),
          λ h. cc,
          record {
            version = v;
            count = count;
            notes = notes;
            rest = rest;
            front = f;
            stands = refl;
            why = (lt, (n, more, b, rises, last));
          },
        )
        | inr never ↦
            let red = AreReduced-push notes n rises f.reduced
            (λ front l e t. never (front, e ∙ ap (λ h. front ++ h ∷ []) (sym t))) in
            next n more (front_next v bytes rest more count notes n f lt b rises red) are short
      ]
      | inr never ↦ inr (
        NotSorted (place_after v notes),
        λ h. cc,
        record {
          version = v;
          count = count;
          notes = notes;
          rest = rest;
          front = f;
          stands = refl;
          why = (lt, (n, more, b, never));
        },
      )
    ]

-- the note with a fixed part and a mark, which holds these bytes
marked_note : FixedPart → ℕ → List ℕ → NoteParts
marked_note f mark held = record {
  offset = f.offset;
  key = f.key;
  width = f.width;
  length = f.length;
  whole = mark == 0;
  held = held;
}

mark_back : (mark : ℕ) → mark ≤ 1 → mark_of (mark == 0) ≡ mark
mark_back mark h = grind arith

marked_in : (v : Version) (mark : ℕ) (n : NoteParts) → IsMarkIn v mark → n.whole ≡ (mark == 0) → CanHave v n
marked_in v mark n h k = grind arith

-- that which holds the first of the bytes behind them
note_there : (v : Version) (f : FixedPart) (mark : ℕ) (rest more : List ℕ) → BeginsWithParts v rest f mark more
    → CanBeMarked f mark → held_length f mark ≤ length more
    → BeginsWithNote v rest (marked_note f mark (take (held_length f mark) more)) (drop (held_length f mark) more)
unfolding marked_note
note_there v f mark rest more b good long =
    let k : ℕ = held_length f mark in
    let held = take k more in
    let behind : List ℕ → List ℕ = λ t. fixed_bytes f ++ t in
    let n : NoteParts = marked_note f mark held in
    let marks : List ℕ = mark_bytes v (mark_of (mark == 0)) in
    record {
      note = record {
        label = good.0.label;
        width = good.0.width;
        within = good.0.within;
        held = omega (arith, length-take k more);
      };
      can_have = marked_in v mark n b.marked refl;
      whole = b.whole ∙ ap behind (λ i. mark_bytes v (sym (mark_back mark good.1) i) ++ sym (take-append-drop k more) i)
          ∙ ap behind (sym (append_assoc marks held (drop k more)))
          ∙ sym (append_assoc (fixed_bytes f) (marks ++ held) (drop k more));
    }

-- a fixed part and a mark stand at the front
behind_mark : (v : Version) (bytes rest more : List ℕ) (count : ℕ) (notes : List NoteParts) (f : FixedPart) (mark : ℕ)
    → IsFront v bytes count notes rest → length notes < count → BeginsWithParts v rest f mark more → AreBytes rest
    → GoesOn v bytes rest count notes → IsFileOrRefused bytes
behind_mark v bytes rest more count notes f mark front lt b are next =
    elim (can_be_marked f mark) [
      | inr bad ↦ inr (
        BadNote (place_after v notes),
        λ e. cc,
        record {
          version = v;
          count = count;
          notes = notes;
          rest = rest;
          front = front;
          stands = refl;
          why = (lt, (f, mark, more, b, bad));
        },
      )
      | inl good ↦ elim (cases_lt (length more) (held_length f mark)) [
        | inl short ↦ cut v bytes rest count notes front lt (inr (f, mark, more, b, good, short))
        | inr long ↦
            let k : ℕ = held_length f mark in
            let len = ap length b.whole in
            let parts = length-parts v f mark more b.fixed.key in
            behind_note v bytes rest (drop k more) count notes (marked_note f mark (take k more)) front lt
            (note_there v f mark rest more b good long) (AreBytes-drop k more (bytes_after (mark_bytes v mark) more
            (bytes_after (fixed_bytes f) (mark_bytes v mark ++ more) (subst AreBytes b.whole are))))
            (omega (arith, len, parts, ahead_from v, length-drop k more)) next
      ]
    ]

one_step : (v : Version) (bytes rest : List ℕ) (count : ℕ) (notes : List NoteParts) → IsFront v bytes count notes rest
    → AreBytes rest → GoesOn v bytes rest count notes → IsFileOrRefused bytes
one_step v bytes rest count notes f are next =
    elim (cases_lt (length notes) count) [
      | inr all ↦ ended v bytes rest count notes f (omega (arith, f.room))
      | inl lt ↦ elim (cases_lt (length rest) (length_ahead v)) [
        | inl short ↦ cut v bytes rest count notes f lt (inl short)
        | inr long ↦
            let at : PartsAt v rest = parts_at v rest long are in
            behind_mark v bytes rest at.rest count notes at.fixed at.mark f lt at.begins are next
      ]
    ]

-- note after note, each leaves fewer bytes
all_steps : (v : Version) (most : ℕ) (bytes rest : List ℕ) (count : ℕ) (notes : List NoteParts)
    → IsFront v bytes count notes rest → AreBytes rest → length rest ≤ most → IsFileOrRefused bytes
all_steps v zero bytes rest count notes f are l =
    one_step v bytes rest count notes f are (λ n more g k lt. absurd (omega arith))
all_steps v (suc most) bytes rest count notes f are l = one_step v bytes rest count notes f are
    (λ n more g k lt. all_steps v most bytes more count (notes ++ n ∷ []) g k (omega arith))

-- each byte is that of a version or of none
version_of : (byte : ℕ) → IsKnownVersion byte ⊎ IsUnknownVersion byte
version_of byte =
    elim (equal byte 1) [
      | inl one ↦ inl (One, one)
      | inr first ↦ elim (equal byte 2) [ inl two ↦ inl (Two, two) | inr second ↦ inr (neither byte first second) ]
    ]
  where
    neither : (byte : ℕ) → byte ≢ 1 → byte ≢ 2 → IsUnknownVersion byte
    neither byte first second One = first
    neither byte first second Two = second

known_version : (o : Option ℕ) → IfSome o IsKnownVersion ⊎ IsSomeAnd o IsUnknownVersion
known_version None = inl tt
known_version (Some v) = version_of v

-- the sixteen bytes ahead of the notes
behind_start : (bytes : List ℕ) → AreBytes bytes → BeginsAsFile bytes → IfSome (slice_get bytes 7) IsKnownVersion
    → 16 ≤ length bytes → IsFileOrRefused bytes
behind_start bytes are begins known long =
    let rest = drop 7 bytes in
    let len : length rest ≡ length bytes - 7 = length-drop 7 bytes in
    let v : FirstOf rest = first_of rest (omega arith) in
    let len_more : length rest ≡ length (v.first ∷ v.others) = ap length v.whole in
    let are_rest : AreBytes (v.first ∷ v.others) = subst AreBytes v.whole (AreBytes-drop 7 bytes are) in
    let count : NumberAt v.others = number_at v.others (omega arith) (λ i. are_rest (suc i)) in
    let at = at_front_of_rest 7 bytes rest v.others v.first refl v.whole in
    let is = if_some (slice_get bytes 7) IsKnownVersion known v.first at in
    let left = drop 8 v.others in
    let whole : bytes ≡ start_bytes is.0 count.number ++ left =
    start_split is.0 bytes rest v.others left v.first count.number begins (omega arith) refl v.whole is.1 count.whole in
    all_steps is.0 (length left) bytes left count.number []
    (front_begins is.0 bytes left count.number count.small whole)
    (bytes_after (start_bytes is.0 count.number) left (subst AreBytes whole are)) (omega arith)

pub file_or_refused : (bytes : List ℕ) → AreBytes bytes → IsFileOrRefused bytes
file_or_refused bytes are = elim (by_test (bytes_eq (take 7 bytes) (take (length bytes) magic)) (BeginsAsFile bytes)
    (bytes_eq-Decides (take 7 bytes) (take (length bytes) magic))) [
      | inr never ↦ inr (BadMagic, λ e. cc, never)
      | inl begins ↦ elim (known_version (slice_get bytes 7)) [
        | inr other ↦ inr (BadVersion, λ e. cc, (begins, other))
        | inl known ↦ elim (cases_lt (length bytes) 16) [
          | inl short ↦ inr (Truncated 0, λ e. cc, inl (refl, begins, known, short))
          | inr long ↦ behind_start bytes are begins known long
        ]
      ]
    ]
