-- Where a piece may begin by all bytes of a range, and by its window.
use Rattle.mxf_views.proofs.Common.{◌≡◌, ℕ, suc, ◌+◌, ◌-◌, ◌≤◌, List, [], ◌∷◌, ◌++◌, length, take, drop, Option, None}
use Rattle.mxf_views.proofs.Common.{Some, refl, sym, ap, subst, ◌∙◌, inl, inr, arith, append_assoc, length-append}
use Rattle.mxf_views.proofs.Common.{option_map_or, cases_lt, drop-append-le, drop-take, length-drop, length-take}
use Rattle.mxf_views.proofs.Common.{take-append-drop, take-take, drop_all, take-append-le, take_all, LengthParts}
use Rattle.mxf_views.proofs.Common.{label_start, BeginsWithKeyAndLength, head-size, head-width}
use Rattle.mxf_klv.specs.Label.{BeginsAsLabel}
use Rattle.mxf_read.specs.Ranges.{HasNoStart, IsStart, MayBegin, ShowsNextBefore, piece_bytes, piece_offset, start_in}
use Rattle.mxf_read.specs.Ranges.{window_of}
use Rattle.mxf_klv.proofs.MoreBytes.{spelled_width}
use Rattle.mxf_read.proofs.Starts.{no_start_is, one_start}

-- ---- the front of bytes

-- so many bytes more than the first list has
take_behind : (xs ys : List ℕ) (n : ℕ) → take (length xs + n) (xs ++ ys) ≡ xs ++ take n ys
take_behind [] ys n = let same : 0 + n ≡ n = omega arith in ap (λ (k : ℕ). take k ys) same
take_behind (x ∷ xs) ys n =
    let same : length (x ∷ xs) + n ≡ suc (length xs + n) = omega arith in
    ap (λ (k : ℕ). take k (x ∷ (xs ++ ys))) same ∙ ap (λ (t : List ℕ). x ∷ t) (take_behind xs ys n)

take_past : (xs ys : List ℕ) (n k : ℕ) → length xs ≡ n → n ≤ k → take k (xs ++ ys) ≡ xs ++ take (k - n) ys
take_past xs ys n k is within =
    let same : k ≡ length xs + (k - n) = omega arith in
    ap (λ (m : ℕ). take m (xs ++ ys)) same ∙ take_behind xs ys (k - n)

take_front : (i n : ℕ) (xs : List ℕ) → i ≤ n → drop i (take n xs) ≡ take (n - i) (drop i xs)
take_front i n xs within =
    let same : n ≡ i + (n - i) = omega arith in
    ap (λ (k : ℕ). drop i (take k xs)) same ∙ drop-take i (n - i) xs

-- bytes that begin as a label do so as far as there are any
label_front : (n : ℕ) (xs : List ℕ) → BeginsAsLabel xs → BeginsAsLabel (take n xs)
label_front n xs h = grind (arith, cases_lt, length, take_all, take, length-take, take-take, label_start)

-- and so do bytes whose first four do
label_more : (xs ys : List ℕ) → 4 ≤ length xs → BeginsAsLabel xs → BeginsAsLabel (xs ++ ys)
label_more xs ys four h = grind (arith, length-append, take-append-le, take_all, length, label_start)

-- ---- one position

-- a key and a length that stand in the window
begins_front : (bytes key after : List ℕ) (l : LengthParts) (n : ℕ) → (h : BeginsWithKeyAndLength bytes key l after)
    → 25 ≤ n → BeginsWithKeyAndLength (take n bytes) key l (take (n - 16 - l.width) after)
begins_front bytes key after l n h long = grind (arith, spelled_width, take, take_past, head-width)

pub seen : (n offset : ℕ) (bytes : List ℕ) (p : ℕ) → MayBegin offset bytes p → p + 25 ≤ n
    → MayBegin offset (take n bytes) p
seen n offset bytes p m fits =
    let k = n - p - 16 - m.length.width in
    record {
      key = m.key;
      length = m.length;
      after = take k m.after;
      stands = grind (arith, take, k, take_front, begins_front, drop);
      start_key = m.start_key;
      within = m.within;
      next = elim (cases_lt m.length.value k) [
        | inl more ↦ subst BeginsAsLabel (sym (take_front m.length.value k m.after (omega arith)))
            (label_front (k - m.length.value) (drop m.length.value m.after) m.next)
        | inr none ↦
            let short = length-take k m.after in
            subst BeginsAsLabel (sym (drop_all m.length.value (take k m.after) (omega arith))) refl
      ];
    }

-- a packet of the window, if the label behind it lies in the window too
pub shown : (n offset : ℕ) (bytes : List ℕ) (p : ℕ) → (m : MayBegin offset (take n bytes) p)
    → p + (16 + m.length.width + m.length.value) + 4 ≤ n → MayBegin offset bytes p
shown n offset bytes p m fits =
    elim (cases_lt n (length bytes)) [
      | inr all ↦ subst (λ (b : List ℕ). MayBegin offset b p) (take_all n bytes all) m
      | inl some ↦
          let rest = drop n bytes in
          let value = m.length.value in
          let long : length (take n bytes) ≡ n = omega (arith, length-take n bytes) in
          let size = head-size m.stands in
          let left = length-drop p (take n bytes) in
          let behind = length-drop value m.after in
          let here : drop p bytes ≡ drop p (take n bytes) ++ rest =
          ap (drop p) (sym (take-append-drop n bytes)) ∙ drop-append-le p (take n bytes) rest (omega arith) in
          record {
            key = m.key;
            length = m.length;
            after = m.after ++ rest;
            stands = record {
              spelled = m.stands.spelled;
              label = m.stands.label;
              width = m.stands.width;
              whole = here ∙ ap (λ (t : List ℕ). t ++ rest) m.stands.whole ∙ simp append_assoc;
            };
            start_key = m.start_key;
            within = m.within;
            next = subst BeginsAsLabel (sym (drop-append-le value m.after rest (omega arith)))
                (label_more (drop value m.after) rest (omega arith) m.next);
          }
    ]

-- ---- the first

pub piece_begins : (offset : ℕ) (bytes : List ℕ) (start : ℕ) → IsStart offset (window_of bytes) start
    → (piece_offset offset bytes ≡ offset + start) × (piece_bytes offset bytes ≡ drop start bytes)
piece_begins offset bytes start s =
    let is = (one_start offset (window_of bytes) start).1 s in (
      ap (λ (o : Option ℕ). option_map_or (λ p. offset + p) o offset) is,
      ap (λ (o : Option ℕ). option_map_or (λ p. drop p bytes) o []) is,
    )

pub no_piece : (offset : ℕ) (bytes : List ℕ) → HasNoStart offset (window_of bytes) → piece_bytes offset bytes ≡ []
no_piece offset bytes none =
    ap (λ (o : Option ℕ). option_map_or (λ p. drop p bytes) o []) ((no_start_is offset (window_of bytes)).1 none)

-- where a piece may begin at a position of a window, one begins there or before
starts_by : (offset : ℕ) (window : List ℕ) (p : ℕ) → MayBegin offset window p
    → (start : ℕ) × (start ≤ p) × IsStart offset window start
starts_by offset window p m = elim (start_in offset window) as (λ o. start_in offset window ≡ o
    → (start : ℕ) × (start ≤ p) × IsStart offset window start) [
      | None ↦ λ e. absurd ((no_start_is offset window).0 e p m)
      | Some start ↦ λ e.
          let s = (one_start offset window start).0 e in
          elim (cases_lt p start) [ inl before ↦ absurd (s.least p before m) | inr there ↦ (start, there, s) ]
    ] refl

pub start_found : (offset : ℕ) (bytes : List ℕ) (p : ℕ) → MayBegin offset bytes p → p + 25 ≤ 33554432
    → (start : ℕ) × (start ≤ p) × IsStart offset (take 33554432 bytes) start
start_found offset bytes p m fits = starts_by offset (take 33554432 bytes) p (seen 33554432 offset bytes p m fits)

pub first_begins : (offset : ℕ) (bytes : List ℕ) (start : ℕ) → IsStart offset bytes start → start + 25 ≤ 33554432
    → ShowsNextBefore start offset (take 33554432 bytes) 33554432 → piece_offset offset bytes ≡ offset + start
first_begins offset bytes start s fits shows =
    let first : IsStart offset (take 33554432 bytes) start = record {
      may = seen 33554432 offset bytes start s.may fits;
      least = λ p before m. s.least p before (shown 33554432 offset bytes p m (shows p before m));
    } in
    (piece_begins offset bytes start first).0
