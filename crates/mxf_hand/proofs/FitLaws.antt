-- Bytes at hand of a head's key and length, run after run.
use Rattle.mxf_views.proofs.Common.{◌≡◌, ◌≢◌, false, ◌∙◌, ◌≤◌, ◌<◌, ◌+◌, ◌-◌, ℕ, List, Some, ap, arith, filter, get_or}
use Rattle.mxf_views.proofs.Common.{length, length-append, nat_lt, subst, sym, and_from, and_parts, false_from_ne_true}
use Rattle.mxf_views.proofs.Common.{length-map-range_with_len, NoteParts, IsNote, length_bytes, In, spelled_len}
use Rattle.mxf_views.proofs.Common.{In-filter, length_bytes-spelled, is_between, LiesIn}
use Rattle.mxf_catalogue.specs.declared.run.Run.{Run}
use Rattle.std.proofs.lemmas.Bool.{lt-ltb, ltb-true}
use Rattle.std.proofs.lemmas.List.FromFn.{get_or-map-range_with_len}
use Rattle.mxf_hand.specs.Given.{bytes_between}
use Rattle.mxf_hand.specs.Hand.{HandBytes}
use Rattle.mxf_hand.specs.Heads.{fits}
use Rattle.mxf_places.specs.Heads.{key_and_length}
use Rattle.mxf_hand.proofs.HandLaws.{fits_at}

-- Key and length of a note have 16 bytes and its width.
pub length-key_and_length : (n : NoteParts) → IsNote n → length (key_and_length n) ≡ 16 + n.width
length-key_and_length n is = length-append n.key (length_bytes n.width n.length)
    ∙ (let key : length n.key ≡ 16 = is.label.0 in
    let rest = spelled_len (length_bytes n.width n.length) n.width n.length
    (length_bytes-spelled n.width n.length is.width) in
    omega (arith, key, rest))

-- The runs that lie between two offsets have the offsets of all runs between these.
pub between_part : (runs items : List Run) (start end : ℕ) → items ≡ filter (is_between start (Some end)) runs
    → (r : Run) → In r items → In r runs × (r.start < end)
between_part runs items start end e r i =
    let kept = (In-filter (is_between start (Some end)) runs r).0 (subst (λ (l : List Run). In r l) e i) in
    (kept.0, ltb-true r.start end (and_parts (nat_lt start r.end) (nat_lt r.start end) kept.1).1)

pub between_lies : (runs items : List Run) (start end : ℕ) → items ≡ filter (is_between start (Some end)) runs
    → (x : ℕ) → start ≤ x → x < end → LiesIn runs x → LiesIn items x
between_lies runs items start end e x low high lies = grind (arith, In-filter, and_from, lt-ltb)

-- A byte that was read.
pub read_byte : (byte : ℕ → ℕ) (bytes : List ℕ) (from to x : ℕ) → bytes ≡ bytes_between byte from to → from ≤ x → x < to
    → get_or bytes (x - from) 0 ≡ byte x
read_byte byte bytes from to x e low high = ap (λ (l : List ℕ). get_or l (x - from) 0) e
    ∙ get_or-map-range_with_len byte from (to - from) (x - from) x 0 (omega arith) (omega arith)

-- As many bytes were read.
pub read_count : (byte : ℕ → ℕ) (bytes : List ℕ) (from to : ℕ) → bytes ≡ bytes_between byte from to
    → length bytes ≡ to - from
read_count byte bytes from to e = ap length e ∙ length-map-range_with_len byte from (to - from)

-- Where the bytes of a run stand in others, each of them does.
pub stands : (byte : ℕ → ℕ) (bytes others : List ℕ) (start from to x : ℕ) → bytes ≡ bytes_between byte from to
    → start ≤ from → ((i : ℕ) → i < length bytes → get_or others ((from - start) + i) 0 ≡ get_or bytes i 0)
    → from ≤ x → x < to → byte x ≡ get_or others (x - start) 0
stands byte bytes others start from to x e above agree low high =
    let count = read_count byte bytes from to e in
    let here = agree (x - from) (omega (arith, count)) in
    let at : (from - start) + (x - from) ≡ x - start = omega arith in
    sym (read_byte byte bytes from to x e low high) ∙ sym here ∙ ap (λ (k : ℕ). get_or others k 0) at

room : (count size from to start width : ℕ) → start ≤ from → from < start + 16 + width → to ≤ start + 16 + width
    → count ≡ to - from → size ≡ 16 + width → (from - start) + count ≤ size
room count size from to start width above inside within e f = omega (arith, above, inside, within, e, f)

-- Where a byte of a run doesn't stand in the key and length of a head, the head doesn't fit.
pub unfit : (h : HandBytes) (n : NoteParts) (bytes others : List ℕ) (start from to : ℕ) → others ≡ key_and_length n
    → IsNote n → start ≡ n.offset → start ≤ from → from < start + 16 + n.width → to ≤ start + 16 + n.width
    → bytes ≡ bytes_between h.byte from to → ((x : ℕ) → from ≤ x → x < to → LiesIn h.runs x)
    → ((from - start) + length bytes ≤ length others
    → (i : ℕ) × (i < length bytes) × (get_or others ((from - start) + i) 0 ≢ get_or bytes i 0)) → fits h n ≡ false
unfit h n bytes others start from to eo is es above inside within eb lies differ = false_from_ne_true (fits h n) (λ yes.
    let count = read_count h.byte bytes from to eb in
    let size : length others ≡ 16 + n.width = ap length eo ∙ length-key_and_length n is in
    let d = differ (room (length bytes) (length others) from to start n.width above inside within count size) in
    let i = d.0 in
    let few : i < to - from = subst (λ (k : ℕ). i < k) count d.1 in
    let x = from + i in
    let low : from ≤ x = omega arith in
    let high : x < to = omega (arith, few) in
    let at : h.byte x ≡ get_or (key_and_length n) (x - n.offset) 0 =
    fits_at h n yes x (omega (arith, es, above)) (omega (arith, es, high, within)) (lies x low high) in
    let place : x - n.offset ≡ (from - start) + i = omega (arith, es, above) in
    let index : x - from ≡ i = omega arith in
    d.2 (ap (λ (l : List ℕ). get_or l ((from - start) + i) 0) eo
    ∙ ap (λ (k : ℕ). get_or (key_and_length n) k 0) (sym place) ∙ sym at
    ∙ sym (read_byte h.byte bytes from to x eb low high) ∙ ap (λ (k : ℕ). get_or bytes k 0) index))
