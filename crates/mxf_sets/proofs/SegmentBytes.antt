-- The bytes of a segment by the parts that are written.
use Rattle.std.proofs.Common.{◌≡◌, ℕ, ◌+◌, ◌/◌, ◌<◌, Bool, cond, List, [], ◌∷◌, ◌++◌, length, ◌≤◌, lt-ltb, le-ltb, refl}
use Rattle.std.proofs.Common.{ap, ◌∙◌, sym, subst, length-append, append-nil}
use Rattle.std.specs.Int.{w16, w32, w64, cast_unsigned, to_be_bytes}
use Rattle.std.specs.List.{flat_map}
use Rattle.std.proofs.lemmas.Grind.{flat_map-append}
use Rattle.byteorder.specs.Endian.{big_bytes}
use Rattle.mxf_sets.specs.declared.segment.numbers.SegmentNumbers.{SegmentNumbers}
use Rattle.mxf_sets.specs.declared.segment.numbers.TheConstants.{EDIT_RATE, START, DURATION, UNIT_BYTES, INDEX_SID}
use Rattle.mxf_sets.specs.declared.segment.numbers.TheConstants.{BODY_SID, SLICES, POSITIONS, ENTRIES}
use Rattle.mxf_sets.specs.Items.{item, item_bytes}
use Rattle.mxf_sets.specs.Segment.{SegmentParts, entry_count, entry_item, entry_items, entry_size, number_items}
use Rattle.mxf_sets.specs.Segment.{segment_bytes}

-- the item of the entries by the parts that are written
pub entry_parts : (s : SegmentParts) (e : List ℕ) (size : ℕ) → e ≡ s.entries → size ≡ entry_size s.numbers
    → item_bytes (entry_item s) ≡ (to_be_bytes w16 ENTRIES ++ to_be_bytes w16 (8 + length e))
    ++ ((big_bytes 4 (length e / size) ++ big_bytes 4 size) ++ e)
entry_parts s e size same sized =
    let head = big_bytes 4 (entry_count s) ++ big_bytes 4 (entry_size s.numbers) in
    let len : length (head ++ s.entries) ≡ 8 + length s.entries = length-append head s.entries in
    ap (λ (k : ℕ). (to_be_bytes w16 ENTRIES ++ to_be_bytes w16 k) ++ (head ++ s.entries)) len
    ∙ ap (λ (t : List ℕ). (to_be_bytes w16 ENTRIES ++ to_be_bytes w16 (8 + length t))
    ++ ((big_bytes 4 (length t / entry_size s.numbers) ++ big_bytes 4 (entry_size s.numbers)) ++ t)) (sym same)
    ∙ ap (λ (k : ℕ). (to_be_bytes w16 ENTRIES ++ to_be_bytes w16 (8 + length e))
    ++ ((big_bytes 4 (length e / k) ++ big_bytes 4 k) ++ e)) (sym sized)

pub entry_written : (s : SegmentParts) (e : List ℕ) (size : ℕ) (first second : List ℕ) → e ≡ s.entries
    → size ≡ entry_size s.numbers → first ≡ to_be_bytes w16 ENTRIES ++ to_be_bytes w16 (8 + length e)
    → second ≡ big_bytes 4 (length e / size) ++ big_bytes 4 size → item_bytes (entry_item s) ≡ first ++ (second ++ e)
entry_written s e size first second same sized is1 is2 = entry_parts s e size same sized
    ∙ ap (λ (t : List ℕ). t ++ ((big_bytes 4 (length e / size) ++ big_bytes 4 size) ++ e)) (sym is1)
    ∙ ap (λ (t : List ℕ). first ++ (t ++ e)) (sym is2)

-- the items of the numbers by the bytes of each
pub numbers_written : (n : SegmentNumbers) (rate start duration unit_bytes index_sid body_sid : List ℕ)
    → rate ≡ big_bytes 4 (cast_unsigned w32 n.edit_rate.0) ++ big_bytes 4 (cast_unsigned w32 n.edit_rate.1)
    → start ≡ big_bytes 8 (cast_unsigned w64 n.start) → duration ≡ big_bytes 8 (cast_unsigned w64 n.duration)
    → unit_bytes ≡ big_bytes 4 n.unit_bytes → index_sid ≡ big_bytes 4 n.index_sid → body_sid ≡ big_bytes 4 n.body_sid
    → item EDIT_RATE rate ∷ item START start ∷ item DURATION duration ∷ item UNIT_BYTES unit_bytes
    ∷ item INDEX_SID index_sid ∷ item BODY_SID body_sid
    ∷ item SLICES (n.slices ∷ []) ∷ item POSITIONS (n.positions ∷ []) ∷ [] ≡ number_items n
numbers_written n rate start duration unit_bytes index_sid body_sid r s d u i b = rw (r, s, d, u, i, b) refl

pub by_parts : (s : SegmentParts) (n : SegmentNumbers) → n ≡ s.numbers
    → segment_bytes s ≡ flat_map item_bytes (number_items n) ++ flat_map item_bytes (entry_items s)
by_parts s n is = flat_map-append item_bytes (number_items s.numbers) (entry_items s)
    ∙ ap (λ (m : SegmentNumbers). flat_map item_bytes (number_items m) ++ flat_map item_bytes (entry_items s)) (sym is)

pub constant_bytes : (s : SegmentParts) (n : SegmentNumbers) → n ≡ s.numbers → 0 < n.unit_bytes
    → segment_bytes s ≡ flat_map item_bytes (number_items n)
constant_bytes s n is h =
    let some : 0 < s.numbers.unit_bytes = subst (λ (m : SegmentNumbers). 0 < m.unit_bytes) is h in
    by_parts s s.numbers refl ∙ ap (λ (b : Bool). flat_map item_bytes (number_items s.numbers)
    ++ flat_map item_bytes (cond b [] (entry_item s ∷ []))) (lt-ltb 0 s.numbers.unit_bytes some)
    ∙ append-nil (flat_map item_bytes (number_items s.numbers))
    ∙ ap (λ (m : SegmentNumbers). flat_map item_bytes (number_items m)) (sym is)

pub entries_bytes : (s : SegmentParts) (n : SegmentNumbers) → n ≡ s.numbers → n.unit_bytes ≤ 0
    → segment_bytes s ≡ flat_map item_bytes (number_items n) ++ item_bytes (entry_item s)
entries_bytes s n is h =
    let none : s.numbers.unit_bytes ≤ 0 = subst (λ (m : SegmentNumbers). m.unit_bytes ≤ 0) is h in
    by_parts s s.numbers refl ∙ ap (λ (b : Bool). flat_map item_bytes (number_items s.numbers)
    ++ flat_map item_bytes (cond b [] (entry_item s ∷ []))) (le-ltb 0 s.numbers.unit_bytes none)
    ∙ ap (λ (t : List ℕ). flat_map item_bytes (number_items s.numbers) ++ t) (append-nil (item_bytes (entry_item s)))
    ∙ ap (λ (m : SegmentNumbers). flat_map item_bytes (number_items m) ++ item_bytes (entry_item s)) (sym is)
