-- A written segment is read back.
use Rattle.std.proofs.Common.{◌≡◌, ℕ, ◌+◌, ◌*◌, ◌-◌, ◌^◌, ◌<◌, ◌≤◌, Bool, true, false, cond, List, [], ◌∷◌, ◌++◌, Some}
use Rattle.std.proofs.Common.{Ok, length, refl, ap, ◌∙◌, sym, arith, length-append, FitsSigned, ℤ, pos, ◌≤ℤ◌, Err}
use Rattle.std.proofs.Common.{ltb-true}
use Rattle.std.specs.Prelude.{nat_lt, ◌==◌}
use Rattle.std.specs.Int.{w32, w64, cast_signed, cast_unsigned, is_negative}
use Rattle.std.specs.List.{flat_map, AllByRecursion}
use Rattle.std.proofs.lemmas.Int.{ints, to_z-of_z}
use Rattle.std.proofs.lemmas.Nat.{div-add-mod'}
use Rattle.byteorder.specs.Endian.{big_number, big_bytes}
use Rattle.byteorder.specs.Numbers.{big_number-reads_back}
use Rattle.mxf_sets.specs.declared.segment.numbers.SegmentNumbers.{SegmentNumbers}
use Rattle.mxf_sets.specs.declared.segment.numbers.TheConstants.{ENTRIES}
use Rattle.mxf_sets.specs.Items.{item, ItemParts, IsItem, item_bytes, items_of}
use Rattle.mxf_sets.specs.Fields.{is_batch, checked, fields_at}
use Rattle.mxf_sets.specs.Segment.{AreSegmentNumbers, IsSegment, SegmentParts, entries_in, entry_count, entry_item}
use Rattle.mxf_sets.specs.Segment.{then_segment, entry_size, number_items, segment_at, segment_bytes, segment_fields}
use Rattle.mxf_sets.specs.Segment.{segment_numbers, segment_of}
use Rattle.mxf_sets.specs.declared.record.FieldFault.TheVariants.{Set}
use Rattle.mxf_sets.proofs.BatchTests.{test_passes}
use Rattle.mxf_sets.proofs.ItemLemmas.{only_items}
use Rattle.mxf_sets.proofs.SegmentLemmas.{segment_made}
use Rattle.std.proofs.Math.Nat.{div-le_self}

-- ---- numbers

number_back : (k x : ℕ) (rest : List ℕ) → x < 256 ^ k → big_number k (big_bytes k x ++ rest) ≡ x
number_back k x rest h = big_number-reads_back k x rest h

signed_back_4 : (z : ℤ) (rest : List ℕ) → FitsSigned w32 z
    → cast_signed w32 (big_number 4 (big_bytes 4 (cast_unsigned w32 z) ++ rest)) ≡ z
signed_back_4 z rest h = grind (arith, ints, number_back, to_z-of_z)

signed_back_8 : (z : ℤ) → FitsSigned w64 z
    → cast_signed w64 (big_number 8 (big_bytes 8 (cast_unsigned w64 z) ++ [])) ≡ z
signed_back_8 z h = grind (arith, ints, number_back, to_z-of_z)

byte_back : (x : ℕ) → x * 256 ^ 0 + 0 ≡ x
byte_back x = omega arith

same_numbers : (n : SegmentNumbers) (a b s d : ℤ) (u i o l p : ℕ) → a ≡ n.edit_rate.0 → b ≡ n.edit_rate.1 → s ≡ n.start
    → d ≡ n.duration → u ≡ n.unit_bytes → i ≡ n.index_sid → o ≡ n.body_sid → l ≡ n.slices → p ≡ n.positions
    → record {
      edit_rate = (a, b);
      start = s;
      duration = d;
      unit_bytes = u;
      index_sid = i;
      body_sid = o;
      slices = l;
      positions = p;
    } ≡ n
same_numbers n a b s d u i o l p ea eb es ed eu ei eo el ep = rw (ea, eb, es, ed, eu, ei, eo, el, ep) refl

-- the numbers of the items are those that they were made of
numbers_back : (n : SegmentNumbers) (more : List ItemParts) → AreSegmentNumbers n
    → segment_numbers (number_items n ++ more) ≡ n
numbers_back n more are = grind (arith, byte_back, number_back, same_numbers, signed_back_4, signed_back_8)

-- ---- the check of the items

checked_numbers : (n : SegmentNumbers) → checked segment_fields (number_items n) (number_items n) ≡ Ok (number_items n)
checked_numbers n = refl

checked_entries : (n : SegmentNumbers) (v : List ℕ)
    → checked segment_fields (number_items n ++ (item ENTRIES v ∷ [])) (number_items n ++ (item ENTRIES v ∷ []))
    ≡ Ok (number_items n ++ (item ENTRIES v ∷ []))
checked_entries n v = refl

-- items that have bytes are read back
fields_back : (items : List ItemParts) → AllByRecursion IsItem items → checked segment_fields items items ≡ Ok items
    → fields_at segment_fields (flat_map item_bytes items) ≡ Ok items
fields_back items each c =
    let o = only_items items each in
    let b = flat_map item_bytes items in
    ap (λ (l : List ℕ). cond (length l == 0) (checked segment_fields (items_of b) (items_of b))
    (Err (Set (length b - length l)))) o.1 ∙ ap (λ (it : List ItemParts). checked segment_fields it it) o.0 ∙ c

is_item : (tag : ℕ) (value : List ℕ) → tag < 65536 → length value < 65536 → IsItem (item tag value)
is_item tag value t v = record { tag = t; value = v }

are_number_items : (n : SegmentNumbers) (more : List ItemParts) → AllByRecursion IsItem more
    → AllByRecursion IsItem (number_items n ++ more)
are_number_items n more h = grind (arith, is_item)

-- ---- the entries

-- a batch that is written passes the test
batch_back : (size count : ℕ) (e : List ℕ) → count < 256 ^ 4 → size < 256 ^ 4 → length e ≡ count * size
    → is_batch size ((big_bytes 4 count ++ big_bytes 4 size) ++ e) ≡ true
batch_back size count e hc hs len = grind (arith, length-append, number_back, test_passes)

small_size : (n : SegmentNumbers) → AreSegmentNumbers n → entry_size n < 256 ^ 4
small_size n are = omega (arith, are.slices, are.positions)

entries_back : (s : SegmentParts) → AreSegmentNumbers s.numbers → IsSegment s → nat_lt 0 s.numbers.unit_bytes ≡ false
    → Some s.entries ≡ entries_in s.numbers (number_items s.numbers ++ (entry_item s ∷ []))
entries_back s are is zero_units = grind (arith, batch_back, div-add-mod', div-le_self, small_size)

not_negative : (z : ℤ) → pos 0 ≤ℤ z → is_negative z ≡ false
not_negative z h = grind (arith, ints)

read_constant : (s : SegmentParts) → AreSegmentNumbers s.numbers → IsSegment s → nat_lt 0 s.numbers.unit_bytes ≡ true
    → segment_at (segment_bytes s) ≡ Ok s
read_constant s are is some =
    let n = s.numbers in
    let bytes : segment_bytes s ≡ flat_map item_bytes (number_items n ++ []) =
    ap (λ (b : Bool). flat_map item_bytes (number_items n ++ cond b [] (entry_item s ∷ []))) some in
    let none : s.entries ≡ [] = is.constant (ltb-true 0 n.unit_bytes some) in
    let entries : Some s.entries ≡ entries_in n (number_items n) = ap (λ (t : List ℕ). Some t) none
    ∙ sym (ap (λ (b : Bool). cond b (Some []) (Some [])) some) in
    ap segment_at bytes
    ∙ ap (then_segment segment_of) (fields_back (number_items n) (are_number_items n [] tt) (checked_numbers n))
    ∙ sym (segment_made (number_items n) n s.entries (sym (numbers_back n [] are)) entries
    (not_negative n.start is.start) (not_negative n.duration is.duration))

read_entries : (s : SegmentParts) → AreSegmentNumbers s.numbers → IsSegment s → nat_lt 0 s.numbers.unit_bytes ≡ false
    → segment_at (segment_bytes s) ≡ Ok s
read_entries s are is none =
    let n = s.numbers in
    let room : 8 + length s.entries ≤ 65535 = is.room in
    let all = number_items n ++ (entry_item s ∷ []) in
    let bytes : segment_bytes s ≡ flat_map item_bytes (number_items n ++ (entry_item s ∷ [])) =
    ap (λ (b : Bool). flat_map item_bytes (number_items n ++ cond b [] (entry_item s ∷ []))) none in
    let last : IsItem (entry_item s) =
    is_item ENTRIES ((big_bytes 4 (entry_count s) ++ big_bytes 4 (entry_size n)) ++ s.entries) (omega arith)
    (omega (arith, room, length-append (big_bytes 4 (entry_count s) ++ big_bytes 4 (entry_size n)) s.entries)) in
    ap segment_at bytes ∙ ap (then_segment segment_of)
    (fields_back (number_items n ++ (entry_item s ∷ [])) (are_number_items n (entry_item s ∷ []) (last, tt))
    (checked_entries n (entry_item s).value)) ∙ sym (segment_made (number_items n ++ (entry_item s ∷ [])) n s.entries
    (sym (numbers_back n (entry_item s ∷ []) are)) (entries_back s are is none) (not_negative n.start is.start)
    (not_negative n.duration is.duration))

-- a written segment is read back with its numbers and entries
pub segment_read_back : (s : SegmentParts) → AreSegmentNumbers s.numbers → IsSegment s
    → segment_at (segment_bytes s) ≡ Ok s
segment_read_back s are is = grind (arith, read_constant, read_entries)
