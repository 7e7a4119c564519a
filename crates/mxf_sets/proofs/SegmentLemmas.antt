-- What the items of a segment say of its entries.
use Rattle.mxf_klv.proofs.Common.{◌≡◌, ℕ, ◌+◌, ◌*◌, ◌%◌, ◌<◌, ◌≤◌, true, false, List, [], ◌∷◌, Some, length, drop}
use Rattle.mxf_klv.proofs.Common.{arith, ints, is_negative, AllByRecursion}
use Rattle.std.proofs.Common.{length-drop, ltb-false}
use Rattle.std.specs.Prelude.{nat_lt, Ok}
use Rattle.std.proofs.Math.Nat.{mul-mod_left}
use Rattle.byteorder.specs.Endian.{big_number}
use Rattle.mxf_sets.specs.declared.segment.numbers.SegmentNumbers.{SegmentNumbers}
use Rattle.mxf_sets.specs.Items.{ItemParts, IsItem}
use Rattle.mxf_sets.specs.Lookup.{value_of}
use Rattle.mxf_sets.specs.Fields.{is_batch}
use Rattle.mxf_sets.specs.Segment.{entries_in, entry_size, segment_numbers, segment_of, segment_parts, IsSegment}

pub batch_items : (size : ℕ) (v : List ℕ) → is_batch size v ≡ true → length v ≡ 8 + big_number 4 v * size
batch_items size v h = grind arith

-- the value of an item is that of one item of 16 bits of length
pub small_value : (tag : ℕ) (items : List ItemParts) (v : List ℕ) → AllByRecursion IsItem items
    → value_of tag items ≡ Some v → length v < 65536
small_value tag [] v h e = absurd cc
small_value tag (i ∷ is) v h e = grind (arith, small_value tag is v h.1)

-- what is known of the entries that items give
pub record AreEntries (n : SegmentNumbers) (e : List ℕ) : Type 0 where
  pub whole : length e % entry_size n ≡ 0
  pub room : 8 + length e ≤ 65535
  pub constant : 0 < n.unit_bytes → e ≡ []

none_fit : (n : SegmentNumbers) → AreEntries n []
none_fit n = grind (arith, entry_size, mul-mod_left)

batch_fits : (n : SegmentNumbers) (v : List ℕ) → nat_lt 0 n.unit_bytes ≡ false → is_batch (entry_size n) v ≡ true
    → length v < 65536 → AreEntries n (drop 8 v)
batch_fits n v zero_units b h =
    grind (
      arith,
      batch_items (entry_size n) v b,
      entry_size n,
      big_number 4 v,
      length-drop 8 v,
      mul-mod_left (big_number 4 v) (entry_size n),
      ltb-false 0 n.unit_bytes zero_units,
    )

pub entries_fit : (n : SegmentNumbers) (items : List ItemParts) (e : List ℕ) → AllByRecursion IsItem items
    → entries_in n items ≡ Some e → AreEntries n e
entries_fit n items e small is = grind (arith, batch_fits, none_fit, small_value)

-- what the items make where nothing is at fault
pub segment_made : (items : List ItemParts) (n : SegmentNumbers) (e : List ℕ) → n ≡ segment_numbers items
    → Some e ≡ entries_in n items → is_negative n.start ≡ false → is_negative n.duration ≡ false
    → Ok (segment_parts n e) ≡ segment_of items
segment_made items n e is en p q = grind (arith, segment_of items)

pub segment_is : (n : SegmentNumbers) (e : List ℕ) → AreEntries n e → is_negative n.start ≡ false
    → is_negative n.duration ≡ false → IsSegment (segment_parts n e)
segment_is n e fit p q = grind (arith, ints)
