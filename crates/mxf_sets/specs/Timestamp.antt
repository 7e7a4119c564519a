-- Timestamps (ST 377-1, timestamp): a year of two bytes, then month, day, hour, minute, second and the milliseconds
-- divided by 4, of a byte each.
use Rattle.std.specs.Prelude.{ℕ, List, slice_index}
use Rattle.std.specs.Int.{w16, cast_signed}
use Rattle.byteorder.specs.Endian.{big_number}
use Rattle.mxf_sets.specs.declared.record.timestamp.Timestamp.{Timestamp}

-- The timestamp of eight bytes.
abbrev pub timestamp_of : List ℕ → Timestamp
timestamp_of bytes = record {
  year = cast_signed w16 (big_number 2 bytes);
  month = slice_index bytes 2;
  day = slice_index bytes 3;
  hour = slice_index bytes 4;
  minute = slice_index bytes 5;
  second = slice_index bytes 6;
  milliseconds_by_four = slice_index bytes 7;
}
