-- Rates (ST 377-1, Rational): a numerator and a denominator of four bytes each, both signed.
use Rattle.std.specs.Prelude.{ℕ, pos, int_lt, unsigned_abs, ◌*◌, ◌==◌, ◌&&◌, Bool, List, drop, Option}
use Rattle.std.specs.Option.{option_map}
use Rattle.mxf_sets.specs.declared.record.rate.Rate.{Rate}
use Rattle.mxf_sets.specs.Items.{ItemParts}
use Rattle.mxf_sets.specs.Lookup.{value_of}
use Rattle.mxf_sets.specs.Numbers.{signed_4}

-- The rate of eight bytes.
abbrev pub rate_of : List ℕ → Rate
rate_of bytes = record { numerator = signed_4 bytes; denominator = signed_4 (drop 4 bytes) }

-- The rate that the tag's value is, if an item has the tag.
abbrev pub rate_in : ℕ → List ItemParts → Option Rate
rate_in tag items = option_map rate_of (value_of tag items)

-- A rate is good where both numbers are above 0 (this project's profile).
abbrev pub is_good : Rate → Bool
is_good r = int_lt (pos 0) r.numerator && int_lt (pos 0) r.denominator

-- Both rates are good, and they are one fraction.
abbrev pub is_same_rate : Rate → Rate → Bool
is_same_rate a b =
    is_good a && is_good b
    && (unsigned_abs a.numerator * unsigned_abs b.denominator == unsigned_abs b.numerator * unsigned_abs a.denominator)
