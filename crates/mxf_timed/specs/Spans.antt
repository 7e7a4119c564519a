-- Runs as spans of positions by where they begin, and of those that begin first which one ends last. A law says that
-- they tell the one run that has a position.
use Rattle.std.specs.Prelude.{◌≡◌, ◌+◌, ◌^◌, ◌&&◌, ℕ, Bool, max, min, nat_le, nat_lt, if◌then◌else◌}
use Rattle.std.specs.Prelude.{unwrap_or, List, [], ◌∷◌}
use Rattle.std.specs.List.Sorted.{IsNonDecreasingBy, IsPermutation}
use Rattle.mxf_clocks.specs.Runs.{RunParts}
use Rattle.mxf_timed.specs.declared.coverage.Latest.{Latest}
use Rattle.mxf_timed.specs.declared.coverage.Span.{Span}

-- The positions of a run that stands at a place of its list. One that has 2^64 of them has all that are asked for.
abbrev pub span_of : ℕ → RunParts → Span
span_of place r = record {
  first = r.position;
  end = r.position + min (unwrap_or r.count (2 ^ 64)) (2 ^ 64);
  place = place;
}

-- Those of runs that stand one after another, the first at a place.
abbrev pub spans_from : ℕ → List RunParts → List Span
spans_from place [] = []
spans_from place (r ∷ runs) = span_of place r ∷ spans_from (place + 1) runs

-- No span yet.
abbrev pub no_latest : Latest
no_latest = record { place = 0; end = 0; other = 0 }

-- Which one ends last, and where the last of the others ends, with one more.
abbrev pub with_span : Latest → Span → Latest
with_span l s =
    if nat_lt l.end s.end then record { place = s.place; end = s.end; other = l.end }
    else record { place = l.place; end = l.end; other = max l.other s.end }

-- That of what was before, and with each of some spans more.
abbrev pub latest_from : Latest → List Span → List Latest
latest_from l [] = l ∷ []
latest_from l (s ∷ spans) = l ∷ latest_from (with_span l s) spans

-- Of spans that begin up to a position the one that ends last has it, and no other.
abbrev pub is_alone_at : Latest → ℕ → Bool
is_alone_at l position = nat_le l.other position && nat_lt position l.end

-- The runs by where they begin, and for each number of those that begin first which one ends last.
pub record AreSpans (runs : List RunParts) (spans : List Span) (latest : List Latest) : Type 0 where
  pub of_runs : IsPermutation (spans_from 0 runs) spans
  pub rising : IsNonDecreasingBy (λ s. s.first) spans
  pub latest_are : latest ≡ latest_from no_latest spans
