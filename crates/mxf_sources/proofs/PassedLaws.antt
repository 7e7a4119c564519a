-- Bytes that were passed over, of a file whose bytes aren't known.
use Rattle.std.proofs.Common.{ℕ, ◌≤◌, None, replicate}
use Rattle.std.proofs.lemmas.List.{length-replicate}
use Rattle.mxf_read.specs.Skimming.{Passed}

pub unknown_passed : (count n : ℕ) → n ≤ count → Passed None None count n
unknown_passed count n within = record {
  within = within;
  bytes = replicate n 0;
  counted = length-replicate n 0;
  consumed = tt;
  ended = λ none. tt;
}
