-- The clear notes from a boundary on, and the copies of one after another.
use Rattle.mxf_views.proofs.Common.{◌≡◌, ℕ, ◌+◌, ◌-◌, ◌≤◌, List, refl, arith, ◌&&◌, Some, None, find, nat_le, NoteParts}
use Rattle.mxf_views.proofs.Common.{IsNote, end_of, IsCatalogue, clear_notes, lies_in, In-clear_notes, option_map}
use Rattle.mxf_views.proofs.Common.{is_filled, is_readable_primer, is_start, zone_of, clear_from, all-In, found-In}
use Rattle.mxf_views.proofs.Common.{and_from, and_parts}
use Rattle.std.proofs.Common.{leb-true, le-leb}
use Rattle.mxf_views.specs.Copies.{start_of}
use Rattle.mxf_klv.proofs.NoteFilters.{filter_twice}

-- A zone from the boundary on lies in the notes from there on.
pub zone_above : (b start bytes : ℕ) (notes : List NoteParts) → IsCatalogue notes → b ≤ start
    → zone_of start bytes (clear_from b notes) ≡ zone_of start bytes (clear_notes notes)
zone_above b start bytes notes c l =
    filter_twice (lies_in start bytes) (lies_in b 18446744073709551615) (clear_notes notes) (λ n h t.
    let m : start ≤ n.offset =
    leb-true start n.offset (and_parts (nat_le start n.offset) (nat_le (end_of n) (start + bytes)) t).0 in
    let within = (all-In IsNote notes n c.members ((In-clear_notes n notes).0 h).held).within in
    and_from (nat_le b n.offset) (nat_le (end_of n) (b + 18446744073709551615)) (le-leb b n.offset (omega
    (arith, m, l))) (le-leb (end_of n) (b + 18446744073709551615) (omega (arith, within))))

-- A copy starts at or after the end of its pack.
pub start_after : (end : ℕ) (notes : List NoteParts) (s : ℕ) → start_of end notes ≡ Some s → end ≤ s
start_after end notes s e = elim (find (is_start end notes) notes) as (λ o. find (is_start end notes) notes ≡ o
    → option_map (λ n. n.offset) o ≡ Some s → end ≤ s) [
      | None ↦ λ f g. absurd cc
      | Some n ↦ λ f g. (
          let t = (found-In (is_start end notes) notes n f).1 in
          let l : end ≤ n.offset = leb-true end n.offset (and_parts (is_readable_primer n) (nat_le end n.offset)
          (and_parts (is_readable_primer n && nat_le end n.offset) (is_filled end (n.offset - end) notes) t).0).1 in
          let same : n.offset ≡ s = cc (g) in omega (arith, l, same))
    ] refl e
