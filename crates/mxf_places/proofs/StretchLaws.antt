-- Stretches above all offsets.
use Rattle.mxf_views.proofs.Common.{◌≡◌, ◌∙◌, ◌==◌, ◌&&◌, ◌<◌, ◌≤◌, ℕ, true, false, List, [], ◌∷◌, refl, ap, cond}
use Rattle.mxf_views.proofs.Common.{arith, Option, None, Some, nat_lt, ne_eqb, eqb-true, inl, inr, ◌+◌, if◌then◌else◌}
use Rattle.mxf_views.proofs.Common.{not, ◌||◌, option_and_then, lt-ltb, ◌≢◌, option_map_or, NoteParts, kind_of, IsNote}
use Rattle.mxf_views.proofs.Common.{end_of, greatest_end, In, all-In, find-none, IsCatalogue, undisputed_notes}
use Rattle.mxf_views.proofs.Common.{In-undisputed_notes, PartitionParts, is_fill}
use Rattle.std.proofs.Common.{le-ltb}
use Rattle.mxf_places.specs.Claims.{behind_metadata, index_of, begins, is_unknown, over_among, stretch_at, stretch_from}
use Rattle.mxf_places.specs.Held.{end_of_file, is_disputed_at, is_held}
use Rattle.mxf_places.specs.declared.stretch.Zone.{Zone}

pub over_none : (notes : List NoteParts) (x : ℕ) → ((n : NoteParts) → In n notes → n.offset ≢ x)
    → over_among notes x ≡ x
over_none [] x f = refl
over_none (n ∷ notes) x f =
    ap (λ b. over_among notes (cond (b && is_fill (kind_of n.key)) (end_of n) x)) (ne_eqb n.offset x (f n (inl
    refl))) ∙ over_none notes x (λ m h. f m (inr h))

-- No stretch begins above all offsets.
pub far_stretch : (zone : Zone) (notes : List NoteParts) (from count : ℕ) → IsCatalogue notes → greatest_end ≤ from
    → stretch_from zone notes from count ≡ None
far_stretch zone notes from count is far =
    let apart : (n : NoteParts) → In n (undisputed_notes notes) → n.offset ≢ from = λ n h e.
    let note : IsNote n = all-In IsNote notes n is.members ((In-undisputed_notes n notes).0 h).0 in
    let end : n.offset + 16 + n.width + n.length ≤ greatest_end = note.within in omega (arith, end, far, e) in
    ap (λ x. stretch_at zone notes from x count) (over_none (undisputed_notes notes) from apart)
    ∙ ap (λ (o : Option NoteParts). option_map_or (λ n. if begins zone n then Some (record {
      from = from;
      end = from + count;
      is_open = false;
    }) else None) o (if is_unknown notes from then Some (record { from = from; end = from + 1; is_open = true }) else
    None))
    (find-none (λ (n : NoteParts). n.offset == from) (undisputed_notes notes) (λ n h t. apart n h (eqb-true _ _ t)))
    ∙ ap (λ b. cond (b && option_map_or (λ e. nat_lt from e) (end_of_file notes) true && (is_disputed_at notes from
    || not (is_held notes from))) (Some (record { from = from; end = from + 1; is_open = true })) None)
    (le-ltb from greatest_end far)

-- The index table segments of a partition don't begin there.
pub far_index : (notes : List NoteParts) (p : PartitionParts) (from : ℕ) → IsCatalogue notes
    → 0 < p.pack.numbers.index_byte_count → behind_metadata notes p ≡ Some from → greatest_end ≤ from
    → index_of notes p ≡ None
unfolding index_of
far_index notes p from is some behind far =
    grind (arith, stretch_from, cond, option_and_then, behind_metadata, lt-ltb, far_stretch)
