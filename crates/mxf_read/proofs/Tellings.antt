-- What a piece tells after its last byte was read: the notes of its packets, and the head of the one that is cut.
use Rattle.mxf_views.proofs.Common.{◌≡◌, ◌<◌, ℕ, List, ◌++◌, length, None, Some, true, refl, sym, ap}
use Rattle.mxf_views.proofs.Common.{subst, ◌∙◌, arith, append-nil, length-append, nil_from_length, head_parts}
use Rattle.mxf_views.proofs.Common.{BeginsWithKeyAndLength, end_after, notes_from, heads_at, packet_at, rest_in}
use Rattle.mxf_views.proofs.Common.{heads_at-cut, none_more, at_cut, stops, PacketParts}
use Rattle.mxf_skim.specs.PassedOver.{noted_by}
use Rattle.mxf_skim.specs.declared.scan.Scan.{Scan}
use Rattle.mxf_klv.specs.declared.piece.Stop.TheVariants.{Truncated}
use Rattle.std.specs.Prelude.{is_some}
use Rattle.std.proofs.lemmas.Bool.{ltb-true}
use Rattle.mxf_klv.proofs.MoreBytes.{more_head}
use Rattle.mxf_read.specs.Feeding.{Fed, Tells, begun_heads, waits_for_more}
use Rattle.mxf_read.specs.declared.coming.ComingValue.{ComingValue}
use Rattle.mxf_read.specs.declared.piece.Piece.{Piece}
use Rattle.mxf_read.proofs.Feeding.{Feeds-where_stopped, awaits}
use Rattle.mxf_read.proofs.Reports.{coming_head, held_head, stopped_head}

-- all bytes have come
pub fed_tells : (scan : Scan) (o : ℕ) (m : List ℕ) (p : Piece) → Fed scan o m p → Tells scan o m p
fed_tells scan o m p fed = record {
  knows = fed.knows;
  head = elim p.stop as (λ s. p.stop ≡ s → begun_heads s p.value ≡ heads_at p.at (rest_in o m)) [
    | Some stop ↦ λ e. sym (stopped_head scan o m p fed (ap is_some e))
    | None ↦ λ e. elim p.value as (λ v. p.value ≡ v → begun_heads None v ≡ heads_at p.at (rest_in o m)) [
      | None ↦ λ f. sym (held_head scan o m p fed e f)
      | Some v ↦ λ f. sym (coming_head scan o m p v fed e f)
    ] refl
  ] refl;
}

pub none_left : (scan : Scan) (o : ℕ) (m x : List ℕ) (p : Piece) → length x ≡ 0 → Fed scan o m p → Tells scan o (m ++ x) p
none_left scan o m x p e fed =
    let same : m ≡ m ++ x = sym (append-nil m) ∙ ap (λ (t : List ℕ). m ++ t) (sym (nil_from_length x e)) in
    subst (λ (t : List ℕ). Tells scan o t p) same (fed_tells scan o m p fed)

-- those that follow are behind a stop
pub stopped_tells : (scan : Scan) (o : ℕ) (m x : List ℕ) (p : Piece) → is_some p.stop ≡ true → Fed scan o m p → Tells scan o (m ++ x) p
stopped_tells scan o m x p e fed = fed_tells scan o (m ++ x) p (Feeds-where_stopped p x e scan o m fed)

-- those that follow leave the value cut
cut_value : (scan : Scan) (o : ℕ) (m x : List ℕ) (p : Piece) (v : ComingValue) → p.stop ≡ None → p.value ≡ Some v
    → length x < v.left → Fed scan o m p → Tells scan o (m ++ x) p
cut_value scan o m x p v stop value few fed =
    let a = awaits scan o m p v fed stop value in
    let r = rest_in o m in
    let within = v.within in
    let here = a.come.offset in
    let counted = a.come.taken.counted in
    let both = length-append a.come.after x in
    let begins : BeginsWithKeyAndLength (r ++ x) v.key v.ber (a.come.after ++ x) =
    more_head r v.key v.ber a.come.after x a.come.begins in
    let cut = at_cut p.at (r ++ x) v.key (a.come.after ++ x) v.ber begins (omega arith) (omega arith) in
    let none : packet_at p.at (r ++ x) ≡ None = (stops p.at (r ++ x) (Truncated p.at) cut).0 in
    let j = none_more o m x (subst (λ (n : ℕ). packet_at n (r ++ x) ≡ None) fed.knows.at none) in
    let heads = heads_at-cut p.at (r ++ x) v.key (a.come.after ++ x) v.ber begins (omega arith) (omega arith) in
    record {
      knows = record {
        taken_by = fed.knows.taken_by;
        notes = fed.knows.notes ∙ ap (λ (l : List PacketParts). noted_by scan (notes_from o l)) (sym j.0);
        at = fed.knows.at ∙ ap (end_after o) (sym j.0);
      };
      head = grind (arith, begun_heads, head_parts, here, heads, heads_at);
    }

pub cut_tells : (scan : Scan) (o : ℕ) (m x : List ℕ) (p : Piece) (left : ℕ) → p.stop ≡ None → length x ≡ left
    → waits_for_more p.value left ≡ true → Fed scan o m p → Tells scan o (m ++ x) p
cut_tells scan o m x p left stop len waits fed =
    elim p.value as (λ w. p.value ≡ w → waits_for_more w left ≡ true → Tells scan o (m ++ x) p) [
      | None ↦ λ e f. absurd cc
      | Some v ↦ λ e f.
          let more = ltb-true left v.left f in
          cut_value scan o m x p v stop e (omega arith) fed
    ] refl waits
