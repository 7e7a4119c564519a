use Rattle.mxf_findings.proofs.Common.{◌≡◌, ◌+◌, ◌<◌, ◌==◌, cond, is_some, refl, ap, arith, eq-eqb, eqb-true, item_at}
use Rattle.mxf_findings.proofs.Common.{items_of, left_of, rank, read_segment, and_from, and_parts, status_rank}
use Rattle.mxf_views.proofs.KindLaws.{fill_kind, preface_kind, primer_kind, rip_kind, segment_kind, set_kind}
use Rattle.mxf_findings.proofs.SmallFiles.{rank_below_4}
use Rattle.mxf_findings.proofs.small_files.shared_rules_are_these.Goals as goal

pub returns : goal.returns
unfolding read_segment item_at items_of left_of
returns c = record {
  statuses = (omega arith, omega arith, omega arith);
  finished = λ c d f u.
      let above : rank c ≡ 4 + status_rank c.status = ap (λ b. cond b 4 0 + status_rank c.status) f in
      let below : rank d ≡ 0 + status_rank d.status = ap (λ b. cond b 4 0 + status_rank d.status) u in
      let low : status_rank d.status < 4 = rank_below_4 d.status in
      omega (arith, above, below, low);
  candidates = λ c. (
    (λ h. let p = and_parts (is_some c.start) (c.prefaces == 1) h in (p.0, eqb-true c.prefaces 1 p.1)),
    (λ h. and_from (is_some c.start) (c.prefaces == 1) h.0 (eq-eqb c.prefaces 1 h.1)),
  );
  sets = (refl, refl, refl);
  no_sets = (refl, refl, refl, refl, refl);
  set_kinds = set_kind;
  fills = fill_kind;
  primers = primer_kind;
  prefaces = preface_kind;
  segments = segment_kind;
  random_index_packs = rip_kind;
  sizes = (refl, refl, refl);
  endless_sizes = (refl, refl);
  entries = (refl, refl, refl, refl);
  fewer_units = (refl, refl, refl);
  slices = (refl, refl, refl);
  sliced_places = (refl, refl);
}
