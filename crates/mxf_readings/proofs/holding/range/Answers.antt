use Rattle.mxf_klv.proofs.Common.{◌∙◌, ℕ, ap, arith, drop, nat_lt, rules, take, IsPartitionPoint-from_clause, note_cmp}
use Rattle.mxf_klv.proofs.Common.{note_total}
use Rattle.mxf_klv.proofs.Sides.{side_by, sides_parted, sides_run}
use Rattle.mxf_readings.specs.Holdings.{HoldingParts}
use Rattle.mxf_readings.proofs.HoldingLaws.{by_note}
use Rattle.mxf_readings.proofs.holding.range.Goals as goal

pub returns : goal.returns
returns c =
    let n = c.args.note.now in
    let hs = c.args.holdings.now in
    let parted = sides_parted note_total (λ (h : HoldingParts). h.note) n hs (by_note hs c.requires) in
    let up_to = IsPartitionPoint-from_clause (λ h. nat_lt (side_by note_cmp (λ (g : HoldingParts). g.note) n h) 2) _ _
    c.partition_point-to.ensures.partitioned (parted 2) (λ a r q k. search rules) in
    let below = IsPartitionPoint-from_clause (λ h. nat_lt (side_by note_cmp (λ (g : HoldingParts). g.note) n h) 1) _ _
    c.partition_point-from.ensures.partitioned (parted 1) (λ a r q k. search rules) in record {
      order = omega (arith, c.min.ensures);
      bound = c.partition_point-to.ensures.bound;
      run = ap (λ (i : ℕ). drop i (take c.partition_point-to.result hs)) c.min.ensures
          ∙ sides_run note_cmp (λ (h : HoldingParts). h.note) n hs _ _ c.partition_point-to.ensures.bound below.0 below.1
          up_to.0 up_to.1;
    }
