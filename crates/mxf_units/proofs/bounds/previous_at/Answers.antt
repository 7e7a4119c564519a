use Rattle.std.proofs.Common.{◌≡◌, ◌∙◌, Option, None, Some, ap, option_map, refl}
use Rattle.mxf_views.specs.Partitions.{PartitionParts, in_numbers, previous_of}
use Rattle.mxf_units.proofs.bounds.previous_at.Goals as goal

-- What the partition by its numbers names.
by_numbers : (o : Option PartitionParts) → option_map previous_of (option_map in_numbers o) ≡ option_map previous_of o
by_numbers None = refl
by_numbers (Some p) = refl

pub returns-in_err-partition : goal.returns-in_err-partition
returns-in_err-partition c = c.from_residual.ensures
    ∙ ap (λ (o : Option PartitionParts). option_map previous_of o) c.in_err-partition.ensures ∙ by_numbers _

pub returns : goal.returns
returns c = ap (λ (p : PartitionParts). Some (previous_of p)) c.partition.view_is
    ∙ ap (λ (o : Option PartitionParts). option_map previous_of o) c.in_ok-partition.ensures ∙ by_numbers _
