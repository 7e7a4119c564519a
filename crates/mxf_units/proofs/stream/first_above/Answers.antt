use Rattle.std.proofs.Common.{rules, ◌∙◌, List, Option, ap, slice_get}
use Rattle.std.specs.Option.{option_and_then}
use Rattle.std.proofs.lemmas.List.Sorted.{IsPartitionPoint-from_clause}
use Rattle.mxf_units.specs.Streams.{offset_in}
use Rattle.mxf_views.specs.declared.index.place.StreamPlace.{StreamPlace}
use Rattle.mxf_units.proofs.LeastLaws.{first-found, is_up_to, parted}
use Rattle.mxf_units.proofs.stream.first_above.Goals as goal

pub returns-in_err-first : goal.returns-in_err-first
returns-in_err-first c =
    let point = IsPartitionPoint-from_clause (is_up_to c.args.body_sid c.args.offset) _ _
    c.partition_point-passed.ensures.partitioned (parted c.args.body_sid c.args.offset c.args.places.now c.requires)
    (λ a r q k. search rules) in
    c.from_residual.ensures ∙ ap (λ (o : Option StreamPlace). option_and_then (offset_in c.args.body_sid) o)
    (c.in_err-first.ensures.value ∙ ap (λ (xs : List StreamPlace). slice_get xs 0) c.split_at.ensures.back)
    ∙ first-found c.args.body_sid c.args.offset c.args.places.now c.partition_point-passed.result
    c.partition_point-passed.ensures.bound c.requires point.0 point.1

pub returns : goal.returns
returns c =
    let point = IsPartitionPoint-from_clause (is_up_to c.args.body_sid c.args.offset) _ _
    c.partition_point-passed.ensures.partitioned (parted c.args.body_sid c.args.offset c.args.places.now c.requires)
    (λ a r q k. search rules) in
    c.offset_in.ensures ∙ ap (λ (o : Option StreamPlace). option_and_then (offset_in c.args.body_sid) o)
    (c.in_ok-first.ensures.value ∙ ap (λ (xs : List StreamPlace). slice_get xs 0) c.split_at.ensures.back)
    ∙ first-found c.args.body_sid c.args.offset c.args.places.now c.partition_point-passed.result
    c.partition_point-passed.ensures.bound c.requires point.0 point.1
