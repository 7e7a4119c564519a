use Rattle.mxf_views.proofs.Common.{◌∙◌, ◌++◌, ap, map, subst, sym, List, NoteParts, partitions_of}
use Rattle.mxf_restore.specs.declared.named.NamedPlace.{NamedPlace}
use Rattle.mxf_partial.specs.NearTable.{AreListed, AreOfStreams, partition_place}
use Rattle.mxf_partial.specs.declared.place_streams.ListedStream.{ListedStream}
use Rattle.mxf_partial.proofs.near.Near.of.Goals as goal

pub returns-clause-near : goal.returns-clause-near
returns-clause-near c =
    let notes = c.args.units.now.known.notes in
    let views = c.views-views.ensures ∙ c.holdings.ensures in
    let listed = subst (λ (l : List NoteParts). AreListed l c.in_ok-listed.listed.items) views c.in_ok-listed.ensures in
    let all = c.in_ok-places.ensures
    ∙ ap (λ (l : List NoteParts). c.args.named.now ++ map partition_place (partitions_of l)) views in
    record {
      streams = c.in_ok-of.ensures;
      named = c.in_ok-named.ensures notes
          (subst (λ (l : List ListedStream). AreListed notes l) (sym c.deref.ensures.value) listed);
      places = subst (λ (l : List NamedPlace). AreOfStreams notes l c.in_ok-of_streams.field-0.items)
          (c.deref-3.ensures.value ∙ all) (c.in_ok-of_streams.ensures notes
          (subst (λ (l : List ListedStream). AreListed notes l) (sym c.deref-2.ensures.value) listed));
    }
