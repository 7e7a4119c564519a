-- The views of a whole file's skim are those of its reading from the front.
use Rattle.mxf_views.proofs.Common.{◌≡◌, ◌≢◌, true, false, List, [], refl, sym, ap, subst, ◌∙◌, NoteParts, PacketParts}
use Rattle.mxf_views.proofs.Common.{In, In-filter, SharesByte-same_offset, is_disputed, is_disputed-IsDisputed}
use Rattle.mxf_views.proofs.Common.{is_same_note, same_note-Decides, disputed_notes, notes-disputed_notes, map, filter}
use Rattle.mxf_views.proofs.Common.{DisputedParts, IsWellFormed}
use Rattle.mxf_views.specs.Headline.{IsReadFromFront}
use Rattle.mxf_views.specs.WholeFile.{AreNotesOf}
use Rattle.mxf_views.proofs.LaidCopies.{copies-laid}
use Rattle.mxf_views.proofs.LaidIndex.{index-laid}
use Rattle.mxf_views.proofs.LaidPartitions.{partitions-laid}
use Rattle.mxf_views.proofs.LaidRandomIndex.{random_index-laid}
use Rattle.mxf_skimmed.specs.Skims.{NoneAlike, disputed_beside, skim_beside}
use Rattle.mxf_skimmed.proofs.HeldLaws.{clear_skim, disputed_skim}
use Rattle.mxf_skimmed.proofs.ViewLaws.{skim_has_the_same_gaps, skim_has_the_same_views}

-- where no note is disputed, none are alike
pub none_alike : (notes : List NoteParts) → disputed_notes notes ≡ [] → NoneAlike notes
none_alike notes none m n i k c d e =
    elim (is_same_note m n) as (λ b. is_same_note m n ≡ b → m ≡ n) [
      | true ↦ λ t. (same_note-Decides m n).0 t
      | false ↦ λ t.
          let other : n ≢ m = λ same. let is = (same_note-Decides m n).1 (sym same) in cc (is, t) in
          let shared = SharesByte-same_offset n m (ap (λ (x : NoteParts). x.offset) (sym e)) in
          let disputed = (is_disputed-IsDisputed m notes).1 (n, k, other, shared) in
          let held : In m (filter (λ x. is_disputed x notes) notes) =
          (In-filter (λ x. is_disputed x notes) notes m).1 (i, disputed) in
          let empty : filter (λ x. is_disputed x notes) notes ≡ [] =
          sym (notes-disputed_notes notes) ∙ ap (map (λ (x : DisputedParts). x.note)) none in
          absurd (subst (In m) empty held)
    ] refl

-- the views of a skim are those of the front-to-back reading where those of the reading are
pub front_of_skim : (saved notes : List NoteParts) (l : List PacketParts) → IsReadFromFront notes l
    → IsReadFromFront (skim_beside saved notes) l
front_of_skim saved notes l front =
    let apart = none_alike notes front.partitions.disputes in
    let same = skim_has_the_same_views saved notes (clear_skim saved notes apart) in
    record {
      partitions = record {
        disputes = disputed_skim saved notes apart ∙ ap (map (disputed_beside saved)) front.partitions.disputes;
        gaps = skim_has_the_same_gaps saved notes ∙ front.partitions.gaps;
        partitions = same.partitions ∙ front.partitions.partitions;
        links = λ offset. same.link offset ∙ front.partitions.links offset;
        chain = same.chain ∙ front.partitions.chain;
      };
      copies = record {
        copies = same.copies ∙ front.copies.copies;
        sets = λ offset. same.sets offset ∙ front.copies.sets offset;
        preferred = same.preferred ∙ front.copies.preferred;
      };
      index = record {
        segments = same.segments ∙ front.index.segments;
        places = λ index_sid unit. same.locate index_sid unit ∙ front.index.places index_sid unit;
      };
      random_index = same.rip ∙ front.random_index;
    }

-- the views of a whole file's skim
pub whole_skim : (saved notes : List NoteParts) (l : List PacketParts) → IsWellFormed l → AreNotesOf notes l
    → IsReadFromFront (skim_beside saved notes) l
whole_skim saved notes l w e = front_of_skim saved notes l
    (subst (λ (ns : List NoteParts). IsReadFromFront ns l) (sym e) (record {
      partitions = partitions-laid l w;
      copies = copies-laid l w;
      index = index-laid l w;
      random_index = random_index-laid l w;
    }))
