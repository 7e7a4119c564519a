-- A content of exactly what was handed is what the run holds.
use Rattle.mxf_views.proofs.Common.{◌≡◌, ◌↔◌, List, filter, sym, subst, ap, PacketParts, NoteParts, notes_from, In}
use Rattle.mxf_views.proofs.Common.{IsContent, is_disputed, same_content, IsWellFormed, In-filter, file_bytes}
use Rattle.mxf_views.proofs.Common.{IsLocated, is_disputed-IsDisputed, IsFileOf, content, notes-disputed_notes}
use Rattle.mxf_views.proofs.Common.{In-content, IsTheRun, is_whole, IsContent-laid}
use Rattle.mxf_catalogue.proofs.HistoryLaws.{IsContent-content}
use Rattle.mxf_views.specs.Headline.{IsDisputedAmong, IsNoteOf, IsReadFromFront}
use Rattle.mxf_views.proofs.LaidCopies.{copies-laid}
use Rattle.mxf_views.proofs.LaidIndex.{index-laid}
use Rattle.mxf_views.proofs.LaidPartitions.{partitions-laid}
use Rattle.mxf_views.proofs.LaidRandomIndex.{random_index-laid}

-- All that was handed is located where it is the notes of a file: these are of packets that were read whole.
located-laid : (l : List PacketParts) (n : NoteParts) → IsLocated (IsNoteOf l) n ↔ In n (notes_from 0 l)
located-laid l n = (
  λ h. h.0,
  λ h. (
    h,
    λ y i ne e.
        let w = is_whole 0 l n h in
        let u = ap (λ (m : NoteParts). m.whole) e in cc (w, u),
  ),
)

read_from_front : (l : List PacketParts) → IsWellFormed l → IsReadFromFront (notes_from 0 l) l
read_from_front l w = record {
  partitions = partitions-laid l w;
  copies = copies-laid l w;
  index = index-laid l w;
  random_index = random_index-laid l w;
}

module _ (handed : NoteParts → Type 0) (notes : List NoteParts) (members : (n : NoteParts)
    → In n notes ↔ IsLocated handed n) where
  -- The disputed notes are those that share a byte with a different one that was handed.
  disputed_among : (n : NoteParts) → In n (filter (λ m. is_disputed m notes) notes) ↔ IsDisputedAmong handed n
  disputed_among n =
      let f = In-filter (λ m. is_disputed m notes) notes n in
      let d = is_disputed-IsDisputed n notes in (
        (λ h.
            let k = d.0 (f.0 h).1 in
            record {
              there = (members n).0 (f.0 h).0;
              other = k.0;
              other_there = (members k.0).0 k.1;
              differs = k.2;
              shares = k.3;
            }),
        (λ h. f.1 ((members n).1 h.there, d.1 (h.other, (members h.other).1 h.other_there, h.differs, h.shares))),
      )

  -- A content of exactly what was handed is what the run holds.
  pub IsTheRun-from_set : IsFileOf (file_bytes notes) notes → IsTheRun handed notes
  IsTheRun-from_set file =
      let rises : IsContent notes = file.1.catalogue.content in
      record {
        members = members;
        file = file;
        one = λ h same. same_content (content h) notes (IsContent-content h) rises
            (λ n. (
              λ i. (members n).1 ((same n).0 ((In-content h n).0 i)),
              λ i. (In-content h n).1 ((same n).1 ((members n).0 i)),
            ));
        disputed = λ n. subst (λ ns. In n ns ↔ IsDisputedAmong handed n) (sym (notes-disputed_notes notes))
            (disputed_among n);
        whole = λ l w same.
            let e : notes_from 0 l ≡ notes =
            same_content (notes_from 0 l) notes (IsContent-laid 0 l) rises
            (λ n. let own = located-laid l n in (
              λ i. (members n).1 ((same n).0 (own.1 i)),
              λ i. own.0 ((same n).1 ((members n).0 i)),
            )) in
            subst (λ ns. IsReadFromFront ns l) e (read_from_front l w);
      }
