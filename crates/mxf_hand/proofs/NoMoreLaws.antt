-- Where all packets of a file are held, a round changes nothing.
use Rattle.mxf_views.proofs.Common.{◌≡◌, ◌∙◌, ◌≤◌, ◌-◌, ◌&&◌, ◌++◌, ◌==◌, ℕ, not, List, [], ◌∷◌, Option, Some, ap}
use Rattle.mxf_views.proofs.Common.{arith, filter, flat_map, inl, inr, map, refl, and_parts, cases_lt, slice_get_within}
use Rattle.mxf_views.proofs.Common.{range_with_len, option_map_or, NoteParts, PacketParts, covered_end, end_after}
use Rattle.mxf_views.proofs.Common.{notes_from, head_at, heads_at, In, filter_none, find-none, none_at_end}
use Rattle.mxf_views.proofs.Common.{packets_in-none, rest_in-none, reduced_union, is_whole, IsContent-laid}
use Rattle.mxf_klv.specs.PieceReading.{packets_in as packets_of_piece}
use Rattle.mxf_hand.specs.Noting.{cut_heads}
use Rattle.mxf_places.specs.Heads.{heads_to, is_head_to, start_of}
use Rattle.mxf_restore.specs.Sections.{AreSections, sections_of}
use Rattle.mxf_restore.specs.declared.section.Section.{Section}
use Rattle.mxf_restore.proofs.SectionCover.{are_sections}
use Rattle.mxf_hand.specs.File.{AreBytesOfFile}
use Rattle.mxf_hand.specs.Hand.{HandBytes, read_bytes, read_to}
use Rattle.mxf_hand.specs.Heads.{fits, fitting}
use Rattle.mxf_hand.specs.Rounds.{read_heads_of, round, taken_in}
use Rattle.mxf_hand.specs.Sections.{from_of, made_by, made_of, packets_of, read_from}
use Rattle.mxf_hand.proofs.HandLaws.{read_lies}
use Rattle.mxf_hand.proofs.ScanLaws.{none_noted}
use Rattle.std.proofs.lemmas.Bool.{not-true}
use Rattle.mxf_hand.proofs.PacketPlaces.{laid_size}
use Rattle.mxf_places.proofs.LaidPlaces.{held_all}

-- Where none of some gives anything, all together don't.
all_none : {K L : Type 0} (f : K → List L) (xs : List K) → ((x : K) → In x xs → f x ≡ []) → flat_map f xs ≡ []
all_none f [] none = refl
all_none {K} {L} f (x ∷ xs) none =
    let first = none x (inl refl) in
    let others = all_none f xs (λ y i. none y (inr i)) in λ i. first i ++ others i

module _ (l : List PacketParts) (h : HandBytes) (file : AreBytesOfFile l h) where
  -- The notes of all packets.
  abbrev whole : List NoteParts
  whole = notes_from 0 l

  whole_sections : AreSections whole (sections_of whole)
  whole_sections = are_sections whole (IsContent-laid 0 l)

  -- All sections lie above the file.
  above_file : (p : Section) → In p (sections_of whole) → end_after 0 l ≤ p.first
  above_file p k = elim (cases_lt p.first (end_after 0 l)) [
    | inr high ↦ high
    | inl less ↦ absurd
        ((whole_sections.holes p k).none_held p.first (whole_sections.within p p.first k (whole_sections.some p k))
        (held_all 0 l p.first (omega arith) less))
  ]

  -- Nothing above the file is at hand, so nothing is read there.
  no_bytes : (end : Option ℕ) (q : ℕ) → end_after 0 l ≤ q → read_bytes h end q ≡ []
  no_bytes end q above =
      let none : read_to h.runs end q - q ≡ 0 = elim (cases_lt q (read_to h.runs end q)) [
        | inr low ↦ omega (arith, low)
        | inl more ↦ absurd (
            let there = file.alike q (read_lies h.runs end q q (omega arith) more) in
            let within = slice_get_within file.bytes q (h.byte q) there in
            let size = laid_size 0 file.bytes l [] file.laid in omega (arith, within, size, above))
      ] in
      ap (λ (n : ℕ). map h.byte (range_with_len q n)) none

  no_packets : (q : ℕ) → packets_of_piece q [] ≡ []
  no_packets q = packets_in-none q [] (none_at_end q [] (omega arith))

  no_head_at : (q : ℕ) → heads_at q [] ≡ []
  unfolding heads_at head_at
  no_head_at q = refl

  no_heads : (q : ℕ) → cut_heads q [] ≡ []
  no_heads q = (λ i. heads_at (end_after q (no_packets q i)) (rest_in-none q [] (none_at_end q [] (omega arith)) i))
      ∙ no_head_at q

  none_fits : (first : ℕ) → heads_to first whole ≡ []
  none_fits first = grind (arith, filter_none, not-true, and_parts, is_whole)

  fits_nothing : (first : ℕ) → fitting h whole first ≡ []
  fits_nothing first = ap (filter (λ n. (n.offset == start_of whole first) && fits h n)) (none_fits first)

  from_there : (p : Section) → In p (sections_of whole) → (q : ℕ) × (from_of h whole p ≡ Some q) × (end_after 0 l ≤ q)
  from_there p k =
      let start : start_of whole p.first ≡ p.first =
      ap (λ (o : Option NoteParts). option_map_or (λ n. n.offset) o p.first)
      (find-none (is_head_to p.first) whole (λ n i t.
      let head = not-true n.whole (and_parts (not n.whole) (covered_end n == p.first) t).0 in
      let packet = is_whole 0 l n i in cc (head, packet))) in
      let above = above_file p k in (
        start_of whole p.first,
        ap (read_from (start_of whole p.first)) (fits_nothing p.first),
        omega (arith, start, above),
      )

  packets_none : (p : Section) → In p (sections_of whole) → packets_of h whole p ≡ []
  packets_none p k = grind (arith, from_there, no_bytes, no_packets, none_noted)

  heads_none : (p : Section) → In p (sections_of whole) → read_heads_of h whole p ≡ []
  heads_none p k = grind (arith, from_there, no_bytes, no_heads)

  made_none : (p : Section) → In p (sections_of whole) → made_of h whole p ≡ []
  made_none p k = ap (made_by h p.hole.end) (fits_nothing p.first)

  taken_none : taken_in h whole (sections_of whole) ≡ []
  taken_none = grind (arith, all_none, packets_none, made_none, heads_none)

  pub no_more : round h whole ≡ whole
  unfolding round
  no_more = ap (reduced_union whole) taken_none
