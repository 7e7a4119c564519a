-- Holes and sections of a content of a well-formed file.
use Rattle.mxf_views.proofs.Common.{◌≡◌, ◌∙◌, ◌≤◌, ◌<◌, ◌+◌, ◌-◌, ℕ, List, [], ◌∷◌, ◌++◌, Option, None, Some, ap, arith}
use Rattle.mxf_views.proofs.Common.{inl, inr, max, refl, subst, sym, unwrap_or, cases_lt, NoteParts, PacketParts}
use Rattle.mxf_views.proofs.Common.{kind_of, covered_end, end_of, note_of, end_after, IsContent, clear_same}
use Rattle.mxf_views.proofs.Common.{SharesByte-same_offset, covers_below_end, PartitionParts, RipAtParts}
use Rattle.mxf_views.proofs.Common.{partitions_read, EndsWithRandomIndex, IsRandomIndexPack, IsWellFormed}
use Rattle.mxf_views.specs.declared.random_index.RipView.TheVariants.{One}
use Rattle.mxf_views.proofs.RandomIndexLaws.{rip_view_iff}
use Rattle.mxf_places.specs.AtHand.{LiesInRange, nothing_at_hand}
use Rattle.mxf_places.specs.Held.{IsHeld, end_of_file, held_end, top_of}
use Rattle.mxf_places.specs.declared.at_hand.OffsetRange.{OffsetRange}
use Rattle.mxf_places.proofs.EndLaws.{end_says}
use Rattle.mxf_places.proofs.HeldLaws.{top_of-bound}
use Rattle.mxf_restore.specs.Sections.{IsHole}
use Rattle.mxf_restore.proofs.HoleLaws.{last_held, open_is}
use Rattle.mxf_restore.proofs.OrderCover.{hole_there}
use Rattle.mxf_hand.specs.File.{AreOfFile}
use Rattle.mxf_hand.proofs.FileLaws.{end_more, stands_in}
use Rattle.mxf_hand.proofs.PacketPlaces.{is_packet}

-- Behind a random index pack a well-formed file has no packet.
none_behind : (partitions : List PartitionParts) (front : List PacketParts) (p : PacketParts) (back : List PacketParts)
    → EndsWithRandomIndex partitions (front ++ p ∷ back) → IsRandomIndexPack p → back ≡ []
none_behind partitions [] p [] e is = refl
none_behind partitions [] p (q ∷ back) e is = absurd (e.0 is)
none_behind partitions (k ∷ []) p back e is = none_behind partitions [] p back e.1 is
none_behind partitions (k ∷ j ∷ front) p back e is = none_behind partitions (j ∷ front) p back e.1 is

module _ (l : List PacketParts) (well : IsWellFormed l) (notes : List NoteParts) (content : IsContent notes)
    (of : AreOfFile l notes) where
  -- Where the end of the file is known, it is the end of all packets.
  end_is : (end : ℕ) → end_of_file notes ≡ Some end → end ≡ end_after 0 l
  end_is end e =
      let k = (end_says notes end).0 e in
      let pack = k.pack in
      let r = k.only.0 in
      let view = (rip_view_iff notes (One r) content).0 k.only.1 in
      let n = view.0 in
      let clear = view.1.held.clear in
      let kind = view.1.held.kind in
      let offset : n.offset ≡ pack.offset = ap (λ (r : RipAtParts). r.offset) view.2.2 ∙ k.only.2 in
      let same : n ≡ pack = clear_same notes n pack clear k.clear (SharesByte-same_offset n pack offset) in
      let s = stands_in 0 l pack (is_packet l pack (of pack k.clear.held) k.clear.whole) in
      let keys : n.key ≡ s.packet.key = ap (λ (n : NoteParts). n.key) (same ∙ s.is) in
      let is : IsRandomIndexPack s.packet = ap kind_of (sym keys) ∙ kind in
      let last : s.back ≡ [] =
      none_behind (partitions_read 0 l) s.front s.packet s.back
      (subst (EndsWithRandomIndex (partitions_read 0 l)) s.parts well.random_index) is in
      let whole : end_after 0 l ≡ end_after 0 (s.front ++ s.packet ∷ []) =
      ap (end_after 0) (s.parts ∙ ap (λ (t : List PacketParts). s.front ++ s.packet ∷ t) last) in
      let more = end_more 0 s.front s.packet in
      let packet : end_of pack ≡ end_of (note_of (end_after 0 s.front) s.packet) = ap end_of s.is in
      let known = k.end_is in omega (arith, known, packet, whole, more)

  -- What isn't held of the file lies in a hole.
  pub in_hole : (x : ℕ) → x < end_after 0 l → (IsHeld notes x → ⊥)
      → (g : OffsetRange) × IsHole notes g × LiesInRange g x
  in_hole x less free =
      elim (end_of_file notes) as (λ o. end_of_file notes ≡ o → (g : OffsetRange) × IsHole notes g × LiesInRange g x) [
        | None ↦ λ e. elim (cases_lt x (held_end notes)) [
          | inr high ↦ (record { start = held_end notes; end = None }, open_is notes e, (high, inl refl))
          | inl low ↦ (
              let last = last_held notes (held_end notes - 1) (omega (arith, low)) in
              let before : held_end notes - 1 + 1 ≤ covered_end last.0 = last.2.before in
              let within = covers_below_end last.0 in
              let below : x < end_of last.0 = omega (arith, before, within, low) in
              let top = (top_of-bound notes (top_of notes)).0 (omega arith) last.0 last.1 in
              hole_there notes nothing_at_hand content x
              (record { below = (last.0, last.1, below); in_none = λ n i c. free (n, i, c) })
              (subst (λ (o : Option ℕ). x < unwrap_or o (max (top_of notes) 0)) (sym e) (omega (arith, below, top))))
        ]
        | Some end ↦ λ e.
            let k = (end_says notes end).0 e in
            let is = end_is end e in
            let known = k.end_is in
            hole_there notes nothing_at_hand content x
            (record {
              below = (k.pack, k.clear.held, omega (arith, known, is, less));
              in_none = λ n i c. free (n, i, c);
            }) (subst (λ (o : Option ℕ). x < unwrap_or o (max (top_of notes) 0)) (sym e) (omega (arith, is, less)))
      ] refl
