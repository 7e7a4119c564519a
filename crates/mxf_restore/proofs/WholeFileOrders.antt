-- Nothing is ordered of a whole file.
use Rattle.mxf_views.proofs.Common.{◌≡◌, ◌∙◌, ◌⊎◌, ◌<◌, ◌≤◌, ◌+◌, ◌-◌, ℕ, true, false, cond, List, [], ◌∷◌, Option}
use Rattle.mxf_views.proofs.Common.{Some, None, refl, sym, ap, subst, inl, inr, arith, is_some, IsSome, cases_lt}
use Rattle.mxf_views.proofs.Common.{same_Some, AllByRecursion, option_map_or, kind_of, covered_end, end_of, note_of}
use Rattle.mxf_views.proofs.Common.{size_of, NoteParts, PacketParts, end_after, notes_from, In, RipParts, IsContent}
use Rattle.mxf_views.proofs.Common.{IsCover, clear-laid, is_whole, In-clear_notes, IsContent-laid, PartitionParts}
use Rattle.mxf_views.proofs.Common.{RipAtParts, is_rip, one_by_one, partitions_read, rip_read, EndsWithRandomIndex}
use Rattle.mxf_views.proofs.Common.{IsRandomIndexPack, IsReadable, IsWellFormed, BeginsWithHeader, is_readable_as}
use Rattle.mxf_views.proofs.Common.{end_up, length, keeps, result_ok, pack_at, read_pack, partition_read, cons_option}
use Rattle.mxf_views.proofs.Common.{option_map, some_is, all-In, In-append, IsFooterPack, PartitionPackParts}
use Rattle.mxf_klv.specs.declared.kinds.Kind.TheVariants as kinds
use Rattle.mxf_klv.specs.declared.kinds.Status.{Status}
use Rattle.mxf_sets.proofs.PackKinds.{kind_is}
use Rattle.mxf_sets.specs.PartitionPack.{pack_kind}
use Rattle.mxf_sets.specs.declared.pack.part.PackPart.{PackPart}
use Rattle.mxf_sets.specs.declared.pack.part.PackPart.TheVariants.{Body, Footer, Header}
use Rattle.mxf_views.proofs.Laid.{partitions_of-laid}
use Rattle.mxf_views.proofs.PartitionLaws.{partitions_are}
use Rattle.mxf_restore.specs.EndPacks.{HasEndPack}
use Rattle.mxf_views.specs.declared.random_index.RipView.TheVariants.{Absent, One}
use Rattle.mxf_views.specs.Records.{read_rip}
use Rattle.mxf_views.proofs.KindLaws.{rip_kind}
use Rattle.mxf_views.proofs.LaidRandomIndex.{random_index-laid}
use Rattle.mxf_places.specs.AtHand.{AtHandParts, LiesBetween}
use Rattle.mxf_places.specs.Held.{IsEndOfFile, IsHeld, end_of_file}
use Rattle.mxf_places.specs.declared.at_hand.OffsetRange.{OffsetRange}
use Rattle.mxf_places.proofs.ClaimLaws.{claims_say}
use Rattle.mxf_places.proofs.EndLaws.{end_says}
use Rattle.mxf_places.proofs.FirstLaws.{claim_some}
use Rattle.mxf_places.proofs.LaidPlaces.{ends_below, held_all}
use Rattle.mxf_restore.specs.Orders.{IsAskedEnd, IsHeadTo, IsOrder, ReachesUpTo}
use Rattle.mxf_restore.specs.Sections.{AreSections, IsEndOfHole, IsHole, LiesInSection, sections_of}
use Rattle.mxf_restore.specs.WholeFiles.{EndsInRandomIndex, NothingIsBeyond}
use Rattle.mxf_restore.specs.declared.plan.Order.{Order}
use Rattle.mxf_restore.specs.declared.section.Section.{Section}
use Rattle.mxf_restore.proofs.PartLaws.{plan_orders_say}
use Rattle.mxf_restore.proofs.SectionCover.{are_sections}
use Rattle.mxf_restore.specs.Plan.{plan_of}

-- ---- the random index pack at the end

not_read : (p : PacketParts) → (IsRandomIndexPack p → ⊥) → read_rip p ≡ None
unfolding read_rip
not_read p none =
    let e : is_rip (kind_of p.key) ≡ false =
    elim (is_rip (kind_of p.key)) as (λ b. is_rip (kind_of p.key) ≡ b → b ≡ false) [
      | true ↦ λ e. absurd (none ((rip_kind (kind_of p.key)).0 e))
      | false ↦ λ e. refl
    ] refl in rw e refl

-- The pack that is read last begins the last note.
pub record IsLastPack (parts : List PartitionParts) (at : ℕ) (l : List PacketParts) : Type 0 where
  pub rip : RipAtParts
  pub read : rip_read parts at l ≡ One rip
  pub note : NoteParts
  pub there : In note (notes_from at l)
  pub begins : rip.offset ≡ note.offset
  pub ends : end_of note ≡ end_after at l

read_last : (parts : List PartitionParts) (at : ℕ) (l : List PacketParts) → AllByRecursion IsReadable l
    → EndsWithRandomIndex parts l → EndsInRandomIndex l → IsLastPack parts at l
read_last parts at [] r e last = absurd last
read_last parts at (p ∷ []) r e last =
    let readable : is_some (read_rip p) ≡ true = subst (λ kind. is_readable_as kind p ≡ true) last r.0 in
    elim (read_rip p) as (λ (o : Option RipParts). read_rip p ≡ o → is_some o ≡ true → IsLastPack parts at (p ∷ [])) [
      | None ↦ λ _ s. absurd (cc (s))
      | Some rip ↦ λ t _. record {
        rip = record { offset = at; entries = one_by_one rip.entries parts };
        read = ap (λ (o : Option RipParts). option_map_or
            (λ rip. One (record { offset = at; entries = one_by_one rip.entries parts })) o Absent) t;
        note = note_of at p;
        there = inl refl;
        begins = refl;
        ends = omega arith;
      }
    ] refl readable
read_last parts at (p ∷ q ∷ packets) r e last =
    let ih = read_last parts (at + size_of p) (q ∷ packets) r.1 e.1 last in
    record {
      rip = ih.rip;
      read = ap (λ (o : Option RipParts). option_map_or
          (λ rip. One (record { offset = at; entries = one_by_one rip.entries parts })) o
          (rip_read parts (at + size_of p) (q ∷ packets))) (not_read p e.0) ∙ ih.read;
      note = ih.note;
      there = inr ih.there;
      begins = ih.begins;
      ends = ih.ends;
    }

-- ---- the footer partition pack

footer_part : (part : PackPart) (status s : Status) → kinds.Footer s ≡ pack_kind part status → part ≡ Footer
footer_part Header status s e = absurd (cc (e))
footer_part Body status s e = absurd (cc (e))
footer_part Footer status s e = refl

-- A readable footer partition pack is read as one.
footer_read : (p : PacketParts) → IsFooterPack p → IsReadable p
    → (pack : PartitionPackParts) × (read_pack p ≡ Some pack) × (pack.part ≡ Footer)
unfolding read_pack
footer_read p f r =
    let some : is_some (read_pack p) ≡ true = subst (λ kind. is_readable_as kind p ≡ true) f.1 r in
    let pack = some_is (read_pack p) some in
    let is = elim (keeps p.key (length p.value))
    as (λ b. cond b (result_ok (pack_at (kind_of p.key) p.value)) None ≡ Some pack.0
    → kind_of p.key ≡ pack_kind pack.0.part pack.0.status) [
      | true ↦ kind_is (kind_of p.key) p.value pack.0
      | false ↦ λ e. absurd (cc (e))
    ] pack.1 in (pack.0, pack.1, footer_part pack.0.part pack.0.status f.0 (sym f.1 ∙ is))

-- A packet that is read as a partition pack is among the partitions.
among_read : (at : ℕ) (l : List PacketParts) (p : PacketParts) (pack : PartitionPackParts) → In p l
    → read_pack p ≡ Some pack → (q : PartitionParts) × In q (partitions_read at l) × (q.pack ≡ pack)
among_read at [] p pack k e = absurd k
among_read at (x ∷ xs) p pack (inl same) e =
    let end = at + size_of x in
    let placed : PartitionPackParts → PartitionParts = λ pack. record { offset = at; end = end; pack = pack } in
    let read : read_pack x ≡ Some pack = subst (λ y. read_pack y ≡ Some pack) same e in (
      placed pack,
      subst (λ o. In (placed pack) (cons_option (option_map placed o) (partitions_read end xs))) (sym read) (inl refl),
      refl,
    )
among_read at (x ∷ xs) p pack (inr k) e =
    let end = at + size_of x in
    let s = among_read end xs p pack k e in (
      s.0,
      elim (partition_read at x) as (λ o. In s.0 (cons_option o (partitions_read end xs))) [
        | None ↦ s.1
        | Some q ↦ inr s.1
      ],
      s.2,
    )

-- A well-formed file has a footer partition.
end_pack_held : (l : List PacketParts) → IsWellFormed l → HasEndPack (notes_from 0 l)
end_pack_held l well =
    let f = well.footer in
    let k : In f.footer l = subst (In f.footer) (sym f.order)
    ((In-append f.footer f.before (f.footer ∷ f.after)).1 (inr (inl refl))) in
    let s = footer_read f.footer f.is_footer (all-In IsReadable l f.footer well.readable k) in
    let q = among_read 0 l f.footer s.0 k s.1 in
    inl (
      q.0,
      (partitions_are (notes_from 0 l) q.0).0 (subst (In q.0) (sym (partitions_of-laid 0 l)) q.1),
      ap (λ (pack : PartitionPackParts). pack.part) q.2 ∙ s.2,
    )

some_end : (l : List PacketParts) → BeginsWithHeader l → 0 < end_after 0 l
some_end [] h = absurd h
some_end (p ∷ packets) h = let up = end_up (0 + size_of p) packets in omega (arith, up)

no_members : {K : Type 0} (xs : List K) → ((x : K) → In x xs → ⊥) → xs ≡ []
no_members [] none = refl
no_members (x ∷ xs) none = absurd (none x (inl refl))

module _ (l : List PacketParts) (well : IsWellFormed l) where
  abbrev notes : List NoteParts
  notes = notes_from 0 l

  abbrev end : ℕ
  end = end_after 0 l

  held_below : (x : ℕ) → x < end → IsHeld notes x
  held_below x less = held_all 0 l x (omega arith) less

  none_beyond : (x : ℕ) → end ≤ x → IsHeld notes x → ⊥
  none_beyond x from h =
      let before : x + 1 ≤ _ = h.2.before in
      let whole = is_whole 0 l h.0 h.1 in
      let below = ends_below 0 l h.0 h.1 in covered_below h.0 x whole before below from
    where
      covered_below : (n : NoteParts) (x : ℕ) → n.whole ≡ true → x + 1 ≤ covered_end n → end_of n ≤ end → end ≤ x → ⊥
      covered_below n x whole before below from =
          let same : covered_end n ≡ end_of n = ap (λ b. cond b (end_of n) (n.offset + 16 + n.width)) whole in
          omega (arith, before, below, from, same)

  end_known : EndsInRandomIndex l → IsEndOfFile notes end
  end_known last =
      let k = read_last (partitions_read 0 l) 0 l well.readable well.random_index last in
      record {
        pack = k.note;
        clear = (In-clear_notes k.note notes).0 (subst (In k.note) (sym (clear-laid 0 l)) k.there);
        only = (k.rip, random_index-laid l well ∙ k.read, k.begins);
        end_is = sym k.ends;
        last = none_beyond;
      }

  -- The only hole begins at the end, and has none.
  hole_is : (h : OffsetRange) → IsHole notes h → (h.start ≡ end) × (h.end ≡ None)
  hole_is h is =
      let free = is.none_held h.start is.some in
      let high : end ≤ h.start = elim (cases_lt h.start end) [
        | inl less ↦ absurd (free (held_below h.start less))
        | inr more ↦ more
      ] in
      let some = some_end l well.header in
      let low : h.start ≤ end = elim (cases_lt end h.start) [
        | inl less ↦ absurd (none_beyond (h.start - 1) (omega (arith, less))
            (is.first (h.start - 1) (omega (arith, less))))
        | inr more ↦ more
      ] in (omega (arith, high, low), opened h.end refl high)
    where
      ends_above : (e : ℕ) → h.end ≡ Some e → h.start < e
      ends_above e same = elim is.some.1 [
        | inl none ↦ absurd (cc (same, none))
        | inr s ↦ (let f = same_Some s.0 e (sym s.1 ∙ same) in omega (arith, f, s.2))
      ]

      opened : (e : Option ℕ) → h.end ≡ e → end ≤ h.start → h.end ≡ None
      opened None e high = e
      opened (Some e) same high =
          let held = subst (IsEndOfHole notes) same is.last in
          absurd (none_beyond e (let above = ends_above e same in omega (arith, above, high)) held)

  none_known_end : EndsInRandomIndex l → (p : Section) → In p (sections_of notes) → ⊥
  none_known_end last p k =
      let is = (are_sections notes (IsContent-laid 0 l)).holes p k in
      let opened = (hole_is p.hole is).1 in
      let unknown : end_of_file notes ≡ None = subst (IsEndOfHole notes) opened is.last in
      let known = (end_says notes end).1 (end_known last) in absurd (cc (unknown, known))

  module _ (at : AtHandParts) (none : NothingIsBeyond at notes end) where
    content : IsContent notes
    content = IsContent-laid 0 l

    are : AreSections notes (sections_of notes)
    are = are_sections notes content

    from_end : (p : Section) → In p (sections_of notes) → end ≤ p.first
    from_end p k =
        let range = are.within p p.first k (are.some p k) in
        let start = (hole_is p.hole (are.holes p k)).0 in
        let low : p.hole.start ≤ p.first = range.0 in omega (arith, start, low)

    begins_at : (p : Section) → In p (sections_of notes) → p.first ≡ end
    begins_at p k =
        let high = from_end p k in
        elim (are.begins p k) [
          | inl e ↦ e ∙ (hole_is p.hole (are.holes p k)).0
          | inr cut ↦
              let c = cut.claim.0 in
              let is = (claims_say notes content c).0 cut.claim.1 in
              let bound = none.claimed c is in
              let some = claim_some notes c is in
              elim cut.claim.2 [
                | inl named ↦ (let from = named.1 in absurd (omega (arith, from, some, bound, high)))
                | inr stretch ↦ (let at = stretch.2 in omega (arith, at, bound, high))
              ]
        ]

    no_end : (p : Section) → In p (sections_of notes) → p.end ≡ None
    no_end p k = by p.end refl
      where
        above : (q : Section) (x : ℕ) (e : Option ℕ) → LiesBetween x e x → (y : ℕ) → e ≡ Some y → x < y
        above q x e lies y same = elim lies.1 [
          | inl open_end ↦ absurd (cc (same, open_end))
          | inr s ↦ (let f = same_Some s.0 y (sym s.1 ∙ same) in omega (arith, f, s.2))
        ]

        by : (e : Option ℕ) → p.end ≡ e → p.end ≡ None
        by None same = same
        by (Some y) same =
            let hole = hole_is p.hole (are.holes p k) in
            let first = begins_at p k in
            let some = above p p.first p.end (are.some p k) y same in
            let s = are.cover p.hole y (are.holes p k) (omega (arith, hole.0, first, some), inl hole.1) in
            let q = s.0 in
            let there = begins_at q s.1 in
            let one = are.apart p q p.first k s.1 (are.some p k)
            (subst (LiesInSection q) (there ∙ sym first) (are.some q s.1)) in
            let lies : LiesInSection p y = subst (λ (z : Section). LiesInSection z y) (sym one) s.3 in
            elim lies.1 [
              | inl open_end ↦ absurd (cc (same, open_end))
              | inr t ↦ (let f = same_Some t.0 y (sym t.1 ∙ same) in absurd (omega (arith, f, t.2)))
            ]

    no_head : (start first : ℕ) (n : NoteParts) → IsHeadTo notes start first n → ⊥
    no_head start first n h = let whole = is_whole 0 l n h.held in let head = h.head in cc (whole, head)

    reaches_none : (p : Section) (start edge : ℕ) → In p (sections_of notes)
        → ReachesUpTo at notes p.first start edge → ⊥
    reaches_none p start edge k r =
        let first = begins_at p k in
        elim r.far [
          | inl n ↦ (let below = ends_below 0 l n.0 n.1 in let far = n.2 in omega (arith, first, below, far))
          | inr far ↦ elim r.is_edge [
            | inl known ↦
                let is = are.holes p k in
                let unknown : end_of_file notes ≡ None = subst (IsEndOfHole notes) (hole_is p.hole is).1 is.last in
                let told = (end_says notes edge).1 known in absurd (cc (unknown, told))
            | inr top ↦
                let low : edge ≤ end = top.1.least end (ends_below 0 l) none.given in omega (arith, first, far, low)
          ]
        ]

    asks_nothing : (p : Section) (start : ℕ) (e : Option ℕ) → In p (sections_of notes) → IsSome e
        → IsAskedEnd at notes p start e → ⊥
    asks_nothing p start None k some is = absurd (cc (some))
    asks_nothing p start (Some e) k some is = elim is.is_section_end [
      | inl same ↦ (let open_end = no_end p k in cc (same, open_end))
      | inr reaches ↦ reaches_none p start is.section_end k reaches.1
    ]

    none_ordered : (p : Section) (o : Order) → In p (sections_of notes) → IsOrder at notes p o → ⊥
    none_ordered p o k is =
        let a = is.is_asked in
        let start : is.asked.start ≡ p.first = elim a.start [
          | inl head ↦ absurd (no_head is.asked.start p.first head.0 head.1)
          | inr same ↦ same.0
        ] in
        let first = begins_at p k in
        elim a.said [
          | inl said ↦
              let bound = none.claimed said.0 said.1.claim in
              let speaks = said.1.speaks.1 in omega (arith, start, first, bound, speaks)
          | inr gap ↦ elim (a.known gap.1) [
            | inl some ↦ asks_nothing p is.asked.start is.asked.end k some a.end
            | inr unended ↦ unended (end_pack_held l well)
          ]
        ]

-- No order is left of a whole file.
pub no_orders : (l : List PacketParts) (at : AtHandParts) → IsWellFormed l → IsCover at.given → IsCover at.hand
    → EndsInRandomIndex l ⊎ NothingIsBeyond at (notes_from 0 l) (end_after 0 l)
    → (plan_of at (notes_from 0 l)).orders ≡ []
no_orders l at well given hand beyond =
    let content = IsContent-laid 0 l in
    no_members (plan_of at (notes_from 0 l)).orders (λ o k.
    let s = (plan_orders_say at (notes_from 0 l) content given hand o).0 k in
    elim beyond [
      | inl last ↦ none_known_end l well last s.0 s.1
      | inr none ↦ none_ordered l well at none s.0 o s.1 s.2
    ])
