-- How a skim disputes the packets of other kinds, where packets of a container may be alike.
use Rattle.mxf_views.proofs.Common.{◌≡◌, ◌≢◌, ◌∙◌, ◌↔◌, ◌⊎◌, ◌++◌, true, false, not, List, refl, sym, ap, subst, inl, inr, map}
use Rattle.mxf_views.proofs.Common.{NoteParts, In, In-append, In-map, and_parts, end_of, head_note, if◌then◌else◌, ◌≤◌, ◌+◌}
use Rattle.std.specs.Str.{bytes_eq}
use Rattle.mxf_klv.proofs.Tests.{not-true-false}
use Rattle.mxf_catalogue.specs.Content.{IsLocated}
use Rattle.mxf_catalogue.specs.Disputes.{IsDisputed, Overlaps, SharesByte, SharesOffset}
use Rattle.mxf_read.specs.SkimGathering.{IsTheSkim}
use Rattle.mxf_read.proofs.SkimsAndReadings.{as_noted}
use Rattle.mxf_skim.specs.PassedOver.{is_in_container, is_of_container, no_digest, noted_by, passed_note, skimmed}
use Rattle.mxf_skim.specs.Preferring.{is_read_in}
use Rattle.mxf_skim.proofs.PreferringLaws.{is_read_in-IsReadIn}
use Rattle.mxf_skim.specs.declared.scan.Scan.TheVariants.{Skim}

skimmed_head : (m : NoteParts) → head_note (skimmed m) ≡ head_note m
skimmed_head m = elim (is_of_container m) as (λ b. head_note (if b then passed_note m else m) ≡ head_note m) [
  | true ↦ refl
  | false ↦ refl
]

is_head : (y m : NoteParts) → head_note y ≡ m → m.whole ≡ false
is_head y m tells = ap (λ (x : NoteParts). x.whole) (sym tells)

-- A head is no note of a whole packet, so a skim leaves it.
head_stays : (m : NoteParts) → m.whole ≡ false → skimmed m ≡ m
head_stays m e = elim (as_noted m) [
  | inl s ↦ s
  | inr s ↦ absurd (let w = (and_parts m.whole (is_in_container m.key m.length) s.0).0 in cc (w, e))
]

passed_whole : (m : NoteParts) → is_of_container m ≡ true → skimmed m ≡ passed_note m → (skimmed m).whole ≡ true
passed_whole m c e = ap (λ (x : NoteParts). x.whole) e

passed_in : (m : NoteParts) → is_of_container m ≡ true → skimmed m ≡ passed_note m → is_of_container (skimmed m) ≡ true
passed_in m c e = ap is_of_container e ∙ (and_parts m.whole (is_in_container m.key m.length) c).1

module _ (read saved notes skim : List NoteParts)
    (members : (m : NoteParts) → In m notes ↔ IsLocated (λ x. In x (read ++ saved)) m)
    (held : IsTheSkim (λ x. In x (noted_by Skim read ++ saved)) skim) (n : NoteParts) (other : is_of_container n ≡ false) where
  abbrev handed : List NoteParts
  handed = map skimmed read ++ saved

  from : (k : NoteParts) → In k handed → (m : NoteParts) × In m (read ++ saved) × ((k ≡ m) ⊎ (k ≡ skimmed m))
  from k h = elim ((In-append k (map skimmed read) saved).0 h) [
    | inl i ↦
        let (m, there, is) = (In-map skimmed read k).0 i in (m, (In-append m read saved).1 (inl there), inr is)
    | inr i ↦ (k, (In-append k read saved).1 (inr i), inl refl)
  ]

  to : (m : NoteParts) → In m (read ++ saved) → In m handed ⊎ In (skimmed m) handed
  to m h = elim ((In-append m read saved).0 h) [
    | inl i ↦
        inr ((In-append (skimmed m) (map skimmed read) saved).1 (inl ((In-map skimmed read (skimmed m)).1 (m, i, refl))))
    | inr i ↦ inl ((In-append m (map skimmed read) saved).1 (inr i))
  ]

  -- The note that the skim has of a packet: the one that was handed, or one of the container that was read.
  abbrev HasOf : NoteParts → Type 0
  HasOf k = (x : NoteParts) × In x skim × (head_note x ≡ head_note k) × ((x ≡ k) ⊎ (is_of_container x ≡ true))

  has_of : (k : NoteParts) → In k handed → ((y : NoteParts) → In y handed → y ≢ k → head_note y ≡ k → ⊥) → HasOf k
  has_of k i untold =
      elim (is_read_in k handed) as (λ b. is_read_in k handed ≡ b → HasOf k) [
        | true ↦ λ e.
            let s = (is_read_in-IsReadIn k handed).0 e in
            let r = s.other in
            let w = and_parts (is_of_container r) (not (bytes_eq r.held no_digest)) s.read in
            let whole = (and_parts r.whole (is_in_container r.key r.length) w.0).0 in (
              r,
              (held.members r).1 (record {
                located = (s.held, λ y there ne tells. let h = is_head y r tells in cc (h, whole));
                unread = λ passed m there was same.
                    not-true-false (bytes_eq r.held no_digest) w.1
                    (and_parts (is_of_container r) (bytes_eq r.held no_digest) passed).1;
              }),
              s.same,
              inr w.0,
            )
        | false ↦ λ e. (
          k,
          (held.members k).1 (record {
            located = (i, untold);
            unread = λ passed m there was same.
                let t = (is_read_in-IsReadIn k handed).1 (record { other = m; held = there; read = was; same = same }) in
                cc (t, e);
          }),
          refl,
          inl refl,
        )
      ] refl

  -- What goes by the head of another note.
  module _ (R : NoteParts → Type 0) (by_head : (a b : NoteParts) → head_note a ≡ head_note b → R a → R b) where
    abbrev Some_of : List NoteParts → Type 0
    Some_of l = (m : NoteParts) × In m l × (m ≢ n) × R m

    no_other : (x : NoteParts) → is_of_container x ≡ true → x ≢ n
    no_other x c s = let t = ap is_of_container s in cc (t, c, other)

    to_skim : Some_of notes → Some_of skim
    to_skim (m, i, ne, r) =
        let l = (members m).0 i in
        elim (to m l.0) [
          | inl k ↦ of_own k l.1
          | inr k ↦ elim (as_noted m) [
            | inl e ↦ of_own (subst (λ x. In x handed) e k) l.1
            | inr s ↦
                let whole = passed_whole m s.0 s.1 in
                let (x, ix, hx, is) = has_of (skimmed m) k (λ y there ne tells. let h = is_head y (skimmed m) tells in cc (h, whole)) in (
                  x,
                  ix,
                  elim is [
                    | inl e ↦ no_other x (ap is_of_container e ∙ passed_in m s.0 s.1)
                    | inr c ↦ no_other x c
                  ],
                  by_head m x (sym (hx ∙ skimmed_head m)) r,
                )
          ]
        ]
      where
        of_own : In m handed → ((y : NoteParts) → In y (read ++ saved) → y ≢ m → head_note y ≡ m → ⊥) → Some_of skim
        of_own k untold =
            let (x, ix, hx, is) = has_of m k (λ y there ne_y tells.
            let (z, in_it, of_z) = from y there in
            let stays = head_stays m (is_head y m tells) in
            elim of_z [
              | inl e ↦ untold z in_it (λ s. ne_y (e ∙ s)) (ap head_note (sym e) ∙ tells)
              | inr e ↦ untold z in_it (λ s. ne_y (e ∙ ap skimmed s ∙ stays)) (sym (skimmed_head z) ∙ ap head_note (sym e) ∙ tells)
            ]) in (
              x,
              ix,
              elim is [ inl e ↦ (λ s. ne (sym e ∙ s)) | inr c ↦ no_other x c ],
              by_head m x (sym hx) r,
            )

    to_reading : Some_of skim → Some_of notes
    to_reading (x, i, ne, r) =
        let p = ((held.members x).0 i).located in
        let (m, there, is) = from x p.0 in (
          m,
          (members m).1 (
            there,
            λ y in_it ne_y tells.
                let head = is_head y m tells in
                let stays = head_stays m head in
                let same : x ≡ m = elim is [ inl e ↦ e | inr e ↦ e ∙ stays ] in
                elim (to y in_it) [
                  | inl k ↦ p.1 y k (λ s. ne_y (s ∙ same)) (tells ∙ sym same)
                  | inr k ↦ p.1 (skimmed y) k (λ s. elim (as_noted y) [
                    | inl e ↦ ne_y (sym e ∙ s ∙ same)
                    | inr q ↦ (
                        let whole = passed_whole y q.0 q.1 in
                        let t = ap (λ (z : NoteParts). z.whole) (s ∙ same) in cc (whole, t, head))
                  ]) (skimmed_head y ∙ tells ∙ sym same)
                ],
          ),
          elim is [
            | inl e ↦ (λ s. ne (e ∙ s))
            | inr e ↦ (λ s. ne (e ∙ ap skimmed s ∙ other_stays))
          ],
          by_head x m (elim is [ inl e ↦ ap head_note e | inr e ↦ ap head_note e ∙ skimmed_head m ]) r,
        )
      where
        other_stays : skimmed n ≡ n
        other_stays = elim (as_noted n) [ inl e ↦ e | inr q ↦ absurd (let c = q.0 in cc (c, other)) ]

  shares : (a b : NoteParts) → head_note a ≡ head_note b → SharesByte a n → SharesByte b n
  shares a b h (o, in_a, in_n) =
      let from : a.offset ≡ b.offset = ap (λ (x : NoteParts). x.offset) h in
      let end : end_of a ≡ end_of b = ap end_of h in (
        o,
        record { from = subst (λ y. y ≤ o) from in_a.from; before = subst (λ y. o + 1 ≤ y) end in_a.before },
        in_n,
      )

  pub disputed_alike : IsDisputed n skim ↔ IsDisputed n notes
  disputed_alike = (to_reading (λ m. SharesByte m n) shares, to_skim (λ m. SharesByte m n) shares)

  pub offset_shared_alike : SharesOffset n skim ↔ SharesOffset n notes
  offset_shared_alike =
      let by = λ (a b : NoteParts) (h : head_note a ≡ head_note b) (e : a.offset ≡ n.offset).
      sym (ap (λ (x : NoteParts). x.offset) h) ∙ e in
      (to_reading (λ m. m.offset ≡ n.offset) by, to_skim (λ m. m.offset ≡ n.offset) by)

  abbrev Across : NoteParts → Type 0
  Across m = (m.offset ≢ n.offset) × SharesByte m n

  across : (a b : NoteParts) → head_note a ≡ head_note b → Across a → Across b
  across a b h (ne, s) = (λ e. ne (ap (λ (x : NoteParts). x.offset) h ∙ e), shares a b h s)

  other_offset : (l : List NoteParts) → Overlaps n l → (m : NoteParts) × In m l × (m ≢ n) × Across m
  other_offset l (m, i, ne, s) = (m, i, (λ e. ne (ap (λ (x : NoteParts). x.offset) e)), (ne, s))

  pub overlapped_alike : Overlaps n skim ↔ Overlaps n notes
  overlapped_alike = (
    λ h. let (m, i, ne, a) = to_reading Across across (other_offset skim h) in (m, i, a.0, a.1),
    λ h. let (m, i, ne, a) = to_skim Across across (other_offset notes h) in (m, i, a.0, a.1),
  )
