-- What a skim holds beside what a reading holds.
use Rattle.mxf_views.proofs.Common.{◌≡◌, ◌≢◌, ◌↔◌, ◌⊎◌, ℕ, ◌+◌, Bool, true, false, ◌&&◌, not, if◌then◌else◌, List, []}
use Rattle.mxf_views.proofs.Common.{◌∷◌, ◌++◌, length, map, refl, sym, ap, subst, ◌∙◌, arith, inl, inr, NoteParts}
use Rattle.mxf_views.proofs.Common.{PacketParts, AreApart, IsContent, IsLocated, In, In-append, In-map, In-union_of}
use Rattle.mxf_views.proofs.Common.{head_note, note_of, notes_from, reduced_union, union_of, same_content, has_note}
use Rattle.mxf_views.proofs.Common.{size_of, IsContent-reduced_union, bytes_eq-Decides}
use Rattle.std.specs.Str.{bytes_eq}
use Rattle.std.proofs.lemmas.Bool.{and_parts}
use Rattle.mxf_klv.specs.Rising.{SameMembers}
use Rattle.mxf_catalogue.proofs.HeadLaws.{AreReduced-reduced_union, In-reduced, has-reduced_union, one_reduced}
use Rattle.mxf_catalogue.proofs.HeadLaws.{reduced_union-is}
use Rattle.mxf_skim.specs.PassedOver.{is_in_container, is_of_container, is_passed_over, no_digest, passed_note}
use Rattle.mxf_skim.specs.PassedOver.{skimmed, was_read}
use Rattle.mxf_skim.specs.Preferring.{IsReadIn, prefer_read}
use Rattle.mxf_skim.specs.Saving.{saved_note, with_heads}
use Rattle.mxf_skim.proofs.HeadsRead.{two_notes}
use Rattle.mxf_skim.proofs.PreferringLaws.{In-prefer_read, IsContent-prefer_read}
use Rattle.mxf_read.specs.SkimGathering.{AreAlikeButPassed, IsAlikeButPassed, IsPreferred, IsTheSkim}
use Rattle.mxf_read.proofs.Pieces.{content_apart, one_at, reduced_apart}
use Rattle.mxf_read.proofs.Scans.{skimmed_apart}

-- ---- one skim of a set

preferred_too : (P Q : NoteParts → Type 0) → ((n : NoteParts) → P n ↔ Q n) → (n : NoteParts) → IsPreferred P n
    → IsPreferred Q n
preferred_too P Q same n p = record {
  located = ((same n).0 p.located.0, λ y there ne tells. p.located.1 y ((same y).1 there) ne tells);
  unread = λ passed m there read alike. p.unread passed m ((same m).1 there) read alike;
}

pub one_skim : (handed others a b : List NoteParts) → SameMembers handed others → IsTheSkim (λ n. In n handed) a
    → IsTheSkim (λ n. In n others) b → a ≡ b
one_skim handed others a b same p q = same_content a b p.content q.content (λ n. (
  λ h. (q.members n).1 (preferred_too (λ m. In m handed) (λ m. In m others) same n ((p.members n).0 h)),
  λ h. (p.members n).1 (preferred_too (λ m. In m others) (λ m. In m handed) (λ m. ((same m).1, (same m).0)) n
      ((q.members n).0 h)),
))

-- ---- what a skim makes of a note

passed_is : (m : NoteParts) → is_of_container m ≡ true → is_passed_over (passed_note m) ≡ true
passed_is m e =
    let p = and_parts m.whole (is_in_container m.key m.length) e in
    ap (λ (b : Bool). b && bytes_eq no_digest no_digest) p.1

pub as_noted : (m : NoteParts) → (skimmed m ≡ m) ⊎ ((is_of_container m ≡ true) × (skimmed m ≡ passed_note m))
as_noted m = elim (is_of_container m) as (λ b. is_of_container m ≡ b
    → ((if b then passed_note m else m) ≡ m)
    ⊎ ((is_of_container m ≡ true) × ((if b then passed_note m else m) ≡ passed_note m))) [
      | true ↦ λ e. inr (e, refl)
      | false ↦ λ e. inl refl
    ] refl

skimmed_head : (m : NoteParts) → head_note (skimmed m) ≡ head_note m
skimmed_head m = elim (is_of_container m) as (λ b. head_note (if b then passed_note m else m) ≡ head_note m) [
  | true ↦ refl
  | false ↦ refl
]

-- ---- the other packets

-- A skim was handed what a reading was: each note as it is, or as the skim notes it.
pub record IsSkimOf (read skim : NoteParts → Type 0) : Type 0 where
  pub from : (n : NoteParts) → skim n → (m : NoteParts) × read m × ((n ≡ m) ⊎ (n ≡ skimmed m))
  pub to : (m : NoteParts) → read m → skim m ⊎ skim (skimmed m)

module _ (read skim : NoteParts → Type 0) (of_it : IsSkimOf read skim) (n : NoteParts) (other : is_of_container n ≡ false)
  where
    same_other : skimmed n ≡ n
    same_other = elim (as_noted n) [ inl e ↦ e | inr s ↦ absurd (let c = s.0 in cc (c, other)) ]

    from_skim : skim n → read n
    from_skim h =
        let (m, there, is) = of_it.from n h in
        elim is [
          | inl e ↦ subst read (sym e) there
          | inr e ↦ elim (as_noted m) [
            | inl f ↦ subst read (sym (e ∙ f)) there
            | inr s ↦ absurd (
                let whole = and_parts m.whole (is_in_container m.key m.length) s.0 in
                let in_it : is_of_container n ≡ true = ap is_of_container (e ∙ s.1) ∙ whole.1 in
                cc (in_it, other))
          ]
        ]

    to_skim : read n → skim n
    to_skim h = elim (of_it.to n h) [ inl k ↦ k | inr k ↦ subst skim same_other k ]

    -- what tells a head tells it as a skim notes it
    not_itself : (y : NoteParts) → y ≢ n → head_note y ≡ n → skimmed y ≢ n
    not_itself y ne tells same = elim (as_noted y) [
      | inl e ↦ ne (sym e ∙ same)
      | inr s ↦
          let is_whole : n.whole ≡ true = ap (λ (x : NoteParts). x.whole) (sym same ∙ s.1) in
          let is_head : n.whole ≡ false = ap (λ (x : NoteParts). x.whole) (sym tells) in
          cc (is_whole, is_head)
    ]

    pub other_packets : (notes : List NoteParts) → IsTheSkim skim notes → In n notes ↔ IsLocated read n
    other_packets notes held = (
      λ h.
          let p = (held.members n).0 h in (
            from_skim p.located.0,
            λ y there ne tells. elim (of_it.to y there) [
              | inl k ↦ p.located.1 y k ne tells
              | inr k ↦ p.located.1 (skimmed y) k (not_itself y ne tells) (skimmed_head y ∙ tells)
            ],
          ),
      λ l. (held.members n).1 (record {
        located = (
          to_skim l.0,
          λ y there ne tells.
              let (m, read_it, is) = of_it.from y there in
              elim is [
                | inl e ↦ l.1 m read_it (λ same. ne (e ∙ same)) (ap head_note (sym e) ∙ tells)
                | inr e ↦ l.1 m read_it (λ same. ne (e ∙ ap skimmed same ∙ same_other))
                    (sym (skimmed_head m) ∙ ap head_note (sym e) ∙ tells)
              ],
        );
        unread = λ passed m there was same.
            let p = and_parts (is_of_container n) (bytes_eq n.held no_digest) passed in
            let in_it = p.0 in cc (in_it, other);
      }),
    )

skim_of_lists : (read saved : List NoteParts)
    → IsSkimOf (λ m. In m (read ++ saved)) (λ m. In m (map skimmed read ++ saved))
skim_of_lists read saved = record {
  from = λ n h. elim ((In-append n (map skimmed read) saved).0 h) [
    | inl i ↦
        let (m, there, is) = (In-map skimmed read n).0 i in
        (m, (In-append m read saved).1 (inl there), inr is)
    | inr i ↦ (n, (In-append n read saved).1 (inr i), inl refl)
  ];
  to = λ m h. elim ((In-append m read saved).0 h) [
    | inl i ↦
        inr ((In-append (skimmed m) (map skimmed read) saved).1 (inl ((In-map skimmed read (skimmed m)).1 (m, i, refl))))
    | inr i ↦ inl ((In-append m (map skimmed read) saved).1 (inr i))
  ];
}

pub others_held : (read saved notes : List NoteParts) (n : NoteParts)
    → IsTheSkim (λ m. In m (map skimmed read ++ saved)) notes → is_of_container n ≡ false
    → In n notes ↔ IsLocated (λ m. In m (read ++ saved)) n
others_held read saved notes n held other =
    other_packets (λ m. In m (read ++ saved)) (λ m. In m (map skimmed read ++ saved)) (skim_of_lists read saved) n other
    notes held

-- ---- bytes that are passed over

skimmed_true : (n : NoteParts) → is_of_container n ≡ true → skimmed n ≡ passed_note n
skimmed_true n e = ap (λ (b : Bool). if b then passed_note n else n) e

skimmed_alike : (o : ℕ) (p q : PacketParts) → IsAlikeButPassed p q → skimmed (note_of o p) ≡ skimmed (note_of o q)
skimmed_alike o p q a =
    elim (is_in_container p.key (length p.value)) as (λ b. is_in_container p.key (length p.value) ≡ b
    → skimmed (note_of o p) ≡ skimmed (note_of o q)) [
      | true ↦ λ e.
          let also : is_in_container q.key (length q.value) ≡ true =
          (λ i. is_in_container (sym a.key i) (sym a.size i)) ∙ e in
          skimmed_true (note_of o p) e
          ∙ (λ i. record
          { offset = o; key = a.key i; width = a.width i; length = a.size i; whole = true; held = no_digest })
          ∙ sym (skimmed_true (note_of o q) also)
      | false ↦ λ e.
          let value = a.value e in
          let same : p ≡ q = λ i. record { key = a.key i; width = a.width i; value = value i } in
          ap (λ (r : PacketParts). skimmed (note_of o r)) same
    ] refl

pub passed_alike : (o : ℕ) (ps qs : List PacketParts) → AreAlikeButPassed ps qs
    → map skimmed (notes_from o ps) ≡ map skimmed (notes_from o qs)
passed_alike o [] [] a = refl
passed_alike o [] (q ∷ qs) a = absurd a
passed_alike o (p ∷ ps) [] a = absurd a
passed_alike o (p ∷ ps) (q ∷ qs) a =
    let one = skimmed_alike o p q a.0 in
    let width = a.0.width in
    let size = a.0.size in
    let next : o + size_of p ≡ o + size_of q = omega (arith, width, size) in
    let more = passed_alike (o + size_of p) ps qs a.1
    ∙ ap (λ (k : ℕ). map skimmed (notes_from k qs)) next in
    λ i. one i ∷ more i

-- ---- a skim beside its reading

own_passed : (m : NoteParts) → m.whole ≡ true → m.held ≡ no_digest → m ≡ passed_note m
own_passed m whole held i = record
    { offset = m.offset; key = m.key; width = m.width; length = m.length; whole = whole i; held = held i }

module _ (low : ℕ) (notes : List NoteParts) (apart : AreApart low notes) where
  abbrev skim : List NoteParts
  skim = map skimmed notes

  abbrev both : List NoteParts
  both = reduced_union skim notes

  in_both : (n : NoteParts) → In n both ↔ ((In n skim ⊎ In n notes)
      × (((y : NoteParts) × In y (union_of skim notes) × (y ≢ n) × (head_note y ≡ n)) → ⊥))
  in_both n =
      let rise = skimmed_apart low notes apart in
      let all = reduced_union-is (map skimmed notes) notes (content_apart low (map skimmed notes) rise)
      (reduced_apart low (map skimmed notes) rise) in
      let r = In-reduced n (union_of (map skimmed notes) notes) in
      let u = In-union_of n (map skimmed notes) notes in (
        λ h. let k = r.0 (subst (In n) all h) in (u.0 k.0, k.1),
        λ h. subst (In n) (sym all) (r.1 (u.1 h.0, h.1)),
      )

  of_notes : (n : NoteParts) → In n skim → (m : NoteParts) × In m notes × (n ≡ skimmed m)
  of_notes n h = (In-map skimmed notes n).0 h

  -- a note of the reading is told by none of both
  untold : (n : NoteParts) → In n notes
      → ((y : NoteParts) × In y (union_of skim notes) × (y ≢ n) × (head_note y ≡ n)) → ⊥
  untold n there (y, i, ne, tells) = elim ((In-union_of y skim notes).0 i) [
    | inr j ↦ reduced_apart low notes apart n there (y, j, ne, tells)
    | inl j ↦
        let (m, k, is) = of_notes y j in
        let told : head_note m ≡ n = sym (skimmed_head m) ∙ ap head_note (sym is) ∙ tells in
        reduced_apart low notes apart n there (
          m,
          k,
          λ same. elim (as_noted m) [
            | inl e ↦ ne (is ∙ e ∙ same)
            | inr s ↦
                let p = and_parts m.whole (is_in_container m.key m.length) s.0 in
                let whole = p.0 in
                let head : m.whole ≡ false = ap (λ (x : NoteParts). x.whole) (same ∙ sym told) in
                cc (whole, head)
          ],
          told,
        )
  ]

  -- a note that was skimmed is one of the reading, or gives way
  only_read : (n : NoteParts) → In n both → (is_passed_over n ≡ true → IsReadIn n both → ⊥) → In n notes
  only_read n h stays = elim ((in_both n).0 h).0 [
    | inr i ↦ i
    | inl i ↦
        let (m, k, is) = of_notes n i in
        elim (as_noted m) [
          | inl e ↦ subst (λ x. In x notes) (sym (is ∙ e)) k
          | inr s ↦
              let passed : is_passed_over n ≡ true = ap is_passed_over (is ∙ s.1) ∙ passed_is m s.0 in
              elim (bytes_eq m.held no_digest) as (λ b. bytes_eq m.held no_digest ≡ b → In n notes) [
                | true ↦ λ e.
                    let held = (bytes_eq-Decides m.held no_digest).0 e in
                    let p = and_parts m.whole (is_in_container m.key m.length) s.0 in
                    let same : m ≡ passed_note m = own_passed m p.0 held in
                    subst (λ x. In x notes) (same ∙ sym s.1 ∙ sym is) k
                | false ↦ λ e.
                    let read : was_read m ≡ true = (λ j. s.0 j && not (e j)) in
                    absurd (stays passed (record {
                      other = m;
                      held = (in_both m).1 (inr k, untold m k);
                      read = read;
                      same = sym (skimmed_head m) ∙ ap head_note (sym is);
                    }))
              ] refl
        ]
  ]

  -- a note of the reading stays
  stays_read : (n : NoteParts) → In n notes → is_passed_over n ≡ true → IsReadIn n both → ⊥
  stays_read n there passed r = elim ((in_both r.other).0 r.held).0 [
    | inr i ↦
        let same = one_at low notes n r.other apart there i (sym (ap (λ (x : NoteParts). x.offset) r.same)) in
        two_notes n r.other passed r.read (sym same)
    | inl i ↦
        let (m, k, is) = of_notes r.other i in
        elim (as_noted m) [
          | inl e ↦
              let other : In r.other notes = subst (λ x. In x notes) (sym (is ∙ e)) k in
              let same = one_at low notes n r.other apart there other
              (sym (ap (λ (x : NoteParts). x.offset) r.same)) in
              two_notes n r.other passed r.read (sym same)
          | inr s ↦
              let over : is_passed_over r.other ≡ true = ap is_passed_over (is ∙ s.1) ∙ passed_is m s.0 in
              two_notes r.other r.other over r.read refl
        ]
  ]

  both_content : IsContent both
  both_content = IsContent-reduced_union (map skimmed notes) notes
      (content_apart low (map skimmed notes) (skimmed_apart low notes apart))

  pub beside_reading : prefer_read both ≡ notes
  beside_reading =
      same_content (prefer_read both) notes (IsContent-prefer_read both both_content) (content_apart low notes apart)
      (λ n.
      let p = In-prefer_read n both in (
        λ h. only_read n (p.0 h).0 (p.0 h).1,
        λ i. p.1 ((in_both n).1 (inr i, untold n i), stays_read n i),
      ))

  -- ---- what is saved of a skim, beside the reading

  has_head : (x : NoteParts) → has_note notes x → has_note notes (head_note x)
  has_head x h = elim h [
    | inl i ↦ inr (x, i, refl)
    | inr s ↦ inr (s.0, s.1, ap head_note s.2)
  ]

  saved_has : (m : NoteParts) → In m notes → has_note notes (saved_note (skimmed m))
  saved_has m i = elim (is_passed_over (skimmed m)) as (λ b. is_passed_over (skimmed m) ≡ b
      → has_note notes (if b then head_note (skimmed m) else skimmed m)) [
        | true ↦ λ e. inr (m, i, sym (skimmed_head m))
        | false ↦ λ e. elim (as_noted m) [
          | inl f ↦ inl (subst (λ x. In x notes) (sym f) i)
          | inr s ↦
              let over : is_passed_over (skimmed m) ≡ true = ap is_passed_over s.1 ∙ passed_is m s.0 in
              absurd (cc (over, e))
        ]
      ] refl

  saved_known : (n : NoteParts) → has_note (with_heads skim) n → has_note notes n
  saved_known n h = elim ((has-reduced_union n [] (map saved_note skim)).0 h) [
    | inl k ↦ elim k [ inl i ↦ absurd i | inr s ↦ absurd s.1 ]
    | inr k ↦ elim k [
      | inl i ↦ from_saved n i
      | inr s ↦ subst (has_note notes) s.2 (has_head s.0 (from_saved s.0 s.1))
    ]
  ]
    where
      from_saved : (x : NoteParts) → In x (map saved_note skim) → has_note notes x
      from_saved x i =
          let (y, j, is) = (In-map saved_note skim x).0 i in
          let (m, k, noted) = of_notes y j in
          subst (has_note notes) (sym (is ∙ ap saved_note noted)) (saved_has m k)

  pub saved_beside : reduced_union (with_heads skim) notes ≡ notes
  saved_beside =
      one_reduced (reduced_union (with_heads skim) notes) notes
      (IsContent-reduced_union (with_heads skim) notes (IsContent-reduced_union [] (map saved_note skim) tt))
      (content_apart low notes apart)
      (AreReduced-reduced_union (with_heads skim) notes (AreReduced-reduced_union [] (map saved_note skim) (λ x i k. i)))
      (reduced_apart low notes apart)
      (λ n.
      let u = has-reduced_union n (with_heads skim) notes in (
        λ h. elim (u.0 h) [ inl k ↦ saved_known n k | inr k ↦ k ],
        λ h. u.1 (inr h),
      ))
