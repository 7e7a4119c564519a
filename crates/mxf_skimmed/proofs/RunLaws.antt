-- What a skim holds that was handed the pieces and ranges that a reading was handed, and the same catalogues.
use Rattle.mxf_views.proofs.Common.{◌≡◌, ◌≢◌, ◌↔◌, ◌⊎◌, Bool, true, false, ◌&&◌, not, List, [], ◌∷◌, ◌++◌, refl, sym}
use Rattle.mxf_views.proofs.Common.{ap, subst, ◌∙◌, inl, inr, map, IsTrue, NoteParts, In, In-append, In-map, IsContent}
use Rattle.mxf_views.proofs.Common.{IsLocated, head_note, and_parts, list_any-In, same_note-Decides, same_content}
use Rattle.mxf_views.proofs.Common.{bytes_eq-Decides, is_same_note, if◌then◌else◌, Option, AllByRecursion, ℕ, arith}
use Rattle.mxf_views.proofs.Common.{map-append, notes_in, IsWellFormed, PacketParts}
use Rattle.std.specs.Str.{bytes_eq}
use Rattle.mxf_catalogue.proofs.FileLaws.{one_content}
use Rattle.mxf_views.specs.Headline.{IsNoteOf, IsReadFromFront}
use Rattle.mxf_catalogue.specs.History.{HandsSame}
use Rattle.mxf_readings.specs.Readings.{is_held}
use Rattle.mxf_skim.specs.PassedOver.{is_in_container, is_of_container, is_passed_over, no_digest, passed_note, skimmed}
use Rattle.mxf_skim.specs.PassedOver.{was_read}
use Rattle.mxf_skim.proofs.HeadsRead.{two_notes}
use Rattle.mxf_read.specs.declared.gathering.part.Part.{Part}
use Rattle.mxf_read.specs.declared.gathering.part.Part.TheVariants.{Piece, Range, Saved}
use Rattle.mxf_read.specs.Gathering.{HandedBy, HandsNote, IsGood, bytes_of, piece_of}
use Rattle.mxf_read.specs.Ranges.{range_notes}
use Rattle.mxf_read.specs.SkimGathering.{IsPreferred, IsTheSkim, SkimHandedBy}
use Rattle.mxf_read.proofs.SkimsAndReadings.{as_noted}
use Rattle.mxf_skimmed.specs.Skims.{NoneAlike, noted_beside, skim_beside}
use Rattle.mxf_skimmed.specs.SkimmedRuns.{AreReadAndSkimmed, IsSavedIn, IsSkimOf, SaysTheSame}
use Rattle.mxf_skimmed.proofs.DoubtLaws.{skim_has_the_same_doubts}
use Rattle.mxf_skimmed.proofs.FindingLaws.{skim_has_the_same_findings}
use Rattle.mxf_skimmed.proofs.ViewLaws.{skim_has_the_same_gaps, skim_has_the_same_views}
use Rattle.mxf_skimmed.proofs.WholeFileLaws.{front_of_skim, none_alike}
use Rattle.mxf_skimmed.proofs.SkimmedNotes.{says_same, stays}
use Rattle.mxf_skimmed.proofs.HeldLaws.{IsContent-skim, clear_skim, head_stays, noted_head}

is_held-In : (n : NoteParts) (notes : List NoteParts) → IsTrue (is_held n notes) ↔ In n notes
is_held-In n notes =
    let l = list_any-In (is_same_note n) notes in (
      λ t. let s = l.0 t in subst (λ (m : NoteParts). In m notes) (sym ((same_note-Decides n s.0).0 s.2)) s.1,
      λ h. l.1 (n, h, (same_note-Decides n n).1 refl),
    )

-- ---- what a skim makes of a note

pub skimmed_head : (m : NoteParts) → head_note (skimmed m) ≡ head_note m
skimmed_head m = noted_head [] m

-- what a head tells isn't what a skim makes of another note
not_told : (y x : NoteParts) → y ≢ x → head_note y ≡ x → skimmed y ≢ x
not_told y x ne tells same = elim (as_noted y) [
  | inl e ↦ ne (sym e ∙ same)
  | inr s ↦
      let whole : x.whole ≡ true = ap (λ (n : NoteParts). n.whole) (sym same ∙ s.1) in
      let head : x.whole ≡ false = ap (λ (n : NoteParts). n.whole) (sym tells) in
      cc (whole, head)
]

-- a head that is told stays
told_stays : (y m : NoteParts) → head_note y ≡ m → skimmed m ≡ m
told_stays y m tells = stays [] m (ap is_of_container (sym tells))

-- a skim reads no value of a container's packet
not_read : (x : NoteParts) → was_read (skimmed x) ≡ true → ⊥
not_read x read = elim (is_of_container x) as (λ b. is_of_container x ≡ b
    → was_read (if b then passed_note x else x) ≡ true → ⊥) [
      | true ↦ λ c r.
          let none : false ≡ true =
          (and_parts (is_of_container (passed_note x)) (not (bytes_eq no_digest no_digest)) r).1 in
          cc (none)
      | false ↦ λ c r.
          let own = (and_parts (is_of_container x) (not (bytes_eq x.held no_digest)) r).0 in cc (c, own)
    ] refl read

pub passed_over_is : (m : NoteParts) → is_of_container m ≡ true → is_passed_over (passed_note m) ≡ true
passed_over_is m c = ap (λ (b : Bool). b && bytes_eq no_digest no_digest)
    (and_parts m.whole (is_in_container m.key m.length) c).1

-- where the value of a container's packet wasn't read, a skim makes the same of it
unread_stays : (x : NoteParts) → is_of_container x ≡ true → was_read x ≡ false → skimmed x ≡ x
unread_stays x c unread =
    elim (bytes_eq x.held no_digest) as (λ b. bytes_eq x.held no_digest ≡ b → skimmed x ≡ x) [
      | true ↦ λ e.
          let held = (bytes_eq-Decides x.held no_digest).0 e in
          let whole = (and_parts x.whole (is_in_container x.key x.length) c).0 in
          ap (λ (b : Bool). if b then passed_note x else x) c
          ∙ (λ i. record {
            offset = x.offset;
            key = x.key;
            width = x.width;
            length = x.length;
            whole = sym whole i;
            held = sym held i;
          })
      | false ↦ λ e.
          let read : was_read x ≡ true = λ i. c i && not (e i) in cc (read, unread)
    ] refl

-- ---- what is handed

-- Both are handed the same: the first the notes of what is read and saved, the second what a skim notes in place of
-- the former.
module _ (read saved notes : List NoteParts) (handed passing : NoteParts → Type 0)
    (by_reading : (n : NoteParts) → handed n ↔ In n read ⊎ In n saved)
    (by_skim : (n : NoteParts) → passing n ↔ In n (map skimmed read) ⊎ In n saved)
    (content : IsContent notes) (members : (n : NoteParts) → In n notes ↔ IsLocated handed n)
    (apart : NoneAlike notes) where
  -- a note of a whole packet is located wherever it is handed
  whole_held : (n : NoteParts) → handed n → n.whole ≡ true → In n notes
  whole_held n there whole = (members n).1 (
    there,
    λ y k ne tells.
        let head : n.whole ≡ false = ap (λ (x : NoteParts). x.whole) (sym tells) in cc (whole, head),
  )

  -- what no note tells in a reading, none tells in a skim
  untold : (m : NoteParts) → In m notes → (y : NoteParts) → passing y → y ≢ m → head_note y ≡ m → ⊥
  untold m there y k ne tells =
      let own = ((members m).0 there).1 in
      elim ((by_skim y).0 k) [
        | inl i ↦
            let (x, j, is) = (In-map skimmed read y).0 i in
            let told : head_note x ≡ m = sym (skimmed_head x) ∙ ap head_note (sym is) ∙ tells in
            own x ((by_reading x).1 (inl j)) (λ same. ne (is ∙ ap skimmed same ∙ told_stays x m told)) told
        | inr i ↦ own y ((by_reading y).1 (inr i)) ne tells
      ]

  -- and what none tells in a skim, none tells in a reading
  untold_too : (m : NoteParts) → ((y : NoteParts) → passing y → y ≢ m → head_note y ≡ m → ⊥)
      → (y : NoteParts) → handed y → y ≢ m → head_note y ≡ m → ⊥
  untold_too m none y k ne tells = elim ((by_reading y).0 k) [
    | inl j ↦
        none (skimmed y) ((by_skim (skimmed y)).1 (inl ((In-map skimmed read (skimmed y)).1 (y, j, refl))))
        (not_told y m ne tells) (skimmed_head y ∙ tells)
    | inr j ↦ none y ((by_skim y).1 (inr j)) ne tells
  ]

  -- what was read of a container's packet is of a catalogue, and the only such note of the packet
  only_read : (m r : NoteParts) → In m notes → is_of_container m ≡ true → passing r → was_read r ≡ true
      → head_note r ≡ head_note m → In r saved × (r ≡ m)
  only_read m r i c there was same = elim ((by_skim r).0 there) [
    | inl k ↦
        let (x, j, is) = (In-map skimmed read r).0 k in
        absurd (not_read x (sym (ap was_read is) ∙ was))
    | inr k ↦
        let own = (and_parts (is_of_container r) (not (bytes_eq r.held no_digest)) was).0 in
        let whole = (and_parts r.whole (is_in_container r.key r.length) own).0 in
        (k, apart r m (whole_held r ((by_reading r).1 (inr k)) whole) i own c same)
  ]

  held_passes : (m : NoteParts) → In m notes → IsPreferred passing (noted_beside saved m)
  held_passes m i = elim (is_held m saved) as (λ b. is_held m saved ≡ b
      → IsPreferred passing (if b then m else skimmed m)) [
        | true ↦ λ e. record {
          located = ((by_skim m).1 (inr ((is_held-In m saved).0 e)), untold m i);
          unread = λ passed r there was same.
              let c = (and_parts (is_of_container m) (bytes_eq m.held no_digest) passed).0 in
              two_notes m r passed was (sym (only_read m r i c there was same).1);
        }
        | false ↦ λ e.
            let lacked : In m saved → ⊥ = λ k. let t = (is_held-In m saved).1 k in cc (t, e) in
            record {
              located = (
                (by_skim (skimmed m)).1 (inl ((In-map skimmed read (skimmed m)).1 (
                  m,
                  elim ((by_reading m).0 ((members m).0 i).0) [ inl j ↦ j | inr j ↦ absurd (lacked j) ],
                  refl,
                ))),
                λ y k ne tells.
                    let own : skimmed m ≡ m = head_stays [] m y tells in
                    untold m i y k (λ same. ne (same ∙ sym own)) (tells ∙ own),
              );
              unread = λ passed r there was same.
                  let p = and_parts (is_of_container (skimmed m)) (bytes_eq (skimmed m).held no_digest) passed in
                  let c : is_of_container m ≡ true = sym (says_same [] is_of_container m (λ held. refl)) ∙ p.0 in
                  let (k, is) = only_read m r i c there was (same ∙ skimmed_head m) in
                  lacked (subst (λ (n : NoteParts). In n saved) is k);
            }
      ] refl

  passes_held : (n : NoteParts) → IsPreferred passing n → In n (skim_beside saved notes)
  passes_held n p = (In-map (noted_beside saved) notes n).1 (elim ((by_skim n).0 p.located.0) [
    | inl k ↦
        let (x, j, is) = (In-map skimmed read n).0 k in
        let there : In x notes = (members x).1 (
          (by_reading x).1 (inl j),
          λ y h ne tells.
              let own : n ≡ x = is ∙ told_stays y x tells in
              untold_too n p.located.1 y h (λ same. ne (same ∙ own)) (tells ∙ sym own),
        ) in (
          x,
          there,
          elim (is_held x saved) as (λ b. is_held x saved ≡ b → n ≡ (if b then x else skimmed x)) [
            | true ↦ λ e. is ∙ elim (as_noted x) [
              | inl own ↦ own
              | inr s ↦ elim (was_read x) as (λ b. was_read x ≡ b → skimmed x ≡ x) [
                | true ↦ λ was.
                    let passed : is_passed_over n ≡ true = ap is_passed_over (is ∙ s.1) ∙ passed_over_is x s.0 in
                    absurd (p.unread passed x ((by_skim x).1 (inr ((is_held-In x saved).0 e))) was
                    (sym (skimmed_head x) ∙ ap head_note (sym is)))
                | false ↦ λ none. unread_stays x s.0 none
              ] refl
            ]
            | false ↦ λ e. is
          ] refl,
        )
    | inr k ↦ (
      n,
      (members n).1 ((by_reading n).1 (inr k), untold_too n p.located.1),
      sym (ap (λ (b : Bool). if b then n else skimmed n) ((is_held-In n saved).1 k)),
    )
  ])

  is_the_skim : IsTheSkim passing (skim_beside saved notes)
  is_the_skim = record {
    content = IsContent-skim saved notes content apart;
    members = λ n. (
      λ h.
          let (m, i, is) = (In-map (noted_beside saved) notes n).0 h in
          subst (IsPreferred passing) (sym is) (held_passes m i),
      passes_held n,
    );
  }

-- ---- lists

pub skim_of_lists : (read saved notes : List NoteParts) → IsContent notes
    → ((n : NoteParts) → In n notes ↔ IsLocated (λ m. In m (read ++ saved)) n) → NoneAlike notes
    → IsTheSkim (λ m. In m (map skimmed read ++ saved)) (skim_beside saved notes)
skim_of_lists read saved notes content members apart =
    is_the_skim read saved notes (λ m. In m (read ++ saved)) (λ m. In m (map skimmed read ++ saved))
    (λ n. In-append n read saved) (λ n. In-append n (map skimmed read) saved) content members apart

-- ---- parts

module _ {R : Type 0} (left : R → Option (List ℕ)) where
  -- What parts hand as two lists: that of pieces and ranges, and that of saved catalogues.
  record AreHanded (parts : List (Part R)) : Type 0 where
    read : List NoteParts
    saved : List NoteParts
    by_reading : (n : NoteParts) → HandedBy left parts n ↔ In n read ⊎ In n saved
    by_skim : (n : NoteParts) → SkimHandedBy left parts n ↔ In n (map skimmed read) ⊎ In n saved
    members : (n : NoteParts) → In n saved ↔ IsSavedIn left parts n

  -- one more part that is read
  read_more : (xs read saved : List NoteParts) (n : NoteParts) (P : Type 0) → (P ↔ In n read ⊎ In n saved)
      → (In n xs ⊎ P) ↔ In n (xs ++ read) ⊎ In n saved
  read_more xs read saved n P is =
      let both = In-append n xs read in (
        λ h. elim h [
          | inl i ↦ inl (both.1 (inl i))
          | inr p ↦ elim (is.0 p) [ inl i ↦ inl (both.1 (inr i)) | inr i ↦ inr i ]
        ],
        λ h. elim h [
          | inl i ↦ elim (both.0 i) [ inl j ↦ inl j | inr j ↦ inr (is.1 (inl j)) ]
          | inr i ↦ inr (is.1 (inr i))
        ],
      )

  skim_more : (xs read saved : List NoteParts) (n : NoteParts) (P : Type 0)
      → (P ↔ In n (map skimmed read) ⊎ In n saved)
      → (In n (map skimmed xs) ⊎ P) ↔ In n (map skimmed (xs ++ read)) ⊎ In n saved
  skim_more xs read saved n P is = subst
      (λ (l : List NoteParts). (In n (map skimmed xs) ⊎ P) ↔ In n l ⊎ In n saved) (sym (map-append skimmed xs read))
      (read_more (map skimmed xs) (map skimmed read) saved n P is)

  -- one more that is saved
  saved_more : (xs read saved : List NoteParts) (n : NoteParts) (P Q : Type 0) → (Q ↔ In n xs)
      → (P ↔ In n read ⊎ In n saved) → (Q ⊎ P) ↔ In n read ⊎ In n (xs ++ saved)
  saved_more xs read saved n P Q of_it is = grind (arith, In-append)

  handed_lists : (parts : List (Part R)) → AllByRecursion (IsGood left) parts → AreHanded parts
  handed_lists [] good = record {
    read = [];
    saved = [];
    by_reading = λ n. (λ h. absurd h, λ h. elim h [ inl i ↦ i | inr i ↦ i ]);
    by_skim = λ n. (λ h. absurd h, λ h. elim h [ inl i ↦ i | inr i ↦ i ]);
    members = λ n. (λ h. h, λ h. h);
  }
  handed_lists (Piece offset from ∷ parts) good =
      let more = handed_lists parts good.1 in
      let xs = notes_in offset (piece_of left from) in
      record {
        read = xs ++ more.read;
        saved = more.saved;
        by_reading = λ n. read_more xs more.read more.saved n (HandedBy left parts n) (more.by_reading n);
        by_skim = λ n. skim_more xs more.read more.saved n (SkimHandedBy left parts n) (more.by_skim n);
        members = λ n. (
          λ h. inr ((more.members n).0 h),
          λ h. elim h [ inl i ↦ absurd i | inr i ↦ (more.members n).1 i ],
        );
      }
  handed_lists (Range offset from ∷ parts) good =
      let more = handed_lists parts good.1 in
      let xs = range_notes offset (piece_of left from) in
      record {
        read = xs ++ more.read;
        saved = more.saved;
        by_reading = λ n. read_more xs more.read more.saved n (HandedBy left parts n) (more.by_reading n);
        by_skim = λ n. skim_more xs more.read more.saved n (SkimHandedBy left parts n) (more.by_skim n);
        members = λ n. (
          λ h. inr ((more.members n).0 h),
          λ h. elim h [ inl i ↦ absurd i | inr i ↦ (more.members n).1 i ],
        );
      }
  handed_lists (Saved from ∷ parts) good =
      let more = handed_lists parts good.1 in
      let (xs, is) = good.0 in
      let of_it : (n : NoteParts) → HandsNote left (Saved from) n ↔ In n xs = λ n. (
        λ h. subst (In n) (one_content (bytes_of left from) h.0 xs h.1 is.1) h.2,
        λ h. (xs, is.1, h),
      ) in
      record {
        read = more.read;
        saved = xs ++ more.saved;
        by_reading = λ n. saved_more xs more.read more.saved n (HandedBy left parts n) (HandsNote left (Saved from) n)
            (of_it n) (more.by_reading n);
        by_skim = λ n. saved_more xs (map skimmed more.read) more.saved n (SkimHandedBy left parts n)
            (HandsNote left (Saved from) n) (of_it n) (more.by_skim n);
        members = λ n. (
          λ h. elim ((In-append n xs more.saved).0 h) [
            | inl i ↦ inl ((of_it n).1 i)
            | inr i ↦ inr ((more.members n).0 i)
          ],
          λ h. (In-append n xs more.saved).1 (elim h [
            | inl i ↦ inl ((of_it n).0 i)
            | inr i ↦ inr ((more.members n).1 i)
          ]),
        );
      }

  -- a skim of parts is the skim of their reading
  pub skim_of_parts : (parts : List (Part R)) (notes skim : List NoteParts) → AreReadAndSkimmed left parts notes skim
      → NoneAlike notes → IsSkimOf left parts notes skim
  skim_of_parts parts notes skim are apart =
      let h = handed_lists parts are.good in
      let content = are.read.file.1.catalogue.content in
      let is = is_the_skim h.read h.saved notes (HandedBy left parts) (SkimHandedBy left parts) h.by_reading h.by_skim
      content are.read.members apart in
      record {
        saved = h.saved;
        members = h.members;
        noted = same_content skim (skim_beside h.saved notes) are.skimmed.content is.content (λ n. (
          λ i. (is.members n).1 ((are.skimmed.members n).0 i),
          λ i. (are.skimmed.members n).1 ((is.members n).0 i),
        ));
      }

  pub parts_say_the_same : (parts : List (Part R)) (notes skim : List NoteParts)
      → AreReadAndSkimmed left parts notes skim → NoneAlike notes → SaysTheSame skim notes
  parts_say_the_same parts notes skim are apart =
      let is = skim_of_parts parts notes skim are apart in
      subst (λ (l : List NoteParts). SaysTheSame l notes) (sym is.noted) (record {
        views = skim_has_the_same_views is.saved notes (clear_skim is.saved notes apart);
        gaps = skim_has_the_same_gaps is.saved notes;
        findings = skim_has_the_same_findings is.saved notes apart;
        doubts = skim_has_the_same_doubts is.saved notes apart;
      })

  pub parts_read_from_front : (parts : List (Part R)) (notes skim : List NoteParts) (l : List PacketParts)
      → AreReadAndSkimmed left parts notes skim → IsWellFormed l → HandsSame (IsNoteOf l) (HandedBy left parts)
      → IsReadFromFront skim l
  parts_read_from_front parts notes skim l are w same =
      let front = are.read.whole l w same in
      let apart = none_alike notes front.partitions.disputes in
      let is = skim_of_parts parts notes skim are apart in
      subst (λ (m : List NoteParts). IsReadFromFront m l) (sym is.noted) (front_of_skim is.saved notes l front)
