-- What sources said of the notes of a reference, and one source more.
use Rattle.mxf_views.proofs.Common.{◌≡◌, ◌↔◌, ◌⊎◌, ◌+◌, ◌≤◌, ◌∙◌, ℕ, Bool, true, false, ◌||◌, not, nat_lt, IsTrue, List}
use Rattle.mxf_views.proofs.Common.{[], ◌∷◌, ◌++◌, length, map, refl, sym, ap, subst, inl, inr, arith, append_assoc}
use Rattle.mxf_views.proofs.Common.{false≢true, map-append, AllByRecursion, NoteParts, In, all-In, In-append, IsWithin}
use Rattle.mxf_views.proofs.Common.{LiesIn, run}
use Rattle.mxf_catalogue.specs.declared.run.Run.{Run}
use Rattle.std.proofs.lemmas.Bool.{ltb-true, lt-ltb}
use Rattle.std.proofs.lemmas.Bool.Decides.{Decides-or}
use Rattle.std.proofs.lemmas.List.{append-nil}
use Rattle.std.specs.List.{flat_map}
use denote.Bor.{Bor}
use Rattle.mxf_verify.specs.Verifying.{DiffersIn, IsByteOf, IsDiffering, IsHeldBy, IsSameIn, IsVerified, Source}
use Rattle.mxf_verify.specs.Verifying.{TouchesIn, Bytes, Saved}
use Rattle.mxf_verify.specs.Telling.{AreThose, TellsOf, TellsSaved, notes_at}
use Rattle.mxf_verify.specs.Verifications.{AreDiffering, DifferingParts, differing_in, parts_of}
use Rattle.mxf_verify.specs.Seen.{IsBeside, IsHeaded, IsSeen, range_in}
use Rattle.mxf_verify.specs.declared.saved.SavedTold.{SavedTold}
use Rattle.mxf_verify.specs.declared.seen.Seen.{Seen}
use Rattle.mxf_verify.specs.declared.told.Told.{Told}
use Rattle.mxf_verify.proofs.ComparingLaws.{holds_first}
use Rattle.mxf_units.proofs.OffsetLaws.{some_both, some_end}

-- a catalogue among sources with a further one is one of them, or that one
pub saved_end : (sources : List Source) (s : Source) (notes : List NoteParts)
    → In (Saved notes) (sources ++ s ∷ []) ↔ (In (Saved notes) sources ⊎ (Saved notes ≡ s))
saved_end sources s notes =
    let both = In-append (Saved notes) sources (s ∷ []) in (
      λ h. elim (both.0 h) [ inl k ↦ inl k | inr k ↦ elim k [ inl e ↦ inr e | inr z ↦ absurd z ] ],
      λ h. elim h [ inl k ↦ both.1 (inl k) | inr e ↦ both.1 (inr (inl e)) ],
    )

no_bytes : (notes : List NoteParts) (offset : ℕ) (bytes : List ℕ) → Saved notes ≡ Bytes offset bytes → ⊥
no_bytes notes offset bytes e = cc (e)

-- of a source of bytes no head comes, and nothing stands beside the reference
pub headed_bytes : (sources : List Source) (offset : ℕ) (bytes : List ℕ) (n : NoteParts)
    → IsHeaded (sources ++ Bytes offset bytes ∷ []) n ↔ IsHeaded sources n
headed_bytes sources offset bytes n = grind (arith, saved_end, no_bytes)

pub beside_bytes : (reference : List NoteParts) (sources : List Source) (offset : ℕ) (bytes : List ℕ) (at : ℕ)
    → IsBeside reference (sources ++ Bytes offset bytes ∷ []) at ↔ IsBeside reference sources at
beside_bytes reference sources offset bytes at = grind (arith, saved_end, no_bytes)

same_notes : (a b : List NoteParts) → Saved a ≡ Saved b → a ≡ b
same_notes a b e = cc (e)

-- of a catalogue they do
pub headed_saved : (sources : List Source) (saved : List NoteParts) (n : NoteParts)
    → IsHeaded (sources ++ Saved saved ∷ []) n ↔ (IsHeaded sources n ⊎ TouchesIn n (Saved saved))
headed_saved sources saved n = (
  λ (notes, k, t). elim ((saved_end sources (Saved saved) notes).0 k) [
    | inl h ↦ inl (notes, h, t)
    | inr e ↦ inr (subst (λ l. TouchesIn n (Saved l)) (same_notes notes saved e) t)
  ],
  λ h. elim h [
    | inl s ↦ (s.0, (saved_end sources (Saved saved) s.0).1 (inl s.1), s.2)
    | inr t ↦ (saved, (saved_end sources (Saved saved) saved).1 (inr refl), t)
  ],
)

pub beside_saved : (reference : List NoteParts) (sources : List Source) (saved : List NoteParts) (at : ℕ)
    → IsBeside reference (sources ++ Saved saved ∷ []) at
    ↔ (IsBeside reference sources at ⊎ (IsHeldBy saved at × ¬ IsHeldBy reference at))
beside_saved reference sources saved at = (
  λ ((notes, k, t), free). elim ((saved_end sources (Saved saved) notes).0 k) [
    | inl h ↦ inl ((notes, h, t), free)
    | inr e ↦ inr (subst (λ l. IsHeldBy l at) (same_notes notes saved e) t, free)
  ],
  λ h. elim h [
    | inl s ↦ ((s.0.0, (saved_end sources (Saved saved) s.0.0).1 (inl s.0.1), s.0.2), s.1)
    | inr t ↦ ((saved, (saved_end sources (Saved saved) saved).1 (inr refl), t.0), t.1)
  ],
)

-- what differs in one source more stands behind what differs in the others
pub differing_more : (reference : List NoteParts) (first : ℕ) (sources : List Source) (s : Source)
    (told : List DifferingParts) (notes : List NoteParts) → AreDiffering reference first sources told
    → AreThose reference (λ n. DiffersIn reference n s) notes
    → AreDiffering reference first (sources ++ s ∷ []) (told ++ map (differing_in (first + length sources)) notes)
differing_more reference first [] s told notes d those = grind (arith, append-nil)
differing_more reference first (t ∷ sources) s told notes (ns, rest, those_first, more, e) those =
    grind (arith, append_assoc, differing_more reference (first + 1) sources s rest notes more those)

map_notes : (source : ℕ) (ns : List NoteParts)
    → map (λ (d : DifferingParts). d.note) (map (differing_in source) ns) ≡ ns
map_notes source [] = refl
map_notes source (n ∷ ns) = ap (λ l. n ∷ l) (map_notes source ns)

-- the notes that differ somewhere are those that are told
pub damaged_says : (reference : List NoteParts) (first : ℕ) (sources : List Source) (told : List DifferingParts)
    (n : NoteParts) → AreDiffering reference first sources told
    → In n (map (λ (d : DifferingParts). d.note) told) ↔ (In n reference × IsDiffering reference sources n)
damaged_says reference first [] told n d = grind arith
damaged_says reference first (s ∷ sources) told n (ns, rest, those, more, e) =
    grind (arith, map-append, map_notes, In-append, damaged_says reference (first + 1) sources rest n more)

-- the ranges of sources, and those of one more
pub ranges_more : (sources : List Source) (s : Source)
    → flat_map range_in (sources ++ s ∷ []) ≡ flat_map range_in sources ++ range_in s
ranges_more [] s = append-nil (range_in s)
ranges_more (t ∷ sources) s = ap (λ l. range_in t ++ l) (ranges_more sources s)
    ∙ sym (append_assoc (range_in t) (flat_map range_in sources) (range_in s))

-- members of a set with those of a list are members of either
members_more : (reference : List NoteParts) (old added : List NoteParts) (P Q R : NoteParts → Type 0)
    → ((n : NoteParts) → In n old ↔ (In n reference × P n)) → AreThose reference Q added
    → ((n : NoteParts) → R n ↔ (P n ⊎ Q n)) → (n : NoteParts) → (In n old ⊎ In n added) ↔ (In n reference × R n)
members_more reference old added P Q R was those either n = grind arith

-- there is a byte between an offset and the end of the bytes from there on where these are some
some_byte : (offset end : ℕ) (bytes : List ℕ) → end ≡ offset + length bytes
    → IsTrue (nat_lt offset end) ↔ ((at : ℕ) × IsByteOf (Bytes offset bytes) at)
some_byte offset end bytes e = grind (arith, ltb-true, lt-ltb)

-- a byte of one of sources with one more is one of them, or of that one
bytes_end : (sources : List Source) (s : Source) → ((at : ℕ) × (t : Source) × In t (sources ++ s ∷ []) × IsByteOf t at)
    ↔ (((at : ℕ) × (t : Source) × In t sources × IsByteOf t at) ⊎ ((at : ℕ) × IsByteOf s at))
bytes_end sources s = (
  λ (at, t, k, b). elim ((some_end (λ x. IsByteOf x at) sources s).0 (t, k, b)) [
    | inl h ↦ inl (at, h.0, h.1, h.2)
    | inr h ↦ inr (at, h)
  ],
  λ h. elim h [
    | inl g ↦ let f = (some_end (λ x. IsByteOf x g.0) sources s).1 (inl (g.1, g.2, g.3)) in (g.0, f.0, f.1, f.2)
    | inr g ↦ let f = (some_end (λ x. IsByteOf x g.0) sources s).1 (inr g.1) in (g.0, f.0, f.1, f.2)
  ],
)

-- what a set has with notes more
members_of : (old new added : List NoteParts) (lent names : List (Bor NoteParts)) → lent ≡ names
    → added ≡ notes_at names → ((n : NoteParts) → In n new ↔ (In n old ⊎ In n (notes_at lent))) → (n : NoteParts)
    → In n new ↔ (In n old ⊎ In n added)
members_of old new added lent names e a more n =
    subst (λ l. In n new ↔ (In n old ⊎ In n l)) (ap notes_at e ∙ sym a) (more n)

-- a source of bytes more was seen
pub seen_bytes : (reference : List NoteParts) (sources : List Source) (old new : Seen) (number offset end : ℕ)
    (bytes : List ℕ) (told : Told) (same differing : List (Bor NoteParts)) → number ≡ length sources + 1
    → IsSeen reference sources old → TellsOf old.reference (Bytes offset bytes) told → end ≡ offset + length bytes
    → same ≡ told.same.items → differing ≡ told.differing.items → new.reference ≡ old.reference
    → ((n : NoteParts) → In n new.verified ↔ (In n old.verified ⊎ In n (notes_at same))) → new.headed ≡ old.headed
    → parts_of new.differing.items ≡ parts_of old.differing.items ++ map (differing_in number) (notes_at differing)
    → new.ranges.items ≡ old.ranges.items ++ run offset end ∷ [] → new.beside.items ≡ old.beside.items
    → new.came ≡ (old.came || nat_lt offset end) → IsSeen reference (sources ++ Bytes offset bytes ∷ []) new
seen_bytes reference sources old new number offset end bytes told same differing numbered is tells ends sames others
    kept verified headed differs ranges beside came =
    let s = Bytes offset bytes in
    let tells_reference : TellsOf reference s told = subst (λ r. TellsOf r s told) is.reference_is tells in
    let at_number : number ≡ 1 + length sources = omega arith in
    let set = members_of old.verified new.verified
    (notes_at told.same.items) same told.same.items sames refl verified in
    record {
      catalogue = is.catalogue;
      reference_is = kept ∙ is.reference_is;
      verified = λ n.
          let m = members_more reference old.verified (notes_at told.same.items) (IsVerified reference sources)
          (λ x. IsSameIn reference x s) (IsVerified reference (sources ++ s ∷ [])) is.verified tells_reference.same
          (λ x. some_end (IsSameIn reference x) sources s) n in
          (λ h. m.0 ((set n).0 h), λ h. (set n).1 (m.1 h));
      headed = λ n.
          let b = headed_bytes sources offset bytes n in (
            λ h. let k = (is.headed n).0 (subst (In n) headed h) in (k.0, b.1 k.1),
            λ h. subst (In n) (sym headed) ((is.headed n).1 (h.0, b.0 h.1)),
          );
      differing = subst (AreDiffering reference 1 (sources ++ s ∷ []))
          (sym (differs ∙ ap (λ l. parts_of old.differing.items ++ map (differing_in number) (notes_at l)) others
          ∙ ap (λ k. parts_of old.differing.items ++ map (differing_in k) (notes_at told.differing.items)) at_number))
          (differing_more reference 1 sources s (parts_of old.differing.items) (notes_at told.differing.items)
          is.differing tells_reference.differing);
      ranges = ranges ∙ ap (λ l. l ++ run offset end ∷ []) is.ranges
          ∙ ap (λ k. flat_map range_in sources ++ run offset k ∷ []) ends ∙ sym (ranges_more sources s);
      beside = λ at.
          let b = beside_bytes reference sources offset bytes at in (
            λ h. b.1 ((is.beside at).0 (subst (λ l. LiesIn l at) beside h)),
            λ h. subst (λ l. LiesIn l at) (sym beside) ((is.beside at).1 (b.0 h)),
          );
      came =
          let either = Decides-or old.came (nat_lt offset end) is.came (some_byte offset end bytes ends) in
          let all = bytes_end sources s in (λ h. all.1 (either.0 (sym came ∙ h)), λ h. came ∙ either.1 (all.0 h));
    }

-- a catalogue that has no note has no byte
no_byte : (notes : List NoteParts) (b : Bool) → (IsTrue b ↔ (notes ≡ [])) → IsTrue (not b)
    ↔ ((at : ℕ) × IsByteOf (Saved notes) at)
no_byte [] b says = grind (arith, false≢true)
no_byte (n ∷ notes) true says = grind arith
no_byte (n ∷ notes) false says = (
  λ h. (n.offset, (n, inl refl, record { from = omega arith; before = let l = holds_first n in omega arith })),
  λ h. refl,
)

-- a catalogue more was seen
pub seen_saved : (reference : List NoteParts) (sources : List Source) (old new : Seen) (number : ℕ) (is_empty : Bool)
    (saved : List NoteParts) (told : SavedTold) (same headed differing : List (Bor NoteParts))
    → number ≡ length sources + 1 → IsSeen reference sources old → TellsSaved old.reference saved told
    → (IsTrue is_empty ↔ (saved ≡ [])) → same ≡ told.told.same.items → headed ≡ told.headed.items
    → differing ≡ told.told.differing.items → new.reference ≡ old.reference
    → ((n : NoteParts) → In n new.verified ↔ (In n old.verified ⊎ In n (notes_at same)))
    → ((n : NoteParts) → In n new.headed ↔ (In n old.headed ⊎ In n (notes_at headed)))
    → parts_of new.differing.items ≡ parts_of old.differing.items ++ map (differing_in number) (notes_at differing)
    → new.ranges.items ≡ old.ranges.items → new.beside.items ≡ old.beside.items ++ told.beside
    → new.came ≡ (old.came || not is_empty) → IsSeen reference (sources ++ Saved saved ∷ []) new
seen_saved reference sources old new number is_empty saved told same headed differing numbered is tells empty sames heads
    others kept verified heading differs ranges beside came =
    let s = Saved saved in
    let tells_reference : TellsSaved reference saved told =
    subst (λ r. TellsSaved r saved told) is.reference_is tells in
    let at_number : number ≡ 1 + length sources = omega arith in
    let set = members_of old.verified new.verified
    (notes_at told.told.same.items) same told.told.same.items sames refl verified in
    let heads_set = members_of old.headed new.headed
    (notes_at told.headed.items) headed told.headed.items heads refl heading in
    record {
      catalogue = is.catalogue;
      reference_is = kept ∙ is.reference_is;
      verified = λ n.
          let m = members_more reference old.verified (notes_at told.told.same.items) (IsVerified reference sources)
          (λ x. IsSameIn reference x s) (IsVerified reference
          (sources ++ s ∷ [])) is.verified tells_reference.told_is.same
          (λ x. some_end (IsSameIn reference x) sources s) n in
          (λ h. m.0 ((set n).0 h), λ h. (set n).1 (m.1 h));
      headed = λ n.
          let m = members_more reference old.headed (notes_at told.headed.items) (IsHeaded sources) (λ x. TouchesIn x s)
          (IsHeaded (sources ++ s ∷ [])) is.headed tells_reference.headed (headed_saved sources saved) n in
          (λ h. m.0 ((heads_set n).0 h), λ h. (heads_set n).1 (m.1 h));
      differing = subst (AreDiffering reference 1 (sources ++ s ∷ []))
          (sym (differs ∙ ap (λ l. parts_of old.differing.items ++ map (differing_in number) (notes_at l)) others
          ∙ ap (λ k. parts_of old.differing.items
          ++ map (differing_in k) (notes_at told.told.differing.items)) at_number))
          (differing_more reference 1 sources s (parts_of old.differing.items) (notes_at told.told.differing.items)
          is.differing tells_reference.told_is.differing);
      ranges = ranges ∙ is.ranges ∙ sym (append-nil (flat_map range_in sources)) ∙ sym (ranges_more sources s);
      beside = λ at.
          let b = beside_saved reference sources saved at in
          let both = some_both (λ r. IsWithin r at) old.beside.items told.beside in (
            λ h. b.1 (elim (both.0 (subst (λ l. LiesIn l at) beside h)) [
              | inl k ↦ inl ((is.beside at).0 k)
              | inr k ↦ inr ((tells_reference.beside at).0 k)
            ]),
            λ h. subst (λ l. LiesIn l at) (sym beside) (both.1 (elim (b.0 h) [
              | inl k ↦ inl ((is.beside at).1 k)
              | inr k ↦ inr ((tells_reference.beside at).1 k)
            ])),
          );
      came =
          let either = Decides-or old.came (not is_empty) is.came (no_byte saved is_empty empty) in
          let all = bytes_end sources s in (λ h. all.1 (either.0 (sym came ∙ h)), λ h. came ∙ either.1 (all.0 h));
    }

-- what lies in runs and one more ends at or below a bound where these do
pub within_more : (runs : List Run) (new : List Run) (r : Run) (bound : ℕ) → ((q : Run) → In q runs → q.end ≤ bound)
    → r.end ≤ bound → new ≡ runs ++ r ∷ [] → (q : Run) → In q new → q.end ≤ bound
within_more runs new r bound were h e q i = elim ((In-append q runs (r ∷ [])).0 (subst (In q) e i)) [
  | inl k ↦ were q k
  | inr k ↦ elim k [
    | inl same ↦ let ends : q.end ≡ r.end = ap (λ (x : Run). x.end) same in omega arith
    | inr z ↦ absurd z
  ]
]

pub within_both : (runs more new : List Run) (bound : ℕ) → ((q : Run) → In q runs → q.end ≤ bound)
    → AllByRecursion (λ r. r.end ≤ bound) more → new ≡ runs ++ more → (q : Run) → In q new → q.end ≤ bound
within_both runs more new bound were all e q i = elim ((In-append q runs more).0 (subst (In q) e i)) [
  | inl k ↦ were q k
  | inr k ↦ all-In (λ (r : Run). r.end ≤ bound) more q all k
]

-- what is put so far is of those that were there, or of those that are put
pub in_either : {X : Type 0} (new left old more : List X) → new ++ left ≡ old ++ more → (x : X) → In x new
    → In x old ⊎ In x more
in_either new left old more e x i = (In-append x old more).0 (subst (In x) e ((In-append x new left).1 (inl i)))
