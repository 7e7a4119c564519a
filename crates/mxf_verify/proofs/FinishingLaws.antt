-- What all sources together say, by what was seen of each.
use Rattle.mxf_views.proofs.Common.{◌≡◌, ◌↔◌, ◌⊎◌, ◌+◌, ◌<◌, ◌≤◌, ◌∙◌, ℕ, List, [], ◌∷◌, ◌++◌, length, map, refl, sym}
use Rattle.mxf_views.proofs.Common.{ap, subst, ◌&&◌, ◌||◌, not, Bool, IsTrue, filter, inl, inr, arith, get_or, map-id}
use Rattle.mxf_views.proofs.Common.{nat_le, take, and_from, and_parts, le-leb, leb-true, or_cases, or_left, or_right}
use Rattle.mxf_views.proofs.Common.{take_more, map-map, list_any, IsCovered, covered_end, NoteParts, In, SameMembers}
use Rattle.mxf_views.proofs.Common.{In-append, In-flat_map, list_any-In, not_true, not-true-false, same_bool, IsContent}
use Rattle.mxf_views.proofs.Common.{union_of, AreMaximal, IsWithin, LiesIn, SameOffsets, run, In-union_of}
use Rattle.mxf_views.proofs.Common.{IsContent-union_of, LiesIn-with_run, with_run, Covers}
use Rattle.mxf_catalogue.specs.declared.run.Run.{Run}
use Rattle.std.specs.List.{flat_map}
use denote.Bor.{Bor}
use Rattle.mxf_readings.specs.Readings.{is_held}
use Rattle.mxf_readings.proofs.SourceLaws.{held_says}
use Rattle.mxf_verify.specs.Verifying.{IsAmong, IsByteOf, IsCut, IsDiffering, IsDifferingByte, IsHeldBy, IsUnknownByte}
use Rattle.mxf_verify.specs.Verifying.{IsUnverifiedByte, IsVerified, IsVerifiedByte, Source, TouchesIn, Bytes, Saved}
use Rattle.mxf_verify.specs.ToldBytes.{is_met}
use Rattle.mxf_verify.specs.Telling.{AreThose, notes_at}
use Rattle.mxf_verify.specs.Verifications.{AreDiffering, AreRunsOf, IsCountOf, IsVerification, DifferingParts}
use Rattle.mxf_verify.specs.Verifications.{VerificationParts, differing_in, parts_of}
use Rattle.mxf_verify.specs.Seen.{IsHeaded, IsSeen, range_in}
use Rattle.mxf_verify.specs.Finishing.{AreBytes, IsLeftOut, IsMet, IsToldBy, IsWithinOne}
use Rattle.mxf_verify.specs.declared.finishing.ToldBytes.{ToldBytes}
use Rattle.mxf_verify.specs.declared.finishing.Uncompared.{Uncompared}
use Rattle.mxf_verify.specs.declared.seen.Seen.{Seen}
use Rattle.mxf_verify.specs.declared.verification.Differing.{Differing}
use Rattle.mxf_units.proofs.OffsetLaws.{some_both, some_end}
use Rattle.mxf_verify.proofs.OtherLaws.{those_passing}
use Rattle.mxf_verify.proofs.SeenLaws.{damaged_says}
use Rattle.mxf_verify.proofs.ToldLaws.{met_says}

-- The offset is a byte of a source of bytes.
abbrev IsRead : List Source → ℕ → Type 0
IsRead sources at =
    (offset : ℕ) × (bytes : List ℕ) × In (Bytes offset bytes) sources × (offset ≤ at) × (at < offset + length bytes)

-- Some source of bytes has all of the note.
abbrev IsAmongSome : List Source → NoteParts → Type 0
IsAmongSome sources n = (offset : ℕ) × (bytes : List ℕ) × In (Bytes offset bytes) sources × IsAmong n offset bytes

in_range : (s : Source) (sources : List Source) (r : Run) (at : ℕ) → In s sources → In r (range_in s) → IsWithin r at
    → IsRead sources at
in_range (Bytes offset bytes) sources r at i (inl e) w = grind arith
in_range (Bytes offset bytes) sources r at i (inr z) w = absurd z
in_range (Saved notes) sources r at i m w = absurd m

-- what lies in the ranges of sources was read
pub read_says : (sources : List Source) (at : ℕ) → LiesIn (flat_map range_in sources) at ↔ IsRead sources at
read_says sources at = (
  λ h.
      let s = (In-flat_map range_in sources h.0).0 h.1 in
      in_range s.0 sources h.0 at s.1 s.2 h.2,
  λ h.
      let r = run h.0 (h.0 + length h.1) in (
        r,
        (In-flat_map range_in sources r).1 (Bytes h.0 h.1, h.2, inl refl),
        record { from = h.3; before = omega (arith, h.4) },
      ),
)

one_range : (s : Source) (sources : List Source) (r : Run) (n : NoteParts) → In s sources → In r (range_in s)
    → r.start ≤ n.offset → covered_end n ≤ r.end → IsAmongSome sources n
one_range (Bytes offset bytes) sources r n i (inl e) f t = grind arith
one_range (Bytes offset bytes) sources r n i (inr z) f t = absurd z
one_range (Saved notes) sources r n i m f t = absurd m

-- one of the ranges has all bytes of a note where some source of bytes has
pub among_says : (sources : List Source) (n : NoteParts) → IsWithinOne (flat_map range_in sources) n
    ↔ IsAmongSome sources n
among_says sources n = (
  λ h.
      let s = (In-flat_map range_in sources h.0).0 h.1 in
      one_range s.0 sources h.0 n s.1 s.2 h.2 h.3,
  λ h.
      let r = run h.0 (h.0 + length h.1) in (
        r,
        (In-flat_map range_in sources r).1 (Bytes h.0 h.1, h.2, inl refl),
        h.3.from,
        h.3.to,
      ),
)

touched_by : (s : Source) (sources : List Source) (n : NoteParts) → In s sources → TouchesIn n s
    → IsMet (flat_map range_in sources) n ⊎ IsHeaded sources n
touched_by (Bytes offset bytes) sources n i t =
    let before : t.0 + 1 ≤ covered_end n = t.1.before in
    inl (t.0, (read_says sources t.0).1 (offset, bytes, i, t.2, t.3), t.1.from, omega arith)
touched_by (Saved notes) sources n i t = inr (notes, i, t)

-- a note is touched where the ranges meet it, or some catalogue has its head
pub touched_says : (sources : List Source) (n : NoteParts)
    → ((s : Source) × In s sources × TouchesIn n s) ↔ (IsMet (flat_map range_in sources) n ⊎ IsHeaded sources n)
touched_says sources n = (
  λ h. touched_by h.0 sources n h.1 h.2,
  λ h. elim h [
    | inl m ↦
        let r = (read_says sources m.0).0 m.1 in
        (Bytes r.0 r.1, r.2, (m.0, record { from = m.2; before = omega (arith, m.3) }, r.3, r.4))
    | inr m ↦ (Saved m.0, m.1, m.2)
  ],
)

-- the same of runs with the same offsets, and of ranges that are the same
pub met_alike : (a b : List Run) (n : NoteParts) → SameOffsets a b → IsMet a n ↔ IsMet b n
met_alike a b n same = (λ h. (h.0, (same h.0).0 h.1, h.2, h.3), λ h. (h.0, (same h.0).1 h.1, h.2, h.3))

pub within_alike : (a b : List Run) (n : NoteParts) → SameMembers a b → IsWithinOne a n ↔ IsWithinOne b n
within_alike a b n same = grind arith

-- notes of which something is so are those of which the same is so in other words
pub those_alike : (reference : List NoteParts) (P Q : NoteParts → Type 0) (xs : List NoteParts)
    → AreThose reference P xs → ((n : NoteParts) → In n reference → P n ↔ Q n) → AreThose reference Q xs
those_alike reference P Q xs those alike = grind arith

pub runs_alike : (P Q : ℕ → Type 0) (runs : List Run) → AreRunsOf P runs → ((at : ℕ) → P at ↔ Q at) → AreRunsOf Q runs
runs_alike P Q runs are alike = grind arith

-- a set of notes, put in order
pub ordered_those : (reference set : List NoteParts) (P : NoteParts → Type 0)
    → ((n : NoteParts) → In n set ↔ (In n reference × P n)) → AreThose reference P (union_of [] set)
ordered_those reference set P members = record {
  rising = IsContent-union_of [] set tt;
  members = λ n.
      let u = In-union_of n [] set in (
        λ h. elim (u.0 h) [ inl z ↦ absurd z | inr k ↦ (members n).0 k ],
        λ h. u.1 (inr ((members n).1 h)),
      );
}

-- bytes of a set of notes
pub held_alike : (reference set : List NoteParts) (P : NoteParts → Type 0)
    → ((n : NoteParts) → In n set ↔ (In n reference × P n)) → (at : ℕ)
    → IsHeldBy set at ↔ ((n : NoteParts) × In n reference × P n × IsCovered n at)
held_alike reference set P members at = grind arith

module _ (reference : List NoteParts) (sources : List Source) (seen : Seen) (is : IsSeen reference sources seen) where
  -- the notes that differ somewhere
  pub damaged_members : (n : NoteParts) → In n (map (λ (d : Differing). d.note.now) seen.differing.items)
      ↔ (In n reference × IsDiffering reference sources n)
  damaged_members n = subst (λ l. In n l ↔ (In n reference × IsDiffering reference sources n))
      (map-map (λ (p : DifferingParts). p.note)
      (λ (d : Differing). differing_in d.source d.note.now) seen.differing.items)
      (damaged_says reference 1 sources _ n is.differing)

  came_from : (s : Source) (at : ℕ) → In s sources → IsByteOf s at → ¬ IsHeldBy reference at
      → LiesIn seen.ranges.items at ⊎ LiesIn seen.beside.items at
  came_from (Bytes offset bytes) at i b free =
      inl (subst (λ l. LiesIn l at) (sym is.ranges) ((read_says sources at).1 (offset, bytes, i, b.0, b.1)))
  came_from (Saved notes) at i b free = inr ((is.beside at).1 ((notes, i, b), free))

  -- what came and isn't held is unknown
  pub unknown_says : (at : ℕ) → (LiesIn (seen.ranges.items ++ seen.beside.items) at × ¬ IsHeldBy reference at)
      ↔ IsUnknownByte reference sources at
  unknown_says at = (
    λ h. elim ((some_both (λ r. IsWithin r at) seen.ranges.items seen.beside.items).0 h.0) [
      | inl k ↦
          let r = (read_says sources at).0 (subst (λ l. LiesIn l at) is.ranges k) in
          ((Bytes r.0 r.1, r.2, (r.3, r.4)), h.1)
      | inr k ↦ let b = (is.beside at).0 k in ((Saved b.0.0, b.0.1, b.0.2), h.1)
    ],
    λ h. (
      (some_both (λ r. IsWithin r at) seen.ranges.items seen.beside.items).1 (came_from h.0.0 at h.0.1 h.0.2 h.1),
      h.1,
    ),
  )

  module _ (u : Uncompared)
      (verified : (n : NoteParts) → In n u.verified ↔ (In n reference × IsVerified reference sources n))
      (damaged : (n : NoteParts) → In n u.damaged ↔ (In n reference × IsDiffering reference sources n))
      (headed : (n : NoteParts) → In n u.headed ↔ (In n reference × IsHeaded sources n))
      (read : SameOffsets u.read seen.ranges.items) (reach : SameMembers u.reach seen.ranges.items) where
    read_of : SameOffsets u.read (flat_map range_in sources)
    read_of = subst (SameOffsets u.read) is.ranges read

    reach_of : SameMembers u.reach (flat_map range_in sources)
    reach_of = subst (SameMembers u.reach) is.ranges reach

    -- a note is left out exactly where it is cut
    pub left_out_says : (n : NoteParts) → In n reference → IsLeftOut u n ↔ IsCut reference sources n
    left_out_says n held =
        let within = within_alike u.reach (flat_map range_in sources) n reach_of in
        let met = met_alike u.read (flat_map range_in sources) n read_of in
        let some = among_says sources n in
        let touched = touched_says sources n in (
          λ h. record {
            unverified = λ v. h.unverified ((verified n).1 (held, v));
            undiffering = λ d. h.undiffering ((damaged n).1 (held, d));
            apart = λ offset bytes i a. h.apart (within.1 (some.1 (offset, bytes, i, a)));
            touched = touched.1 (elim h.touched [ inl m ↦ inl (met.0 m) | inr m ↦ inr ((headed n).0 m).1 ]);
          },
          λ h. record {
            unverified = λ v. h.unverified ((verified n).0 v).1;
            undiffering = λ d. h.undiffering ((damaged n).0 d).1;
            apart = λ w. let s = some.0 (within.0 w) in h.apart s.0 s.1 s.2 s.3;
            touched = elim (touched.0 h.touched) [ inl m ↦ inl (met.1 m) | inr m ↦ inr ((headed n).1 (held, m)) ];
          },
        )

-- what is told of a reference beside sources, by its parts
pub count_of : (reference : List NoteParts) (P : NoteParts → Type 0) (notes : List NoteParts) (count : ℕ)
    → AreThose reference P notes → count ≡ length notes → IsCountOf reference P count
count_of reference P notes count those e = record { notes = notes; those = those; count_is = e }

-- ---- sets that grow

-- notes that stand behind others in a set are members of it beside these
pub added_members : (old added new : List NoteParts) → new ≡ old ++ added → (n : NoteParts)
    → In n new ↔ (In n old ⊎ In n added)
added_members old added new e n = subst (λ l. In n l ↔ (In n old ⊎ In n added)) (sym e) (In-append n old added)

-- the same where they are put in order then
pub added_once : (old added all new : List NoteParts) → all ≡ old ++ added → new ≡ union_of [] all → (n : NoteParts)
    → In n new ↔ (In n old ⊎ In n added)
added_once old added all new e o n =
    let u = In-union_of n [] all in
    let m = added_members old added all e n in (
      λ h. m.0 (elim (u.0 (subst (In n) o h)) [ inl z ↦ absurd z | inr k ↦ k ]),
      λ h. subst (In n) (sym o) (u.1 (inr (m.1 h))),
    )

-- what differs, put in order
pub damaged_once : (none lent set ordered : List NoteParts) (ds : List Differing) (rs : List (Bor NoteParts))
    → none ≡ [] → rs ≡ map (λ (d : Differing). d.note) ds → lent ≡ notes_at rs
    → ((n : NoteParts) → In n set ↔ (In n none ⊎ In n lent)) → ordered ≡ union_of [] set → (n : NoteParts)
    → In n ordered ↔ In n (map (λ (d : Differing). d.note.now) ds)
damaged_once none lent set ordered ds rs z names held more o n = grind (arith, In-union_of, map-map)

-- ---- bytes that are told

-- the bytes of notes, and of one more
pub bytes_more : (members : List NoteParts) (i : ℕ) (d n : NoteParts) (old new : List Run) (start end : ℕ)
    → i < length members → n ≡ get_or members i d → start ≡ n.offset → end ≡ covered_end n
    → new ≡ with_run (run start end) old → ((at : ℕ) → LiesIn old at ↔ IsHeldBy (take i members) at) → (at : ℕ)
    → LiesIn new at ↔ IsHeldBy (take (i + 1) members) at
bytes_more members i d n old new start end h is from to put were at =
    let w = LiesIn-with_run (run start end) old at in
    let more : take (i + 1) members ≡ take i members ++ n ∷ [] =
    take_more members i d h ∙ ap (λ x. take i members ++ x ∷ []) (sym is) in
    let one = some_end (λ x. IsCovered x at) (take i members) n in (
      λ k. subst (λ l. IsHeldBy l at) (sym more) (one.1 (elim (w.0 (subst (λ l. LiesIn l at) put k)) [
        | inl r ↦
            let f : start ≤ at = r.from in
            let t : at + 1 ≤ end = r.before in inr (record { from = omega (arith, from); before = omega (arith, to) })
        | inr r ↦ inl ((were at).0 r)
      ])),
      λ k. subst (λ l. LiesIn l at) (sym put) (w.1 (elim (one.0 (subst (λ l. IsHeldBy l at) more k)) [
        | inl r ↦ inr ((were at).1 r)
        | inr r ↦
            let f : n.offset ≤ at = r.from in
            let t : at + 1 ≤ covered_end n = r.before in
            inl (record { from = omega (arith, from); before = omega (arith, to) })
      ])),
    )

-- what is left of some offsets without others, and without further ones
pub left_of_both : (all some others left rest : List Run)
    → ((at : ℕ) → LiesIn left at ↔ (LiesIn all at × ¬ LiesIn some at))
    → ((at : ℕ) → LiesIn rest at ↔ (LiesIn left at × ¬ LiesIn others at)) → (at : ℕ)
    → LiesIn rest at ↔ (LiesIn all at × ¬ LiesIn some at × ¬ LiesIn others at)
left_of_both all some others left rest first second at = (
  λ h. let a = (second at).0 h in let b = (first at).0 a.0 in (b.0, b.1, a.1),
  λ h. (second at).1 ((first at).1 (h.0, h.1), h.2),
)

-- the bytes of notes that are the same, that differ, and what is left
pub bytes_are : (reference verified damaged : List NoteParts)
    (sources same altered left spans came unknown others : List Run)
    → ((at : ℕ) → LiesIn same at ↔ IsHeldBy verified at) → ((at : ℕ) → LiesIn altered at ↔ IsHeldBy damaged at)
    → ((at : ℕ) → LiesIn left at ↔ (LiesIn spans at × ¬ LiesIn same at × ¬ LiesIn altered at)) → Covers spans reference
    → SameOffsets came sources → Covers others reference
    → ((at : ℕ) → LiesIn unknown at ↔ (LiesIn came at × ¬ LiesIn others at))
    → AreMaximal 0 same → AreMaximal 0 altered → AreMaximal 0 left → AreMaximal 0 unknown
    → AreBytes reference verified damaged sources
    (record { verified = same; altered = altered; unverified = left; unknown = unknown })
bytes_are reference verified damaged sources same altered left spans came unknown others s d l held c also u ms md ml mu = record {
  verified_are = record { maximal = ms; offsets = s };
  altered_are = record { maximal = md; offsets = d };
  unverified_are = record {
    maximal = ml;
    offsets = λ at. (
      λ h.
          let k = (l at).0 h in
          ((held at).0 k.0, λ v. k.1 ((s at).1 v), λ v. k.2 ((d at).1 v)),
      λ h. (l at).1 ((held at).1 h.0, λ v. h.1 ((s at).0 v), λ v. h.2 ((d at).0 v)),
    );
  };
  unknown_are = record {
    maximal = mu;
    offsets = λ at. (
      λ h. let k = (u at).0 h in ((c at).0 k.0, λ v. k.1 ((also at).1 v)),
      λ h. (u at).1 ((c at).1 h.0, λ v. h.1 ((also at).0 v)),
    );
  };
}

-- ---- the notes that weren't compared

-- one of the ranges has all bytes of the note
abbrev is_within_one : List Run → NoteParts → Bool
is_within_one ranges n = list_any (λ r. nat_le r.start n.offset && nat_le (covered_end n) r.end) ranges

within_says : (ranges : List Run) (n : NoteParts) → IsTrue (is_within_one ranges n) ↔ IsWithinOne ranges n
within_says ranges n =
    let any = list_any-In (λ (r : Run). nat_le r.start n.offset && nat_le (covered_end n) r.end) ranges in (
      λ t. let s = any.0 t in let p = and_parts _ _ s.2 in (s.0, s.1, leb-true _ _ p.0, leb-true _ _ p.1),
      λ (r, i, f, t). any.1 (r, i, and_from _ _ (le-leb _ _ f) (le-leb _ _ t)),
    )

-- the note wasn't compared
abbrev pub is_left_out : Uncompared → NoteParts → Bool
is_left_out u n = not (is_held n u.verified || is_held n u.damaged || is_within_one u.reach n)
    && (is_met u.read n || is_held n u.headed)

left_out-by_test : (u : Uncompared) (n : NoteParts) → IsTrue (is_left_out u n) ↔ IsLeftOut u n
left_out-by_test u n =
    let verified = held_says n u.verified in
    let damaged = held_says n u.damaged in
    let headed = held_says n u.headed in
    let within = within_says u.reach n in
    let met = met_says u.read n in
    let compared = is_held n u.verified || is_held n u.damaged in (
      λ t.
          let p = and_parts _ _ t in
          let none = not-true-false (compared || is_within_one u.reach n) p.0 in record {
            unverified = λ k. none (or_left compared _ (or_left _ _ (verified.1 k)));
            undiffering = λ k. none (or_left compared _ (or_right _ _ (damaged.1 k)));
            apart = λ k. none (or_right compared _ (within.1 k));
            touched = elim (or_cases _ _ p.1) [ inl k ↦ inl (met.0 k) | inr k ↦ inr (headed.0 k) ];
          },
      λ h. and_from _ (is_met u.read n || is_held n u.headed) (not_true _ (λ t. elim (or_cases compared _ t) [
        | inl k ↦ elim (or_cases _ _ k) [ inl v ↦ h.unverified (verified.0 v) | inr d ↦ h.undiffering (damaged.0 d) ]
        | inr w ↦ h.apart (within.0 w)
      ])) (elim h.touched [ inl k ↦ or_left _ _ (met.1 k) | inr k ↦ or_right _ _ (headed.1 k) ]),
    )

-- the same of what is answered
pub left_out_by : (b : Bool) (u : Uncompared) (n : NoteParts) → IsTrue b ↔ IsLeftOut u n → b ≡ is_left_out u n
left_out_by b u n d =
    let says = left_out-by_test u n in same_bool b (is_left_out u n) (λ t. says.1 (d.0 t)) (λ t. d.1 (says.0 t))

-- those that pass the test
pub those_left_out : (reference : List NoteParts) (u : Uncompared) (xs : List NoteParts) → IsContent reference
    → xs ≡ map (λ n. n) (filter (is_left_out u) reference) → AreThose reference (IsLeftOut u) xs
those_left_out reference u xs rising e = subst (AreThose reference (IsLeftOut u)) (sym (e ∙ map-id _))
    (those_passing reference (IsLeftOut u) (is_left_out u) rising (λ n _. left_out-by_test u n))

-- ---- all of it

-- what is told of a reference beside sources, by what was seen of these
pub verification_of : (reference : List NoteParts) (sources : List Source) (seen : Seen)
    (is : IsSeen reference sources seen) (u : Uncompared) (b : ToldBytes) (cut : List NoteParts) (v : VerificationParts)
    → IsToldBy reference u b (parts_of seen.differing.items) cut seen.came v
    → u.verified ≡ union_of [] seen.verified → IsContent u.damaged
    → ((n : NoteParts) → In n u.damaged ↔ In n (map (λ (d : Differing). d.note.now) seen.differing.items))
    → u.headed ≡ union_of [] seen.headed → SameOffsets u.read seen.ranges.items
    → SameMembers u.reach seen.ranges.items → AreThose reference (IsLeftOut u) cut
    → AreBytes reference u.verified u.damaged (seen.ranges.items ++ seen.beside.items) b
    → IsVerification reference sources v
verification_of reference sources seen is u b cut v told verified rises damaged headed read reach those bytes =
    let verified_those : AreThose reference (IsVerified reference sources) u.verified =
    subst (AreThose reference (IsVerified reference sources)) (sym verified)
    (ordered_those reference seen.verified (IsVerified reference sources) is.verified) in
    let headed_those : AreThose reference (IsHeaded sources) u.headed =
    subst (AreThose reference (IsHeaded sources)) (sym headed)
    (ordered_those reference seen.headed (IsHeaded sources) is.headed) in
    let damaged_says = damaged_members reference sources seen is in
    let damaged_those : AreThose reference (IsDiffering reference sources) u.damaged = record {
      rising = rises;
      members = λ n. (λ h. (damaged_says n).0 ((damaged n).0 h), λ h. (damaged n).1 ((damaged_says n).1 h));
    } in
    let left = left_out_says reference sources seen is u verified_those.members damaged_those.members headed_those.members read reach in
    record {
      all_packets = told.all_packets;
      packets = count_of reference (IsVerified reference sources) u.verified v.packets verified_those told.packets;
      damaged = count_of reference (IsDiffering reference sources) u.damaged v.damaged damaged_those told.damaged;
      differing = subst (AreDiffering reference 1 sources) (sym told.differing_are) is.differing;
      cut = subst (AreThose reference (IsCut reference sources)) (sym told.cut_are)
          (those_alike reference (IsLeftOut u) (IsCut reference sources) cut those left);
      held = told.held;
      verified = subst (AreRunsOf (IsVerifiedByte reference sources)) (sym told.verified)
          (runs_alike (IsHeldBy u.verified) (IsVerifiedByte reference sources) b.verified bytes.verified_are
          (held_alike reference u.verified (IsVerified reference sources) verified_those.members));
      altered = subst (AreRunsOf (IsDifferingByte reference sources)) (sym told.altered)
          (runs_alike (IsHeldBy u.damaged) (IsDifferingByte reference sources) b.altered bytes.altered_are
          (held_alike reference u.damaged (IsDiffering reference sources) damaged_those.members));
      unverified = subst (AreRunsOf (IsUnverifiedByte reference sources)) (sym told.unverified)
          (runs_alike _ (IsUnverifiedByte reference sources) b.unverified bytes.unverified_are
          (unverified_says verified_those damaged_those));
      unknown = subst (AreRunsOf (IsUnknownByte reference sources)) (sym told.unknown)
          (runs_alike _ (IsUnknownByte reference sources) b.unknown bytes.unknown_are
          (unknown_says reference sources seen is));
      came = (λ h. is.came.0 (sym told.came_is ∙ h), λ h. told.came_is ∙ is.came.1 h);
    }
  where
    unverified_says : AreThose reference (IsVerified reference sources) u.verified
        → AreThose reference (IsDiffering reference sources) u.damaged → (at : ℕ)
        → (IsHeldBy reference at × ¬ IsHeldBy u.verified at × ¬ IsHeldBy u.damaged at)
        ↔ IsUnverifiedByte reference sources at
    unverified_says v_those d_those at =
        let v_held = held_alike reference u.verified (IsVerified reference sources) v_those.members at in
        let d_held = held_alike reference u.damaged (IsDiffering reference sources) d_those.members at in (
          λ h. (h.0, λ k. h.1 (v_held.1 k), λ k. h.2 (d_held.1 k)),
          λ h. (h.0, λ k. h.1 (v_held.0 k), λ k. h.2 (d_held.0 k)),
        )

-- the same of the same notes and runs
pub bytes_same : (reference a b c d : List NoteParts) (x y z w : List Run) (t : ToldBytes) → a ≡ b → c ≡ d → x ≡ z
    → y ≡ w → AreBytes reference a c (x ++ y) t → AreBytes reference b d (z ++ w) t
bytes_same reference a b c d x y z w t p q r s h =
    subst (λ l. AreBytes reference b d (z ++ l) t) s (subst (λ l. AreBytes reference b d (l ++ y) t) r
    (subst (λ l. AreBytes reference b l (x ++ y) t) q (subst (λ l. AreBytes reference l c (x ++ y) t) p h)))
