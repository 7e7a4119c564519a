-- What the bytes of a source say of the notes of a reference.
use Rattle.mxf_views.proofs.Common.{◌≡◌, ◌↔◌, ◌+◌, ◌-◌, ◌<◌, ◌≤◌, ◌&&◌, not, ℕ, Bool, true, false, IsTrue, cond, List}
use Rattle.mxf_views.proofs.Common.{[], ◌∷◌, ◌++◌, filter, get_or, length, map, max, min, take, drop, nat_le, nat_lt}
use Rattle.mxf_views.proofs.Common.{refl, sym, ap, ◌∙◌, subst, arith, inl, inr, and_from, and_parts, cases_lt, le-leb}
use Rattle.mxf_views.proofs.Common.{leb-true, drop-map, get_or-drop, get_or-take, length-drop, length-take}
use Rattle.mxf_views.proofs.Common.{take-append-drop, take-map, map-map, AllWithin, NoteParts, covered_end, note_cmp}
use Rattle.mxf_views.proofs.Common.{In, IsRising, all-In, all_from_In, Contains-from_In, In-append, In-filter}
use Rattle.mxf_views.proofs.Common.{In-from_Contains, In-map, list_any-In, not_true, not-true-false, same_bool}
use Rattle.mxf_views.proofs.Common.{IsContent, Covers, LiesIn, is_disputed-IsDisputed}
use Rattle.mxf_catalogue.specs.declared.run.Run.{Run}
use denote.Bor.{Bor}
use Rattle.std.proofs.Common.{Ordering, Less}
use Rattle.std.proofs.lemmas.Bool.{lt-ltb, ltb-true}
use Rattle.mxf_catalogue.proofs.Fronts.{rising_front}
use Rattle.mxf_verify.specs.Candidates.{notes_of, offset_of}
use Rattle.mxf_verify.specs.Compared.{ComparesBytes}
use Rattle.mxf_verify.specs.Comparing.{SharesHeldByte}
use Rattle.mxf_verify.specs.References.{AreCandidates, is_crowded}
use Rattle.mxf_verify.specs.Telling.{AreThose, TellsOf, notes_at}
use Rattle.mxf_verify.specs.ToldBytes.{is_met, is_told_differing, is_told_same}
use Rattle.mxf_verify.specs.Verifying.{Bytes, DiffersIn, IsAmong, IsCompared, IsCrowded, IsSaidBy, IsSameIn, held_in}
use Rattle.mxf_verify.specs.declared.candidate.Candidate.{Candidate}
use Rattle.mxf_verify.specs.declared.compared.Compared.{Compared}
use Rattle.mxf_verify.specs.declared.told.Told.{Told}
use Rattle.mxf_verify.proofs.ComparedLaws.{slice_within}
use Rattle.mxf_verify.proofs.ComparingLaws.{holds_first}
use Rattle.mxf_verify.proofs.ReferenceLaws.{crowded_not, is_one, their_notes}

-- ---- lists

-- what is so of all elements is so of a member
pub within-In : {X : Type 0} (P : X → Type 0) (xs : List X) (x : X) → AllWithin P xs 0 (length xs) → In x xs → P x
within-In P xs x a h =
    let (j, there, is) = Contains-from_In x xs h in subst P is (a j x (omega arith) there)

-- a member of a part is one of the list
In-part : {X : Type 0} (x : X) (xs : List X) (first count : ℕ) → In x (take count (drop first xs)) → In x xs
In-part x xs first count h =
    subst (In x) (take-append-drop first xs) ((In-append x (take first xs) (drop first xs)).1 (inr
    (subst (In x) (take-append-drop count (drop first xs))
    ((In-append x (take count (drop first xs)) (drop count (drop first xs))).1 (inl h)))))

-- a member that is neither one of those before a part nor one of those behind it is one of the part
part-In : {X : Type 0} (P Q : X → Type 0) (x : X) (xs : List X) (first count : ℕ) → AllWithin P xs 0 first
    → AllWithin Q xs (first + count) (length xs) → ¬ P x → ¬ Q x → In x xs → In x (take count (drop first xs))
part-In P Q x xs first count before behind p q h =
    let (j, there, is) = Contains-from_In x xs h in
    let from : first ≤ j = elim (cases_lt j first) [
      | inl low ↦ absurd (p (subst P is (before j x (omega arith) low)))
      | inr high ↦ high
    ] in
    let low : j < first + count = elim (cases_lt j (first + count)) [
      | inl low ↦ low
      | inr high ↦ absurd (q (subst Q is (behind j x high there)))
    ] in
    let place : first + (j - first) ≡ j = omega (arith, from) in
    In-from_Contains x (take count (drop first xs)) (
      j - first,
      simp (length-take, length-drop) (omega (arith, from, low, there)),
      get_or-take count (drop first xs) (j - first) x (omega (arith, from, low))
          ∙ get_or-drop first xs (j - first) x ∙ ap (λ k. get_or xs k x) place ∙ is,
    )

-- what rises rises in a part
rising-back : {X : Type 0} (R : X → X → Ordering) (xs ys : List X) → IsRising R (xs ++ ys) → IsRising R ys
rising-back R [] ys r = r
rising-back R (x ∷ xs) ys r = rising-back R xs ys r.1

rising-part : {X : Type 0} (R : X → X → Ordering) (xs : List X) (first count : ℕ) → IsRising R xs
    → IsRising R (take count (drop first xs))
rising-part R xs first count r = rising_front R (take count (drop first xs)) (drop count (drop first xs))
    (subst (IsRising R) (sym (take-append-drop count (drop first xs)))
    (rising-back R (take first xs) (drop first xs) (subst (IsRising R) (sym (take-append-drop first xs)) r)))

-- and where some are left out
rising-chosen : {X Y : Type 0} (R : Y → Y → Ordering) (f : X → Y) (p : X → Bool) (xs : List X) → IsRising R (map f xs)
    → IsRising R (map f (filter p xs))
rising-chosen R f p [] r = tt
rising-chosen R f p (x ∷ xs) r =
    elim (p x) as (λ b. IsRising R (map f (cond b (x ∷ filter p xs) (filter p xs)))) [
      | true ↦ (
        all_from_In (λ y. R (f x) y ≡ Less) (map f (filter p xs)) (λ y h.
            let (z, i, e) = (In-map f (filter p xs) y).0 h in
            all-In (λ y. R (f x) y ≡ Less) (map f xs) y r.0 ((In-map f xs y).1 (z, ((In-filter p xs z).0 i).0, e))),
        rising-chosen R f p xs r.1,
      )
      | false ↦ rising-chosen R f p xs r.1
    ]

-- ---- the notes of candidates

-- their notes as values
abbrev noted : List Candidate → List NoteParts
noted cs = map (λ (x : Candidate). x.note.now) cs

pub notes_noted : (cs : List Candidate) → notes_at (notes_of cs) ≡ map (λ (x : Candidate). x.note.now) cs
notes_noted cs = map-map (λ (r : Bor NoteParts). r.now) (λ (x : Candidate). x.note) cs

-- those of a part are a part of those of all
part_noted : (all cs : List Candidate) (first count : ℕ) → notes_of cs ≡ take count (drop first (notes_of all))
    → noted cs ≡ take count (drop first (noted all))
part_noted all cs first count e = sym (notes_noted cs) ∙ ap notes_at e
    ∙ sym (take-map (λ (r : Bor NoteParts). r.now) count (drop first (notes_of all)))
    ∙ ap (take count) (sym (drop-map (λ (r : Bor NoteParts). r.now) first (notes_of all)))
    ∙ ap (λ l. take count (drop first l)) (notes_noted all)

noted_part : (all : List Candidate) (first count : ℕ)
    → take count (drop first (noted all)) ≡ noted (take count (drop first all))
noted_part all first count = ap (take count) (drop-map (λ (x : Candidate). x.note.now) first all)
    ∙ take-map (λ (x : Candidate). x.note.now) count (drop first all)

-- a note that isn't crowded passes the test
not_crowded : (n : NoteParts) (notes : List NoteParts) → ¬ IsCrowded notes n → IsTrue (not (is_crowded notes n))
unfolding is_crowded
not_crowded n notes free = grind (arith, not_true, and_parts, is_disputed-IsDisputed)

-- ---- bytes that lie in runs

-- the test of a note says whether it holds a byte in the runs
pub met_says : (runs : List Run) (n : NoteParts)
    → IsTrue (is_met runs n) ↔ ((at : ℕ) × LiesIn runs at × (n.offset ≤ at) × (at < covered_end n))
unfolding is_met
met_says runs n =
    let any = list_any-In (λ (r : Run). nat_lt (max r.start n.offset) (min r.end (covered_end n))) runs in (
      λ h.
          let s = any.0 h in
          let l : max s.0.start n.offset < min s.0.end (covered_end n) = ltb-true _ _ s.2 in (
            max s.0.start n.offset,
            (s.0, s.1, record { from = omega arith; before = omega arith }),
            omega arith,
            omega arith,
          ),
      λ s.
          let r = s.1.0 in
          let from : r.start ≤ s.0 = s.1.2.from in
          let before : s.0 + 1 ≤ r.end = s.1.2.before in
          any.1 (r, s.1.1, lt-ltb (max r.start n.offset) (min r.end (covered_end n)) (omega (arith, s.2, s.3))),
    )

pub met_by : (b : Bool) (runs : List Run) (n : NoteParts) (start end : ℕ) → start ≡ n.offset → end ≡ covered_end n
    → IsTrue b ↔ ((at : ℕ) × LiesIn runs at × (start ≤ at) × (at < end)) → b ≡ is_met runs n
met_by b runs n start end e f d = grind (arith, met_says, same_bool)

-- it does where one of the notes that the runs cover shares a held byte with it
met_shares : (runs : List Run) (notes : List NoteParts) (n : NoteParts) → Covers runs notes
    → IsTrue (is_met runs n) ↔ ((m : NoteParts) × In m notes × SharesHeldByte m n)
met_shares runs notes n covers =
    let says = met_says runs n in (
      λ t.
          let s = says.0 t in
          let held = (covers s.0).0 s.1 in
          (held.0, held.1, (s.0, held.2, record { from = s.2; before = omega (arith, s.3) })),
      λ s.
          let at = s.2.0 in
          let from : n.offset ≤ at = s.2.2.from in
          let before : at + 1 ≤ covered_end n = s.2.2.before in
          says.1 (at, (covers at).1 (s.0, s.1, s.2.1), from, omega arith),
    )

-- ---- what candidates say

module _ (reference : List NoteParts) (all : List Candidate) (offset bound : ℕ) (bytes : List ℕ) (c : Compared)
    (are : AreCandidates reference all) (h : ComparesBytes all offset bound bytes c)
    (fits : offset + length bytes ≤ bound)
  where
    -- the notes of the candidates rise
    rise : IsContent (noted c.candidates.items)
    rise =
        subst (IsRising note_cmp) (sym (part_noted all c.candidates.items c.first (length c.candidates.items) h.part))
        (rising-part note_cmp (noted all) c.first (length c.candidates.items) (their_notes reference all are))

    -- each is one of the reference that is compared with bytes, and begins from the offset on
    of_reference : (n : NoteParts) → In n (noted c.candidates.items)
        → In n reference × IsTrue (not (is_crowded reference n)) × (offset ≤ n.offset)
    of_reference n k =
        let part = take (length c.candidates.items) (drop c.first all) in
        let e = part_noted all c.candidates.items c.first (length c.candidates.items) h.part
        ∙ noted_part all c.first (length c.candidates.items) in
        let s = (In-map (λ (x : Candidate). x.note.now) part n).0 (subst (In n) e k) in
        let one = is_one reference all are s.0.note.now ((In-map (λ (x : Candidate). x.note.now) all s.0.note.now).1
        (s.0, In-part s.0 all c.first (length c.candidates.items) s.1, refl)) in
        let from = within-In (λ x. offset ≤ offset_of x) part s.0
        (slice_within (λ x. offset ≤ offset_of x) all c.first (length c.candidates.items) h.from) s.1 in
        subst (λ m. In m reference × IsTrue (not (is_crowded reference m)) × (offset ≤ m.offset)) (sym s.2)
        (one.0, one.1, from)

    -- each note of the reference that is compared with the bytes has its candidate
    its_candidate : (n : NoteParts) → In n reference → IsCompared reference n offset bytes
        → (x : Candidate) × In x c.candidates.items × (n ≡ x.note.now)
    its_candidate n held compared =
        let free = (In-filter (λ m. not (is_crowded reference m)) reference n).1
        (held, not_crowded n reference compared.free) in
        let s = (In-map (λ (x : Candidate). x.note.now) all n).0 (subst (In n) (sym are.free) free) in
        let at : n.offset ≡ offset_of s.0 = ap (λ (m : NoteParts). m.offset) s.2 in
        let from : offset ≤ n.offset = compared.among.from in
        let to : covered_end n ≤ offset + length bytes = compared.among.to in
        let some : n.offset < covered_end n = holds_first n in
        let inside = part-In (λ x. offset_of x < offset) (λ x. bound ≤ offset_of x) s.0 all c.first
        (length c.candidates.items) h.before h.behind (λ l. omega (arith, at, from, l))
        (λ l. omega (arith, at, to, some, fits, l)) s.1 in
        let there = (In-map (λ (x : Candidate). x.note.now) (take (length c.candidates.items) (drop c.first all)) n).1
        (s.0, inside, s.2) in
        let e = part_noted all c.candidates.items c.first (length c.candidates.items) h.part
        ∙ noted_part all c.first (length c.candidates.items) in
        (In-map (λ (x : Candidate). x.note.now) c.candidates.items n).0 (subst (In n) (sym e) there)

    -- what a candidate says of a note whose bytes came
    says : (x : Candidate) → In x c.candidates.items → IsAmong x.note.now offset bytes
        → IsTrue x.is_same ↔ IsSaidBy x.note.now (held_in x.note.now offset bytes)
    says x i among = within-In (λ y. IsAmong y.note.now offset bytes
        → IsTrue y.is_same ↔ IsSaidBy y.note.now (held_in y.note.now offset bytes)) c.candidates.items x h.same i among

    -- the bytes of a candidate's note came, up to the end
    came : (x : Candidate) → In x c.candidates.items → nat_le (covered_end x.note.now) c.end ≡ true
        → In x.note.now reference × IsCompared reference x.note.now offset bytes
    came x i t =
        let n = x.note.now in
        let one = of_reference n ((In-map (λ (y : Candidate). y.note.now) c.candidates.items n).1 (x, i, refl)) in
        let to : covered_end n ≤ c.end = leb-true _ _ t in (
          one.0,
          record {
            free = λ d. crowded_not n reference d.1 one.0 one.1 d.0;
            among = record { from = one.2; to = omega (arith, to, h.at) };
          },
        )

    -- where all of them did
    up_to_end : (x : Candidate) → IsAmong x.note.now offset bytes → nat_le (covered_end x.note.now) c.end ≡ true
    up_to_end x among = grind (arith, covered_end, length, le-leb)

    same_are : (n : NoteParts) → In n (noted (filter (is_told_same c.end) c.candidates.items))
        ↔ (In n reference × IsSameIn reference n (Bytes offset bytes))
    unfolding is_told_same
    same_are n =
        let map_in = In-map (λ (x : Candidate). x.note.now) (filter (is_told_same c.end) c.candidates.items) n in (
          λ k.
              let s = map_in.0 k in
              let x = s.0 in
              let f = (In-filter (is_told_same c.end) c.candidates.items x).0 s.1 in
              let p = and_parts x.is_same (nat_le (covered_end x.note.now) c.end) f.1 in
              let q = came x f.0 p.1 in
              subst (λ m. In m reference × IsSameIn reference m (Bytes offset bytes)) (sym s.2)
              (q.0, (q.1, (says x f.0 q.1.among).0 p.0)),
          λ k.
              let s = its_candidate n k.0 k.1.0 in
              let x = s.0 in
              let compared = subst (λ m. IsCompared reference m offset bytes) s.2 k.1.0 in
              let said = subst (λ m. IsSaidBy m (held_in m offset bytes)) s.2 k.1.1 in
              map_in.1 (
                x,
                (In-filter (is_told_same c.end) c.candidates.items x).1 (
                  s.1,
                  and_from x.is_same (nat_le (covered_end x.note.now) c.end)
                      ((says x s.1 compared.among).1 said) (up_to_end x compared.among),
                ),
                s.2,
              ),
        )

    module _ (runs : List Run) (covers : Covers runs (noted (filter (is_told_same c.end) c.candidates.items))) where
      -- a byte of a note lies in the runs where it shares one with a note that is the same
      shares : (n : NoteParts) → IsTrue (is_met runs n)
          ↔ ((m : NoteParts) × (In m reference × IsSameIn reference m (Bytes offset bytes)) × SharesHeldByte m n)
      shares n =
          let met = met_shares runs (noted (filter (is_told_same c.end) c.candidates.items)) n covers in (
            λ t. let s = met.0 t in (s.0, (same_are s.0).0 s.1, s.2),
            λ s. met.1 (s.0, (same_are s.0).1 s.1, s.2),
          )

      differing_are : (n : NoteParts) → In n (noted (filter (is_told_differing c.end runs) c.candidates.items))
          ↔ (In n reference × DiffersIn reference n (Bytes offset bytes))
      unfolding is_told_differing
      differing_are n =
          let map_in = In-map (λ (x : Candidate). x.note.now)
          (filter (is_told_differing c.end runs) c.candidates.items) n
          in (
            λ k.
                let s = map_in.0 k in
                let x = s.0 in
                let f = (In-filter (is_told_differing c.end runs) c.candidates.items x).0 s.1 in
                let p = and_parts (not x.is_same && nat_le (covered_end x.note.now) c.end)
                (not (is_met runs x.note.now)) f.1
                in
                let r = and_parts (not x.is_same) (nat_le (covered_end x.note.now) c.end) p.0 in
                let q = came x f.0 r.1 in
                let others : ¬ IsSaidBy x.note.now (held_in x.note.now offset bytes) = λ said.
                not-true-false x.is_same r.0 ((says x f.0 q.1.among).1 said) in
                let apart : (m : NoteParts) → In m reference → IsSameIn reference m (Bytes offset bytes)
                → ¬ SharesHeldByte m x.note.now = λ m i same share.
                not-true-false (is_met runs x.note.now) p.1 ((shares x.note.now).1 (m, (i, same), share)) in
                subst (λ m. In m reference × DiffersIn reference m (Bytes offset bytes)) (sym s.2)
                (q.0, (q.1, others, apart)),
            λ k.
                let s = its_candidate n k.0 k.1.0 in
                let x = s.0 in
                let differs = subst (λ m. DiffersIn reference m (Bytes offset bytes)) s.2 k.1 in
                map_in.1 (
                  x,
                  (In-filter (is_told_differing c.end runs) c.candidates.items x).1 (
                    s.1,
                    and_from (not x.is_same && nat_le (covered_end x.note.now) c.end) (not (is_met runs x.note.now))
                        (and_from (not x.is_same) (nat_le (covered_end x.note.now) c.end)
                        (not_true x.is_same (λ t. differs.1 ((says x s.1 differs.0.among).0 t)))
                        (up_to_end x differs.0.among)) (not_true (is_met runs x.note.now) (λ t.
                        let v = (shares x.note.now).0 t in differs.2 v.0 v.1.0 v.1.1 v.2)),
                  ),
                  s.2,
                ),
          )

    -- the notes that are the same and those that differ are told
    pub tells_bytes : (told : Told) (runs : List Run)
        → told.same.items ≡ notes_of (filter (is_told_same c.end) c.candidates.items)
        → told.differing.items ≡ notes_of (filter (is_told_differing c.end runs) c.candidates.items)
        → Covers runs (notes_at told.same.items) → TellsOf reference (Bytes offset bytes) told
    tells_bytes told runs same differing covers =
        let e = ap notes_at same ∙ notes_noted (filter (is_told_same c.end) c.candidates.items) in
        let d = ap notes_at differing ∙ notes_noted (filter (is_told_differing c.end runs) c.candidates.items) in
        let held = subst (Covers runs) e covers in record {
          same = subst (AreThose reference (λ n. IsSameIn reference n (Bytes offset bytes))) (sym e) (record {
            rising = rising-chosen note_cmp (λ (x : Candidate). x.note.now)
                (is_told_same c.end) c.candidates.items rise;
            members = same_are;
          });
          differing = subst (AreThose reference (λ n. DiffersIn reference n (Bytes offset bytes))) (sym d) (record {
            rising = rising-chosen note_cmp (λ (x : Candidate). x.note.now) (is_told_differing c.end runs)
                c.candidates.items rise;
            members = differing_are runs held;
          });
        }
