-- All packets of a file beside the bytes of one source.
use Rattle.mxf_views.proofs.Common.{◌≡◌, ◌≢◌, ◌↔◌, ◌+◌, ◌<◌, ◌≤◌, ◌∙◌, ℕ, true, List, [], ◌∷◌, length, refl, ap}
use Rattle.mxf_views.proofs.Common.{subst, inl, inr, arith, cond, cases_lt, AreBytes, IsCovered, IsNote, covered_end}
use Rattle.mxf_views.proofs.Common.{end_of, greatest_end, NoteParts, notes_in, stop_in, In, all-In, Contains-from_In}
use Rattle.mxf_views.proofs.Common.{AreApart, IsClear, clear_notes, AreMaximal, LiesIn, same_content, In-clear_notes}
use Rattle.mxf_views.proofs.Common.{IsContent-clear_notes, AreApart-clear_notes}
use Rattle.mxf_klv.specs.declared.piece.Stop.TheVariants.{End}
use Rattle.mxf_catalogue.specs.declared.run.Run.{Run}
use Rattle.mxf_verify.specs.VerificationLaws.{IsWholeReference, SaysWhole}
use Rattle.mxf_verify.specs.Verifications.{AreRunsOf, IsCountOf, IsVerification, VerificationParts}
use Rattle.mxf_verify.specs.Verifying.{IsByteOf, IsDiffering, IsHeldBy, IsSameIn, IsVerified, Source, Bytes}
use Rattle.mxf_verify.proofs.ComparingLaws.{holds_first}
use Rattle.mxf_verify.proofs.VerificationLaws.{clear_one, held_so}
use Rattle.mxf_verify.proofs.WholePackets.{AreNotesLaid, laid_end, laid_end_each, laid_end_within, read_all, read_said}

-- a clear note covers what it spans
whole_covers : (reference : List NoteParts) (n : NoteParts) → IsClear n reference → covered_end n ≡ end_of n
whole_covers reference n c = ap (λ b. cond b (end_of n) (n.offset + 16 + n.width)) c.whole

-- notes that stand apart without a gap are laid one after another
laid_from : (at : ℕ) (ns : List NoteParts) → AreApart at ns → ((n : NoteParts) → In n ns → n.whole ≡ true)
    → ((n : NoteParts) (x : ℕ) → In n ns → at ≤ x → x < end_of n → (m : NoteParts) × In m ns × IsCovered m x)
    → AreNotesLaid at ns
laid_from at [] apart whole held = tt
laid_from at (n ∷ ns) apart whole held = (
  first,
  whole n (inl refl),
  laid_from (end_of n) ns apart.1 (λ m i. whole m (inr i)) later,
)
  where
    above : (low : ℕ) (ms : List NoteParts) (m : NoteParts) → AreApart low ms → In m ms → low ≤ m.offset
    above low [] m a i = absurd i
    above low (x ∷ ms) m a (inl e) =
        let same : m.offset ≡ x.offset = ap (λ (y : NoteParts). y.offset) e in let low_x : low ≤ x.offset = a.0 in
        omega arith
    above low (x ∷ ms) m a (inr i) =
        let high = above (end_of x) ms m a.1 i in let low_x : low ≤ x.offset = a.0 in omega arith

    first : n.offset ≡ at
    first =
        let low : at ≤ n.offset = apart.0 in
        let h = held n at (inl refl) (omega arith) (omega arith) in
        let begins : h.0.offset ≤ at = h.2.from in
        elim h.1 [
          | inl e ↦
              let same : h.0.offset ≡ n.offset = ap (λ (y : NoteParts). y.offset) e in omega arith
          | inr i ↦ let high = above (end_of n) ns h.0 apart.1 i in absurd (omega arith)
        ]

    end_covered : (m : NoteParts) (x : ℕ) → m.whole ≡ true → IsCovered m x → x < end_of m
    end_covered m x w c =
        let before : x + 1 ≤ covered_end m = c.before in
        let whole_end : covered_end m ≡ end_of m = ap (λ b. cond b (end_of m) (m.offset + 16 + m.width)) w in
        omega arith

    later : (m : NoteParts) (x : ℕ) → In m ns → end_of n ≤ x → x < end_of m → (k : NoteParts) × In k ns × IsCovered k x
    later m x i from to =
        let low : at ≤ n.offset = apart.0 in
        let h = held m x (inr i) (omega arith) to in
        elim h.1 [
          | inl e ↦
              let c : IsCovered n x = subst (λ y. IsCovered y x) e h.2 in
              let less = end_covered n x (whole n (inl refl)) c in absurd (omega arith)
          | inr j ↦ (h.0, j, h.2)
        ]

-- all packets of a file are laid from its first byte on
reference_laid : (reference : List NoteParts) → IsWholeReference reference → AreNotesLaid 0 reference
reference_laid reference is =
    laid_from 0 reference (subst (AreApart 0) all_clear (AreApart-clear_notes reference is.catalogue.content))
    (λ n i. (is.clear n i).whole) (λ n x i from to. is.no_gap n x i to)
  where
    all_clear : clear_notes reference ≡ reference
    all_clear = same_content (clear_notes reference) reference
        (IsContent-clear_notes reference is.catalogue.content) is.catalogue.content
        (λ n. (λ h. ((In-clear_notes n reference).0 h).held, λ i. (In-clear_notes n reference).1 (is.clear n i)))

-- ---- what is said where everything is the same

-- of none there is none
pub none_of : (reference : List NoteParts) (P : NoteParts → Type 0) (count : ℕ) → IsCountOf reference P count
    → count ≡ 0 → (n : NoteParts) → In n reference → ¬ P n
none_of reference P count is e n i p =
    let (j, there, same) = Contains-from_In n is.notes ((is.those.members n).1 (i, p)) in
    let counted = is.count_is in omega (arith, there, counted, e)

pub count_none : (reference : List NoteParts) (P : NoteParts → Type 0) (count : ℕ) → IsCountOf reference P count
    → ((n : NoteParts) → In n reference → ¬ P n) → count ≡ 0
count_none reference P count is none =
    is.count_is ∙ empty is.notes (λ n k. let m = (is.those.members n).0 k in none n m.0 m.1)
  where
    empty : (ns : List NoteParts) → ((n : NoteParts) → In n ns → ⊥) → length ns ≡ 0
    empty [] none = refl
    empty (n ∷ ns) none = absurd (none n (inl refl))

-- runs of no offset are none
pub none_runs : (runs : List Run) → AreMaximal 0 runs → ((at : ℕ) → LiesIn runs at → ⊥) → runs ≡ []
none_runs [] maximal none = refl
none_runs (r ∷ runs) maximal none =
    let order : r.start < r.end = maximal.1 in
    absurd (none r.start (r, inl refl, record { from = omega arith; before = omega arith }))

pub no_runs : (P : ℕ → Type 0) (runs : List Run) → AreRunsOf P runs → runs ≡ [] → (at : ℕ) → ¬ P at
no_runs P runs are e at p =
    let h : LiesIn [] at = subst (λ l. LiesIn l at) e ((are.offsets at).1 p) in h.1

only_source : (s : Source) (bytes : List ℕ) → In s (Bytes 0 bytes ∷ []) → s ≡ Bytes 0 bytes
only_source s bytes (inl e) = e
only_source s bytes (inr z) = absurd z

module _ (reference : List NoteParts) (bytes : List ℕ) (v : VerificationParts) (is : IsWholeReference reference)
    (told : IsVerification reference (Bytes 0 bytes ∷ []) v) where
  module _ (says : SaysWhole v) where
    -- each note is the same there
    each_same : (n : NoteParts) → In n reference → IsSameIn reference n (Bytes 0 bytes)
    each_same n i =
        let own = holds_first n in
        let here : IsCovered n n.offset = record { from = omega arith; before = omega arith } in
        elim ((held_so reference (Bytes 0 bytes ∷ []) v told n.offset).0
        ((told.held.offsets n.offset).1 (n, i, here))) [
          | inl k ↦
              let b = (told.verified.offsets n.offset).0 k in
              let m = b.0 in
              let same = clear_one reference m n is.clear b.1 i (n.offset, b.3, here) in
              let source = only_source b.2.0 bytes b.2.1 in
              subst (λ x. IsSameIn reference x (Bytes 0 bytes)) same (subst (IsSameIn reference m) source b.2.2)
          | inr f ↦ elim f [
            | inl k ↦
                let b = (told.altered.offsets n.offset).0 k in
                absurd (none_of reference (IsDiffering reference
                (Bytes 0 bytes ∷ [])) v.damaged told.damaged says.differs b.0 b.1 b.2)
            | inr k ↦ let h : LiesIn [] n.offset = subst (λ l. LiesIn l n.offset) says.verified k in absurd h.1
          ]
        ]

    -- so the packets of the bytes are those
    pub read_whole : length bytes ≤ greatest_end → (notes_in 0 bytes ≡ reference) × (stop_in 0 bytes ≡ End)
    read_whole within =
        let laid = reference_laid reference is in
        let low : laid_end 0 reference ≤ length bytes = laid_end_within 0 (length bytes) reference (omega arith) ends in
        let high : length bytes ≤ laid_end 0 reference = no_more laid in
        read_said bytes 0 reference laid (λ n i. (all-In IsNote reference n is.catalogue.members i, (each_same n i).1))
        (omega arith) within
      where
        ends : (n : NoteParts) → In n reference → end_of n ≤ length bytes
        ends n i =
            let to : covered_end n ≤ 0 + length bytes = (each_same n i).0.among.to in
            let whole = whole_covers reference n (is.clear n i) in omega arith

        no_more : AreNotesLaid 0 reference → length bytes ≤ laid_end 0 reference
        no_more laid = elim (cases_lt (laid_end 0 reference) (length bytes)) [
          | inr all ↦ all
          | inl more ↦ (
              let at = laid_end 0 reference in
              absurd (no_runs _ v.unknown told.unknown says.known at (
                (Bytes 0 bytes, inl refl, (omega arith, omega arith)),
                λ h.
                    let to = laid_end_each 0 reference h.0 laid h.1 in
                    let before : at + 1 ≤ covered_end h.0 = h.2.before in
                    let whole = whole_covers reference h.0 (is.clear h.0 h.1) in
                    omega arith,
              )))
        ]

  -- ---- and where they are, everything is the same
  module _ (are : AreBytes bytes) (notes : notes_in 0 bytes ≡ reference) (stop : stop_in 0 bytes ≡ End) where
    same_there : (n : NoteParts) → In n reference → IsSameIn reference n (Bytes 0 bytes)
    same_there n i = grind (arith, read_all)

    none_differs : (n : NoteParts) → In n reference → ¬ IsDiffering reference (Bytes 0 bytes ∷ []) n
    none_differs n i d = grind (arith, only_source, same_there)

    verified_there : (n : NoteParts) → In n reference → IsVerified reference (Bytes 0 bytes ∷ []) n
    verified_there n i = (Bytes 0 bytes, inl refl, same_there n i)

    first_there : (ns : List NoteParts) → ns ≢ [] → (n : NoteParts) × In n ns
    first_there [] some = absurd (some refl)
    first_there (n ∷ ns) some = (n, inl refl)

    pub says_whole : SaysWhole v
    says_whole = record {
      some = some_packets;
      differs = count_none reference (IsDiffering reference (Bytes 0 bytes ∷ [])) v.damaged told.damaged none_differs;
      verified = none_runs v.unverified told.unverified.maximal (λ at h. let b = (told.unverified.offsets at).0 h in
          b.1 (b.0.0, b.0.1, verified_there b.0.0 b.0.1, b.0.2));
      known = none_runs v.unknown told.unknown.maximal (λ at h. unknown at ((told.unknown.offsets at).0 h));
    }
      where
        some_packets : 0 < v.packets
        some_packets =
            let one = first_there reference is.some in
            let count = told.packets.count_is in
            let some = Contains-from_In one.0 told.packets.notes
            ((told.packets.those.members one.0).1 (one.1, verified_there one.0 one.1)) in
            let there = some.1 in omega arith

        unknown : (at : ℕ) → ((s : Source) × In s (Bytes 0 bytes ∷ []) × IsByteOf s at) × ¬ IsHeldBy reference at → ⊥
        unknown at h =
            let s = only_source h.0.0 bytes h.0.1 in
            let b : IsByteOf (Bytes 0 bytes) at = subst (λ x. IsByteOf x at) s h.0.2 in
            let to : at < 0 + length bytes = b.1 in
            let c = (read_all bytes are stop).1 at (omega arith) in
            h.1 (c.0, subst (In c.0) notes c.1, c.2)

pub whole_says : (reference : List NoteParts) (bytes : List ℕ) (v : VerificationParts) → IsWholeReference reference
    → AreBytes bytes → length bytes ≤ greatest_end → IsVerification reference (Bytes 0 bytes ∷ []) v
    → SaysWhole v ↔ ((notes_in 0 bytes ≡ reference) × (stop_in 0 bytes ≡ End))
whole_says reference bytes v is are within told = (
  λ says. read_whole reference bytes v is told says within,
  λ h. says_whole reference bytes v is told are h.0 h.1,
)
