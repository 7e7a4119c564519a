-- The parts so far, and those that are left; the history that gathers parts, and what it leaves.
use Rattle.mxf_views.proofs.Common.{◌≡◌, ℕ, zero, suc, ◌+◌, ◌-◌, ◌<◌, ◌^◌, ◌⊎◌, ◌↔◌, List, [], ◌∷◌, ◌++◌, length, take}
use Rattle.mxf_views.proofs.Common.{Option, Some, refl, sym, ap, subst, ◌∙◌, arith, inl, inr, append_assoc, append-nil}
use Rattle.mxf_views.proofs.Common.{length-append, slice_get, AllByRecursion, take_at, NoteParts, notes_in, In}
use Rattle.mxf_views.proofs.Common.{IsFileOf, file_bytes, AreReduced, IsCatalogue, reduced_union, History, New, Add}
use Rattle.mxf_views.proofs.Common.{Read, Absorb, Cut, Hands, content, written_file, In-content, IsTheRun, all_push}
use Rattle.mxf_catalogue.specs.History.{Join, Of}
use Rattle.mxf_catalogue.proofs.FileLaws.{one_content}
use Rattle.mxf_catalogue.proofs.HistoryLaws.{AreReduced-content}
use Rattle.mxf_views.proofs.RunLaws.{IsTheRun-from_set}
use Rattle.mxf_read.specs.declared.gathering.part.Part.{Part}
use Rattle.mxf_read.specs.declared.gathering.part.Part.TheVariants.{Piece, Range, Saved}
use Rattle.mxf_read.specs.declared.gathering.report.PieceReport.{PieceReport}
use Rattle.mxf_read.specs.declared.gathering.fault.PartFault.{PartFault}
use Rattle.mxf_read.specs.declared.gathering.fault.PartFault.TheVariants.{OutOfMemory}
use Rattle.mxf_read.specs.Levels.{Adds, HoldsAll, merged_with}
use Rattle.mxf_read.specs.Ranges.{range_notes}
use Rattle.mxf_read.specs.Gathering.{AllTell, Gathers, HandedBy, HandsNote, HasFault, IsGatherFault, IsGood, IsLeftBy}
use Rattle.mxf_read.specs.Gathering.{IsPieceOf, TakesPart, Tells, bytes_of, piece_of, reports_from, reports_in}
use Rattle.mxf_read.specs.Gathering.{reports_of}
use Rattle.mxf_read.proofs.Taking.{slice_get_at}

all_at : {K : Type 0} (P : K → Type 0) (xs ys : List K) (x : K) → AllByRecursion P (xs ++ x ∷ ys) → P x
all_at P [] ys x a = a.0
all_at P (z ∷ xs) ys x a = all_at P xs ys x a.1

all_take : {K : Type 0} (P : K → Type 0) (n : ℕ) (xs : List K) → AllByRecursion P xs → AllByRecursion P (take n xs)
all_take P zero xs a = tt
all_take P (suc n) [] a = tt
all_take P (suc n) (x ∷ xs) a = (a.0, all_take P n xs a.1)

some_at : {X : Type 0} (xs : List X) (n : ℕ) → n < length xs → (x : X) × (slice_get xs n ≡ Some x)
some_at [] n l = absurd (omega arith)
some_at (x ∷ xs) zero l = (x, refl)
some_at (x ∷ xs) (suc n) l = some_at xs n (omega arith)

-- So many parts were passed.
pub record IsPassed {X : Type 0} (all : List X) (number : ℕ) (rest : List X) : Type 0 where
  pub done : List X
  pub whole : all ≡ done ++ rest
  pub counted : length done ≡ number

abbrev pub passed_none : {X : Type 0} (all : List X) → IsPassed all 0 all
passed_none all = record { done = []; whole = refl; counted = refl }

abbrev pub passed_one : {X : Type 0} (all rest more : List X) (x : X) (number : ℕ) → IsPassed all number rest
    → rest ≡ x ∷ more → IsPassed all (number + 1) more
passed_one all rest more x number p is = record {
  done = p.done ++ x ∷ [];
  whole = p.whole ∙ ap (λ (t : List _). p.done ++ t) is ∙ sym (append_assoc p.done (x ∷ []) more);
  counted = length-append p.done (x ∷ []) ∙ ap (λ (k : ℕ). k + 1) p.counted;
}

pub passed_within : {X : Type 0} (all rest more : List X) (x : X) (number : ℕ) → IsPassed all number rest
    → rest ≡ x ∷ more → number < length all
passed_within all rest more x number p is =
    let len = ap length (p.whole ∙ ap (λ (t : List _). p.done ++ t) is) in
    let counted = p.counted in
    omega (arith, len, counted, length-append p.done (x ∷ more))

pub passed_all : {X : Type 0} (all rest : List X) (number : ℕ) → IsPassed all number rest → length rest ≡ 0
    → length all ≡ number
passed_all all rest number p none =
    let len = ap length p.whole in
    let counted = p.counted in
    omega (arith, len, counted, none, length-append p.done rest)

module _ {R : Type 0} (left : R → Option (List ℕ)) where
  handed_both : (ps qs : List (Part R)) (n : NoteParts)
      → HandedBy left (ps ++ qs) n ↔ HandedBy left ps n ⊎ HandedBy left qs n
  handed_both [] qs n = (inr, λ h. elim h [ inl k ↦ absurd k | inr k ↦ k ])
  handed_both (p ∷ ps) qs n =
      let more = handed_both ps qs n in (
        λ h. elim h [ inl k ↦ inl (inl k) | inr k ↦ elim (more.0 k) [ inl a ↦ inl (inr a) | inr b ↦ inr b ] ],
        λ h. elim h [ inl k ↦ elim k [ inl a ↦ inl a | inr b ↦ inr (more.1 (inl b)) ] | inr k ↦ inr (more.1 (inr k)) ],
      )

  -- a part that is a piece hands the notes of that
  handed_of : (p : Part R) (offset : ℕ) (bytes : List ℕ) (n : NoteParts) → IsPieceOf left p offset bytes
      → In n (notes_in offset bytes) ↔ HandsNote left p n
  handed_of (Piece at from) offset bytes n (o, b) =
      let same : notes_in offset bytes ≡ notes_in at (piece_of left from) = rw (o, b) refl in
      (subst (In n) same, subst (In n) (sym same))
  handed_of (Range at from) offset bytes n (o, b) =
      let same : notes_in offset bytes ≡ range_notes at (piece_of left from) = rw (o, b) refl in
      (subst (In n) same, subst (In n) (sym same))
  handed_of (Saved from) offset bytes n is = absurd is

  -- a history that gathers parts is handed what they hand
  hands_handed : (h : History) (parts : List (Part R)) (n : NoteParts) → Gathers left h parts
      → Hands h n ↔ HandedBy left parts n
  hands_handed New parts n g = subst (λ (ps : List (Part R)). ⊥ ↔ HandedBy left ps n) (sym g) (λ k. k, λ k. k)
  hands_handed (Add h m) parts n g = absurd g
  hands_handed (Join h k) parts n (ps, qs, e, g, f) =
      let a = hands_handed h ps n g in
      let b = hands_handed k qs n f in
      let both = handed_both ps qs n in
      subst (λ (rs : List (Part R)). Hands (Join h k) n ↔ HandedBy left rs n) (sym e) (
        λ i. both.1 (elim i [ inl j ↦ inl (a.0 j) | inr j ↦ inr (b.0 j) ]),
        λ i. elim (both.0 i) [ inl j ↦ inl (a.1 j) | inr j ↦ inr (b.1 j) ],
      )
  hands_handed (Read bytes notes is) parts n (from, e, s) =
      let file = subst (λ (bs : List ℕ). IsFileOf bs notes) s is in
      subst (λ (ps : List (Part R)). In n notes ↔ HandedBy left ps n) (sym e) (
        λ i. inl (notes, file, i),
        λ i. elim i [
          | inl (others, f, j) ↦ subst (In n) (one_content (bytes_of left from) others notes f file) j
          | inr j ↦ absurd j
        ],
      )
  hands_handed (Absorb h offset bytes) parts n (ps, piece, e, is, g) =
      let a = hands_handed h ps n g in
      let both = handed_both ps (piece ∷ []) n in
      let same = handed_of piece offset bytes n is in
      subst (λ (rs : List (Part R)). Hands (Absorb h offset bytes) n ↔ HandedBy left rs n) (sym e) (
        λ i. both.1 (elim i [ inl j ↦ inl (a.0 j) | inr j ↦ inr (inl (same.0 j)) ]),
        λ i. elim (both.0 i) [ inl j ↦ inl (a.1 j) | inr j ↦ elim j [ inl k ↦ inr (same.1 k) | inr k ↦ absurd k ] ],
      )
  hands_handed (Cut h offset bytes noted) parts n g = absurd g
  hands_handed (Of h) parts n g = hands_handed h parts n g

  -- what two histories leave is left by one that joins them
  joined : (ps qs : List (Part R)) (a b : List NoteParts) → IsLeftBy left ps a → IsLeftBy left qs b
      → IsLeftBy left (ps ++ qs) (reduced_union a b)
  joined ps qs a b (h, g, e) (k, f, d) = (
    Join h k,
    (ps, qs, refl, g, f),
    ap (λ (t : List NoteParts). reduced_union t b) e ∙ ap (reduced_union (content h)) d,
  )

  -- Each of the contents is left by some of the parts, those that follow on the ones of the content before.
  abbrev pub Waits : List (List NoteParts) → List (Part R) → Type 0
  Waits [] parts = parts ≡ []
  Waits (notes ∷ levels) parts =
      (front : List (Part R)) × (back : List (Part R)) × (parts ≡ front ++ back) × IsLeftBy left front notes
      × Waits levels back

  waits_split : (front back : List (List NoteParts)) (parts : List (Part R)) → Waits (front ++ back) parts
      → (ps : List (Part R)) × (qs : List (Part R)) × (parts ≡ ps ++ qs) × Waits front ps × Waits back qs
  waits_split [] back parts w = ([], parts, refl, refl, w)
  waits_split (notes ∷ front) back parts (ps, qs, e, h, w) =
      let (rs, ts, f, v, u) = waits_split front back qs w in (
        ps ++ rs,
        ts,
        e ∙ ap (λ (t : List (Part R)). ps ++ t) f ∙ sym (append_assoc ps rs ts),
        (ps, rs, refl, h, v),
        u,
      )

  waits_both : (front back : List (List NoteParts)) (ps qs : List (Part R)) → Waits front ps → Waits back qs
      → Waits (front ++ back) (ps ++ qs)
  waits_both [] back ps qs e w = subst (λ (t : List (Part R)). Waits back (t ++ qs)) (sym e) w
  waits_both (notes ∷ front) back ps qs (rs, ts, e, h, v) w = (
    rs,
    ts ++ qs,
    ap (λ (t : List (Part R)). t ++ qs) e ∙ append_assoc rs ts qs,
    h,
    waits_both front back ts qs v w,
  )

  merged_left : (back : List (List NoteParts)) (notes : List NoteParts) (ps qs : List (Part R)) → Waits back ps
      → IsLeftBy left qs notes → IsLeftBy left (ps ++ qs) (merged_with back notes)
  merged_left [] notes ps qs e i = subst (λ (t : List (Part R)). IsLeftBy left (t ++ qs) notes) (sym e) i
  merged_left (level ∷ back) notes ps qs (rs, ts, e, h, w) i =
      let all : ps ++ qs ≡ rs ++ (ts ++ qs) = ap (λ (t : List (Part R)). t ++ qs) e ∙ append_assoc rs ts qs in
      subst (λ (t : List (Part R)). IsLeftBy left t (reduced_union level (merged_with back notes))) (sym all)
      (joined rs (ts ++ qs) level (merged_with back notes) h (merged_left back notes ts qs w i))

  waits_added : (old new : List (List NoteParts)) (notes : List NoteParts) (ps qs : List (Part R)) → Waits old ps
      → Adds old notes new → IsLeftBy left qs notes → Waits new (ps ++ qs)
  waits_added old new notes ps qs w (front, back, e, d) i =
      let (rs, ts, f, v, u) = waits_split front back ps (subst (λ (l : List (List NoteParts)). Waits l ps) e w) in
      let last : Waits (merged_with back notes ∷ []) (ts ++ qs) =
      (ts ++ qs, [], sym (append-nil (ts ++ qs)), merged_left back notes ts qs u i, refl) in
      let all : rs ++ (ts ++ qs) ≡ ps ++ qs = sym (append_assoc rs ts qs)
      ∙ ap (λ (t : List (Part R)). t ++ qs) (sym f) in
      subst (λ (l : List (List NoteParts)). Waits l (ps ++ qs)) (sym d)
      (subst (Waits (front ++ merged_with back notes ∷ [])) all
      (waits_both front (merged_with back notes ∷ []) rs (ts ++ qs) v last))

  -- what parts leave is what the run holds
  run_left : (parts : List (Part R)) (views : List NoteParts) → IsLeftBy left parts views → IsCatalogue views
      → length views < 2 ^ 64 → IsTheRun (HandedBy left parts) views
  run_left parts views (h, g, e) c fits =
      let reduced : AreReduced views = subst AreReduced (sym e) (AreReduced-content h) in
      IsTheRun-from_set (HandedBy left parts) views (λ n.
      let held = In-content h n in
      let hands : (m : NoteParts) → Hands h m ↔ HandedBy left parts m = λ m. hands_handed h parts m g in (
        λ i.
            let l = held.0 (subst (In n) e i) in
            ((hands n).0 l.0, λ y p. l.1 y ((hands y).1 p)),
        λ l. subst (In n) (sym e) (held.1 ((hands n).1 l.0, λ y p. l.1 y ((hands y).0 p))),
      )) (_, written_file views c reduced fits (file_bytes views) refl)

  pub reports_push : (number : ℕ) (ps : List (Part R)) (p : Part R) (last : ℕ) → last ≡ number + length ps
      → reports_from left number (ps ++ p ∷ []) ≡ reports_from left number ps ++ reports_in left last p
  reports_push number [] p last is =
      append-nil (reports_in left number p) ∙ ap (λ (n : ℕ). reports_in left n p) (omega (arith, is))
  reports_push number (q ∷ ps) p last is = ap (λ (t : List PieceReport). reports_in left number q ++ t)
      (reports_push (number + 1) ps p last (omega (arith, is)))
      ∙ sym (append_assoc (reports_in left number q) (reports_from left (number + 1) ps) (reports_in left last p))

  -- What was passed is gathered.
  pub record IsGathered (all : List (Part R)) (number : ℕ) (rest : List (Part R)) (levels : List (List NoteParts))
      (reports : List PieceReport) : Type 0 where
    pub passed : IsPassed all number rest
    pub waits : Waits levels passed.done
    pub reported : reports ≡ reports_of left passed.done
    pub good : AllByRecursion (IsGood left) passed.done

  pub gathered_none : (all : List (Part R)) → IsGathered all 0 all [] []
  gathered_none all = record { passed = passed_none all; waits = refl; reported = refl; good = tt }

  pub gathered_one : (all rest more : List (Part R)) (p : Part R) (number : ℕ) (levels new : List (List NoteParts))
      (reports added : List PieceReport) → IsGathered all number rest levels reports → rest ≡ p ∷ more
      → TakesPart left number p levels new reports added → IsGathered all (number + 1) more new added
  gathered_one all rest more p number levels new reports added g is t = record {
    passed = passed_one all rest more p number g.passed is;
    waits = waits_added levels new t.notes g.passed.done (p ∷ []) g.waits t.added t.left_by;
    reported = t.reported ∙ ap (λ (l : List PieceReport). l ++ reports_in left number p) g.reported
        ∙ sym (reports_push 0 g.passed.done p number (omega (arith, g.passed.counted)));
    good = all_push (IsGood left) g.passed.done p g.good t.good;
  }

  -- all were passed
  all_done : (all rest : List (Part R)) (number : ℕ) (levels : List (List NoteParts)) (reports : List PieceReport)
      (g : IsGathered all number rest levels reports) → length rest ≡ 0 → g.passed.done ≡ all
  all_done all [] number levels reports g none = sym (g.passed.whole ∙ append-nil g.passed.done)
  all_done all (p ∷ rest) number levels reports g none = absurd (omega arith)

  pub gathered_reports : (all rest : List (Part R)) (number : ℕ) (levels : List (List NoteParts))
      (reports : List PieceReport) → IsGathered all number rest levels reports → length rest ≡ 0
      → reports ≡ reports_of left all
  gathered_reports all rest number levels reports g none =
      g.reported ∙ ap (reports_of left) (all_done all rest number levels reports g none)

  pub gathered_good : (all rest : List (Part R)) (number : ℕ) (levels : List (List NoteParts))
      (reports : List PieceReport) → IsGathered all number rest levels reports → length rest ≡ 0
      → AllByRecursion (IsGood left) all
  gathered_good all rest number levels reports g none =
      subst (AllByRecursion (IsGood left)) (all_done all rest number levels reports g none) g.good

  pub gathered_left : (all rest : List (Part R)) (number : ℕ) (levels : List (List NoteParts))
      (reports : List PieceReport) (views : List NoteParts) → IsGathered all number rest levels reports
      → length rest ≡ 0 → HoldsAll levels views → IsLeftBy left all views
  gathered_left all rest number levels reports views g none h =
      let is = all_done all rest number levels reports g none in
      let whole : IsLeftBy left g.passed.done (merged_with levels []) =
      subst (λ (ps : List (Part R)). IsLeftBy left ps (merged_with levels [])) (append-nil g.passed.done)
      (merged_left levels [] g.passed.done [] g.waits (New, refl, refl)) in
      subst (λ (ps : List (Part R)). IsLeftBy left ps views) is (subst (IsLeftBy left g.passed.done)
      (sym h.merged) whole)

  pub gathered_run : (all rest : List (Part R)) (number : ℕ) (levels : List (List NoteParts))
      (reports : List PieceReport) (views : List NoteParts) → IsGathered all number rest levels reports
      → length rest ≡ 0 → HoldsAll levels views → IsTheRun (HandedBy left all) views
  gathered_run all rest number levels reports views g none h =
      run_left all views (gathered_left all rest number levels reports views g none h) h.catalogue h.fits

  -- there was no part
  pub nothing_left : (all rest : List (Part R)) (number : ℕ) (views : List NoteParts) → IsPassed all number rest
      → length rest ≡ 0 → number ≡ 0 → views ≡ [] → IsLeftBy left all views
  nothing_left [] rest number views p none zero-parts is = (New, refl, is)
  nothing_left (q ∷ all) rest number views p none zero-parts is =
      let len = passed_all (q ∷ all) rest number p none in absurd (omega (arith, len, zero-parts))

  pub gathered_nothing : (all rest : List (Part R)) (number : ℕ) (views : List NoteParts) → IsPassed all number rest
      → length rest ≡ 0 → number ≡ 0 → views ≡ [] → IsTheRun (HandedBy left all) views
  gathered_nothing all rest number views p none zero-parts is =
      run_left all views (nothing_left all rest number views p none zero-parts is)
      (subst IsCatalogue (sym is) (record { content = tt; members = tt }))
      (subst (λ (v : List NoteParts). length v < 2 ^ 64) (sym is) (omega arith))

  -- a part was passed that is at fault, after others that are good
  pub fault_at : (all rest more : List (Part R)) (p : Part R) (number : ℕ) (fault : PartFault)
      → (passed : IsPassed all number rest) → AllByRecursion (IsGood left) passed.done → rest ≡ p ∷ more
      → HasFault left fault p → IsGatherFault left all (record { part = number; fault = fault })
  fault_at all rest more p number fault passed good is h =
      let whole : all ≡ passed.done ++ (p ∷ more) =
      passed.whole ∙ ap (λ (t : List (Part R)). passed.done ++ t) is in
      let front : take number all ≡ passed.done =
      ap (take number) whole ∙ take_at passed.done (p ∷ more) number passed.counted in
      record {
        at_fault = p;
        numbered = ap (λ (t : List (Part R)). slice_get t number) whole
            ∙ slice_get_at passed.done more p number passed.counted;
        has = h;
        before = subst (AllByRecursion (IsGood left)) (sym front) good;
      }

  -- any part may want memory
  wants : (p : Part R) → HasFault left OutOfMemory p
  wants (Piece offset from) = tt
  wants (Range offset from) = tt
  wants (Saved from) = tt

  pub wants_at_end : (all rest : List (Part R)) (number : ℕ) → (passed : IsPassed all number rest)
      → AllByRecursion (IsGood left) all → length rest ≡ 0 → 0 < number
      → IsGatherFault left all (record { part = number - 1; fault = OutOfMemory })
  wants_at_end all rest number passed good none some =
      let counted = passed_all all rest number passed none in
      let (p, there) = some_at all (number - 1) (omega (arith, counted, some)) in
      record {
        at_fault = p;
        numbered = there;
        has = wants p;
        before = all_take (IsGood left) (number - 1) all good;
      }

  pub told : (all rest more : List (Part R)) (p : Part R) (number : ℕ) → IsPassed all number rest → rest ≡ p ∷ more
      → AllTell left all → Tells left p
  told all rest more p number g is a = all_at (Tells left) g.done more p
      (subst (AllByRecursion (Tells left)) (g.whole ∙ ap (λ (t : List (Part R)). g.done ++ t) is) a)
