-- The parts of a skim so far, and what contents that wait to be merged have.
use Rattle.mxf_views.proofs.Common.{◌≡◌, ℕ, ◌+◌, ◌⊎◌, ◌↔◌, true, List, [], ◌∷◌, ◌++◌, length, Option, refl, sym, ap}
use Rattle.mxf_views.proofs.Common.{subst, ◌∙◌, arith, inl, inr, append-nil, AllByRecursion, NoteParts, AreReduced}
use Rattle.mxf_views.proofs.Common.{IsContent, IsLocated, has_note, head_note, all_push}
use Rattle.mxf_klv.specs.NoteOrder.{note_cmp-IsAntisymmetric, note_total}
use Rattle.mxf_catalogue.specs.Content.{reduced_union-IsUnion}
use Rattle.mxf_catalogue.specs.Reduced.{IsKnown}
use Rattle.mxf_catalogue.specs.ReducedLaws.{In-untold}
use Rattle.mxf_skim.specs.PassedOver.{was_read}
use Rattle.mxf_skim.specs.Preferring.{prefer_read}
use Rattle.mxf_skim.proofs.PreferringLaws.{In-prefer_read, IsContent-prefer_read, read_is_whole}
use Rattle.mxf_read.specs.declared.gathering.part.Part.{Part}
use Rattle.mxf_read.specs.declared.gathering.report.PieceReport.{PieceReport}
use Rattle.mxf_read.specs.Levels.{Adds, merged_with}
use Rattle.mxf_read.specs.Gathering.{IsGood, reports_in, reports_of}
use Rattle.mxf_read.specs.SkimGathering.{HandsSkim, HoldsSkim, IsTheSkim, SkimHandedBy, TakesSkim}
use Rattle.mxf_read.proofs.GatheringLaws.{IsPassed, passed_all, passed_none, passed_one, reports_push}

-- One of the contents has the note.
abbrev pub AnyHas : List (List NoteParts) → NoteParts → Type 0
AnyHas [] n = ⊥
AnyHas (level ∷ levels) n = has_note level n ⊎ AnyHas levels n

any_both : (xs ys : List (List NoteParts)) (n : NoteParts) → AnyHas (xs ++ ys) n ↔ AnyHas xs n ⊎ AnyHas ys n
any_both [] ys n = (inr, λ h. elim h [ inl k ↦ absurd k | inr k ↦ k ])
any_both (x ∷ xs) ys n =
    let more = any_both xs ys n in (
      λ h. elim h [ inl k ↦ inl (inl k) | inr k ↦ elim (more.0 k) [ inl a ↦ inl (inr a) | inr b ↦ inr b ] ],
      λ h. elim h [ inl k ↦ elim k [ inl a ↦ inl a | inr b ↦ inr (more.1 (inl b)) ] | inr k ↦ inr (more.1 (inr k)) ],
    )

-- what is merged has what the contents have, and what is merged into them
merged_has : (levels : List (List NoteParts)) (notes : List NoteParts) (n : NoteParts)
    → has_note (merged_with levels notes) n ↔ AnyHas levels n ⊎ has_note notes n
merged_has [] notes n = (inr, λ h. elim h [ inl k ↦ absurd k | inr k ↦ k ])
merged_has (level ∷ levels) notes n =
    let both = reduced_union-IsUnion level (merged_with levels notes) n in
    let more = merged_has levels notes n in (
      λ h. elim (both.0 h) [
        | inl a ↦ inl (inl a)
        | inr b ↦ elim (more.0 b) [ inl c ↦ inl (inr c) | inr d ↦ inr d ]
      ],
      λ h. both.1 (elim h [
        | inl k ↦ elim k [ inl a ↦ inl a | inr b ↦ inr (more.1 (inl b)) ]
        | inr d ↦ inr (more.1 (inr d))
      ]),
    )

-- contents that one more was added to have what they had, and what it has
added_has : (old new : List (List NoteParts)) (notes : List NoteParts) (n : NoteParts) → Adds old notes new
    → AnyHas new n ↔ AnyHas old n ⊎ has_note notes n
added_has old new notes n (front, back, e, d) =
    let before = any_both front back n in
    let after = any_both front (merged_with back notes ∷ []) n in
    let merged = merged_has back notes n in (
      λ h. elim (after.0 (subst (λ (l : List (List NoteParts)). AnyHas l n) d h)) [
        | inl a ↦ inl (subst (λ (l : List (List NoteParts)). AnyHas l n) (sym e) (before.1 (inl a)))
        | inr k ↦ elim k [
          | inl b ↦ elim (merged.0 b) [
            | inl c ↦ inl (subst (λ (l : List (List NoteParts)). AnyHas l n) (sym e) (before.1 (inr c)))
            | inr f ↦ inr f
          ]
          | inr b ↦ absurd b
        ]
      ],
      λ h. subst (λ (l : List (List NoteParts)). AnyHas l n) (sym d) (after.1 (elim h [
        | inl a ↦ elim (before.0 (subst (λ (l : List (List NoteParts)). AnyHas l n) e a)) [
          | inl b ↦ inl b
          | inr c ↦ inr (inl (merged.1 (inl c)))
        ]
        | inr f ↦ inr (inl (merged.1 (inr f)))
      ])),
    )

-- what is known of two sets
known_both : (P Q S : NoteParts → Type 0) (n : NoteParts) → ((m : NoteParts) → S m ↔ P m ⊎ Q m)
    → IsKnown head_note S n ↔ IsKnown head_note P n ⊎ IsKnown head_note Q n
known_both P Q S n both = (
  λ h. elim h [
    | inl s ↦ elim ((both n).0 s) [ inl p ↦ inl (inl p) | inr q ↦ inr (inl q) ]
    | inr k ↦ elim ((both k.0).0 k.1) [ inl p ↦ inl (inr (k.0, p, k.2)) | inr q ↦ inr (inr (k.0, q, k.2)) ]
  ],
  λ h. elim h [
    | inl k ↦ elim k [ inl p ↦ inl ((both n).1 (inl p)) | inr s ↦ inr (s.0, (both s.0).1 (inl s.1), s.2) ]
    | inr k ↦ elim k [ inl q ↦ inl ((both n).1 (inr q)) | inr s ↦ inr (s.0, (both s.0).1 (inr s.1), s.2) ]
  ],
)

-- ---- what is held of a set

-- a note whose value was read is located wherever it is handed
located_read : (handed : NoteParts → Type 0) (m : NoteParts) → handed m → was_read m ≡ true → IsLocated handed m
located_read handed m there read = (there, λ y p ne tells. read_is_whole y m read tells)

-- the content that prefers what was read, of one that has exactly what is known of the set
pub preferred : (handed : NoteParts → Type 0) (notes : List NoteParts) → IsContent notes → AreReduced notes
    → ((n : NoteParts) → has_note notes n ↔ IsKnown head_note handed n) → IsTheSkim handed (prefer_read notes)
preferred handed notes content reduced has =
    let untold = In-untold note_total note_cmp-IsAntisymmetric head_note (λ x. refl) handed notes reduced has in
    record {
      content = IsContent-prefer_read notes content;
      members = λ n.
          let p = In-prefer_read n notes in (
            λ h.
                let (there, unread) = p.0 h in
                record {
                  located = (untold n).0 there;
                  unread = λ passed m held read same. unread passed (record {
                    other = m;
                    held = (untold m).1 (located_read handed m held read);
                    read = read;
                    same = same;
                  });
                },
            λ h. p.1 (
              (untold n).1 h.located,
              λ passed r. h.unread passed r.other ((untold r.other).0 r.held).0 r.read r.same,
            ),
          );
    }

module _ {R : Type 0} (left : R → Option (List ℕ)) where
  handed_both : (ps qs : List (Part R)) (n : NoteParts)
      → SkimHandedBy left (ps ++ qs) n ↔ SkimHandedBy left ps n ⊎ SkimHandedBy left qs n
  handed_both [] qs n = (inr, λ h. elim h [ inl k ↦ absurd k | inr k ↦ k ])
  handed_both (p ∷ ps) qs n =
      let more = handed_both ps qs n in (
        λ h. elim h [ inl k ↦ inl (inl k) | inr k ↦ elim (more.0 k) [ inl a ↦ inl (inr a) | inr b ↦ inr b ] ],
        λ h. elim h [ inl k ↦ elim k [ inl a ↦ inl a | inr b ↦ inr (more.1 (inl b)) ] | inr k ↦ inr (more.1 (inr k)) ],
      )

  -- What was passed is gathered.
  pub record IsSkimmed (all : List (Part R)) (number : ℕ) (rest : List (Part R)) (levels : List (List NoteParts))
      (reports : List PieceReport) : Type 0 where
    pub passed : IsPassed all number rest
    pub has : (n : NoteParts) → AnyHas levels n ↔ IsKnown head_note (SkimHandedBy left passed.done) n
    pub reported : reports ≡ reports_of left passed.done
    pub good : AllByRecursion (IsGood left) passed.done

  pub skimmed_none : (all : List (Part R)) → IsSkimmed all 0 all [] []
  skimmed_none all = record {
    passed = passed_none all;
    has = λ n. (λ h. absurd h, λ h. elim h [ inl k ↦ k | inr k ↦ k.1 ]);
    reported = refl;
    good = tt;
  }

  pub skimmed_one : (all rest more : List (Part R)) (p : Part R) (number : ℕ) (levels new : List (List NoteParts))
      (reports added : List PieceReport) → IsSkimmed all number rest levels reports → rest ≡ p ∷ more
      → TakesSkim left number p levels new reports added → IsSkimmed all (number + 1) more new added
  skimmed_one all rest more p number levels new reports added g is t = record {
    passed = passed_one all rest more p number g.passed is;
    has = λ n.
        let a = added_has levels new t.notes n t.added in
        let both = known_both (SkimHandedBy left g.passed.done) (HandsSkim left p)
        (SkimHandedBy left (g.passed.done ++ p ∷ [])) n
        (λ m.
        let h = handed_both g.passed.done (p ∷ []) m in (
          λ i. elim (h.0 i) [ inl k ↦ inl k | inr k ↦ elim k [ inl j ↦ inr j | inr j ↦ absurd j ] ],
          λ i. h.1 (elim i [ inl k ↦ inl k | inr k ↦ inr (inl k) ]),
        )) in (
          λ h. both.1 (elim (a.0 h) [ inl k ↦ inl ((g.has n).0 k) | inr k ↦ inr ((t.handed n).0 k) ]),
          λ h. a.1 (elim (both.0 h) [ inl k ↦ inl ((g.has n).1 k) | inr k ↦ inr ((t.handed n).1 k) ]),
        );
    reported = t.reported ∙ ap (λ (l : List PieceReport). l ++ reports_in left number p) g.reported
        ∙ sym (reports_push left 0 g.passed.done p number (omega (arith, g.passed.counted)));
    good = all_push (IsGood left) g.passed.done p g.good t.good;
  }

  -- all were passed
  all_done : (all rest : List (Part R)) (number : ℕ) (levels : List (List NoteParts)) (reports : List PieceReport)
      (g : IsSkimmed all number rest levels reports) → length rest ≡ 0 → g.passed.done ≡ all
  all_done all [] number levels reports g none = sym (g.passed.whole ∙ append-nil g.passed.done)
  all_done all (p ∷ rest) number levels reports g none = absurd (omega arith)

  pub skimmed_reports : (all rest : List (Part R)) (number : ℕ) (levels : List (List NoteParts))
      (reports : List PieceReport) → IsSkimmed all number rest levels reports → length rest ≡ 0
      → reports ≡ reports_of left all
  skimmed_reports all rest number levels reports g none =
      g.reported ∙ ap (reports_of left) (all_done all rest number levels reports g none)

  pub skimmed_good : (all rest : List (Part R)) (number : ℕ) (levels : List (List NoteParts))
      (reports : List PieceReport) → IsSkimmed all number rest levels reports → length rest ≡ 0
      → AllByRecursion (IsGood left) all
  skimmed_good all rest number levels reports g none =
      subst (AllByRecursion (IsGood left)) (all_done all rest number levels reports g none) g.good

  pub skimmed_all : (all rest : List (Part R)) (number : ℕ) (levels : List (List NoteParts))
      (reports : List PieceReport) (views : List NoteParts) → IsSkimmed all number rest levels reports
      → length rest ≡ 0 → HoldsSkim levels views → IsTheSkim (SkimHandedBy left all) views
  skimmed_all all rest number levels reports views g none h =
      let is = all_done all rest number levels reports g none in
      let has : (n : NoteParts)
      → has_note (merged_with levels []) n ↔ IsKnown head_note (SkimHandedBy left g.passed.done) n = λ n.
      let merged = merged_has levels [] n in
      let known = g.has n in (
        (λ k. known.0 (elim (merged.0 k) [
          | inl a ↦ a
          | inr b ↦ elim b [ inl i ↦ absurd i | inr s ↦ absurd s.1 ]
        ])),
        λ k. merged.1 (inl (known.1 k)),
      )
      in
      let own = preferred (SkimHandedBy left g.passed.done) (merged_with levels []) h.content h.reduced has in
      subst (λ (ps : List (Part R)). IsTheSkim (SkimHandedBy left ps) views) is
      (subst (IsTheSkim (SkimHandedBy left g.passed.done)) (sym h.preferred) own)

  -- there was no part
  pub skimmed_nothing : (all rest : List (Part R)) (number : ℕ) (views : List NoteParts) → IsPassed all number rest
      → length rest ≡ 0 → number ≡ 0 → views ≡ [] → IsTheSkim (SkimHandedBy left all) views
  skimmed_nothing [] rest number views p none zero_parts is = subst (IsTheSkim (SkimHandedBy left [])) (sym is)
      (record { content = tt; members = λ n. (λ i. absurd i, λ h. h.located.0) })
  skimmed_nothing (q ∷ all) rest number views p none zero_parts is =
      let len = passed_all (q ∷ all) rest number p none in absurd (omega (arith, len, zero_parts))
