-- The causes of findings of the header metadata are met at the offsets that are found of them, and at no others.
use Rattle.mxf_findings.proofs.Common.{◌≡◌, ◌≢◌, ℕ, ◌⊎◌, Bool, true, false, List, [], Option, Some, None, refl, sym, ap}
use Rattle.mxf_findings.proofs.Common.{subst, ◌∙◌, inl, inr, eqb-true, eq-eqb, length, ◌↔◌, ◌&&◌, ◌||◌, ◌==◌, not}
use Rattle.mxf_findings.proofs.Common.{is_some, filter, map, if◌then◌else◌, Kind, NoteParts, keeps_value, kind_of, In}
use Rattle.mxf_findings.proofs.Common.{primer_at, items_of, left_of, storage_at, segment_at, IsContent, CopyInfo}
use Rattle.mxf_findings.proofs.Common.{IsCopy, copies_of, is_primer, resolved_of, lost_at, is_segment, IsReadable}
use Rattle.mxf_findings.proofs.Common.{In-append, not-true-false, not_true, either, or_cases, and_from}
use Rattle.mxf_findings.proofs.Common.{false_from_ne_true, and_parts, preface_at, identification_at, package_at, Ref}
use Rattle.mxf_findings.proofs.Common.{Target, Unreadable, is_set, ResolvedParts, is_partial, lost_beside, lost_by}
use Rattle.mxf_findings.proofs.Common.{reads_value, In-chosen}
use Rattle.std.specs.Prelude.{is_none}
use Rattle.mxf_references.specs.declared.reference.target.Target.TheVariants.{Found, Missing, Several, WrongKind}
use Rattle.mxf_views.specs.SetItems.{whole_items}
use Rattle.mxf_findings.specs.Findings.{is_found, is_unreadable_segment, is_unreadable_set, lost_behind, lost_in}
use Rattle.mxf_findings.specs.FindingCauses.{Holds, HoldsLost, IsReadableSet}
use Rattle.mxf_views.specs.Copies.{IsMetadataKind}
use Rattle.mxf_views.proofs.CopyLaws.{copies_are}
use Rattle.mxf_views.proofs.KindLaws.{primer_kind, segment_kind, set_kind}
use Rattle.mxf_views.proofs.ReadingLaws.{ok_readable}
use Rattle.mxf_references.proofs.ResolvedLaws.{resolved_iff}
use Rattle.mxf_klv.proofs.Tests.{none_says}
use Rattle.std.proofs.lemmas.List.{nil_from_length}
use Rattle.mxf_klv.specs.declared.kinds.Kind.TheVariants as kinds

-- ---- copies

partial_is : (c : CopyInfo) → (is_partial c ≡ true) ↔ ((c.start ≡ None) ⊎ (c.finished ≡ false))
partial_is c = (
  λ h. elim (or_cases (is_none c.start) (not c.finished) h) [
    | inl t ↦ inl (none_says c.start t)
    | inr t ↦ inr (false_from_ne_true c.finished (not-true-false c.finished t))
  ],
  λ s. either (is_none c.start) (not c.finished) (elim s [
    | inl e ↦ inl (ap (λ (o : Option ℕ). is_none o) e)
    | inr e ↦ inr (ap not e)
  ]),
)

pub partial_copies : (notes : List NoteParts) (o : ℕ) → IsContent notes
    → In o (map (λ c. c.partition) (filter is_partial (copies_of notes)))
    ↔ ((c : CopyInfo) × IsCopy notes c × (c.partition ≡ o) × ((c.start ≡ None) ⊎ (c.finished ≡ false)))
partial_copies notes o r =
    let m = In-chosen (λ (c : CopyInfo). c.partition) is_partial (copies_of notes) o in (
      λ h. let s = m.0 h in (s.0, (copies_are notes s.0 r).0 s.1, s.3, (partial_is s.0).0 s.2),
      λ s. m.1 (s.0, (copies_are notes s.0 r).1 s.1, (partial_is s.0).1 s.3, s.2),
    )

-- ---- sets that can't be read

whole_says : (bytes : List ℕ) → (is_some (whole_items bytes) ≡ true) ↔ (left_of bytes ≡ [])
whole_says bytes = (
  λ h. elim (length (left_of bytes) == 0) as (λ b. (length (left_of bytes) == 0) ≡ b
      → is_some (if b then Some (items_of bytes) else None) ≡ true → left_of bytes ≡ []) [
        | true ↦ λ t _. nil_from_length (left_of bytes) (eqb-true (length (left_of bytes)) 0 t)
        | false ↦ λ _ q. absurd cc
      ] refl h,
  λ e. ap (λ (b : Bool). is_some (if b then Some (items_of bytes) else None))
      (eq-eqb (length (left_of bytes)) 0 (ap length e)),
)

raw_readable : (n : NoteParts) → ((keeps_value n && is_some (whole_items n.held)) ≡ true) ↔ IsReadableSet kinds.RawSet n
raw_readable n = (
  λ h. let s = and_parts (keeps_value n) (is_some (whole_items n.held)) h in (s.0, (whole_says n.held).0 s.1),
  λ s. and_from (keeps_value n) (is_some (whole_items n.held)) s.0 ((whole_says n.held).1 s.1),
)

set_readable : (k : Kind) (n : NoteParts) → (is_primer k || is_set k) ≡ true
    → ((keeps_value n && reads_value k n.held) ≡ true) ↔ IsReadableSet k n
set_readable kinds.Primer n h = ok_readable primer_at n
set_readable kinds.Preface n h = ok_readable preface_at n
set_readable kinds.Identification n h = ok_readable identification_at n
set_readable kinds.ContentStorage n h = ok_readable storage_at n
set_readable kinds.MaterialPackage n h = ok_readable package_at n
set_readable kinds.SourcePackage n h = ok_readable package_at n
set_readable kinds.RawSet n h = raw_readable n
set_readable _ n h = absurd cc

metadata_kind : (k : Kind) → ((is_primer k || is_set k) ≡ true) ↔ IsMetadataKind k
metadata_kind k = (
  λ h. elim (or_cases (is_primer k) (is_set k) h) [
    | inl t ↦ inl ((primer_kind k).0 t)
    | inr t ↦ inr ((set_kind k).0 t)
  ],
  λ m. either (is_primer k) (is_set k) (elim m [ inl e ↦ inl ((primer_kind k).1 e) | inr e ↦ inr ((set_kind k).1 e) ]),
)

pub unreadable_set : (n : NoteParts) → (is_unreadable_set n ≡ true)
    ↔ (IsMetadataKind (kind_of n.key) × ¬ IsReadableSet (kind_of n.key) n)
unfolding is_unreadable_set
unreadable_set n =
    let kind = kind_of n.key in
    let some = is_primer kind || is_set kind in
    let read = keeps_value n && reads_value kind n.held in (
      λ h.
          let s = and_parts some (not read) h in
          ((metadata_kind kind).0 s.0, λ k. not-true-false read s.1 ((set_readable kind n s.0).1 k)),
      λ s.
          let t = (metadata_kind kind).1 s.0 in
          and_from some (not read) t (not_true read (λ r. s.1 ((set_readable kind n t).0 r))),
    )

-- ---- index table segments that can't be read

pub unreadable_segment : (n : NoteParts) → (is_unreadable_segment n ≡ true)
    ↔ ((kind_of n.key ≡ kinds.Segment) × ¬ IsReadable segment_at n)
unfolding is_unreadable_segment
unreadable_segment n =
    let kind = kind_of n.key in
    let read = keeps_value n && reads_value kind n.held in
    let r = ok_readable segment_at n in
    let same = λ (e : kind ≡ kinds.Segment). ap (λ (k : Kind). keeps_value n && reads_value k n.held) e in (
      λ h.
          let s = and_parts (is_segment kind) (not read) h in
          let e = (segment_kind kind).0 s.0 in
          (e, λ k. not-true-false read s.1 (same e ∙ r.1 k)),
      λ s. and_from (is_segment kind) (not read) (ap is_segment s.0) (not_true read (λ t. s.1 (r.0 (sym (same s.0)
          ∙ t)))),
    )

-- ---- references

lost_says : (t : Target) → (not (is_found t) ≡ true) ↔ ((found : ℕ) → t ≢ Found found)
lost_says t = (
  λ h found e. not-true-false (is_found t) h (ap is_found e),
  λ f. not_true (is_found t) (λ q. elim t as (λ x. t ≡ x → is_found x ≡ true → ⊥) [
    | Found found ↦ λ e _. f found e
    | Missing ↦ λ _ u. cc
    | Several ↦ λ _ u. cc
    | WrongKind w ↦ λ _ u. cc
    | Unreadable w ↦ λ _ u. cc
  ] refl q),
)

-- a reference of some that isn't found
abbrev LosesOne : List Ref → Type 0
LosesOne refs = (ref : Ref) × In ref refs × ((found : ℕ) → ref.target ≢ Found found)

In-lost_at : (offset : ℕ) (refs : List Ref) (o : ℕ) → In o (lost_at offset refs) ↔ ((offset ≡ o) × LosesOne refs)
In-lost_at offset refs o =
    let m = In-chosen (λ (r : Ref). offset) (λ r. not (is_found r.target)) refs o in (
      λ h. let s = m.0 h in (s.3, (s.0, s.1, (lost_says s.0.target).0 s.2)),
      λ s. m.1 (s.1.0, s.1.1, (lost_says s.1.0.target).1 s.1.2, s.0),
    )

-- by what the reference to the storage leads to
In-lost_behind : (preface : ℕ) (t : Target) (packages : List Ref) (o : ℕ) → In o (lost_behind preface t packages)
    ↔ (((o ≡ preface) × ((found : ℕ) → t ≢ Found found)) ⊎ ((t ≡ Found o) × LosesOne packages))
In-lost_behind preface (Found w) packages o =
    let m = In-lost_at w packages o in (
      λ h. let s = m.0 h in inr (ap (λ (x : ℕ). Found x) s.0, s.1),
      λ h. elim h [ inl s ↦ absurd (s.1 w refl) | inr s ↦ m.1 (let t = s.0 in let same : w ≡ o = cc (t) in same, s.1) ],
    )
In-lost_behind preface _ packages o = (
  λ h. elim h [ inl q ↦ inl (q, λ found e. cc) | inr k ↦ absurd k ],
  λ h. elim h [ inl s ↦ inl s.0 | inr s ↦ absurd (let t = s.0 in cc (t)) ],
)

-- a set at the offset holds a reference that isn't found
abbrev LosesAt : ResolvedParts → ℕ → Type 0
LosesAt r o = (ref : Ref) × Holds r o ref × ((found : ℕ) → ref.target ≢ Found found)

In-lost_by : (r : ResolvedParts) (o : ℕ) → In o (lost_by r) ↔ LosesAt r o
In-lost_by r o =
    let names = lost_at r.preface r.identifications in
    let a = In-append o names (lost_beside r.preface r.storage r.packages) in
    let m = In-lost_at r.preface r.identifications o in (
      λ h. elim (a.0 h) [
        | inl k ↦ let s = m.0 k in (s.1.0, inl (sym s.0, inr s.1.1), s.1.2)
        | inr k ↦
            elim (r.storage) as (λ q. r.storage ≡ q → In o (lost_beside r.preface q r.packages) → LosesAt r o) [
              | None ↦ λ _ h. absurd h
              | Some storage ↦ λ e h. elim ((In-lost_behind r.preface storage.target r.packages o).0 h) [
                | inl s ↦ (storage, inl (s.0, inl e), s.1)
                | inr s ↦ (s.1.0, inr (storage, e, s.0, s.1.1), s.1.2)
              ]
            ] refl k
      ],
      λ s. elim s.1 [
        | inl k ↦ elim k.1 [
          | inl e ↦ a.1 (inr (subst (λ (q : Option Ref). In o (lost_beside r.preface q r.packages)) (sym e)
              ((In-lost_behind r.preface s.0.target r.packages o).1 (inl (k.0, s.2)))))
          | inr i ↦ a.1 (inl (m.1 (sym k.0, (s.0, i, s.2))))
        ]
        | inr k ↦ a.1 (inr (subst (λ (q : Option Ref). In o (lost_beside r.preface q r.packages)) (sym k.1)
            ((In-lost_behind r.preface k.0.target r.packages o).1 (inr (k.2, (s.0, k.3, s.2))))))
      ],
    )

pub lost_references : (notes : List NoteParts) (o : ℕ) → IsContent notes
    → In o (lost_in (resolved_of notes)) ↔ HoldsLost notes o
lost_references notes o content = (
  λ h. elim (resolved_of notes) as (λ q. resolved_of notes ≡ q → In o (lost_in q) → HoldsLost notes o) [
    | None ↦ λ _ k. absurd k
    | Some r ↦ λ e k.
        let s = (In-lost_by r o).0 k in
        record {
          resolved = r;
          preferred = (resolved_iff notes (Some r) content).0 e;
          ref = s.0;
          holds = s.1;
          lost = s.2;
        }
  ] refl h,
  λ l. subst (λ (q : Option ResolvedParts). In o (lost_in q))
      (sym ((resolved_iff notes (Some l.resolved) content).1 l.preferred))
      ((In-lost_by l.resolved o).1 (l.ref, l.holds, l.lost)),
)
