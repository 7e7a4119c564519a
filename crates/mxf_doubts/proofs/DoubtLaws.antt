-- Doubts by their definition.
use Rattle.mxf_views.proofs.Common.{◌≡◌, ◌↔◌, ◌≤◌, ◌+◌, ℕ, Bool, true, List, [], ◌==◌, not, Some}
use Rattle.mxf_views.proofs.Common.{end_of, le-leb, leb-true}
use Rattle.mxf_views.proofs.Common.{sym, refl, subst, arith, In, In-clear_notes, NoteParts, filter, flat_map, inl, inr, map}
use Rattle.mxf_views.proofs.Common.{IsClear, IsContent, and_from, and_parts, AreBytes, copies_of, list_any-In, is_in_copy}
use Rattle.mxf_klv.proofs.Lists.{In-chosen, In-filter, In-flat_map, In-map}
use Rattle.mxf_klv.proofs.Tests.{not_equal}
use Rattle.mxf_klv.specs.Rising.{In-union, IsRising, IsRising-union}
use Rattle.mxf_catalogue.specs.Disputes.{clear_notes}
use Rattle.mxf_views.proofs.CopyLaws.{copies_are, set_note}
use Rattle.mxf_views.specs.declared.copy.CopyInfo.{CopyInfo}
use Rattle.mxf_views.specs.Copies.{is_set_note}
use Rattle.mxf_doubts.specs.declared.doubt.Code.{Code}
use Rattle.mxf_doubts.specs.declared.doubt.Code.TheVariants.{G01, G02, G03, G04, G06, G07, G08, G09, G10, G11}
use Rattle.mxf_doubts.specs.declared.doubt.Doubt.{Doubt}
use Rattle.mxf_doubts.specs.Classes.{is_misfit}
use Rattle.mxf_doubts.specs.Codes.{all_codes, doubt, doubt_cmp, doubt_cmp-IsAntisymmetric, doubt_total}
use Rattle.mxf_doubts.specs.DoubtCauses.{AtClear, IsDoubt, IsDoubtedAt, LacksPreface}
use Rattle.mxf_doubts.specs.Doubts.{doubts_for, doubts_of, is_strange_inside, is_strange_outside, offsets_for}
use Rattle.mxf_doubts.specs.Header.{has_set, is_without_one_preface, lacks_preface}
use Rattle.mxf_doubts.specs.Tracks.{is_untracked}
use Rattle.mxf_doubts.proofs.ClassLaws.{misfit}
use Rattle.mxf_doubts.proofs.EndLaws.{behind_ends}
use Rattle.mxf_doubts.proofs.FirstMissLaws.{first_misses_are}
use Rattle.mxf_doubts.proofs.MisfitLaws.{index_misfits}
use Rattle.mxf_doubts.proofs.OrderlyLaws.{unlabelled}
use Rattle.mxf_doubts.proofs.ReferenceLaws.{lost_references}
use Rattle.mxf_doubts.proofs.StrangeLaws.{strange_inside, strange_outside}
use Rattle.mxf_doubts.proofs.TrackLaws.{untracked}

-- The bytes that are held of each note are bytes.
abbrev pub HoldBytes : List NoteParts → Type 0
HoldBytes notes = (n : NoteParts) → In n notes → AreBytes n.held

-- The offsets of the clear notes that pass a test.
clear_ones : (p : NoteParts → Bool) (P : NoteParts → Type 0) (notes : List NoteParts) (o : ℕ)
    → ((n : NoteParts) → IsClear n notes → (p n ≡ true) ↔ P n)
    → In o (map (λ n. n.offset) (filter p (clear_notes notes))) ↔ AtClear notes P o
clear_ones p P notes o each =
    let m = In-chosen (λ (n : NoteParts). n.offset) p (clear_notes notes) o in (
      λ h. let s = m.0 h in let c = (In-clear_notes s.0 notes).0 s.1 in (s.0, c, s.3, (each s.0 c).0 s.2),
      λ s. m.1 (s.0, (In-clear_notes s.0 notes).1 s.1, (each s.0 s.1).1 s.3, s.2),
    )

-- ---- Prefaces

in_copy : (n : NoteParts) (c : CopyInfo) → (is_in_copy n c ≡ true)
    ↔ ((start : ℕ) × (c.start ≡ Some start) × (start ≤ n.offset) × (end_of n ≤ start + c.bytes))
in_copy n c = (λ t. grind (arith, and_parts, leb-true), λ s. grind (arith, and_from, le-leb))

lacking : (notes : List NoteParts) (o : ℕ) → IsContent notes
    → In o (map (λ c. c.partition) (filter (lacks_preface notes) (copies_of notes))) ↔ LacksPreface notes o
lacking notes o r =
    let m = In-chosen (λ (c : CopyInfo). c.partition) (lacks_preface notes) (copies_of notes) o in (
      λ h.
          let s = m.0 h in
          let c = s.0 in
          let p = and_parts (is_without_one_preface c) (has_set notes c) s.2 in
          let w = and_parts c.finished (not (c.prefaces == 1)) p.0 in
          let a = (list_any-In (λ (n : NoteParts). is_in_copy n c) (filter is_set_note (clear_notes notes))).0 p.1 in
          let f = (In-filter is_set_note (clear_notes notes) a.0).0 a.1 in
          let z = (in_copy a.0 c).0 a.2 in record {
            copy = c;
            copied = (copies_are notes c r).0 s.1;
            there = s.3;
            finished = w.0;
            prefaces = (not_equal c.prefaces 1).0 w.1;
            start = z.0;
            begins = z.1;
            set = a.0;
            has = (
              record { clear = (In-clear_notes a.0 notes).0 f.0; from = z.2; before = z.3 },
              (set_note a.0).0 f.1,
            );
          },
      λ k.
          let c = k.copy in
          m.1 (
            c,
            (copies_are notes c r).1 k.copied,
            and_from (is_without_one_preface c) (has_set notes c)
                (and_from c.finished (not (c.prefaces == 1)) k.finished ((not_equal c.prefaces 1).1 k.prefaces))
                ((list_any-In (λ (n : NoteParts). is_in_copy n c) (filter is_set_note (clear_notes notes))).1 (
                  k.set,
                  (In-filter is_set_note (clear_notes notes) k.set).1 (
                    (In-clear_notes k.set notes).1 k.has.0.clear,
                    (set_note k.set).1 k.has.1,
                  ),
                  (in_copy k.set c).1 (k.start, k.begins, k.has.0.from, k.has.0.before),
                )),
            k.there,
          ),
    )

-- ---- All codes

causes : (code : Code) (notes : List NoteParts) (o : ℕ) → IsContent notes → HoldBytes notes
    → In o (offsets_for code notes) ↔ IsDoubtedAt code notes o
causes G01 notes o r b = lacking notes o r
causes G02 notes o r b = clear_ones (is_strange_inside notes) _ notes o (λ n c. strange_inside notes n r c)
causes G03 notes o r b = index_misfits notes r o
causes G04 notes o r b = first_misses_are notes r o
causes G06 notes o r b = clear_ones (is_strange_outside notes) _ notes o (λ n c. strange_outside notes n r c)
causes G07 notes o r b = clear_ones (is_untracked notes) _ notes o (λ n c. untracked notes n r b c)
causes G08 notes o r b = clear_ones is_misfit _ notes o (λ n c. misfit n (b n c.held))
causes G09 notes o r b = lost_references notes r b o
causes G10 notes o r b = unlabelled notes o r b
causes G11 notes o r b = behind_ends notes r o

held : (code : Code) → In code all_codes
held G01 = inl refl
held G02 = inr (inl refl)
held G03 = inr (inr (inl refl))
held G04 = inr (inr (inr (inl refl)))
held G06 = inr (inr (inr (inr (inl refl))))
held G07 = inr (inr (inr (inr (inr (inl refl)))))
held G08 = inr (inr (inr (inr (inr (inr (inl refl))))))
held G09 = inr (inr (inr (inr (inr (inr (inr (inl refl)))))))
held G10 = inr (inr (inr (inr (inr (inr (inr (inr (inl refl))))))))
held G11 = inr (inr (inr (inr (inr (inr (inr (inr (inr (inl refl)))))))))

-- The doubts are those offsets that are found of their code.
doubts_are : (notes : List NoteParts) (d : Doubt) → In d (doubts_of notes) ↔ In d.offset (offsets_for d.code notes)
doubts_are notes d =
    let each = flat_map (λ code. doubts_for code notes) all_codes in
    let u = In-union doubt_total doubt_cmp-IsAntisymmetric d [] each in
    let m = In-flat_map (λ code. doubts_for code notes) all_codes d in (
      λ h. elim (u.0 h) [
        | inl k ↦ absurd k
        | inr k ↦
            let s = m.0 k in
            let t = (In-map (doubt s.0) (offsets_for s.0 notes) d).0 s.2 in
            subst (λ (e : Doubt). In e.offset (offsets_for e.code notes)) (sym t.2) t.1
      ],
      λ h. u.1 (inr (m.1 (d.code, held d.code, (In-map (doubt d.code) (offsets_for d.code notes) d).1 (d.offset, h, refl)))),
    )

pub doubts_iff : (notes : List NoteParts) (d : Doubt) → IsContent notes → HoldBytes notes
    → In d (doubts_of notes) ↔ IsDoubt notes d
doubts_iff notes d r b =
    let a = doubts_are notes d in
    let c = causes d.code notes d.offset r b in
    (λ h. c.0 (a.0 h), λ h. a.1 (c.1 h))

-- They rise.
pub doubts_rise : (notes : List NoteParts) → IsRising doubt_cmp (doubts_of notes)
doubts_rise notes =
    let each = flat_map (λ code. doubts_for code notes) all_codes in
    IsRising-union doubt_total doubt_cmp-IsAntisymmetric [] each tt
