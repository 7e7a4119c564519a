-- What is left where notes that were read are preferred.
use Rattle.mxf_klv.proofs.Common.{◌≡◌, ◌↔◌, true, ◌&&◌, not, List, NoteParts}
use Rattle.mxf_klv.proofs.Common.{In, IsTrue, and_from, and_parts, arith, head_note}
use Rattle.mxf_klv.proofs.Lists.{In-filter, list_any-In}
use Rattle.mxf_klv.proofs.HeadOrder.{same_note-Decides}
use Rattle.mxf_klv.proofs.Tests.{not-true-false, not_true}
use Rattle.mxf_catalogue.specs.Content.{IsContent}
use Rattle.mxf_catalogue.specs.Disputes.{is_same_note}
use Rattle.mxf_catalogue.proofs.DisputeLaws.{IsContent-filter}
use Rattle.mxf_skim.specs.PassedOver.{is_passed_over, was_read}
use Rattle.mxf_skim.specs.Preferring.{IsReadIn, is_outread, is_read_in, prefer_read}

-- the test says what the relation says
pub is_read_in-IsReadIn : (n : NoteParts) (notes : List NoteParts) → IsTrue (is_read_in n notes) ↔ IsReadIn n notes
is_read_in-IsReadIn n notes =
    let l = list_any-In (λ m. was_read m && is_same_note (head_note m) (head_note n)) notes in (
      λ h.
          let s = l.0 h in
          let p = and_parts (was_read s.0) (is_same_note (head_note s.0) (head_note n)) s.2 in
          record {
            other = s.0;
            held = s.1;
            read = p.0;
            same = (same_note-Decides (head_note s.0) (head_note n)).0 p.1;
          },
      λ r. l.1 (
        r.other,
        r.held,
        and_from (was_read r.other) (is_same_note (head_note r.other) (head_note n)) r.read
            ((same_note-Decides (head_note r.other) (head_note n)).1 r.same),
      ),
    )

pub In-prefer_read : (n : NoteParts) (notes : List NoteParts)
    → In n (prefer_read notes) ↔ (In n notes × (is_passed_over n ≡ true → IsReadIn n notes → ⊥))
In-prefer_read n notes =
    let f = In-filter (λ m. not (is_outread notes m)) notes n in
    let d = is_read_in-IsReadIn n notes in (
      λ h. (
        (f.0 h).0,
        λ passed read. not-true-false (is_outread notes n) (f.0 h).1
            (and_from (is_passed_over n) (is_read_in n notes) passed (d.1 read)),
      ),
      λ h. f.1 (
        h.0,
        not_true (is_outread notes n) (λ e.
            let p = and_parts (is_passed_over n) (is_read_in n notes) e in
            h.1 p.0 (d.0 p.1)),
      ),
    )

pub IsContent-prefer_read : (notes : List NoteParts) → IsContent notes → IsContent (prefer_read notes)
IsContent-prefer_read notes content = IsContent-filter (λ m. not (is_outread notes m)) notes content

-- a note whose value was read is no head
pub read_is_whole : (y m : NoteParts) → was_read m ≡ true → head_note y ≡ m → ⊥
read_is_whole y m read tells = grind (arith, and_parts)
