-- Going over the fills that follow a pack.
use Rattle.mxf_views.proofs.Common.{◌≡◌, ℕ, ◌+◌, ◌<◌, ◌≤◌, ◌⊎◌, true, false, List, [], ◌∷◌, Some, None, refl, sym, ap}
use Rattle.mxf_views.proofs.Common.{subst, ◌∙◌, inl, inr, arith, nat_lt, filter, then_some, ltb-true, and_from}
use Rattle.mxf_views.proofs.Common.{and_parts, NoteParts, IsNote, end_of, In, IsCatalogue, IsContent, AreApart, IsClear}
use Rattle.mxf_views.proofs.Common.{SharesByte, clear_notes, lies_in, In-clear_notes, IsStart, is_fill_note}
use Rattle.mxf_views.proofs.Common.{is_readable_primer, all-In, In-filter, IsFilled, clear_same}
use Rattle.std.proofs.Common.{le-leb, leb-true, ltb-false}
use Rattle.mxf_views.specs.Copies.{start_of}
use Rattle.mxf_views.proofs.StartLaws.{fill_note, not_in_fill, primer_note, start_is}
use Rattle.mxf_catalogue.proofs.ApartNotes.{first_there, raised}

-- From the end of the pack up to an offset there are clear fills alone, and these clear notes are left.
pub record Passed (notes : List NoteParts) (end reached : ℕ) (left : List NoteParts) : Type 0 where
  pub low : end ≤ reached
  pub filled : (offset : ℕ) → end ≤ offset → offset < reached → IsFilled notes end reached offset
  pub rest : (n : NoteParts) → IsClear n notes → reached ≤ n.offset → In n left
  pub clear : (n : NoteParts) → In n left → IsClear n notes
  pub apart : AreApart reached left

-- Nothing is passed before the first.
pub passed_none : (notes : List NoteParts) (end : ℕ) (left : List NoteParts) → IsCatalogue notes
    → left ≡ filter (lies_in end 18446744073709551615) (clear_notes notes) → AreApart 0 left → Passed notes end end left
passed_none notes end left c e a =
    let member = λ (n : NoteParts). In-filter (lies_in end 18446744073709551615) (clear_notes notes) n in
    record {
      low = omega arith;
      filled = λ o from before. absurd (omega arith);
      rest = λ n is low.
          let within = (all-In IsNote notes n c.members is.held).within in
          let high : end_of n ≤ end + 18446744073709551615 = omega (arith, within) in
          subst (In n) (sym e) ((member n).1 (
            (In-clear_notes n notes).1 is,
            and_from _ _ (le-leb end n.offset low) (le-leb (end_of n) (end + 18446744073709551615) high),
          ));
      clear = λ n h. (In-clear_notes n notes).0 ((member n).0 (subst (In n) e h)).0;
      apart = raised 0 end left a (λ n h. leb-true end n.offset (and_parts _ _ ((member n).0 (subst (In n) e h)).1).0);
    }

-- A fill is passed.
pub passed_fill : (notes : List NoteParts) (end reached : ℕ) (n : NoteParts) (left : List NoteParts)
    → Passed notes end reached (n ∷ left) → n.offset ≡ reached → is_fill_note n ≡ true
    → Passed notes end (end_of n) left
passed_fill notes end reached n left p e fill =
    let low : end ≤ reached = p.low in
    record {
      low = omega arith;
      filled = λ o from before. elim (nat_lt o reached) as (λ b. nat_lt o reached ≡ b
          → IsFilled notes end (end_of n) o) [
            | true ↦ λ t. let f = p.filled o from (ltb-true o reached t) in
                let b : end_of f.fill ≤ reached = f.before in
                record {
                  fill = f.fill;
                  clear = f.clear;
                  kind = f.kind;
                  from = f.from;
                  before = omega arith;
                  within = f.within;
                }
            | false ↦ λ t. let l : reached ≤ o = ltb-false o reached t in
                record {
                  fill = n;
                  clear = p.clear n (inl refl);
                  kind = (fill_note n).0 fill;
                  from = omega arith;
                  before = omega arith;
                  within = record { from = omega arith; before = omega arith };
                }
          ] refl;
      rest = λ m is l. elim (p.rest m is (omega arith)) [
        | inl same ↦
            let q : m.offset ≡ n.offset = ap (λ (x : NoteParts). x.offset) same in absurd (omega arith)
        | inr h ↦ h
      ];
      clear = λ m h. p.clear m (inr h);
      apart = p.apart.1;
    }

-- A readable primer behind the fills is the start.
is_at : (notes : List NoteParts) (end reached : ℕ) (n : NoteParts) (left : List NoteParts)
    → Passed notes end reached (n ∷ left) → n.offset ≡ reached → is_readable_primer n ≡ true → IsStart notes end reached
is_at notes end reached n left p e readable = record {
  primer = n;
  clear = p.clear n (inl refl);
  readable = (primer_note n).0 readable;
  there = e;
  after = p.low;
  filled = p.filled;
}

-- No start lies among the fills that were passed.
not_among : (notes : List NoteParts) (end reached s : ℕ) (left : List NoteParts) → Passed notes end reached left
    → IsStart notes end s → s < reached → ⊥
not_among notes end reached s left p a l = not_in_fill notes end reached s a (p.filled s a.after l)

-- What stands where the fills end, and leads on to a start.
record LeadsOn (notes : List NoteParts) (reached : ℕ) (left : List NoteParts) : Type 0 where
  pub note : NoteParts
  pub held : In note left
  pub there : note.offset ≡ reached
  pub kind : (is_fill_note note ≡ true) ⊎ (is_readable_primer note ≡ true)

leads_on : (notes : List NoteParts) (end reached s : ℕ) (left : List NoteParts) → Passed notes end reached left
    → IsStart notes end s → LeadsOn notes reached left
leads_on notes end reached s left p a =
    let there : a.primer.offset ≡ s = a.there in
    elim (nat_lt reached s) as (λ b. nat_lt reached s ≡ b → LeadsOn notes reached left) [
      | true ↦ λ t.
          let l : reached < s = ltb-true reached s t in
          let f = a.filled reached p.low l in
          let w0 : f.fill.offset ≤ reached = f.within.from in
          let w1 : reached + 1 ≤ end_of f.fill = f.within.before in
          let at : f.fill.offset ≡ reached =
          (elim (nat_lt f.fill.offset reached) as (λ b. nat_lt f.fill.offset reached ≡ b → f.fill.offset ≡ reached) [
            | true ↦ λ u.
                let m : f.fill.offset < reached = ltb-true f.fill.offset reached u in
                let g = p.filled f.fill.offset f.from m in
                let v0 : g.fill.offset ≤ f.fill.offset = g.within.from in
                let v1 : f.fill.offset + 1 ≤ end_of g.fill = g.within.before in
                let v2 : end_of g.fill ≤ reached = g.before in
                let shares : SharesByte f.fill g.fill = (
                  f.fill.offset,
                  record { from = omega arith; before = omega arith },
                  record { from = v0; before = v1 },
                ) in
                let same : f.fill ≡ g.fill = clear_same notes f.fill g.fill f.clear g.clear shares in
                let q : end_of f.fill ≡ end_of g.fill = ap end_of same in
                absurd (omega arith)
            | false ↦ λ u. let m : reached ≤ f.fill.offset = ltb-false f.fill.offset reached u in omega arith
          ] refl) in
          record {
            note = f.fill;
            held = p.rest f.fill f.clear (omega arith);
            there = at;
            kind = inl ((fill_note f.fill).1 f.kind);
          }
      | false ↦ λ t.
          let l : s ≤ reached = ltb-false reached s t in
          elim (nat_lt s reached) as (λ b. nat_lt s reached ≡ b → LeadsOn notes reached left) [
            | true ↦ λ u. absurd (not_among notes end reached s left p a (ltb-true s reached u))
            | false ↦ λ u. let m : reached ≤ s = ltb-false s reached u in
                record {
                  note = a.primer;
                  held = p.rest a.primer a.clear (omega arith);
                  there = omega arith;
                  kind = inr ((primer_note a.primer).1 a.readable);
                }
          ] refl
    ] refl

-- No start is found where none stands.
pub none_there : (notes : List NoteParts) (end : ℕ) → IsContent notes → ((s : ℕ) → IsStart notes end s → ⊥)
    → start_of end (clear_notes notes) ≡ None
none_there notes end r f =
    elim (start_of end (clear_notes notes)) as (λ o. start_of end (clear_notes notes) ≡ o → o ≡ None) [
      | None ↦ λ e. refl
      | Some s ↦ λ e. absurd (f s ((start_is notes end s r).0 e))
    ] refl

pub none_left : (notes : List NoteParts) (end reached : ℕ) → IsContent notes → Passed notes end reached []
    → start_of end (clear_notes notes) ≡ None
none_left notes end reached r p = none_there notes end r (λ s a. (leads_on notes end reached s [] p a).held)

pub none_at : (notes : List NoteParts) (end reached : ℕ) (n : NoteParts) (left : List NoteParts) → IsContent notes
    → Passed notes end reached (n ∷ left) → (n.offset ≡ reached → ⊥) → start_of end (clear_notes notes) ≡ None
none_at notes end reached n left r p f = none_there notes end r (λ s a.
    let k = leads_on notes end reached s (n ∷ left) p a in
    let same = first_there reached n k.note left p.apart k.held k.there in
    f (ap (λ (x : NoteParts). x.offset) (sym same) ∙ k.there))

none_of_kind : (notes : List NoteParts) (end reached : ℕ) (n : NoteParts) (left : List NoteParts) → IsContent notes
    → Passed notes end reached (n ∷ left) → is_fill_note n ≡ false → is_readable_primer n ≡ false
    → start_of end (clear_notes notes) ≡ None
none_of_kind notes end reached n left r p no_fill no_primer = none_there notes end r (λ s a.
    let k = leads_on notes end reached s (n ∷ left) p a in
    let same = first_there reached n k.note left p.apart k.held k.there in
    elim k.kind [
      | inl e ↦ let t = ap is_fill_note (sym same) ∙ e in cc (t, no_fill)
      | inr e ↦ let t = ap is_readable_primer (sym same) ∙ e in cc (t, no_primer)
    ])

-- What stands behind the fills tells the start.
pub first_other : (notes : List NoteParts) (end reached : ℕ) (n : NoteParts) (left : List NoteParts) → IsContent notes
    → Passed notes end reached (n ∷ left) → n.offset ≡ reached → is_fill_note n ≡ false
    → start_of end (clear_notes notes) ≡ then_some (is_readable_primer n) reached
first_other notes end reached n left r p e no_fill = elim (is_readable_primer n) as (λ b. is_readable_primer n ≡ b
    → start_of end (clear_notes notes) ≡ then_some b reached) [
      | true ↦ λ t. (start_is notes end reached r).1 (is_at notes end reached n left p e t)
      | false ↦ λ t. none_of_kind notes end reached n left r p no_fill t
    ] refl
