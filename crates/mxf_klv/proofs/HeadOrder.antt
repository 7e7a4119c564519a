-- Where a head stands in the order of notes: directly before the notes of the whole packet.
use Rattle.mxf_klv.proofs.Common.{bool_cmp, eq_by_cmp, nat_cmp, ordering_then, IsTotalOrder, Decides, note_total}
use Rattle.mxf_klv.proofs.Common.{note_cmp-IsAntisymmetric, slice_cmp, nat_cmp-IsAntisymmetric, Ordering, Less, Equal}
use Rattle.mxf_klv.proofs.Common.{Greater, sym, ◌∙◌, ap, subst, inl, inr, nat_cmp_total, tied_itself, NoteParts}
use Rattle.mxf_klv.proofs.Common.{head_note, note_cmp}
use Rattle.std.specs.Prelude.{◌≡◌, ◌⊎◌, true, false, [], ◌∷◌, refl}
use Rattle.std.specs.Cmp.{Equal-is}
use Rattle.std.specs.Cmp.Lexicographic.{nat_list_cmp_total}
use Rattle.std.specs.FinSet.{slice_cmp-IsAntisymmetric}

-- `==` of notes tells whether they are one
pub same_note-Decides : (a b : NoteParts) → Decides (eq_by_cmp note_cmp a b) (a ≡ b)
same_note-Decides a b = (
  λ h. note_cmp-IsAntisymmetric a b ((Equal-is (note_cmp a b)).0 h),
  λ e. (Equal-is (note_cmp a b)).1 (subst (λ c. note_cmp a c ≡ Equal) e (tied_itself note_total a)),
)

-- a head tells itself alone
pub head_note-once : (n : NoteParts) → head_note (head_note n) ≡ head_note n
head_note-once n = refl

tie_then : (a b : Ordering) → a ≡ Equal → ordering_then a b ≡ b
tie_then a b h = cc

heads_alike : (n : NoteParts) → note_cmp (head_note n) n
    ≡ ordering_then (bool_cmp false n.whole) (slice_cmp nat_cmp [] n.held)
heads_alike n = tie_then (nat_cmp n.offset n.offset) _ (tied_itself nat_cmp_total n.offset)
    ∙ tie_then (slice_cmp nat_cmp n.key n.key) _ (tied_itself nat_list_cmp_total n.key)
    ∙ tie_then (nat_cmp n.width n.width) _ (tied_itself nat_cmp_total n.width)
    ∙ tie_then (nat_cmp n.length n.length) _ (tied_itself nat_cmp_total n.length)

-- the head of a note is the note, or stands below it
pub head_note-below : (n : NoteParts) → (head_note n ≡ n) ⊎ (note_cmp (head_note n) n ≡ Less)
head_note-below n =
    elim n.whole as (λ b. n.whole ≡ b → (head_note n ≡ n) ⊎ (note_cmp (head_note n) n ≡ Less)) [
      | true ↦ λ e. inr (heads_alike n ∙ ap (λ b. ordering_then (bool_cmp false b) (slice_cmp nat_cmp [] n.held)) e)
      | false ↦ λ e. elim n.held as (λ h. n.held ≡ h → (head_note n ≡ n) ⊎ (note_cmp (head_note n) n ≡ Less)) [
        | [] ↦ λ f. inl (λ i. record {
          offset = n.offset;
          key = n.key;
          width = n.width;
          length = n.length;
          whole = sym e i;
          held = sym f i;
        })
        | x ∷ xs ↦ λ f. inr (heads_alike n ∙ (λ i. ordering_then (bool_cmp false (e i)) (slice_cmp nat_cmp [] (f i))))
      ] refl
    ] refl

-- what stands between two that are alike in a part is alike in it
between_alike : {A : Type 0} {R : A → A → Ordering} → IsTotalOrder R → (a b : A) (r s : Ordering)
    → ordering_then (R a b) r ≡ Less → ordering_then (R b a) s ≡ Less → (R a b ≡ Equal) × (r ≡ Less) × (s ≡ Less)
between_alike {R = R} o a b r s e f =
    let back = o.antisymm b a in
    elim (R a b) as (λ c. R a b ≡ c → ordering_then c r ≡ Less → (c ≡ Equal) × (r ≡ Less) × (s ≡ Less)) [
      | Less ↦ λ p q. absurd (let t : R b a ≡ Greater = rw p at back in let u = rw t at f in cc (u))
      | Equal ↦ λ p q. (refl, q, (let t : R b a ≡ Equal = rw p at back in let u = rw t at f in u))
      | Greater ↦ λ p q. cc
    ] refl e

-- what stands between a head and a note that tells it, tells it too
pub head_note-between : (x y z : NoteParts) → note_cmp x y ≡ Less → note_cmp y z ≡ Less → head_note z ≡ x
    → head_note y ≡ x
head_note-between x y z e f t =
    let low = subst (λ w. note_cmp w y ≡ Less) (sym t) e in
    let a = between_alike nat_cmp_total z.offset y.offset _ _ low f in
    let b = between_alike nat_list_cmp_total z.key y.key _ _ a.1 a.2 in
    let c = between_alike nat_cmp_total z.width y.width _ _ b.1 b.2 in
    let d = between_alike nat_cmp_total z.length y.length _ _ c.1 c.2 in
    let bytes = slice_cmp-IsAntisymmetric nat_cmp-IsAntisymmetric in
    let offset : y.offset ≡ z.offset = sym (nat_cmp-IsAntisymmetric z.offset y.offset a.0) in
    let key : y.key ≡ z.key = sym (bytes z.key y.key b.0) in
    let width : y.width ≡ z.width = sym (nat_cmp-IsAntisymmetric z.width y.width c.0) in
    let len : y.length ≡ z.length = sym (nat_cmp-IsAntisymmetric z.length y.length d.0) in
    let same : head_note y ≡ head_note z = λ i. record {
      offset = offset i;
      key = key i;
      width = width i;
      length = len i;
      whole = false;
      held = [];
    } in
    same ∙ t
