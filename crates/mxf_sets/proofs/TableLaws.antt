-- The labels of a tag agree on what a table of them tells, taken one after another.
use Rattle.mxf_klv.proofs.Common.{◌≡◌, ℕ, List, [], ◌∷◌, Option, Some, None, true, false, refl, sym, ap, subst, ◌∙◌}
use Rattle.mxf_klv.proofs.Common.{Bool, cond, drop, eqb-true, list_all, bytes_eq, lookup, nat_cmp, is_eq, Less, Equal}
use Rattle.mxf_klv.proofs.Common.{Greater, is_at}
use Rattle.std.specs.Prelude.{◌==◌, ◌&&◌, nat_lt, if◌then◌else◌, filter, map}
use Rattle.std.specs.Cmp.{nat_cmp_is}
use Rattle.byteorder.specs.Endian.{big_number}
use Rattle.mxf_sets.specs.Batch.{BatchParts, batch_items}
use Rattle.mxf_sets.specs.PackReadings.{agreed, label_of, labels_among}
use Rattle.mxf_sets.specs.PrimerTable.{agreed_in, label_in, with_label, with_labels}

pub at_equal : (tag other : ℕ) → tag ≡ other → is_at (nat_cmp tag) other ≡ true
at_equal tag other same = ap is_eq (sym (nat_cmp_is tag other Equal same))

abbrev compared : Bool → Bool → Bool
compared below same = is_eq (cond below Less (cond same Equal Greater))

neither : (below : Bool) → compared below false ≡ false
neither true = refl
neither false = refl

pub at_other : (tag other : ℕ) → (tag == other) ≡ false → is_at (nat_cmp tag) other ≡ false
at_other tag other apart = ap (λ (b : Bool). compared (nat_lt tag other) b) apart ∙ neither (nat_lt tag other)

-- Once two labels differ, no more are agreed on.
differing : (labels : List (List ℕ)) → with_labels (Some None) labels ≡ Some None
differing [] = refl
differing (label ∷ labels) = differing labels

following_by : (own : List ℕ) (labels : List (List ℕ)) (same : Bool) → with_labels (Some (Some own)) labels
    ≡ Some (if list_all (λ other. bytes_eq own other) labels then Some own else None)
    → with_labels (Some (if same then Some own else None)) labels
    ≡ Some (if same && list_all (λ other. bytes_eq own other) labels then Some own else None)
following_by own labels true rest = rest
following_by own labels false rest = differing labels

following : (own : List ℕ) (labels : List (List ℕ)) → with_labels (Some (Some own)) labels
    ≡ Some (if list_all (λ other. bytes_eq own other) labels then Some own else None)
following own [] = refl
following own (label ∷ labels) = following_by own labels (bytes_eq own label) (following own labels)

pub agreed_told : (labels : List (List ℕ)) → agreed_in (with_labels None labels) ≡ agreed labels
agreed_told [] = refl
agreed_told (label ∷ labels) = ap agreed_in (following label labels)

-- What the table has for each tag, and then the labels of the entries that are left, tell what all entries tell.
abbrev pub IsTold : List (ℕ × Option (List ℕ)) → List (List ℕ) → List (List ℕ) → Type 0
IsTold table left all = (tag : ℕ)
    → with_labels (lookup (is_at (nat_cmp tag)) table) (labels_among tag left) ≡ with_labels None (labels_among tag all)

abbrev labels_first : Bool → ℕ → List ℕ → List (List ℕ) → List (List ℕ)
labels_first has tag entry left = map (λ x. drop 2 x) (if has then entry ∷ filter (λ x. big_number 2 x == tag) left
    else filter (λ x. big_number 2 x == tag) left)

told_by : (old new : List (ℕ × Option (List ℕ))) (entry : List ℕ) (left all : List (List ℕ)) (agreed : Option (List ℕ))
    (tag : ℕ) (has : Bool) → (big_number 2 entry == tag) ≡ has
    → Some agreed ≡ with_label (lookup (is_at (nat_cmp (big_number 2 entry))) old) (drop 2 entry)
    → lookup (is_at (nat_cmp tag)) new
    ≡ cond (is_at (nat_cmp (big_number 2 entry)) tag) (Some agreed) (lookup (is_at (nat_cmp tag)) old)
    → with_labels (lookup (is_at (nat_cmp tag)) old) (labels_among tag (entry ∷ left))
    ≡ with_labels None (labels_among tag all)
    → with_labels (lookup (is_at (nat_cmp tag)) new) (labels_among tag left) ≡ with_labels None (labels_among tag all)
told_by old new entry left all agreed tag true same told updates before =
    let at = eqb-true (big_number 2 entry) tag same in
    let here = updates ∙ ap (λ (b : Bool). cond b (Some agreed) (lookup (is_at (nat_cmp tag)) old))
    (at_equal (big_number 2 entry) tag at) in
    let own = subst (λ (t : ℕ). Some agreed ≡ with_label (lookup (is_at (nat_cmp t)) old) (drop 2 entry)) at told in
    let first = ap (λ (b : Bool). with_labels (lookup (is_at (nat_cmp tag)) old)
    (labels_first b tag entry left)) same in
    ap (λ (t : Option (Option (List ℕ))). with_labels t (labels_among tag left)) (here ∙ own) ∙ sym first ∙ before
told_by old new entry left all agreed tag false other told updates before =
    let there = updates ∙ ap (λ (b : Bool). cond b (Some agreed) (lookup (is_at (nat_cmp tag)) old))
    (at_other (big_number 2 entry) tag other) in
    let first = ap (λ (b : Bool). with_labels (lookup (is_at (nat_cmp tag)) old)
    (labels_first b tag entry left)) other in
    ap (λ (t : Option (Option (List ℕ))). with_labels t (labels_among tag left)) there ∙ sym first ∙ before

-- The label of one more entry stands in the table.
pub told_with : (old new : List (ℕ × Option (List ℕ))) (entry : List ℕ) (left all : List (List ℕ))
    (agreed : Option (List ℕ))
    → Some agreed ≡ with_label (lookup (is_at (nat_cmp (big_number 2 entry))) old) (drop 2 entry)
    → ((tag : ℕ) → lookup (is_at (nat_cmp tag)) new
    ≡ cond (is_at (nat_cmp (big_number 2 entry)) tag) (Some agreed) (lookup (is_at (nat_cmp tag)) old))
    → IsTold old (entry ∷ left) all → IsTold new left all
told_with old new entry left all agreed told updates before tag =
    told_by old new entry left all agreed tag (big_number 2 entry == tag) refl told (updates tag) (before tag)

-- Once no entry is left, the table has the label of each tag.
pub told_all : (table : List (ℕ × Option (List ℕ))) (entries : BatchParts) → IsTold table [] (batch_items entries)
    → (tag : ℕ) → label_in table tag ≡ label_of tag entries
told_all table entries told tag = ap agreed_in (told tag) ∙ agreed_told (labels_among tag (batch_items entries))

-- A table without an entry tells nothing yet.
pub told_none : (table : List (ℕ × Option (List ℕ))) (entries : BatchParts) → table ≡ []
    → IsTold table (batch_items entries) (batch_items entries)
told_none table entries empty tag = ap (λ (t : List (ℕ × Option (List ℕ))). with_labels (lookup (is_at (nat_cmp tag)) t)
    (labels_among tag (batch_items entries))) empty
