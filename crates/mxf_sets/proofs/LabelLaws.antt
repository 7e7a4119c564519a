-- The labels of a tag among the items of a batch.
use Rattle.mxf_klv.proofs.Common.{◌≡◌, ℕ, zero, suc, ◌+◌, ◌*◌, ◌<◌, ◌↔◌, List, [], ◌∷◌, true, length, take, drop}
use Rattle.mxf_klv.proofs.Common.{Option, None, Some, refl, sym, ap, subst, ◌∙◌, arith, inl, inr, eq-eqb, eqb-true}
use Rattle.mxf_klv.proofs.Common.{zero-mul, MatchOption, AllByRecursion, list_all, bytes_eq, drop-drop, length-drop}
use Rattle.mxf_klv.proofs.Common.{length-take, In, bytes_eq-Decides, and_parts}
use Rattle.byteorder.specs.Endian.{big_number}
use Rattle.mxf_sets.specs.Batch.{BatchParts, HasItemsOf, batch_items, item_in, sized_items}
use Rattle.mxf_sets.specs.Primer.{IsOnlyLabel, label_at}
use Rattle.mxf_sets.specs.PackReadings.{agreed, label_of, labels_among}

-- ---- the items of a batch

pub items_wide : (count size : ℕ) (bytes : List ℕ) → length bytes ≡ count * size
    → AllByRecursion (λ item. length item ≡ size) (sized_items count size bytes)
items_wide zero size bytes h = tt
items_wide (suc count) size bytes h =
    grind (
      arith,
      length-drop,
      length-take,
      items_wide count size (drop size bytes) (omega (arith, length-drop size bytes)),
    )

-- a batch of entries has entries of eighteen bytes alone
pub entries_wide : (b : BatchParts) → HasItemsOf 18 b → AllByRecursion (λ item. length item ≡ b.size) (batch_items b)
    → AllByRecursion (λ item. length item ≡ 18) (batch_items b)
entries_wide b (inl none) all = grind arith
entries_wide b (inr same) all = subst (λ (n : ℕ). AllByRecursion (λ item. length item ≡ n) (batch_items b)) same all

-- ---- the labels of a tag

-- the labels of the tag are those of the entries that have it
abbrev HasLabel : ℕ → List (List ℕ) → List ℕ → Type 0
HasLabel tag entries label = (entry : List ℕ) × In entry entries × (big_number 2 entry ≡ tag) × (drop 2 entry ≡ label)

In-labels_among : (tag : ℕ) (entries : List (List ℕ)) (label : List ℕ) → In label (labels_among tag entries)
    → HasLabel tag entries label
In-labels_among tag [] label h = elim h [ ]
In-labels_among tag (entry ∷ entries) label h = grind (arith, eqb-true, In-labels_among tag entries label)

labels_among-In : (tag : ℕ) (entries : List (List ℕ)) (entry : List ℕ) → In entry entries → big_number 2 entry ≡ tag
    → In (drop 2 entry) (labels_among tag entries)
labels_among-In tag [] entry h is = elim h [ ]
labels_among-In tag (first ∷ entries) entry (inl e) is = search (arith, eq-eqb)
labels_among-In tag (first ∷ entries) entry (inr k) is = grind (arith, labels_among-In tag entries entry k is)

-- ---- the items by their places

In-sized_items : (count size : ℕ) (bytes item : List ℕ) → In item (sized_items count size bytes) → (place : ℕ)
    × (place < count) × (item ≡ take size (drop (place * size) bytes))
In-sized_items zero size bytes item h = elim h [ ]
In-sized_items (suc count) size bytes item (inl e) = grind (arith, zero-mul)
In-sized_items (suc count) size bytes item (inr k) =
    let r = In-sized_items count size (drop size bytes) item k in
    let place = r.0 in
    let at : size + place * size ≡ suc place * size = omega arith in (
      suc place,
      omega (arith, r.1),
      r.2 ∙ ap (take size) (drop-drop (place * size) size bytes ∙ ap (λ (k : ℕ). drop k bytes) at),
    )

sized_items-In : (count size place : ℕ) (bytes : List ℕ) → place < count
    → In (take size (drop (place * size) bytes)) (sized_items count size bytes)
sized_items-In zero size place bytes h = absurd (omega arith)
sized_items-In (suc count) size zero bytes h = inl (ap (λ (k : ℕ). take size (drop k bytes)) (zero-mul size))
sized_items-In (suc count) size (suc place) bytes h =
    grind (arith, drop-drop, sized_items-In count size place (drop size bytes) (omega arith))

-- ---- the label that all agree on

all_alike : (label : List ℕ) (labels : List (List ℕ)) → list_all (λ other. bytes_eq label other) labels ≡ true
    → (other : List ℕ) → In other labels → other ≡ label
all_alike label [] h other m = elim m [ ]
all_alike label (first ∷ labels) h other m = grind (arith, and_parts, bytes_eq-Decides, all_alike label labels)

alike_all : (label : List ℕ) (labels : List (List ℕ)) → ((other : List ℕ) → In other labels → other ≡ label)
    → list_all (λ other. bytes_eq label other) labels ≡ true
alike_all label [] h = refl
alike_all label (first ∷ labels) h =
    let here : bytes_eq label first ≡ true = (bytes_eq-Decides label first).1 (sym (h first (inl refl))) in
    rw here (alike_all label labels (λ other m. h other (inr m)))

-- the agreed label is the first, and all others are it
agreed_says : (labels : List (List ℕ)) (label : List ℕ) → agreed labels ≡ Some label → In label labels
    × ((other : List ℕ) → In other labels → other ≡ label)
agreed_says labels label h = grind (arith, all_alike)

says_agreed : (labels : List (List ℕ)) (label : List ℕ) → In label labels
    → ((other : List ℕ) → In other labels → other ≡ label) → agreed labels ≡ Some label
says_agreed [] label m h = elim m [ ]
says_agreed (first ∷ labels) label m h =
    let same : first ≡ label = h first (inl refl) in
    let test : list_all (λ other. bytes_eq first other) labels ≡ true = alike_all first labels
    (λ other k. h other (inr k) ∙ sym same) in
    rw test (ap (λ (x : List ℕ). Some x) same)

-- ---- both

pub only_label : (tag : ℕ) (b : BatchParts) (label : List ℕ) → (label_of tag b ≡ Some label) ↔ IsOnlyLabel tag b label
only_label tag b label = (
  λ h.
      let says = agreed_says (labels_among tag (batch_items b)) label h in
      let some = In-labels_among tag (batch_items b) label says.0 in
      let there = In-sized_items b.count b.size b.items some.0 some.1 in
      record {
        some = (there.0, there.1, ap (big_number 2) (sym there.2) ∙ some.2);
        each = λ place room is. says.1 (label_at b place) (labels_among-In tag (batch_items b) (item_in b place)
            (sized_items-In b.count b.size place b.items room) is);
      },
  λ only.
      let place = only.some.0 in
      let here = labels_among-In tag (batch_items b) (item_in b place)
      (sized_items-In b.count b.size place b.items only.some.1) only.some.2 in
      says_agreed (labels_among tag (batch_items b)) label
      (subst (λ (x : List ℕ). In x (labels_among tag (batch_items b))) (only.each place only.some.1 only.some.2) here)
      (λ other m.
      let has = In-labels_among tag (batch_items b) other m in
      let there = In-sized_items b.count b.size b.items has.0 has.1 in
      sym has.3 ∙ ap (drop 2) there.2 ∙ only.each there.0 there.1 (ap (big_number 2) (sym there.2) ∙ has.2)),
)

-- what the computed label says
pub label_says : (tag : ℕ) (b : BatchParts) (r : Option (List ℕ)) → r ≡ label_of tag b
    → MatchOption r ((l : List ℕ) → IsOnlyLabel tag b l → ⊥) (IsOnlyLabel tag b)
label_says tag b None e = λ l only. (let f = (only_label tag b l).1 only in cc (e, f))
label_says tag b (Some l) e = (only_label tag b l).0 (sym e)
