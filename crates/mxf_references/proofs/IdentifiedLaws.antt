-- Sets gathered, sorted and searched by their identifiers.
use Rattle.mxf_views.proofs.Common.{◌≡◌, ℕ, zero, suc, ◌+◌, ◌<◌, ◌≤◌, true, false, cond, List, [], ◌∷◌, Ok, Err, Some}
use Rattle.mxf_views.proofs.Common.{None, refl, sym, ap, subst, ◌∙◌, inl, inr, arith, get_or, length, ◌&&◌, filter}
use Rattle.mxf_views.proofs.Common.{if◌then◌else◌, map, AllWithin, cons_option, filter_map, IsNonDecreasingBy}
use Rattle.mxf_views.proofs.Common.{option_map, result_ok, false_from_ne_true, tied_itself, bytes_eq-Decides, NoteParts}
use Rattle.mxf_views.proofs.Common.{keeps_value, In, In-filter, Contains-from_In, eqb-true, eq-eqb, cases_lt}
use Rattle.mxf_views.proofs.Common.{Contains-permutation, In-from_Contains, length-filter}
use Rattle.std.specs.FinSet.{nat_cmp-IsAntisymmetric, slice_cmp-IsAntisymmetric}
use Rattle.std.proofs.Common.{nat_cmp, Less, Equal, Greater, IsPermutation, bytes_eq}
use Rattle.mxf_references.specs.References.{found_among, has_uid, reads_uid}
use Rattle.std.specs.Ordering.{ordering_index, is_lt, is_some_and}
use Rattle.mxf_sets.specs.Instance.{instance_uid_at}
use Rattle.mxf_references.specs.declared.reference.Found.{Found}
use Rattle.mxf_references.specs.declared.reference.Found.TheVariants.{Several, Absent, One}
use Rattle.mxf_references.specs.Identified.{is_below, is_of, with_uid, AreByUid, AreSorted, found_at}
use Rattle.std.specs.List.Sorted.{IsPartitionedBy}
use Rattle.std.specs.Cmp.Lexicographic.{lists_agrees, nat_list_cmp_total, slice_cmp, slice_partial_cmp}
use Rattle.std.proofs.lemmas.List.Sorted.{searchable_from_sorted, sum_by-IsPermutation}
use Rattle.mxf_references.specs.declared.reference.identified.Identified.{Identified}
use Rattle.std.proofs.lemmas.Cmp.{is_lt_index}

-- ---- one identifier among sorted sets

-- Whether an identifier is less than another is whether it stands below it.
pub less_is_below : (uid : List ℕ) (e : Identified)
    → is_some_and is_lt (slice_partial_cmp (λ x y. Some (nat_cmp x y)) e.uid uid) ≡ is_below uid e
less_is_below uid e = ap (is_some_and is_lt) (lists_agrees (λ x y. refl) e.uid uid)

module _ (uid : List ℕ) where
  equal_of : (e : Identified) → is_of uid e ≡ true → slice_cmp nat_cmp e.uid uid ≡ Equal
  equal_of e t =
      ap (λ u. slice_cmp nat_cmp u uid) ((bytes_eq-Decides e.uid uid).0 t) ∙ tied_itself nat_list_cmp_total uid

  -- One whose identifier stands below doesn't have it.
  pub below_lacks : (e : Identified) → is_below uid e ≡ true → is_of uid e ≡ false
  below_lacks e b = false_from_ne_true (is_of uid e) (λ t. let s = ap is_lt (equal_of e t) in cc (s, b))

  -- One that doesn't stand below and lacks it stands above.
  above : (e : Identified) → is_below uid e ≡ false → is_of uid e ≡ false → slice_cmp nat_cmp e.uid uid ≡ Greater
  above e b n =
      elim (slice_cmp nat_cmp e.uid uid) as (λ o. slice_cmp nat_cmp e.uid uid ≡ o → is_lt o ≡ false → o ≡ Greater) [
        | Less ↦ λ s t. absurd cc
        | Equal ↦ λ s t. (
            let same : e.uid ≡ uid = slice_cmp-IsAntisymmetric nat_cmp-IsAntisymmetric e.uid uid s in
            let has = (bytes_eq-Decides e.uid uid).1 same in absurd (cc (has, n)))
        | Greater ↦ λ s t. refl
      ] refl b

  pub comparisons : (es : List Identified) → AreSorted es
      → IsNonDecreasingBy (λ (e : Identified). ordering_index (slice_cmp nat_cmp e.uid uid)) es
  comparisons es s = searchable_from_sorted nat_list_cmp_total (λ (e : Identified). e.uid) es uid s

  pub parted : (es : List Identified) → AreSorted es → IsPartitionedBy (is_below uid) es
  parted es s i j d l h t = grind (arith, comparisons, nat_cmp, eqb-true, ordering_index, is_lt_index, eq-eqb)

  -- Behind one that stands above none has it.
  pub none_behind : (es : List Identified) (i k : ℕ) (d : Identified) → AreSorted es
      → is_below uid (get_or es i d) ≡ false → is_of uid (get_or es i d) ≡ false → i ≤ k → k < length es
      → is_of uid (get_or es k d) ≡ false
  none_behind es i k d s b n l h = false_from_ne_true (is_of uid (get_or es k d)) (λ t.
      let m = comparisons es s i k d l h in
      let high : ordering_index (slice_cmp nat_cmp (get_or es i d).uid uid)
      ≡ 2 = ap ordering_index (above (get_or es i d) b n) in
      let same : ordering_index (slice_cmp nat_cmp (get_or es k d).uid uid)
      ≡ 1 = ap ordering_index (equal_of (get_or es k d) t) in
      omega (arith, m, high, same))

  filter_none : (es : List Identified) → AllWithin (λ e. is_of uid e ≡ false) es 0 (length es)
      → filter (is_of uid) es ≡ []
  filter_none [] a = refl
  filter_none (e ∷ es) a =
      let n : is_of uid e ≡ false = a 0 e (omega arith) (omega arith) in
      rw n (filter_none es (λ k d l h. a (suc k) d (omega arith) (omega arith)))

  filter_one : (es : List Identified) (i : ℕ) (d : Identified) → i < length es
      → AllWithin (λ e. is_of uid e ≡ false) es 0 i → is_of uid (get_or es i d) ≡ true
      → AllWithin (λ e. is_of uid e ≡ false) es (suc i) (length es) → filter (is_of uid) es ≡ get_or es i d ∷ []
  filter_one [] i d h a t b = absurd (omega arith)
  filter_one (e ∷ es) zero d h a t b =
      rw t (ap (λ l. e ∷ l) (filter_none es (λ k d l h. b (suc k) d (omega arith) (omega arith))))
  filter_one (e ∷ es) (suc i) d h a t b =
      let n : is_of uid e ≡ false = a 0 e (omega arith) (omega arith) in
      rw n (filter_one es i d (omega arith) (λ k d l h. a (suc k) d (omega arith) (omega arith)) t
      (λ k d l h. b (suc k) d (omega arith) (omega arith)))

  filter_two : (es : List Identified) (i : ℕ) (d : Identified) → suc i < length es
      → AllWithin (λ e. is_of uid e ≡ false) es 0 i → is_of uid (get_or es i d) ≡ true
      → is_of uid (get_or es (suc i) d) ≡ true
      → (rest : List Identified) × (filter (is_of uid) es ≡ get_or es i d ∷ get_or es (suc i) d ∷ rest)
  filter_two [] i d h a t u = absurd (omega arith)
  filter_two (e ∷ []) i d h a t u = absurd (omega arith)
  filter_two (e ∷ f ∷ es) zero d h a t u = (filter (is_of uid) es, rw (t, u) refl)
  filter_two (e ∷ f ∷ es) (suc i) d h a t u =
      let n : is_of uid e ≡ false = a 0 e (omega arith) (omega arith) in
      let r = filter_two (f ∷ es) i d (omega arith) (λ k d l h. a (suc k) d (omega arith) (omega arith)) t u in
      (r.0, rw n r.1)

-- What is found of an identifier among some.
abbrev pub found_by : List ℕ → List Identified → Found
found_by uid es = found_at (map (λ (e : Identified). e.offset) (filter (is_of uid) es))

-- Where those below an identifier end.
pub record IsPlace (uid : List ℕ) (es : List Identified) (at : ℕ) : Type 0 where
  pub bound : at ≤ length es
  pub below : AllWithin (λ e. is_below uid e ≡ true) es 0 at
  pub above : AllWithin (λ e. is_below uid e ≡ false) es at (length es)

lacked_below : (uid : List ℕ) (es : List Identified) (at : ℕ) → IsPlace uid es at
    → AllWithin (λ e. is_of uid e ≡ false) es 0 at
lacked_below uid es at p k d l h = below_lacks uid (get_or es k d) (p.below k d l h)

lacked_behind : (uid : List ℕ) (es : List Identified) (at i : ℕ) → IsPlace uid es at → AreSorted es → at ≤ i
    → i < length es → ((d : Identified) → is_of uid (get_or es i d) ≡ false)
    → AllWithin (λ e. is_of uid e ≡ false) es i (length es)
lacked_behind uid es at i p s m f n k d l h = none_behind uid es i k d s (p.above i d m f) (n d) l h

pub absent_at_end : (uid : List ℕ) (es : List Identified) (at : ℕ) → IsPlace uid es at → length es ≤ at
    → Absent ≡ found_by uid es
absent_at_end uid es at p l =
    let a = lacked_below uid es at p in
    let none = filter_none uid es (λ k d b h. a k d b (omega arith)) in
    ap (λ (fs : List Identified). found_at (map (λ (e : Identified). e.offset) fs)) (sym none)

-- What the first two tell from that place on.
pub absent_there : (uid : List ℕ) (es : List Identified) (at : ℕ) (e : Identified) → IsPlace uid es at → AreSorted es
    → at < length es → ((d : Identified) → e ≡ get_or es at d) → is_of uid e ≡ false → Absent ≡ found_by uid es
absent_there uid es at e p s l same n =
    let a = lacked_below uid es at p in
    let b = lacked_behind uid es at at p s (omega arith) l (λ d. ap (is_of uid) (sym (same d)) ∙ n) in
    let none = filter_none uid es (λ k d c h. elim (cases_lt k at) [ inl m ↦ a k d c m | inr m ↦ b k d m h ]) in
    ap (λ (fs : List Identified). found_at (map (λ (e : Identified). e.offset) fs)) (sym none)

pub one_there : (uid : List ℕ) (es : List Identified) (at : ℕ) (e : Identified) → IsPlace uid es at → AreSorted es
    → at < length es → ((d : Identified) → e ≡ get_or es at d) → is_of uid e ≡ true
    → (at + 1 < length es → (d : Identified) → is_of uid (get_or es (at + 1) d) ≡ false)
    → One e.offset ≡ found_by uid es
one_there uid es at e p s l same t n =
    let next : at + 1 ≡ suc at = omega arith in
    let a = lacked_below uid es at p in
    let lacks : suc at < length es → (d : Identified) → is_of uid (get_or es (suc at) d) ≡ false = λ m d.
    subst (λ i. is_of uid (get_or es i d) ≡ false) next (n (omega arith) d) in
    let b : AllWithin (λ e. is_of uid e ≡ false) es (suc at) (length es) = λ k d c h.
    let m : suc at < length es = omega arith in
    lacked_behind uid es at (suc at) p s (omega arith) m (lacks m) k d c h in
    let one = filter_one uid es at e l a (ap (is_of uid) (sym (same e)) ∙ t) b in
    ap (λ (x : Identified). One x.offset) (same e)
    ∙ ap (λ (fs : List Identified). found_at (map (λ (e : Identified). e.offset) fs)) (sym one)

pub several_there : (uid : List ℕ) (es : List Identified) (at : ℕ) (e f : Identified) → IsPlace uid es at
    → at + 1 < length es → ((d : Identified) → e ≡ get_or es at d) → ((d : Identified) → f ≡ get_or es (at + 1) d)
    → is_of uid e ≡ true → is_of uid f ≡ true → Several ≡ found_by uid es
several_there uid es at e f p l same other t u =
    let next : at + 1 ≡ suc at = omega arith in
    let m : suc at < length es = omega arith in
    let two = filter_two uid es at e m (lacked_below uid es at p) (ap (is_of uid) (sym (same e)) ∙ t)
    (subst (λ i. is_of uid (get_or es i e) ≡ true) next (ap (is_of uid) (sym (other e)) ∙ u)) in
    ap (λ (fs : List Identified). found_at (map (λ (e : Identified). e.offset) fs)) (sym two.1)

-- ---- gathered from the sets

same_among : (ns : List NoteParts) → found_at (map (λ (n : NoteParts). n.offset) ns) ≡ found_among ns
same_among [] = refl
same_among (n ∷ []) = refl
same_among (m ∷ n ∷ ns) = refl

same_offsets : (uid : List ℕ) (sets : List NoteParts)
    → map (λ (e : Identified). e.offset) (filter (is_of uid) (filter_map with_uid sets))
    ≡ map (λ (n : NoteParts). n.offset) (filter (has_uid uid) sets)
unfolding has_uid
same_offsets uid [] = refl
same_offsets uid (n ∷ sets) =
    let ih = same_offsets uid sets in
    let offsets = map (λ (e : Identified). e.offset) in
    elim (keeps_value n) as (λ k.
    offsets (filter (is_of uid) (cons_option (option_map (λ uid. record { uid = uid; offset = n.offset })
    (if k then result_ok (instance_uid_at n.held) else None)) (filter_map with_uid sets)))
    ≡ map (λ (n : NoteParts). n.offset)
    (cond (k && reads_uid uid (instance_uid_at n.held)) (n ∷ filter (has_uid uid) sets) (filter (has_uid uid) sets))) [
      | false ↦ ih
      | true ↦ elim (instance_uid_at n.held) as (λ r. offsets (filter (is_of uid)
          (cons_option (option_map (λ uid. record { uid = uid; offset = n.offset }) (result_ok r))
          (filter_map with_uid sets))) ≡ map (λ (n : NoteParts). n.offset)
          (cond (reads_uid uid r) (n ∷ filter (has_uid uid) sets) (filter (has_uid uid) sets))) [
            | Err f ↦ ih
            | Ok own ↦ elim (bytes_eq own uid) as (λ b.
                offsets (cond b (record { uid = own; offset = n.offset } ∷ filter (is_of uid)
                (filter_map with_uid sets)) (filter (is_of uid) (filter_map with_uid sets)))
                ≡ map (λ (n : NoteParts). n.offset)
                (cond b (n ∷ filter (has_uid uid) sets) (filter (has_uid uid) sets))) [
                  | true ↦ ap (λ l. n.offset ∷ l) ih
                  | false ↦ ih
                ]
          ]
    ]

found_gathered : (uid : List ℕ) (sets : List NoteParts)
    → found_by uid (filter_map with_uid sets) ≡ found_among (filter (has_uid uid) sets)
found_gathered uid sets = ap found_at (same_offsets uid sets) ∙ same_among (filter (has_uid uid) sets)

-- ---- in another order

as_many : (ds es : List Identified) → length ds ≡ length es → ((e : Identified) → In e ds → In e es)
    → found_at (map (λ (e : Identified). e.offset) ds) ≡ found_at (map (λ (e : Identified). e.offset) es)
as_many [] [] l f = refl
as_many [] (e ∷ es) l f = absurd (omega arith)
as_many (d ∷ ds) [] l f = absurd (omega arith)
as_many (d ∷ []) (e ∷ []) l f = elim (f d (inl refl)) [
  | inl same ↦ ap (λ (x : Identified). One x.offset) same
  | inr h ↦ absurd h
]
as_many (d ∷ []) (e ∷ g ∷ es) l f = absurd (omega arith)
as_many (d ∷ c ∷ ds) (e ∷ []) l f = absurd (omega arith)
as_many (d ∷ c ∷ ds) (e ∷ g ∷ es) l f = refl

found_permuted : (uid : List ℕ) (ds es : List Identified) → IsPermutation ds es → found_by uid ds ≡ found_by uid es
found_permuted uid ds es p =
    let test = is_of uid in
    let many : length (filter test ds) ≡ length (filter test es) = length-filter test ds
    ∙ sym (sum_by-IsPermutation (λ (e : Identified). cond (test e) 1 0) ds es p) ∙ sym (length-filter test es) in
    as_many (filter test ds) (filter test es) many (λ e h.
    let f = (In-filter test ds e).0 h in
    (In-filter test es e).1 (In-from_Contains e es (Contains-permutation ds es e p (Contains-from_In e ds f.0)), f.1))

-- So the sorted ones are those of the sets.
pub by_uid : (sets : List NoteParts) (ds es : List Identified) → ds ≡ filter_map with_uid sets → IsPermutation ds es
    → AreSorted es → AreByUid sets es
by_uid sets ds es e p s = record {
  sorted = s;
  found = λ uid. sym (found_permuted uid ds es p) ∙ ap (found_by uid) e ∙ found_gathered uid sets;
}
