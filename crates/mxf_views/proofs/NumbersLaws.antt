-- What is said of partitions by their numbers, and of the partitions themselves, by definitions that look at no label.
use Rattle.mxf_views.proofs.Common.{◌≡◌, ◌∙◌, ℕ, Bool, true, false, cond, List, [], ◌∷◌, Option, None, Some, ap, refl}
use Rattle.mxf_views.proofs.Common.{sym, ◌==◌, ◌&&◌, ◌||◌, filter, find, if◌then◌else◌, list_any, map, nat_le, not}
use Rattle.mxf_views.proofs.Common.{option_map, NoteParts, PartitionParts, RipParts, lies_between, rip_in}
use Rattle.mxf_views.proofs.Common.{rip_view_among, rip_view_by, standing_of, stands_at, stands_between, cons_option}
use Rattle.mxf_views.proofs.Common.{eqb-true, filter_map, found-In, link_of, list_all, in_numbers, link_by}
use Rattle.mxf_views.specs.declared.random_index.RipView.TheVariants.{One}
use Rattle.mxf_sets.specs.declared.pack.random_index.RipEntry.{RipEntry}
use Rattle.mxf_views.specs.RandomIndex.{standing_by, standings_among}
use Rattle.mxf_views.specs.declared.chain.Link.TheVariants.{First, Held, Missing, Skips, Wrong}

pub any_mapped : {A B : Type 0} (t : B → Bool) (f : A → B) (xs : List A)
    → list_any t (map f xs) ≡ list_any (λ x. t (f x)) xs
any_mapped t f [] = refl
any_mapped t f (x ∷ xs) = ap (λ b. t (f x) || b) (any_mapped t f xs)

pub all_mapped : {A B : Type 0} (t : B → Bool) (f : A → B) (xs : List A)
    → list_all t (map f xs) ≡ list_all (λ x. t (f x)) xs
all_mapped t f [] = refl
all_mapped t f (x ∷ xs) = ap (λ b. t (f x) && b) (all_mapped t f xs)

pub filter_map_mapped : {A B C : Type 0} (t : B → Option C) (f : A → B) (xs : List A)
    → filter_map t (map f xs) ≡ filter_map (λ x. t (f x)) xs
filter_map_mapped t f [] = refl
filter_map_mapped t f (x ∷ xs) = ap (cons_option (t (f x))) (filter_map_mapped t f xs)

pub find_mapped : {A B : Type 0} (t : B → Bool) (f : A → B) (xs : List A)
    → find t (map f xs) ≡ option_map f (find (λ x. t (f x)) xs)
find_mapped t f [] = refl
find_mapped t f (x ∷ xs) = elim (t (f x)) as (λ b. cond b (Some (f x)) (find t (map f xs))
    ≡ option_map f (cond b (Some x) (find (λ x. t (f x)) xs))) [ true ↦ refl | false ↦ find_mapped t f xs ]

pub filter_mapped : {A B : Type 0} (t : B → Bool) (f : A → B) (xs : List A)
    → filter t (map f xs) ≡ map f (filter (λ x. t (f x)) xs)
filter_mapped t f [] = refl
filter_mapped t f (x ∷ xs) =
    let ih = filter_mapped t f xs in
    elim (t (f x)) as (λ b. cond b (f x ∷ filter t (map f xs)) (filter t (map f xs))
    ≡ map f (cond b (x ∷ filter (λ x. t (f x)) xs) (filter (λ x. t (f x)) xs))) [
      | true ↦ ap (λ l. f x ∷ l) ih
      | false ↦ ih
    ]

-- ---- links

pub link_in_numbers : (ps : List PartitionParts) (offset previous : ℕ)
    → link_by (map in_numbers ps) offset previous ≡ link_by ps offset previous
link_in_numbers ps offset previous =
    let at : stands_at previous (map in_numbers ps) ≡ stands_at previous ps =
    any_mapped (λ (p : PartitionParts). p.offset == previous) in_numbers ps in
    let between : stands_between previous offset (map in_numbers ps) ≡ stands_between previous offset ps =
    any_mapped (λ (p : PartitionParts). lies_between previous offset p.offset) in_numbers ps in
    λ i. if offset == 0 then (if previous == 0 then First else Wrong) else (
    if nat_le offset previous then Wrong else (
    if not (at i) then Missing else (
    if between i then Skips else Held)))

-- The link of the partition that is found.
pub link_there : (ps : List PartitionParts) (o : ℕ) (q : PartitionParts)
    → Some q ≡ option_map in_numbers (find (λ p. p.offset == o) ps)
    → Some (link_by ps o q.pack.numbers.previous_partition) ≡ option_map (link_of ps) (find (λ p. p.offset == o) ps)
link_there ps o q e =
    let at = λ (p : PartitionParts). p.offset == o in
    elim (find at ps) as (λ f. find at ps ≡ f → Some q ≡ option_map in_numbers f
    → Some (link_by ps o q.pack.numbers.previous_partition) ≡ option_map (link_of ps) f) [
      | None ↦ λ f u. absurd cc
      | Some p ↦ λ f u. (
          let same : q ≡ in_numbers p = cc (u) in
          let here : p.offset ≡ o = eqb-true p.offset o (found-In at ps p f).1 in
          ap (λ (x : PartitionParts). Some (link_by ps o x.pack.numbers.previous_partition)) same
          ∙ ap (λ (x : ℕ). Some (link_by ps x p.pack.numbers.previous_partition)) (sym here))
    ] refl e

-- ---- random index packs

standing_in_numbers : (ps : List PartitionParts) (e : RipEntry) → standing_of (map in_numbers ps) e ≡ standing_of ps e
standing_in_numbers ps e =
    let at = λ (p : PartitionParts). p.offset == e.offset in
    ap (standing_by e) (find_mapped at in_numbers ps)
    ∙ elim (find at ps) as (λ o. standing_by e (option_map in_numbers o) ≡ standing_by e o) [
      | None ↦ refl
      | Some p ↦ refl
    ]

standings_in_numbers : (ps : List PartitionParts) (es : List RipEntry)
    → standings_among (map in_numbers ps) es ≡ standings_among ps es
standings_in_numbers ps [] = refl
standings_in_numbers ps (e ∷ es) =
    let one = standing_in_numbers ps e in
    let rest = standings_in_numbers ps es in λ i. (e, one i) ∷ rest i

-- The entries by themselves.
pub listed_alone : (ps : List PartitionParts) (es : List RipEntry) → map (λ e. e.0) (standings_among ps es) ≡ es
listed_alone ps [] = refl
listed_alone ps (e ∷ es) = ap (λ l. e ∷ l) (listed_alone ps es)

rip_by_numbers : (ps : List PartitionParts) (offset : ℕ) (r : Option RipParts)
    → rip_view_by (map in_numbers ps) offset r ≡ rip_view_by ps offset r
rip_by_numbers ps offset None = refl
rip_by_numbers ps offset (Some rip) =
    let same = standings_in_numbers ps rip.entries in λ i. One (record { offset = offset; entries = same i })

pub rip_in_numbers : (ps : List PartitionParts) (rips : List NoteParts)
    → rip_view_among (map in_numbers ps) rips ≡ rip_view_among ps rips
rip_in_numbers ps [] = refl
rip_in_numbers ps (n ∷ []) = rip_by_numbers ps n.offset (rip_in n)
rip_in_numbers ps (m ∷ n ∷ rips) = refl
