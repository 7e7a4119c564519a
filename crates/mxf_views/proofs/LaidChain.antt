-- The links of partitions that rise, each of which names the one before it: they are those of a reading from the front.
use Rattle.mxf_views.proofs.Common.{◌≡◌, ℕ, ◌+◌, ◌<◌, ◌≤◌, Bool, true, false, cond, not, ◌||◌, ◌==◌, nat_lt, List, []}
use Rattle.mxf_views.proofs.Common.{◌∷◌, ◌++◌, ◌⊎◌, find, count_by, Option, None, Some, is_some, refl, AllByRecursion}
use Rattle.mxf_views.proofs.Common.{list_all, option_map, sym, ◌∙◌, ap, subst, inl, inr, arith, eq-eqb, ltb-true}
use Rattle.mxf_views.proofs.Common.{and_from, false_from_ne_true, sum_by-append, In, PartitionParts, is_footer}
use Rattle.mxf_views.proofs.Common.{is_greatest, is_header, is_linked, link_at, link_of, count_by-cons, tally}
use Rattle.mxf_views.proofs.Common.{list_any-In, In-list_all, all-In, all_from_In, IsGreatestBelow, link_read_at}
use Rattle.mxf_views.proofs.Common.{links_read, count-none, or_right, all_push}
use Rattle.mxf_views.specs.declared.chain.Link.TheVariants.{First, Held}
use Rattle.mxf_views.specs.Partitions.{stands_above}
use Rattle.mxf_views.specs.Reading.{ends_with_footer, link_read}
use Rattle.mxf_views.specs.WellFormed.{NameTheOneBefore}
use Rattle.mxf_views.proofs.PartitionLaws.{link_iff}
use Rattle.mxf_views.proofs.RisingPartitions.{IsRisingFrom, at_or_above}

offset-same : (p q : PartitionParts) → p ≡ q → p.offset ≡ q.offset
offset-same p q e = ap (λ (x : PartitionParts). x.offset) e

-- ---- the header and the footer

-- Where none passes, none is counted.
count_none : (t : PartitionParts → Bool) (xs : List PartitionParts) → AllByRecursion (λ x. t x ≡ false) xs
    → count_by t xs ≡ 0
count_none t xs a = count-none t xs (λ x h e. let f = all-In (λ y. t y ≡ false) xs x a h in cc (e, f))

-- Where the first alone passes, one is counted.
count_first : (t : PartitionParts → Bool) (y : PartitionParts) (ys : List PartitionParts) → t y ≡ true
    → AllByRecursion (λ x. t x ≡ false) ys → count_by t (y ∷ ys) ≡ 1
count_first t y ys h a = grind (arith, count_by-cons, tally, count_none)

-- The first partition is a header at 0, and no other is a header.
abbrev pub BeginsAtZero : List PartitionParts → Type 0
BeginsAtZero [] = ⊥
BeginsAtZero (q ∷ qs) =
    (q.offset ≡ 0) × (is_header q.pack.part ≡ true) × AllByRecursion (λ p. is_header p.pack.part ≡ false) qs

pub one_header : (parts : List PartitionParts) → BeginsAtZero parts → count_by (λ p. is_header p.pack.part) parts ≡ 1
one_header [] b = absurd b
one_header (q ∷ qs) b = count_first (λ p. is_header p.pack.part) q qs b.1 b.2

-- The last partition is a footer, and no other is one.
pub record EndsInFooter (parts : List PartitionParts) : Type 0 where
  pub before : List PartitionParts
  pub footer : PartitionParts
  pub order : parts ≡ before ++ footer ∷ []
  pub only : AllByRecursion (λ p. is_footer p.pack.part ≡ false) before
  pub is_one : is_footer footer.pack.part ≡ true

pub one_footer : (parts : List PartitionParts) → EndsInFooter parts → count_by (λ p. is_footer p.pack.part) parts ≡ 1
one_footer parts f = grind (arith, is_footer, count_by, sum_by-append, cond, count_none, count_first)

In-end : (x : PartitionParts) (xs : List PartitionParts) → In x (xs ++ x ∷ [])
In-end x [] = inl refl
In-end x (z ∷ zs) = inr (In-end x zs)

-- None stands above the last.
last_greatest : (low : ℕ) (bs : List PartitionParts) (f x : PartitionParts) → IsRisingFrom low (bs ++ f ∷ [])
    → In x (bs ++ f ∷ []) → x.offset ≤ f.offset
last_greatest low [] f x r (inl e) = let o = offset-same x f e in omega (arith, o)
last_greatest low [] f x r (inr h) = absurd h
last_greatest low (b ∷ bs) f x r (inl e) = grind (arith, offset-same, at_or_above, In-end)
last_greatest low (b ∷ bs) f x r (inr h) = last_greatest (b.offset + 1) bs f x r.1 h

footer_greatest : (parts : List PartitionParts) (f : EndsInFooter parts) → IsRisingFrom 0 parts
    → is_greatest parts f.footer ≡ true
footer_greatest parts f r = ap not (false_from_ne_true (stands_above f.footer.offset parts) (λ t.
    let s = (list_any-In (λ x. nat_lt f.footer.offset x.offset) parts).0 t in
    let a : f.footer.offset < s.0.offset = ltb-true f.footer.offset s.0.offset s.2 in
    let b : s.0.offset ≤ f.footer.offset = last_greatest 0 f.before f.footer s.0 (subst (IsRisingFrom 0) f.order r)
    (subst (λ ps. In s.0 ps) f.order s.1) in
    omega arith))

-- Each footer is the greatest.
pub footers_greatest : (parts : List PartitionParts) → EndsInFooter parts → IsRisingFrom 0 parts
    → list_all (λ p. not (is_footer p.pack.part) || is_greatest parts p) parts ≡ true
footers_greatest parts f r =
    let Q : PartitionParts → Type 0 = λ p. (not (is_footer p.pack.part) || is_greatest parts p) ≡ true in
    let before : AllByRecursion Q f.before = all_from_In Q f.before (λ x h.
    let e : is_footer x.pack.part ≡ false = all-In (λ p. is_footer p.pack.part ≡ false) f.before x f.only h in
    rw e refl) in
    let last : Q f.footer = or_right _ _ (footer_greatest parts f r) in
    let all : AllByRecursion Q parts
    = subst (AllByRecursion Q) (sym f.order) (all_push Q f.before f.footer before last) in
    In-list_all (λ p. not (is_footer p.pack.part) || is_greatest parts p) parts (λ x h. all-In Q parts x all h)

-- The last of these is the footer.
ends-append : (bs : List PartitionParts) (f : PartitionParts) → ends_with_footer (bs ++ f ∷ []) ≡ is_footer f.pack.part
ends-append [] f = refl
ends-append (b ∷ []) f = refl
ends-append (b ∷ c ∷ cs) f = ends-append (c ∷ cs) f

pub ends_in_footer : (parts : List PartitionParts) → EndsInFooter parts → ends_with_footer parts ≡ true
ends_in_footer parts f = ap ends_with_footer f.order ∙ ends-append f.before f.footer ∙ f.is_one

-- ---- the links

-- A partition that names the greatest one below it has link Held.
held : (all : List PartitionParts) (q p : PartitionParts) → In q all → q.offset < p.offset
    → p.pack.numbers.previous_partition ≡ q.offset
    → ((x : PartitionParts) → In x all → x.offset < p.offset → x.offset ≤ q.offset) → link_of all p ≡ Held
held all q p h l e near = (link_iff all p Held).1 (subst (IsGreatestBelow all p.offset) (sym e)
    record { there = (q, h, refl); below = l; greatest = near })

-- All that come after a partition are Held, where the others stand at it or below it.
held-after : (all : List PartitionParts) (q : PartitionParts) (post : List PartitionParts) → In q all
    → ((x : PartitionParts) → In x post → In x all)
    → ((x : PartitionParts) → In x all → (x.offset ≤ q.offset) ⊎ In x post) → IsRisingFrom (q.offset + 1) post
    → NameTheOneBefore q.offset post → AllByRecursion (λ p. link_of all p ≡ Held) post
held-after all q [] h i near r n = tt
held-after all q (p ∷ ps) h i near r n =
    grind (arith, held, at_or_above, offset-same, held-after all p ps (i p (inl refl)) (λ x k. i x (inr k)))

-- What is read of each partition is its link, after a partition at an offset or none.
abbrev AreRead : List PartitionParts → Option ℕ → List PartitionParts → Type 0
AreRead all before [] = Unit {0}
AreRead all before (p ∷ ps) = (link_read before p ≡ Some (link_of all p)) × AreRead all (Some p.offset) ps

read-after : (all : List PartitionParts) (before : ℕ) (ps : List PartitionParts)
    → AllByRecursion (λ p. link_of all p ≡ Held) ps → NameTheOneBefore before ps → AreRead all (Some before) ps
read-after all before [] a n = tt
read-after all before (p ∷ ps) a n =
    let r : link_read (Some before) p ≡ Some Held = rw (n.0, eq-eqb before before refl) refl in
    (r ∙ ap Some (sym a.0), read-after all p.offset ps a.1 n.1)

-- The link at an offset is what is read of the pack at that offset.
found_read : (all : List PartitionParts) (offset : ℕ) (before : Option ℕ) (ps : List PartitionParts)
    → AreRead all before ps
    → option_map (link_of all) (find (λ p. p.offset == offset) ps) ≡ link_read_at offset (links_read before ps)
found_read all offset before [] a = refl
found_read all offset before (p ∷ ps) a = grind (arith, found_read all offset (Some p.offset) ps a.1)

-- A link is read of each.
all_some : (all : List PartitionParts) (before : Option ℕ) (ps : List PartitionParts) → AreRead all before ps
    → list_all (λ l. is_some l.1) (links_read before ps) ≡ true
all_some all before [] a = refl
all_some all before (p ∷ ps) a =
    and_from (is_some (link_read before p)) (list_all (λ l. is_some l.1) (links_read (Some p.offset) ps))
    (ap is_some a.0) (all_some all (Some p.offset) ps a.1)

-- The links are those that are read, and each is the right one.
pub record AreLinked (parts : List PartitionParts) : Type 0 where
  pub links : (offset : ℕ) → link_at offset parts ≡ link_read_at offset (links_read None parts)
  pub linked : list_all (is_linked parts) parts ≡ true
  pub some : list_all (λ l. is_some l.1) (links_read None parts) ≡ true

pub all_linked : (parts : List PartitionParts) → BeginsAtZero parts → IsRisingFrom 0 parts → NameTheOneBefore 0 parts
    → AreLinked parts
all_linked [] b r n = absurd b
all_linked (q ∷ qs) b r n =
    let all : List PartitionParts = q ∷ qs in
    let first : link_of all q ≡ First = (link_iff all q First).1 (b.0, n.0) in
    let later : AllByRecursion (λ p. link_of all p ≡ Held) qs = held-after all q qs (inl refl) (λ x k. inr k)
    (λ x k. elim k [ inl e ↦ let o = offset-same x q e in inl (omega (arith, o)) | inr m ↦ inr m ]) r.1 n.1 in
    let read : AreRead all None all = (ap Some (sym first), read-after all q.offset qs later n.1) in
    let linked : (x : PartitionParts) → In x all → is_linked all x ≡ true = λ x k. elim k [
      | inl e ↦ ap (is_linked all) e ∙ rw (b.1, first) refl
      | inr m ↦
          let h : is_header x.pack.part ≡ false = all-In (λ p. is_header p.pack.part ≡ false) qs x b.2 m in
          let l : link_of all x ≡ Held = all-In (λ p. link_of all p ≡ Held) qs x later m in
          rw (h, l) refl
    ] in
    record {
      links = λ offset. found_read all offset None all read;
      linked = In-list_all (is_linked all) all linked;
      some = all_some all None all read;
    }
