-- Places at which partitions may stand, each with the streams that it may be of.
use Rattle.mxf_views.proofs.Common.{◌≡◌, ◌∙◌, ◌<◌, ◌≤◌, ◌+◌, ◌⊎◌, ◌++◌, ◌↔◌, ℕ, List, [], ◌∷◌, Option, None, Some, refl}
use Rattle.mxf_views.proofs.Common.{sym, ap, subst, inl, inr, arith, get_or, length, map, slice_get-get_or}
use Rattle.mxf_views.proofs.Common.{slice_get_read, Ok, Result, OnOk, cases_lt, IsTotalOrder, options_total}
use Rattle.mxf_views.proofs.Common.{IsAntisymmetric, nat_cmp-IsAntisymmetric, option_cmp, nat_cmp, on, then_cmp}
use Rattle.mxf_views.proofs.Common.{Ordering, Less, nat_cmp_total, on_total, then_total, NoteParts, In, In-union}
use Rattle.mxf_views.proofs.Common.{IsRising, union, In-at, In-end, In-map, Contains-from_In, lt_from_less, ties}
use Rattle.mxf_views.proofs.Common.{RipAtParts, rip_view_of}
use Rattle.mxf_sets.specs.declared.pack.random_index.RipEntry.{RipEntry}
use Rattle.mxf_views.specs.declared.random_index.RipView.TheVariants.{One}
use Rattle.mxf_views.specs.declared.random_index.Standing.{Standing}
use Rattle.std.proofs.Common.{slice_get}
use Rattle.mxf_restore.specs.declared.named.NamedPlace.{NamedPlace}
use Rattle.mxf_partial.specs.InStreams.{HasNoneBelow, HasNoneFrom, IsFirstFrom, IsInOrder, IsLastBelow}
use Rattle.mxf_partial.specs.Near.{IsOfStream}
use Rattle.mxf_partial.specs.NearTable.{AreListed, AreOfStreams, IsOfNoStream, IsOfStreams, entry_of, named_of, rank}
use Rattle.mxf_partial.specs.declared.place_streams.ListedStream.{ListedStream}
use Rattle.mxf_partial.specs.declared.place_streams.PlaceOf.{PlaceOf}
use Rattle.mxf_partial.proofs.InStreamLaws.{in_order_from, then_less}

-- ---- the streams of a place

abbrev at : ListedStream → ℕ
at e = e.offset

abbrev start : ListedStream → ℕ
start e = 0

abbrev of : ListedStream → ℕ
of e = e.body_sid

module _ (notes : List NoteParts) (listed : List ListedStream) (are : AreListed notes listed) (x : ℕ) where
  pub unlisted : (IsInOrder at start of listed → HasNoneFrom at start of listed x 0) → IsOfStreams notes x None
  unlisted none = λ b. (
    λ t. (are.same b x).1 (λ e h same. let l = none are.order e h same in absurd (omega (arith, l))),
    λ h. tt,
  )

  pub contradicted : (first last : ListedStream) → (IsInOrder at start of listed → IsFirstFrom at start of listed x
      0 first) → (IsInOrder at start of listed → IsLastBelow at start of listed x 1 last)
      → (first.body_sid ≡ last.body_sid → ⊥) → IsOfNoStream notes x
  contradicted first last f l other = λ b h.
      let all = (are.same b x).0 h in
      let a = f are.order in
      let z = l are.order in other (all first a.among a.same ∙ sym (all last z.among z.same))

  pub agreed : (first last : ListedStream) → (IsInOrder at start of listed → IsFirstFrom at start of listed x 0 first)
      → (IsInOrder at start of listed → IsLastBelow at start of listed x 1 last) → first.body_sid ≡ last.body_sid
      → IsOfStreams notes x (Some first.body_sid)
  agreed first last f l same = λ b.
      let a = f are.order in
      let z = l are.order in (
        λ e. (are.same b x).1 (λ y h there.
            let low : first.body_sid ≤ y.body_sid = elim (a.first y h there (omega arith)) [
              | inl m ↦ absurd (omega (arith, m))
              | inr p ↦ p.1
            ] in
            let high : y.body_sid ≤ last.body_sid = elim (z.last y h there (omega arith)) [
              | inl m ↦ absurd (omega (arith, m))
              | inr p ↦ p.1
            ] in omega (arith, low, high, same, e)),
        λ h. (are.same b x).0 h first a.among a.same,
      )

  pub never_alone : {A : Type 0} (first : ListedStream)
      → (IsInOrder at start of listed → IsFirstFrom at start of listed x 0 first)
      → (IsInOrder at start of listed → HasNoneBelow at start of listed x 1) → A
  never_alone first f l =
      let a = f are.order in let m = l are.order first a.among a.same in absurd (omega (arith, m))

-- ---- the entries in their order

abbrev pub listed_cmp : ListedStream → ListedStream → Ordering
listed_cmp = then_cmp (on (λ e. e.offset) nat_cmp) (on (λ e. e.body_sid) nat_cmp)

listed_total : IsTotalOrder listed_cmp
listed_total = then_total (on_total (λ e. e.offset) nat_cmp_total) (on_total (λ e. e.body_sid) nat_cmp_total)

one_listed : IsAntisymmetric listed_cmp
one_listed a b e = grind (arith, ties)

listed_order : (sorted : List ListedStream) → IsRising listed_cmp sorted → IsInOrder at start of sorted
listed_order sorted rises = grind (arith, in_order_from, then_less, lt_from_less)

in_sorted : (items sorted : List ListedStream) (e : ListedStream) → sorted ≡ union listed_cmp [] items
    → In e sorted ↔ In e items
in_sorted items sorted e is =
    let m = In-union listed_total one_listed e [] items in (
      λ h. elim (m.0 (subst (λ (l : List ListedStream). In e l) is h)) [ inl k ↦ absurd k | inr k ↦ k ],
      λ h. subst (λ (l : List ListedStream). In e l) (sym is) (m.1 (inr h)),
    )

pub listed_one : (notes : List NoteParts) (r : RipAtParts) (items sorted : List ListedStream) → rip_view_of notes ≡
    One r
    → items ≡ map entry_of (map (λ e. e.0) r.entries) → sorted ≡ union listed_cmp [] items → IsRising listed_cmp sorted
    → AreListed notes sorted
listed_one notes r items sorted one each is rises =
    record {
      order = listed_order sorted rises;
      same = λ b x. (
        λ h e k there.
            let there_is = (in_sorted items sorted e is).0 k in
            let m = (In-map entry_of (map (λ (f : RipEntry × Standing). f.0) r.entries) e).0
            (subst (λ (l : List ListedStream). In e l) each there_is) in
            let n = (In-map (λ (f : RipEntry × Standing). f.0) r.entries m.0).0 m.1 in
            let entry : e ≡ entry_of n.0.0 = m.2 ∙ ap entry_of n.2 in
            ap (λ (s : ListedStream). s.body_sid) entry
            ∙ h r n.0 one n.1 (ap (λ (s : ListedStream). s.offset) (sym entry) ∙ there),
        λ h q e is_one k there.
            let same : r ≡ q = cc (one, is_one) in
            let here : In e r.entries = subst (λ (p : RipAtParts). In e p.entries) (sym same) k in
            let m = (In-map (λ (f : RipEntry × Standing). f.0) r.entries e.0).1 (e, here, refl) in
            let n = (In-map entry_of (map (λ (f : RipEntry × Standing). f.0) r.entries) (entry_of e.0)).1
            (e.0, m, refl) in
            h (entry_of e.0) ((in_sorted items sorted (entry_of e.0) is).1
            (subst (λ (l : List ListedStream). In (entry_of e.0) l) (sym each) n)) there,
      );
    }

pub listed_none : (notes : List NoteParts) (items sorted : List ListedStream)
    → ((r : RipAtParts) → rip_view_of notes ≡ One r → ⊥) → items ≡ [] → sorted ≡ union listed_cmp [] items
    → IsRising listed_cmp sorted → AreListed notes sorted
listed_none notes items sorted none empty is rises = grind (arith, listed_order, in_sorted)

-- ---- places in their order

abbrev pub place_of_cmp : PlaceOf → PlaceOf → Ordering
place_of_cmp = then_cmp (on (λ p. p.body_sid) (option_cmp nat_cmp))
    (then_cmp (on (λ p. p.place) nat_cmp) (on (λ p. p.source) (option_cmp nat_cmp)))

one_option : IsAntisymmetric (option_cmp nat_cmp)
one_option None None e = refl
one_option None (Some y) e = absurd cc
one_option (Some x) None e = absurd cc
one_option (Some x) (Some y) e = ap (λ (z : ℕ). Some z) (nat_cmp-IsAntisymmetric x y e)

one_place : IsAntisymmetric place_of_cmp
one_place a b e = grind (arith, ties, one_option)

places_total : IsTotalOrder place_of_cmp
places_total = then_total (on_total (λ p. p.body_sid) (options_total nat_cmp_total))
    (then_total (on_total (λ p. p.place) nat_cmp_total) (on_total (λ p. p.source) (options_total nat_cmp_total)))

rank_less : (a b : Option ℕ) → option_cmp nat_cmp a b ≡ Less → rank a < rank b
rank_less None None e = absurd cc
rank_less None (Some y) e = omega arith
rank_less (Some x) None e = absurd cc
rank_less (Some x) (Some y) e = let l = lt_from_less x y e in omega (arith, l)

places_order : (sorted : List PlaceOf) → IsRising place_of_cmp sorted
    → IsInOrder (λ p. rank p.body_sid) (λ p. p.place) (λ p. 0) sorted
places_order sorted rises = in_order_from (λ p. rank p.body_sid) (λ p. p.place) (λ p. 0) place_of_cmp
    (λ x y e. elim (then_less _ _ e) [
      | inl l ↦ inl (rank_less x.body_sid y.body_sid l)
      | inr q ↦ inr (
        ap rank (one_option x.body_sid y.body_sid q.0),
        elim (then_less _ _ q.1) [
          | inl l ↦ inl (lt_from_less _ _ l)
          | inr r ↦ inr (nat_cmp-IsAntisymmetric x.place y.place r.0, omega arith)
        ],
      )
    ]) sorted rises

-- So many of these places have been looked at.
pub record Placed (notes : List NoteParts) (places : List NamedPlace) (count : ℕ) (items : List PlaceOf) : Type 0 where
  pub named : (p : PlaceOf) → In p items → In (named_of p) places × IsOfStreams notes p.place p.body_sid
  pub each : (k : ℕ) (n : NamedPlace) (b : ℕ) → k < count → slice_get places k ≡ Some n → IsOfStream notes b n.place
      → (p : PlaceOf) × In p items × (named_of p ≡ n)

module _ (notes : List NoteParts) (places : List NamedPlace) (count : ℕ) (items : List PlaceOf)
    (was : Placed notes places count items) (n : NamedPlace) (here : slice_get places count ≡ Some n) where
  same_here : (k : ℕ) (m : NamedPlace) → k < count + 1 → slice_get places k ≡ Some m → (k < count) ⊎ (m ≡ n)
  same_here k m l e = grind (arith, cases_lt, slice_get)

  pub placed_none : IsOfNoStream notes n.place → Placed notes places (count + 1) items
  placed_none none =
      record {
        named = was.named;
        each = λ k m b l e h. elim (same_here k m l e) [
          | inl j ↦ was.each k m b j e h
          | inr same ↦ absurd (none b (subst (λ (x : NamedPlace). IsOfStream notes b x.place) same h))
        ];
      }

  pub placed_one : (p : PlaceOf) (more : List PlaceOf) → named_of p ≡ n → In n places
      → IsOfStreams notes n.place p.body_sid → more ≡ items ++ p ∷ [] → Placed notes places (count + 1) more
  placed_one p more is among streams pushed =
      record {
        named = λ q h. elim ((In-end q p items more pushed).0 h) [
          | inl k ↦ was.named q k
          | inr e ↦ subst (λ (r : PlaceOf). In (named_of r) places × IsOfStreams notes r.place r.body_sid) (sym e) (
            subst (λ (m : NamedPlace). In m places) (sym is) among,
            subst (λ (m : NamedPlace). IsOfStreams notes m.place p.body_sid) (sym is) streams,
          )
        ];
        each = λ k m b l e h. elim (same_here k m l e) [
          | inl j ↦ let s = was.each k m b j e h in (s.0, (In-end s.0 p items more pushed).1 (inl s.1), s.2)
          | inr same ↦ (p, (In-end p p items more pushed).1 (inr refl), is ∙ sym same)
        ];
      }

-- All of them have been looked at, and the items are put in their order.
pub placed_all : (notes : List NoteParts) (places : List NamedPlace) (count : ℕ) (items sorted : List PlaceOf)
    → length places ≤ count → Placed notes places count items → sorted ≡ union place_of_cmp [] items
    → IsRising place_of_cmp sorted → AreOfStreams notes places sorted
placed_all notes places count items sorted end was is rises =
    let members = λ (p : PlaceOf). In-union places_total one_place p [] items in
    record {
      order = places_order sorted rises;
      named = λ p h. elim ((members p).0 (subst (λ (l : List PlaceOf). In p l) is h)) [
        | inl k ↦ absurd k
        | inr k ↦ was.named p k
      ];
      each = λ n b h streams.
          let c = Contains-from_In n places h in
          let l : c.0 < length places = c.1 in
          let s = was.each c.0 n b (omega (arith, l, end)) (slice_get_read places (length places) c.0 n refl c.1
          (sym c.2))
          streams in
          (s.0, subst (λ (l : List PlaceOf). In s.0 l) (sym is) ((members s.0).1 (inr s.1)), s.2);
    }

-- What holds at `Ok`, where that is what was given.
pub on_ok : {A E : Type 0} {P : Type 0} (r : Result A E) (x : A) → OnOk r P → r ≡ Ok x → P
on_ok {A} {E} {P} r x h e = let Q : Result A E → Type 0 = λ s. OnOk s P in subst Q e h

-- One more of them, by where it stands.
module _ (notes : List NoteParts) (places : List NamedPlace) (count : ℕ) (items : List PlaceOf) (d : NamedPlace)
    (was : Placed notes places count items) (l : count < length places) where
  pub placed_push : (body_sid : Option ℕ) (more : List PlaceOf)
      → IsOfStreams notes (get_or places count d).place body_sid
      → more ≡ items ++ record {
        body_sid = body_sid;
        place = (get_or places count d).place;
        source = (get_or places count d).source;
      } ∷ [] → Placed notes places (count + 1) more
  placed_push body_sid more streams pushed =
      let n = get_or places count d in
      let p : PlaceOf = record { body_sid = body_sid; place = n.place; source = n.source } in
      placed_one notes places count items was n (slice_get-get_or places count d l) p more refl (In-at places count d l)
      streams pushed

  pub placed_skip : IsOfNoStream notes (get_or places count d).place → Placed notes places (count + 1) items
  placed_skip none =
      placed_none notes places count items was (get_or places count d) (slice_get-get_or places count d l) none
