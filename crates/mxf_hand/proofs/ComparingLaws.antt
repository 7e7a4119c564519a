-- Sources beside each other: what was read of them, what was noted of their overlaps, and that this is where they
-- differ.
use Rattle.mxf_views.proofs.Common.{◌≡◌, ◌≢◌, ◌∙◌, ◌==◌, ◌↔◌, ◌⊎◌, ◌<◌, ◌≤◌, ◌+◌, ◌-◌, ℕ, zero, suc, List, [], ◌∷◌}
use Rattle.mxf_views.proofs.Common.{◌++◌, Option, Some, None, true, false, drop, get_or, length, map, take, refl, sym}
use Rattle.mxf_views.proofs.Common.{ap, subst, inl, inr, append_assoc, arith, eqb-true, cases_lt, false≢true, eq-eqb}
use Rattle.mxf_views.proofs.Common.{drop-drop, take_more, same_Some, slice_get-get_or, slice_get_within, slice_get}
use Rattle.mxf_views.proofs.Common.{AllByRecursion, In, In-append, IsCover, union_of_runs, LiesIn}
use Rattle.mxf_catalogue.specs.declared.run.Run.{Run}
use Rattle.std.proofs.Common.{length-take}
use Rattle.std.specs.Prelude.{Err, IfSome, Ok, OnOk, Result}
use Rattle.mxf_hand.specs.Given.{AreAtHand, AreTold, Differ, HaveExtents, IsGiven, IsGivenAs, SourceParts, StandAt}
use Rattle.mxf_hand.specs.Differing.{AreCompared, AreJoined, DifferAt, GivesAll, GivesAt, IsCompared, IsDifferenceOf}
use Rattle.mxf_hand.specs.Differing.{IsOverlap, IsPartCompared, LiesInOne, run_of_difference, with_bytes}
use Rattle.mxf_hand.specs.Places.{AreApart, ArePlaces, LiesInExtent, LiesInPlace, place}
use Rattle.mxf_hand.specs.declared.given.Extent.{Extent}
use Rattle.mxf_hand.specs.declared.given.Place.{Place}
use Rattle.mxf_hand.specs.declared.given.differing.Difference.{Difference}
use Rattle.mxf_hand.proofs.DifferingLaws.{found_with_bytes, given_as, joined_are, kept_with_bytes, lies_in_differences}
use Rattle.mxf_hand.proofs.DifferingLaws.{one_byte, sound_with_bytes}
use Rattle.mxf_hand.proofs.PlaceLaws.{from_low}
use Rattle.mxf_hand.proofs.ReadBytes.{first_there, got, rest_there, same_offset}

-- ---- reading

-- Bytes that stand behind others in a source, and those behind them.
stands_behind : (sources : List SourceParts) (number position count : ℕ) (a b : List ℕ) → length a ≡ count
    → StandAt sources number position a → StandAt sources number (position + count) b
    → StandAt sources number position (a ++ b)
stands_behind sources number position count a b len s t =
    let same = same_Some s.0 t.0 (sym s.2 ∙ t.2) in
    let behind : drop (position + count) s.0.bytes ≡ b ++ t.1 =
    ap (λ (q : SourceParts). drop (position + count) q.bytes) same ∙ t.3 in
    let rest : drop count (drop position s.0.bytes) ≡ b ++ t.1 = drop-drop count position s.0.bytes ∙ behind in
    let split : drop count (a ++ s.1) ≡ b ++ t.1 = ap (drop count) (sym s.3) ∙ rest in
    let more : s.1 ≡ b ++ t.1 = sym (drop_front count a s.1 len) ∙ split in (
      s.0,
      t.1,
      s.2,
      s.3 ∙ ap (λ (l : List ℕ). a ++ l) more ∙ sym (append_assoc a b t.1),
    )
  where
    drop_front : (n : ℕ) (a more : List ℕ) → length a ≡ n → drop n (a ++ more) ≡ more
    drop_front zero [] more e = refl
    drop_front zero (x ∷ a) more e = absurd (omega (arith, e))
    drop_front (suc n) [] more e = absurd (omega (arith, e))
    drop_front (suc n) (x ∷ a) more e = drop_front n a more (omega (arith, e))

-- So many bytes more were read into the rest of a room.
pub stands_more : (told : Option (List SourceParts)) (number position filled count from : ℕ) (old part whole : List ℕ)
    → filled ≤ length old → count ≤ length part → from ≡ position + filled → whole ≡ take filled old ++ part
    → (filled ≡ 0) ⊎ IfSome told (λ given. StandAt given number position (take filled old))
    → IfSome told (λ given. StandAt given number from (take count part))
    → IfSome told (λ given. StandAt given number position (take (filled + count) whole))
stands_more None number position filled count from old part whole l m at w s t = t
stands_more (Some given) number position filled count from old part whole l m at w s t =
    let front = take filled old in
    let len : length front ≡ filled = omega (arith, length-take filled old, l) in
    let both : take (filled + count) whole ≡ front ++ take count part =
    ap (take (filled + count)) w ∙ take_both filled count front part len in
    let there = subst (λ k. StandAt given number k (take count part)) at t in
    subst (StandAt given number position) (sym both) (elim s [
      | inl none ↦
          let empty : front ≡ [] = no_items front (omega (arith, len, none)) in
          let here : position + filled ≡ position = omega (arith, none) in
          subst (λ (l : List ℕ). StandAt given number position (l ++ take count part)) (sym empty)
          (subst (λ k. StandAt given number k (take count part)) here there)
      | inr k ↦ stands_behind given number position filled front (take count part) len k there
    ])
  where
    no_items : (l : List ℕ) → length l ≡ 0 → l ≡ []
    no_items [] e = refl
    no_items (x ∷ l) e = absurd (omega (arith, e))

    take_both : (n k : ℕ) (a b : List ℕ) → length a ≡ n → take (n + k) (a ++ b) ≡ a ++ take k b
    take_both n k [] b e =
        let same : n + k ≡ k = omega (arith, e) in ap (λ (j : ℕ). take j b) same
    take_both zero k (x ∷ a) b e = absurd (omega (arith, e))
    take_both (suc n) k (x ∷ a) b e =
        let same : suc n + k ≡ suc (n + k) = omega arith in
        ap (λ (j : ℕ). take j (x ∷ (a ++ b))) same ∙ ap (λ (l : List ℕ). x ∷ l) (take_both n k a b (omega (arith, e)))

-- Bytes that stand in a source are those that it gives.
gives_standing : (sources : List SourceParts) (number : ℕ) (s : SourceParts) (bytes more : List ℕ) (at : ℕ)
    → slice_get sources number ≡ Some s → s.offset ≤ at → drop (at - s.offset) s.bytes ≡ bytes ++ more
    → GivesAll sources number at bytes
gives_standing sources number s [] more at is from e = tt
gives_standing sources number s (b ∷ bytes) more at is from e =
    let next : at + 1 - s.offset ≡ at - s.offset + 1 = omega (arith, from) in (
      (s, is, record { from = from; is = first_there s.bytes bytes more (at - s.offset) b e }),
      gives_standing sources number s bytes more (at + 1) is (omega (arith, from))
          (ap (λ k. drop k s.bytes) next ∙ rest_there s.bytes bytes more (at - s.offset) b e),
    )

pub gives_read : (told : Option (List SourceParts)) (extents : List Extent) (given : List SourceParts)
    (number at : ℕ) (e : Extent) (bytes : List ℕ) → AreTold told extents given → slice_get extents number ≡ Some e
    → e.offset ≤ at → IfSome told (λ given. StandAt given number (at - e.offset) bytes) → GivesAll given number at bytes
gives_read told extents given number at e bytes are is from stands = grind (arith, same_offset, gives_standing)

-- ---- what is noted

pub part_compared : (sources : List SourceParts) (p q at size : ℕ) (old new : List Difference) (one other : List ℕ)
    → GivesAll sources p at one → GivesAll sources q at other → length one ≡ size → length other ≡ length one
    → new ≡ with_bytes old at one other → IsPartCompared sources p q at (at + size) old new
part_compared sources p q at size old new one other g h len alike is = record {
  sound = λ all. subst (AllByRecursion (IsDifferenceOf sources)) (sym is)
      (sound_with_bytes sources p q old at one other g h all);
  kept = λ x l.
      subst (λ (ds : List Difference). LiesInOne ds x) (sym is) (kept_with_bytes sources p q old at one other x l);
  found = λ x from before d. subst (λ (ds : List Difference). LiesInOne ds x) (sym is)
      (found_with_bytes sources p q old at one other x g h alike from (omega (arith, before, len)) d);
}

-- An offset lies in one place.
apart_same : (low : ℕ) (places : List Place) → AreApart low places
    → ((p : Place) → In p places → p.start < p.end) → (p q : Place) (x : ℕ) → In p places → In q places
    → LiesInPlace p x → LiesInPlace q x → p ≡ q
apart_same low [] a some p q x h k l m = absurd h
apart_same low (r ∷ places) a some p q x (inl e) (inl f) l m = e ∙ sym f
apart_same low (r ∷ places) a some p q x (inl e) (inr k) l m =
    let above = from_low r.end places q a.1 (λ t n. some t (inr n)) k in
    let end = ap (λ (t : Place). t.end) e in
    let before = l.before in
    let from = m.from in absurd (omega (arith, above, end, before, from))
apart_same low (r ∷ places) a some p q x (inr h) (inl f) l m =
    let above = from_low r.end places p a.1 (λ t n. some t (inr n)) h in
    let end = ap (λ (t : Place). t.end) f in
    let before = m.before in
    let from = l.from in absurd (omega (arith, above, end, before, from))
apart_same low (r ∷ places) a some p q x (inr h) (inr k) l m =
    apart_same r.end places a.1 (λ t n. some t (inr n)) p q x h k l m

-- One part more of an overlap, which lies in one place.
pub compared_more : (sources : List SourceParts) (extents : List Extent) (places : List Place) (overlap p : Place)
    (at size : ℕ) (first old new : List Difference) → IsOverlap extents places overlap → In p places
    → LiesInPlace p at → at + size ≤ p.end → IsCompared sources places (place overlap.start at overlap.source) first old
    → IsPartCompared sources p.source overlap.source at (at + size) old new
    → IsCompared sources places (place overlap.start (at + size) overlap.source) first new
compared_more sources extents places overlap p at size first old new is h l end before part = record {
  sound = λ all. part.sound (before.sound all);
  kept = λ x k. part.kept x (before.kept x k);
  found = λ x q m k n d.
      let from = m.from in
      let below = m.before in
      elim (cases_lt x at) [
        | inl less ↦ part.kept x (before.found x q (record { from = from; before = less }) k n d)
        | inr above ↦ (
            let low = l.from in
            let here : LiesInPlace p x =
            record { from = omega (arith, low, above); before = omega (arith, below, end) } in
            let same = apart_same 0 places is.apart (λ r i. (is.within r i).some) q p x k h n here in
            part.found x above below (subst (λ (r : Place). DifferAt sources r.source overlap.source x) same d))
      ];
}

-- One overlap more.
pub all_compared_more : (sources : List SourceParts) (places overlaps : List Place) (i : ℕ) (d : Place)
    (old new : List Difference) → i < length overlaps → AreCompared sources places (take i overlaps) old
    → IsCompared sources places (get_or overlaps i d) old new → AreCompared sources places (take (i + 1) overlaps) new
all_compared_more sources places overlaps i d old new within before one =
    subst (λ (l : List Place). AreCompared sources places l new) (sym (take_more overlaps i d within)) (record {
      sound = one.sound before.sound;
      found = λ q x p h l k m e.
          elim ((In-append q (take i overlaps) (get_or overlaps i d ∷ [])).0 h) [
            | inl n ↦ one.kept x (before.found q x p n l k m e)
            | inr n ↦ elim n [
              | inl same ↦ one.found x p (subst (λ (r : Place). LiesInPlace r x) same l) k m
                  (subst (λ (r : Place). DifferAt sources p.source r.source x) same e)
              | inr none ↦ absurd none
            ]
          ];
    })

-- ---- overlaps of places

pub number_of : {X : Type 0} (xs : List X) (x : X) → In x xs → (k : ℕ) × (slice_get xs k ≡ Some x)
number_of [] x h = absurd h
number_of (y ∷ xs) x (inl e) = (0, ap Some (sym e))
number_of (y ∷ xs) x (inr h) = let k = number_of xs x h in (suc k.0, k.1)

pub are_overlaps : (extents : List Extent) (places overlaps : List Place) (runs : List Run)
    → ArePlaces extents places overlaps runs → (q : Place) → In q overlaps → IsOverlap extents places q
are_overlaps extents places overlaps runs are q h =
    let is = are.shared q h in record {
      within = are.within;
      apart = are.apart;
      is = is;
      met = λ x l.
          let from = is.from in
          let before = is.before in
          let low = l.from in
          let high = l.before in
          (are.given x).0 (are.all is.extent x (got extents q.source is.extent is.is)
          (record { from = omega (arith, from, low); before = omega (arith, before, high) }));
    }

-- ---- sources and their extents

pub extent_of : (sources : List SourceParts) (extents : List Extent) (k : ℕ) (s : SourceParts) → HaveExtents sources extents
    → slice_get sources k ≡ Some s
    → (e : Extent) × (slice_get extents k ≡ Some e) × (s.offset ≡ e.offset) × (length s.bytes ≡ e.size)
extent_of [] extents k s h is = absurd cc
extent_of (t ∷ sources) [] k s h is = absurd h
extent_of (t ∷ sources) (e ∷ extents) zero s h is =
    let same = same_Some t s is in (
      e,
      refl,
      ap (λ (r : SourceParts). r.offset) (sym same) ∙ h.0,
      ap (λ (r : SourceParts). length r.bytes) (sym same) ∙ h.1,
    )
extent_of (t ∷ sources) (e ∷ extents) (suc k) s h is = extent_of sources extents k s h.2 is

pub source_of : (sources : List SourceParts) (extents : List Extent) (k : ℕ) (e : Extent) → HaveExtents sources extents
    → slice_get extents k ≡ Some e
    → (s : SourceParts) × (slice_get sources k ≡ Some s) × (s.offset ≡ e.offset) × (length s.bytes ≡ e.size)
source_of sources [] k e h is = absurd cc
source_of [] (f ∷ extents) k e h is = absurd h
source_of (s ∷ sources) (f ∷ extents) zero e h is = grind (arith, same_Some)
source_of (s ∷ sources) (f ∷ extents) (suc k) e h is = source_of sources extents k e h.2 is

module _ (sources : List SourceParts) (extents : List Extent) (have : HaveExtents sources extents)
    (places overlaps : List Place) (runs : List Run) (are : ArePlaces extents places overlaps runs) where
  -- What a source gives lies in its extent.
  lies_in_extent : (k x byte : ℕ) → GivesAt sources k x byte
      → (e : Extent) × (slice_get extents k ≡ Some e) × LiesInExtent e x
  lies_in_extent k x byte g =
      let e = extent_of sources extents k g.0 have g.1 in
      let offset = e.2 in
      let size = e.3 in
      let from = g.2.from in
      let within = slice_get_within g.0.bytes (x - g.0.offset) byte g.2.is in
      (e.0, e.1, record { from = omega (arith, offset, from); before = omega (arith, offset, size, from, within) })

  -- The source of a place gives each of its offsets.
  place_gives : (p : Place) (x : ℕ) → In p places → LiesInPlace p x → (byte : ℕ) × GivesAt sources p.source x byte
  place_gives p x h l =
      let is = are.within p h in
      let s = source_of sources extents p.source is.extent have is.is in
      let offset = s.2 in
      let size = s.3 in
      let from = is.from in
      let before = is.before in
      let low = l.from in
      let high = l.before in
      let at = x - s.0.offset in
      let within : at < length s.0.bytes = omega (arith, offset, size, from, before, low, high) in (
        get_or s.0.bytes at 0,
        (s.0, s.1, record { from = omega (arith, offset, from, low); is = slice_get-get_or s.0.bytes at 0 within }),
      )

  numbered : (x byte : ℕ) → IsGivenAs sources x byte → (k : ℕ) × GivesAt sources k x byte
  numbered x byte g = let k = number_of sources g.0 g.1 in (k.0, (g.0, k.1, g.2))

  place_at : (k x byte : ℕ) → GivesAt sources k x byte → (p : Place) × In p places × LiesInPlace p x
  place_at k x byte g =
      let e = lies_in_extent k x byte g in
      (are.given x).0 (are.all e.0 x (got extents k e.0 e.1) e.2)

  -- Exactly the offsets of extents are given.
  given_offsets : (x : ℕ) → LiesIn runs x ↔ IsGiven sources x
  given_offsets x = (
    λ h.
        let p = (are.given x).0 h in
        let g = place_gives p.0 x p.1 p.2 in
        (g.0, given_as sources 0 0 p.0.source x g.0 g.1),
    λ h.
        let k = numbered x h.0 h.1 in
        (are.given x).1 (place_at k.0 x h.0 k.1),
  )

  module _ (noted : List Difference) (compared : AreCompared sources places overlaps noted) where
    -- A source whose byte is another than that of the place has an overlap there, where it was noted.
    noted_beside : (p : Place) (x a : ℕ) → In p places → LiesInPlace p x → GivesAt sources p.source x a → (k b : ℕ)
        → GivesAt sources k x b → a ≢ b → LiesInOne noted x
    noted_beside p x a h l g k b f ne =
        let e = lies_in_extent k x b f in
        let q = are.overlaps k e.0 x e.1 e.2 in
        let of_q : GivesAt sources q.0.source x b = subst (λ n. GivesAt sources n x b) (sym q.1) f in
        elim q.3 [
          | inl own ↦ (
              let same = apart_same 0 places are.apart (λ r i. (are.within r i).some) q.0 p x own h q.2 l in
              absurd (ne (one_byte sources 0 0 p.source x a b g
              (subst (λ (r : Place). GivesAt sources r.source x b) same of_q))))
          | inr shared ↦ compared.found q.0 x p shared q.2 h l
              (record { one = a; other = b; gives_one = g; gives_other = of_q; differs = ne })
        ]

    -- Each offset at which sources differ was noted.
    noted_all : (x : ℕ) → Differ sources x → LiesInOne noted x
    noted_all x d =
        let one = numbered x d.one d.gives_one in
        let other = numbered x d.other d.gives_other in
        let p = place_at one.0 x d.one one.1 in
        let g = place_gives p.0 x p.1 p.2 in
        elim (g.0 == d.one) as (λ c. (g.0 == d.one) ≡ c → LiesInOne noted x) [
          | true ↦ λ e.
              let same = eqb-true g.0 d.one e in
              noted_beside p.0 x g.0 p.1 p.2 g.1 other.0 d.other other.1 (λ q. d.differs (sym same ∙ q))
          | false ↦ λ e.
              noted_beside p.0 x g.0 p.1 p.2 g.1 one.0 d.one one.1 (λ q. false≢true (sym e ∙ eq-eqb g.0 d.one q))
        ] refl

    pub at_hand : (joined : List Difference) (hand : List Run) → AreJoined noted joined → IsCover hand
        → ((x : ℕ) → LiesIn hand x
        ↔ (LiesIn runs x × ¬ LiesIn (union_of_runs [] (map run_of_difference joined)) x)) → AreAtHand sources hand
    at_hand joined hand j cover outside =
        let differing = joined_are sources noted joined j compared.sound noted_all in record {
          cover = cover;
          offsets = λ x.
              let lies = lies_in_differences joined x in (
                λ h.
                    let k = (outside x).0 h in
                    record { given = (given_offsets x).0 k.0; alike = λ i. k.1 (lies.1 ((differing x).1 i)) },
                λ h. (outside x).1 ((given_offsets x).1 h.given, λ i. h.alike ((differing x).0 (lies.0 i))),
              );
        }

-- ---- steps of what reads and compares

pub ok_then : {T E : Type 0} (r : Result T E) (P Q : Type 0) → OnOk r P → (P → Q) → OnOk r Q
ok_then (Ok x) P Q p f = f p
ok_then (Err e) P Q p f = tt
