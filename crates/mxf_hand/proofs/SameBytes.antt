-- What is put together depends on the bytes at hand alone.
use Rattle.mxf_views.proofs.Common.{◌≡◌, ◌∙◌, ◌≤◌, ◌<◌, ◌+◌, ◌-◌, ◌&&◌, ◌++◌, ℕ, zero, suc, Bool, true}
use Rattle.mxf_views.proofs.Common.{false, List, [], ◌∷◌, Option, None, Some, ap, arith, cond, filter, flat_map}
use Rattle.mxf_views.proofs.Common.{map, nat_lt, not, refl, subst, sym, list_all, range_with_len, option_map_or}
use Rattle.mxf_views.proofs.Common.{NoteParts, packet_parts, covered_end, end_of, note_of, SameMembers, filter_alike}
use Rattle.mxf_views.proofs.Common.{reduced_union, IsCover, LiesIn}
use Rattle.mxf_catalogue.specs.declared.run.Run.{Run}
use Rattle.mxf_hand.specs.Given.{Differ, IsAtHand, IsDiffering, IsGivenAs, SourceParts, bytes_between}
use Rattle.mxf_places.specs.AtHand.{has_offsets}
use Rattle.mxf_places.proofs.AtHandLaws.{has_offset-says, has_offsets-says}
use Rattle.mxf_places.specs.Heads.{start_of}
use Rattle.mxf_restore.specs.Sections.{sections_of}
use Rattle.mxf_restore.specs.declared.section.Section.{Section}
use Rattle.mxf_hand.specs.Hand.{AreOf, HandBytes, is_value_at_hand, packet_of, read_bytes}
use Rattle.mxf_hand.specs.Hand.{read_to}
use Rattle.mxf_hand.specs.Heads.{fits, fitting}
use Rattle.mxf_hand.specs.Rounds.{is_taken, put_together, read_heads_in, read_heads_of, round, rounds}
use Rattle.mxf_hand.specs.Sections.{ends_within, from_of, heads_of, made_of, made_of_head, packets_of}
use Rattle.mxf_hand.specs.Sections.{read_from}
use Rattle.mxf_hand.specs.declared.found.CutHead.{CutHead}
use Rattle.mxf_hand.proofs.HandLaws.{one_hand, read_lies}
use Rattle.mxf_read.specs.ValueSoFar.{noted_if, passes}

-- ---- lists

same_range : (f g : ℕ → ℕ) (a n : ℕ) → ((x : ℕ) → a ≤ x → x < a + n → f x ≡ g x)
    → map f (range_with_len a n) ≡ map g (range_with_len a n)
same_range f g a zero same = refl
same_range f g a (suc n) same = (λ i. same a (omega arith) (omega arith) i
    ∷ same_range f g (a + 1) n (λ x low high. same x (omega arith) (omega arith)) i)

same_all : (p q : ℕ → Bool) (xs : List ℕ) → ((x : ℕ) → p x ≡ q x) → list_all p xs ≡ list_all q xs
same_all p q [] same = refl
same_all p q (x ∷ xs) same = λ i. same x i && same_all p q xs same i

same_each : {K L : Type 0} (f g : K → List L) (xs : List K) → ((x : K) → f x ≡ g x) → flat_map f xs ≡ flat_map g xs
same_each f g [] same = refl
same_each f g (x ∷ xs) same = λ i. same x i ++ same_each f g xs same i

read_alike : (f g : ℕ → List NoteParts) (o : Option ℕ) → ((q : ℕ) → f q ≡ g q)
    → option_map_or f o [] ≡ option_map_or g o []
read_alike f g None same = refl
read_alike f g (Some q) same = same q

one_alike : (f g : NoteParts → List NoteParts) (o : Option NoteParts) → ((n : NoteParts) → f n ≡ g n)
    → option_map_or f o [] ≡ option_map_or g o []
one_alike f g None same = refl
one_alike f g (Some n) same = same n

-- The third of four tests.
lasts : (a b c d : Bool) → ((a && (b && c)) && d) ≡ true → c ≡ true
lasts true true true d e = refl
lasts true true false d e = absurd cc
lasts true false c d e = absurd cc
lasts false b c d e = absurd cc

-- ---- bytes that agree on the runs

-- Other bytes in the same runs.
abbrev with_byte : HandBytes → (ℕ → ℕ) → HandBytes
with_byte h f = record { scan = h.scan; runs = h.runs; byte = f }

module _ (h : HandBytes) (f : ℕ → ℕ) (cover : IsCover h.runs) (agree : (x : ℕ) → LiesIn h.runs x → h.byte x ≡ f x) where
  same_bytes : (from to : ℕ) → ((x : ℕ) → from ≤ x → x < to → LiesIn h.runs x)
      → bytes_between h.byte from to ≡ bytes_between f from to
  same_bytes from to lies = same_range h.byte f from (to - from) (λ x low high. agree x (lies x low (omega arith)))

  same_read : (end : Option ℕ) (from : ℕ) → read_bytes h end from ≡ read_bytes (with_byte h f) end from
  same_read end from = same_bytes from (read_to h.runs end from) (λ x low high. read_lies h.runs end from x low high)

  same_fit : (n : NoteParts) → fits h n ≡ fits (with_byte h f) n
  unfolding fits
  same_fit n = grind (arith, same_all, has_offset-says)

  same_fitting : (notes : List NoteParts) (first : ℕ) → fitting h notes first ≡ fitting (with_byte h f) notes first
  same_fitting notes first = grind (arith, filter_alike, same_fit)

  same_from : (notes : List NoteParts) (p : Section) → from_of h notes p ≡ from_of (with_byte h f) notes p
  same_from notes p = ap (read_from (start_of notes p.first)) (same_fitting notes p.first)

  same_packets : (notes : List NoteParts) (p : Section) → packets_of h notes p ≡ packets_of (with_byte h f) notes p
  same_packets notes p = grind (arith, read_alike, same_read, same_from)

  same_heads : (notes : List NoteParts) (p : Section) → heads_of h notes p ≡ heads_of (with_byte h f) notes p
  same_heads notes p = grind (arith, read_alike, same_read, same_from)

  same_packet : (end : Option ℕ) (n : NoteParts) → made_of_head h end n ≡ made_of_head (with_byte h f) end n
  same_packet end n =
      let test = is_value_at_hand h n && ends_within end n in
      elim test as (λ b. test ≡ b → cond b (packet_of h n ∷ []) [] ≡ cond b (packet_of (with_byte h f) n ∷ []) []) [
        | true ↦ λ e.
            let all = lasts (not n.whole) (nat_lt 0 n.length) (has_offsets h.runs (covered_end n) (end_of n))
            (ends_within end n) e in
            let lies = (has_offsets-says h.runs (covered_end n) (end_of n) cover).0 all in
            ap (λ (l : List ℕ). noted_if (passes h.scan n.key n.length)
            (note_of n.offset (packet_parts n.key n.width l)) ∷ [])
            (same_bytes (covered_end n) (end_of n) lies)
        | false ↦ λ e. refl
      ] refl

  same_made : (notes : List NoteParts) (p : Section) → made_of h notes p ≡ made_of (with_byte h f) notes p
  same_made notes p = grind (arith, one_alike, same_packet, same_fitting)

  same_round : (notes : List NoteParts) → round h notes ≡ round (with_byte h f) notes
  unfolding round
  same_round notes =
      let sections = sections_of notes in
      let packets = same_each (packets_of h notes) (packets_of (with_byte h f) notes) sections (same_packets notes) in
      let made = same_each (made_of h notes) (made_of (with_byte h f) notes) sections (same_made notes) in
      let heads : read_heads_in h notes sections ≡ read_heads_in (with_byte h f) notes sections =
      same_each (read_heads_of h notes) (read_heads_of (with_byte h f) notes) sections
      (λ p. ap (map (λ n. record { note = n; hole_end = p.hole.end })) (same_heads notes p)) in
      λ i. reduced_union notes (packets i ++ (made i ++ map (λ (c : CutHead). c.note)
      (filter (is_taken (packets i ++ map (λ (c : CutHead). c.note) (heads i))) (heads i))))

  same_rounds : (count : ℕ) (notes : List NoteParts) → rounds count h notes ≡ rounds count (with_byte h f) notes
  unfolding rounds
  same_rounds zero notes = refl
  same_rounds (suc count) notes =
      same_rounds count (round h notes) ∙ ap (rounds count (with_byte h f)) (same_round notes)

  pub same_together : (notes : List NoteParts) → put_together h notes ≡ put_together (with_byte h f) notes
  unfolding put_together
  same_together notes = same_rounds 64 notes

-- ---- sources

pub one_together : (sources : List SourceParts) (h k : HandBytes) (notes : List NoteParts) → AreOf sources h
    → AreOf sources k → h.scan ≡ k.scan → put_together h notes ≡ put_together k notes
one_together sources h k notes a b same =
    let runs : h.runs ≡ k.runs = one_hand sources h.runs k a.offsets b in
    same_together h k.byte a.offsets.cover (λ x lies.
    let given = ((a.offsets.offsets x).0 lies).given in
    a.bytes x given.0 lies given.1
    ∙ sym (b.bytes x given.0 (subst (λ (l : List Run). LiesIn l x) runs lies) given.1)) notes
    ∙ (λ i. put_together (record { scan = same i; runs = runs i; byte = k.byte }) notes)

-- The same bytes are given by sources in another order.
given_also : (some others : List SourceParts) (x b : ℕ) → SameMembers some others → IsGivenAs some x b
    → IsGivenAs others x b
given_also some others x b same (s, i, g) = (s, (same s).0 i, g)

back : (some others : List SourceParts) → SameMembers some others → SameMembers others some
back some others same s = ((same s).1, (same s).0)

differ_also : (some others : List SourceParts) (x : ℕ) → SameMembers some others → Differ some x → Differ others x
differ_also some others x same d = grind (arith, given_also)

differing_also : (some others : List SourceParts) (x : ℕ) → SameMembers some others → IsDiffering some x
    → IsDiffering others x
differing_also some others x same d = grind (arith, differ_also)

at_hand_also : (some others : List SourceParts) (x : ℕ) → SameMembers some others → IsAtHand some x → IsAtHand others x
at_hand_also some others x same a = record {
  given = (a.given.0, given_also some others x a.given.0 same a.given.1);
  alike = λ d. a.alike (differing_also others some x (back some others same) d);
}

pub in_any_order : (some others : List SourceParts) (h : HandBytes) → SameMembers some others → AreOf some h
    → AreOf others h
in_any_order some others h same a = record {
  offsets = record {
    cover = a.offsets.cover;
    offsets = λ x. (
      λ l. at_hand_also some others x same ((a.offsets.offsets x).0 l),
      λ l. (a.offsets.offsets x).1 (at_hand_also others some x (back some others same) l),
    );
  };
  bytes = λ x b lies gives. a.bytes x b lies (given_also others some x b (back some others same) gives);
}
