-- The index of a well-formed file is that of its reading.
use Rattle.mxf_views.proofs.Common.{◌≡◌, ℕ, ◌+◌, ◌==◌, true, false, List, [], ◌∷◌, cond, filter_map, None, Some, refl}
use Rattle.mxf_views.proofs.Common.{AllByRecursion, cons_option, option_map, option_map_or, sym, ◌∙◌, ap, inl, inr}
use Rattle.mxf_views.proofs.Common.{tied_itself, kind_of, note_of, size_of, PacketParts, notes_from, In, with_one}
use Rattle.mxf_views.proofs.Common.{union, stream_offset, segment_at, SegmentAtParts, is_segment, place_cmp, place_by}
use Rattle.mxf_views.proofs.Common.{placed_segment, segments_of, place_by_segment, segments_read, Agree, IsWellFormed}
use Rattle.mxf_views.proofs.Common.{given_by, HasIndexOf, clear-laid, in_stream, place_in}
use Rattle.mxf_views.specs.declared.index.place.StreamPlace.{StreamPlace}
use Rattle.mxf_views.specs.declared.index.place.Place.TheVariants.{NotIndexed, At, Ambiguous}
use Rattle.mxf_views.specs.Places.{place_of}
use Rattle.mxf_views.specs.Records.{read_segment}
use Rattle.mxf_views.specs.declared.index.place.Place.{Place}
use Rattle.mxf_views.specs.Reading.{place_read, segment_read}
use Rattle.mxf_views.proofs.Laid.{read_as-note}
use Rattle.mxf_views.proofs.PlaceLaws.{place_total, same_place}

-- The segment of a packet's note is that of the packet.
segment-note : (at : ℕ) (p : PacketParts) → placed_segment (note_of at p) ≡ segment_read at p
unfolding placed_segment read_segment
segment-note at p = λ i. option_map (λ segment. record { offset = at; segment = segment })
    (cond (is_segment (kind_of p.key)) (read_as-note segment_at at p i) None)

filter_map-laid : (at : ℕ) (l : List PacketParts) → filter_map placed_segment (notes_from at l) ≡ segments_read at l
filter_map-laid at [] = refl
filter_map-laid at (p ∷ ps) = λ i. cons_option (segment-note at p i) (filter_map-laid (at + size_of p) ps i)

-- The segments of a file.
segments_of-laid : (at : ℕ) (l : List PacketParts) → segments_of (notes_from at l) ≡ segments_read at l
unfolding segments_of
segments_of-laid at l = ap (filter_map placed_segment) (clear-laid at l) ∙ filter_map-laid at l

-- Where a unit is put of which one place is given, and its numbers.
abbrev place_at : StreamPlace → Place
place_at p = At p.body_sid p.offset

abbrev stream_in : Place → ℕ
stream_in NotIndexed = 0
stream_in (At body_sid offset) = body_sid
stream_in (Ambiguous p q) = 0

abbrev offset_in : Place → ℕ
offset_in NotIndexed = 0
offset_in (At body_sid offset) = offset
offset_in (Ambiguous p q) = 0

from_place : (p q : StreamPlace) → place_at p ≡ place_at q → p ≡ q
from_place p q e = same_place p q (ap stream_in e) (ap offset_in e)

place-given : (sid unit : ℕ) (s : SegmentAtParts)
    → place_by_segment sid unit s.segment ≡ option_map place_at (given_by sid unit s)
unfolding given_by
place-given sid unit s = elim (s.segment.numbers.index_sid == sid) as (λ b.
    cond b (option_map (At s.segment.numbers.body_sid) (stream_offset s.segment unit)) None
    ≡ option_map place_at (cond b (place_in unit s) None)) [
      | true ↦ elim (stream_offset s.segment unit) as (λ o. option_map (At s.segment.numbers.body_sid) o
          ≡ option_map place_at (option_map (in_stream s) o)) [ None ↦ refl | Some offset ↦ refl ]
      | false ↦ refl
    ]

-- Segments give one place where they agree.
one_given : (segments : List SegmentAtParts) (sid unit : ℕ) (s t : SegmentAtParts) (p q : StreamPlace) → Agree segments
    → In s segments → In t segments → given_by sid unit s ≡ Some p → given_by sid unit t ≡ Some q → p ≡ q
one_given segments sid unit s t p q a h k e f = from_place p q (a s t sid unit (place_at p) (place_at q) h k
    (place-given sid unit s ∙ ap (option_map place_at) e) (place-given sid unit t ∙ ap (option_map place_at) f))

agree_later : (s : SegmentAtParts) (ss : List SegmentAtParts) → Agree (s ∷ ss) → Agree ss
agree_later s ss a = λ t u sid unit p q h k e f. a t u sid unit p q (inr h) (inr k) e f

-- Places that are all one are one.
one_alone : (p : StreamPlace) (xs : List StreamPlace) → AllByRecursion (λ x. x ≡ p) xs
    → union place_cmp (p ∷ []) xs ≡ p ∷ []
one_alone p [] a = refl
one_alone p (x ∷ xs) a =
    let e : with_one place_cmp x (p ∷ []) ≡ p ∷ [] =
    ap (λ z. with_one place_cmp z (p ∷ [])) a.0 ∙ rw (tied_itself place_total p) refl in
    ap (λ l. union place_cmp l xs) e ∙ one_alone p xs a.1

all_one : (sid unit : ℕ) (p : StreamPlace) (ss : List SegmentAtParts)
    → ((t : SegmentAtParts) (q : StreamPlace) → In t ss → given_by sid unit t ≡ Some q → q ≡ p)
    → AllByRecursion (λ x. x ≡ p) (filter_map (given_by sid unit) ss)
all_one sid unit p [] f = tt
all_one sid unit p (s ∷ ss) f =
    let ih = all_one sid unit p ss (λ t q h e. f t q (inr h) e) in
    elim (given_by sid unit s) as (λ o. given_by sid unit s ≡ o
    → AllByRecursion (λ x. x ≡ p) (cons_option o (filter_map (given_by sid unit) ss))) [
      | None ↦ λ e. ih
      | Some q ↦ λ e. (f s q (inl refl) e, ih)
    ] refl

-- Where segments agree, the place is that of the first that gives one.
place-read : (sid unit : ℕ) (ss : List SegmentAtParts) → Agree ss → place_of ss sid unit ≡ place_read sid unit ss
place-read sid unit [] a = refl
place-read sid unit (s ∷ ss) a = (elim (given_by sid unit s) as (λ o. given_by sid unit s ≡ o
    → place_by (union place_cmp [] (cons_option o (filter_map (given_by sid unit) ss)))
    ≡ option_map_or (λ place. place) (option_map place_at o) (place_read sid unit ss)) [
      | None ↦ λ e. place-read sid unit ss (agree_later s ss a)
      | Some p ↦ λ e. ap place_by (one_alone p (filter_map (given_by sid unit) ss)
          (all_one sid unit p ss (λ t q h g. one_given (s ∷ ss) sid unit t s q p a (inr h) (inl refl) g e)))
    ] refl)
    ∙ ap (λ o. option_map_or (λ (place : Place). place) o (place_read sid unit ss)) (sym (place-given sid unit s))

-- The index of a well-formed file.
pub index-laid : (l : List PacketParts) → IsWellFormed l → HasIndexOf (notes_from 0 l) l
index-laid l w =
    let s = segments_of-laid 0 l in
    record {
      segments = s;
      places = λ sid unit. ap (λ ss. place_of ss sid unit) s ∙ place-read sid unit (segments_read 0 l) w.index;
    }
