use Rattle.mxf_views.proofs.Common.{◌≡◌, ◌<◌, ◌++◌, ◌∙◌, ℕ, List, length, get_or, take, drop, refl, sym, ap, arith}
use Rattle.mxf_views.proofs.Common.{length-append, slice_get, take_at, slice_get-map, slice_get_read}
use Rattle.std.proofs.Common.{length-take, take-append-drop}
use Rattle.std.specs.Option.{option_map}
use Rattle.mxf_hand.specs.Given.{StandAt}
use Rattle.mxf_hand.specs.InMemory.{source_of, sources_of}
use Rattle.mxf_hand.specs.declared.given.in_memory.BytesAt.{BytesAt}
use Rattle.mxf_hand.proofs.given.in_memory.InMemorySources.read_at.Goals as goal

-- what was copied stands in the source
copied : (items all : List BytesAt) (i position count : ℕ) (b : BytesAt) (back front rest : List ℕ) → all ≡ items
    → i < length all → b ≡ get_or all i b → back ≡ drop position b.bytes.now → front ≡ take count back
    → length front ≡ count → StandAt (sources_of items) i position (take count (front ++ rest))
copied items all i position count b back front rest same within is from part len = (
  source_of b,
  drop count back,
  ap (λ (xs : List BytesAt). slice_get (sources_of xs) i) (sym same) ∙ slice_get-map source_of all i
      ∙ ap (option_map source_of) (slice_get_read all (length all) i b refl within is),
  sym from ∙ sym (take-append-drop count back) ∙ ap (λ (t : List ℕ). t ++ drop count back) (sym part)
      ∙ ap (λ (t : List ℕ). t ++ drop count back) (sym (take_at front rest count len)),
)

pub returns-clause-bytes : goal.returns-clause-bytes
returns-clause-bytes c =
    let found = c.in-Some.ensures.lookup.3 in
    let n = c.min-count.result in
    let front = c.copy_from_slice.new.self in
    let least = c.min-count.ensures in
    let back = c.split_at.ensures.back_len in
    let len : length front ≡ n = omega (arith, c.copy_from_slice.ensures.len, length-take n c.args.room.now, least) in (
      omega (arith, least, back, c.requires),
      omega (arith, len, length-append front (drop n c.args.room.now)),
      copied c.args.self.now.sources.items c.deref.result.now c.args.source c.args.position n c.in-Some.given.now _
          front (drop n c.args.room.now) c.deref.ensures.value found.0 (found.1 c.in-Some.given.now)
          c.split_at.ensures.back c.copy_from_slice.ensures.after len,
    )
