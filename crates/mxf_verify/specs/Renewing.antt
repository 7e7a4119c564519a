-- What an earlier reading's content keeps when a later reading is the newer one (this project's profile).
use Rattle.std.specs.Prelude.{◌≡◌, ◌↔◌, ◌<◌, Bool, true, false, not, ◌&&◌, nat_lt, List, filter, length}
use Rattle.mxf_klv.specs.declared.kinds.Kind.{Kind}
use Rattle.mxf_klv.specs.declared.kinds.Kind.TheVariants.{Essence}
use Rattle.mxf_klv.specs.Kind.{kind_of}
use Rattle.mxf_klv.specs.Parts.{NoteParts}
use Rattle.mxf_klv.specs.Rising.{In}
use Rattle.mxf_catalogue.specs.Content.{IsContent, has_note, reduced_union}
use Rattle.mxf_verify.specs.Opposing.{IsContradicted, is_contradicted, is_had, is_opposed}

-- A note of the old content is dropped: the new one hasn't it, and a note of the new one contradicts it.
pub record IsDropped (old new : List NoteParts) (n : NoteParts) : Type 0 where
  pub held : In n old
  pub lacked : has_note new n → ⊥
  pub contradicted : IsContradicted n new

-- A note of the old content is kept: no note of the new one contradicts it.
pub record IsKept (old new : List NoteParts) (n : NoteParts) : Type 0 where
  pub held : In n old
  pub free : IsContradicted n new → ⊥

-- The note is of a packet of essence.
abbrev pub IsEssence : NoteParts → Type 0
IsEssence n = kind_of n.key ≡ Essence

-- The list has the notes for which this holds, each once.
pub record AreNotesWhere (P : NoteParts → Type 0) (notes : List NoteParts) : Type 0 where
  pub content : IsContent notes
  pub members : (n : NoteParts) → In n notes ↔ P n

-- The new content is of another recording: more of the old one's notes of essence are dropped than the new one has. Who
-- writes a recording rewrites packs, sets and fills in place, and no essence.
pub record IsOfAnother (old new : List NoteParts) : Type 0 where
  pub dropped : List NoteParts
  pub had : List NoteParts
  pub are_dropped : AreNotesWhere (λ n. IsDropped old new n × IsEssence n) dropped
  pub are_had : AreNotesWhere (λ n. In n old × has_note new n × IsEssence n) had
  pub more : length had < length dropped

-- The same as lists, in the order of notes, and as tests. Laws tie them to the relations above.

abbrev pub dropped_of : List NoteParts → List NoteParts → List NoteParts
dropped_of old new = filter (λ n. is_opposed n new) old

abbrev pub kept_of : List NoteParts → List NoteParts → List NoteParts
kept_of old new = filter (λ n. not (is_contradicted n new)) old

-- Of those that are kept, the ones that the new content hasn't.
abbrev pub added_of : List NoteParts → List NoteParts → List NoteParts
added_of old new = filter (λ n. not (is_had n new) && not (is_contradicted n new)) old

-- The renewed content: the new one, with the notes of the old one that are kept.
abbrev pub renewed_of : List NoteParts → List NoteParts → List NoteParts
renewed_of old new = reduced_union new (kept_of old new)

abbrev pub is_essence_kind : Kind → Bool
is_essence_kind Essence = true
is_essence_kind _ = false

abbrev pub is_essence : NoteParts → Bool
is_essence n = is_essence_kind (kind_of n.key)

-- The notes of essence of the old content that are dropped, and those that the new one has.
abbrev pub dropped_essence : List NoteParts → List NoteParts → List NoteParts
dropped_essence old new = filter is_essence (dropped_of old new)

abbrev pub had_essence : List NoteParts → List NoteParts → List NoteParts
had_essence old new = filter (λ n. is_essence n && is_had n new) old

abbrev pub is_of_another : List NoteParts → List NoteParts → Bool
is_of_another old new = nat_lt (length (had_essence old new)) (length (dropped_essence old new))
