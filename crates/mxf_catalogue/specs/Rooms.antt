-- Memory that was taken before it is used (this project's profile).
use Rattle.std.specs.Prelude.{◌≡◌, ℕ, ◌+◌, ◌<◌, ◌≤◌, [], length, vec_len, vec_capacity}
use Rattle.std.specs.declared.vec.Vec.{Vec}
use Rattle.mxf_klv.specs.Parts.{NoteParts}
use Rattle.mxf_catalogue.specs.declared.catalogue.note_lists.NoteLists.{NoteLists}
use Rattle.mxf_catalogue.specs.NoteLists.{touching}

-- The list is empty, and has room for the given number.
abbrev pub IsRoomFor : {X Z : Type 0} → ℕ → Vec X Z → Type 0
IsRoomFor count v = (v.items ≡ []) × (vec_len v ≡ 0) × (count ≤ vec_capacity v)

-- Empty lists with room for the given number of notes.
pub record AreRoomFor (count : ℕ) (p : NoteLists) : Type 0 where
  pub undisputed : IsRoomFor count p.undisputed
  pub disputed : IsRoomFor count p.disputed
  pub disputed_spans : IsRoomFor count p.disputed_spans

-- Lists with room for that many more notes, whatever these move: each note that is there may be disputed then.
pub record HaveRoom (count : ℕ) (p : NoteLists) : Type 0 where
  pub undisputed : vec_len p.undisputed + count ≤ vec_capacity p.undisputed
  pub disputed : vec_len p.undisputed + vec_len p.disputed + count ≤ vec_capacity p.disputed
  pub disputed_spans : vec_len p.disputed_spans + count ≤ vec_capacity p.disputed_spans

-- Lists with room for one note and for those that it moves.
pub record HaveRoomFor (n : NoteParts) (p : NoteLists) : Type 0 where
  pub undisputed : vec_len p.undisputed < vec_capacity p.undisputed
  pub disputed : vec_len p.disputed + length (touching n p.undisputed.items) < vec_capacity p.disputed
  pub disputed_spans : vec_len p.disputed_spans < vec_capacity p.disputed_spans

-- The lists hold what they held.
pub record HoldSame (old new : NoteLists) : Type 0 where
  pub undisputed : new.undisputed.items ≡ old.undisputed.items
  pub disputed : new.disputed.items ≡ old.disputed.items
  pub disputed_spans : new.disputed_spans.items ≡ old.disputed_spans.items

-- Of the room that there was, no more was taken than one note takes.
pub record TakeRoomOfOne (old new : NoteLists) : Type 0 where
  pub undisputed : vec_len new.undisputed ≤ vec_len old.undisputed + 1
  pub notes : vec_len new.undisputed + vec_len new.disputed ≤ vec_len old.undisputed + vec_len old.disputed + 1
  pub disputed_spans : vec_len new.disputed_spans ≤ vec_len old.disputed_spans + 1
  pub undisputed_capacity : vec_capacity new.undisputed ≡ vec_capacity old.undisputed
  pub disputed_capacity : vec_capacity new.disputed ≡ vec_capacity old.disputed
  pub spans_capacity : vec_capacity new.disputed_spans ≡ vec_capacity old.disputed_spans
