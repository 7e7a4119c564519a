-- The only set with an identifier, found by its offset.
use Rattle.mxf_views.proofs.Common.{◌≡◌, ℕ, List, [], ◌∷◌, Option, None, Some, refl, subst, inl, sym, ◌==◌, filter}
use Rattle.mxf_views.proofs.Common.{find, NoteParts, In, clear_notes, lies_in, In-clear_notes, copies_of, is_set_note}
use Rattle.mxf_views.proofs.Common.{sets_found, sets_from, zone_of, In-filter, clear_at-found}
use Rattle.mxf_views.specs.declared.copy.CopyInfo.{CopyInfo}
use Rattle.mxf_views.specs.Copies.{sets_of}
use Rattle.mxf_references.specs.References.{found_among, has_uid, found_in}
use Rattle.mxf_references.specs.declared.reference.Found.TheVariants.{One}

-- The sets of a copy are clear notes.
clear_from : (clear : List NoteParts) (bytes : ℕ) (start : Option ℕ) (n : NoteParts)
    → In n (sets_from clear bytes start) → In n clear
clear_from clear bytes None n h = absurd h
clear_from clear bytes (Some start) n h =
    ((In-filter (lies_in start bytes) clear n).0 ((In-filter is_set_note (zone_of start bytes clear) n).0 h).0).0

clear_found : (clear : List NoteParts) (copy : Option CopyInfo) (n : NoteParts) → In n (sets_found clear copy)
    → In n clear
clear_found clear None n h = absurd h
clear_found clear (Some c) n h = clear_from clear c.bytes c.start n h

pub sets_are_clear : (notes : List NoteParts) (partition : ℕ) (n : NoteParts) → In n (sets_of notes partition)
    → In n (clear_notes notes)
unfolding sets_of
sets_are_clear notes partition n h =
    clear_found (clear_notes notes) (find (λ c. c.partition == partition) (copies_of notes)) n h

one_among : (ns : List NoteParts) (offset : ℕ) → found_among ns ≡ One offset
    → (n : NoteParts) × (ns ≡ n ∷ []) × (n.offset ≡ offset)
one_among [] offset e = absurd cc
one_among (n ∷ []) offset e = (n, refl, let o = e in cc (o))
one_among (m ∷ n ∷ ns) offset e = absurd cc

-- The only set with the identifier, where it is found at an offset, is the clear note there.
pub record IsOnlyThere (notes : List NoteParts) (partition : ℕ) (uid : List ℕ) (offset : ℕ) : Type 0 where
  pub note : NoteParts
  pub only : filter (has_uid uid) (sets_of notes partition) ≡ note ∷ []
  pub there : find (λ n. n.offset == offset) (clear_notes notes) ≡ Some note

pub only_there : (notes : List NoteParts) (partition : ℕ) (uid : List ℕ) (offset : ℕ)
    → One offset ≡ found_in notes partition uid → IsOnlyThere notes partition uid offset
only_there notes partition uid offset e =
    let sets = sets_of notes partition in
    let one = one_among (filter (has_uid uid) sets) offset (sym e) in
    let held : In one.0 (filter (has_uid uid) sets) =
    subst (λ (ns : List NoteParts). In one.0 ns) (sym one.1) (inl refl) in
    let clear = (In-clear_notes one.0 notes).0
    (sets_are_clear notes partition one.0 ((In-filter (has_uid uid) sets one.0).0 held).0) in
    record { note = one.0; only = one.1; there = clear_at-found offset notes one.0 clear one.2 }
