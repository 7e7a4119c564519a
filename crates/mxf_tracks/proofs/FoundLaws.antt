-- What is found by a walk is that of sets of the copy.
use Rattle.std.proofs.Common.{◌≡◌, ℕ, Bool, true, false, cond, List, [], ◌∷◌, Option, Some, None, refl, ap, sym, subst}
use Rattle.std.proofs.Common.{◌∙◌, inl, map-id}
use Rattle.std.specs.List.{AllByRecursion}
use Rattle.std.specs.Option.{option_map}
use Rattle.std.specs.Prelude.{MatchOption, Result, Ok, Err, not, filter, find, map, ◌==◌, ◌||◌}
use Rattle.std.specs.Result.{result_ok}
use Rattle.mxf_views.proofs.Common.{In, In-filter, eqb-true, found-In}
use Rattle.mxf_references.specs.declared.reference.target.Ref.{Ref}
use Rattle.mxf_references.specs.declared.reference.target.Target.{Target as ResolvedTarget}
use Rattle.mxf_references.specs.declared.reference.target.Target.TheVariants as resolved
use Rattle.mxf_references.specs.References.{has_uid}
use Rattle.mxf_klv.specs.Kind.{kind_of}
use Rattle.mxf_klv.specs.Note.{keeps_value}
use Rattle.mxf_klv.specs.Parts.{NoteParts}
use Rattle.mxf_sets.specs.Component.{clip_at, filler_at, timecode_at}
use Rattle.mxf_sets.specs.Descriptor.{descriptor_at}
use Rattle.mxf_sets.specs.Package.{package_at}
use Rattle.mxf_sets.specs.Readable.{read_as}
use Rattle.mxf_sets.specs.Sequence.{sequence_at}
use Rattle.mxf_sets.specs.Track.{track_at}
use Rattle.mxf_views.specs.Readings.{IsReadAs}
use Rattle.mxf_tracks.specs.declared.component.Component.{Component}
use Rattle.mxf_tracks.specs.declared.component.Part.{Part}
use Rattle.mxf_tracks.specs.declared.component.Part.TheVariants.{Clip, Timecode, Filler}
use Rattle.mxf_tracks.specs.declared.descriptor.DescriptorAt.{DescriptorAt}
use Rattle.mxf_tracks.specs.declared.descriptor.SubdescriptorAt.{SubdescriptorAt}
use Rattle.mxf_tracks.specs.declared.package.PackageAt.{PackageAt}
use Rattle.mxf_tracks.specs.declared.sequence.SequenceAt.{SequenceAt}
use Rattle.mxf_tracks.specs.declared.target.Target.{Target}
use Rattle.mxf_tracks.specs.declared.target.Target.TheVariants.{Found, Unreadable, WrongKind, Other, Again}
use Rattle.mxf_tracks.specs.declared.target.Wanted.{Wanted}
use Rattle.mxf_tracks.specs.declared.target.Wanted.TheVariants as wanted
use Rattle.mxf_tracks.specs.declared.track.TrackAt.{TrackAt}
use Rattle.mxf_tracks.specs.FoundSets.{IsComponentThere, IsDescriptorThere, IsPackageThere, IsPartThere, IsReadThere}
use Rattle.mxf_tracks.specs.FoundSets.{IsSequenceThere, IsSubdescriptorThere, IsTrackThere, any_key, is_found}
use Rattle.mxf_tracks.specs.Keys.{fits, is_clip, is_filler, is_sequence, is_timecode, is_track}
use Rattle.mxf_tracks.specs.Targets.{is_raw, is_reached, set_among, set_at, set_of, with_reached}
use Rattle.mxf_tracks.specs.Walk.{clip_in, component_of, component_to, components_from, descriptor_in, descriptor_named}
use Rattle.mxf_tracks.specs.Walk.{descriptor_of, descriptor_to, end_of_part, filler_in, found_descriptor, found_package}
use Rattle.mxf_tracks.specs.Walk.{found_sequence, found_track, nothing_follows, package_by, package_in, package_of}
use Rattle.mxf_tracks.specs.Walk.{package_there, package_to, packages_from, part_in, read_step, sequence_in}
use Rattle.mxf_tracks.specs.Walk.{sequence_of}
use Rattle.mxf_tracks.specs.Walk.{sequence_to, step, steps, subdescriptor_of, subdescriptor_to, subdescriptors_from}
use Rattle.mxf_tracks.specs.Walk.{timecode_in, track_in, track_of, track_to, tracks_from, unfollowed}

-- ---- one reference

-- What a step says: a target that isn't found, or one of the sets, with a key that is wanted.
abbrev pub IsStep : List NoteParts → Wanted → Result NoteParts Target → Type 0
IsStep sets w (Err t) = is_found t ≡ false
IsStep sets w (Ok n) = In n sets × (fits w n.key ≡ true)

by_tests : (sets : List NoteParts) (w : Wanted) (n : NoteParts) (raw fit again : Bool) → In n sets → fits w n.key ≡ fit
    → IsStep sets w (cond (not raw) (Err (WrongKind n.offset)) (cond (not fit) (Err (Other n.offset))
    (cond again (Err (Again n.offset)) (Ok n))))
by_tests sets w n false fit again h e = refl
by_tests sets w n true false again h e = refl
by_tests sets w n true true true h e = refl
by_tests sets w n true true false h e = (h, e)

at_is : (sets : List NoteParts) (w : Wanted) (reached : List ℕ) (n : NoteParts) → In n sets
    → IsStep sets w (set_at w reached n)
unfolding set_at
at_is sets w reached n h =
    by_tests sets w n (is_raw (kind_of n.key)) (fits w n.key) (is_reached n.offset reached) h refl

among_is : (sets : List NoteParts) (w : Wanted) (reached : List ℕ) (ns : List NoteParts)
    → ((n : NoteParts) → In n ns → In n sets) → IsStep sets w (set_among w reached ns)
among_is sets w reached [] h = refl
among_is sets w reached (n ∷ []) h = at_is sets w reached n (h n (inl refl))
among_is sets w reached (m ∷ n ∷ ns) h = refl

pub step_is : (sets : List NoteParts) (w : Wanted) (reached uid : List ℕ) → IsStep sets w (set_of sets w reached uid)
unfolding set_of
step_is sets w reached uid =
    among_is sets w reached (filter (has_uid uid) sets) (λ n i. ((In-filter (has_uid uid) sets n).0 i).0)

-- ---- readings

pub ok_from : {A E : Type 0} (r : Result A E) (v : A) → result_ok r ≡ Some v → r ≡ Ok v
ok_from (Ok w) v e = (let same : w ≡ v = cc in ap (λ x. Ok x) same)
ok_from (Err f) v e = absurd cc

pub read_from : {A E : Type 0} (read : List ℕ → Result A E) (n : NoteParts) (v : A) → read_as read n ≡ Some v
    → IsReadAs read n v
read_from {A} read n v e =
    elim (keeps_value n) as (λ b. keeps_value n ≡ b → cond b (result_ok (read n.held)) None ≡ Some v
    → IsReadAs read n v) [ true ↦ λ k f. (k, ok_from (read n.held) v f) | false ↦ λ k f. absurd cc ] refl e

there : {A E : Type 0} (sets : List NoteParts) (is_such : List ℕ → Bool) (read : List ℕ → Result A E) (n : NoteParts)
    (v : A) → In n sets → is_such n.key ≡ true → read_as read n ≡ Some v
    → IsReadThere sets is_such read (Found n.offset) v
there sets is_such read n v h k e = record {
  note = n;
  held = h;
  there = refl;
  such = k;
  read_as = read_from read n v e;
}

some_of : {A B : Type 0} (f : A → B) (o : Option A) (p : B) → option_map f o ≡ Some p
    → (a : A) × (o ≡ Some a) × (p ≡ f a)
some_of f None p e = absurd cc
some_of f (Some a) p e = (a, refl, (let same : f a ≡ p = cc in sym same))

-- ---- what references name

step_named : {A F R : Type 0} (name : R → List ℕ) (uid : List ℕ) (make : Target → Option F → R)
    (read : NoteParts → Option A) (follow : List ℕ → A → F × List ℕ) (reached : List ℕ) (r : Result NoteParts Target)
    → ((t : Target) (f : Option F) → name (make t f) ≡ uid) → name (step make read follow reached r).0 ≡ uid
step_named name uid make read follow reached (Err t) named = named t None
step_named {A} {F} {R} name uid make read follow reached (Ok n) named = elim (read n) as (λ (o : Option A).
    name (read_step make follow n.offset (with_reached n.offset reached) o).0 ≡ uid) [
      | None ↦ named (Unreadable n.offset) None
      | Some a ↦ named (Found n.offset) (Some (follow (with_reached n.offset reached) a).0)
    ]

steps_named : {U R : Type 0} (name : R → List ℕ) (from : U → List ℕ) (one : List ℕ → U → R × List ℕ)
    → ((reached : List ℕ) (u : U) → name (one reached u).0 ≡ from u) → (reached : List ℕ) (us : List U)
    → map name (steps one reached us).0 ≡ map from us
steps_named name from one named reached [] = refl
steps_named name from one named reached (u ∷ us) =
    let others = steps_named name from one named (one reached u).1 us in
    λ i. named reached u i ∷ others i

component_named : (sets : List NoteParts) (start : Option ℕ) (reached uid : List ℕ)
    → (component_of sets start reached uid).0.uid ≡ uid
unfolding component_of
component_named sets start reached uid = step_named (λ (c : Component). c.uid) uid (component_to start uid) part_in
    nothing_follows reached (set_of sets wanted.Component reached uid) (λ t f. refl)

components_named : (sets : List NoteParts) (start : Option ℕ) (reached : List ℕ) (uids : List (List ℕ))
    → map (λ (c : Component). c.uid) (components_from sets start reached uids).0 ≡ uids
components_named sets start reached [] = refl
components_named sets start reached (uid ∷ uids) =
    let one = component_of sets start reached uid in
    let first = component_named sets start reached uid in
    let others = components_named sets (end_of_part start one.0.part) one.1 uids in
    λ i. first i ∷ others i

sequence_named : (sets : List NoteParts) (reached uid : List ℕ) → (sequence_of sets reached uid).0.uid ≡ uid
unfolding sequence_of
sequence_named sets reached uid = step_named (λ (s : SequenceAt). s.uid) uid (sequence_to uid) sequence_in
    (found_sequence sets) reached (set_of sets wanted.Sequence reached uid) (λ t f. refl)

track_named : (sets : List NoteParts) (reached uid : List ℕ) → (track_of sets reached uid).0.uid ≡ uid
unfolding track_of
track_named sets reached uid = step_named (λ (t : TrackAt). t.uid) uid (track_to uid) track_in (found_track sets)
    reached (set_of sets wanted.Track reached uid) (λ t f. refl)

tracks_named : (sets : List NoteParts) (reached : List ℕ) (uids : List (List ℕ))
    → map (λ (t : TrackAt). t.uid) (tracks_from sets reached uids).0 ≡ uids
tracks_named sets reached uids =
    steps_named (λ (t : TrackAt). t.uid) (λ u. u) (track_of sets) (track_named sets) reached uids ∙ map-id uids

part_named : (sets : List NoteParts) (reached uid : List ℕ) → (subdescriptor_of sets reached uid).0.uid ≡ uid
unfolding subdescriptor_of
part_named sets reached uid = step_named (λ (d : SubdescriptorAt). d.uid) uid (subdescriptor_to uid) descriptor_in
    nothing_follows reached (set_of sets wanted.Descriptor reached uid) (λ t f. refl)

parts_named : (sets : List NoteParts) (reached : List ℕ) (uids : List (List ℕ))
    → map (λ (d : SubdescriptorAt). d.uid) (subdescriptors_from sets reached uids).0 ≡ uids
parts_named sets reached uids =
    steps_named (λ (d : SubdescriptorAt). d.uid) (λ u. u) (subdescriptor_of sets) (part_named sets) reached uids
    ∙ map-id uids

descriptor_is_named : (sets : List NoteParts) (reached uid : List ℕ) → (descriptor_of sets reached uid).0.uid ≡ uid
unfolding descriptor_of
descriptor_is_named sets reached uid = step_named (λ (d : DescriptorAt). d.uid) uid (descriptor_to uid) descriptor_in
    (found_descriptor sets) reached (set_of sets wanted.Descriptor reached uid) (λ t f. refl)

one_named : (sets : List NoteParts) (reached : List ℕ) (uid : Option (List ℕ))
    → option_map (λ (d : DescriptorAt). d.uid) (descriptor_named sets reached uid).0 ≡ uid
one_named sets reached None = refl
one_named sets reached (Some uid) = ap (λ (u : List ℕ). Some u) (descriptor_is_named sets reached uid)

there_named : (sets : List NoteParts) (uid : List ℕ) (o : ℕ) (reached : List ℕ) (n : Option NoteParts)
    → (package_there sets uid o reached n).0.uid ≡ uid
there_named sets uid o reached None = refl
there_named sets uid o reached (Some n) = elim (package_in n) as (λ p.
    (read_step (package_to uid) (λ after q. found_package sets after (kind_of n.key) q) o reached p).0.uid ≡ uid) [
      | None ↦ refl
      | Some p ↦ refl
    ]

package_named : (clear sets : List NoteParts) (uid reached : List ℕ) (t : ResolvedTarget)
    → (package_by clear sets uid reached t).0.uid ≡ uid
package_named clear sets uid reached resolved.Missing = refl
package_named clear sets uid reached resolved.Several = refl
package_named clear sets uid reached (resolved.WrongKind o) = refl
package_named clear sets uid reached (resolved.Unreadable o) = refl
package_named clear sets uid reached (resolved.Found o) =
    let n = find (λ m. m.offset == o) clear in
    elim (is_reached o reached) as (λ b. (cond b (unfollowed uid (resolved.Found o), reached)
    (package_there sets uid o (with_reached o reached) n)).0.uid ≡ uid) [
      | true ↦ refl
      | false ↦ there_named sets uid o (with_reached o reached) n
    ]

one_package_named : (clear sets : List NoteParts) (reached : List ℕ) (r : Ref)
    → (package_of clear sets reached r).0.uid ≡ r.uid
unfolding package_of
one_package_named clear sets reached r = package_named clear sets r.uid reached r.target

pub packages_named : (clear sets : List NoteParts) (reached : List ℕ) (refs : List Ref)
    → map (λ (p : PackageAt). p.uid) (packages_from clear sets reached refs).0 ≡ map (λ (r : Ref). r.uid) refs
packages_named clear sets reached refs = steps_named (λ (p : PackageAt). p.uid) (λ (r : Ref). r.uid)
    (package_of clear sets) (one_package_named clear sets) reached refs

-- ---- what a step finds

-- It is so where nothing is found, and of what is read.
pub step_there : {A F R : Type 0} (sets : List NoteParts) (w : Wanted) (IsThere : R → Type 0)
    (make : Target → Option F → R) (read : NoteParts → Option A) (follow : List ℕ → A → F × List ℕ)
    (reached : List ℕ) (r : Result NoteParts Target) → IsStep sets w r
    → ((t : Target) → is_found t ≡ false → IsThere (make t None))
    → ((n : NoteParts) (a : A) (after : List ℕ) → In n sets → fits w n.key ≡ true → read n ≡ Some a
    → IsThere (make (Found n.offset) (Some (follow after a).0))) → IsThere (step make read follow reached r).0
step_there sets w IsThere make read follow reached (Err t) s stop go = stop t s
step_there {A} {F} {R} sets w IsThere make read follow reached (Ok n) s stop go =
    let after = with_reached n.offset reached in
    elim (read n) as (λ (o : Option A). read n ≡ o → IsThere (read_step make follow n.offset after o).0) [
      | None ↦ λ e. stop (Unreadable n.offset) refl
      | Some a ↦ λ e. go n a after s.0 s.1 e
    ] refl

pub steps_there : {U R : Type 0} (IsThere : R → Type 0) (one : List ℕ → U → R × List ℕ)
    → ((reached : List ℕ) (u : U) → IsThere (one reached u).0) → (reached : List ℕ) (us : List U)
    → AllByRecursion IsThere (steps one reached us).0
steps_there IsThere one there reached [] = tt
steps_there IsThere one there reached (u ∷ us) =
    (there reached u, steps_there IsThere one there (one reached u).1 us)

-- ---- components

part_by : (sets : List NoteParts) (n : NoteParts) (p : Part) → In n sets → (clip time : Bool) → is_clip n.key ≡ clip
    → is_timecode n.key ≡ time → (clip || time || is_filler n.key) ≡ true
    → cond clip (option_map Clip (clip_in n)) (cond time (option_map Timecode (timecode_in n))
    (option_map Filler (filler_in n))) ≡ Some p → IsPartThere sets (Found n.offset) p
unfolding clip_in timecode_in filler_in
part_by sets n p h true time c t f e =
    let s = some_of Clip (read_as clip_at n) p e in
    subst (IsPartThere sets (Found n.offset)) (sym s.2) (there sets is_clip clip_at n s.0 h c s.1)
part_by sets n p h false true c t f e =
    let s = some_of Timecode (read_as timecode_at n) p e in
    subst (IsPartThere sets (Found n.offset)) (sym s.2) (there sets is_timecode timecode_at n s.0 h t s.1)
part_by sets n p h false false c t f e =
    let s = some_of Filler (read_as filler_at n) p e in
    subst (IsPartThere sets (Found n.offset)) (sym s.2) (there sets is_filler filler_at n s.0 h f s.1)

part_there : (sets : List NoteParts) (n : NoteParts) (p : Part) → In n sets → fits wanted.Component n.key ≡ true
    → part_in n ≡ Some p → IsPartThere sets (Found n.offset) p
unfolding part_in
part_there sets n p h f e = part_by sets n p h (is_clip n.key) (is_timecode n.key) refl refl f e

one_component : (sets : List NoteParts) (start : Option ℕ) (reached uid : List ℕ)
    → IsComponentThere sets (component_of sets start reached uid).0
unfolding component_of
one_component sets start reached uid = step_there sets wanted.Component (IsComponentThere sets)
    (component_to start uid) part_in nothing_follows reached (set_of sets wanted.Component reached uid)
    (step_is sets wanted.Component reached uid) (λ t e. e) (λ n p after h k e. part_there sets n p h k e)

components_there : (sets : List NoteParts) (start : Option ℕ) (reached : List ℕ) (uids : List (List ℕ))
    → AllByRecursion (IsComponentThere sets) (components_from sets start reached uids).0
components_there sets start reached [] = tt
components_there sets start reached (uid ∷ uids) =
    let one = component_of sets start reached uid in
    (one_component sets start reached uid, components_there sets (end_of_part start one.0.part) one.1 uids)

-- ---- sequences

one_sequence : (sets : List NoteParts) (reached uid : List ℕ) → IsSequenceThere sets (sequence_of sets reached uid).0
unfolding sequence_of sequence_in
one_sequence sets reached uid = step_there sets wanted.Sequence (IsSequenceThere sets) (sequence_to uid) sequence_in
    (found_sequence sets) reached (set_of sets wanted.Sequence reached uid) (step_is sets wanted.Sequence reached uid)
    (λ t e. e) (λ n q after h k e. record {
      sequence = q;
      there = there sets is_sequence sequence_at n q h k e;
      kind = refl;
      duration = refl;
      named = components_named sets (Some 0) after q.components;
      components = components_there sets (Some 0) after q.components;
    })

-- ---- tracks

one_track : (sets : List NoteParts) (reached uid : List ℕ) → IsTrackThere sets (track_of sets reached uid).0
unfolding track_of track_in
one_track sets reached uid = step_there sets wanted.Track (IsTrackThere sets) (track_to uid) track_in
    (found_track sets) reached (set_of sets wanted.Track reached uid) (step_is sets wanted.Track reached uid)
    (λ t e. e) (λ n t after h k e. record {
      there = there sets is_track track_at n t h k e;
      named = sequence_named sets after t.sequence;
      sequence = one_sequence sets after t.sequence;
    })

tracks_there : (sets : List NoteParts) (reached : List ℕ) (uids : List (List ℕ))
    → AllByRecursion (IsTrackThere sets) (tracks_from sets reached uids).0
tracks_there sets reached uids = steps_there (IsTrackThere sets) (track_of sets) (one_track sets) reached uids

-- ---- descriptors

one_part : (sets : List NoteParts) (reached uid : List ℕ)
    → IsSubdescriptorThere sets (subdescriptor_of sets reached uid).0
unfolding subdescriptor_of descriptor_in
one_part sets reached uid = step_there sets wanted.Descriptor (IsSubdescriptorThere sets) (subdescriptor_to uid)
    descriptor_in nothing_follows reached (set_of sets wanted.Descriptor reached uid)
    (step_is sets wanted.Descriptor reached uid) (λ t e. e)
    (λ n d after h k e. there sets any_key descriptor_at n d h refl e)

one_descriptor : (sets : List NoteParts) (reached uid : List ℕ)
    → IsDescriptorThere sets (descriptor_of sets reached uid).0
unfolding descriptor_of descriptor_in
one_descriptor sets reached uid = step_there sets wanted.Descriptor (IsDescriptorThere sets) (descriptor_to uid)
    descriptor_in (found_descriptor sets) reached (set_of sets wanted.Descriptor reached uid)
    (step_is sets wanted.Descriptor reached uid) (λ t e. e) (λ n d after h k e. record {
      there = there sets any_key descriptor_at n d h refl e;
      named = parts_named sets after d.subdescriptors;
      parts = steps_there (IsSubdescriptorThere sets) (subdescriptor_of sets) (one_part sets) after d.subdescriptors;
    })

named_there : (sets : List NoteParts) (reached : List ℕ) (uid : Option (List ℕ))
    → MatchOption (descriptor_named sets reached uid).0 (Unit {0}) (IsDescriptorThere sets)
named_there sets reached None = tt
named_there sets reached (Some uid) = one_descriptor sets reached uid

-- ---- packages

read_there : (clear sets : List NoteParts) (uid : List ℕ) (o : ℕ) (reached : List ℕ) (n : NoteParts) → In n clear
    → n.offset ≡ o → IsPackageThere clear sets (package_there sets uid o reached (Some n)).0
unfolding package_in
read_there clear sets uid o reached n h at = elim (read_as package_at n) as (λ p. read_as package_at n ≡ p
    → IsPackageThere clear sets
    (read_step (package_to uid) (λ after q. found_package sets after (kind_of n.key) q) o reached p).0) [
      | None ↦ λ e. refl
      | Some p ↦ λ e.
          let tracks = tracks_from sets reached p.tracks in
          record {
            there = subst (λ x. IsReadThere clear any_key package_at (Found x) p) at
                (there clear any_key package_at n p h refl e);
            tracks_named = tracks_named sets reached p.tracks;
            tracks = tracks_there sets reached p.tracks;
            descriptor_named = one_named sets tracks.1 p.descriptor;
            descriptor = named_there sets tracks.1 p.descriptor;
          }
    ] refl

package_there_is : (clear sets : List NoteParts) (uid : List ℕ) (o : ℕ) (reached : List ℕ) (n : Option NoteParts)
    → find (λ m. m.offset == o) clear ≡ n → IsPackageThere clear sets (package_there sets uid o reached n).0
package_there_is clear sets uid o reached None e = refl
package_there_is clear sets uid o reached (Some n) e =
    let found = found-In (λ (m : NoteParts). m.offset == o) clear n e in
    read_there clear sets uid o reached n found.0 (eqb-true n.offset o found.1)

by_target : (clear sets : List NoteParts) (uid reached : List ℕ) (t : ResolvedTarget)
    → IsPackageThere clear sets (package_by clear sets uid reached t).0
by_target clear sets uid reached resolved.Missing = refl
by_target clear sets uid reached resolved.Several = refl
by_target clear sets uid reached (resolved.WrongKind o) = refl
by_target clear sets uid reached (resolved.Unreadable o) = refl
by_target clear sets uid reached (resolved.Found o) =
    let n = find (λ m. m.offset == o) clear in
    elim (is_reached o reached) as (λ b. IsPackageThere clear sets
    (cond b (unfollowed uid (resolved.Found o), reached) (package_there sets uid o (with_reached o reached) n)).0) [
      | true ↦ refl
      | false ↦ package_there_is clear sets uid o (with_reached o reached) n refl
    ]

one_package : (clear sets : List NoteParts) (reached : List ℕ) (r : Ref)
    → IsPackageThere clear sets (package_of clear sets reached r).0
unfolding package_of
one_package clear sets reached r = by_target clear sets r.uid reached r.target

pub packages_there : (clear sets : List NoteParts) (reached : List ℕ) (refs : List Ref)
    → AllByRecursion (IsPackageThere clear sets) (packages_from clear sets reached refs).0
packages_there clear sets reached refs =
    steps_there (IsPackageThere clear sets) (package_of clear sets) (one_package clear sets) reached refs
