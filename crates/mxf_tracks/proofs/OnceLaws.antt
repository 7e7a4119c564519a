-- A walk reads no set twice.
use Rattle.std.proofs.Common.{◌≡◌, ℕ, Bool, true, false, cond, List, [], ◌∷◌, ◌++◌, Option, Some, None, refl, sym}
use Rattle.std.proofs.Common.{◌∙◌, ap, append-nil, flat_map, subst, inl, inr}
use Rattle.std.specs.Option.{option_map_or}
use Rattle.std.specs.Prelude.{Result, Ok, Err, not, filter, find, ◌==◌}
use Rattle.mxf_views.proofs.Common.{In-append, nat_cmp_total, list_any-In, In, eq-eqb}
use Rattle.std.specs.FinSet.{nat_cmp-IsAntisymmetric}
use Rattle.mxf_references.specs.declared.reference.target.Ref.{Ref}
use Rattle.mxf_references.specs.declared.reference.target.Target.{Target as ResolvedTarget}
use Rattle.mxf_references.specs.declared.reference.target.Target.TheVariants as resolved
use Rattle.mxf_references.specs.References.{has_uid}
use Rattle.mxf_klv.specs.declared.kinds.Kind.{Kind}
use Rattle.mxf_klv.specs.Kind.{kind_of}
use Rattle.mxf_klv.specs.Parts.{NoteParts}
use Rattle.mxf_klv.specs.Rising.{In-with_one}
use Rattle.mxf_sets.specs.Package.{PackageParts}
use Rattle.mxf_sets.specs.Descriptor.{DescriptorParts}
use Rattle.mxf_tracks.specs.declared.component.Component.{Component}
use Rattle.mxf_tracks.specs.declared.component.Part.{Part}
use Rattle.mxf_tracks.specs.declared.descriptor.FoundDescriptor.{FoundDescriptor}
use Rattle.mxf_tracks.specs.declared.descriptor.SubdescriptorAt.{SubdescriptorAt}
use Rattle.mxf_tracks.specs.declared.sequence.FoundSequence.{FoundSequence}
use Rattle.mxf_tracks.specs.declared.target.Target.{Target}
use Rattle.mxf_tracks.specs.declared.target.Target.TheVariants.{Found, Unreadable, WrongKind, Other, Again}
use Rattle.mxf_tracks.specs.declared.target.Wanted.{Wanted}
use Rattle.mxf_tracks.specs.declared.target.Wanted.TheVariants as wanted
use Rattle.mxf_tracks.specs.declared.track.FoundTrack.{FoundTrack}
use Rattle.mxf_tracks.specs.Keys.{fits}
use Rattle.mxf_tracks.specs.Once.{AreOnce, read_for, read_of_components, read_of_descriptor, read_of_found}
use Rattle.mxf_tracks.specs.Once.{read_of_package, read_of_packages, read_of_sequence, read_of_subdescriptors}
use Rattle.mxf_tracks.specs.Once.{read_of_track, read_of_tracks}
use Rattle.mxf_tracks.specs.Targets.{is_raw, is_reached, set_among, set_at, set_of, with_reached}
use Rattle.mxf_tracks.specs.Walk.{component_of, component_to, components_from, descriptor_in, descriptor_named}
use Rattle.mxf_tracks.specs.Walk.{descriptor_of, descriptor_to, end_of_part, found_descriptor, found_package}
use Rattle.mxf_tracks.specs.Walk.{found_sequence, found_track, nothing_follows, package_by, package_in, package_of}
use Rattle.mxf_tracks.specs.Walk.{package_there, package_to, packages_from, part_in, read_step, sequence_in}
use Rattle.mxf_tracks.specs.Walk.{sequence_of}
use Rattle.mxf_tracks.specs.Walk.{sequence_to, step, steps, subdescriptor_of, subdescriptor_to, track_in, track_of}
use Rattle.mxf_tracks.specs.Walk.{track_to, tracks_from, unfollowed}

-- Where some were reached, a part of the walk reads these, each new, and all of both are reached behind it.
pub record Goes (reached read after : List ℕ) : Type 0 where
  pub once : AreOnce read
  pub new : (o : ℕ) → In o read → ¬ In o reached
  pub kept : (o : ℕ) → In o reached → In o after
  pub noted : (o : ℕ) → In o read → In o after

none_read : (reached : List ℕ) → Goes reached [] reached
none_read reached = record { once = tt; new = λ o h r. absurd h; kept = λ o h. h; noted = λ o h. absurd h }

one_read : (o : ℕ) (reached : List ℕ) → ¬ In o reached → Goes reached (o ∷ []) (with_reached o reached)
one_read o reached n =
    let among = λ (z : ℕ). In-with_one nat_cmp_total nat_cmp-IsAntisymmetric z o reached in
    record {
      once = (λ h. h, tt);
      new = λ z h r. elim h [ inl e ↦ n (subst (λ x. In x reached) e r) | inr f ↦ absurd f ];
      kept = λ z h. (among z).1 (inr h);
      noted = λ z h. elim h [ inl e ↦ (among z).1 (inl e) | inr f ↦ absurd f ];
    }

once_both : (xs ys : List ℕ) → AreOnce xs → AreOnce ys → ((o : ℕ) → In o xs → ¬ In o ys) → AreOnce (xs ++ ys)
once_both [] ys a b n = b
once_both (x ∷ xs) ys a b n = (
  λ h. elim ((In-append x xs ys).0 h) [ inl i ↦ a.0 i | inr j ↦ n x (inl refl) j ],
  once_both xs ys a.1 b (λ o i. n o (inr i)),
)

both_read : (a xs b ys c : List ℕ) → Goes a xs b → Goes b ys c → Goes a (xs ++ ys) c
both_read a xs b ys c g h = record {
  once = once_both xs ys g.once h.once (λ o i j. h.new o j (g.noted o i));
  new = λ o i r. elim ((In-append o xs ys).0 i) [ inl j ↦ g.new o j r | inr k ↦ h.new o k (g.kept o r) ];
  kept = λ o i. h.kept o (g.kept o i);
  noted = λ o i. elim ((In-append o xs ys).0 i) [ inl j ↦ h.kept o (g.noted o j) | inr k ↦ h.noted o k ];
}

-- ---- one reference

-- What a step says: the target of a set that isn't read, or a set that is read and wasn't reached before.
abbrev pub StepSays : List ℕ → Result NoteParts Target → Type 0
StepSays reached (Err t) = read_for t ≡ []
StepSays reached (Ok n) = ¬ In n.offset reached

pub not_reached : (o : ℕ) (reached : List ℕ) → is_reached o reached ≡ false → ¬ In o reached
not_reached o [] e h = h
not_reached o (r ∷ rs) e h =
    let found = (list_any-In (λ x. x == o) (r ∷ rs)).1 (o, h, eq-eqb o o refl) in cc (found, e)

by_tests : (reached : List ℕ) (n : NoteParts) (raw fit again : Bool) → is_reached n.offset reached ≡ again
    → StepSays reached (cond (not raw) (Err (WrongKind n.offset)) (cond (not fit) (Err (Other n.offset))
    (cond again (Err (Again n.offset)) (Ok n))))
by_tests reached n false fit again e = refl
by_tests reached n true false again e = refl
by_tests reached n true true true e = refl
by_tests reached n true true false e = not_reached n.offset reached e

at_says : (w : Wanted) (reached : List ℕ) (n : NoteParts) → StepSays reached (set_at w reached n)
unfolding set_at
at_says w reached n = by_tests reached n (is_raw (kind_of n.key)) (fits w n.key) (is_reached n.offset reached) refl

among_says : (w : Wanted) (reached : List ℕ) (ns : List NoteParts) → StepSays reached (set_among w reached ns)
among_says w reached [] = refl
among_says w reached (n ∷ []) = at_says w reached n
among_says w reached (m ∷ n ∷ ns) = refl

step_says : (sets : List NoteParts) (w : Wanted) (reached uid : List ℕ) → StepSays reached (set_of sets w reached uid)
unfolding set_of
step_says sets w reached uid = among_says w reached (filter (has_uid uid) sets)

-- A step reads its set, and what is below it.
step_goes : {A F R : Type 0} (reads : R → List ℕ) (under : F → List ℕ) (make : Target → Option F → R)
    (read : NoteParts → Option A) (follow : List ℕ → A → F × List ℕ) (reached : List ℕ) (r : Result NoteParts Target)
    → StepSays reached r
    → ((t : Target) (f : Option F) → reads (make t f) ≡ read_for t ++ option_map_or under f [])
    → ((after : List ℕ) (a : A) → Goes after (under (follow after a).0) (follow after a).1)
    → Goes reached (reads (step make read follow reached r).0) (step make read follow reached r).1
step_goes reads under make read follow reached (Err t) e says go =
    let none : reads (make t None) ≡ [] = says t None ∙ ap (λ (os : List ℕ). os ++ []) e in
    subst (λ (os : List ℕ). Goes reached os reached) (sym none) (none_read reached)
step_goes {A} {F} {R} reads under make read follow reached (Ok n) e says go =
    let o = n.offset in
    let after = with_reached o reached in
    elim (read n) as (λ (v : Option A). Goes reached (reads (read_step make follow o after v).0)
    (read_step make follow o after v).1) [
      | None ↦ subst (λ (os : List ℕ). Goes reached os after) (sym (says (Unreadable o) None)) (one_read o reached e)
      | Some a ↦
          let below = follow after a in
          subst (λ (os : List ℕ). Goes reached os below.1) (sym (says (Found o) (Some below.0)))
          (both_read reached (o ∷ []) after (under below.0) below.1 (one_read o reached e) (go after a))
    ]

steps_go : {U R : Type 0} (reads : R → List ℕ) (one : List ℕ → U → R × List ℕ)
    → ((reached : List ℕ) (u : U) → Goes reached (reads (one reached u).0) (one reached u).1) → (reached : List ℕ)
    → (us : List U) → Goes reached (flat_map reads (steps one reached us).0) (steps one reached us).1
steps_go reads one goes reached [] = none_read reached
steps_go reads one goes reached (u ∷ us) =
    let first = one reached u in
    let others = steps one first.1 us in
    both_read reached (reads first.0) first.1 (flat_map reads others.0) others.1 (goes reached u)
    (steps_go reads one goes first.1 us)

-- Nothing below.
alone : {F : Type 0} (t : Target) (f : Option F) → read_for t ≡ read_for t ++ option_map_or (λ (v : F). []) f []
alone t None = sym (append-nil (read_for t))
alone t (Some v) = sym (append-nil (read_for t))

-- ---- components

one_component : (sets : List NoteParts) (start : Option ℕ) (reached uid : List ℕ)
    → Goes reached (read_for (component_of sets start reached uid).0.target) (component_of sets start reached uid).1
unfolding component_of
one_component sets start reached uid = step_goes (λ (c : Component). read_for c.target) (λ (p : Part). [])
    (component_to start uid) part_in nothing_follows reached (set_of sets wanted.Component reached uid)
    (step_says sets wanted.Component reached uid) (λ t f. alone t f) (λ after p. none_read after)

components_go : (sets : List NoteParts) (start : Option ℕ) (reached : List ℕ) (uids : List (List ℕ))
    → Goes reached (read_of_components (components_from sets start reached uids).0)
    (components_from sets start reached uids).1
components_go sets start reached [] = none_read reached
components_go sets start reached (uid ∷ uids) =
    let one = component_of sets start reached uid in
    let next = end_of_part start one.0.part in
    let others = components_from sets next one.1 uids in
    both_read reached (read_for one.0.target) one.1 (read_of_components others.0) others.1
    (one_component sets start reached uid) (components_go sets next one.1 uids)

-- ---- sequences, tracks and descriptors

one_sequence : (sets : List NoteParts) (reached uid : List ℕ)
    → Goes reached (read_of_sequence (sequence_of sets reached uid).0) (sequence_of sets reached uid).1
unfolding sequence_of
one_sequence sets reached uid = step_goes read_of_sequence (λ (f : FoundSequence). read_of_components f.components)
    (sequence_to uid) sequence_in (found_sequence sets) reached (set_of sets wanted.Sequence reached uid)
    (step_says sets wanted.Sequence reached uid) (λ t f. refl)
    (λ after s. components_go sets (Some 0) after s.components)

one_track : (sets : List NoteParts) (reached uid : List ℕ)
    → Goes reached (read_of_track (track_of sets reached uid).0) (track_of sets reached uid).1
unfolding track_of
one_track sets reached uid = step_goes read_of_track (λ (f : FoundTrack). read_of_sequence f.sequence) (track_to uid)
    track_in (found_track sets) reached (set_of sets wanted.Track reached uid)
    (step_says sets wanted.Track reached uid) (λ t f. refl) (λ after t. one_sequence sets after t.sequence)

one_part : (sets : List NoteParts) (reached uid : List ℕ)
    → Goes reached (read_for (subdescriptor_of sets reached uid).0.target) (subdescriptor_of sets reached uid).1
unfolding subdescriptor_of
one_part sets reached uid = step_goes (λ (d : SubdescriptorAt). read_for d.target) (λ (d : DescriptorParts). [])
    (subdescriptor_to uid) descriptor_in nothing_follows reached (set_of sets wanted.Descriptor reached uid)
    (step_says sets wanted.Descriptor reached uid) (λ t f. alone t f) (λ after d. none_read after)

one_descriptor : (sets : List NoteParts) (reached uid : List ℕ)
    → Goes reached (read_of_descriptor (descriptor_of sets reached uid).0) (descriptor_of sets reached uid).1
unfolding descriptor_of
one_descriptor sets reached uid =
    step_goes read_of_descriptor (λ (f : FoundDescriptor). read_of_subdescriptors f.subdescriptors)
    (descriptor_to uid) descriptor_in (found_descriptor sets) reached (set_of sets wanted.Descriptor reached uid)
    (step_says sets wanted.Descriptor reached uid) (λ t f. refl) (λ after d. steps_go
    (λ (p : SubdescriptorAt). read_for p.target) (subdescriptor_of sets) (one_part sets) after d.subdescriptors)

-- ---- packages

found_goes : (sets : List NoteParts) (reached : List ℕ) (kind : Kind) (p : PackageParts)
    → Goes reached (read_of_found (found_package sets reached kind p).0) (found_package sets reached kind p).1
found_goes sets reached kind p =
    let tracks = tracks_from sets reached p.tracks in
    let above = steps_go read_of_track (track_of sets) (one_track sets) reached p.tracks in
    elim p.descriptor as (λ d. Goes reached
    (read_of_tracks tracks.0 ++ option_map_or read_of_descriptor (descriptor_named sets tracks.1 d).0 [])
    (descriptor_named sets tracks.1 d).1) [
      | None ↦ both_read reached (read_of_tracks tracks.0) tracks.1 [] tracks.1 above (none_read tracks.1)
      | Some uid ↦
          let descriptor = descriptor_of sets tracks.1 uid in
          both_read reached (read_of_tracks tracks.0) tracks.1 (read_of_descriptor descriptor.0) descriptor.1 above
          (one_descriptor sets tracks.1 uid)
    ]

-- One that can't be read after all is reached without being read.
passed_by : (o : ℕ) (reached : List ℕ) → Goes reached [] (with_reached o reached)
passed_by o reached = record {
  once = tt;
  new = λ z h r. absurd h;
  kept = λ z h. (In-with_one nat_cmp_total nat_cmp-IsAntisymmetric z o reached).1 (inr h);
  noted = λ z h. absurd h;
}

there_goes : (sets : List NoteParts) (uid : List ℕ) (o : ℕ) (reached : List ℕ) (n : Option NoteParts)
    → ¬ In o reached → Goes reached (read_of_package (package_there sets uid o (with_reached o reached) n).0)
    (package_there sets uid o (with_reached o reached) n).1
there_goes sets uid o reached None e = passed_by o reached
there_goes sets uid o reached (Some n) e =
    let after = with_reached o reached in
    let kind = kind_of n.key in
    elim (package_in n) as (λ p. Goes reached (read_of_package
    (read_step (package_to uid) (λ a q. found_package sets a kind q) o after p).0)
    (read_step (package_to uid) (λ a q. found_package sets a kind q) o after p).1) [
      | None ↦ passed_by o reached
      | Some p ↦
          let found = found_package sets after kind p in
          both_read reached (o ∷ []) after (read_of_found found.0) found.1 (one_read o reached e)
          (found_goes sets after kind p)
    ]

package_goes : (clear sets : List NoteParts) (uid reached : List ℕ) (t : ResolvedTarget)
    → Goes reached (read_of_package (package_by clear sets uid reached t).0) (package_by clear sets uid reached t).1
package_goes clear sets uid reached resolved.Missing = none_read reached
package_goes clear sets uid reached resolved.Several = none_read reached
package_goes clear sets uid reached (resolved.WrongKind o) = none_read reached
package_goes clear sets uid reached (resolved.Unreadable o) = none_read reached
package_goes clear sets uid reached (resolved.Found o) =
    let there = package_there sets uid o (with_reached o reached) (find (λ n. n.offset == o) clear) in
    elim (is_reached o reached) as (λ b. is_reached o reached ≡ b
    → Goes reached (read_of_package (cond b (unfollowed uid (resolved.Found o), reached) there).0)
    (cond b (unfollowed uid (resolved.Found o), reached) there).1) [
      | true ↦ λ e. none_read reached
      | false ↦ λ e. there_goes sets uid o reached (find (λ n. n.offset == o) clear) (not_reached o reached e)
    ] refl

one_package : (clear sets : List NoteParts) (reached : List ℕ) (r : Ref)
    → Goes reached (read_of_package (package_of clear sets reached r).0) (package_of clear sets reached r).1
unfolding package_of
one_package clear sets reached r = package_goes clear sets r.uid reached r.target

pub packages_go : (clear sets : List NoteParts) (reached : List ℕ) (refs : List Ref)
    → Goes reached (read_of_packages (packages_from clear sets reached refs).0)
    (packages_from clear sets reached refs).1
packages_go clear sets reached refs =
    steps_go read_of_package (package_of clear sets) (one_package clear sets) reached refs
