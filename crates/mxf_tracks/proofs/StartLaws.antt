-- Where components begin, and which container and kind a package has.
use Rattle.std.proofs.Common.{◌≡◌, ◌∙◌, ◌↔◌, ℕ, ◌+◌, ◌==◌, true, false, cond, List, [], ◌∷◌, ◌++◌, Option, Some, None}
use Rattle.std.proofs.Common.{refl, ap, sym, subst, inl, inr, arith, find, option_map, option_and_then, sum}
use Rattle.std.specs.List.{AllByRecursion}
use Rattle.std.proofs.lemmas.List.Sums.{sum_by-cons}
use Rattle.mxf_views.proofs.Common.{In, all-In, eqb-true, found-In}
use Rattle.mxf_references.specs.declared.reference.target.Ref.{Ref}
use Rattle.mxf_references.specs.declared.reference.target.Target.{Target as ResolvedTarget}
use Rattle.mxf_references.specs.declared.reference.target.Target.TheVariants as resolved
use Rattle.mxf_klv.specs.declared.kinds.Kind.{Kind}
use Rattle.mxf_klv.specs.declared.kinds.Kind.TheVariants as kinds
use Rattle.mxf_klv.specs.Kind.{kind_of}
use Rattle.mxf_klv.specs.Parts.{NoteParts}
use Rattle.mxf_tracks.specs.declared.component.Component.{Component}
use Rattle.mxf_tracks.specs.declared.component.Part.{Part}
use Rattle.mxf_tracks.specs.declared.component.Part.TheVariants.{Clip, Timecode, Filler}
use Rattle.mxf_tracks.specs.declared.package.FoundPackage.{FoundPackage}
use Rattle.mxf_tracks.specs.declared.package.PackageAt.{PackageAt}
use Rattle.mxf_tracks.specs.declared.package.PackageKind.TheVariants.{Material}
use Rattle.mxf_tracks.specs.declared.sequence.FoundSequence.{FoundSequence}
use Rattle.mxf_tracks.specs.declared.sequence.SequenceAt.{SequenceAt}
use Rattle.mxf_tracks.specs.declared.target.Target.{Target}
use Rattle.mxf_tracks.specs.declared.target.Target.TheVariants.{Found}
use Rattle.mxf_tracks.specs.declared.target.Wanted.TheVariants as wanted
use Rattle.mxf_tracks.specs.declared.track.FoundTrack.{FoundTrack}
use Rattle.mxf_tracks.specs.declared.track.TrackAt.{TrackAt}
use Rattle.mxf_tracks.specs.Containers.{container_of}
use Rattle.mxf_tracks.specs.Starts.{AreOneBehindAnother, IsPackageIn, IsSequenceIn, IsStartBehind, LastEach, Lasts}
use Rattle.mxf_tracks.specs.Starts.{StatesDuration}
use Rattle.mxf_tracks.specs.Targets.{is_reached, set_of, with_reached}
use Rattle.mxf_tracks.specs.Walk.{component_of, components_from, duration_of, end_of_part, found_package, found_sequence}
use Rattle.mxf_tracks.specs.Walk.{found_track, package_by, package_in, package_kind, package_of, package_there, package_to}
use Rattle.mxf_tracks.specs.Walk.{packages_from, read_step, sequence_in, sequence_of, sequence_to, track_in, track_of}
use Rattle.mxf_tracks.specs.Walk.{track_to, unfollowed}
use Rattle.mxf_tracks.proofs.ComponentLaws.{start_kept}
use Rattle.mxf_tracks.proofs.FoundLaws.{step_is, step_there, steps_there}

-- ---- durations

states-is : (p : Part) (d : ℕ) → (duration_of p ≡ Some d) ↔ StatesDuration p d
states-is (Clip c) d = (λ e. e, λ e. e)
states-is (Timecode t) d = (λ e. e, λ e. e)
states-is (Filler f) d = (λ e. e, λ e. e)

lasts_by : (c : Component) (o : Option Part) (d : ℕ) → c.part ≡ o → option_and_then duration_of o ≡ Some d → Lasts c d
lasts_by c None d e f = absurd cc
lasts_by c (Some p) d e f = (p, e, (states-is p d).0 f)

duration_from : (c : Component) (d : ℕ) → Lasts c d → option_and_then duration_of c.part ≡ Some d
duration_from c d l = ap (option_and_then duration_of) l.1 ∙ (states-is l.0 d).1 l.2

one_duration : (c : Component) (d e : ℕ) → Lasts c d → Lasts c e → d ≡ e
one_duration c d e l m =
    let same : ◌≡◌ {A = Option ℕ} (Some d) (Some e) = sym (duration_from c d l) ∙ duration_from c e m in cc

-- ---- behind components

-- Where the next one begins behind components of which the first begins here.
abbrev behind : Option ℕ → List Component → Option ℕ
behind start [] = start
behind start (c ∷ cs) = behind (end_of_part start c.part) cs

behind_none : (cs : List Component) → behind None cs ≡ None
behind_none [] = refl
behind_none (c ∷ cs) = behind_none cs

-- The same of components of which the first begins so many edit units behind the start of the sequence.
abbrev IsBehindFrom : ℕ → List Component → Option ℕ → Type 0
IsBehindFrom start cs (Some end) = (ds : List ℕ) × LastEach cs ds × (end ≡ start + sum ds)
IsBehindFrom start cs None = (c : Component) × In c cs × ((d : ℕ) → ¬ Lasts c d)

one_more : (start : ℕ) (c : Component) (cs : List Component) (d : ℕ) (end : Option ℕ) → Lasts c d
    → IsBehindFrom (start + d) cs end → IsBehindFrom start (c ∷ cs) end
one_more start c cs d None l b = (b.0, inr b.1, b.2)
one_more start c cs d (Some end) l b =
    let more = sum_by-cons (λ x. x) d b.0 in
    let at = b.2 in
    (d ∷ b.0, (l, b.1), omega (arith, at, more))

behind-is : (start : ℕ) (cs : List Component) → IsBehindFrom start cs (behind (Some start) cs)
behind-is start [] = ([], tt, omega arith)
behind-is start (c ∷ cs) =
    elim (option_and_then duration_of c.part) as (λ o. option_and_then duration_of c.part ≡ o
    → IsBehindFrom start (c ∷ cs) (behind (option_map (λ d. start + d) o) cs)) [
      | None ↦ λ e. subst (IsBehindFrom start (c ∷ cs)) (sym (behind_none cs))
          (c, inl refl, λ d l. let f = duration_from c d l in absurd (cc (e, f)))
      | Some d ↦ λ e. one_more start c cs d (behind (Some (start + d)) cs) (lasts_by c c.part d refl e)
          (behind-is (start + d) cs)
    ] refl

from_zero : (cs : List Component) (end : Option ℕ) → IsBehindFrom 0 cs end → IsStartBehind cs end
from_zero cs None b = b
from_zero cs (Some end) b = let at = b.2 in (b.0, b.1, omega (arith, at))

-- ---- components of a sequence

behind_those : (sets : List NoteParts) (start : Option ℕ) (reached : List ℕ) (uids : List (List ℕ))
    (before after : List Component) (c : Component)
    → (components_from sets start reached uids).0 ≡ before ++ c ∷ after → c.start ≡ behind start before
behind_those sets start reached [] [] after c e = absurd cc
behind_those sets start reached [] (b ∷ bs) after c e = absurd cc
behind_those sets start reached (uid ∷ uids) [] after c e =
    let first : (component_of sets start reached uid).0 ≡ c = cc in
    sym (ap (λ x. x.start) first) ∙ start_kept sets start reached uid
behind_those sets start reached (uid ∷ uids) (b ∷ bs) after c e =
    let one = component_of sets start reached uid in
    let first : one.0 ≡ b = cc in
    let rest : (components_from sets (end_of_part start one.0.part) one.1 uids).0 ≡ bs ++ c ∷ after = cc in
    behind_those sets (end_of_part start one.0.part) one.1 uids bs after c rest
    ∙ ap (λ x. behind (end_of_part start x.part) bs) first

components_begin : (sets : List NoteParts) (reached : List ℕ) (uids : List (List ℕ))
    → AreOneBehindAnother (components_from sets (Some 0) reached uids).0
components_begin sets reached uids before after c e =
    from_zero before c.start (subst (IsBehindFrom 0 before)
    (sym (behind_those sets (Some 0) reached uids before after c e)) (behind-is 0 before))

-- ---- one start

same_durations : (cs : List Component) (ds es : List ℕ) → LastEach cs ds → LastEach cs es → ds ≡ es
same_durations [] [] [] l m = refl
same_durations [] [] (e ∷ es) l m = absurd m
same_durations [] (d ∷ ds) es l m = absurd l
same_durations (c ∷ cs) [] es l m = absurd l
same_durations (c ∷ cs) (d ∷ ds) [] l m = absurd m
same_durations (c ∷ cs) (d ∷ ds) (e ∷ es) l m =
    let first = one_duration c d e l.0 m.0 in
    let rest = same_durations cs ds es l.1 m.1 in
    λ i. first i ∷ rest i

all_last : (cs : List Component) (ds : List ℕ) (c : Component) → LastEach cs ds → In c cs → (d : ℕ) × Lasts c d
all_last [] ds c l h = absurd h
all_last (x ∷ xs) [] c l h = absurd l
all_last (x ∷ xs) (d ∷ ds) c l (inl e) = (d, subst (λ y. Lasts y d) (sym e) l.0)
all_last (x ∷ xs) (d ∷ ds) c l (inr h) = all_last xs ds c l.1 h

pub one_start : (before : List Component) (s t : Option ℕ) → IsStartBehind before s → IsStartBehind before t → s ≡ t
one_start before None None s t = refl
one_start before None (Some e) s t = let l = all_last before t.0 s.0 t.1 s.1 in absurd (s.2 l.0 l.1)
one_start before (Some d) None s t = let l = all_last before s.0 t.0 s.1 t.1 in absurd (t.2 l.0 l.1)
one_start before (Some d) (Some e) s t =
    ap (λ n. Some n) (s.2 ∙ ap sum (same_durations before s.0 t.0 s.1 t.1) ∙ sym t.2)

-- ---- sequences, tracks and packages of the walk

abbrev IsInLine : SequenceAt → Type 0
IsInLine s = (f : FoundSequence) → s.found ≡ Some f → AreOneBehindAnother f.components

one_sequence : (sets : List NoteParts) (reached uid : List ℕ) → IsInLine (sequence_of sets reached uid).0
unfolding sequence_of
one_sequence sets reached uid = step_there sets wanted.Sequence IsInLine (sequence_to uid) sequence_in
    (found_sequence sets) reached (set_of sets wanted.Sequence reached uid) (step_is sets wanted.Sequence reached uid)
    (λ t n f e. absurd cc) (λ n q after h k r f e.
    let same : (found_sequence sets after q).0 ≡ f = cc in
    subst (λ (g : FoundSequence). AreOneBehindAnother g.components) same (components_begin sets after q.components))

abbrev HasSequenceInLine : TrackAt → Type 0
HasSequenceInLine t = (f : FoundTrack) → t.found ≡ Some f → IsInLine f.sequence

one_track : (sets : List NoteParts) (reached uid : List ℕ) → HasSequenceInLine (track_of sets reached uid).0
unfolding track_of
one_track sets reached uid = step_there sets wanted.Track HasSequenceInLine (track_to uid) track_in
    (found_track sets) reached (set_of sets wanted.Track reached uid) (step_is sets wanted.Track reached uid)
    (λ t n f e. absurd cc) (λ n q after h k r f e.
    let same : (found_track sets after q).0 ≡ f = cc in
    subst (λ (g : FoundTrack). IsInLine g.sequence) same (one_sequence sets after q.sequence))

-- What is found of a package: its tracks are in line, its container is that of the sets, and its kind that of the note.
record IsWalked (clear sets : List NoteParts) (target : Target) (f : FoundPackage) : Type 0 where
  tracks : AllByRecursion HasSequenceInLine f.tracks
  container : f.container ≡ container_of sets f.properties.package_uid
  note : NoteParts
  held : In note clear
  at : target ≡ Found note.offset
  kind : f.kind ≡ package_kind (kind_of note.key)

abbrev IsWalkedAt : List NoteParts → List NoteParts → PackageAt → Type 0
IsWalkedAt clear sets p = (f : FoundPackage) → p.found ≡ Some f → IsWalked clear sets p.target f

read_walked : (clear sets : List NoteParts) (uid : List ℕ) (o : ℕ) (reached : List ℕ) (n : NoteParts) → In n clear
    → n.offset ≡ o → IsWalkedAt clear sets (package_there sets uid o reached (Some n)).0
read_walked clear sets uid o reached n h at = elim (package_in n) as (λ p. IsWalkedAt clear sets
    (read_step (package_to uid) (λ after q. found_package sets after (kind_of n.key) q) o reached p).0) [
      | None ↦ λ f e. absurd cc
      | Some p ↦ λ f e.
          let same : (found_package sets reached (kind_of n.key) p).0 ≡ f = cc in
          subst (IsWalked clear sets (Found o)) same (record {
            tracks = steps_there HasSequenceInLine (track_of sets) (one_track sets) reached p.tracks;
            container = refl;
            note = n;
            held = h;
            at = ap Found (sym at);
            kind = refl;
          })
    ]

there_walked : (clear sets : List NoteParts) (uid : List ℕ) (o : ℕ) (reached : List ℕ) (n : Option NoteParts)
    → find (λ m. m.offset == o) clear ≡ n → IsWalkedAt clear sets (package_there sets uid o reached n).0
there_walked clear sets uid o reached None e = λ f k. absurd cc
there_walked clear sets uid o reached (Some n) e =
    let found = found-In (λ (m : NoteParts). m.offset == o) clear n e in
    read_walked clear sets uid o reached n found.0 (eqb-true n.offset o found.1)

by_target : (clear sets : List NoteParts) (uid reached : List ℕ) (t : ResolvedTarget)
    → IsWalkedAt clear sets (package_by clear sets uid reached t).0
by_target clear sets uid reached resolved.Missing = λ f e. absurd cc
by_target clear sets uid reached resolved.Several = λ f e. absurd cc
by_target clear sets uid reached (resolved.WrongKind o) = λ f e. absurd cc
by_target clear sets uid reached (resolved.Unreadable o) = λ f e. absurd cc
by_target clear sets uid reached (resolved.Found o) =
    let n = find (λ m. m.offset == o) clear in
    elim (is_reached o reached) as (λ b. IsWalkedAt clear sets
    (cond b (unfollowed uid (resolved.Found o), reached) (package_there sets uid o (with_reached o reached) n)).0) [
      | true ↦ λ f e. absurd cc
      | false ↦ there_walked clear sets uid o (with_reached o reached) n refl
    ]

one_package : (clear sets : List NoteParts) (reached : List ℕ) (r : Ref)
    → IsWalkedAt clear sets (package_of clear sets reached r).0
unfolding package_of
one_package clear sets reached r = by_target clear sets r.uid reached r.target

packages_walked : (clear sets : List NoteParts) (reached : List ℕ) (refs : List Ref)
    → AllByRecursion (IsWalkedAt clear sets) (packages_from clear sets reached refs).0
packages_walked clear sets reached refs =
    steps_there (IsWalkedAt clear sets) (package_of clear sets) (one_package clear sets) reached refs

walked : (clear sets : List NoteParts) (refs : List Ref) (f : FoundPackage)
    → (i : IsPackageIn (packages_from clear sets [] refs).0 f) → IsWalked clear sets i.0.target f
walked clear sets refs f i = all-In (IsWalkedAt clear sets) (packages_from clear sets [] refs).0 i.0
    (packages_walked clear sets [] refs) i.1 f i.2

pub sequences_begin : (clear sets : List NoteParts) (refs : List Ref) (s : FoundSequence)
    → IsSequenceIn (packages_from clear sets [] refs).0 s → AreOneBehindAnother s.components
sequences_begin clear sets refs s i =
    let tracks = (walked clear sets refs i.found i.package_found).tracks in
    all-In HasSequenceInLine i.found.tracks i.named tracks i.held i.track i.track_found s i.sequence_found

pub containers_told : (clear sets : List NoteParts) (refs : List Ref) (f : FoundPackage)
    → IsPackageIn (packages_from clear sets [] refs).0 f → f.container ≡ container_of sets f.properties.package_uid
containers_told clear sets refs f i = (walked clear sets refs f i).container

-- ---- kinds

kind-is : (k : Kind) → (package_kind k ≡ Material) ↔ (k ≡ kinds.MaterialPackage)
kind-is kinds.MaterialPackage = (λ e. refl, λ e. refl)
kind-is _ = (λ e. absurd cc, λ e. absurd cc)

pub kinds_told : (clear sets : List NoteParts) (refs : List Ref) (f : FoundPackage)
    (i : IsPackageIn (packages_from clear sets [] refs).0 f)
    → (n : NoteParts) × In n clear × (i.0.target ≡ Found n.offset)
    × ((f.kind ≡ Material) ↔ (kind_of n.key ≡ kinds.MaterialPackage))
kinds_told clear sets refs f i =
    let w = walked clear sets refs f i in
    let k = kind-is (kind_of w.note.key) in
    (w.note, w.held, w.at, (λ e. k.0 (sym w.kind ∙ e), λ e. w.kind ∙ k.1 e))
