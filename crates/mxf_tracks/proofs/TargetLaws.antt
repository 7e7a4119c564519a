-- Each reference of a walk leads to its target, by the references before it.
use Rattle.mxf_views.proofs.Common.{◌≡◌, ◌∙◌, ℕ, Bool, true, false, cond, List, [], ◌∷◌, ◌++◌, Option, Some, None, refl}
use Rattle.mxf_views.proofs.Common.{◌↔◌, ◌⊎◌, ap, sym, subst, inl, inr, append-nil, append_assoc, and_parts}
use Rattle.mxf_views.proofs.Common.{bytes_eq-Decides}
use Rattle.mxf_views.proofs.Common.{option_map, option_map_or, find, filter, not, is_some, drop, get_or, or_cases}
use Rattle.mxf_views.proofs.Common.{or_left}
use Rattle.mxf_views.proofs.Common.{or_right, false≢true, In, In-append, list_any-In, nat_cmp_total, eqb-true}
use Rattle.mxf_views.proofs.Common.{nat_cmp-IsAntisymmetric, AreApart, In-clear_notes, clear_at-found, clear_notes}
use Rattle.mxf_views.proofs.Common.{copies_of, preferred_of, is_preface_note, arith, ◌==◌, ◌||◌, flat_map, map}
use Rattle.std.specs.Prelude.{Result, Ok, Err}
use Rattle.mxf_catalogue.specs.Content.{IsContent}
use Rattle.mxf_klv.specs.declared.kinds.Kind.{Kind}
use Rattle.mxf_klv.specs.declared.kinds.Kind.TheVariants as kinds
use Rattle.mxf_klv.specs.Kind.{kind_of}
use Rattle.mxf_klv.specs.Parts.{NoteParts}
use Rattle.mxf_klv.specs.Rising.{In-with_one}
use Rattle.mxf_sets.specs.Component.{clip_at, filler_at, timecode_at}
use Rattle.mxf_sets.specs.Descriptor.{descriptor_at}
use Rattle.mxf_sets.specs.Package.{PackageParts, package_at}
use Rattle.mxf_sets.specs.Preface.{PrefaceParts}
use Rattle.mxf_sets.specs.Readable.{read_as}
use Rattle.mxf_sets.specs.Sequence.{sequence_at}
use Rattle.mxf_sets.specs.Track.{track_at}
use Rattle.mxf_views.specs.Copies.{sets_of}
use Rattle.mxf_views.specs.declared.copy.CopyInfo.{CopyInfo}
use Rattle.mxf_views.specs.Readings.{IsReadable}
use Rattle.mxf_views.proofs.CopyLaws.{sets_apart}
use Rattle.mxf_views.proofs.ReadingLaws.{is_some_readable, reads}
use Rattle.mxf_references.specs.declared.reference.Found.TheVariants as found
use Rattle.mxf_references.specs.declared.reference.target.Ref.{Ref}
use Rattle.mxf_references.specs.declared.reference.target.Target.{Target as ResolvedTarget}
use Rattle.mxf_references.specs.declared.reference.target.Target.TheVariants as resolved
use Rattle.mxf_references.specs.declared.reference.target.Wanted.TheVariants as resolving
use Rattle.mxf_references.specs.References.{IsOnlyWith, found_among, has_uid}
use Rattle.mxf_references.specs.Resolved.{ResolvedParts, preface_in, resolved_by, resolved_from}
use Rattle.mxf_references.specs.Resolved.{resolved_of}
use Rattle.mxf_references.specs.Targets.{IsTarget, ref_of, refs_of, target_of}
use Rattle.mxf_references.proofs.FoundLaws.{Picks, found_iff, only_from, picks, target_of_iff}
use Rattle.mxf_references.proofs.OnlyFound.{sets_are_clear}
use Rattle.mxf_tracks.specs.declared.component.Part.{Part}
use Rattle.mxf_tracks.specs.declared.component.Part.TheVariants.{Clip, Timecode, Filler}
use Rattle.mxf_sets.specs.Descriptor.{DescriptorParts}
use Rattle.mxf_tracks.specs.declared.component.Component.{Component}
use Rattle.mxf_tracks.specs.declared.descriptor.FoundDescriptor.{FoundDescriptor}
use Rattle.mxf_tracks.specs.declared.descriptor.SubdescriptorAt.{SubdescriptorAt}
use Rattle.mxf_tracks.specs.declared.sequence.FoundSequence.{FoundSequence}
use Rattle.mxf_tracks.specs.declared.target.Target.{Target}
use Rattle.mxf_tracks.specs.declared.target.Target.TheVariants.{Missing, Several, WrongKind, Other, Again}
use Rattle.mxf_tracks.specs.declared.target.Target.TheVariants.{Unreadable, Found}
use Rattle.mxf_tracks.specs.declared.target.Wanted.{Wanted}
use Rattle.mxf_tracks.specs.declared.target.Wanted.TheVariants as wanted
use Rattle.mxf_tracks.specs.declared.track.FoundTrack.{FoundTrack}
use Rattle.mxf_tracks.specs.Keys.{fits, is_clip, is_filler, is_set_key, is_timecode}
use Rattle.mxf_tracks.specs.References.{AreTargets, Below, HasKey, LeadsToSet, LeadsToPackage, IsReached, IsReadableAs}
use Rattle.mxf_tracks.specs.References.{IsWanted, LeadsTo, Package, Reaches, Reference, references_of, to_package}
use Rattle.mxf_tracks.specs.References.{to_set}
use Rattle.mxf_tracks.specs.References.{references_of_components, references_of_descriptor, references_of_found}
use Rattle.mxf_tracks.specs.References.{references_of_package, references_of_parts, references_of_sequence}
use Rattle.mxf_tracks.specs.References.{references_of_track}
use Rattle.mxf_tracks.specs.Targets.{is_raw, is_reached, set_among, set_at, set_of, with_reached}
use Rattle.mxf_tracks.specs.Walk.{clip_in, component_of, component_to, components_from, descriptor_in, descriptor_named}
use Rattle.mxf_tracks.specs.Walk.{descriptor_of, descriptor_to, end_of_part, filler_in, found_descriptor, found_package}
use Rattle.mxf_tracks.specs.Walk.{found_sequence, found_track, nothing_follows, package_by, package_in, package_of}
use Rattle.mxf_tracks.specs.Walk.{package_there, package_to, packages_from, part_in, read_step, sequence_in}
use Rattle.mxf_tracks.specs.Walk.{sequence_of}
use Rattle.mxf_tracks.specs.Walk.{sequence_to, step, steps, subdescriptor_of, subdescriptor_to, subdescriptors_from}
use Rattle.mxf_tracks.specs.Walk.{timecode_in, track_in, track_of, track_to, tracks_from, tracks_in, unfollowed}
use Rattle.mxf_tracks.proofs.OnceLaws.{not_reached}

-- The offsets are those that the references reached.
abbrev pub Tells : List Reference → List ℕ → Type 0
Tells before reached = (o : ℕ) → In o reached ↔ IsReached o before

-- Each of the references leads to its target, behind others.
abbrev pub AreBehind : List NoteParts → List Reference → List Reference → Type 0
AreBehind sets before [] = Unit {0}
AreBehind sets before (r ∷ rs) = LeadsTo sets before r.named r.uid r.target × AreBehind sets (before ++ r ∷ []) rs

-- Where these offsets were reached, a part of the walk has these references, and those are reached behind it.
pub record Goes (sets : List NoteParts) (reached : List ℕ) (refs : List Reference) (after : List ℕ) : Type 0 where
  pub are : (before : List Reference) → Tells before reached → AreBehind sets before refs
  pub told : (before : List Reference) → Tells before reached → Tells (before ++ refs) after

none_goes : (sets : List NoteParts) (reached : List ℕ) → Goes sets reached [] reached
none_goes sets reached = record {
  are = λ before t. tt;
  told = λ before t. subst (λ (rs : List Reference). Tells rs reached) (sym (append-nil before)) t;
}

reached_end : (o : ℕ) (before : List Reference) (r : Reference)
    → IsReached o (before ++ r ∷ []) ↔ (IsReached o before ⊎ Reaches o r.named r.target)
reached_end o before r = (
  λ h. elim ((In-append h.0 before (r ∷ [])).0 h.1) [
    | inl i ↦ inl (h.0, i, h.2)
    | inr j ↦ elim j [
      | inl e ↦ inr (subst (λ (x : Reference). Reaches o x.named x.target) e h.2)
      | inr f ↦ absurd f
    ]
  ],
  λ h. elim h [
    | inl i ↦ (i.0, (In-append i.0 before (r ∷ [])).1 (inl i.1), i.2)
    | inr k ↦ (r, (In-append r before (r ∷ [])).1 (inr (inl refl)), k)
  ],
)

one_goes : (sets : List NoteParts) (reached after : List ℕ) (r : Reference)
    → ((before : List Reference) → Tells before reached → LeadsTo sets before r.named r.uid r.target)
    → ((o : ℕ) → In o after ↔ (In o reached ⊎ Reaches o r.named r.target)) → Goes sets reached (r ∷ []) after
one_goes sets reached after r leads grows = record {
  are = λ before t. (leads before t, tt);
  told = λ before t o. (
    λ h. elim ((grows o).0 h) [
      | inl i ↦ (reached_end o before r).1 (inl ((t o).0 i))
      | inr k ↦ (reached_end o before r).1 (inr k)
    ],
    λ h. elim ((reached_end o before r).0 h) [
      | inl i ↦ (grows o).1 (inl ((t o).1 i))
      | inr k ↦ (grows o).1 (inr k)
    ],
  );
}

behind_both : (sets : List NoteParts) (before xs ys : List Reference) → AreBehind sets before xs
    → AreBehind sets (before ++ xs) ys → AreBehind sets before (xs ++ ys)
behind_both sets before [] ys a b = subst (λ (rs : List Reference). AreBehind sets rs ys) (append-nil before) b
behind_both sets before (x ∷ xs) ys a b = (
  a.0,
  behind_both sets (before ++ x ∷ []) xs ys a.1
      (subst (λ (rs : List Reference). AreBehind sets rs ys) (sym (append_assoc before (x ∷ []) xs)) b),
)

both_go : (sets : List NoteParts) (a : List ℕ) (xs : List Reference) (b : List ℕ) (ys : List Reference) (c : List ℕ)
    → Goes sets a xs b → Goes sets b ys c → Goes sets a (xs ++ ys) c
both_go sets a xs b ys c g h = record {
  are = λ before t. behind_both sets before xs ys (g.are before t) (h.are (before ++ xs) (g.told before t));
  told = λ before t. subst (λ (rs : List Reference). Tells rs c) (append_assoc before xs ys)
      (h.told (before ++ xs) (g.told before t));
}

behind_at : (sets : List NoteParts) (before b : List Reference) (r : Reference) (a : List Reference)
    → AreBehind sets before (b ++ r ∷ a) → LeadsTo sets (before ++ b) r.named r.uid r.target
behind_at sets before [] r a h =
    subst (λ (rs : List Reference). LeadsTo sets rs r.named r.uid r.target) (sym (append-nil before)) h.0
behind_at sets before (x ∷ b) r a h =
    subst (λ (rs : List Reference). LeadsTo sets rs r.named r.uid r.target) (append_assoc before (x ∷ []) b)
    (behind_at sets (before ++ x ∷ []) b r a h.1)

-- ---- one reference

stays : (reached : List ℕ) (Reaching : ℕ → Type 0) → ((o : ℕ) → Reaching o → In o reached) → (o : ℕ)
    → In o reached ↔ (In o reached ⊎ Reaching o)
stays reached Reaching back o = (λ h. inl h, λ h. elim h [ inl i ↦ i | inr k ↦ back o k ])

grows : (x : ℕ) (reached : List ℕ) (o : ℕ) → In o (with_reached x reached) ↔ (In o reached ⊎ (x ≡ o))
grows x reached o =
    let among = In-with_one nat_cmp_total nat_cmp-IsAntisymmetric o x reached in (
      λ h. elim (among.0 h) [ inl e ↦ inr (sym e) | inr i ↦ inl i ],
      λ h. elim h [ inl i ↦ among.1 (inr i) | inr e ↦ among.1 (inl (sym e)) ],
    )

in_reached : (o : ℕ) (reached : List ℕ) → is_reached o reached ≡ true → In o reached
in_reached o reached e =
    let found = (list_any-In (λ x. x == o) reached).0 e in
    subst (λ x. In x reached) (eqb-true found.0 o found.2) found.1

stopped : (sets : List NoteParts) (w : Wanted) (uid reached : List ℕ) (t : Target)
    → ((before : List Reference) → Tells before reached → LeadsToSet sets before w uid t)
    → ((o : ℕ) → Reaches o (Below w) t → In o reached) → Goes sets reached (to_set w uid t ∷ []) reached
stopped sets w uid reached t leads back =
    one_goes sets reached reached (to_set w uid t) leads (stays reached (λ o. Reaches o (Below w) t) back)

-- What a step says: a target of a set that isn't read, or a set to be read, which is wanted and new.
abbrev StepSays : List NoteParts → Wanted → List ℕ → List ℕ → Result NoteParts Target → Type 0
StepSays sets w uid reached (Err t) = Goes sets reached (to_set w uid t ∷ []) reached
StepSays sets w uid reached (Ok n) = IsOnlyWith sets uid n × IsWanted w n × ¬ In n.offset reached

raw_says : (k : Kind) → is_raw k ≡ true → k ≡ kinds.RawSet
raw_says kinds.RawSet e = refl
raw_says _ e = absurd cc

key_says : (w : Wanted) (key : List ℕ) → fits w key ≡ true → HasKey w key
key_says wanted.Track key e = e
key_says wanted.Sequence key e = e
key_says wanted.Component key e = elim (or_cases (is_clip key || is_timecode key) (is_filler key) e) [
  | inl o ↦ elim (or_cases (is_clip key) (is_timecode key) o) [ inl c ↦ inl c | inr t ↦ inr (inl t) ]
  | inr f ↦ inr (inr f)
]
key_says wanted.Descriptor key e = tt

key_tells : (w : Wanted) (key : List ℕ) → HasKey w key → fits w key ≡ true
key_tells wanted.Track key h = h
key_tells wanted.Sequence key h = h
key_tells wanted.Component key (inl c) =
    or_left (is_clip key || is_timecode key) (is_filler key) (or_left (is_clip key) (is_timecode key) c)
key_tells wanted.Component key (inr (inl t)) =
    or_left (is_clip key || is_timecode key) (is_filler key) (or_right (is_clip key) (is_timecode key) t)
key_tells wanted.Component key (inr (inr f)) = or_right (is_clip key || is_timecode key) (is_filler key) f
key_tells wanted.Descriptor key h = refl

by_tests : (sets : List NoteParts) (w : Wanted) (uid reached : List ℕ) (n : NoteParts) → IsOnlyWith sets uid n
    → (raw fit again : Bool) → is_raw (kind_of n.key) ≡ raw → fits w n.key ≡ fit → is_reached n.offset reached ≡ again
    → StepSays sets w uid reached (cond (not raw) (Err (WrongKind n.offset)) (cond (not fit) (Err (Other n.offset))
    (cond again (Err (Again n.offset)) (Ok n))))
by_tests sets w uid reached n only false fit again r f a =
    stopped sets w uid reached (WrongKind n.offset)
    (λ before t. (n, only, refl, λ q. false≢true (sym r ∙ ap is_raw q))) (λ o h. absurd h)
by_tests sets w uid reached n only true false again r f a =
    stopped sets w uid reached (Other n.offset)
    (λ before t. (n, only, refl, (raw_says (kind_of n.key) r, λ k. false≢true (sym f ∙ key_tells w n.key k))))
    (λ o h. absurd h)
by_tests sets w uid reached n only true true true r f a =
    let there = in_reached n.offset reached a in
    stopped sets w uid reached (Again n.offset)
    (λ before t. ((n, only, refl, (raw_says (kind_of n.key) r, key_says w n.key f)), (t n.offset).0 there))
    (λ o h. subst (λ x. In x reached) h there)
by_tests sets w uid reached n only true true false r f a =
    (only, (raw_says (kind_of n.key) r, key_says w n.key f), not_reached n.offset reached a)

at_says : (sets : List NoteParts) (w : Wanted) (uid reached : List ℕ) (n : NoteParts) → IsOnlyWith sets uid n
    → StepSays sets w uid reached (set_at w reached n)
unfolding set_at
at_says sets w uid reached n only = by_tests sets w uid reached n only (is_raw (kind_of n.key)) (fits w n.key)
    (is_reached n.offset reached) refl refl refl

among_says : (sets : List NoteParts) (w : Wanted) (uid reached : List ℕ) (ws : List NoteParts) → AreApart 0 sets
    → filter (has_uid uid) sets ≡ ws → StepSays sets w uid reached (set_among w reached ws)
among_says sets w uid reached [] a e = stopped sets w uid reached Missing
    (λ before t. (found_iff sets uid found.Absent a).0 (ap found_among e)) (λ o h. absurd h)
among_says sets w uid reached (n ∷ []) a e =
    at_says sets w uid reached n (only_from sets uid n (subst (Picks sets uid) e (picks sets uid)))
among_says sets w uid reached (m ∷ n ∷ ws) a e = stopped sets w uid reached Several
    (λ before t. (found_iff sets uid found.Several a).0 (ap found_among e)) (λ o h. absurd h)

step_says : (sets : List NoteParts) (w : Wanted) (reached uid : List ℕ) → AreApart 0 sets
    → StepSays sets w uid reached (set_of sets w reached uid)
unfolding set_of
step_says sets w reached uid a = among_says sets w uid reached (filter (has_uid uid) sets) a refl

unreadable_goes : (sets : List NoteParts) (w : Wanted) (uid reached : List ℕ) (n : NoteParts)
    → StepSays sets w uid reached (Ok n) → ¬ IsReadableAs w n
    → Goes sets reached (to_set w uid (Unreadable n.offset) ∷ []) (with_reached n.offset reached)
unreadable_goes sets w uid reached n s r =
    one_goes sets reached (with_reached n.offset reached) (to_set w uid (Unreadable n.offset))
    (λ before t. ((n, s.0, refl, (s.1, r)), λ h. s.2 ((t n.offset).1 h))) (grows n.offset reached)

found_goes : (sets : List NoteParts) (w : Wanted) (uid reached : List ℕ) (n : NoteParts)
    → StepSays sets w uid reached (Ok n) → IsReadableAs w n
    → Goes sets reached (to_set w uid (Found n.offset) ∷ []) (with_reached n.offset reached)
found_goes sets w uid reached n s r =
    one_goes sets reached (with_reached n.offset reached) (to_set w uid (Found n.offset))
    (λ before t. ((n, s.0, refl, (s.1, r)), λ h. s.2 ((t n.offset).1 h))) (grows n.offset reached)

unread : {A E : Type 0} (read : List ℕ → Result A E) (n : NoteParts) → read_as read n ≡ None → ¬ IsReadable read n
unread {A} read n e r = false≢true (ap (λ (o : Option A). is_some o) (sym e) ∙ (is_some_readable read n).1 r)

has_read : {A E : Type 0} (read : List ℕ → Result A E) (n : NoteParts) (v : A) → read_as read n ≡ Some v
    → IsReadable read n
has_read read n v e = (v, (reads read n v).0 e)

-- ---- components

-- What a reader says of a set: that it can be read as what the reference wants, or can't.
abbrev Reading : {A : Type 0} → Wanted → NoteParts → Option A → Type 0
Reading w n None = ¬ IsReadableAs w n
Reading w n (Some a) = IsReadableAs w n

not_both : (a b : ℕ) (key : List ℕ) → ¬ (a ≡ b) → is_set_key a key ≡ true → is_set_key b key ≡ true → ⊥
not_both a b key differ h k =
    let one = (bytes_eq-Decides (drop 8 key) _).0 (and_parts _ _ h).1 in
    let other = (bytes_eq-Decides (drop 8 key) _).0 (and_parts _ _ k).1 in
    differ (ap (λ (l : List ℕ). get_or l 6 0) (sym one ∙ other))

part_by : (n : NoteParts) → HasKey wanted.Component n.key → (clip time : Bool) → is_clip n.key ≡ clip
    → is_timecode n.key ≡ time → Reading wanted.Component n (cond clip (option_map Clip (clip_in n))
    (cond time (option_map Timecode (timecode_in n)) (option_map Filler (filler_in n))))
unfolding clip_in timecode_in filler_in
part_by n h true time c t = elim (read_as clip_at n) as (λ o. read_as clip_at n ≡ o
    → Reading wanted.Component n (option_map Clip o)) [
      | None ↦ λ e r. elim r [
        | inl x ↦ unread clip_at n e x.1
        | inr y ↦ elim y [
          | inl x ↦ not_both 0x11 0x14 n.key (λ q. omega (arith, q)) c x.0
          | inr x ↦ not_both 0x11 0x09 n.key (λ q. omega (arith, q)) c x.0
        ]
      ]
      | Some p ↦ λ e. inl (c, has_read clip_at n p e)
    ] refl
part_by n h false true c t =
    elim (read_as timecode_at n) as (λ o. read_as timecode_at n ≡ o
    → Reading wanted.Component n (option_map Timecode o)) [
      | None ↦ λ e r. elim r [
        | inl x ↦ false≢true (sym c ∙ x.0)
        | inr y ↦ elim y [
          | inl x ↦ unread timecode_at n e x.1
          | inr x ↦ not_both 0x14 0x09 n.key (λ q. omega (arith, q)) t x.0
        ]
      ]
      | Some p ↦ λ e. inr (inl (t, has_read timecode_at n p e))
    ] refl
part_by n h false false c t =
    let f : is_filler n.key ≡ true = elim h [
      | inl x ↦ absurd (false≢true (sym c ∙ x))
      | inr y ↦ elim y [ inl x ↦ absurd (false≢true (sym t ∙ x)) | inr x ↦ x ]
    ] in
    elim (read_as filler_at n) as (λ o. read_as filler_at n ≡ o → Reading wanted.Component n (option_map Filler o)) [
      | None ↦ λ e r. elim r [
        | inl x ↦ false≢true (sym c ∙ x.0)
        | inr y ↦ elim y [ inl x ↦ false≢true (sym t ∙ x.0) | inr x ↦ unread filler_at n e x.1 ]
      ]
      | Some p ↦ λ e. inr (inr (f, has_read filler_at n p e))
    ] refl

part_says : (n : NoteParts) → HasKey wanted.Component n.key → Reading wanted.Component n (part_in n)
unfolding part_in
part_says n h = part_by n h (is_clip n.key) (is_timecode n.key) refl refl

-- A step has its reference, and those of what is below it.
step_goes : {A F R : Type 0} (sets : List NoteParts) (w : Wanted) (uid : List ℕ) (refs : R → List Reference)
    (under : F → List Reference) (make : Target → Option F → R) (read : NoteParts → Option A)
    (follow : List ℕ → A → F × List ℕ) (reached : List ℕ) (r : Result NoteParts Target) → StepSays sets w uid reached r
    → ((t : Target) (f : Option F) → refs (make t f) ≡ to_set w uid t ∷ option_map_or under f [])
    → ((n : NoteParts) → IsWanted w n → Reading w n (read n))
    → ((after : List ℕ) (a : A) → Goes sets after (under (follow after a).0) (follow after a).1)
    → Goes sets reached (refs (step make read follow reached r).0) (step make read follow reached r).1
step_goes sets w uid refs under make read follow reached (Err t) s says reading go =
    subst (λ (rs : List Reference). Goes sets reached rs reached) (sym (says t None)) s
step_goes {A} {F} {R} sets w uid refs under make read follow reached (Ok n) s says reading go =
    let o = n.offset in
    let after = with_reached o reached in
    elim (read n) as (λ (v : Option A). Reading w n v → Goes sets reached (refs (read_step make follow o after v).0)
    (read_step make follow o after v).1) [
      | None ↦ λ d. subst (λ (rs : List Reference). Goes sets reached rs after) (sym (says (Unreadable o) None))
          (unreadable_goes sets w uid reached n s d)
      | Some a ↦ λ d.
          let below_it = follow after a in
          subst (λ (rs : List Reference). Goes sets reached rs below_it.1) (sym (says (Found o) (Some below_it.0)))
          (both_go sets reached (to_set w uid (Found o) ∷ []) after (under below_it.0) below_it.1
          (found_goes sets w uid reached n s d) (go after a))
    ] (reading n s.1)

steps_go : {U R : Type 0} (sets : List NoteParts) (refs : R → List Reference) (one : List ℕ → U → R × List ℕ)
    → ((reached : List ℕ) (u : U) → Goes sets reached (refs (one reached u).0) (one reached u).1)
    → (reached : List ℕ) (us : List U) → Goes sets reached (flat_map refs (steps one reached us).0)
    (steps one reached us).1
steps_go sets refs one goes reached [] = none_goes sets reached
steps_go sets refs one goes reached (u ∷ us) =
    let first = one reached u in
    let others = steps one first.1 us in
    both_go sets reached (refs first.0) first.1 (flat_map refs others.0) others.1 (goes reached u)
    (steps_go sets refs one goes first.1 us)

-- Nothing below.
alone : {F : Type 0} (r : Reference) (f : Option F) → r ∷ [] ≡ r ∷ option_map_or (λ (v : F). []) f []
alone r None = refl
alone r (Some v) = refl

one_by_one : {R : Type 0} (g : R → Reference) (xs : List R) → flat_map (λ x. g x ∷ []) xs ≡ map g xs
one_by_one g [] = refl
one_by_one g (x ∷ xs) = ap (λ (l : List Reference). g x ∷ l) (one_by_one g xs)

-- ---- components

part_reads : (n : NoteParts) → IsWanted wanted.Component n → Reading wanted.Component n (part_in n)
part_reads n h = part_says n h.1

one_component : (sets : List NoteParts) (start : Option ℕ) (reached uid : List ℕ) → AreApart 0 sets
    → Goes sets reached (references_of_components ((component_of sets start reached uid).0 ∷ []))
    (component_of sets start reached uid).1
unfolding component_of
one_component sets start reached uid a = step_goes sets wanted.Component uid
    (λ (c : Component). references_of_components (c ∷ [])) (λ (p : Part). []) (component_to start uid) part_in
    nothing_follows reached (set_of sets wanted.Component reached uid) (step_says sets wanted.Component reached uid a)
    (λ t f. alone (to_set wanted.Component uid t) f) part_reads (λ after p. none_goes sets after)

components_go : (sets : List NoteParts) (start : Option ℕ) (reached : List ℕ) (uids : List (List ℕ)) → AreApart 0 sets
    → Goes sets reached (references_of_components (components_from sets start reached uids).0)
    (components_from sets start reached uids).1
components_go sets start reached [] a = none_goes sets reached
components_go sets start reached (uid ∷ uids) a =
    let one = component_of sets start reached uid in
    let next = end_of_part start one.0.part in
    let others = components_from sets next one.1 uids in
    both_go sets reached (references_of_components (one.0 ∷ [])) one.1 (references_of_components others.0) others.1
    (one_component sets start reached uid a) (components_go sets next one.1 uids a)

-- ---- sequences and tracks

sequence_reads : (n : NoteParts) → IsWanted wanted.Sequence n → Reading wanted.Sequence n (sequence_in n)
unfolding sequence_in
sequence_reads n h =
    elim (read_as sequence_at n) as (λ o. read_as sequence_at n ≡ o → Reading wanted.Sequence n o) [
      | None ↦ λ e. unread sequence_at n e
      | Some s ↦ λ e. has_read sequence_at n s e
    ] refl

one_sequence : (sets : List NoteParts) (reached uid : List ℕ) → AreApart 0 sets
    → Goes sets reached (references_of_sequence (sequence_of sets reached uid).0) (sequence_of sets reached uid).1
unfolding sequence_of
one_sequence sets reached uid a = step_goes sets wanted.Sequence uid references_of_sequence
    (λ (f : FoundSequence). references_of_components f.components) (sequence_to uid) sequence_in (found_sequence sets)
    reached (set_of sets wanted.Sequence reached uid) (step_says sets wanted.Sequence reached uid a) (λ t f. refl)
    sequence_reads (λ after s. components_go sets (Some 0) after s.components a)

track_reads : (n : NoteParts) → IsWanted wanted.Track n → Reading wanted.Track n (track_in n)
unfolding track_in
track_reads n h = elim (read_as track_at n) as (λ o. read_as track_at n ≡ o → Reading wanted.Track n o) [
  | None ↦ λ e. unread track_at n e
  | Some t ↦ λ e. has_read track_at n t e
] refl

one_track : (sets : List NoteParts) (reached uid : List ℕ) → AreApart 0 sets
    → Goes sets reached (references_of_track (track_of sets reached uid).0) (track_of sets reached uid).1
unfolding track_of
one_track sets reached uid a = step_goes sets wanted.Track uid references_of_track
    (λ (f : FoundTrack). references_of_sequence f.sequence) (track_to uid) track_in (found_track sets) reached
    (set_of sets wanted.Track reached uid) (step_says sets wanted.Track reached uid a) (λ t f. refl) track_reads
    (λ after t. one_sequence sets after t.sequence a)

-- ---- descriptors

descriptor_reads : (n : NoteParts) → IsWanted wanted.Descriptor n → Reading wanted.Descriptor n (descriptor_in n)
unfolding descriptor_in
descriptor_reads n h =
    elim (read_as descriptor_at n) as (λ o. read_as descriptor_at n ≡ o → Reading wanted.Descriptor n o) [
      | None ↦ λ e. unread descriptor_at n e
      | Some d ↦ λ e. has_read descriptor_at n d e
    ] refl

one_part : (sets : List NoteParts) (reached uid : List ℕ) → AreApart 0 sets
    → Goes sets reached (references_of_parts ((subdescriptor_of sets reached uid).0 ∷ []))
    (subdescriptor_of sets reached uid).1
unfolding subdescriptor_of
one_part sets reached uid a = step_goes sets wanted.Descriptor uid
    (λ (d : SubdescriptorAt). references_of_parts (d ∷ [])) (λ (d : DescriptorParts). []) (subdescriptor_to uid)
    descriptor_in nothing_follows reached (set_of sets wanted.Descriptor reached uid)
    (step_says sets wanted.Descriptor reached uid a) (λ t f. alone (to_set wanted.Descriptor uid t) f) descriptor_reads
    (λ after d. none_goes sets after)

parts_go : (sets : List NoteParts) (reached : List ℕ) (uids : List (List ℕ)) → AreApart 0 sets
    → Goes sets reached (references_of_parts (subdescriptors_from sets reached uids).0)
    (subdescriptors_from sets reached uids).1
parts_go sets reached uids a =
    let parts = subdescriptors_from sets reached uids in
    subst (λ (rs : List Reference). Goes sets reached rs parts.1)
    (one_by_one (λ (d : SubdescriptorAt). to_set wanted.Descriptor d.uid d.target) parts.0)
    (steps_go sets (λ (d : SubdescriptorAt). references_of_parts (d ∷ [])) (subdescriptor_of sets)
    (λ after uid. one_part sets after uid a) reached uids)

one_descriptor : (sets : List NoteParts) (reached uid : List ℕ) → AreApart 0 sets
    → Goes sets reached (references_of_descriptor (descriptor_of sets reached uid).0)
    (descriptor_of sets reached uid).1
unfolding descriptor_of
one_descriptor sets reached uid a = step_goes sets wanted.Descriptor uid references_of_descriptor
    (λ (f : FoundDescriptor). references_of_parts f.subdescriptors) (descriptor_to uid) descriptor_in
    (found_descriptor sets) reached (set_of sets wanted.Descriptor reached uid)
    (step_says sets wanted.Descriptor reached uid a) (λ t f. refl) descriptor_reads
    (λ after d. parts_go sets after d.subdescriptors a)

-- ---- packages

below_found : (sets : List NoteParts) (reached : List ℕ) (kind : Kind) (p : PackageParts) → AreApart 0 sets
    → Goes sets reached (references_of_found (found_package sets reached kind p).0)
    (found_package sets reached kind p).1
below_found sets reached kind p a =
    let tracks = tracks_from sets reached p.tracks in
    let refs = flat_map references_of_track tracks.0 in
    let above = steps_go sets references_of_track (track_of sets) (λ after uid. one_track sets after uid a) reached
    p.tracks in
    elim p.descriptor as (λ d. Goes sets reached
    (refs ++ option_map_or references_of_descriptor (descriptor_named sets tracks.1 d).0 [])
    (descriptor_named sets tracks.1 d).1) [
      | None ↦ both_go sets reached refs tracks.1 [] tracks.1 above (none_goes sets tracks.1)
      | Some uid ↦
          let descriptor = descriptor_of sets tracks.1 uid in
          both_go sets reached refs tracks.1 (references_of_descriptor descriptor.0) descriptor.1 above
          (one_descriptor sets tracks.1 uid a)
    ]

package_stopped : (sets : List NoteParts) (uid reached : List ℕ) (t : Target)
    → ((before : List Reference) → Tells before reached → LeadsToPackage sets before uid t)
    → ((o : ℕ) → Reaches o Package t → In o reached) → Goes sets reached (to_package uid t ∷ []) reached
package_stopped sets uid reached t leads back =
    one_goes sets reached reached (to_package uid t) leads (stays reached (λ o. Reaches o Package t) back)

package_read : (sets : List NoteParts) (uid : List ℕ) (o : ℕ) (reached : List ℕ) (kind : Kind) (p : PackageParts)
    → AreApart 0 sets → IsTarget sets resolving.Package uid (resolved.Found o) → ¬ In o reached
    → Goes sets reached (references_of_package
    (package_to uid (Found o) (Some (found_package sets (with_reached o reached) kind p).0)))
    (found_package sets (with_reached o reached) kind p).1
package_read sets uid o reached kind p a i new =
    let after = with_reached o reached in
    let found = found_package sets after kind p in
    both_go sets reached (to_package uid (Found o) ∷ []) after (references_of_found found.0) found.1
    (one_goes sets reached after (to_package uid (Found o)) (λ before t. (i, λ h. new ((t o).1 h))) (grows o reached))
    (below_found sets after kind p a)

package_goes : (notes : List NoteParts) (partition : ℕ) (uid reached : List ℕ) (t : ResolvedTarget)
    → AreApart 0 (sets_of notes partition) → IsTarget (sets_of notes partition) resolving.Package uid t
    → Goes (sets_of notes partition) reached
    (references_of_package (package_by (clear_notes notes) (sets_of notes partition) uid reached t).0)
    (package_by (clear_notes notes) (sets_of notes partition) uid reached t).1
unfolding package_in
package_goes notes partition uid reached resolved.Missing a i =
    package_stopped (sets_of notes partition) uid reached Missing (λ before t. i) (λ o h. absurd h)
package_goes notes partition uid reached resolved.Several a i =
    package_stopped (sets_of notes partition) uid reached Several (λ before t. i) (λ o h. absurd h)
package_goes notes partition uid reached (resolved.WrongKind o) a i =
    package_stopped (sets_of notes partition) uid reached (WrongKind o) (λ before t. i) (λ o h. absurd h)
package_goes notes partition uid reached (resolved.Unreadable o) a i =
    package_stopped (sets_of notes partition) uid reached (Unreadable o) (λ before t. i) (λ o h. absurd h)
package_goes notes partition uid reached (resolved.Found o) a i =
    let sets = sets_of notes partition in
    let after = with_reached o reached in
    let n = i.0 in
    let clear = (In-clear_notes n notes).0 (sets_are_clear notes partition n i.1.held) in
    let there = clear_at-found o notes n clear i.2 in
    let read = (reads package_at n i.4.0).1 i.4.1 in
    elim (is_reached o reached) as (λ b. is_reached o reached ≡ b → Goes sets reached
    (references_of_package (cond b (unfollowed uid (resolved.Found o), reached)
    (package_there sets uid o after (find (λ m. m.offset == o) (clear_notes notes)))).0)
    (cond b (unfollowed uid (resolved.Found o), reached)
    (package_there sets uid o after (find (λ m. m.offset == o) (clear_notes notes)))).1) [
      | true ↦ λ e.
          let before_it = in_reached o reached e in
          package_stopped sets uid reached (Again o) (λ before t. (i, (t o).0 before_it))
          (λ z h. subst (λ x. In x reached) h before_it)
      | false ↦ λ e. subst (λ (m : Option NoteParts). Goes sets reached
          (references_of_package (package_there sets uid o after m).0) (package_there sets uid o after m).1) (sym there)
          (subst (λ (p : Option PackageParts). Goes sets reached
          (references_of_package
          (read_step (package_to uid) (λ x q. found_package sets x (kind_of n.key) q) o after p).0)
          (read_step (package_to uid) (λ x q. found_package sets x (kind_of n.key) q) o after p).1) (sym read)
          (package_read sets uid o reached (kind_of n.key) i.4.0 a i (not_reached o reached e)))
    ] refl

one_package : (notes : List NoteParts) (partition : ℕ) (reached uid : List ℕ)
    → AreApart 0 (sets_of notes partition) → Goes (sets_of notes partition) reached
    (references_of_package (package_of (clear_notes notes) (sets_of notes partition) reached
    (ref_of notes partition resolving.Package uid)).0)
    (package_of (clear_notes notes) (sets_of notes partition) reached
    (ref_of notes partition resolving.Package uid)).1
unfolding package_of
one_package notes partition reached uid a =
    let t = target_of notes partition resolving.Package uid in
    package_goes notes partition uid reached t a ((target_of_iff notes partition resolving.Package uid t a).0 refl)

packages_go : (notes : List NoteParts) (partition : ℕ) (reached : List ℕ) (uids : List (List ℕ))
    → AreApart 0 (sets_of notes partition) → Goes (sets_of notes partition) reached
    (references_of (packages_from (clear_notes notes) (sets_of notes partition) reached
    (refs_of notes partition resolving.Package uids)).0)
    (packages_from (clear_notes notes) (sets_of notes partition) reached
    (refs_of notes partition resolving.Package uids)).1
packages_go notes partition reached [] a = none_goes (sets_of notes partition) reached
packages_go notes partition reached (uid ∷ uids) a =
    let clear = clear_notes notes in
    let sets = sets_of notes partition in
    let one = package_of clear sets reached (ref_of notes partition resolving.Package uid) in
    let others = packages_from clear sets one.1 (refs_of notes partition resolving.Package uids) in
    both_go sets reached (references_of_package one.0) one.1 (references_of others.0) others.1
    (one_package notes partition reached uid a) (packages_go notes partition one.1 uids a)

-- ---- what is resolved

-- The references to packages are those of some identifiers, judged where the storage was read.
abbrev AreJudged : List NoteParts → ResolvedParts → Type 0
AreJudged notes r = (uids : List (List ℕ)) × (r.packages ≡ refs_of notes r.partition resolving.Package uids)

by_preface : (notes : List NoteParts) (partition preface : ℕ) (o : Option PrefaceParts)
    → AreJudged notes (resolved_by notes partition preface o)
by_preface notes partition preface None = ([], refl)
by_preface notes partition preface (Some p) = (_, refl)

by_note : (notes : List NoteParts) (partition : ℕ) (o : Option NoteParts) (r : ResolvedParts)
    → option_map (λ n. resolved_by notes partition n.offset (preface_in n)) o ≡ Some r → AreJudged notes r
by_note notes partition None r e = absurd cc
by_note notes partition (Some n) r e =
    let same : resolved_by notes partition n.offset (preface_in n) ≡ r = cc in
    subst (AreJudged notes) same (by_preface notes partition n.offset (preface_in n))

by_copy : (notes : List NoteParts) (c : Option CopyInfo) (r : ResolvedParts) → resolved_from notes c ≡ Some r
    → AreJudged notes r
by_copy notes None r e = absurd cc
by_copy notes (Some c) r e = by_note notes c.partition (find is_preface_note (sets_of notes c.partition)) r e

pub by_those_before : (notes : List NoteParts) (r : ResolvedParts) → IsContent notes → resolved_of notes ≡ Some r
    → AreTargets (sets_of notes r.partition) (references_of (tracks_in notes r))
by_those_before notes r content e b x a split =
    let sets = sets_of notes r.partition in
    let judged = by_copy notes (preferred_of (copies_of notes)) r e in
    let goes = packages_go notes r.partition [] judged.0 (sets_apart notes r.partition content) in
    let refs = references_of (packages_from (clear_notes notes) sets []
    (refs_of notes r.partition resolving.Package judged.0)).0 in
    let all : AreBehind sets [] refs = goes.are [] (λ o. (λ h. absurd h, λ h. absurd h.1)) in
    let same : refs ≡ b ++ x ∷ a =
    ap (λ (rs : List Ref). references_of (packages_from (clear_notes notes) sets [] rs).0) (sym judged.1) ∙ split in
    behind_at sets [] b x a (subst (AreBehind sets []) same all)
