-- What clocks go by is what the relations of choices say.
use Rattle.std.proofs.Common.{◌<ℤ◌, int_lt}
use Rattle.std.specs.Prelude.{not}
use Rattle.mxf_views.proofs.Common.{◌≡◌, ◌≢◌, ◌∙◌, ◌↔◌, ◌⊎◌, ◌&&◌, ◌||◌, ◌==◌, ◌≤◌, ◌*◌, ℕ, ℤ, pos, negsuc, Bool, true}
use Rattle.mxf_views.proofs.Common.{false, cond, refl, sym, ap, subst, inl, inr, arith, List, [], ◌∷◌, Option, Some, None}
use Rattle.mxf_views.proofs.Common.{In, In-list_all, IsBest, IsContent, IsPreferred, one_by_key}
use Rattle.mxf_views.proofs.Common.{NoteParts, SegmentAtParts, and_from, and_parts, bytes_eq}
use Rattle.mxf_views.proofs.Common.{bytes_eq-Decides, copies_of, count_by, eq-eqb, eqb-true}
use Rattle.mxf_views.proofs.Common.{find, is_some, list_all-In, list_any, list_any-In, lt-ltb, ltb-true, nat_lt}
use Rattle.mxf_views.proofs.Common.{option_and_then, option_map_or, preferred_of, some_is, unsigned_abs}
use Rattle.mxf_sets.specs.Component.{ClipParts, TimecodeParts, is_drop}
use Rattle.mxf_sets.specs.Rate.{is_good, is_same_rate}
use Rattle.mxf_sets.specs.declared.record.rate.Rate.{Rate}
use Rattle.mxf_views.specs.declared.copy.CopyInfo.{CopyInfo}
use Rattle.mxf_views.proofs.BestLaws.{one_best, preferred_is}
use Rattle.mxf_views.proofs.CopyLaws.{copies_rise}
use Rattle.mxf_views.proofs.KeyedLists.{rise_by}
use Rattle.mxf_tracks.specs.declared.component.Component.{Component}
use Rattle.mxf_tracks.specs.declared.component.Part.{Part}
use Rattle.mxf_tracks.specs.declared.component.Part.TheVariants as parts
use Rattle.mxf_tracks.specs.declared.container.Container.{Container}
use Rattle.mxf_tracks.specs.declared.package.FoundPackage.{FoundPackage}
use Rattle.mxf_tracks.specs.declared.package.PackageAt.{PackageAt}
use Rattle.mxf_tracks.specs.declared.package.PackageKind.{PackageKind}
use Rattle.mxf_tracks.specs.declared.package.PackageKind.TheVariants.{Material, Source}
use Rattle.mxf_tracks.specs.declared.sequence.FoundSequence.{FoundSequence}
use Rattle.mxf_tracks.specs.declared.sequence.SequenceKind.{SequenceKind}
use Rattle.mxf_tracks.specs.declared.sequence.SequenceKind.TheVariants as kinds
use Rattle.mxf_tracks.specs.declared.track.FoundTrack.{FoundTrack}
use Rattle.mxf_tracks.specs.declared.track.TrackAt.{TrackAt}
use Rattle.mxf_clocks.specs.declared.clock_track.ClockTrack.{ClockTrack}
use Rattle.mxf_clocks.specs.Choices.{AreEqualRates, HasComponent, HasSequence, IsBeside, IsClipOf, IsClockOf, IsFileIndex}
use Rattle.mxf_clocks.specs.Choices.{IsFinished, IsGood, IsNotBelow, IsOfEssence, IsOfTimecode, IsOnly, IsOriginOf}
use Rattle.mxf_clocks.specs.Choices.{IsOwnTrack, IsShowing, IsTeller, IsTimed, IsTrackFor, TellsTime}
use Rattle.mxf_clocks.specs.ClockTracks.{begins_at_zero, clock_by, clock_of, clock_with, components_of, found_packages}
use Rattle.mxf_clocks.specs.ClockTracks.{found_tracks, is_essence, is_of_kind, is_timecode, only_timecode, timecode_in}
use Rattle.mxf_clocks.specs.Clocks.{is_finished, teller, tells_time}
use Rattle.mxf_clocks.specs.FilePackages.{file_index, has_identifier, index_in, is_material, is_of_one, is_zeros}
use Rattle.mxf_clocks.specs.TracksFor.{StartedClip, agrees, clip_in, clip_of, index_rate, is_below, is_beside, is_clip_of}
use Rattle.mxf_clocks.specs.TracksFor.{is_timed, naming, origin_at, origin_of, shows, track_for}
use Rattle.mxf_clocks.proofs.FirstLaws.{first-is, only-is}
use Rattle.mxf_clocks.proofs.Members.{then_to, then_with, to_choice, with_choice}

-- ---- numbers and rates

above-is : (z : ℤ) → (int_lt (pos 0) z ≡ true) ↔ (pos 0 <ℤ z)
above-is (pos n) = grind arith
above-is (negsuc n) = grind arith

zero-is : (z : ℤ) → ((unsigned_abs z == 0) ≡ true) ↔ (z ≡ pos 0)
zero-is (pos n) = (λ e. ap pos (eqb-true n 0 e), λ e. ap (λ z. unsigned_abs z == 0) e)
zero-is (negsuc n) = (
  λ e. absurd (let k = eqb-true (unsigned_abs (negsuc n)) 0 e in omega (arith, k)),
  λ e. ap (λ z. unsigned_abs z == 0) e,
)

good-is : (r : Rate) → (is_good r ≡ true) ↔ IsGood r
good-is r =
    let a = above-is r.numerator in
    let b = above-is r.denominator in (
      λ e. let p = and_parts (int_lt (pos 0) r.numerator) (int_lt (pos 0) r.denominator) e in (a.0 p.0, b.0 p.1),
      λ g. and_from (int_lt (pos 0) r.numerator) (int_lt (pos 0) r.denominator) (a.1 g.0) (b.1 g.1),
    )

equal-is : (a b : Rate) → (is_same_rate a b ≡ true) ↔ AreEqualRates a b
equal-is a b =
    let x = unsigned_abs a.numerator * unsigned_abs b.denominator in
    let y = unsigned_abs b.numerator * unsigned_abs a.denominator in (
      λ e.
          let p = and_parts (is_good a && is_good b) (x == y) e in
          let q = and_parts (is_good a) (is_good b) p.0 in
          ((good-is a).0 q.0, (good-is b).0 q.1, eqb-true x y p.1),
      λ s. and_from (is_good a && is_good b) (x == y)
          (and_from (is_good a) (is_good b) ((good-is a).1 s.0) ((good-is b).1 s.1)) (eq-eqb x y s.2),
    )

not_less : (x y : ℕ) → (not (nat_lt x y) ≡ true) ↔ (y ≤ x)
not_less x y = grind arith

not_below-is : (a b : Rate) → (not (is_below a b) ≡ true) ↔ IsNotBelow a b
not_below-is a b = not_less (unsigned_abs a.numerator * unsigned_abs b.denominator)
    (unsigned_abs b.numerator * unsigned_abs a.denominator)

-- ---- sequences

sequence-is : (is_such : SequenceKind → Bool) (IsSo : FoundSequence → Type 0)
    → ((s : FoundSequence) → (is_such s.kind ≡ true) ↔ IsSo s) → (t : FoundTrack)
    → (is_of_kind is_such t ≡ true) ↔ HasSequence IsSo t
sequence-is is_such IsSo says t = (
  λ e. elim t.sequence.found as (λ o. t.sequence.found ≡ o → option_map_or (λ s. is_such s.kind) o false ≡ true
      → HasSequence IsSo t) [ None ↦ λ f e. absurd cc | Some s ↦ λ f e. (s, f, (says s).0 e) ] refl e,
  λ h. ap (λ o. option_map_or (λ s. is_such s.kind) o false) h.1 ∙ (says h.0).1 h.2,
)

of_timecode-is : (k : SequenceKind) → (is_timecode k ≡ true) ↔ (k ≡ kinds.Timecode)
of_timecode-is kinds.Timecode = (λ e. refl, λ e. refl)
of_timecode-is _ = (λ e. absurd cc, λ e. absurd cc)

essence_to : (k : SequenceKind) → is_essence k ≡ true
    → (k ≡ kinds.Picture) ⊎ (k ≡ kinds.Sound) ⊎ (k ≡ kinds.Data)
essence_to kinds.Picture e = inl refl
essence_to kinds.Sound e = inr (inl refl)
essence_to kinds.Data e = inr (inr refl)
essence_to _ e = absurd cc

essence_from : (k : SequenceKind) → (k ≡ kinds.Picture) ⊎ (k ≡ kinds.Sound) ⊎ (k ≡ kinds.Data)
    → is_essence k ≡ true
essence_from k (inl e) = ap is_essence e
essence_from k (inr (inl e)) = ap is_essence e
essence_from k (inr (inr e)) = ap is_essence e

timecode-is : (t : FoundTrack) → (is_of_kind is_timecode t ≡ true) ↔ IsOfTimecode t
timecode-is = sequence-is is_timecode (λ s. s.kind ≡ kinds.Timecode) (λ s. of_timecode-is s.kind)

essence-is : (t : FoundTrack) → (is_of_kind is_essence t ≡ true) ↔ IsOfEssence t
essence-is = sequence-is is_essence (λ s. (s.kind ≡ kinds.Picture) ⊎ (s.kind ≡ kinds.Sound) ⊎ (s.kind ≡ kinds.Data))
    (λ s. (essence_to s.kind, essence_from s.kind))

-- The components of a track have something that no list without components has.
listed : (P : List Component → Type 0) → ¬ P [] → (t : FoundTrack)
    → P (components_of t) ↔ HasSequence (λ s. P s.components) t
listed P none t = (
  λ p. elim t.sequence.found as (λ o. t.sequence.found ≡ o → P (option_map_or (λ s. s.components) o [])
      → HasSequence (λ s. P s.components) t) [ None ↦ λ f p. absurd (none p) | Some s ↦ λ f p. (s, f, p) ] refl p,
  λ h. subst P (sym (ap (λ o. option_map_or (λ s. s.components) o []) h.1)) h.2,
)

pub component-is : (t : FoundTrack) (c : Component) → In c (components_of t) ↔ HasComponent t c
component-is t c = listed (λ cs. In c cs) (λ h. h) t

only_component-is : (t : FoundTrack) (c : Component)
    → (components_of t ≡ c ∷ []) ↔ HasSequence (λ s. s.components ≡ c ∷ []) t
only_component-is t c = listed (λ cs. cs ≡ c ∷ []) (λ e. absurd cc) t

-- ---- clocks

timecode_part : (p : Part) (t : TimecodeParts) → timecode_in p ≡ Some t → p ≡ parts.Timecode t
timecode_part (parts.Timecode u) t e = (let same : u ≡ t = cc in ap parts.Timecode same)
timecode_part (parts.Clip u) t e = absurd cc
timecode_part (parts.Filler u) t e = absurd cc

only_to_timecode : (cs : List Component) (t : TimecodeParts) → only_timecode cs ≡ Some t
    → (c : Component) × (cs ≡ c ∷ []) × (c.part ≡ Some (parts.Timecode t))
only_to_timecode [] t e = absurd cc
only_to_timecode (c ∷ []) t e =
    let w = then_with timecode_in c.part t e in
    (c, refl, w.1 ∙ ap (λ p. Some p) (timecode_part w.0 t w.2))
only_to_timecode (c ∷ d ∷ cs) t e = absurd cc

abbrev clock_at : Rate → TimecodeParts → ClockTrack
clock_at rate t = record { rate = rate; start = t.start; duration = t.duration; base = t.base; is_drop = is_drop t }

clock_to : (tracks : List TrackAt) (c : ClockTrack) → clock_of tracks ≡ Some c → IsClockOf tracks c
unfolding clock_of clock_by
clock_to tracks c e =
    let w = then_with clock_by (find (is_of_kind is_timecode) (found_tracks tracks)) c e in
    let t = w.0 in
    let rate = t.track.edit_rate in
    let g = with_choice (is_good rate && begins_at_zero t)
    (option_and_then (clock_with rate) (only_timecode (components_of t))) c w.2 in
    let p = and_parts (is_good rate) (begins_at_zero t) g.0 in
    let v = then_with (clock_with rate) (only_timecode (components_of t)) c g.1 in
    let o = only_to_timecode (components_of t) v.0 v.1 in
    let b = with_choice (nat_lt 0 v.0.base) (Some (clock_at rate v.0)) c v.2 in
    record {
      track = t;
      first = (first-is (is_of_kind is_timecode) IsOfTimecode timecode-is (found_tracks tracks) t).0 w.1;
      good = (good-is rate).0 p.0;
      origin = (zero-is t.track.origin).0 p.1;
      component = o.0;
      only = (only_component-is t o.0).0 o.1;
      timecode = v.0;
      part = o.2;
      base = ltb-true 0 v.0.base b.0;
      clock_is = (let f = b.1 in cc (f));
    }

clock_from : (tracks : List TrackAt) (c : ClockTrack) → IsClockOf tracks c → clock_of tracks ≡ Some c
unfolding clock_of clock_by
clock_from tracks c r =
    let t = r.track in
    let rate = t.track.edit_rate in
    then_to clock_by (find (is_of_kind is_timecode) (found_tracks tracks)) t c
    ((first-is (is_of_kind is_timecode) IsOfTimecode timecode-is (found_tracks tracks) t).1 r.first)
    (to_choice (is_good rate && begins_at_zero t)
    (option_and_then (clock_with rate) (only_timecode (components_of t))) c
    (and_from (is_good rate) (begins_at_zero t) ((good-is rate).1 r.good) ((zero-is t.track.origin).1 r.origin))
    (then_to (clock_with rate) (only_timecode (components_of t)) r.timecode c
    (ap only_timecode ((only_component-is t r.component).1 r.only) ∙ ap (option_and_then timecode_in) r.part)
    (to_choice (nat_lt 0 r.timecode.base) (Some (clock_at rate r.timecode)) c (lt-ltb 0 r.timecode.base r.base)
    (ap (λ x. Some x) (sym r.clock_is)))))

pub clock-is : (tracks : List TrackAt) (c : ClockTrack) → (clock_of tracks ≡ Some c) ↔ IsClockOf tracks c
clock-is tracks c = (clock_to tracks c, clock_from tracks c)

-- ---- tracks beside clocks

agree-is : (index_sid : ℕ) (rate : Rate) (s : SegmentAtParts)
    → (agrees index_sid rate s ≡ true)
    ↔ (s.segment.numbers.index_sid ≡ index_sid → AreEqualRates (index_rate s.segment.numbers) rate)
agree-is index_sid rate s =
    let n = s.segment.numbers.index_sid in
    let is = equal-is (index_rate s.segment.numbers) rate in
    elim (n == index_sid) as (λ b. (n == index_sid) ≡ b
    → ((not b || is_same_rate (index_rate s.segment.numbers) rate) ≡ true)
    ↔ (n ≡ index_sid → AreEqualRates (index_rate s.segment.numbers) rate)) [
      | true ↦ λ e. (λ t q. is.0 t, λ f. is.1 (f (eqb-true n index_sid e)))
      | false ↦ λ e. (λ t q. absurd (let k = eq-eqb n index_sid q in cc (e, k)), λ f. refl)
    ] refl

timed-is : (segments : List SegmentAtParts) (index_sid : ℕ) (rate : Rate)
    → (is_timed segments index_sid rate ≡ true) ↔ IsTimed segments index_sid rate
unfolding is_timed
timed-is segments index_sid rate = (
  λ e s h. (agree-is index_sid rate s).0 (list_all-In (agrees index_sid rate) segments s e h),
  λ t. In-list_all (agrees index_sid rate) segments (λ s h. (agree-is index_sid rate s).1 (t s h)),
)

module _ (segments : List SegmentAtParts) (index_sid : ℕ) (clock_rate : Rate) where
  beside-is : (t : FoundTrack)
      → (is_beside (is_timed segments) index_sid clock_rate t ≡ true) ↔ IsBeside segments index_sid clock_rate t
  unfolding is_beside
  beside-is t =
      let rate = t.track.edit_rate in
      let kind = is_of_kind is_essence t in
      let good = is_good rate in
      let above = not (is_below rate clock_rate) in
      let timed = is_timed segments index_sid rate in (
        λ e.
            let p = and_parts (kind && good && above) timed e in
            let q = and_parts (kind && good) above p.0 in
            let k = and_parts kind good q.0 in
            record {
              essence = (essence-is t).0 k.0;
              good = (good-is rate).0 k.1;
              not_below = (not_below-is rate clock_rate).0 q.1;
              timed = (timed-is segments index_sid rate).0 p.1;
            },
        λ b. and_from (kind && good && above) timed
            (and_from (kind && good) above
            (and_from kind good ((essence-is t).1 b.essence) ((good-is rate).1 b.good))
            ((not_below-is rate clock_rate).1 b.not_below)) ((timed-is segments index_sid rate).1 b.timed),
      )

  pub own-is : (tracks : List TrackAt) (t : FoundTrack)
      → (find (is_beside (is_timed segments) index_sid clock_rate) (found_tracks tracks) ≡ Some t)
      ↔ IsOwnTrack segments index_sid clock_rate tracks t
  own-is tracks t = first-is (is_beside (is_timed segments) index_sid clock_rate)
      (IsBeside segments index_sid clock_rate) beside-is (found_tracks tracks) t

-- ---- clips

clip_part : (p : Part) (c : ClipParts) → clip_in p ≡ Some c → p ≡ parts.Clip c
clip_part (parts.Clip u) c e = (let same : u ≡ c = cc in ap parts.Clip same)
clip_part (parts.Timecode u) c e = absurd cc
clip_part (parts.Filler u) c e = absurd cc

clip_to : (uid : List ℕ) (component : Component) (s : StartedClip) → clip_of uid component ≡ Some s
    → IsClipOf uid component s
unfolding clip_of
clip_to uid component s e =
    let w = then_with (λ start. option_and_then (naming uid start) (option_and_then clip_in component.part))
    component.start s e in
    let x = then_with (naming uid w.0) (option_and_then clip_in component.part) s w.2 in
    let y = then_with clip_in component.part x.0 x.1 in
    let z = with_choice (bytes_eq x.0.source_package uid) (Some (record { start = w.0; clip = x.0 })) s x.2 in
    let same : ◌≡◌ {A = StartedClip} (record { start = w.0; clip = x.0 }) s = (let f = z.1 in cc (f)) in
    subst (IsClipOf uid component) same (record {
      start = w.1;
      part = y.1 ∙ ap (λ p. Some p) (clip_part y.0 x.0 y.2);
      source_package = (bytes_eq-Decides x.0.source_package uid).0 z.0;
    })

clip_from : (uid : List ℕ) (component : Component) (s : StartedClip) → IsClipOf uid component s
    → clip_of uid component ≡ Some s
unfolding clip_of
clip_from uid component s r =
    then_to (λ start. option_and_then (naming uid start) (option_and_then clip_in component.part)) component.start
    s.start s r.start
    (then_to (naming uid s.start) (option_and_then clip_in component.part) s.clip s (ap (option_and_then clip_in) r.part)
    (to_choice (bytes_eq s.clip.source_package uid) (Some s) s
    ((bytes_eq-Decides s.clip.source_package uid).1 r.source_package) refl))

pub clip-is : (uid : List ℕ) (component : Component) (s : StartedClip)
    → (clip_of uid component ≡ Some s) ↔ IsClipOf uid component s
clip-is uid component s = (clip_to uid component s, clip_from uid component s)

-- ---- the track for a file package

module _ (segments : List SegmentAtParts) (index_sid : ℕ) (clock_rate : Rate) (uid : List ℕ) where
  showing_to : (t : FoundTrack) → shows (is_timed segments) index_sid clock_rate uid t ≡ true
      → IsShowing segments index_sid clock_rate uid t
  showing_to t e =
      let beside = is_beside (is_timed segments) index_sid clock_rate t in
      let clips = list_any (is_clip_of uid) (components_of t) in
      let p = and_parts (beside && begins_at_zero t) clips e in
      let q = and_parts beside (begins_at_zero t) p.0 in
      let c = (list_any-In (is_clip_of uid) (components_of t)).0 p.1 in
      let s = some_is (clip_of uid c.0) c.2 in
      record {
        beside = (beside-is segments index_sid clock_rate t).0 q.0;
        origin = (zero-is t.track.origin).0 q.1;
        component = c.0;
        held = (component-is t c.0).0 c.1;
        clip = s.0;
        clip_is = clip_to uid c.0 s.0 s.1;
      }

  showing_from : (t : FoundTrack) → IsShowing segments index_sid clock_rate uid t
      → shows (is_timed segments) index_sid clock_rate uid t ≡ true
  showing_from t r =
      let beside = is_beside (is_timed segments) index_sid clock_rate t in
      let clips = list_any (is_clip_of uid) (components_of t) in
      let some : is_clip_of uid r.component ≡ true = ap is_some (clip_from uid r.component r.clip r.clip_is) in
      and_from (beside && begins_at_zero t) clips
      (and_from beside (begins_at_zero t) ((beside-is segments index_sid clock_rate t).1 r.beside)
      ((zero-is t.track.origin).1 r.origin))
      ((list_any-In (is_clip_of uid) (components_of t)).1
      (r.component, (component-is t r.component).1 r.held, some))

  pub track-is : (tracks : List TrackAt) (t : FoundTrack)
      → (track_for (is_timed segments) index_sid clock_rate uid tracks ≡ Some t)
      ↔ IsTrackFor segments index_sid clock_rate uid tracks t
  unfolding track_for
  track-is tracks t = first-is (shows (is_timed segments) index_sid clock_rate uid)
      (IsShowing segments index_sid clock_rate uid) (λ t. (showing_to t, showing_from t)) (found_tracks tracks) t

-- ---- Origins

pub origin-is : (tracks : List TrackAt) (id : ℕ) (rate : Rate) (origin : ℤ)
    → (origin_of tracks id rate ≡ Some origin) ↔ IsOriginOf tracks id rate origin
unfolding origin_of
origin-is tracks id rate origin =
    let first = first-is (λ t. t.track.id == id) (λ t. t.track.id ≡ id)
    (λ t. (eqb-true t.track.id id, eq-eqb t.track.id id)) (found_tracks tracks) in (
      λ e.
          let w = then_with (origin_at rate) (find (λ t. t.track.id == id) (found_tracks tracks)) origin e in
          let c = with_choice (is_same_rate w.0.track.edit_rate rate) (Some w.0.track.origin) origin w.2 in
          record {
            track = w.0;
            first = (first w.0).0 w.1;
            same = (equal-is w.0.track.edit_rate rate).0 c.0;
            origin_is = (let f = c.1 in cc (f));
          },
      λ r. then_to (origin_at rate) (find (λ t. t.track.id == id) (found_tracks tracks)) r.track origin
          ((first r.track).1 r.first)
          (to_choice (is_same_rate r.track.track.edit_rate rate) (Some r.track.track.origin) origin
          ((equal-is r.track.track.edit_rate rate).1 r.same) (ap (λ x. Some x) (sym r.origin_is))),
    )

-- ---- file packages

some_byte : (xs : List ℕ) → not (is_zeros xs) ≡ true → (b : ℕ) × In b xs × (b ≢ 0)
some_byte [] e = absurd cc
some_byte (x ∷ xs) e = elim (x == 0) as (λ b. (x == 0) ≡ b → not (b && is_zeros xs) ≡ true
    → (b : ℕ) × In b (x ∷ xs) × (b ≢ 0)) [
      | true ↦ λ t e. (let r = some_byte xs e in (r.0, inr r.1, r.2))
      | false ↦ λ f e. (x, inl refl, λ q. let t : (0 == 0) ≡ false = subst (λ z. (z == 0) ≡ false) q f in cc t)
    ] refl e

not_zeros : (xs : List ℕ) (b : ℕ) → In b xs → b ≢ 0 → not (is_zeros xs) ≡ true
not_zeros [] b h n = absurd h
not_zeros (x ∷ xs) b h n = elim (x == 0) as (λ t. (x == 0) ≡ t → not (t && is_zeros xs) ≡ true) [
  | true ↦ λ t. elim h as (λ _. not (is_zeros xs) ≡ true) [
    | inl q ↦ absurd (n (q ∙ eqb-true x 0 t))
    | inr k ↦ not_zeros xs b k n
  ]
  | false ↦ λ f. refl
] refl

source-is : (k : PackageKind) → (not (is_material k) ≡ true) ↔ (k ≡ Source)
source-is Source = (λ e. refl, λ e. refl)
source-is Material = (λ e. absurd cc, λ e. absurd cc)

index_of_container : (o : Option Container) (index_sid : ℕ) → index_in o ≡ Some index_sid
    → (c : Container) × (o ≡ Some c) × (index_sid ≡ c.index_sid) × (nat_lt 0 index_sid ≡ true)
index_of_container None index_sid e = absurd cc
index_of_container (Some c) index_sid e =
    let w = with_choice (nat_lt 0 c.index_sid) (Some c.index_sid) index_sid e in
    let same : index_sid ≡ c.index_sid = (let f = w.1 in cc (f)) in
    (c, refl, same, ap (nat_lt 0) same ∙ w.0)

identified : (f : FoundPackage) (p : FoundPackage)
    → (has_identifier f.properties.package_uid p ≡ true) ↔ (p.properties.package_uid ≡ f.properties.package_uid)
identified f p =
    let d = bytes_eq-Decides p.properties.package_uid f.properties.package_uid in (λ e. d.0 e, λ e. d.1 e)

only_file : (packages : List PackageAt) (f : FoundPackage)
    → (In f (found_packages packages) × (has_identifier f.properties.package_uid f ≡ true)
    × (count_by (has_identifier f.properties.package_uid) (found_packages packages) ≡ 1))
    ↔ IsOnly (λ p. p.properties.package_uid ≡ f.properties.package_uid) (found_packages packages) f
only_file packages f = only-is (has_identifier f.properties.package_uid)
    (λ p. p.properties.package_uid ≡ f.properties.package_uid) (identified f) (found_packages packages) f

index_to : (packages : List PackageAt) (f : FoundPackage) (index_sid : ℕ) → In f (found_packages packages)
    → file_index packages f ≡ Some index_sid → IsFileIndex packages f index_sid
unfolding file_index
index_to packages f index_sid h e =
    let uid = f.properties.package_uid in
    let source = not (is_material f.kind) in
    let named = not (is_zeros uid) in
    let w = with_choice (source && named && is_of_one packages uid) (index_in f.container) index_sid e in
    let p = and_parts (source && named) (is_of_one packages uid) w.0 in
    let q = and_parts source named p.0 in
    let b = some_byte uid q.1 in
    let c = index_of_container f.container index_sid w.1 in
    record {
      kind = (source-is f.kind).0 q.0;
      byte = b.0;
      held = b.1;
      not_zero = b.2;
      only = (only_file packages f).0
          (h, (identified f f).1 refl, eqb-true (count_by (has_identifier uid) (found_packages packages)) 1 p.1);
      container = c.0;
      container_is = c.1;
      index = c.2;
      above = ltb-true 0 index_sid c.3;
    }

index_from : (packages : List PackageAt) (f : FoundPackage) (index_sid : ℕ) → IsFileIndex packages f index_sid
    → In f (found_packages packages) × (file_index packages f ≡ Some index_sid)
unfolding file_index
index_from packages f index_sid r =
    let uid = f.properties.package_uid in
    let source = not (is_material f.kind) in
    let named = not (is_zeros uid) in
    let o = (only_file packages f).1 r.only in (
      o.0,
      to_choice (source && named && is_of_one packages uid) (index_in f.container) index_sid
          (and_from (source && named) (is_of_one packages uid)
          (and_from source named ((source-is f.kind).1 r.kind) (not_zeros uid r.byte r.held r.not_zero))
          (eq-eqb (count_by (has_identifier uid) (found_packages packages)) 1 o.2))
          (ap index_in r.container_is
          ∙ to_choice (nat_lt 0 r.container.index_sid) (Some r.container.index_sid) index_sid
          (sym (ap (nat_lt 0) r.index) ∙ lt-ltb 0 index_sid r.above) (ap (λ x. Some x) (sym r.index))),
    )

pub index-is : (packages : List PackageAt) (f : FoundPackage) (index_sid : ℕ)
    → (In f (found_packages packages) × (file_index packages f ≡ Some index_sid)) ↔ IsFileIndex packages f index_sid
index-is packages f index_sid =
    (λ h. index_to packages f index_sid h.0 h.1, λ r. index_from packages f index_sid r)

-- ---- whose the clocks are

kind-is : (k : PackageKind) → (is_material k ≡ true) ↔ (k ≡ Material)
kind-is Material = (λ e. refl, λ e. refl)
kind-is Source = (λ e. absurd cc, λ e. absurd cc)

tells-is : (p : FoundPackage) → (tells_time p ≡ true) ↔ TellsTime p
tells-is p =
    let timecodes = list_any-In (is_of_kind is_timecode) (found_tracks p.tracks) in (
      λ e.
          let q = and_parts (is_material p.kind) (list_any (is_of_kind is_timecode) (found_tracks p.tracks)) e in
          let t = timecodes.0 q.1 in
          ((kind-is p.kind).0 q.0, (t.0, t.1, (timecode-is t.0).0 t.2)),
      λ t. and_from (is_material p.kind) (list_any (is_of_kind is_timecode) (found_tracks p.tracks))
          ((kind-is p.kind).1 t.0) (timecodes.1 (t.1.0, t.1.1, (timecode-is t.1.0).1 t.1.2)),
    )

teller_by : (packages : List PackageAt) (k : PackageKind) (b : Bool)
    → list_any tells_time (found_packages packages) ≡ b → (cond b Material Source ≡ k) ↔ IsTeller packages k
teller_by packages Material true e =
    let any = (list_any-In tells_time (found_packages packages)).0 e in
    (λ q. (any.0, any.1, (tells-is any.0).0 any.2), λ t. refl)
teller_by packages Source true e =
    let any = (list_any-In tells_time (found_packages packages)).0 e in
    (λ q. absurd cc, λ t. absurd (t any.0 any.1 ((tells-is any.0).0 any.2)))
teller_by packages Material false e = (
  λ q. absurd cc,
  λ t. absurd (let k = (list_any-In tells_time (found_packages packages)).1 (t.0, t.1, (tells-is t.0).1 t.2) in
      cc (e, k)),
)
teller_by packages Source false e = (
  λ q p h t. let k = (list_any-In tells_time (found_packages packages)).1 (p, h, (tells-is p).1 t) in cc (e, k),
  λ t. refl,
)

pub teller-is : (packages : List PackageAt) (k : PackageKind) → (teller packages ≡ k) ↔ IsTeller packages k
teller-is packages k = teller_by packages k (list_any tells_time (found_packages packages)) refl

-- ---- copies

pub finished-is : (notes : List NoteParts) → (is_finished notes ≡ true) ↔ IsFinished notes
finished-is notes = (
  λ e. elim (preferred_of (copies_of notes)) as (λ o. preferred_of (copies_of notes) ≡ o
      → option_map_or (λ c. c.finished) o false ≡ true → IsFinished notes) [
        | None ↦ λ f e. absurd cc
        | Some c ↦ λ f e. (c, f, e)
      ] refl e,
  λ r. ap (λ o. option_map_or (λ c. c.finished) o false) r.1 ∙ r.2,
)

pub best-is : (notes : List NoteParts) → IsContent notes
    → IsFinished notes ↔ ((c : CopyInfo) × IsBest (copies_of notes) c × (c.finished ≡ true))
best-is notes content =
    let copies = copies_of notes in (
      λ r. (r.0, subst (IsPreferred copies) r.1 (preferred_is copies), r.2),
      λ b. elim (preferred_of copies) as (λ o. preferred_of copies ≡ o → IsFinished notes) [
        | None ↦ λ e. absurd (subst (IsPreferred copies) e (preferred_is copies) b.0 b.1.held b.1.candidate)
        | Some c ↦ λ e.
            let best = subst (IsPreferred copies) e (preferred_is copies) in
            let rise = (rise_by (λ (c : CopyInfo). c.partition) copies).0 (copies_rise notes content) in
            let same = one_by_key (λ (c : CopyInfo). c.partition) copies c b.0 rise best.held b.1.held
            (one_best copies c b.0 best b.1) in
            (c, e, ap (λ (c : CopyInfo). c.finished) same ∙ b.2)
      ] refl,
    )
