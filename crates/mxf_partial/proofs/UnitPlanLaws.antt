-- The orders of a plan for edit units.
use Rattle.mxf_views.proofs.Common.{◌≡◌, ◌↔◌, ◌⊎◌, ◌∙◌, ◌++◌, ◌<◌, ◌≤◌, ◌+◌, ℕ, Bool, true, false, List, [], ◌∷◌}
use Rattle.mxf_views.proofs.Common.{Option, None, Some, ap, nat_lt, unwrap_or, arith, filter_map, flat_map, inl, inr}
use Rattle.mxf_views.proofs.Common.{is_some, map, refl, subst, sym, Result, Ok, Err, if◌then◌else◌, IfOk, drop, get_or}
use Rattle.mxf_views.proofs.Common.{length, suc, ◌==◌, same_Some, option_map_or, NoteParts, greatest_end, In}
use Rattle.mxf_views.proofs.Common.{In-union, same_from_members, union, In-append, In-filter_map, In-flat_map, In-map}
use Rattle.mxf_views.proofs.Common.{all-In, found-In, none_found, drop_all, drop-cons, IsCover, union_of_runs}
use Rattle.mxf_views.proofs.Common.{union_of_runs-IsUnion, LiesIn, same_covers, option_to_list, slice_get, ltb-false}
use Rattle.mxf_catalogue.specs.declared.cover.Cover.{Cover}
use Rattle.mxf_catalogue.specs.declared.run.Run.{Run}
use Rattle.std.proofs.lemmas.Bool.{eq-eqb, eqb-true}
use Rattle.mxf_places.specs.AtHand.{AtHandParts, KnownParts, LiesInRange, has_offset, lacking}
use Rattle.mxf_places.specs.declared.at_hand.OffsetRange.{OffsetRange}
use Rattle.mxf_places.proofs.AtHandLaws.{has_offset-says, lacked_there, members as lacking_members}
use Rattle.std.specs.Option.{option_map}
use Rattle.mxf_places.specs.Claims.{claim_at}
use Rattle.mxf_places.specs.declared.claim.Claim.{Claim}
use Rattle.mxf_places.specs.declared.reason.Reason.{Reason}
use Rattle.mxf_restore.specs.Fronts.{all_from, front_of, front_range, looked_for}
use Rattle.mxf_restore.specs.Plan.{LiesInOrder, asked_by, asked_of, order_cmp, orders_by, orders_of, part_order}
use Rattle.mxf_restore.specs.Plan.{parts_of}
use Rattle.mxf_places.specs.Heads.{start_of}
use Rattle.mxf_restore.specs.Sections.{sections_of}
use Rattle.mxf_restore.specs.declared.named.NamedPlace.{NamedPlace}
use Rattle.mxf_restore.specs.declared.plan.Order.{Order}
use Rattle.mxf_restore.specs.declared.section.Section.{Section}
use Rattle.mxf_restore.proofs.PlanLaws.{one_order, order_total}
use Rattle.mxf_units.specs.Units.{AreKnown, IsKnown, UnitsParts}
use Rattle.mxf_units.specs.declared.location.Location.{Location}
use Rattle.mxf_units.specs.declared.standing.UnitStanding.{UnitStanding}
use Rattle.mxf_units.specs.declared.unit.EditUnit.{EditUnit}
use Rattle.mxf_units.specs.declared.unit.Extent.{Extent}
use Rattle.mxf_partial.specs.Asks.{IsAskedByIndex, IsAskedByUnit}
use Rattle.mxf_partial.specs.Fronts.{front_order}
use Rattle.mxf_partial.specs.Helping.{helping_by, helping_for, helping_of}
use Rattle.mxf_partial.specs.Named.{AreNamed, IsNamed, is_named, named_at}
use Rattle.mxf_partial.specs.Orders.{AreAsked, AreOffsetsOf, IsFindingOrder, IsFrontOrder, IsOrdered, IsThere}
use Rattle.mxf_partial.specs.Orders.{IsUnitOrder, IsUnitPlan, UnitPlanParts, helping_orders, is_described, known_end}
use Rattle.mxf_partial.specs.Orders.{unit_order}
use Rattle.mxf_partial.specs.Wanted.{HasByte, HasByteBy, HasByteOf, HasNamedLimit, IsWantedBy, IsWantedByte}
use Rattle.mxf_partial.specs.Wanted.{WantedParts, WantsAt, WantsByte}
use Rattle.mxf_partial.specs.Wanted.{hand_of, is_limit_named, notes_of, wanted_at, wanted_by, wanted_of, wanted_units}
use Rattle.mxf_partial.proofs.FrontLaws.{by_members, front_is}
use Rattle.mxf_places.specs.declared.reason.Reason.TheVariants as reasons
use Rattle.mxf_units.specs.declared.standing.UnitStanding.TheVariants as standings

-- ---- what finds partitions and index table segments

abbrev pub fronts_in : WantedParts → List NamedPlace → List Order
fronts_in w asked = filter_map (front_order (is_described w) (hand_of w) (notes_of w) asked) (sections_of (notes_of w))

fronts_are : (w : WantedParts) (asked : List NamedPlace) (o : Order) → AreAsked w asked
    → In o (fronts_in w asked) ↔ IsFrontOrder w o
fronts_are w asked o are =
    let f = front_order (is_described w) (hand_of w) (notes_of w) asked in
    let members = In-filter_map f (sections_of (notes_of w)) o in (
      λ i.
          let s = members.0 i in
          record {
            asked = asked;
            are_asked = are;
            section = s.0;
            among = s.1;
            front = (front_is (is_described w) (hand_of w) (notes_of w) asked s.0 o).0 s.2;
          },
      λ h. members.1 (
        h.section,
        h.among,
        (front_is (is_described w) (hand_of w) (notes_of w) asked h.section o).1
            (by_members (is_described w) (hand_of w) (notes_of w) h.asked asked h.section o
            (λ n. (λ i. (are n).1 ((h.are_asked n).0 i), λ i. (h.are_asked n).1 ((are n).0 i))) h.front),
      ),
    )

pub finding_are : (w : WantedParts) (asked : List NamedPlace) (orders : List Order) → AreAsked w asked
    → orders ≡ helping_orders w ++ fronts_in w asked → (o : Order) → In o orders ↔ IsFindingOrder w o
finding_are w asked orders are is o =
    let parts = In-append o (helping_orders w) (fronts_in w asked) in
    let fronts = fronts_are w asked o are in (
      λ i. elim (parts.0 (subst (In o) is i)) [ inl k ↦ inl k | inr k ↦ inr (fronts.0 k) ],
      λ h. subst (In o) (sym is) (parts.1 (elim h [ inl k ↦ inl k | inr k ↦ inr (fronts.1 k) ])),
    )

-- ---- what is there

-- What lies in a cover lies below where files end at the latest.
below_end : (runs : List Run) (x : ℕ) → IsCover runs → LiesIn runs x → x < greatest_end
below_end runs x cover h =
    let within = all-In (λ (r : Run). r.end ≤ greatest_end) runs h.0 cover.within h.1 in
    let before = h.2.before in omega (arith, within, before)

pub there_is : (w : WantedParts) (orders : List Order) (runs : List Run)
    → ((o : Order) → In o orders ↔ IsFindingOrder w o) → IsCover runs
    → ((x : ℕ) → LiesIn runs x ↔ (IsKnown w.units.known x ⊎ IsOrdered orders x)) → AreOffsetsOf (IsThere w) runs
there_is w orders runs finding cover are = record {
  cover = cover;
  offsets = λ x.
      let so = are x in (
        λ h. (
          elim (so.0 h) [ inl k ↦ inl k | inr k ↦ inr (k.0.0, (finding k.0.0).0 k.0.1, k.0.2) ],
          below_end runs x cover h,
        ),
        λ h. so.1 (elim h.0 [ inl k ↦ inl k | inr k ↦ inr ((k.0, (finding k.0).1 k.1, k.2), h.1) ]),
      );
}

-- ---- what is wanted

named_says : (notes : List NoteParts) (named : List NamedPlace) (x : ℕ) → AreNamed notes named
    → (is_named named x ≡ true) ↔ IsNamed notes x
named_says notes named x are = (to (named_at named x) refl, back (named_at named x) refl)
  where
    to : (o : Option NamedPlace) → named_at named x ≡ o → is_some o ≡ true → IsNamed notes x
    to None is t = absurd cc
    to (Some n) is t =
        let f = found-In (λ (n : NamedPlace). n.place == x) named n is in
        let at : n.place ≡ x = eqb-true n.place x (let t : (n.place == x) ≡ true = grind (arith, f.1) in t) in (
          n.source,
          subst (λ (k : ℕ). Rattle.mxf_restore.specs.NamedPlaces.IsNamedPlace notes
              (record { place = k; source = n.source })) at ((are.members n).0 f.0),
        )

    back : (o : Option NamedPlace) → named_at named x ≡ o → IsNamed notes x → is_some o ≡ true
    back None is s = absurd (none_found (λ (n : NamedPlace). n.place == x) named (record { place = x; source = s.0 }) is
        ((are.members (record { place = x; source = s.0 })).1 s.1)
        (let t : (x == x) ≡ true = eq-eqb x x refl in grind (arith, t)))
    back (Some n) is s = refl

-- Where packs name the limit.
limit_says : (notes : List NoteParts) (named : List NamedPlace) (l : Location) → AreNamed notes named
    → (is_limit_named named l ≡ true) ↔ HasNamedLimit notes l
limit_says notes named l are = (to l.zone.limit refl, back l.zone.limit refl)
  where
    to : (o : Option ℕ) → l.zone.limit ≡ o → option_map_or (is_named named) o false ≡ true → HasNamedLimit notes l
    to None is t = absurd cc
    to (Some x) is t = (x, is, (named_says notes named x are).0 t)

    back : (o : Option ℕ) → l.zone.limit ≡ o → HasNamedLimit notes l → option_map_or (is_named named) o false ≡ true
    back None is s = absurd (let e = s.1 in cc (is, e))
    back (Some x) is s =
        let at : x ≡ s.0 = same_Some x s.0 (sym is ∙ s.1) in
        (named_says notes named x are).1 (subst (IsNamed notes) (sym at) s.2)

wanted_at_says : (notes : List NoteParts) (named : List NamedPlace) (l : Location) (standing : UnitStanding) (x : ℕ)
    → AreNamed notes named → HasByte (wanted_at named standing l) x ↔ WantsAt notes l standing x
wanted_at_says notes named l standings.Missing x are = (λ h. h, λ h. h)
wanted_at_says notes named l standings.Part x are = (λ h. h, λ h. h)
wanted_at_says notes named l standings.Unsure x are = by_limit (is_limit_named named l) refl
  where
    by_limit : (b : Bool) → is_limit_named named l ≡ b
        → HasByte (if b then None else Some (record {
          start = l.zone.origin;
          end = Rattle.mxf_partial.specs.Wanted.reach_of l;
        })) x ↔ WantsAt notes l standings.Unsure x
    by_limit true t = (λ h. absurd h, λ w. absurd (w.0 ((limit_says notes named l are).0 t)))
    by_limit false t = (λ h. (λ s. let u = (limit_says notes named l are).1 s in cc (t, u), h), λ w. w.1)
wanted_at_says notes named l standings.NotIndexed x are = (λ h. absurd h, λ h. absurd h)
wanted_at_says notes named l standings.Ambiguous x are = (λ h. absurd h, λ h. absurd h)
wanted_at_says notes named l standings.NoPartition x are = (λ h. absurd h, λ h. absurd h)
wanted_at_says notes named l standings.Several x are = (λ h. absurd h, λ h. absurd h)
wanted_at_says notes named l standings.Unknown x are = (λ h. absurd h, λ h. absurd h)
wanted_at_says notes named l standings.Elsewhere x are = (λ h. absurd h, λ h. absurd h)
wanted_at_says notes named l standings.Disputed x are = (λ h. absurd h, λ h. absurd h)
wanted_at_says notes named l standings.Held x are = (λ h. absurd h, λ h. absurd h)
wanted_at_says notes named l standings.Hand x are = (λ h. absurd h, λ h. absurd h)

wanted_of_says : (named : List NamedPlace) (u : UnitsParts) (unit : EditUnit) (x : ℕ) → AreNamed u.known.notes named
    → HasByte (wanted_of named u unit) x ↔ WantsByte u unit x
wanted_of_says named u unit x are = grind (arith, wanted_at_says, same_Some)

wanted_by_says : (w : WantedParts) (named : List NamedPlace) (bytes : Option Extent) (x : ℕ)
    → AreNamed (notes_of w) named → HasByteBy named w bytes x ↔ (IsWantedBy w bytes x × (x < greatest_end))
wanted_by_says w named None x are = (
  λ h. ((h.0.0, h.0.1, (wanted_of_says named w.units h.0.0 x are).0 h.0.2), h.1),
  λ h. ((h.0.0, h.0.1, (wanted_of_says named w.units h.0.0 x are).1 h.0.2), h.1),
)
wanted_by_says w named (Some e) x are = (λ h. h, λ h. h)

pub wanted_is : (w : WantedParts) (named : List NamedPlace) (runs : List Run) → AreNamed (notes_of w) named
    → IsCover runs → ((x : ℕ) → LiesIn runs x ↔ HasByteBy named w w.bytes x) → AreOffsetsOf (IsWantedByte w) runs
wanted_is w named runs are cover offsets = record {
  cover = cover;
  offsets = λ x.
      let says = wanted_by_says w named w.bytes x are in (
        λ h. let s = says.0 ((offsets x).0 h) in (record { wanted = s.0; within = s.1 }, s.1),
        λ h. (offsets x).1 (says.1 (h.0.wanted, h.1)),
      );
}

-- ---- the orders of bytes of units

abbrev pub units_in : AtHandParts → List Run → List Run → List Order
units_in at there wanted = flat_map (λ (r : Run). map (unit_order at) (lacking there r.start (Some r.end))) wanted

one_cover : (P : ℕ → Type 0) (a b : List Run) → AreOffsetsOf P a → AreOffsetsOf P b → a ≡ b
one_cover P a b of_a of_b =
    same_covers a b of_a.cover of_b.cover (λ x. (
      λ h. (of_b.offsets x).1 ((of_a.offsets x).0 h),
      λ h. (of_a.offsets x).1 ((of_b.offsets x).0 h),
    ))

pub units_are : (at : AtHandParts) (there wanted : List Run) (o : Order)
    → In o (units_in at there wanted) ↔ IsUnitOrder at there wanted o
units_are at there wanted o = (
  λ i.
      let s = (In-flat_map (λ (r : Run). map (unit_order at) (lacking there r.start (Some r.end))) wanted o).0 i in
      let r = (In-map (unit_order at) (lacking there s.0.start (Some s.0.end)) o).0 s.2 in
      record { run = s.0; among = s.1; range = r.0; lacks = r.1; is = r.2 },
  λ h.
      (In-flat_map (λ (r : Run). map (unit_order at) (lacking there r.start (Some r.end))) wanted o).1 (
        h.run,
        h.among,
        (In-map (unit_order at) (lacking there h.run.start (Some h.run.end)) o).1 (h.range, h.lacks, h.is),
      ),
)

-- ---- the plan

pub plan_is : (w : WantedParts) (finding orders : List Order) (there wanted : List Run)
    → ((o : Order) → In o finding ↔ IsFindingOrder w o)
    → orders ≡ union order_cmp [] (finding ++ units_in (hand_of w) there wanted)
    → (o : Order) → In o orders ↔ (IsFindingOrder w o ⊎ IsUnitOrder (hand_of w) there wanted o)
plan_is w finding orders there wanted are_finding is o =
    let units = units_are (hand_of w) there wanted o in
    let all = In-union order_total one_order o [] (finding ++ units_in (hand_of w) there wanted) in
    let parts = In-append o finding (units_in (hand_of w) there wanted) in (
      λ i. elim (all.0 (subst (In o) is i)) [
        | inl none ↦ absurd none
        | inr k ↦ elim (parts.0 k) [ inl m ↦ inl ((are_finding o).0 m) | inr m ↦ inr (units.0 m) ]
      ],
      λ h. subst (In o) (sym is) (all.1 (inr (parts.1 (elim h [
        | inl k ↦ inl ((are_finding o).1 k)
        | inr k ↦ inr (units.1 k)
      ])))),
    )

-- What is ordered by some covers is ordered by the same ones.
by_covers : (w : WantedParts) (there others wanted more : List Run) (o : Order) → there ≡ others → wanted ≡ more
    → IsFindingOrder w o ⊎ IsUnitOrder (hand_of w) there wanted o
    → IsFindingOrder w o ⊎ IsUnitOrder (hand_of w) others more o
by_covers w there others wanted more o same alike (inl k) = inl k
by_covers w there others wanted more o same alike (inr u) =
    inr (subst (λ l. IsUnitOrder (hand_of w) l more o) same (subst (λ l. IsUnitOrder (hand_of w) there l o) alike u))

-- Two plans of one are one.
pub one_plan : (w : WantedParts) (p q : UnitPlanParts) → IsUnitPlan w p → IsUnitPlan w q → p ≡ q
one_plan w p q a b =
    let wanted = one_cover (IsWantedByte w) a.wanted b.wanted a.wanted_are b.wanted_are in
    let there = one_cover (IsThere w) a.there b.there a.there_are b.there_are in
    let orders = same_from_members order_total one_order p.orders q.orders a.rising b.rising (λ o. (
      λ i. (b.members o).1 (by_covers w a.there b.there a.wanted b.wanted o there wanted ((a.members o).0 i)),
      λ i. (a.members o).1 (by_covers w b.there a.there b.wanted a.wanted o (sym there) (sym wanted)
          ((b.members o).0 i)),
    )) in
    let end = a.end ∙ sym b.end in
    λ i. record { orders = orders i; end = end i }

-- ---- what a plan says of bytes

-- Each wanted byte is held, at hand or ordered.
pub wanted_there : (w : WantedParts) (p : UnitPlanParts) (x : ℕ) → IsUnitPlan w p → IsWantedByte w x
    → IsKnown w.units.known x ⊎ ((o : Order) × In o p.orders × LiesInOrder o x)
wanted_there w p x plan wanted = by_there (has_offset plan.there x) refl
  where
    run_of : LiesIn plan.wanted x
    run_of = (plan.wanted_are.offsets x).1 (wanted, wanted.within)

    in_order : (r : OffsetRange) → LiesInRange r x → LiesInOrder (unit_order (hand_of w) r) x
    in_order r l = (l.0, by_end r.end (elim l.1 [ inl n ↦ inl n | inr s ↦ inr (s.0, s.1, s.2) ]))
      where
        by_bound : (b : Bool) (e : ℕ) → x < e
            → ((if b then Some e else None) ≡ None) ⊎ ((y : ℕ) × ((if b then Some e else None) ≡ Some y) × (x < y))
        by_bound true e l = inr (e, refl, l)
        by_bound false e l = inl refl

        by_end : (end : Option ℕ) → ((end ≡ None) ⊎ ((y : ℕ) × (end ≡ Some y) × (x < y)))
            → (known_end end ≡ None) ⊎ ((y : ℕ) × (known_end end ≡ Some y) × (x < y))
        by_end None h = inl refl
        by_end (Some e) h = elim h [
          | inl n ↦ absurd cc
          | inr s ↦
              let same = same_Some e s.0 s.1 in
              let less = s.2 in by_bound (nat_lt e greatest_end) e (omega (arith, same, less))
        ]

    by_there : (b : Bool) → has_offset plan.there x ≡ b
        → IsKnown w.units.known x ⊎ ((o : Order) × In o p.orders × LiesInOrder o x)
    by_there true t =
        let lies = (has_offset-says plan.there x).0 t in
        elim ((plan.there_are.offsets x).0 lies).0 [
          | inl k ↦ inl k
          | inr k ↦ inr (k.0, (plan.members k.0).1 (inl k.1), k.2)
        ]
    by_there false t =
        let run = run_of in
        let from = run.2.from in
        let before = run.2.before in
        let lack = lacked_there plan.there run.0.start (Some run.0.end) x
        (omega (arith, from), inr (run.0.end, refl, omega (arith, before)))
        (λ l. let u = (has_offset-says plan.there x).1 l in cc (t, u)) in
        inr (
          unit_order (hand_of w) lack.0,
          (plan.members (unit_order (hand_of w) lack.0)).1 (inr (record {
            run = run.0;
            among = run.1;
            range = lack.0;
            lacks = lack.1;
            is = refl;
          })),
          in_order lack.0 lack.2,
        )

-- What finds things isn't ordered as bytes of units.

reason_of_asked : (at : AtHandParts) (notes : List NoteParts) (p : Section) (c : Claim) (o : Order)
    → claim_at notes (start_of notes p.first) ≡ Some c → asked_of at notes p ≡ Some o → o.reason ≡ c.reason
reason_of_asked at notes p c o is e =
    let by = ap (λ claim. asked_by at notes p (start_of notes p.first) claim) is in
    ap (λ (o : Order). o.reason) (sym (same_Some _ o (sym by ∙ e)))

reason_of_orders : (at : AtHandParts) (notes : List NoteParts) (p : Section) (c : Claim) (o : Order)
    → claim_at notes (start_of notes p.first) ≡ Some c → In o (orders_of at notes p) → o.reason ≡ c.reason
unfolding orders_of
reason_of_orders at notes p c o is i = by (asked_of at notes p) refl i
  where
    by : (asked : Option Order) → asked_of at notes p ≡ asked → In o (orders_by at p asked) → o.reason ≡ c.reason
    by None e i = absurd i
    by (Some a) e i =
        let s = (In-map (part_order at a) (parts_of at p a) o).0 i in
        ap (λ (o : Order). o.reason) s.2 ∙ reason_of_asked at notes p c a is e

reason_of_front : (at : AtHandParts) (notes : List NoteParts) (p : Section) (c : Claim) (o : Order)
    → claim_at notes (start_of notes p.first) ≡ Some c → front_of at notes p ≡ Some o
    → (o.reason ≡ c.reason) ⊎ (o.reason ≡ reasons.Gap)
unfolding front_of
reason_of_front at notes p c o is e =
    by (asked_of at notes p) refl (slice_get (parts_of at p (looked_for at notes p)) 0) e
  where
    by_part : (looked : Order) (part : Option OffsetRange)
        → option_map (λ r. part_order at looked (front_range r)) part ≡ Some o → o.reason ≡ looked.reason
    by_part looked None e = absurd cc
    by_part looked (Some r) e = ap (λ (o : Order). o.reason) (sym (same_Some _ o e))

    by : (asked : Option Order) → asked_of at notes p ≡ asked → (part : Option OffsetRange)
        → option_map (λ r. part_order at (looked_for at notes p) (front_range r)) part ≡ Some o
        → (o.reason ≡ c.reason) ⊎ (o.reason ≡ reasons.Gap)
    by None f part e = inr (by_part (looked_for at notes p) part e
        ∙ ap (λ (a : Option Order). (unwrap_or a (all_from (start_of notes p.first))).reason) f)
    by (Some a) f part e = inl (by_part (looked_for at notes p) part e
        ∙ ap (λ (a : Option Order). (unwrap_or a (all_from (start_of notes p.first))).reason) f
        ∙ reason_of_asked at notes p c a is f)

helping_reason : (described : Bool) (at : AtHandParts) (notes : List NoteParts) (p : Section) (o : Order)
    → In o (helping_of described at notes p) → ¬ (o.reason ≡ reasons.Unit)
helping_reason described at notes p o i reason = by_claim (claim_at notes (start_of notes p.first)) refl i
  where
    not_front : (c : Claim) → claim_at notes (start_of notes p.first) ≡ Some c → ¬ (c.reason ≡ reasons.Unit)
        → In o (option_to_list (front_of at notes p)) → ⊥
    not_front c is other i = by (front_of at notes p) refl i
      where
        by : (f : Option Order) → front_of at notes p ≡ f → In o (option_to_list f) → ⊥
        by None e i = i
        by (Some f) e (inl same) =
            elim (reason_of_front at notes p c f is e) [
              | inl k ↦ other (sym k ∙ sym (ap (λ (o : Order). o.reason) same) ∙ reason)
              | inr k ↦
                  let gap : reasons.Gap ≡ reasons.Unit = sym k ∙ sym (ap (λ (o : Order). o.reason) same) ∙ reason in
                  absurd cc
            ]
        by (Some f) e (inr none) = none

    by_open : (c : Claim) (b d : Bool) → claim_at notes (start_of notes p.first) ≡ Some c → ¬ (c.reason ≡ reasons.Unit)
        → In o (if d then [] else (if b then option_to_list (front_of at notes p) else orders_of at notes p)) → ⊥
    by_open c b true is other i = i
    by_open c true false is other i = not_front c is other i
    by_open c false false is other i = other (sym (reason_of_orders at notes p c o is i) ∙ reason)

    by_reason : (c : Claim) (r : Reason) → claim_at notes (start_of notes p.first) ≡ Some c → c.reason ≡ r
        → In o (helping_for described at notes p c r) → ⊥
    by_reason c reasons.Header is e i = not_front c is (λ u. let k = sym e ∙ u in absurd cc) i
    by_reason c reasons.Footer is e i =
        let k : reasons.Footer ≡ reasons.Unit = sym e ∙ sym (reason_of_orders at notes p c o is i) ∙ reason in absurd cc
    by_reason c reasons.Metadata is e i = by_open c c.is_open described is (λ u. let k = sym e ∙ u in absurd cc) i
    by_reason c reasons.Index is e i =
        let k : reasons.Index ≡ reasons.Unit = sym e ∙ sym (reason_of_orders at notes p c o is i) ∙ reason in absurd cc
    by_reason c reasons.Entry is e i = i
    by_reason c reasons.Previous is e i = i
    by_reason c reasons.Gap is e i = i
    by_reason c reasons.Front is e i = i
    by_reason c reasons.Unit is e i = i

    by_claim : (claim : Option Claim) → claim_at notes (start_of notes p.first) ≡ claim
        → In o (helping_by described at notes p claim) → ⊥
    by_claim None is i = i
    by_claim (Some c) is i = by_reason c c.reason is refl i

not_of_units : (w : WantedParts) (o : Order) → IsFindingOrder w o → o.reason ≡ reasons.Unit → ⊥
not_of_units w o (inl i) reason =
    let s = (In-flat_map (helping_of (is_described w) (hand_of w) (notes_of w)) (sections_of (notes_of w)) o).0 i in
    helping_reason (is_described w) (hand_of w) (notes_of w) s.0 o s.2 reason
not_of_units w o (inr f) reason =
    let k : reasons.Front ≡ reasons.Unit = sym (ap (λ (o : Order). o.reason) f.front.is) ∙ reason in absurd cc

-- An order of bytes of units has none that is held or at hand.
pub units_lack : (w : WantedParts) (p : UnitPlanParts) (o : Order) (x : ℕ) → IsUnitPlan w p → In o p.orders
    → o.reason ≡ reasons.Unit → LiesInOrder o x → x < greatest_end → ¬ IsKnown w.units.known x
units_lack w p o x plan i reason lies less known =
    elim ((plan.members o).0 i) [
      | inl k ↦ not_of_units w o k reason
      | inr u ↦
          let lacks = (lacking_members plan.there u.run.start
          (Some u.run.end) u.range plan.there_are.cover).0 u.lacks in
          let at = subst (λ (o : Order). LiesInOrder o x) u.is lies in
          lacks.none x (at.0, in_range u.range.end at.1) ((plan.there_are.offsets x).1 (inl known, less))
    ]
  where
    by_bound : (b : Bool) (e : ℕ) → nat_lt e greatest_end ≡ b
        → (((if b then Some e else None) ≡ None) ⊎ ((y : ℕ) × ((if b then Some e else None) ≡ Some y) × (x < y)))
        → x < e
    by_bound true e t (inl none) = absurd cc
    by_bound true e t (inr s) = let same = same_Some e s.0 s.1 in let l = s.2 in omega (arith, same, l)
    by_bound false e t h = let far = ltb-false e greatest_end t in omega (arith, far, less)

    in_range : (end : Option ℕ) → ((known_end end ≡ None) ⊎ ((y : ℕ) × (known_end end ≡ Some y) × (x < y)))
        → (end ≡ None) ⊎ ((y : ℕ) × (end ≡ Some y) × (x < y))
    in_range None h = inl refl
    in_range (Some e) h = inr (e, refl, by_bound (nat_lt e greatest_end) e refl h)

-- Where nothing is ordered each wanted byte is held or at hand.
pub none_left : (w : WantedParts) (p : UnitPlanParts) (x : ℕ) → IsUnitPlan w p → p.orders ≡ [] → IsWantedByte w x
    → IsKnown w.units.known x
none_left w p x plan none wanted =
    elim (wanted_there w p x plan wanted) [ inl k ↦ k | inr k ↦ absurd (subst (In k.0) none k.1) ]

-- ---- what finds things, step by step

pub found : (w : WantedParts) (described sought : Bool) (pieces : KnownParts) (sections others : List Section)
    (orders items : List Order) (asked : List NamedPlace) → described ≡ is_described w → pieces ≡ w.units.known
    → sections ≡ sections_of (notes_of w) → others ≡ sections_of (notes_of w)
    → orders ≡ flat_map (helping_of described pieces.at pieces.notes) sections → ((sought ≡ true) ↔ (orders ≡ []))
    → ((n : NamedPlace) → In n asked ↔ (IsAskedByUnit w n.place n.source
    ⊎ ((sought ≡ true) × IsAskedByIndex w n.place n.source)))
    → items ≡ orders ++ filter_map (front_order described pieces.at pieces.notes asked) others
    → (o : Order) → In o items ↔ IsFindingOrder w o
found w described sought pieces sections others orders items asked d k s t helping empty are is =
    let same : orders ≡ helping_orders w =
    helping ∙ (λ i. flat_map (helping_of (d i) (k i).at (k i).notes) (s i)) in
    let none = λ (e : sought ≡ true). sym same ∙ empty.0 e in
    let some = λ (e : helping_orders w ≡ []). empty.1 (same ∙ e) in
    finding_are w asked items
    (λ n. (
      λ i. elim ((are n).0 i) [ inl u ↦ inl u | inr v ↦ inr (none v.0, v.1) ],
      λ h. (are n).1 (elim h [ inl u ↦ inl u | inr v ↦ inr (some v.0, v.1) ]),
    )) (is ∙ (λ i. same i ++ filter_map (front_order (d i) (k i).at (k i).notes asked) (t i)))
