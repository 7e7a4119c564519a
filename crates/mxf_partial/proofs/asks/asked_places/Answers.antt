use Rattle.std.proofs.Common.{◌≡◌, ◌↔◌, ◌⊎◌, ◌∙◌, Bool, List, ap, inl, inr, nat_cmp, subst, sym, true, false}
use Rattle.mxf_klv.specs.Rising.{In, IsRising}
use Rattle.mxf_restore.specs.declared.named.NamedPlace.{NamedPlace}
use Rattle.mxf_partial.specs.Asks.{IsAskedByIndex, IsAskedByUnit}
use Rattle.mxf_partial.specs.Between.{IsOneOf16, MayIndexOneOf}
use Rattle.mxf_units.specs.Units.{UnitsParts}
use Rattle.mxf_partial.specs.Named.{AreNamed}
use Rattle.mxf_partial.specs.Questions.{QuestionParts}
use Rattle.mxf_partial.specs.Wanted.{WantedParts}
use Rattle.mxf_partial.proofs.AskLaws.{both_are}
use Rattle.mxf_partial.proofs.asks.asked_places.Goals as goal
use Rattle.mxf_partial.proofs.asks.asked_places.Goals.{then-is_index_sought+in_ok-add_chosen}
use Rattle.mxf_partial.proofs.asks.asked_places.Goals.{else-is_index_sought}

pub add_chosen-requires-clause-rising : goal.add_chosen-requires-clause-rising
add_chosen-requires-clause-rising c = subst (IsRising nat_cmp) (sym c.unindexed.ensures) c.questions.ensures.rising

pub add_chosen-requires-clause-named : goal.add_chosen-requires-clause-named
add_chosen-requires-clause-named c =
    subst (λ (u : UnitsParts). AreNamed u.known.notes c.args.named.now) (sym c.units.ensures) c.requires

-- The same places in another list.
moved : (w : WantedParts) (sought : Bool) (before after : List NamedPlace) (n : NamedPlace) → In n after ↔ In n before
    → In n before ↔ (IsAskedByUnit w n.place n.source ⊎ ((sought ≡ true) × IsAskedByIndex w n.place n.source))
    → In n after ↔ (IsAskedByUnit w n.place n.source ⊎ ((sought ≡ true) × IsAskedByIndex w n.place n.source))
moved w sought before after n same so = (λ i. so.0 (same.0 i), λ h. same.1 (so.1 h))

where_sought : (w : WantedParts) (sought : Bool) (before : List NamedPlace) (n : NamedPlace) → sought ≡ true
    → In n before ↔ (IsAskedByUnit w n.place n.source ⊎ IsAskedByIndex w n.place n.source)
    → In n before ↔ (IsAskedByUnit w n.place n.source ⊎ ((sought ≡ true) × IsAskedByIndex w n.place n.source))
where_sought w sought before n t so = (
  λ i. elim (so.0 i) [ inl k ↦ inl k | inr k ↦ inr (t, k) ],
  λ h. so.1 (elim h [ inl k ↦ inl k | inr k ↦ inr k.1 ]),
)

where_not : (w : WantedParts) (sought : Bool) (before : List NamedPlace) (n : NamedPlace) → sought ≡ false
    → In n before ↔ IsAskedByUnit w n.place n.source
    → In n before ↔ (IsAskedByUnit w n.place n.source ⊎ ((sought ≡ true) × IsAskedByIndex w n.place n.source))
where_not w sought before n f so = (
  λ i. inl (so.0 i),
  λ h. elim h [ inl k ↦ so.1 k | inr k ↦ absurd (let t = k.0 in cc (t, f)) ],
)

pub returns-clause-members : goal.returns-clause-members
returns-clause-members c = λ n.
    let w : WantedParts = c.args.wanted.now in
    moved w c.args.is_index_sought c.if-is_index_sought.asked.items c.in_order.result.items n
    (c.in_order.ensures.members n)
    (elim c.if-is_index_sought.branch [
      | then-is_index_sought+in_ok-add_chosen b ↦
          where_sought w c.args.is_index_sought c.if-is_index_sought.asked.items n b.if-is_index_sought.true
          (both_are w c.args.named.now c.in_ok-asked.asked.items c.if-is_index_sought.asked.items b.unindexed.result.now n
          c.requires (b.unindexed.ensures ∙ ap (λ (q : QuestionParts). q.unindexed) b.questions.ensures.are)
          (c.in_ok-asked.ensures n)
          (subst (λ (l : List NamedPlace). In n l ↔ (In n c.in_ok-asked.asked.items ⊎ (In n c.args.named.now
          × IsOneOf16 (MayIndexOneOf c.args.wanted.now.units b.unindexed.result.now) n.place)))
          (ap (λ v. v.items) (sym b.asked-is)) (subst (λ (u : UnitsParts). In n b.add_chosen.new.asked.items
          ↔ (In n c.in_ok-asked.asked.items ⊎ (In n c.args.named.now
          × IsOneOf16 (MayIndexOneOf u b.unindexed.result.now) n.place))) b.units.ensures (b.in_ok-add_chosen.ensures n))))
      | else-is_index_sought b ↦
          where_not w c.args.is_index_sought c.if-is_index_sought.asked.items n b.if-is_index_sought.false
          (subst (λ (l : List NamedPlace). In n l ↔ IsAskedByUnit w n.place n.source)
          (ap (λ v. v.items) (sym b.asked-is)) (c.in_ok-asked.ensures n))
    ])
