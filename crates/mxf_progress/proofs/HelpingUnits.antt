-- What is restored first for the units that are wanted.
use Rattle.mxf_views.proofs.Common.{◌≡◌, ◌≢◌, ◌↔◌, ◌∙◌, true, false, IsTrue, List, Option, None, Some, refl}
use Rattle.mxf_views.proofs.Common.{ap, subst, and_from, and_parts, option_map_or, NoteParts, In}
use Rattle.mxf_views.proofs.Common.{In-flat_map, In-list_all, list_all-In, one_by_key, IsBest, IsContent, IsPreferred}
use Rattle.mxf_views.proofs.Common.{copies_of, preferred_of}
use Rattle.mxf_views.specs.declared.copy.CopyInfo.{CopyInfo}
use Rattle.mxf_views.proofs.BestLaws.{one_best, preferred_is}
use Rattle.mxf_views.proofs.CopyLaws.{copies_rise}
use Rattle.mxf_views.proofs.KeyedLists.{rise_by}
use Rattle.mxf_places.specs.AtHand.{AreAtHand, AtHandParts}
use Rattle.mxf_restore.specs.Sections.{sections_of}
use Rattle.mxf_restore.specs.declared.section.Section.{Section}
use Rattle.mxf_restore.specs.declared.plan.Order.{Order}
use Rattle.mxf_units.specs.declared.standing.UnitStanding.{UnitStanding}
use Rattle.mxf_units.specs.declared.standing.UnitStanding.TheVariants as standings
use Rattle.mxf_units.specs.declared.unit.EditUnit.{EditUnit}
use Rattle.mxf_partial.specs.Helping.{helping_of}
use Rattle.mxf_partial.specs.Orders.{helping_orders, is_described}
use Rattle.mxf_partial.specs.Wanted.{WantedParts, are_indexed, hand_of, is_indexed, notes_of, wanted_units}
use Rattle.mxf_progress.specs.RestoredFirst.{AreDescribed, Helps, HelpsUnits}
use Rattle.mxf_progress.specs.RestoredFirst.HelpsAt.{Footer, Header, Index, Metadata, OpenMetadata}
use Rattle.mxf_progress.proofs.HelpLaws.{helping_says}

-- ---- whether the header metadata are described

indexed_says : (s : UnitStanding) → (is_indexed s ≡ true) ↔ (s ≢ standings.NotIndexed)
indexed_says standings.NotIndexed = (λ t. absurd cc, λ n. absurd (n refl))
indexed_says standings.Ambiguous = (λ t e. cc (e), λ n. refl)
indexed_says standings.NoPartition = (λ t e. cc (e), λ n. refl)
indexed_says standings.Several = (λ t e. cc (e), λ n. refl)
indexed_says standings.Unknown = (λ t e. cc (e), λ n. refl)
indexed_says standings.Elsewhere = (λ t e. cc (e), λ n. refl)
indexed_says standings.Disputed = (λ t e. cc (e), λ n. refl)
indexed_says standings.Unsure = (λ t e. cc (e), λ n. refl)
indexed_says standings.Missing = (λ t e. cc (e), λ n. refl)
indexed_says standings.Part = (λ t e. cc (e), λ n. refl)
indexed_says standings.Held = (λ t e. cc (e), λ n. refl)
indexed_says standings.Hand = (λ t e. cc (e), λ n. refl)

module _ (w : WantedParts) (content : IsContent (notes_of w)) where
  abbrev copies : List CopyInfo
  copies = copies_of (notes_of w)

  finished_says : (best : Option CopyInfo) → preferred_of copies ≡ best
      → (option_map_or (λ c. c.finished) best false ≡ true)
      ↔ ((c : CopyInfo) × IsBest copies c × (c.finished ≡ true))
  finished_says None e = (
    λ t. absurd cc,
    λ k. absurd (subst (IsPreferred copies) e (preferred_is copies) k.0 k.1.held k.1.candidate),
  )
  finished_says (Some c) e =
      let best = subst (IsPreferred copies) e (preferred_is copies) in (
        λ t. (c, best, t),
        λ k.
            let at = one_best copies c k.0 best k.1 in
            let rise = (rise_by (λ (c : CopyInfo). c.partition) copies).0 (copies_rise (notes_of w) content) in
            let same = one_by_key (λ (c : CopyInfo). c.partition) copies c k.0 rise best.held k.1.held at in
            ap (λ (c : CopyInfo). c.finished) same ∙ k.2,
      )

  described_says : IsTrue (is_described w) ↔ AreDescribed w
  described_says =
      let best = preferred_of copies in
      let finished = option_map_or (λ c. c.finished) best false in
      let says = finished_says best refl in (
        λ t.
            let both = and_parts finished (are_indexed w) t in
            let k = says.0 both.0 in
            record {
              copy = k.0;
              preferred = k.1;
              finished = k.2;
              indexed = λ u i. (indexed_says u.standing).0
                  (list_all-In (λ (u : EditUnit). is_indexed u.standing) (wanted_units w) u both.1 i);
            },
        λ d. and_from finished (are_indexed w) (says.1 (d.copy, d.preferred, d.finished))
            (In-list_all (λ (u : EditUnit). is_indexed u.standing) (wanted_units w)
            (λ u i. (indexed_says u.standing).1 (d.indexed u i))),
      )

-- ---- what is restored first of all sections

-- It helps alike if the header metadata are described alike.
helps_alike : (A B : Type 0) (at : AtHandParts) (notes : List NoteParts) (p : Section) (o : Order) → (B → A)
    → Helps A at notes p o → Helps B at notes p o
helps_alike A B at notes p o back h = record {
  start = h.start;
  is_start = h.is_start;
  helps = elim h.helps [
    | Header z is ↦ Header z is
    | Footer k is ↦ Footer k is
    | Metadata n d s l u is ↦ Metadata n (λ b. d (back b)) s l u is
    | OpenMetadata n d s l u is ↦ OpenMetadata n (λ b. d (back b)) s l u is
    | Index n m q s l is ↦ Index n m q s l is
  ];
}

pub helping_units : (w : WantedParts) (o : Order) → IsContent (notes_of w) → AreAtHand (hand_of w)
    → In o (helping_orders w) ↔ HelpsUnits w o
helping_units w o content hand =
    let at = hand_of w in
    let notes = notes_of w in
    let described = described_says w content in
    let all = In-flat_map (helping_of (is_described w) at notes) (sections_of notes) o in (
      λ k.
          let s = all.0 k in
          let h = (helping_says (is_described w) at notes content hand s.0 o).0 s.2 in
          record {
            section = s.0;
            among = s.1;
            helps = helps_alike (IsTrue (is_described w)) (AreDescribed w) at notes s.0 o described.1 h;
          },
      λ h. all.1 (
        h.section,
        h.among,
        (helping_says (is_described w) at notes content hand h.section o).1
            (helps_alike (AreDescribed w) (IsTrue (is_described w)) at notes h.section o described.0 h.helps),
      ),
    )
