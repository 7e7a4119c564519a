use Rattle.mxf_views.proofs.Common.{◌≡◌, ◌<◌, ◌^◌, ◌∙◌, ◌++◌, ◌-◌, List, ap, arith, drop, get_or, length, map, subst}
use Rattle.mxf_views.proofs.Common.{sym, take, AllWithin, length-map, NoteParts, In, clear_notes}
use Rattle.mxf_views.proofs.Common.{clear_from, counted_above, IsOfNone, IsStarting, length-drop, ◌≤◌, PartitionParts}
use Rattle.mxf_views.proofs.Common.{copies_among, count_by, has_metadata}
use Rattle.mxf_views.specs.declared.copy.CopyInfo.{CopyInfo}
use Rattle.mxf_views.proofs.AboveCopies.{copies_at, fits_at, stays_above}
use Rattle.mxf_views.proofs.AboveKept.{ends_above_at}
use Rattle.mxf_views.proofs.CopyUpdates.{counted_copies, kept_copies}
use Rattle.mxf_views.proofs.CopyLaws.{copies_rise}
use Rattle.mxf_klv.proofs.ListSteps.{in_rest, map_rest, rest_taken, rest_written}
use Rattle.mxf_views.proofs.kept.above.follow_copies_above.Goals as goal

pub starting-starting-requires : goal.starting-starting-requires
starting-starting-requires c = grind (arith, copies_rise)

pub count_above-requires : goal.count_above-requires
count_above-requires c = λ copy s h e.
    let k = c.requires.kept in
    let there = in_rest c.deref_mut.result.now copy c.args.settled h in
    let fits = subst (λ (ns : List NoteParts). length (clear_notes ns) < 2 ^ 64) c.catalogue.ensures
    c.laws.ensures.clear_bound in
    fits_at c.args.sums.now.boundary c.args.sums.now.notes k.0 c.args.copies.now.items copy s k.1 k.2 fits
    (subst (In copy) c.deref_mut.ensures.value there) e

pub append_copies-requires-clause-above : goal.append_copies-requires-clause-above
append_copies-requires-clause-above c = λ i d z l.
    let b = c.args.sums.now.boundary in
    subst (λ (ps : List PartitionParts). i < length ps → b ≤ (get_or ps i d).end) (sym c.requires.new)
    (ends_above_at b c.args.sums.now.notes c.requires.kept.0 c.requires.kept.1 i d z) l

pub append_copies-requires-clause-room : goal.append_copies-requires-clause-room
append_copies-requires-clause-room c = grind (arith, count_by, has_metadata, counted_copies, clear_from)

pub returns-clause-copies : goal.returns-clause-copies
returns-clause-copies c =
    let k = c.requires.kept in
    let notes = c.args.sums.now.notes in
    let b = c.args.sums.now.boundary in
    let at = c.args.settled in
    let old = c.args.copies.now.items in
    let lent = c.deref_mut.result.now in
    let starting = c.starting-starting.result in
    let count = λ (d : CopyInfo). counted_above notes b starting d d.start in
    let added = copies_among (clear_notes notes) c.args.new.now in
    let told = c.starting-starting.ensures in
    let last = subst (λ (l : List CopyInfo). IsOfNone l (length l - 1) starting) c.deref.ensures.value told.last in
    let can_start = subst (λ (l : List CopyInfo). IsStarting notes b l starting) c.deref.ensures.value
    (subst (λ ns. IsStarting ns b c.deref.result.now starting) c.catalogue-2.ensures
    (subst (λ o. IsStarting c.catalogue-2.result.now o c.deref.result.now starting) c.boundary.ensures told.starting))
    in
    let whole = c.args.copies.now.ok.0 in
    let few = c.requires.bound in
    let stay : AllWithin (λ d. count d ≡ d) old 0 at =
    λ i d from below. stays_above notes b starting (get_or old i d) (c.requires.ended i d from below)
    (last i d from (omega (arith, below, few, whole))) in
    let counted = c.count_above.ensures ∙ ap (map count) (rest_taken lent at
    ∙ ap (drop at) c.deref_mut.ensures.value) in
    let rest = length-map (drop at old) count in
    let size = length-drop at old in
    c.append_copies.ensures ∙ ap (λ l. l ++ added)
    (rest_written old lent c.count_above.new.copies at c.args.copies.now.len c.deref_mut.ensures.value whole
    (omega (arith, few, whole)) (ap length counted ∙ rest ∙ size) ∙ ap (λ l. take at old ++ l) counted
    ∙ map_rest count old at stay) ∙ ap (λ l. map count old ++ l) (ap (copies_among (clear_notes notes)) c.requires.new
    ∙ kept_copies (clear_notes notes) (clear_from b notes)) ∙ copies_at b notes k.0 starting old k.1 k.2 can_start
