use Rattle.std.proofs.Common.{◌≡◌, ◌∙◌, ◌++◌, ◌+◌, ◌<◌, ◌∷◌, [], None, add-one, ap, append_assoc, cond, drop, drop-cons}
use Rattle.std.proofs.Common.{false, get_or, length, sym, true, Bool}
use Rattle.mxf_restore.specs.Plan.{first_by_place}
use Rattle.mxf_restore.specs.declared.plan.DisputedPlace.{DisputedPlace}
use Rattle.mxf_places.specs.declared.reason.Reason.TheVariants.{Header}
use Rattle.mxf_restore.proofs.DisputedPlaceLaws.{none_seen, unseen, unseen_step}
use Rattle.mxf_restore.proofs.disputed_place.first_by_place.Goals as goal
use Rattle.mxf_restore.proofs.disputed_place.first_by_place.Goals.{then-branch+in_ok-push, else-branch}

pub loop-disputed_place-init : goal.loop-disputed_place-init
loop-disputed_place-init c =
    ap (λ l. l ++ unseen c.new-seen.result.keys (first_by_place c.args.disputed_places.now)) c.new-first.ensures.items
    ∙ ap (λ seen. unseen seen (first_by_place c.args.disputed_places.now)) c.new-seen.ensures.empty
    ∙ none_seen (first_by_place c.args.disputed_places.now)

pub loop-disputed_place-preserved : goal.loop-disputed_place-preserved
loop-disputed_place-preserved c =
    let xs = c.args.disputed_places.now in
    let i = c.loop-disputed_place.disputed_place-index in
    let first = c.loop-disputed_place.first.items in
    let seen = c.loop-disputed_place.seen.keys in
    let new = c.insert.new.self.keys in
    let z : DisputedPlace = record { reason = Header; place = 0; source = None } in
    let d = get_or xs i z in
    let rest = unseen new (first_by_place (drop (i + 1) xs)) in
    let here : i < length xs = c.loop-disputed_place-test.true in
    let whole = drop-cons xs i z here ∙ ap (λ k. d ∷ drop k xs) (sym (add-one i)) in
    let step = unseen_step seen new d (drop (i + 1) xs) c.in_ok-insert.ensures.updates.0 in
    let told : (b : Bool) → c.in_ok-insert.field-0 ≡ b → first ++ cond b (d ∷ rest) rest ≡ first_by_place xs =
    λ b e.
    ap (λ b. first ++ cond b (d ∷ rest) rest) (sym e ∙ c.in_ok-insert.ensures.added)
    ∙ ap (λ l. first ++ l) (sym step ∙ ap (λ l. unseen seen (first_by_place l)) (sym whole))
    ∙ c.loop-disputed_place.invariant in
    elim c.if-branch.branch [
      | then-branch+in_ok-push w ↦ ap (λ v. v.items ++ rest) w.first-is ∙ ap (λ l. l ++ rest) w.in_ok-push.ensures.items
          ∙ append_assoc first (d ∷ []) rest ∙ told true w.if-branch.true
      | else-branch w ↦ ap (λ v. v.items ++ rest) w.first-is ∙ told false w.if-branch.false
    ]
