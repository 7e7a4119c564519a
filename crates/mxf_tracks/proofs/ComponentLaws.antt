-- Components one after another, and where they start.
use Rattle.std.proofs.Common.{◌≡◌, ◌∙◌, ℕ, ◌+◌, ◌*◌, ◌^◌, ◌<◌, ◌≤◌, List, ◌∷◌, [], ◌++◌, Option, Some, None, refl, ap}
use Rattle.std.proofs.Common.{sym, arith}
use Rattle.std.specs.Prelude.{Result, Ok, Err, IfSome}
use Rattle.mxf_klv.specs.Parts.{NoteParts}
use Rattle.mxf_tracks.specs.declared.component.Component.{Component}
use Rattle.mxf_tracks.specs.declared.component.Part.{Part}
use Rattle.mxf_tracks.specs.declared.target.Target.{Target}
use Rattle.mxf_tracks.specs.declared.target.Wanted.TheVariants as wanted
use Rattle.mxf_tracks.specs.Targets.{set_of, with_reached}
use Rattle.mxf_tracks.specs.Walk.{component_of, component_to, components_from, end_of_part, nothing_follows, part_in}
use Rattle.mxf_tracks.specs.Walk.{read_step, step}
use Rattle.mxf_tracks.proofs.WalkLaws.{behind, one_more}

by_start : (start : Option ℕ) (uid reached : List ℕ) (r : Result NoteParts Target)
    → (step (component_to start uid) part_in nothing_follows reached r).0.start ≡ start
by_start start uid reached (Err t) = refl
by_start start uid reached (Ok n) = elim (part_in n) as (λ p.
    (read_step (component_to start uid) nothing_follows n.offset (with_reached n.offset reached) p).0.start ≡ start) [
      | None ↦ refl
      | Some p ↦ refl
    ]

-- A component begins where it is asked for.
pub start_kept : (sets : List NoteParts) (start : Option ℕ) (reached uid : List ℕ)
    → (component_of sets start reached uid).0.start ≡ start
unfolding component_of
start_kept sets start reached uid = by_start start uid reached (set_of sets wanted.Component reached uid)

-- The first reference and those behind it.
pub stepped : (sets : List NoteParts) (start : Option ℕ) (reached uid : List ℕ) (uids : List (List ℕ))
    (one : Component × List ℕ) → one ≡ component_of sets start reached uid
    → components_from sets start reached (uid ∷ uids)
    ≡ (
      one.0 ∷ (components_from sets (end_of_part start one.0.part) one.1 uids).0,
      (components_from sets (end_of_part start one.0.part) one.1 uids).1,
    )
stepped sets start reached uid uids one e =
    ap (λ (o : Component × List ℕ). (
      o.0 ∷ (components_from sets (end_of_part start o.0.part) o.1 uids).0,
      (components_from sets (end_of_part start o.0.part) o.1 uids).1,
    )) (sym e)

-- So many durations are below what a start can be.
pub room : (start : Option ℕ) (n : ℕ) → n < 2 ^ 63 → IfSome start (λ s. s ≤ n * 2 ^ 64)
    → IfSome start (λ s. s < 2 ^ 127)
room None n h b = tt
room (Some s) n h b = omega (arith, h, b)

-- The next one starts below one duration more.
pub next_room : (start next : Option ℕ) (part : Option Part) (n : ℕ) → next ≡ end_of_part start part
    → IfSome start (λ s. IfSome next (λ e. e < s + 2 ^ 64)) → IfSome start (λ s. s ≤ n * 2 ^ 64)
    → IfSome next (λ e. e ≤ (n + 1) * 2 ^ 64)
next_room None None part n same h b = tt
next_room None (Some e) part n same h b = absurd cc
next_room (Some s) None part n same h b = tt
next_room (Some s) (Some e) part n same h b = omega (arith, h, b)

-- Those so far and one more, with those behind it, are all that they were with it.
pub parts_kept : (sets : List NoteParts) (items : List Component) (start next : Option ℕ) (reached uid : List ℕ)
    (left uids : List (List ℕ)) (component : Component) (after : List ℕ) (all : List Component × List ℕ)
    → behind items (components_from sets start reached left) ≡ all → left ≡ uid ∷ uids
    → (component, after) ≡ component_of sets start reached uid → next ≡ end_of_part start component.part
    → behind (items ++ component ∷ []) (components_from sets next after uids) ≡ all
parts_kept sets items start next reached uid left uids component after all parts first one end =
    ap (λ (e : Option ℕ). behind (items ++ component ∷ []) (components_from sets e after uids)) end
    ∙ one_more items component (components_from sets (end_of_part start component.part) after uids)
    ∙ ap (behind items) (sym (stepped sets start reached uid uids (component, after) one))
    ∙ ap (λ (us : List (List ℕ)). behind items (components_from sets start reached us)) (sym first) ∙ parts
