-- What is asked for of a section.
use Rattle.mxf_views.proofs.Common.{◌≡◌, ◌∙◌, ℕ, Bool, max, Option, option_map, List, ap, NoteParts}
use Rattle.mxf_places.specs.AtHand.{AtHandParts, up_to_bound}
use Rattle.mxf_places.specs.Claims.{claim_at}
use Rattle.mxf_restore.specs.EndPacks.{has_end_pack}
use Rattle.mxf_restore.specs.Plan.{asked, asked_of, end_by}
use Rattle.mxf_places.specs.Heads.{needed_of, start_of}
use Rattle.mxf_places.specs.declared.claim.Claim.{Claim}
use Rattle.mxf_places.specs.declared.heads.Head.{Head}
use Rattle.mxf_restore.specs.declared.section.Section.{Section}

pub asked_is : (at : AtHandParts) (notes : List NoteParts) (p : Section) (head : Head) (claim : Option Claim)
    (by end : Option ℕ) (ended : Bool) → ended ≡ has_end_pack notes
    → head.offset ≡ start_of notes p.first → head.needed ≡ needed_of notes (start_of notes p.first) p.first
    → claim ≡ claim_at notes head.offset → by ≡ end_by at notes p claim
    → end ≡ option_map (λ e. max e (up_to_bound head.needed p.hole.end)) by
    → asked ended claim head.offset end ≡ asked_of at notes p
asked_is at notes p head claim by end ended known start needed claimed ends reaches =
    let first : claim ≡ claim_at notes (start_of notes p.first) = claimed ∙ ap (claim_at notes) start in
    let all = ends ∙ ap (end_by at notes p) first in
    (λ i. asked (known i) (first i) (start i)
    ((reaches ∙ (λ j. option_map (λ e. max e (up_to_bound (needed j) p.hole.end)) (all j))) i))
