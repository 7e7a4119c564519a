-- What is restored first of a section: what says more of where units lie (this project's profile).
use Rattle.std.specs.Prelude.{Bool, if◌then◌else◌, Option, None, Some, List, []}
use Rattle.std.specs.Option.{option_to_list}
use Rattle.mxf_klv.specs.Parts.{NoteParts}
use Rattle.mxf_places.specs.AtHand.{AtHandParts}
use Rattle.mxf_places.specs.Claims.{claim_at}
use Rattle.mxf_places.specs.declared.claim.Claim.{Claim}
use Rattle.mxf_places.specs.declared.reason.Reason.{Reason}
use Rattle.mxf_places.specs.declared.reason.Reason.TheVariants as reasons
use Rattle.mxf_restore.specs.Fronts.{front_of}
use Rattle.mxf_restore.specs.Plan.{orders_of}
use Rattle.mxf_places.specs.Heads.{start_of}
use Rattle.mxf_restore.specs.declared.plan.Order.{Order}
use Rattle.mxf_restore.specs.declared.section.Section.{Section}

-- What says more of where units lie is restored first: of a section, by the reason that is claimed of its START, footer
-- partitions and index table segments whole, header metadata as far as their end is known, and of others the front.
abbrev pub helping_for : Bool → AtHandParts → List NoteParts → Section → Claim → Reason → List Order
helping_for described at notes p c reasons.Header = option_to_list (front_of at notes p)
helping_for described at notes p c reasons.Footer = orders_of at notes p
helping_for described at notes p c reasons.Metadata =
    if described then [] else (if c.is_open then option_to_list (front_of at notes p) else orders_of at notes p)
helping_for described at notes p c reasons.Index = orders_of at notes p
helping_for described at notes p c _ = []

abbrev pub helping_by : Bool → AtHandParts → List NoteParts → Section → Option Claim → List Order
helping_by described at notes p None = []
helping_by described at notes p (Some c) = helping_for described at notes p c c.reason

abbrev pub helping_of : Bool → AtHandParts → List NoteParts → Section → List Order
helping_of described at notes p = helping_by described at notes p (claim_at notes (start_of notes p.first))
