-- The lines of a plan (this project's profile).
use Rattle.std.specs.Prelude.{ℕ, ◌-◌, List, [], ◌∷◌, ◌++◌, Option, count_by, flat_map, is_none, length, sum_by}
use Rattle.std.specs.Option.{option_map, option_map_or}
use Rattle.mxf_restore.specs.Plan.{PlanParts}
use Rattle.mxf_places.specs.Words.{reason_name}
use Rattle.mxf_restore.specs.declared.disputes.Disputes.{Disputes}
use Rattle.mxf_restore.specs.declared.plan.DisputedPlace.{DisputedPlace}
use Rattle.mxf_restore.specs.declared.plan.Order.{Order}
use Rattle.mxf_forms.specs.Forms.{PrintedLine, flag, known, known_member, line, number, word}
use Rattle.mxf_lines.specs.Lines.{lines_where}

-- How many bytes an order has, if its end is known.
abbrev pub order_length : Order → Option ℕ
order_length o = option_map (λ e. e - o.start) o.end

-- The line of an order: where it begins and ends, why, which pack says so, whether it begins within a packet, whether
-- its bytes were handed in and don't do, and in JSON how many they are.
unfoldable pub restore_line : Order → PrintedLine
restore_line o =
    line "restore" (number " " "start" o.start ∷ known " " "end" "-" o.end ∷ word " " "reason" (reason_name o.reason)
    ∷ known " " "source" "-" o.source ∷ flag " inside" "inside" o.inside ∷ flag " again" "again" o.again
    ∷ known_member "length" (order_length o) ∷ [])

-- The line of a disputed place: its place, why that matters, and which pack says so.
unfoldable pub disputed_place_line : DisputedPlace → PrintedLine
disputed_place_line d =
    line "disputed" (number " " "offset" d.place ∷ word " " "reason" (reason_name d.reason)
    ∷ known " " "source" "-" d.source ∷ [])

-- The line of disputes: how many packets are disputed, their least offset, and the greatest end of what is held of one.
unfoldable pub disputes_line : Disputes → PrintedLine
disputes_line d =
    line "disputes" (number " " "notes" d.notes ∷ number " " "start" d.start ∷ number " " "end" d.end ∷ [])

-- The bytes of an order, as far as they are known.
abbrev pub ordered_bytes : Order → ℕ
ordered_bytes o = option_map_or (λ e. e - o.start) o.end 0

-- The last line: how many orders there are, their bytes, how many have no end, and the end of the file.
unfoldable pub planned_line : ℕ → ℕ → ℕ → Option ℕ → PrintedLine
planned_line count bytes unended end =
    line "planned" (number " " "ranges" count ∷ number " ranges " "bytes" bytes ∷ number " bytes " "open" unended
    ∷ known " open end " "end" "-" end ∷ [])

-- The lines of a plan: of each order, of each disputed place, of the disputes, if there are some, and the last.
abbrev pub plan_lines : Option Disputes → PlanParts → List PrintedLine
plan_lines disputes p =
    flat_map (λ o. restore_line o ∷ []) p.orders
    ++ (flat_map (λ d. disputed_place_line d ∷ []) p.disputed_places
    ++ (lines_where (λ d. disputes_line d ∷ []) disputes
    ++ planned_line (length p.orders) (sum_by ordered_bytes p.orders) (count_by (λ o. is_none o.end) p.orders) p.end
    ∷ []))
