use Rattle.mxf_views.proofs.Common.{◌≡◌, ◌∙◌, ◌*◌, ◌<◌, ℕ, arith, length, subst, Appends-nil, err_from_is_err_and}
use Rattle.mxf_views.proofs.Common.{Writes}
use Rattle.mxf_places.specs.AtHand.{KnownParts}
use Rattle.mxf_map.specs.Map.{IsMap, MapParts}
use Rattle.mxf_map.proofs.MarkLaws.{one_map}
use Rattle.mxf_lines.specs.MapLines.{AreToldExtents, map_lines}
use Rattle.mxf_lines.specs.Printing.{Prints}
use Rattle.mxf_lines.proofs.MapLineLaws.{one_told}
use Rattle.mxf_lines.proofs.printing.map.print_map.Goals as goal

pub returns-in_err-extents-clause-lines : goal.returns-in_err-extents-clause-lines
returns-in_err-extents-clause-lines g c = λ m extents is told.
    let lines = map_lines c.args.grid.columns m extents in
    let some : 0 < length lines = omega arith in
    let p = err_from_is_err_and c.from_residual-in_err-extents.result c.from_residual-in_err-extents.ensures.1 in
    rw (p.1, p.2) (0, some, Appends-nil (g.W.Write.contents c.args.writer.now))

pub returns-clause-lines : goal.returns-clause-lines
returns-clause-lines g c = λ m extents is told.
    let own = c.in_ok-map.map in
    let known : KnownParts = record { notes = c.args.views.now; at = c.args.at_hand.now } in
    let here : IsMap known (c.args.grid.columns * c.args.grid.rows) own =
    subst (λ (k : ℕ). IsMap known k own)
    (λ i. (c.from.ensures ∙ c.columns-columns.ensures.columns) i * (c.from-2.ensures ∙ c.rows.ensures.rows) i)
    c.in_ok-map.ensures in
    let same : own ≡ m = one_map known (c.args.grid.columns * c.args.grid.rows) own m here is in
    let mine = c.in_ok-extents.extents.items in
    let own_told : AreToldExtents known own.end c.args.with_extents mine =
    subst (λ (k : ℕ). AreToldExtents known k c.args.with_extents mine) c.end.ensures.end c.in_ok-extents.ensures in
    let all : mine ≡ extents = one_told known m.end c.args.with_extents mine extents
    (subst (λ (k : MapParts). AreToldExtents known k.end c.args.with_extents mine) same own_told) told in
    subst (Prints c.args.form (Writes {X = Unit {0}} (g.W.Write.contents c.args.writer.now)
    (g.W.Write.contents c.print_picture.new.writer)) c.print_picture.result)
    (λ i. map_lines (c.columns-columns.ensures.columns i) (same i) ((c.deref.ensures.value ∙ all) i))
    c.print_picture.ensures
