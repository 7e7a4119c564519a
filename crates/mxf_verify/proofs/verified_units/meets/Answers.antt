use Rattle.std.proofs.Common.{◌≡◌, ◌∙◌, ◌<◌, ap, arith, min, ℕ}
use Rattle.std.proofs.lemmas.Bool.{ltb-true}
use Rattle.mxf_verify.specs.Touching.{cut_end, greatest_number}
use Rattle.mxf_verify.proofs.FixityLaws.{met_where_cut, not_met_behind}
use Rattle.mxf_verify.proofs.verified_units.meets.Goals as goal

pub returns-then-extent-end : goal.returns-then-extent-end
returns-then-extent-end c =
    let e = c.args.extent in
    let low : c.end.result < greatest_number = omega (arith, c.end.type_inv) in
    let cut : c.min.result ≡ min (cut_end e) c.end.result = c.min.ensures
    ∙ ap (λ (k : ℕ). min k c.from-end.result) c.cut_end.ensures
    ∙ ap (λ (k : ℕ). min (cut_end e) k) c.from-end.ensures in
    met_where_cut c.args.cover.now e c.end.result c.min.result c.meets.result c.end.ensures low cut c.meets.ensures

pub returns-else-extent-end : goal.returns-else-extent-end
returns-else-extent-end c =
    let behind = c.if-extent-end.false in (
      λ h. let ahead = ltb-true c.args.extent.start c.from-end.result h in absurd (omega (arith, behind, ahead)),
      λ m. absurd (not_met_behind c.args.cover.now c.args.extent c.end.result c.end.ensures
          (omega (arith, behind, c.from-end.ensures)) m),
    )
