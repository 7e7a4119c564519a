use Rattle.std.proofs.Common.{◌≡◌, ◌∙◌, ℕ, List, Some, ap, sym, take, drop, length, ◌/◌, ◌*◌}
use Rattle.std.specs.List.{slice_get}
use Rattle.mxf_sets.proofs.ReferenceLemmas.{sixteens-at, sixteens-past}
use Rattle.mxf_sets.proofs.record.references.References.get.Goals as goal

pub returns-then-at-self : goal.returns-then-at-self
returns-then-at-self c = cc (sixteens-past
    (length c.self.inside.bytes.now / 16) c.args.at c.self.inside.bytes.now c.if-at-self.true)

pub returns : goal.returns
returns c =
    let bytes = c.self.inside.bytes.now in
    let same : c.identifier.result ≡ take 16 (drop (16 * c.args.at) bytes) = c.identifier.ensures
    ∙ c.split_at-2.ensures.front ∙ ap (take 16) c.split_at.ensures.back in
    ap (λ (r : List ℕ). Some r) same ∙ sym (sixteens-at (length bytes / 16) c.args.at bytes c.if-at-self.false)
    ∙ ap (λ (l : List (List ℕ)). slice_get l c.args.at) c.self.view_is
