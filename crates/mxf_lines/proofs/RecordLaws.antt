-- A table with one record more has those that were found. References that are there have lines.
use Rattle.mxf_views.proofs.Common.{◌≡◌, ◌∙◌, ◌==◌, ℕ, List, [], Bool, Option, Some, true, false, refl, ap, sym, cond}
use Rattle.mxf_views.proofs.Common.{eqb-true, ◌<◌, ◌∷◌, arith, length, unwrap_or, nat_cmp, BTreeMap, get, is_at}
use Rattle.mxf_views.proofs.Common.{NoteParts, at_equal, at_other}
use Rattle.mxf_references.specs.declared.reference.target.Ref.{Ref}
use Rattle.mxf_references.specs.declared.reference.target.Target.TheVariants.{Found}
use Rattle.mxf_lines.specs.declared.printing.line.record.Named.{Named}
use Rattle.mxf_lines.specs.declared.printing.references.Record.{Record}
use Rattle.mxf_lines.specs.ReferenceLines.{AreRecordsIn, found_record, named_lines}

pub records_one_more : (content : List NoteParts) (named : Named) (old new : BTreeMap ℕ (Option Record)) (offset : ℕ)
    (value : Option Record) → AreRecordsIn content named old → value ≡ found_record content named (Found offset)
    → ((x : ℕ) → get nat_cmp new x ≡ cond (is_at (nat_cmp offset) x) (Some value) (get nat_cmp old x))
    → AreRecordsIn content named new
records_one_more content named old new offset value kept there updates at found is =
    let stands = λ (b : Bool). cond b (Some value) (get nat_cmp old at) in
    elim (offset == at) as (λ b. (offset == at) ≡ b → found ≡ found_record content named (Found at)) [
      | true ↦ λ e.
          let same : offset ≡ at = eqb-true offset at e in
          let added : get nat_cmp new at ≡ Some value = updates at ∙ ap stands (at_equal offset at same) in
          let one : value ≡ found =
          ap (λ (o : Option (Option Record)). unwrap_or o found) (sym added ∙ is) in
          sym one ∙ there ∙ ap (λ (n : ℕ). found_record content named (Found n)) same
      | false ↦ λ e. kept at found (sym (updates at ∙ ap stands (at_other offset at e)) ∙ is)
    ] refl

pub lines_of_some : (content : List NoteParts) (named : Named) (references : List Ref)
    → (length references == 0) ≡ false → 0 < length (named_lines content named references)
lines_of_some content named [] some = absurd (cc some)
lines_of_some content named (r ∷ references) some = omega arith
