use Rattle.std.proofs.Common.{◌≡◌, ℕ, List, ◌+◌, ◌-◌, ◌%◌, ◌++◌, arith, ◌∙◌, ap, length, drop, replicate, slice_set}
use Rattle.mxf_digests.proofs.PaddingLemmas.{padded_rest}
use Rattle.mxf_digests.proofs.padding.padded.Goals as goal
use Rattle.mxf_digests.proofs.padding.padded.Goals.{then-rest-lt56, else-rest-lt56}

pub returns : goal.returns
returns c =
    let rest = c.args.rest.now in
    let end : c.if-rest-lt56.end ≡ length rest + 9 + (119 - c.args.total % 64) % 64 = elim c.if-rest-lt56.branch [
      | then-rest-lt56 w ↦ omega arith
      | else-rest-lt56 w ↦ omega arith
    ] in
    let zeros = drop {A = ℕ} (length rest) (replicate 128 0) in
    let marked = λ (front : List ℕ). slice_set (front ++ zeros) (length rest) 0x80 in
    padded_rest rest (marked c.copy_from_slice.new.self) c.copy_from_slice-2.new.self c.args.total _
    c.if-rest-lt56.end c.requires
    (ap marked c.copy_from_slice.ensures.after) (c.copy_from_slice-2.ensures.after ∙ c.to_be_bytes.ensures) end
