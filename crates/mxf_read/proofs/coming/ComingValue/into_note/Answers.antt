use Rattle.std.proofs.Common.{ap, sym, ◌∙◌}
use Rattle.mxf_read.specs.ValueSoFar.{is_gathered, is_passing}
use Rattle.mxf_read.proofs.ComingLaws.{all_came, can_note, digested_bytes, gathered, gathered_bytes, same_note}
use Rattle.mxf_read.proofs.ComingLaws.{noted_read, some_where}
use Rattle.mxf_read.proofs.coming.ComingValue.into_note.Goals as goal

pub unwrap-requires : goal.unwrap-requires
unwrap-requires c =
    c.kept.ensures.when.1 (can_note c.args.self c.width.result _ c.in-Gathered.value.items _ c.width.ensures.width
    (gathered c.args.self c.in-Gathered.value c.in-Gathered.is c.requires.left) c.width.ensures.length
    (ap is_gathered c.in-Gathered.is))

pub unwrap-requires-in-Digested : goal.unwrap-requires-in-Digested
unwrap-requires-in-Digested c =
    some_where c.digested.result _ _ c.digested.ensures (can_note c.args.self c.width-in-Digested.result
    c.value-in-Digested.result
    c.digest_of-digest.result _ c.width-in-Digested.ensures.width c.value-in-Digested.ensures
    c.width-in-Digested.ensures.length (ap is_gathered c.in-Digested.is))

pub returns-in-Gathered : goal.returns-in-Gathered
returns-in-Gathered c = λ m taken. (rw c.unwrap.ensures at c.kept.ensures.note)
    ∙ same_note c.args.self m c.width.result _ _ _ c.requires.left taken c.width.ensures.width
    (gathered c.args.self c.in-Gathered.value c.in-Gathered.is c.requires.left) (ap is_gathered c.in-Gathered.is)
    (gathered_bytes c.args.self c.in-Gathered.value m c.in-Gathered.is taken)
    ∙ noted_read c.args.self.so_far _ (ap is_passing c.in-Gathered.is)

pub returns-in-Digested : goal.returns-in-Digested
returns-in-Digested c = λ m taken. (rw c.unwrap-in-Digested.ensures at c.digested.ensures).1
    ∙ same_note c.args.self m c.width-in-Digested.result c.value-in-Digested.result _ _ c.requires.left taken
    c.width-in-Digested.ensures.width
    c.value-in-Digested.ensures (ap is_gathered c.in-Digested.is)
    (c.digest_of-digest.ensures m (digested_bytes c.args.self c.in-Digested.hasher m c.in-Digested.is taken)
    (all_came c.args.self m c.requires.left taken ∙ sym c.value.ensures))
    ∙ noted_read c.args.self.so_far _ (ap is_passing c.in-Digested.is)
