-- The heads so far, with those of the notes that are to come.
use Rattle.std.proofs.Common.{◌↔◌, ◌⊎◌}
use Rattle.mxf_klv.specs.Parts.{NoteParts}
use Rattle.mxf_catalogue.specs.Content.{has_note}
use Rattle.mxf_catalogue.specs.Disputes.{disputed_notes}
use Rattle.mxf_skim.proofs.HeadsRead.{IsHeadRead}
use Rattle.mxf_skim.proofs.preferring.heads_read.Given as goal

abbrev pub invariant-loop-disputed : goal.invariant-loop-disputed
invariant-loop-disputed l = (h : NoteParts)
    → (has_note l.read h ⊎ IsHeadRead l.disputed-iterator h) ↔ IsHeadRead (disputed_notes l.catalogue) h
