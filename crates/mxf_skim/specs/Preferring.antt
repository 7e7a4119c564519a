-- Where some readings passed over what others read (this project's profile).
use Rattle.std.specs.Prelude.{◌≡◌, ◌↔◌, true, Bool, ◌&&◌, not, List, filter}
use Rattle.std.specs.List.{list_any}
use Rattle.mxf_klv.specs.Note.{head_note}
use Rattle.mxf_klv.specs.Parts.{NoteParts}
use Rattle.mxf_klv.specs.Rising.{In}
use Rattle.mxf_catalogue.specs.Content.{has_note}
use Rattle.mxf_catalogue.specs.Disputes.{IsDisputed, is_same_note}
use Rattle.mxf_skim.specs.PassedOver.{is_passed_over, was_read}

-- Another of the notes is of the same packet, which was read.
pub record IsReadIn (n : NoteParts) (notes : List NoteParts) : Type 0 where
  pub other : NoteParts
  pub held : In other notes
  pub read : was_read other ≡ true
  pub same : head_note other ≡ head_note n

-- The same as a test.
abbrev pub is_read_in : NoteParts → List NoteParts → Bool
is_read_in n notes = list_any (λ m. was_read m && is_same_note (head_note m) (head_note n)) notes

-- The packet was passed over, and another of the notes was read of it.
abbrev pub is_outread : List NoteParts → NoteParts → Bool
is_outread notes n = is_passed_over n && is_read_in n notes

-- The notes without those: a note that was passed over gives way to one that was read.
abbrev pub prefer_read : List NoteParts → List NoteParts
prefer_read notes = filter (λ n. not (is_outread notes n)) notes

-- These are the heads of the disputed notes that were read.
abbrev pub AreHeadsRead : List NoteParts → List NoteParts → Type 0
AreHeadsRead notes heads = (h : NoteParts)
    → has_note heads h ↔ ((m : NoteParts) × In m notes × IsDisputed m notes × (was_read m ≡ true) × (h ≡ head_note m))
