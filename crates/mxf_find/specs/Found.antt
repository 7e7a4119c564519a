-- Where a fragment lies in a recording (this project's profile).
use Rattle.std.specs.Prelude.{◌≡◌, ℕ, List, [], Option, Some, None, ℤ, pos, ◌-ℤ◌}
use Rattle.mxf_klv.specs.Note.{greatest_end}
use Rattle.mxf_klv.specs.Parts.{NoteParts}
use Rattle.mxf_find.specs.Agreeing.{agreeing, agreeing_as_heads}
use Rattle.mxf_find.specs.Votes.{FragmentParts, IsMostVoted, votes}
use Rattle.mxf_find.specs.declared.found.Match.{Match}

-- The offset in the recording of the fragment's first place: a shift less the greatest end, which it has too much.
abbrev pub offset_of : ℕ → ℤ
offset_of shift = pos shift -ℤ pos greatest_end

-- What is said of a fragment in a recording at a shift: the offset, how many notes agree, and how many as heads.
pub record IsMatchAt (f : FragmentParts) (recording : List NoteParts) (found : Match) (at : ℕ) : Type 0 where
  pub voted : IsMostVoted (votes f recording) at
  pub offset : found.offset ≡ offset_of at
  pub agree : found.agree ≡ agreeing f recording at
  pub heads : found.heads ≡ agreeing_as_heads f recording at

-- Where a fragment lies in a recording, if it has a vote there. A law says that there is one answer.
abbrev pub IsFound : FragmentParts → List NoteParts → Option Match → Type 0
IsFound f recording None = votes f recording ≡ []
IsFound f recording (Some found) = (at : ℕ) × IsMatchAt f recording found at
