-- A fragment all of whose notes a recording has (this project's profile).
use Rattle.std.specs.Prelude.{◌≡◌, ◌⊎◌, ℕ, ◌≤◌, true, false, List}
use Rattle.mxf_klv.specs.Parts.{NoteParts}
use Rattle.mxf_klv.specs.Rising.{In}
use Rattle.mxf_find.specs.Packets.{front_of, packet_of}
use Rattle.mxf_find.specs.Telling.{IsTellingByLength, IsTellingByValue}
use Rattle.mxf_find.specs.Votes.{FragmentParts, shift}

-- A note of a recording is what a fragment's note is where it is shifted to, or the packet of which that is the head.
pub record StandsFor (f : FragmentParts) (recording : List NoteParts) (at : ℕ) (p n : NoteParts) : Type 0 where
  pub held : In n recording
  pub moved : shift f p n ≡ at
  pub packet : (packet_of p ≡ packet_of n) ⊎ (packet_of p ≡ front_of n)

-- It tells in the recording: for a whole one by value, for a head by length.
pub record TellsFor (recording : List NoteParts) (p n : NoteParts) : Type 0 where
  pub by_value : p.whole ≡ true → IsTellingByValue n recording
  pub by_length : p.whole ≡ false → IsTellingByLength n recording

-- The recording has no head; it has the packet of each note of the fragment, at one shift; and one of these tells
-- there.
pub record LiesWholly (f : FragmentParts) (recording : List NoteParts) (at : ℕ) : Type 0 where
  pub inside : (p : NoteParts) → In p f.notes → f.offset ≤ p.offset
  pub whole : (n : NoteParts) → In n recording → n.whole ≡ true
  pub each : (p : NoteParts) → In p f.notes → (n : NoteParts) × StandsFor f recording at p n
  pub some : (p : NoteParts) × (n : NoteParts) × In p f.notes × StandsFor f recording at p n × TellsFor recording p n
