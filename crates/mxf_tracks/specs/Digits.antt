-- Numbers of times in digits: at least two, or at least three (this project's profile).
use Rattle.std.specs.Prelude.{ℕ, ◌/◌, ◌%◌, ◌++◌, List, codes, decimal, if◌then◌else◌}
use Rattle.mxf_tracks.specs.declared.timecode.Timecode.{Timecode}

-- Two digits, or more where the number needs them.
abbrev pub two_digits : ℕ → List ℕ
two_digits n = decimal (n / 10) ++ decimal (n % 10)

-- Three digits of a number below 1000.
abbrev pub three_digits : ℕ → List ℕ
three_digits n = decimal (n / 100) ++ two_digits (n % 100)

-- A timecode as it is printed: `HH:MM:SS:FF`, with `;` before the frames where labels are left out.
abbrev pub timecode_text : Timecode → List ℕ
timecode_text t =
    two_digits t.hours ++ (codes ":" ++ (two_digits t.minutes ++ (codes ":" ++ (two_digits t.seconds
    ++ ((if t.is_drop then codes ";" else codes ":") ++ two_digits t.frames)))))

-- A length in thousandths of a second as it is printed: `HH:MM:SS.mmm`.
abbrev pub length_text : ℕ → List ℕ
length_text thousandths =
    let seconds = thousandths / 1000 in
    two_digits (seconds / 3600) ++ (codes ":" ++ (two_digits (seconds / 60 % 60) ++ (codes ":"
    ++ (two_digits (seconds % 60) ++ (codes "." ++ three_digits (thousandths % 1000))))))
