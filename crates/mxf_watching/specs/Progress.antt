-- The line that says how far a long piece has been read (this project's profile). Numbers are decimal and rounded
-- down.
use Rattle.std.specs.Prelude.{ℕ, ◌+◌, ◌-◌, ◌/◌, ◌%◌, List, ◌++◌, codes, if◌then◌else◌, nat_lt}
use Rattle.std.specs.Fmt.{decimal}

-- The bytes that a piece has at most if nothing is told of its reading.
abbrev pub short_piece : ℕ
short_piece = 268435456

-- The milliseconds from one line to the next, at least.
abbrev pub line_pause : ℕ
line_pause = 250

-- A number of bytes in gigabytes, 1,000,000,000 bytes, with one decimal.
unfoldable pub gigabytes : ℕ → List ℕ
gigabytes bytes = decimal (bytes / 1000000000) ++ (codes "." ++ decimal (bytes / 100000000 % 10))

-- A number of seconds: in minutes from one minute on.
unfoldable pub time_text : ℕ → List ℕ
time_text seconds =
    if nat_lt seconds 60 then decimal seconds ++ codes " s" else (decimal (seconds / 60) ++ codes " min")

-- The seconds in which the rest is read, if that many bytes of a size were read in that many milliseconds. The bytes of
-- each millisecond so far are rounded up to the next whole number.
abbrev pub seconds_left : ℕ → ℕ → ℕ → ℕ
seconds_left done size elapsed = (size - done) / (done / elapsed + 1) / 1000

-- The line: the path, the bytes that were read of the bytes that there are, and the time left.
unfoldable pub progress_line : List ℕ → ℕ → ℕ → ℕ → List ℕ
progress_line path done size left =
    codes "reading " ++ (path ++ (codes ": " ++ (gigabytes done ++ (codes " of " ++ (gigabytes size ++ (codes " GB, "
    ++ (time_text left ++ codes " left")))))))
