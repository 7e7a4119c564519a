-- How a run of the program ends, and the exit statuses (this project's profile).
use Rattle.std.specs.Prelude.{ℕ, ◌&&◌, nat_lt, not, if◌then◌else◌, Bool, true, false, List}
use Rattle.std.specs.List.{list_all}
use Rattle.mxf_klv.specs.declared.piece.Stop.{Stop}
use Rattle.mxf_klv.specs.declared.piece.Stop.TheVariants.{End, Truncated}
use Rattle.mxf_hints.specs.declared.exit.Exit.{Exit}
use Rattle.mxf_hints.specs.declared.exit.Exit.TheVariants.{Done, Found, Usage, Unread, Refused, NoMemory, Unwritten}
use Rattle.mxf_hints.specs.declared.fault.RunFault.{RunFault}
use Rattle.mxf_hints.specs.declared.fault.RunFault.TheVariants as runs
use Rattle.mxf_asked.specs.declared.hints.Hints.{Hints}
use Rattle.mxf_asked.specs.declared.hints.Hints.TheVariants as hints
use Rattle.mxf_watching.specs.declared.screen.Screen.{Screen}
use Rattle.mxf_watching.specs.declared.screen.Screen.TheVariants as screens
use Rattle.mxf_read.specs.declared.gathering.fault.PartFault.{PartFault}
use Rattle.mxf_read.specs.declared.gathering.fault.PartFault.TheVariants as parts
use Rattle.mxf_read.specs.declared.gathering.report.PieceReport.{PieceReport}

-- The exit status of each end of a run.
abbrev pub status_of : Exit → ℕ
status_of Done = 0
status_of Found = 1
status_of Usage = 2
status_of Unread = 3
status_of Refused = 4
status_of NoMemory = 5
status_of Unwritten = 6

-- The end of a run one part of which is at fault.
abbrev pub exit_of_fault : PartFault → Exit
exit_of_fault parts.ReadFault = Unread
exit_of_fault parts.TooLong = Refused
exit_of_fault (parts.Catalogue fault) = Refused
exit_of_fault parts.OutOfMemory = NoMemory

-- The end of a run for the fault that it reports.
abbrev pub exit_of_run : RunFault → Exit
exit_of_run runs.OutOfMemory = NoMemory
exit_of_run (runs.Signed option text) = Usage
exit_of_run (runs.BadUnitWord option text) = Usage
exit_of_run (runs.BadLastUnit text) = Usage
exit_of_run (runs.NoUnitAt word clock) = Usage
exit_of_run (runs.SeveralUnitsAt word) = Usage
exit_of_run runs.LastBeforeFirst = Usage
exit_of_run runs.NoLastUnit = Usage
exit_of_run runs.TooManyUnits = Usage
exit_of_run runs.NoIndex = Usage
exit_of_run (runs.SeveralIndexes meant) = Usage
exit_of_run (runs.BadSource word) = Usage
exit_of_run runs.NoSource = Usage
exit_of_run (runs.BadLine number path) = Usage
exit_of_run (runs.BadOutput path why) = Usage
exit_of_run (runs.NothingToKeep path) = Found
exit_of_run (runs.WrongOffset word shift) = Usage
exit_of_run runs.TwoLists = Usage
exit_of_run runs.BadUnit = Usage
exit_of_run (runs.Unread path cause) = Unread
exit_of_run (runs.ShortSlice path offset length) = Unread
exit_of_run (runs.BadCatalogue path fault) = Refused
exit_of_run (runs.Unwritten cause) = Unwritten
exit_of_run (runs.Unsaved path fault) = Unwritten

-- Hints are told on a terminal, or as they are asked for.
abbrev pub has_hints : Hints → Screen → Bool
has_hints hints.Auto screens.Terminal = true
has_hints hints.Auto screens.Other = false
has_hints hints.Always screen = true
has_hints hints.Never screen = false

-- All packets of a piece are noted that stops so: none is after the stop but one that is cut.
abbrev pub is_noted : Stop → Bool
is_noted End = true
is_noted (Truncated place) = true
is_noted _ = false

-- The end of a join that would end so: a strict one finds something if a piece has bytes after its stop.
abbrev pub exit_of_join : Exit → Bool → List PieceReport → Exit
exit_of_join exit strict reports =
    if strict && not (list_all (λ r. is_noted r.report.stop) reports) then Found else exit

-- The end of a join that would end so: a strict one finds something if that many notes are disputed, and not none.
abbrev pub exit_of_disputes : Exit → Bool → ℕ → Exit
exit_of_disputes exit strict disputed = if strict && nat_lt 0 disputed then Found else exit
