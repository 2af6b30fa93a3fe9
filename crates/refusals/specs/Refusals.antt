-- The refusal table of document 01, and the new numbers of document 02: the number and the place of each refusal.
use Rattle.refusals.specs.Library.{ℕ}
use Rattle.refusals.specs.declared.Refusal.{Refusal}
use Rattle.refusals.specs.declared.Refusal.TheVariants.{ReportMemory, TextLength, Layout, OutOfRange, BadName, Unpriced, NoTarget, Backward, UnknownCell, Stuck, Openings, Spent, BadWord, NoMeeting}

-- column "No."
unfoldable pub number : Refusal → ℕ
number ReportMemory = 10
number TextLength = 1
number (Layout line) = 2
number (OutOfRange line) = 3
number (BadName line) = 4
number (Unpriced line) = 5
number (NoTarget line) = 6
number (Backward line) = 13
number (UnknownCell line) = 11
number (Stuck address) = 7
number (Openings address) = 8
number (Spent address) = 9
number (BadWord index) = 12
number (NoMeeting address) = 14

-- column "Place"
unfoldable pub place : Refusal → ℕ
place ReportMemory = 0
place TextLength = 0
place (Layout line) = line
place (OutOfRange line) = line
place (BadName line) = line
place (Unpriced line) = line
place (NoTarget line) = line
place (Backward line) = line
place (UnknownCell line) = line
place (Stuck address) = address
place (Openings address) = address
place (Spent address) = address
place (BadWord index) = index
place (NoMeeting address) = address
