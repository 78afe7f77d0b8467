-- The statuses that the program ends with, the lines that it writes in place of a trace, and its limit.
use Rattle.std.specs.Prelude.{ℕ, List, Result, Ok, Err, codes}
use Rattle.ssi_lexer.specs.Limits.{text_limit}
use Rattle.ssi_run.specs.declared.status.Status.{Status}
use Rattle.ssi_run.specs.declared.status.Status.TheVariants.{Done, Faulty, NoShape, BadScript, PastLimit}
use Rattle.ssi_run.specs.declared.status.Failure.{Failure}
use Rattle.ssi_run.specs.declared.status.Failure.TheVariants as failure

-- the number of an answer's status: all done; the data part has faults; the words have no known shape; a step of the script has a fault; the input is too large
abbrev pub number_of : Status → ℕ
number_of Done = 0
number_of Faulty = 1
number_of NoShape = 2
number_of BadScript = 7
number_of PastLimit = 9

-- the number of what kept a whole answer back: reading failed, writing failed, memory ran out
abbrev pub failure_number : Failure → ℕ
failure_number failure.Source = 3
failure_number failure.Sink = 4
failure_number failure.Memory = 8

-- the number to end with
abbrev pub number_after : Result Status Failure → ℕ
number_after (Ok status) = number_of status
number_after (Err failure) = failure_number failure

-- how many bytes the input has at most: as many as a text
abbrev pub input_limit : ℕ
input_limit = text_limit

-- what is written where the words have no known shape
abbrev pub usage_line : List ℕ
usage_line = codes "usage: ssi check | compile | run [--last n] | exec | yard n\n"

-- what is written where the input has more bytes than the limit
abbrev pub too_large_line : List ℕ
too_large_line = codes "fault input more than 2097152 bytes\n"
