-- The lines of faults, one after another.
use Rattle.std.proofs.Common.{◌≡◌, ℕ, ◌+◌, ◌<◌, ◌≤◌, List, [], ◌++◌, length, get_or, drop, ap}
use Rattle.std.proofs.lemmas.List.{drop_all, drop_more}
use Rattle.ssi_names.specs.declared.fault.Fault.{Fault}
use Rattle.ssi_run.specs.FaultLines.{name_fault_line, name_fault_lines}

-- a fault at the start of a text
abbrev pub first : Fault
first = record { code = 0; spot = record { start = 0; len = 0; token = 0; place = record { line = 0; column = 0 } } }

pub next_line : (text : List ℕ) (faults : List Fault) (i : ℕ) → i < length faults
    → name_fault_lines text (drop i faults) ≡ name_fault_line text (get_or faults i first) ++ name_fault_lines text (drop (i + 1) faults)
next_line text faults i within = ap (name_fault_lines text) (drop_more faults i first within)

pub no_line : (text : List ℕ) (faults : List Fault) (i : ℕ) → length faults ≤ i → name_fault_lines text (drop i faults) ≡ []
no_line text faults i past = ap (name_fault_lines text) (drop_all i faults past)
