-- The lines of faults: where the fault stands, its code, and the name, word or number that has it.
use Rattle.std.specs.Prelude.{ℕ, ◌==◌, if◌then◌else◌, List, [], ◌++◌, codes, decimal}
use Rattle.std.specs.List.{flat_map}
use Rattle.ssi_base.specs.declared.place.Place.{Place}
use Rattle.ssi_lexer.specs.declared.token.LexFault.{LexFault}
use Rattle.ssi_lexer.specs.Lexemes.{characters_at}
use Rattle.ssi_names.specs.declared.fault.Fault.{Fault}
use Rattle.ssi_names.specs.Texts.{characters}
use Rattle.ssi_script.specs.declared.step.ScriptFault.{ScriptFault}
use Rattle.ssi_script.specs.Meanings.{fault_codes}

-- `fault`, the line and the column of a place
abbrev pub fault_at : Place → List ℕ
fault_at place = codes "fault " ++ decimal place.line ++ (codes ":" ++ decimal place.column)

-- no token begins there
abbrev pub lexical_line : LexFault → List ℕ
lexical_line fault = fault_at fault.place ++ (codes " L" ++ decimal fault.code) ++ codes "\n"

-- no spelling goes on there
abbrev pub syntax_line : Place → List ℕ
syntax_line place = fault_at place ++ codes " S1\n"

-- a group or a choice is opened there that lies too deep in others
abbrev pub depth_line : Place → List ℕ
depth_line place = fault_at place ++ codes " S2\n"

-- a name, a word or a number has a fault
abbrev pub name_fault_line : List ℕ → Fault → List ℕ
name_fault_line text fault = fault_at fault.spot.place ++ (codes " N" ++ decimal fault.code) ++ (codes " " ++ characters text fault.spot ++ codes "\n")

-- the faults of names, a line each
abbrev pub name_fault_lines : List ℕ → List Fault → List ℕ
name_fault_lines text faults = flat_map (name_fault_line text) faults

-- what has the fault of a step: tokens that are no step tell none
abbrev pub faulty_token : List ℕ → ScriptFault → List ℕ
faulty_token text fault =
    if fault.code == fault_codes.misspelled then [] else codes " " ++ characters_at text fault.token_start fault.token_len

-- a step of the script has a fault
abbrev pub script_fault_line : List ℕ → ScriptFault → List ℕ
script_fault_line text fault = fault_at fault.place ++ (codes " R" ++ decimal fault.code) ++ (faulty_token text fault ++ codes "\n")
