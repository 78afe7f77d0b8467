-- How a reading ends. Only the clauses of `file_ended`, `list_ended` and `front_ended` cite this file, for readers of the
-- layers above.
use Rattle.std.specs.Prelude.{Bool, if◌then◌else◌, List, [], ◌∷◌, Result, Ok, Err}
use Rattle.ssi_lexer.specs.declared.token.TextEnd.{TextEnd}
use Rattle.ssi_lexer.specs.declared.token.TextEnd.TheVariants.{Finished, Faulty}
use Rattle.ssi_lexer.specs.declared.wanted.Stop.{Stop}
use Rattle.ssi_lexer.specs.declared.wanted.Stop.TheVariants as s
use Rattle.ssi_lexer.specs.Lexemes.{Lexeme}
use Rattle.ssi_terms.specs.declared.read_fault.ReadFault.{ReadFault}
use Rattle.ssi_terms.specs.declared.read_fault.ReadFault.TheVariants as f

-- the fault before which the tokens stand
abbrev pub fault_before : List Lexeme → TextEnd → ReadFault
fault_before [] (Finished place) = f.Syntax place
fault_before [] (Faulty fault) = f.Lex fault
fault_before (t ∷ ts) end = f.Syntax t.place

-- the level too deep that the next token opens
abbrev pub level_before : List Lexeme → TextEnd → ReadFault
level_before [] (Finished place) = f.TooDeep place
level_before [] (Faulty fault) = f.Lex fault
level_before (t ∷ ts) end = f.TooDeep t.place

-- what was read, where such a token or the end of the text comes next
abbrev pub if_ended : {A : Type 0} → (Lexeme → Bool) → A → List Lexeme → TextEnd → Result A ReadFault
if_ended ends x [] (Finished place) = Ok x
if_ended ends x [] (Faulty fault) = Err (f.Lex fault)
if_ended ends x (t ∷ ts) end = if ends t then Ok x else Err (f.Syntax t.place)

-- the answer of a reader that doesn't look at what follows
abbrev pub front_ended : {A : Type 0} → Result A Stop → List Lexeme → TextEnd → Result A ReadFault
front_ended (Ok x) left end = Ok x
front_ended (Err stop) left end = Err (fault_before left end)

-- the answer of a reader that has read so, or has stopped
abbrev pub ended : {A : Type 0} → (Lexeme → Bool) → Result A Stop → List Lexeme → TextEnd → Result A ReadFault
ended ends (Ok x) left end = if_ended ends x left end
ended ends (Err s.Syntax) left end = Err (fault_before left end)
ended ends (Err s.TooDeep) left end = Err (level_before left end)
ended ends (Err s.Memory) left end = Err f.Memory
