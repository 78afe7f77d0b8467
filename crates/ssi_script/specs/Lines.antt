-- The lines of a trace.
use Rattle.std.specs.Prelude.{ℕ, Bool, true, false, List, [], ◌++◌, codes, decimal, slice_index_or, Option, Some, None}
use Rattle.std.specs.List.{flat_map}
use Rattle.ssi_base.specs.Digits.{hex_of}
use Rattle.ssi_identities.specs.declared.fact.Counts.{Counts}
use Rattle.ssi_identities.specs.declared.fact.FactKind.TheVariants.{Reverse}
use Rattle.ssi_identities.specs.declared.fact.Kind.TheVariants.{Request}
use Rattle.ssi_identities.specs.DataSets.{Plan, counts_of, name_of}
use Rattle.ssi_identities.specs.Facts.{Fact, facts_of, number_of_fact, identity_of}
use Rattle.ssi_identities.specs.States.{State, truth_of}
use Rattle.ssi_identities.specs.Words.{word_of}
use Rattle.ssi_cycle.specs.Cores.{Core}

-- the fact with a number
abbrev pub fact_at : Counts → ℕ → Fact
fact_at counts number = slice_index_or (facts_of counts) number (record { kind = Reverse; index = 0 })

-- a fact with a value: a space, its identity's name, and the word for the value
abbrev pub fact_text : Plan → Fact → Bool → List ℕ
fact_text plan fact value = codes " " ++ name_of plan (identity_of fact.kind) fact.index ++ (codes ":" ++ word_of fact.kind value)

-- a fact whose value differs is written with its new one
abbrev pub change_text : Plan → Fact → Bool → Bool → List ℕ
change_text plan fact true true = []
change_text plan fact false false = []
change_text plan fact before after = fact_text plan fact after

-- what a fact writes from one state to another
abbrev pub change_of : Plan → State → State → Fact → List ℕ
change_of plan before after fact =
    let number = number_of_fact (counts_of plan) fact in
    change_text plan fact (truth_of before number) (truth_of after number)

-- each fact whose value differs, in fact order
abbrev pub changes_of : Plan → State → State → List ℕ
changes_of plan before after = flat_map (change_of plan before after) (facts_of (counts_of plan))

-- a telegram: a space, and its four bytes in eight digits, or a hyphen where there was none
abbrev pub telegram_text : Option (List ℕ) → List ℕ
telegram_text None = codes " -"
telegram_text (Some bytes) = codes " " ++ hex_of bytes

-- the request that was taken: a space, and its panel and its name, or a hyphen where none was
abbrev pub taken_text : Plan → Option (ℕ × ℕ) → List ℕ
taken_text plan None = codes " -"
taken_text plan (Some taken) = codes " " ++ decimal taken.0 ++ (codes ":" ++ name_of plan Request taken.1)

-- what passed in a minor cycle: the telegram that went out, what arrived, and the request that was taken
abbrev pub passed_text : Plan → Option (List ℕ) → Option (List ℕ) → Option (ℕ × ℕ) → List ℕ
passed_text plan out arrived taken = telegram_text out ++ telegram_text arrived ++ taken_text plan taken

-- the line of a minor cycle: its number, what passed in it, and each fact that it changed
abbrev pub line_of : ℕ → Option (List ℕ) → Option (List ℕ) → Option (ℕ × ℕ) → Core → List ℕ
line_of number out arrived taken core =
    decimal number ++ passed_text core.plan out arrived taken ++ changes_of core.plan core.before core.world.state ++ codes "\n"

-- the line of a put that finds the panel full
abbrev pub full_line : Plan → ℕ → ℕ → List ℕ
full_line plan panel request = codes "full " ++ decimal panel ++ (codes " " ++ name_of plan Request request ++ codes "\n")
