-- Kinds by letters, facts by words, and kinds of modules by words.
use Rattle.std.specs.Prelude.{ℕ, Bool, true, false, ◌||◌, if◌then◌else◌, codes, List, [], ◌∷◌, Option, Some, None, is_some}
use Rattle.std.specs.Str.{bytes_eq}
use Rattle.ssi_identities.specs.declared.fact.Kind.{Kind}
use Rattle.ssi_identities.specs.declared.fact.Kind.TheVariants.{Points, Signal, Track, Route, Subroute, Flag, Request}
use Rattle.ssi_identities.specs.declared.fact.FactKind.{FactKind}
use Rattle.ssi_identities.specs.declared.fact.FactKind.TheVariants as fact
use Rattle.ssi_identities.specs.Allowed.{is_decided, is_reported}
use Rattle.ssi_identities.specs.IdentityNames.{letter_of}
use Rattle.ssi_identities.specs.Words.{word_of}
use Rattle.ssi_lexer.specs.TokenTests.{begins_with}
use Rattle.ssi_names.specs.declared.rule_file.RuleFile.{RuleFile}
use Rattle.ssi_names.specs.declared.rule_file.RuleFile.TheVariants.{Requests, Moves, Statements, Outputs, Inputs}

-- the first of these kinds whose letter a name begins with; the last one is given
abbrev pub kind_among : List Kind → Kind → List ℕ → Kind
kind_among [] last name = last
kind_among (kind ∷ kinds) last name = if begins_with (letter_of kind) name then kind else kind_among kinds last name

-- the kind of identity that a name is of, by its first letter
abbrev pub kind_of : List ℕ → Kind
kind_of name = kind_among (Points ∷ Signal ∷ Track ∷ Route ∷ Subroute ∷ Flag ∷ []) Request name

-- the facts of an identity of a kind
abbrev pub facts_of_kind : Kind → List FactKind
facts_of_kind Points = fact.Reverse ∷ fact.DetectedNormal ∷ fact.DetectedReverse ∷ []
facts_of_kind Signal = fact.Lamp ∷ []
facts_of_kind Track = fact.Occupied ∷ []
facts_of_kind Route = fact.RouteSet ∷ fact.RouteBarred ∷ []
facts_of_kind Subroute = fact.Locked ∷ []
facts_of_kind Flag = fact.FlagSet ∷ []
facts_of_kind Request = []

-- the first of these facts that a word says, and whether it says that the fact is true
abbrev pub said_by : List FactKind → List ℕ → Option (FactKind × Bool)
said_by [] word = None
said_by (fact ∷ facts) word =
    if bytes_eq word (word_of fact true) then Some (fact, true) else if bytes_eq word (word_of fact false) then Some (fact, false) else said_by facts word

-- the fact of an identity of a kind that a word says, and whether it says that the fact is true
abbrev pub fact_of_word : Kind → List ℕ → Option (FactKind × Bool)
fact_of_word kind word = said_by (facts_of_kind kind) word

-- the lie that a word asks for which asks whether points are controlled to it or free to go to it: true for reverse
abbrev pub lie_of_word : Kind → List ℕ → Option Bool
lie_of_word Points word = if bytes_eq word (codes "cnf") then Some false else if bytes_eq word (codes "crf") then Some true else None
lie_of_word _ word = None

-- whether a word is a test of identities of a kind
abbrev pub is_test : Kind → List ℕ → Bool
is_test kind word = is_some (fact_of_word kind word) || is_some (lie_of_word kind word)

-- whether a word is a command to identities of a kind
abbrev pub is_command : Kind → List ℕ → Bool
is_command kind word = is_some (fact_of_word kind word)

-- the facts that the entries of a file may command: none in PFM and OPT, which have conditions alone
abbrev pub is_fact_of_file : RuleFile → FactKind → Bool
is_fact_of_file Requests fact = is_decided fact
is_fact_of_file Moves fact = false
is_fact_of_file Statements fact = is_decided fact
is_fact_of_file Outputs fact = false
is_fact_of_file Inputs fact = is_reported fact

-- whether the entries of a file may command what a word says
abbrev pub may_command : RuleFile → Option (FactKind × Bool) → Bool
may_command file None = false
may_command file (Some said) = is_fact_of_file file said.0

-- whether a file says when points are free to move
abbrev pub is_of_moves : RuleFile → Bool
is_of_moves Moves = true
is_of_moves _ = false

-- whether a file takes in reports
abbrev pub is_of_inputs : RuleFile → Bool
is_of_inputs Inputs = true
is_of_inputs _ = false

-- the number of a module's kind, by its word: 0 of points, 1 of signals, 2 of tracks
abbrev pub module_kind_of : List ℕ → ℕ
module_kind_of word = if bytes_eq word (codes "points") then 0 else if bytes_eq word (codes "signal") then 1 else 2
