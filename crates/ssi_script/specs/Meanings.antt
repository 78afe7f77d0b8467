-- What a step means in a layout: the numbers of what it names, or its fault.
use Rattle.std.specs.Prelude.{ℕ, ◌+◌, ◌==◌, ◌<◌, ◌≡◌, nat_lt, if◌then◌else◌, List, [], ◌∷◌, length, take, position, Option, Some, None, option_map, Result, Ok, Err}
use Rattle.std.specs.Str.{bytes_eq}
use Rattle.ssi_base.specs.declared.place.Place.{Place}
use Rattle.ssi_lexer.specs.declared.token.Token.{Token}
use Rattle.ssi_lexer.specs.Lexemes.{characters_at}
use Rattle.ssi_identities.specs.declared.fact.Kind.{Kind}
use Rattle.ssi_identities.specs.declared.fact.Kind.TheVariants.{Request}
use Rattle.ssi_identities.specs.DataSets.{ModulePlan, Plan, names_in}
use Rattle.ssi_identities.specs.IdentityNames.{letter_of}
use Rattle.ssi_identities.specs.NameLists.{number_of}
use Rattle.ssi_identities.specs.Wells.{is_wired_to, wired_kind}
use Rattle.ssi_cycle.specs.Exchanges.{module_in}
use Rattle.ssi_trackside.specs.declared.events.Event.{Event}
use Rattle.ssi_trackside.specs.declared.events.Event.TheVariants as at
use Rattle.ssi_trackside.specs.Kinds.{points_kind, signal_kind, track_kind}
use Rattle.ssi_script.specs.declared.step.EventWord.{EventWord}
use Rattle.ssi_script.specs.declared.step.EventWord.TheVariants as event
use Rattle.ssi_script.specs.declared.step.ModuleWord.{ModuleWord}
use Rattle.ssi_script.specs.declared.step.ModuleWord.TheVariants as becomes
use Rattle.ssi_script.specs.declared.step.StepTree.{StepTree}
use Rattle.ssi_script.specs.declared.step.StepTree.TheVariants as tree
use Rattle.ssi_script.specs.declared.step.ScriptFault.{ScriptFault}
use Rattle.ssi_script.specs.declared.step.ScriptStep.{ScriptStep}
use Rattle.ssi_script.specs.declared.step.ScriptStep.TheVariants as step

-- the numbers of the faults of a step
pub record FaultCodes : Type 0 where
  -- it isn't spelled as a step
  pub misspelled : ℕ
  -- a name isn't declared, or no module has an address
  pub unknown : ℕ
  -- a name's first letter isn't that of the kind that is needed
  pub wrong_kind : ℕ
  -- the script makes more minor cycles than it may
  pub too_many_cycles : ℕ

abbrev pub fault_codes : FaultCodes
fault_codes = record { misspelled = 1; unknown = 2; wrong_kind = 3; too_many_cycles = 4 }

-- how many minor cycles the steps of a script make at most
abbrev pub most_cycles : ℕ
most_cycles = 1000000

-- a fault of a token
abbrev pub fault_of : ℕ → Token → ScriptFault
fault_of code token = record { code = code; token_start = token.start; token_len = token.len; place = token.place }

-- a fault of spelling is one of a place, and tells no token
abbrev pub misspelled_at : Place → ScriptFault
misspelled_at place = record { code = fault_codes.misspelled; token_start = 0; token_len = 0; place = place }

-- what was found, or a fault
abbrev pub or_fault : {A : Type 0} → ScriptFault → Option A → Result A ScriptFault
or_fault fault None = Err fault
or_fault fault (Some x) = Ok x

-- what was found, as a function makes of it
abbrev pub with_found : {A B : Type 0} → (A → B) → Result A ScriptFault → Result B ScriptFault
with_found f (Ok x) = Ok (f x)
with_found f (Err fault) = Err fault

-- the number of the identity of a kind that a token names: its first letter has to be the kind's, and it has to be declared
abbrev pub identity_named : Plan → List ℕ → Kind → Token → Result ℕ ScriptFault
identity_named plan text kind token =
    let name = characters_at text token.start token.len in
    if bytes_eq (take 1 name) (letter_of kind)
    then or_fault (fault_of fault_codes.unknown token) (number_of (names_in plan kind) name)
    else Err (fault_of fault_codes.wrong_kind token)

-- the module with the address that a token tells
abbrev pub module_told : Plan → ℕ → Token → Result ModulePlan ScriptFault
module_told plan address token = or_fault (fault_of fault_codes.unknown token) (module_in plan address)

-- where an identity is wired: the module's address and kind, and the pin
pub record Wire : Type 0 where
  pub address : ℕ
  pub kind : ℕ
  pub pin : ℕ

-- the pin of a module of a kind that an identity is wired to
abbrev pub wire_at : ℕ → ℕ → ModulePlan → Option Wire
wire_at kind identity row =
    if row.kind == kind
    then option_map (λ pin. record { address = row.address; kind = kind; pin = pin }) (position (is_wired_to identity) row.pins)
    else None

-- the one of the first of these modules that has one
abbrev pub wire_among : List ModulePlan → ℕ → ℕ → Option Wire
wire_among [] kind identity = None
wire_among (row ∷ rows) kind identity = first_wire (wire_at kind identity row) (wire_among rows kind identity)
  where
    first_wire : Option Wire → Option Wire → Option Wire
    first_wire (Some wire) others = Some wire
    first_wire None others = others

-- the kind of the modules at which such an event happens
abbrev pub module_kind_of : EventWord → ℕ
module_kind_of event.Occupy = track_kind
module_kind_of event.Clear = track_kind
module_kind_of event.Fail = signal_kind
module_kind_of event.Mend = signal_kind
module_kind_of event.Jam = points_kind
module_kind_of event.Unjam = points_kind

-- the event, at a pin
abbrev pub event_at : EventWord → ℕ → Event
event_at event.Occupy pin = at.Occupy pin
event_at event.Clear pin = at.Clear pin
event_at event.Fail pin = at.Fail pin
event_at event.Mend pin = at.Mend pin
event_at event.Jam pin = at.Jam pin
event_at event.Unjam pin = at.Unjam pin

-- an event at the pin that an identity is wired to
abbrev pub step_at_wire : EventWord → Wire → ScriptStep
step_at_wire word wire = step.Happen wire.address wire.kind (event_at word wire.pin)

-- what happens to the identity that a token names. In a well layout each is wired.
abbrev pub event_step : Plan → EventWord → Token → Result ℕ ScriptFault → Result ScriptStep ScriptFault
event_step plan word token (Err fault) = Err fault
event_step plan word token (Ok identity) =
    with_found (step_at_wire word) (or_fault (fault_of fault_codes.unknown token) (wire_among plan.modules (module_kind_of word) identity))

-- what a word does to a module
abbrev pub module_step : ModuleWord → ModulePlan → ScriptStep
module_step becomes.Dead row = step.Happen row.address row.kind at.Dead
module_step becomes.Live row = step.Happen row.address row.kind at.Live
module_step becomes.Lose row = step.Lose row.address
module_step becomes.Drop row = step.Drop row.address

-- The step in a layout, behind steps that made so many minor cycles; or its fault.
abbrev pub step_of : Plan → List ℕ → ℕ → StepTree → Result ScriptStep ScriptFault
step_of plan text made (tree.Panel panel request) = with_found (step.Panel panel) (identity_named plan text Request request)
step_of plan text made (tree.Cycle count token) =
    if nat_lt most_cycles (made + count) then Err (fault_of fault_codes.too_many_cycles token) else Ok (step.Cycle count)
step_of plan text made (tree.Happen word name) = event_step plan word name (identity_named plan text (wired_kind (module_kind_of word)) name)
step_of plan text made (tree.Module word address token) = with_found (module_step word) (module_told plan address token)
step_of plan text made (tree.Raw address token bytes) = with_found (λ row. step.Raw row.address bytes) (module_told plan address token)

-- how many minor cycles a step makes
abbrev pub cycles_of : ScriptStep → ℕ
cycles_of (step.Panel panel request) = 0
cycles_of (step.Cycle count) = count
cycles_of (step.Happen address kind event) = 0
cycles_of (step.Raw address bytes) = 0
cycles_of (step.Lose address) = 0
cycles_of (step.Drop address) = 0

-- and how many some steps make
abbrev pub cycles_in : List ScriptStep → ℕ
cycles_in [] = 0
cycles_in (step ∷ steps) = cycles_of step + cycles_in steps

-- an address that a module of the layout has
abbrev pub IsAddressIn : Plan → ℕ → Type 0
IsAddressIn plan address = (row : ModulePlan) × (module_in plan address ≡ Some row)

-- The step can be done on the layout: its panel is 0 and its request is one of the layout, or it concerns a module of the layout, by address and kind.
abbrev pub IsStepOf : Plan → ScriptStep → Type 0
IsStepOf plan (step.Panel panel request) = (panel ≡ 0) × (request < length plan.requests)
IsStepOf plan (step.Cycle count) = Unit {0}
IsStepOf plan (step.Happen address kind event) = option_map (λ row. row.kind) (module_in plan address) ≡ Some kind
IsStepOf plan (step.Raw address bytes) = IsAddressIn plan address
IsStepOf plan (step.Lose address) = IsAddressIn plan address
IsStepOf plan (step.Drop address) = IsAddressIn plan address
