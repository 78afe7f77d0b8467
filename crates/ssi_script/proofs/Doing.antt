-- Steps that were read can be done on the layout, and make no more minor cycles than they may.
use Rattle.std.proofs.Common.{◌≡◌, ℕ, zero, suc, ◌+◌, ◌<◌, ◌≤◌, Bool, true, false, List, [], ◌∷◌, length, map, Option, Some, None, Result, Ok, Err, option_map, refl, sym, ap, subst, ◌∙◌, arith}
use Rattle.std.specs.Prelude.{All, ◌==◌, if◌then◌else◌, nat_lt, option_and_then, position, slice_get, take}
use Rattle.std.specs.List.{AllByRecursion, IsDistinct, position_or_len}
use Rattle.std.specs.Str.{bytes_eq}
use Rattle.std.proofs.lemmas.Bool.Decides.{nat_tests}
use Rattle.std.proofs.lemmas.List.{length-map}
use Rattle.std.proofs.lemmas.List.Elements.{All-cons, All-nil}
use Rattle.std.proofs.lemmas.List.Quantifiers.{position-Some}
use Rattle.std.proofs.lemmas.Map.Keys.{IsDistinct-head, IsDistinct-tail}
use Rattle.std.proofs.lemmas.Option.{slice_get_within}
use Rattle.ssi_lexer.specs.declared.token.TextEnd.{TextEnd}
use Rattle.ssi_lexer.specs.declared.token.Token.{Token}
use Rattle.ssi_lexer.specs.Lexemes.{Lexeme, characters_at}
use Rattle.ssi_lexer.specs.Parsers.{Outcome}
use Rattle.ssi_lexer.specs.Readings.{Reading}
use Rattle.ssi_identities.specs.declared.data_set.RequestRow.{RequestRow}
use Rattle.ssi_identities.specs.declared.fact.Kind.TheVariants.{Request}
use Rattle.ssi_identities.specs.DataSets.{ModulePlan, Plan, names_in, module_with}
use Rattle.ssi_identities.specs.IdentityNames.{letter_of}
use Rattle.ssi_identities.specs.NameLists.{number_of}
use Rattle.ssi_identities.specs.Wells.{IsWell, is_wired_to, wired_kind}
use Rattle.ssi_cycle.specs.Exchanges.{module_in}
use Rattle.ssi_script.specs.declared.step.EventWord.{EventWord}
use Rattle.ssi_script.specs.declared.step.ModuleWord.{ModuleWord}
use Rattle.ssi_script.specs.declared.step.ModuleWord.TheVariants as becomes
use Rattle.ssi_script.specs.declared.step.ScriptFault.{ScriptFault}
use Rattle.ssi_script.specs.declared.step.ScriptStep.{ScriptStep}
use Rattle.ssi_script.specs.declared.step.ScriptStep.TheVariants as step
use Rattle.ssi_script.specs.declared.step.StepTree.{StepTree}
use Rattle.ssi_script.specs.declared.step.StepTree.TheVariants as tree
use Rattle.ssi_script.specs.Meanings.{IsStepOf, Wire, cycles_in, cycles_of, event_step, fault_of, identity_named, module_kind_of, module_step, module_told, most_cycles, or_fault, step_at_wire, step_of, wire_among, wire_at, with_found}
use Rattle.ssi_script.specs.Scripts.{AreSteps, IsScript, a_fault, a_script, no_header, no_step, the_end}
use Rattle.ssi_script.specs.Scripts as script
use Rattle.ssi_script.specs.StepReading.{IsNext, IsNextBy, a_step}
use Rattle.ssi_script.specs.Steps.{SpellsStep}
use Rattle.ssi_script.specs.Steps as steps

-- ---- what was found

-- what a function made of something that was found
record Made (A B : Type 0) (f : A → B) (r : Result A ScriptFault) (y : B) : Type 0 where
  x : A
  found : r ≡ Ok x
  is : y ≡ f x

made_of : (A B : Type 0) (f : A → B) (r : Result A ScriptFault) (y : B) → with_found f r ≡ Ok y → Made A B f r y
made_of A B f (Ok x) y e = record { x = x; found = refl; is = cc }
made_of A B f (Err fault) y e = absurd cc

found_is : (A : Type 0) (fault : ScriptFault) (o : Option A) (x : A) → or_fault fault o ≡ Ok x → o ≡ Some x
found_is A fault None x e = absurd cc
found_is A fault (Some y) x e = cc

-- ---- minor cycles

no_cycles : (word : ModuleWord) (row : ModulePlan) → cycles_of (module_step word row) ≡ 0
no_cycles becomes.Dead row = refl
no_cycles becomes.Live row = refl
no_cycles becomes.Lose row = refl
no_cycles becomes.Drop row = refl

cycles_by : (b : Bool) (fault : ScriptFault) (made count : ℕ) (s : ScriptStep) → nat_lt most_cycles (made + count) ≡ b → (if b then Err fault else Ok (step.Cycle count)) ≡ Ok s → made + cycles_of s ≤ most_cycles
cycles_by true fault made count s past e = absurd cc
cycles_by false fault made count s past e =
    let same : s ≡ step.Cycle count = cc in
    let few : made + count ≤ most_cycles = grind (arith, nat_tests) in
    omega (arith, few, ap cycles_of same)

none_by : (made : ℕ) (s : ScriptStep) → made ≤ most_cycles → cycles_of s ≡ 0 → made + cycles_of s ≤ most_cycles
none_by made s few none = omega (arith, few, none)

event_cycles : (plan : Plan) (word : EventWord) (name : Token) (r : Result ℕ ScriptFault) (s : ScriptStep) → event_step plan word name r ≡ Ok s → cycles_of s ≡ 0
event_cycles plan word name (Err fault) s e = absurd cc
event_cycles plan word name (Ok identity) s e = let m = made_of Wire ScriptStep (step_at_wire word) _ s e in ap cycles_of m.is

module _ (plan : Plan) (text : List ℕ) where
  -- a step makes no more minor cycles than are left
  pub step_within : (made : ℕ) (t : StepTree) (s : ScriptStep) → made ≤ most_cycles → step_of plan text made t ≡ Ok s → made + cycles_of s ≤ most_cycles
  step_within made (tree.Panel panel request) s few e = let m = made_of ℕ ScriptStep (step.Panel panel) _ s e in none_by made s few (ap cycles_of m.is)
  step_within made (tree.Cycle count token) s few e = cycles_by (nat_lt most_cycles (made + count)) _ made count s refl e
  step_within made (tree.Happen word name) s few e = none_by made s few (event_cycles plan word name _ s e)
  step_within made (tree.Module word address token) s few e =
      let m = made_of ModulePlan ScriptStep (module_step word) _ s e in
      none_by made s few (ap cycles_of m.is ∙ no_cycles word m.x)
  step_within made (tree.Raw address token bytes) s few e = let m = made_of ModulePlan ScriptStep (λ row. step.Raw row.address bytes) _ s e in none_by made s few (ap cycles_of m.is)

  steps_within : (made : ℕ) (left : List Lexeme) (end : TextEnd) (ss : List ScriptStep) (fault : Option ScriptFault) → made ≤ most_cycles → AreSteps plan text made left end ss fault → made + cycles_in ss ≤ most_cycles
  steps_within made left end ss fault few (the_end m e at) = omega (arith, few)
  steps_within made left end ss fault few (script.a_step m used rest e t s others f spells is are) =
      let more = step_within m t s few is in
      omega (arith, steps_within (m + cycles_of s) rest e others f more are)
  steps_within made left end ss fault few (a_fault m used rest e t f spells is) = omega (arith, few)
  steps_within made left end ss fault few (no_step m ts e place more misspelled) = omega (arith, few)

  pub script_within : (left : List Lexeme) (end : TextEnd) (ss : List ScriptStep) (fault : Option ScriptFault) → IsScript plan text left end ss fault → cycles_in ss ≤ most_cycles
  script_within left end ss fault (a_script used rest e s f spells are) = omega (arith, steps_within 0 rest e s f (omega arith) are)
  script_within left end ss fault (no_header ts e place misspelled) = omega arith

-- ---- modules and their addresses

apart_from : (address number : ℕ) (row : ModulePlan) (rows : List ModulePlan) → AllByRecursion (λ other. (address == other) ≡ false) (map (λ row. row.address) rows) → slice_get rows number ≡ Some row → (address == row.address) ≡ false
apart_from address number row [] all there = absurd cc
apart_from address zero row (r ∷ rows) all there = let same : r ≡ row = cc in subst (λ (m : ModulePlan). (address == m.address) ≡ false) same all.0
apart_from address (suc number) row (r ∷ rows) all there = apart_from address number row rows all.1 there

abbrev address_of : ModulePlan → ℕ
address_of row = row.address

first_of : (number : ℕ) (row : ModulePlan) (rows : List ModulePlan) → IsDistinct (λ a b. a == b) (map address_of rows) → slice_get rows number ≡ Some row → position_or_len (λ r. r.address == row.address) rows ≡ number
first_of number row [] differ there = absurd cc
first_of zero row (r ∷ rows) differ there =
    let same : r ≡ row = cc in
    let its : (r.address == row.address) ≡ true = rw same (grind (arith, nat_tests)) in
    rw its refl
first_of (suc number) row (r ∷ rows) differ there =
    let apart = apart_from r.address number row rows (IsDistinct-head (λ a b. a == b) r.address (map address_of rows) differ) there in
    let later = first_of number row rows (IsDistinct-tail (λ a b. a == b) r.address (map address_of rows) differ) there in
    rw (apart, later) (omega arith)

-- the module of its address is itself
own_address : (plan : Plan) (number : ℕ) (row : ModulePlan) → IsWell plan → slice_get plan.modules number ≡ Some row → module_in plan row.address ≡ Some row
own_address plan number row well there =
    let first = first_of number row plan.modules well.wiring.addresses there in
    let within : nat_lt number (length plan.modules) ≡ true = grind (arith, nat_tests, slice_get_within plan.modules number row there) in
    let found : module_with plan row.address ≡ Some number = rw (first, within) refl in
    ap (option_and_then (slice_get plan.modules)) found ∙ there

-- a module that is found at an address has it
address_by : (plan : Plan) (address : ℕ) (row : ModulePlan) (o : Option ℕ) → IsWell plan → module_with plan address ≡ o → option_and_then (slice_get plan.modules) o ≡ Some row → module_in plan row.address ≡ Some row
address_by plan address row None well at e = absurd cc
address_by plan address row (Some number) well at e = own_address plan number row well e

at_address : (plan : Plan) (address : ℕ) (row : ModulePlan) → IsWell plan → module_in plan address ≡ Some row → module_in plan row.address ≡ Some row
at_address plan address row well e = address_by plan address row (module_with plan address) well refl e

-- ---- wires

-- the wire is that of a module of the kind
record WireOf (rows : List ModulePlan) (kind : ℕ) (wire : Wire) : Type 0 where
  number : ℕ
  row : ModulePlan
  there : slice_get rows number ≡ Some row
  address_is : wire.address ≡ row.address
  kind_is : wire.kind ≡ row.kind

abbrev wire_of : ℕ → ModulePlan → ℕ → Wire
wire_of kind row pin = record { address = row.address; kind = kind; pin = pin }

wire_pin : (kind : ℕ) (row : ModulePlan) (wire : Wire) (o : Option ℕ) → option_map (wire_of kind row) o ≡ Some wire → (wire.address ≡ row.address) × (wire.kind ≡ kind)
wire_pin kind row wire None e = absurd cc
wire_pin kind row wire (Some pin) e =
    let same : wire_of kind row pin ≡ wire = cc in
    (ap (λ (w : Wire). w.address) (sym same), ap (λ (w : Wire). w.kind) (sym same))

wire_here : (kind identity : ℕ) (row : ModulePlan) (rows : List ModulePlan) (wire : Wire) (b : Bool) → (row.kind == kind) ≡ b
    → (if b then option_map (wire_of kind row) (position (is_wired_to identity) row.pins) else None) ≡ Some wire → WireOf (row ∷ rows) kind wire
wire_here kind identity row rows wire true own e =
    let is = wire_pin kind row wire (position (is_wired_to identity) row.pins) e in
    let same : row.kind ≡ kind = grind (arith, nat_tests) in
    record { number = 0; row = row; there = refl; address_is = is.0; kind_is = is.1 ∙ sym same }
wire_here kind identity row rows wire false own e = absurd cc

wire_by : (kind identity : ℕ) (row : ModulePlan) (rows : List ModulePlan) (wire : Wire) → (wire_among rows kind identity ≡ Some wire → WireOf rows kind wire) → (o : Option Wire) → wire_at kind identity row ≡ o
    → wire_among (row ∷ rows) kind identity ≡ Some wire → WireOf (row ∷ rows) kind wire
wire_by kind identity row rows wire later (Some first) at e =
    let found : Some first ≡ Some wire = rw at at e in
    wire_here kind identity row rows wire (row.kind == kind) refl (at ∙ found)
wire_by kind identity row rows wire later None at e =
    let more = later (rw at at e) in
    record { number = suc more.number; row = more.row; there = more.there; address_is = more.address_is; kind_is = more.kind_is }

wire_from : (kind identity : ℕ) (rows : List ModulePlan) (wire : Wire) → wire_among rows kind identity ≡ Some wire → WireOf rows kind wire
wire_from kind identity [] wire e = absurd cc
wire_from kind identity (row ∷ rows) wire e = wire_by kind identity row rows wire (wire_from kind identity rows wire) (wire_at kind identity row) refl e

-- ---- what can be done

named_by : (names : List (List ℕ)) (name : List ℕ) (fault wrong : ScriptFault) (n : ℕ) (b : Bool) → (if b then or_fault fault (number_of names name) else Err wrong) ≡ Ok n → n < length names
named_by names name fault wrong n true e = (position-Some (bytes_eq name) names n [] (found_is ℕ fault (number_of names name) n e)).0
named_by names name fault wrong n false e = absurd cc

-- a step is on panel 0
abbrev IsOnPanel : StepTree → Type 0
IsOnPanel (tree.Panel panel request) = panel ≡ 0
IsOnPanel _ = Unit {0}

on_panel : (t : StepTree) (u : List Lexeme) → SpellsStep t u → IsOnPanel t
on_panel t u (steps.a_put w p q d e h m i) = refl
on_panel t u (steps.some_cycles w n d count e some h m) = tt
on_panel t u (steps.an_event w q d what e m i) = tt
on_panel t u (steps.at_a_module w a d what address e h m) = tt
on_panel t u (steps.four_bytes w a b c e f d address first second third fourth g h i j l m n) = tt

module _ (plan : Plan) (well : IsWell plan) where
  module_can : (word : ModuleWord) (row : ModulePlan) → module_in plan row.address ≡ Some row → IsStepOf plan (module_step word row)
  module_can becomes.Dead row e = ap (option_map (λ r. r.kind)) e
  module_can becomes.Live row e = ap (option_map (λ r. r.kind)) e
  module_can becomes.Lose row e = (row, e)
  module_can becomes.Drop row e = (row, e)

  told_row : (address : ℕ) (token : Token) (row : ModulePlan) → module_told plan address token ≡ Ok row → module_in plan row.address ≡ Some row
  told_row address token row e = at_address plan address row well (found_is ModulePlan (fault_of 2 token) (module_in plan address) row e)

  event_can : (word : EventWord) (name : Token) (r : Result ℕ ScriptFault) (s : ScriptStep) → event_step plan word name r ≡ Ok s → IsStepOf plan s
  event_can word name (Err fault) s e = absurd cc
  event_can word name (Ok identity) s e =
      let m = made_of Wire ScriptStep (step_at_wire word) (or_fault (fault_of 2 name) (wire_among plan.modules (module_kind_of word) identity)) s e in
      let from = wire_from (module_kind_of word) identity plan.modules m.x (found_is Wire (fault_of 2 name) (wire_among plan.modules (module_kind_of word) identity) m.x m.found) in
      let at : module_in plan m.x.address ≡ Some from.row = ap (module_in plan) from.address_is ∙ own_address plan from.number from.row well from.there in
      subst (IsStepOf plan) (sym m.is) (ap (option_map (λ r. r.kind)) at ∙ ap Some (sym from.kind_is))

  module _ (text : List ℕ) where
    step_can : (made : ℕ) (t : StepTree) (s : ScriptStep) → IsOnPanel t → step_of plan text made t ≡ Ok s → IsStepOf plan s
    step_can made (tree.Panel panel request) s on e =
        let m = made_of ℕ ScriptStep (step.Panel panel) (identity_named plan text Request request) s e in
        let name = characters_at text request.start request.len in
        let within = named_by (names_in plan Request) name (fault_of 2 request) (fault_of 3 request) m.x (bytes_eq (take 1 name) (letter_of Request)) m.found in
        subst (IsStepOf plan) (sym m.is) (on, omega (arith, within, length-map plan.requests (λ (row : RequestRow). row.name)))
    step_can made (tree.Cycle count token) s on e = cycle_can (nat_lt most_cycles (made + count)) e
      where
        cycle_can : (b : Bool) → (if b then Err (fault_of 4 token) else Ok (step.Cycle count)) ≡ Ok s → IsStepOf plan s
        cycle_can true e = absurd cc
        cycle_can false e = let same : step.Cycle count ≡ s = cc in subst (IsStepOf plan) same tt
    step_can made (tree.Happen word name) s on e = event_can word name (identity_named plan text (wired_kind (module_kind_of word)) name) s e
    step_can made (tree.Module word address token) s on e =
        let m = made_of ModulePlan ScriptStep (module_step word) (module_told plan address token) s e in
        subst (IsStepOf plan) (sym m.is) (module_can word m.x (told_row address token m.x m.found))
    step_can made (tree.Raw address token bytes) s on e =
        let m = made_of ModulePlan ScriptStep (λ row. step.Raw row.address bytes) (module_told plan address token) s e in
        subst (IsStepOf plan) (sym m.is) (m.x, told_row address token m.x m.found)

    steps_can : (made : ℕ) (left : List Lexeme) (end : TextEnd) (ss : List ScriptStep) (fault : Option ScriptFault) → AreSteps plan text made left end ss fault → All (IsStepOf plan) ss
    steps_can made left end ss fault (the_end m e at) = All-nil (IsStepOf plan)
    steps_can made left end ss fault (script.a_step m used rest e t s others f spells is are) =
        All-cons (IsStepOf plan) s others (step_can m t s (on_panel t used spells) is) (steps_can (m + cycles_of s) rest e others f are)
    steps_can made left end ss fault (a_fault m used rest e t f spells is) = All-nil (IsStepOf plan)
    steps_can made left end ss fault (no_step m ts e place more misspelled) = All-nil (IsStepOf plan)

    pub script_can : (left : List Lexeme) (end : TextEnd) (ss : List ScriptStep) (fault : Option ScriptFault) → IsScript plan text left end ss fault → All (IsStepOf plan) ss
    script_can left end ss fault (a_script used rest e s f spells are) = steps_can 0 rest e s f are
    script_can left end ss fault (no_header ts e place misspelled) = All-nil (IsStepOf plan)

-- ---- the next step

next_by : (plan : Plan) (made : ℕ) (old new : Reading) (s : ScriptStep) (o : Outcome StepTree) → made ≤ most_cycles → IsNextBy plan made old new o (Ok s) → made + cycles_of s ≤ most_cycles
next_by plan made old new s (Err halt) few next = absurd cc
next_by plan made old new s (Ok r) few next = step_within plan old.text made r.0 s few (sym next.1)

pub next_within : (plan : Plan) (made : ℕ) (old new : Reading) (s : ScriptStep) → made ≤ most_cycles → IsNext plan made old new (Ok s) → made + cycles_of s ≤ most_cycles
next_within plan made old new s few next = next_by plan made old new s (a_step old.left) few next
