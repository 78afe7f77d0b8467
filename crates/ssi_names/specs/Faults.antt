-- The faults of the names, words and numbers of a source, in written order. Each occurrence has a line of codes,
-- of which the first counts whose test applies; 'earlier' are the entries, or the names of an entry, before it.
use Rattle.std.specs.Prelude.{ℕ, Bool, not, ◌||◌, ◌==◌, nat_le, List, [], ◌∷◌, ◌++◌, map, length}
use Rattle.ssi_identities.specs.declared.fact.Kind.{Kind}
use Rattle.ssi_identities.specs.declared.fact.Kind.TheVariants.{Points, Signal, Track, Subroute}
use Rattle.ssi_identities.specs.Wells.{wired_kind, pin_count}
use Rattle.ssi_terms.specs.declared.tree.Spot.{Spot}
use Rattle.ssi_names.specs.declared.fault.Fault.{Fault}
use Rattle.ssi_names.specs.declared.rule_file.RuleFile.TheVariants.{Requests, Moves, Statements, Outputs, Inputs}
use Rattle.ssi_names.specs.Codes.{unknown, twice, block_twice, bad_pin, not_wired, wired_twice, too_many, points_twice_in_subroute}
use Rattle.ssi_terms.specs.Trees.{PointsText, RouteText, SubText, ModuleText, IdentityText}
use Rattle.ssi_terms.specs.declared.tree.BodyTree.{BodyTree}
use Rattle.ssi_terms.specs.declared.tree.CondTree.{CondTree}
use Rattle.ssi_pfm.specs.Rules.{RulesText}
use Rattle.ssi_fop.specs.Statements.{StatementText, StatementsText}
use Rattle.ssi_opt.specs.Outputs.{OutputText, OutputsText}
use Rattle.ssi_ipt.specs.Inputs.{InputsText}
use Rattle.ssi_names.specs.SourceTexts.{SourceText}
use Rattle.ssi_names.specs.Bodies.{cond_faults, commands_faults, body_faults}
use Rattle.ssi_names.specs.NameLists.{is_among}
use Rattle.ssi_names.specs.Texts.{characters, is_number_among}
use Rattle.ssi_names.specs.Texts as texts
use Rattle.ssi_names.specs.Occurrences.{at, in_order}
use Rattle.ssi_names.specs.Words.{module_kind_of}
use Rattle.ssi_names.specs.Declarations.{Declared, declared_in, pins_of, names_at, is_reverse, points_with_rules}

-- by what is declared
module _ (declared : Declared) where
  -- what stands at a place, and the number there
  abbrev written : Spot → List ℕ
  written spot = characters declared.text spot

  abbrev number : Spot → ℕ
  number spot = texts.number declared.text spot

  -- a name declared in PTS, SIG or TCS: an earlier entry declares it; as many entries stand before it as the limit; no module names it
  abbrev pub wired_name_faults : {X : Type 0} → (X → Spot) → ℕ → List X → X → List Fault
  wired_name_faults name_of limit earlier entry =
      at (name_of entry) (
      (is_among (written (name_of entry)) (map (λ e. written (name_of e)) earlier), twice)
      ∷ (nat_le limit (length earlier), too_many)
      ∷ (not (declared.is_wired (written (name_of entry))), not_wired) ∷ [])

  -- a name declared in RTE, SUB or FLG: an earlier entry declares it; as many entries stand before it as the limit
  abbrev pub name_faults : {X : Type 0} → (X → Spot) → ℕ → List X → X → List Fault
  name_faults name_of limit earlier entry =
      at (name_of entry) (
      (is_among (written (name_of entry)) (map (λ e. written (name_of e)) earlier), twice)
      ∷ (nat_le limit (length earlier), too_many) ∷ [])

  -- a track in PTS, a sub-route in RTE: not declared; as many stand before it in the entry as the limit
  abbrev pub member_faults : Kind → ℕ → List Spot → Spot → List Fault
  member_faults kind limit earlier name =
      at name ((not (declared.is_declared kind (written name)), unknown) ∷ (nat_le limit (length earlier), too_many) ∷ [])

  -- points in SUB: not declared; named earlier in the entry; as many stand before them in the entry as the limit
  abbrev pub lie_faults : List (Spot × Spot) → Spot × Spot → List Fault
  lie_faults earlier lie =
      at lie.0 (
      (not (declared.is_declared Points (written lie.0)), unknown)
      ∷ (is_among (written lie.0) (map (λ e. written e.0) earlier), points_twice_in_subroute)
      ∷ (nat_le 8 (length earlier), too_many) ∷ [])

  -- the signal of a route, the track of a sub-route: not declared
  abbrev pub reference_faults : Kind → Spot → List Fault
  reference_faults kind name = at name ((not (declared.is_declared kind (written name)), unknown) ∷ [])

  -- the address of a module: not 1 to 63; an earlier entry has it
  abbrev pub address_faults : List ModuleText → ModuleText → List Fault
  address_faults earlier entry =
      at entry.address (
      (number entry.address == 0 || nat_le 64 (number entry.address), bad_pin)
      ∷ (is_number_among (number entry.address) (map (λ e. number e.address) earlier), twice) ∷ [])

  -- a name in TFM: not declared; named earlier in TFM, in an entry before or in this one
  abbrev pub pin_name_faults : Kind → (List ℕ → Bool) → List (Spot × Spot) → Spot × Spot → List Fault
  pin_name_faults kind is_named earlier pin =
      at pin.0 (
      (not (declared.is_declared kind (written pin.0)), unknown)
      ∷ (is_named (written pin.0) || is_among (written pin.0) (names_at declared.text earlier), wired_twice) ∷ [])

  -- a pin in TFM: too large for the module's kind, or used earlier in the entry
  abbrev pub pin_number_faults : ℕ → List (Spot × Spot) → Spot × Spot → List Fault
  pin_number_faults count earlier pin =
      at pin.1 ((nat_le count (number pin.1) || is_number_among (number pin.1) (map (λ e. number e.1) earlier), bad_pin) ∷ [])

  -- a name and its pin in TFM
  abbrev pub pin_faults : Kind → ℕ → (List ℕ → Bool) → List (Spot × Spot) → Spot × Spot → List Fault
  pin_faults kind count is_named earlier pin = pin_name_faults kind is_named earlier pin ++ pin_number_faults count earlier pin

  -- an entry of PTS
  abbrev pub points_faults : List PointsText → PointsText → List Fault
  points_faults earlier points =
      wired_name_faults (λ (e : PointsText). e.name) 126 earlier points ++ in_order (member_faults Track 4) [] points.tracks

  -- an entry of SIG
  abbrev pub signal_faults : List Spot → Spot → List Fault
  signal_faults earlier signal = wired_name_faults (λ (e : Spot). e) 504 earlier signal

  -- an entry of TCS
  abbrev pub track_faults : List Spot → Spot → List Fault
  track_faults earlier track = wired_name_faults (λ (e : Spot). e) 504 earlier track

  -- an entry of RTE
  abbrev pub route_faults : List RouteText → RouteText → List Fault
  route_faults earlier route =
      name_faults (λ (e : RouteText). e.name) 512 earlier route
      ++ (reference_faults Signal route.signal ++ in_order (member_faults Subroute 32) [] route.subs)

  -- an entry of SUB
  abbrev pub sub_faults : List SubText → SubText → List Fault
  sub_faults earlier sub =
      name_faults (λ (e : SubText). e.name) 1024 earlier sub ++ (reference_faults Track sub.track ++ in_order lie_faults [] sub.lies)

  -- an entry of FLG
  abbrev pub flag_faults : List Spot → Spot → List Fault
  flag_faults earlier flag = name_faults (λ (e : Spot). e) 512 earlier flag

  -- whether a pin of these entries has the name
  abbrev pub is_named_by : List ModuleText → List ℕ → Bool
  is_named_by modules name = is_among name (names_at declared.text (pins_of modules))

  -- an entry of TFM
  abbrev pub module_faults : List ModuleText → ModuleText → List Fault
  module_faults earlier entry =
      let kind = module_kind_of (written entry.kind) in
      address_faults earlier entry ++ in_order (pin_faults (wired_kind kind) (pin_count kind) (is_named_by earlier)) [] entry.pins

  -- a request's name: an earlier entry has it; as many entries stand before it as the limit
  abbrev pub request_name_faults : List (Spot × BodyTree) → Spot → List Fault
  request_name_faults earlier name =
      at name (
      (is_among (written name) (map (λ e. written e.0) earlier), block_twice)
      ∷ (nat_le 1024 (length earlier), too_many) ∷ [])

  -- an entry of PRR
  abbrev pub request_faults : List (Spot × BodyTree) → Spot × BodyTree → List Fault
  request_faults earlier request = request_name_faults earlier request.0 ++ body_faults declared Requests request.1

  -- an entry of PFM: points that aren't declared; an earlier entry has the same points and lie; and its condition
  abbrev pub move_faults : RulesText → Spot × Spot × CondTree → List Fault
  move_faults earlier rule =
      at rule.0 (
      (not (declared.is_declared Points (written rule.0)), unknown)
      ∷ (is_among (written rule.0) (points_with_rules declared.text earlier (is_reverse declared.text rule.1)), block_twice) ∷ [])
      ++ cond_faults declared Moves rule.2

  -- an entry of FOP: its first name has a fault too where as many entries stand before it as the limit
  abbrev pub statement_faults : StatementsText → StatementText → List Fault
  statement_faults earlier statement =
      commands_faults declared Statements ((nat_le 4096 (length earlier), too_many) ∷ []) statement.commands
      ++ cond_faults declared Statements statement.guard

  -- an address in OPT and IPT: no module has it; an earlier entry of the file has it
  abbrev pub block_address_faults : List Spot → Spot → List Fault
  block_address_faults earlier address =
      at address (
      (not (declared.has_module (written address)), unknown)
      ∷ (is_among (written address) (map (λ other. written other) earlier), block_twice) ∷ [])

  -- a bit in OPT: above 7, or used earlier in the entry; and its condition
  abbrev pub output_bit_faults : List (Spot × CondTree) → Spot × CondTree → List Fault
  output_bit_faults earlier bit =
      at bit.0 ((nat_le 8 (number bit.0) || is_number_among (number bit.0) (map (λ e. number e.0) earlier), bad_pin) ∷ [])
      ++ cond_faults declared Outputs bit.1

  -- an entry of OPT
  abbrev pub output_faults : OutputsText → OutputText → List Fault
  output_faults earlier entry =
      block_address_faults (map (λ e. e.address) earlier) entry.address ++ in_order output_bit_faults [] entry.bits

  -- an entry of IPT
  abbrev pub input_faults : InputsText → Spot × BodyTree → List Fault
  input_faults earlier entry = block_address_faults (map (λ e. e.0) earlier) entry.0 ++ body_faults declared Inputs entry.1

  -- the faults of the files of identities in their order
  abbrev pub identity_faults : IdentityText → List Fault
  identity_faults tree =
      in_order points_faults [] tree.points ++ in_order signal_faults [] tree.signals ++ in_order track_faults [] tree.tracks
      ++ in_order route_faults [] tree.routes ++ in_order sub_faults [] tree.subs ++ in_order flag_faults [] tree.flags
      ++ in_order module_faults [] tree.modules

  -- the faults of the files of rules in their order
  abbrev pub rule_faults : SourceText → List Fault
  rule_faults tree =
      in_order request_faults [] tree.requests ++ in_order move_faults [] tree.free ++ in_order statement_faults [] tree.statements
      ++ in_order output_faults [] tree.outputs ++ in_order input_faults [] tree.inputs

  -- the faults of all files in their order
  abbrev pub faults_by : SourceText → List Fault
  faults_by tree = identity_faults tree.identities ++ rule_faults tree

-- all name faults of a source, in written order
abbrev pub faults_of : List ℕ → SourceText → List Fault
faults_of text tree = faults_by (declared_in text tree) tree
