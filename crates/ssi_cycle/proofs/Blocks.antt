-- Each deed of a minor cycle is one of the data set.
use Rattle.std.proofs.Common.{◌≡◌, ℕ, ◌*◌, ◌<◌, ◌&&◌, Bool, true, false, nat_lt, List, [], ◌++◌, drop, get_or, length, Option, Some, None, refl, subst, arith}
use Rattle.std.specs.Prelude.{All, Contains, if◌then◌else◌, option_and_then, slice_get, slice_index}
use Rattle.std.specs.Str.{bytes_eq}
use Rattle.std.proofs.lemmas.Bool.Decides.{nat_tests}
use Rattle.std.proofs.lemmas.List.Elements.{All-append, All-cons, All-drop, All-from_get_or, All-map, All-nil, All-take, Contains-get_or}
use Rattle.std.proofs.lemmas.Option.{get_or_from_slice_get, slice_get_within}
use Rattle.ssi_identities.specs.declared.data_set.RequestRow.{RequestRow}
use Rattle.ssi_identities.specs.declared.rule.Body.{Body}
use Rattle.ssi_identities.specs.DataSets.{Plan, ModulePlan}
use Rattle.ssi_identities.specs.DataSets.{module_with}
use Rattle.ssi_telegrams.specs.Telegram.{report_telegram_of}
use Rattle.ssi_cycle.specs.Blocks.{IsDeedOf}
use Rattle.ssi_cycle.specs.Blocks.IsBlockOf.{input, statement, request}
use Rattle.ssi_cycle.specs.Deeds.Deed.{Acts, Restricts}
use Rattle.ssi_cycle.specs.Exchanges.{Arrival, deeds_of_arrival, deeds_of_exchange, deeds_of_input, heard_from, module_in}
use Rattle.ssi_cycle.specs.Requests.{deeds_of_request, deeds_of_row}
use Rattle.ssi_cycle.specs.Statements.{deed_of_statement, deeds_of_statements, share_of, statements_in}
use Rattle.ssi_cycle.specs.Worlds.{World, deeds_of, taken_in}
use Rattle.ssi_cycle.proofs.Slots.{no_statement}

-- what stands in a list by its place is one of it
stands : {X : Type 0} (xs : List X) (i : ℕ) (x : X) → slice_get xs i ≡ Some x → Contains xs x
stands xs i x there = subst (Contains xs) (get_or_from_slice_get xs i x x there) (Contains-get_or xs i x (slice_get_within xs i x there))

-- a byte that was reported is below 256
byte_by : (value byte : ℕ) (small same : Bool) → nat_lt value 256 ≡ small → (if small && same then Some value else None) ≡ Some byte → byte < 256
byte_by value byte true true below is =
    let one : value ≡ byte = cc in
    let within : value < 256 = grind (arith, nat_tests) in
    omega arith
byte_by value byte true false below is = absurd cc
byte_by value byte false same below is = absurd cc

heard_below : (address : ℕ) (arrived : Arrival) (byte : ℕ) → heard_from address arrived ≡ Some byte → byte < 256
heard_below address None byte is = absurd cc
heard_below address (Some bytes) byte is =
    let value = slice_index bytes 1 in
    byte_by value byte (nat_lt value 256) (bytes_eq bytes (report_telegram_of address value)) refl is

module _ (plan : Plan) where
  input_deeds : (row : ModulePlan) (body : Option Body) (byte : ℕ) → Contains plan.modules row → row.input ≡ body → byte < 256 → All (IsDeedOf plan) (deeds_of_input body byte)
  input_deeds row None byte there is small = All-nil (IsDeedOf plan)
  input_deeds row (Some body) byte there is small = All-cons (IsDeedOf plan) (Acts body byte) [] (input row body there is, small) (All-nil (IsDeedOf plan))

  exchange_deeds : (row : Option ModulePlan) (heard : Option ℕ) → ((found : ModulePlan) → row ≡ Some found → Contains plan.modules found) → ((byte : ℕ) → heard ≡ Some byte → byte < 256)
      → All (IsDeedOf plan) (deeds_of_exchange row heard)
  exchange_deeds None heard there small = All-nil (IsDeedOf plan)
  exchange_deeds (Some row) (Some byte) there small = input_deeds row row.input byte (there row refl) refl (small byte refl)
  exchange_deeds (Some row) None there small = All-cons (IsDeedOf plan) (Restricts row) [] (there row refl) (All-nil (IsDeedOf plan))

  module_there : (number : Option ℕ) (row : ModulePlan) → option_and_then (slice_get plan.modules) number ≡ Some row → Contains plan.modules row
  module_there None row is = absurd cc
  module_there (Some number) row is = stands plan.modules number row is

  arrival_deeds : (slot : ℕ) (arrived : Arrival) → All (IsDeedOf plan) (deeds_of_arrival plan slot arrived)
  arrival_deeds slot arrived = exchange_deeds (module_in plan slot) (heard_from slot arrived) (module_there (module_with plan slot)) (heard_below slot arrived)

  statement_deeds : (slot : ℕ) → All (IsDeedOf plan) (deeds_of_statements plan slot)
  statement_deeds slot =
      let rows = plan.statements in
      let share = share_of (length rows) in
      let each = All-from_get_or (λ row. IsDeedOf plan (deed_of_statement row)) rows no_statement (λ i within. (statement (get_or rows i no_statement) (Contains-get_or rows i no_statement within), omega arith)) in
      All-map (IsDeedOf plan) deed_of_statement (statements_in rows slot) (All-take (λ row. IsDeedOf plan (deed_of_statement row)) share (drop (slot * share) rows) (All-drop (λ row. IsDeedOf plan (deed_of_statement row)) (slot * share) rows each))

  row_deeds : (row : Option RequestRow) → ((found : RequestRow) → row ≡ Some found → Contains plan.requests found) → All (IsDeedOf plan) (deeds_of_row row)
  row_deeds None there = All-nil (IsDeedOf plan)
  row_deeds (Some row) there = All-cons (IsDeedOf plan) (Acts row.body 0) [] (request row (there row refl), omega arith) (All-nil (IsDeedOf plan))

  request_there : (taken : Option (ℕ × ℕ)) (row : RequestRow) → option_and_then (λ (taken : ℕ × ℕ). slice_get plan.requests taken.1) taken ≡ Some row → Contains plan.requests row
  request_there None row is = absurd cc
  request_there (Some taken) row is = stands plan.requests taken.1 row is

  -- each deed of a minor cycle
  pub each_deed : (world : World) (arrived : Arrival) → All (IsDeedOf plan) (deeds_of plan world arrived)
  each_deed world arrived =
      let exchanged = deeds_of_arrival plan world.slot arrived in
      let stated = deeds_of_statements plan world.slot in
      let taken = taken_in plan world in
      All-append (IsDeedOf plan) (exchanged ++ stated) (deeds_of_request plan taken)
      (All-append (IsDeedOf plan) exchanged stated (arrival_deeds world.slot arrived) (statement_deeds world.slot))
      (row_deeds (option_and_then (λ (taken : ℕ × ℕ). slice_get plan.requests taken.1) taken) (request_there taken))
