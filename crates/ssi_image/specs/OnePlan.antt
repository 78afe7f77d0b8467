-- One packed data set is that of one well data set. No clause cites this file: that an image shows one data set rests on it.
use Rattle.std.specs.Prelude.{◌≡◌, ℕ, zero, suc, ◌+◌, ◌*◌, ◌<◌, ◌≤◌, Bool, true, false, if◌then◌else◌, List, [], ◌∷◌, length, map, Option, Some, None, is_some, option_map, option_and_then, slice_get, All, IfSome, refl}
use Rattle.std.proofs.Common.{subst, sym, ap, ◌∙◌, arith}
use Rattle.std.proofs.Props.{props}
use Rattle.std.proofs.Math.Path.{Path}
use Rattle.std.proofs.lemmas.List.Elements.{All-head, All-tail}
use Rattle.std.proofs.lemmas.Option.{slice_get_within}
use Rattle.ssi_identities.specs.declared.data_set.RequestRow.{RequestRow}
use Rattle.ssi_identities.specs.declared.fact.Counts.{Counts}
use Rattle.ssi_identities.specs.declared.fact.FactKind.{FactKind}
use Rattle.ssi_identities.specs.declared.rule.Cmd.{Cmd}
use Rattle.ssi_identities.specs.declared.rule.Cond.{Cond}
use Rattle.ssi_identities.specs.declared.rule.BodyItem.{BodyItem, fold-BodyItem}
use Rattle.ssi_identities.specs.declared.rule.BodyItem.TheOpen.{BodyItem-F, Body-F}
use Rattle.ssi_identities.specs.declared.rule.BodyItem.TheVariants.{Do}
use Rattle.ssi_identities.specs.declared.rule.Body.{Body}
use Rattle.ssi_identities.specs.Allowed.{CondScope, BodyScope, IsWellCond, IsWellBody, body_of_commands, is_decided, is_reported, is_fact_of, is_number_of}
use Rattle.ssi_identities.specs.Codes.{code_of_cond, code_of_body}
use Rattle.ssi_identities.specs.DataSets.{PointsPlan, RoutePlan, SubPlan, StmtPlan, ModulePlan, Plan, counts_of}
use Rattle.ssi_identities.specs.Facts.{Fact, IsWithinLimits, facts_of, fact_count_of}
use Rattle.ssi_identities.specs.Values.{move_condition_of}
use Rattle.ssi_identities.specs.Wells.{AreWellOutputs, HasWellMoves, IsWell, IsWellStatement, scope_of_moves, scope_of_conds, scope_of_decisions, scope_of_inputs}
use Rattle.ssi_identities.proofs.Bodies.{do_is}
use Rattle.ssi_identities.proofs.FactOrder.{all_facts}
use Rattle.ssi_image.specs.OneCode.{IsNumbered, IsNumberedBody, one_cond, one_body}
use Rattle.ssi_image.specs.Packed.{PackedPoints, PackedRequest, PackedStatement, Wiring, Packed, packed_points, packed_request, packed_statement, wiring_of, packed_outputs, packed_input, packed_of}
use Rattle.ssi_image.specs.Shown.{IsPackedOf, IsImage}

-- ---- numbers of what a well data set has

facts_few : (counts : Counts) → IsWithinLimits counts → fact_count_of counts ≤ 65536
facts_few counts w = omega (arith, w.points, w.signals, w.tracks, w.routes, w.subs, w.flags)

moves_numbered : (plan : Plan) → IsWell plan → IsNumbered (scope_of_moves plan)
moves_numbered plan well = record { facts = facts_few (counts_of plan) well.size.limits; points = λ points lie e. absurd cc }

row_there : (rows : List PointsPlan) (points : ℕ) (of_row : PointsPlan → Option Cond) → is_some (option_and_then of_row (slice_get rows points)) ≡ true → points < length rows
row_there [] points of_row e = absurd cc
row_there (row ∷ rows) zero of_row e = omega arith
row_there (row ∷ rows) (suc points) of_row e = let below = row_there rows points of_row e in omega arith

conds_numbered : (plan : Plan) (bits : ℕ) → IsWell plan → IsNumbered (scope_of_conds plan bits)
conds_numbered plan bits well = record {
  facts = facts_few (counts_of plan) well.size.limits;
  points = λ points lie e. (let below = row_there plan.points points (λ row. if lie then row.free_reverse else row.free_normal) e in let few = well.size.limits.points in omega arith);
}

fact_there : (facts : List Fact) (n : ℕ) (is_kind : FactKind → Bool) → is_fact_of is_kind (slice_get facts n) ≡ true → n < length facts
fact_there [] n is_kind e = absurd cc
fact_there (fact ∷ facts) zero is_kind e = omega arith
fact_there (fact ∷ facts) (suc n) is_kind e = let below = fact_there facts n is_kind e in omega arith

command_small : (plan : Plan) (is_kind : FactKind → Bool) → IsWell plan → (fact : ℕ) → is_number_of is_kind (counts_of plan) fact ≡ true → fact < 65536
command_small plan is_kind well fact e =
    let below = fact_there (facts_of (counts_of plan)) fact is_kind e in
    let count = all_facts (counts_of plan) in
    let w = well.size.limits in
    omega (arith, w.points, w.signals, w.tracks, w.routes, w.subs, w.flags)

decisions_numbered : (plan : Plan) → IsWell plan → IsNumberedBody (scope_of_decisions plan)
decisions_numbered plan well = record { guards = conds_numbered plan 0 well; commands = command_small plan is_decided well }

inputs_numbered : (plan : Plan) → IsWell plan → IsNumberedBody (scope_of_inputs plan)
inputs_numbered plan well = record { guards = conds_numbered plan 8 well; commands = command_small plan is_reported well }

-- ---- conditions and bodies of one code

same_cond : (s t : CondScope) → IsNumbered s → IsNumbered t → (a b : Option Cond) → IfSome a (IsWellCond s) → IfSome b (IsWellCond t) → option_map code_of_cond a ≡ option_map code_of_cond b → a ≡ b
same_cond s t ns nt None None wa wb e = refl
same_cond s t ns nt None (Some b) wa wb e = absurd cc
same_cond s t ns nt (Some a) None wa wb e = absurd cc
same_cond s t ns nt (Some a) (Some b) wa wb e = let codes : code_of_cond a ≡ code_of_cond b = cc in ap Some (one_cond s t ns nt a b wa.within wb.within wa.short codes)

same_body : (s t : BodyScope) → IsNumberedBody s → IsNumberedBody t → (a b : Option Body) → IfSome a (IsWellBody s) → IfSome b (IsWellBody t) → option_map code_of_body a ≡ option_map code_of_body b → a ≡ b
same_body s t ns nt None None wa wb e = refl
same_body s t ns nt None (Some b) wa wb e = absurd cc
same_body s t ns nt (Some a) None wa wb e = absurd cc
same_body s t ns nt (Some a) (Some b) wa wb e = let codes : code_of_body a ≡ code_of_body b = cc in ap Some (one_body s t ns nt a b wa.within wb.within wa.short codes)

-- the command that an item is, if it is one
abbrev command_step : BodyItem-F (Option Cmd) (Unit {0}) → Option Cmd
command_step (BodyItem-F.Do command) = Some command
command_step (BodyItem-F.If guard then_body other) = None

abbrev command_in : BodyItem → Option Cmd
command_in = fold-BodyItem (Option Cmd) (Unit {0}) command_step (λ body. tt)

do_once : (a b : Cmd) → Do a ≡ Do b → a ≡ b
do_once a b e =
    let both : Some a ≡ Some b = sym (do_is (Option Cmd) (Unit {0}) command_step (λ body. tt) a) ∙ ap command_in e ∙ do_is (Option Cmd) (Unit {0}) command_step (λ body. tt) b in
    cc

same_commands : (a b : List Cmd) → map (λ command. Do command) a ≡ map (λ command. Do command) b → a ≡ b
same_commands [] [] e = refl
same_commands [] (y ∷ ys) e = absurd cc
same_commands (x ∷ xs) [] e = absurd cc
same_commands (x ∷ xs) (y ∷ ys) e =
    let heads : Do x ≡ Do y = cc in
    let tails : map (λ command. Do command) xs ≡ map (λ command. Do command) ys = cc in
    ap (λ c. c ∷ xs) (do_once x y heads) ∙ ap (λ cs. y ∷ cs) (same_commands xs ys tails)

-- ---- rows

same_rows : {X Y : Type 0} (f : X → Y) (P Q : X → Type 0) → ((x y : X) → P x → Q y → f x ≡ f y → x ≡ y) → (xs ys : List X) → All P xs → All Q ys → map f xs ≡ map f ys → xs ≡ ys
same_rows f P Q one [] [] p q e = refl
same_rows f P Q one [] (y ∷ ys) p q e = absurd cc
same_rows f P Q one (x ∷ xs) [] p q e = absurd cc
same_rows f P Q one (x ∷ xs) (y ∷ ys) p q e =
    let heads : f x ≡ f y = cc in
    let tails : map f xs ≡ map f ys = cc in
    ap (λ z. z ∷ xs) (one x y (All-head P x xs p) (All-head Q y ys q) heads) ∙ ap (λ zs. y ∷ zs) (same_rows f P Q one xs ys (All-tail P x xs p) (All-tail Q y ys q) tails)

abbrev points_of : List ℕ → List ℕ → Option Cond → Option Cond → PointsPlan
points_of name tracks normal reverse = record { name = name; tracks = tracks; free_normal = normal; free_reverse = reverse }

abbrev module_of : ℕ → ℕ → List (Option ℕ) → List (Option Cond) → Option Body → ModulePlan
module_of address kind pins outputs input = record { address = address; kind = kind; pins = pins; outputs = outputs; input = input }

-- the outputs and the input of a module are well
abbrev HasWellBits : Plan → ModulePlan → Type 0
HasWellBits plan row = AreWellOutputs (scope_of_conds plan 0) row.outputs × IfSome row.input (IsWellBody (scope_of_inputs plan))

module _ (a b : Plan) (wa : IsWell a) (wb : IsWell b) where
  same_points : (x y : PointsPlan) → HasWellMoves (scope_of_moves a) x → HasWellMoves (scope_of_moves b) y → packed_points x ≡ packed_points y → x ≡ y
  same_points x y p q e =
      let normal = same_cond (scope_of_moves a) (scope_of_moves b) (moves_numbered a wa) (moves_numbered b wb) x.free_normal y.free_normal p.free_normal q.free_normal (ap (λ (r : PackedPoints). r.free_normal) e) in
      let reverse = same_cond (scope_of_moves a) (scope_of_moves b) (moves_numbered a wa) (moves_numbered b wb) x.free_reverse y.free_reverse p.free_reverse q.free_reverse (ap (λ (r : PackedPoints). r.free_reverse) e) in
      ap (λ n. points_of n x.tracks x.free_normal x.free_reverse) (ap (λ (r : PackedPoints). r.name) e) ∙ ap (λ t. points_of y.name t x.free_normal x.free_reverse) (ap (λ (r : PackedPoints). r.tracks) e)
      ∙ ap (λ c. points_of y.name y.tracks c x.free_reverse) normal ∙ ap (λ c. points_of y.name y.tracks y.free_normal c) reverse

  same_request : (x y : RequestRow) → IsWellBody (scope_of_decisions a) x.body → IsWellBody (scope_of_decisions b) y.body → packed_request x ≡ packed_request y → x ≡ y
  same_request x y p q e =
      let body = one_body (scope_of_decisions a) (scope_of_decisions b) (decisions_numbered a wa) (decisions_numbered b wb) x.body y.body p.within q.within p.short (ap (λ (r : PackedRequest). r.body) e) in
      ap (λ (n : List ℕ). let row : RequestRow = record { name = n; body = x.body } in row) (ap (λ (r : PackedRequest). r.name) e) ∙ ap (λ (c : Body). let row : RequestRow = record { name = y.name; body = c } in row) body

  same_statement : (x y : StmtPlan) → IsWellStatement (scope_of_decisions a) x → IsWellStatement (scope_of_decisions b) y → packed_statement x ≡ packed_statement y → x ≡ y
  same_statement x y p q e =
      let guard = one_cond (scope_of_conds a 0) (scope_of_conds b 0) (conds_numbered a 0 wa) (conds_numbered b 0 wb) x.guard y.guard p.guard.within q.guard.within p.guard.short (ap (λ (r : PackedStatement). r.guard) e) in
      let body = one_body (scope_of_decisions a) (scope_of_decisions b) (decisions_numbered a wa) (decisions_numbered b wb) (body_of_commands x.commands) (body_of_commands y.commands) p.commands.within q.commands.within p.commands.short (ap (λ (r : PackedStatement). r.commands) e) in
      let commands = same_commands x.commands y.commands (ap (λ (c : Body). c.items) body) in
      ap (λ (cs : List Cmd). let row : StmtPlan = record { commands = cs; guard = x.guard } in row) commands ∙ ap (λ (c : Cond). let row : StmtPlan = record { commands = y.commands; guard = c } in row) guard

  same_module : (x y : ModulePlan) → HasWellBits a x → HasWellBits b y → wiring_of x ≡ wiring_of y → packed_outputs x ≡ packed_outputs y → packed_input x ≡ packed_input y → x ≡ y
  same_module x y p q w o i =
      let outputs = same_rows (option_map code_of_cond) (λ c. IfSome c (IsWellCond (scope_of_conds a 0))) (λ c. IfSome c (IsWellCond (scope_of_conds b 0)))
      (same_cond (scope_of_conds a 0) (scope_of_conds b 0) (conds_numbered a 0 wa) (conds_numbered b 0 wb)) x.outputs y.outputs p.0.each q.0.each o
      in
      let input = same_body (scope_of_inputs a) (scope_of_inputs b) (inputs_numbered a wa) (inputs_numbered b wb) x.input y.input p.1 q.1 i in
      ap (λ n. module_of n x.kind x.pins x.outputs x.input) (ap (λ (r : Wiring). r.address) w) ∙ ap (λ n. module_of y.address n x.pins x.outputs x.input) (ap (λ (r : Wiring). r.kind) w)
      ∙ ap (λ ps. module_of y.address y.kind ps x.outputs x.input) (ap (λ (r : Wiring). r.pins) w) ∙ ap (λ cs. module_of y.address y.kind y.pins cs x.input) outputs
      ∙ ap (λ c. module_of y.address y.kind y.pins y.outputs c) input

  same_modules : (xs ys : List ModulePlan) → All (HasWellBits a) xs → All (HasWellBits b) ys → map wiring_of xs ≡ map wiring_of ys → map packed_outputs xs ≡ map packed_outputs ys → map packed_input xs ≡ map packed_input ys → xs ≡ ys
  same_modules [] [] p q w o i = refl
  same_modules [] (y ∷ ys) p q w o i = absurd cc
  same_modules (x ∷ xs) [] p q w o i = absurd cc
  same_modules (x ∷ xs) (y ∷ ys) p q w o i =
      let w0 : wiring_of x ≡ wiring_of y = cc in
      let w1 : map wiring_of xs ≡ map wiring_of ys = cc in
      let o0 : packed_outputs x ≡ packed_outputs y = cc in
      let o1 : map packed_outputs xs ≡ map packed_outputs ys = cc in
      let i0 : packed_input x ≡ packed_input y = cc in
      let i1 : map packed_input xs ≡ map packed_input ys = cc in
      ap (λ z. z ∷ xs) (same_module x y (All-head (HasWellBits a) x xs p) (All-head (HasWellBits b) y ys q) w0 o0 i0)
      ∙ ap (λ zs. y ∷ zs) (same_modules xs ys (All-tail (HasWellBits a) x xs p) (All-tail (HasWellBits b) y ys q) w1 o1 i1)

abbrev plan_of : List PointsPlan → List (List ℕ) → List (List ℕ) → List RoutePlan → List SubPlan → List (List ℕ) → List RequestRow → List StmtPlan → List ModulePlan → Plan
plan_of points signals tracks routes subs flags requests statements modules = record {
  points = points;
  signals = signals;
  tracks = tracks;
  routes = routes;
  subs = subs;
  flags = flags;
  requests = requests;
  statements = statements;
  modules = modules;
}

pub same_plan : (packed : Packed) (a b : Plan) → IsPackedOf a packed → IsPackedOf b packed → a ≡ b
same_plan packed a b x y =
    let both : packed_of a ≡ packed_of b = sym x.same ∙ y.same in
    let wa = x.well in
    let wb = y.well in
    let ra = wa.rules in
    let rb = wb.rules in
    let points = same_rows packed_points (HasWellMoves (scope_of_moves a)) (HasWellMoves (scope_of_moves b)) (same_points a b wa wb) a.points b.points ra.moves rb.moves (ap (λ (p : Packed). p.points) both) in
    let requests = same_rows packed_request (λ row. IsWellBody (scope_of_decisions a) row.body) (λ row. IsWellBody (scope_of_decisions b) row.body) (same_request a b wa wb) a.requests b.requests ra.requests rb.requests (ap (λ (p : Packed). p.requests) both) in
    let statements = same_rows packed_statement (IsWellStatement (scope_of_decisions a)) (IsWellStatement (scope_of_decisions b)) (same_statement a b wa wb) a.statements b.statements ra.statements rb.statements (ap (λ (p : Packed). p.statements) both) in
    let modules = same_modules a b wa wb a.modules b.modules (λ k d within. (ra.outputs k d within, ra.inputs k d within)) (λ k d within. (rb.outputs k d within, rb.inputs k d within)) (ap (λ (p : Packed). p.modules) both) (ap (λ (p : Packed). p.outputs) both) (ap (λ (p : Packed). p.inputs) both) in
    ap (λ z. plan_of z a.signals a.tracks a.routes a.subs a.flags a.requests a.statements a.modules) points
    ∙ ap (λ z. plan_of b.points z a.tracks a.routes a.subs a.flags a.requests a.statements a.modules) (ap (λ (p : Packed). p.signals) both)
    ∙ ap (λ z. plan_of b.points b.signals z a.routes a.subs a.flags a.requests a.statements a.modules) (ap (λ (p : Packed). p.tracks) both)
    ∙ ap (λ z. plan_of b.points b.signals b.tracks z a.subs a.flags a.requests a.statements a.modules) (ap (λ (p : Packed). p.routes) both)
    ∙ ap (λ z. plan_of b.points b.signals b.tracks b.routes z a.flags a.requests a.statements a.modules) (ap (λ (p : Packed). p.subs) both)
    ∙ ap (λ z. plan_of b.points b.signals b.tracks b.routes b.subs z a.requests a.statements a.modules) (ap (λ (p : Packed). p.flags) both)
    ∙ ap (λ z. plan_of b.points b.signals b.tracks b.routes b.subs b.flags z a.statements a.modules) requests
    ∙ ap (λ z. plan_of b.points b.signals b.tracks b.routes b.subs b.flags b.requests z a.modules) statements
    ∙ ap (λ z. plan_of b.points b.signals b.tracks b.routes b.subs b.flags b.requests b.statements z) modules

packed_prop : (plan : Plan) (packed : Packed) → IsProp (IsPackedOf plan packed)
packed_prop plan packed = hlevel props

pub one_plan : (packed : Packed) → IsProp (IsImage packed)
one_plan packed x y =
    let P : Plan → Type 0 = λ q. (t : IsPackedOf q packed) → Path (IsImage packed) (x.0, x.1) (q, t) in
    subst P (same_plan packed x.0 y.0 x.1 y.1) (λ t. ap (λ (s : IsPackedOf x.0 packed). let shown : IsImage packed = (x.0, s) in shown) (packed_prop x.0 packed x.1 t)) y.1
