-- What conditions and bodies may name where they stand, and how deep they may go.
use Rattle.std.specs.Prelude.{◌≡◌, ℕ, ◌+◌, ◌≤◌, nat_lt, nat_le, max, Bool, true, false, ◌&&◌, List, [], ◌∷◌, map, length, Option, Some, None, slice_get}
use Rattle.std.specs.List.{list_all}
use Rattle.ssi_identities.specs.declared.fact.Counts.{Counts}
use Rattle.ssi_identities.specs.declared.fact.FactKind.{FactKind}
use Rattle.ssi_identities.specs.declared.fact.FactKind.TheVariants.{Reverse, DetectedNormal, DetectedReverse, Lamp, Occupied, RouteSet, RouteBarred, Locked, FlagSet}
use Rattle.ssi_identities.specs.declared.rule.Cmd.{Cmd}
use Rattle.ssi_identities.specs.declared.rule.CondItem.TheOpen.{CondItem-F, Cond-F}
use Rattle.ssi_identities.specs.declared.rule.Cond.{Cond, fold-Cond}
use Rattle.ssi_identities.specs.declared.rule.CondItem.{CondItem, fold-CondItem}
use Rattle.ssi_identities.specs.declared.rule.BodyItem.{BodyItem, fold-BodyItem}
use Rattle.ssi_identities.specs.declared.rule.BodyItem.TheOpen.{BodyItem-F, Body-F}
use Rattle.ssi_identities.specs.declared.rule.BodyItem.TheVariants.{Do, If}
use Rattle.ssi_identities.specs.declared.rule.Body.{Body, fold-Body}
use Rattle.ssi_identities.specs.Codes.{IsShort, code_of_cond, code_of_body}
use Rattle.ssi_identities.specs.DataSets.{StmtPlan}
use Rattle.ssi_identities.specs.Facts.{Fact, facts_of}
use Rattle.ssi_identities.specs.Limits.{most_levels}
use Rattle.ssi_identities.specs.Steps.{body_of}

-- the facts that requests and statements may command: those that the interlocking decides
abbrev pub is_decided : FactKind → Bool
is_decided Reverse = true
is_decided RouteSet = true
is_decided RouteBarred = true
is_decided Locked = true
is_decided FlagSet = true
is_decided _ = false

-- the facts that the input of a module may command: those that are reported from the lineside, and flags
abbrev pub is_reported : FactKind → Bool
is_reported DetectedNormal = true
is_reported DetectedReverse = true
is_reported Lamp = true
is_reported Occupied = true
is_reported FlagSet = true
is_reported _ = false

-- whether there is a fact, and it is one of these
abbrev pub is_fact_of : (FactKind → Bool) → Option Fact → Bool
is_fact_of is_kind None = false
is_fact_of is_kind (Some fact) = is_kind fact.kind

-- whether a number is that of one of these facts
abbrev pub is_number_of : (FactKind → Bool) → Counts → ℕ → Bool
is_number_of is_kind counts number = is_fact_of is_kind (slice_get (facts_of counts) number)

-- what a condition may name where it stands: how many facts and how many bits of a report there are to test, and which points it may ask about, and for which lie
pub record CondScope : Type 0 where
  pub facts : ℕ
  pub bits : ℕ
  pub may_ask : ℕ → Bool → Bool

-- what a body may name where it stands: what its guards may name, and which facts it may command
pub record BodyScope : Type 0 where
  pub guards : CondScope
  pub may_command : ℕ → Bool

-- the greatest of some numbers; 0 of none
abbrev pub greatest : List ℕ → ℕ
greatest [] = 0
greatest (n ∷ ns) = max n (greatest ns)

-- ---- conditions

-- an item names what its place allows, where it is known which of its alternatives do; a group has two alternatives at least
abbrev pub item_within : CondScope → CondItem-F Bool Bool → Bool
item_within scope (CondItem-F.Lit fact wanted) = nat_lt fact scope.facts
item_within scope (CondItem-F.Bit bit wanted) = nat_lt bit scope.bits
item_within scope (CondItem-F.Free points reverse) = scope.may_ask points reverse
item_within scope (CondItem-F.Any alternatives) = nat_le 2 (length alternatives) && list_all (λ within. within) alternatives

-- a condition has an item at least
abbrev pub cond_within : Cond-F Bool Bool → Bool
cond_within cond = nat_le 1 (length cond.items) && list_all (λ within. within) cond.items

-- whether an item of a condition names only what its place allows, and no list in it is too short
abbrev pub is_item_within : CondScope → CondItem → Bool
is_item_within scope = fold-CondItem Bool Bool (item_within scope) cond_within

-- whether a condition does
abbrev pub is_within : CondScope → Cond → Bool
is_within scope = fold-Cond Bool Bool (item_within scope) cond_within

-- a group is a level deeper than its deepest alternative
abbrev pub item_levels : CondItem-F ℕ ℕ → ℕ
item_levels (CondItem-F.Lit fact wanted) = 0
item_levels (CondItem-F.Bit bit wanted) = 0
item_levels (CondItem-F.Free points reverse) = 0
item_levels (CondItem-F.Any alternatives) = 1 + greatest alternatives

abbrev pub cond_levels : Cond-F ℕ ℕ → ℕ
cond_levels cond = greatest cond.items

-- how many groups lie in one another in an item
abbrev pub item_depth : CondItem → ℕ
item_depth = fold-CondItem ℕ ℕ item_levels cond_levels

-- how many groups lie in one another in a condition
abbrev pub cond_depth : Cond → ℕ
cond_depth = fold-Cond ℕ ℕ item_levels cond_levels

-- a condition names only what its place allows, isn't too deep, and its code has a length that four bytes tell
pub record IsWellCond (scope : CondScope) (cond : Cond) : Type 0 where
  pub within : is_within scope cond ≡ true
  pub depth : cond_depth cond ≤ most_levels
  pub short : IsShort (code_of_cond cond)

-- ---- bodies

-- an else-branch names what its place allows where there is none
abbrev pub else_within : Option Bool → Bool
else_within None = true
else_within (Some within) = within

-- an item names what its place allows, where it is known which of its branches do, and its guard isn't too deep
abbrev pub part_within : BodyScope → BodyItem-F Bool Bool → Bool
part_within scope (BodyItem-F.Do command) = scope.may_command command.fact
part_within scope (BodyItem-F.If guard then_within other) = is_within scope.guards guard && (nat_le (cond_depth guard) most_levels && (then_within && else_within other))

-- a body has an item at least
abbrev pub body_within : Body-F Bool Bool → Bool
body_within body = nat_le 1 (length body.items) && list_all (λ within. within) body.items

-- whether an item of a body names only what its place allows, and no list in it is too short
abbrev pub is_part_within : BodyScope → BodyItem → Bool
is_part_within scope = fold-BodyItem Bool Bool (part_within scope) body_within

-- whether a body does
abbrev pub is_body_within : BodyScope → Body → Bool
is_body_within scope = fold-Body Bool Bool (part_within scope) body_within

-- no levels of an else-branch that isn't there
abbrev pub else_levels : Option ℕ → ℕ
else_levels None = 0
else_levels (Some levels) = levels

-- a choice is a level deeper than its deeper branch
abbrev pub part_levels : BodyItem-F ℕ ℕ → ℕ
part_levels (BodyItem-F.Do command) = 0
part_levels (BodyItem-F.If guard then_levels other) = 1 + max then_levels (else_levels other)

abbrev pub body_levels : Body-F ℕ ℕ → ℕ
body_levels body = greatest body.items

-- how many choices lie in one another in an item
abbrev pub part_depth : BodyItem → ℕ
part_depth = fold-BodyItem ℕ ℕ part_levels body_levels

-- how many choices lie in one another in a body
abbrev pub body_depth : Body → ℕ
body_depth = fold-Body ℕ ℕ part_levels body_levels

-- a body names only what its place allows, isn't too deep, and its code has a length that four bytes tell
pub record IsWellBody (scope : BodyScope) (body : Body) : Type 0 where
  pub within : is_body_within scope body ≡ true
  pub depth : body_depth body ≤ most_levels
  pub short : IsShort (code_of_body body)

-- commands as a body
abbrev pub body_of_commands : List Cmd → Body
body_of_commands commands = body_of (map (λ command. Do command) commands)

-- a statement as a body: its commands act where its guard holds, and nothing else does anything
abbrev pub body_of_statement : StmtPlan → Body
body_of_statement row = body_of (If row.guard (body_of_commands row.commands) None ∷ [])
