-- What rules may name and how deep they go, one layer at a time.
use Rattle.std.proofs.Common.{◌∷◌, [], refl, ◌≡◌, ap, ◌∙◌, ℕ, ◌+◌, Bool, ◌&&◌, List, length, map}
use Rattle.std.specs.Prelude.{max, nat_lt, nat_le}
use Rattle.std.specs.List.{list_all}
use Rattle.std.proofs.lemmas.List.{length-map}
use Rattle.std.proofs.lemmas.List.Folds.{list_all-map}
use Rattle.ssi_identities.specs.declared.rule.CondItem.{CondItem}
use Rattle.ssi_identities.specs.declared.rule.CondItem.TheVariants.{Lit, Bit, Free, Any}
use Rattle.ssi_identities.specs.declared.rule.Cond.{Cond}
use Rattle.ssi_identities.specs.Allowed.{BodyScope, CondScope, body_of_commands, body_depth, body_levels, body_within, else_levels, else_within, is_body_within, is_part_within, part_depth, part_levels, part_within, cond_depth, cond_levels, cond_within, greatest, is_item_within, is_within, item_depth, item_levels, item_within}
use Rattle.ssi_identities.specs.Values.{cond_of}
use Rattle.ssi_identities.specs.declared.rule.Cmd.{Cmd}
use Rattle.ssi_identities.specs.declared.rule.BodyItem.{BodyItem}
use Rattle.ssi_identities.specs.declared.rule.BodyItem.TheVariants.{Do, If}
use Rattle.ssi_identities.specs.declared.rule.Body.{Body}
use Rattle.ssi_identities.specs.Steps.{body_of}
use Rattle.std.specs.Option.{option_map}
use Rattle.std.proofs.Common.{Option, arith}
use Rattle.ssi_identities.proofs.Bodies.{body_is, do_is, if_is}
use Rattle.ssi_identities.proofs.Conditions.{any_is, bit_is, cond_is, free_is, lit_is}

-- a list is as long as what a function makes of it, and all of that passes where each element does
all_mapped : {X : Type 0} (f : X → Bool) (least : ℕ) (xs : List X) → (nat_le least (length (map f xs)) && list_all (λ within. within) (map f xs)) ≡ (nat_le least (length xs) && list_all f xs)
all_mapped f least xs = ap (λ n. nat_le least n && list_all (λ within. within) (map f xs)) (length-map xs f) ∙ ap (λ all. nat_le least (length xs) && all) (list_all-map (λ within. within) f xs)

-- a condition is within its scope where it has an item and each of its items is
pub within_of_items : (scope : CondScope) (items : List CondItem) → is_within scope (cond_of items) ≡ (nat_le 1 (length items) && list_all (is_item_within scope) items)
within_of_items scope items = cond_is Bool Bool (item_within scope) cond_within items ∙ all_mapped (is_item_within scope) 1 items

-- a group is where it has two alternatives and each of its alternatives is
pub within_of_group : (scope : CondScope) (conds : List Cond) → is_item_within scope (Any conds) ≡ (nat_le 2 (length conds) && list_all (is_within scope) conds)
within_of_group scope conds = any_is Bool Bool (item_within scope) cond_within conds ∙ all_mapped (is_within scope) 2 conds

-- so are tests of facts, of bits and of points that are free
pub within_of_lit : (scope : CondScope) (fact : ℕ) (wanted : Bool) → is_item_within scope (Lit fact wanted) ≡ nat_lt fact scope.facts
within_of_lit scope fact wanted = lit_is Bool Bool (item_within scope) cond_within fact wanted

pub within_of_bit : (scope : CondScope) (bit : ℕ) (wanted : Bool) → is_item_within scope (Bit bit wanted) ≡ nat_lt bit scope.bits
within_of_bit scope bit wanted = bit_is Bool Bool (item_within scope) cond_within bit wanted

pub within_of_free : (scope : CondScope) (points : ℕ) (reverse : Bool) → is_item_within scope (Free points reverse) ≡ scope.may_ask points reverse
within_of_free scope points reverse = free_is Bool Bool (item_within scope) cond_within points reverse

-- a condition is as deep as its deepest item
pub depth_of_items : (items : List CondItem) → cond_depth (cond_of items) ≡ greatest (map item_depth items)
depth_of_items items = cond_is ℕ ℕ item_levels cond_levels items

-- a group is a level deeper than its deepest alternative
pub depth_of_group : (conds : List Cond) → item_depth (Any conds) ≡ 1 + greatest (map cond_depth conds)
depth_of_group conds = any_is ℕ ℕ item_levels cond_levels conds

-- a body is within its scope where it has an item and each of its items is
pub within_of_parts : (scope : BodyScope) (items : List BodyItem) → is_body_within scope (body_of items) ≡ (nat_le 1 (length items) && list_all (is_part_within scope) items)
within_of_parts scope items = body_is Bool Bool (part_within scope) body_within items ∙ all_mapped (is_part_within scope) 1 items

-- a command is where its fact may be commanded
pub within_of_command : (scope : BodyScope) (command : Cmd) → is_part_within scope (Do command) ≡ scope.may_command command.fact
within_of_command scope command = do_is Bool Bool (part_within scope) body_within command

-- a choice is where its guard and its branches are, and its guard is eight groups deep at most
pub within_of_choice : (scope : BodyScope) (guard : Cond) (body : Body) (other : Option Body)
    → is_part_within scope (If guard body other) ≡ (is_within scope.guards guard && (nat_le (cond_depth guard) 8 && (is_body_within scope body && else_within (option_map (is_body_within scope) other))))
within_of_choice scope guard body other = if_is Bool Bool (part_within scope) body_within guard body other

-- a body is as deep as its deepest item
pub depth_of_parts : (items : List BodyItem) → body_depth (body_of items) ≡ greatest (map part_depth items)
depth_of_parts items = body_is ℕ ℕ part_levels body_levels items

-- a choice is a level deeper than its deeper branch
pub depth_of_choice : (guard : Cond) (body : Body) (other : Option Body) → part_depth (If guard body other) ≡ 1 + max (body_depth body) (else_levels (option_map body_depth other))
depth_of_choice guard body other = if_is ℕ ℕ part_levels body_levels guard body other

-- commands are, as a body, where there is one and each may be commanded
pub within_of_commands : (scope : BodyScope) (commands : List Cmd) → is_body_within scope (body_of_commands commands) ≡ (nat_le 1 (length commands) && list_all (λ command. scope.may_command command.fact) commands)
within_of_commands scope commands =
    within_of_parts scope (map (λ command. Do command) commands)
    ∙ ap (λ n. nat_le 1 n && list_all (is_part_within scope) (map (λ command. Do command) commands)) (length-map commands (λ command. Do command))
    ∙ ap (λ all. nat_le 1 (length commands) && all) (each commands)
  where
    each : (commands : List Cmd) → list_all (is_part_within scope) (map (λ command. Do command) commands) ≡ list_all (λ command. scope.may_command command.fact) commands
    each [] = refl
    each (command ∷ commands) = ap (λ one. one && list_all (is_part_within scope) (map (λ command. Do command) commands)) (within_of_command scope command) ∙ ap (λ all. scope.may_command command.fact && all) (each commands)

-- commands have no choice in them
pub depth_of_commands : (commands : List Cmd) → body_depth (body_of_commands commands) ≡ 0
depth_of_commands commands = depth_of_parts (map (λ command. Do command) commands) ∙ each commands
  where
    each : (commands : List Cmd) → greatest (map part_depth (map (λ command. Do command) commands)) ≡ 0
    each [] = refl
    each (command ∷ commands) = omega (arith, each commands, do_is ℕ ℕ part_levels body_levels command)
