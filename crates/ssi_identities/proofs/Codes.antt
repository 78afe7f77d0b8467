-- The code of each item, which item a first byte tells of, and how long commands are.
use Rattle.std.proofs.Common.{◌≡◌, ℕ, ◌==◌, Bool, true, false, cond, List, [], ◌∷◌, ◌++◌, length, map, Option, Some, option_map, refl, ap, ◌∙◌, ◌*◌, arith}
use Rattle.std.specs.Int.{w16, to_be_bytes}
use Rattle.std.specs.List.{find}
use Rattle.std.proofs.lemmas.List.{length-append}
use Rattle.std.proofs.lemmas.Bool.{eqb-true}
use Rattle.ssi_identities.specs.declared.rule.Body.{Body}
use Rattle.ssi_identities.specs.declared.rule.BodyItem.TheVariants.{Do, If}
use Rattle.ssi_identities.specs.declared.rule.Cmd.{Cmd}
use Rattle.ssi_identities.specs.declared.rule.Cond.{Cond}
use Rattle.ssi_identities.specs.declared.rule.CondItem.TheVariants.{Lit, Bit, Free, Any}
use Rattle.ssi_identities.specs.Codes.{with_length, item_code, cond_code, code_of_item, code_of_cond, code_of_alternatives, else_code, part_code, body_code, code_of_part, code_of_parts, code_of_body}
use Rattle.ssi_identities.proofs.Conditions.{lit_is, bit_is, free_is, any_is}
use Rattle.ssi_identities.specs.Allowed.{body_of_commands}
use Rattle.ssi_identities.proofs.Bodies.{body_is, do_is, if_is}
use Rattle.ssi_identities.specs.declared.opcode.CondOp.{CondOp}
use Rattle.ssi_identities.specs.declared.opcode.CondOp.TheVariants as op
use Rattle.ssi_identities.specs.declared.opcode.BodyOp.{BodyOp}
use Rattle.ssi_identities.specs.declared.opcode.BodyOp.TheVariants as act
use Rattle.ssi_identities.specs.Opcodes.{cond_byte_of, cond_ops, cond_op_of, body_byte_of, body_ops, body_op_of}

-- what is found passes
found_passes : {X : Type 0} (test : X → Bool) (xs : List X) (x : X) → find test xs ≡ Some x → test x ≡ true
found_passes test [] x is = absurd cc
found_passes test (y ∷ ys) x is = by_test (test y) refl is (found_passes test ys x)
  where
    by_test : (passes : Bool) → test y ≡ passes → cond passes (Some y) (find test ys) ≡ Some x → (find test ys ≡ Some x → test x ≡ true) → test x ≡ true
    by_test true passes is rest = let same : y ≡ x = cc in cc
    by_test false passes is rest = rest is

-- ---- items of conditions

pub lit_code : (fact : ℕ) (wanted : Bool) → code_of_item (Lit fact wanted) ≡ cond_byte_of (op.Fact wanted) ∷ to_be_bytes w16 fact
lit_code = lit_is (List ℕ) (List ℕ) item_code cond_code

pub bit_code : (bit : ℕ) (wanted : Bool) → code_of_item (Bit bit wanted) ≡ cond_byte_of (op.Bit wanted) ∷ bit ∷ []
bit_code = bit_is (List ℕ) (List ℕ) item_code cond_code

pub free_code : (points : ℕ) (reverse : Bool) → code_of_item (Free points reverse) ≡ cond_byte_of (op.Free reverse) ∷ to_be_bytes w16 points
free_code = free_is (List ℕ) (List ℕ) item_code cond_code

pub group_code : (conds : List Cond) → code_of_item (Any conds) ≡ cond_byte_of op.Group ∷ with_length (code_of_alternatives conds)
group_code = any_is (List ℕ) (List ℕ) item_code cond_code

-- the first byte of an item tells of this item
pub cond_op_same : (first : CondOp) → cond_op_of (cond_byte_of first) ≡ Some first
cond_op_same (op.Fact false) = refl
cond_op_same (op.Fact true) = refl
cond_op_same (op.Bit false) = refl
cond_op_same (op.Bit true) = refl
cond_op_same (op.Free false) = refl
cond_op_same (op.Free true) = refl
cond_op_same op.Group = refl

pub cond_byte_same : (byte : ℕ) (first : CondOp) → cond_op_of byte ≡ Some first → cond_byte_of first ≡ byte
cond_byte_same byte first is = eqb-true (cond_byte_of first) byte (found_passes (λ op. cond_byte_of op == byte) cond_ops first is)

-- ---- items of bodies

pub command_code : (command : Cmd) → code_of_part (Do command) ≡ body_byte_of (act.Set command.value) ∷ to_be_bytes w16 command.fact
command_code = do_is (List ℕ) (List ℕ) part_code body_code

pub choice_code : (guard : Cond) (body : Body) (other : Option Body)
    → code_of_part (If guard body other) ≡ body_byte_of act.If ∷ with_length (with_length (code_of_cond guard) ++ (with_length (code_of_body body) ++ else_code (option_map code_of_body other)))
choice_code = if_is (List ℕ) (List ℕ) part_code body_code

-- the first byte of an item tells of this item
pub body_op_same : (first : BodyOp) → body_op_of (body_byte_of first) ≡ Some first
body_op_same (act.Set false) = refl
body_op_same (act.Set true) = refl
body_op_same act.If = refl

pub body_byte_same : (byte : ℕ) (first : BodyOp) → body_op_of byte ≡ Some first → body_byte_of first ≡ byte
body_byte_same byte first is = eqb-true (body_byte_of first) byte (found_passes (λ op. body_byte_of op == byte) body_ops first is)

-- a command takes three bytes
pub length_of_commands : (commands : List Cmd) → length (code_of_body (body_of_commands commands)) ≡ 3 * length commands
length_of_commands commands = ap length (body_is (List ℕ) (List ℕ) part_code body_code (map (λ command. Do command) commands)) ∙ each commands
  where
    each : (commands : List Cmd) → length (code_of_parts (map (λ command. Do command) commands)) ≡ 3 * length commands
    each [] = refl
    each (command ∷ commands) =
        let others = map (λ command. Do command) commands in
        omega (arith, each commands, ap length (command_code command), length-append (code_of_part (Do command)) (code_of_parts others))
