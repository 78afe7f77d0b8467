-- The code bytes of conditions and bodies, as an image has them. Numbers stand with their highest byte first.
use Rattle.std.specs.Prelude.{ℕ, ◌<◌, ◌^◌, List, [], ◌∷◌, ◌++◌, map, length, Option, Some, None}
use Rattle.std.specs.Int.{w16, w32, to_be_bytes}
use Rattle.std.specs.List.{concat}
use Rattle.ssi_identities.specs.declared.rule.Cmd.{Cmd}
use Rattle.ssi_identities.specs.declared.rule.CondItem.{CondItem, fold-CondItem}
use Rattle.ssi_identities.specs.declared.rule.CondItem.TheOpen.{CondItem-F, Cond-F}
use Rattle.ssi_identities.specs.declared.rule.Cond.{Cond, fold-Cond}
use Rattle.ssi_identities.specs.declared.rule.BodyItem.{BodyItem, fold-BodyItem}
use Rattle.ssi_identities.specs.declared.rule.BodyItem.TheOpen.{BodyItem-F, Body-F}
use Rattle.ssi_identities.specs.declared.rule.Body.{Body, fold-Body}
use Rattle.ssi_identities.specs.declared.opcode.CondOp.TheVariants as op
use Rattle.ssi_identities.specs.declared.opcode.BodyOp.TheVariants as act
use Rattle.ssi_identities.specs.Opcodes.{cond_byte_of, body_byte_of}

-- a piece behind four bytes that tell how long it is
abbrev pub with_length : List ℕ → List ℕ
with_length piece = to_be_bytes w32 (length piece) ++ piece

-- four bytes can tell how long a piece is
abbrev pub IsShort : List ℕ → Type 0
IsShort piece = length piece < 2 ^ 32

-- an item of a condition, where the bytes of its alternatives are known: its first byte, and a fact, a bit, points, or the alternatives of a group, each with
-- its length
abbrev pub item_code : CondItem-F (List ℕ) (List ℕ) → List ℕ
item_code (CondItem-F.Lit fact wanted) = cond_byte_of (op.Fact wanted) ∷ to_be_bytes w16 fact
item_code (CondItem-F.Bit bit wanted) = cond_byte_of (op.Bit wanted) ∷ bit ∷ []
item_code (CondItem-F.Free points reverse) = cond_byte_of (op.Free reverse) ∷ to_be_bytes w16 points
item_code (CondItem-F.Any alternatives) = cond_byte_of op.Group ∷ with_length (concat (map with_length alternatives))

-- a condition's items one after another
abbrev pub cond_code : Cond-F (List ℕ) (List ℕ) → List ℕ
cond_code cond = concat cond.items

-- the code of an item of a condition
abbrev pub code_of_item : CondItem → List ℕ
code_of_item = fold-CondItem (List ℕ) (List ℕ) item_code cond_code

-- the code of a condition
abbrev pub code_of_cond : Cond → List ℕ
code_of_cond = fold-Cond (List ℕ) (List ℕ) item_code cond_code

-- the code of some items of a condition, one after another
abbrev pub code_of_items : List CondItem → List ℕ
code_of_items items = concat (map code_of_item items)

-- the code of some alternatives, each with its length
abbrev pub code_of_alternatives : List Cond → List ℕ
code_of_alternatives conds = concat (map with_length (map code_of_cond conds))

-- the code of a command: its first byte, and its fact
abbrev pub code_of_command : Cmd → List ℕ
code_of_command command = body_byte_of (act.Set command.value) ∷ to_be_bytes w16 command.fact

-- an else-branch with its length; nothing where there is none
abbrev pub else_code : Option (List ℕ) → List ℕ
else_code None = []
else_code (Some piece) = with_length piece

-- an item of a body, where the bytes of its branches are known: a command, or a choice with its guard and its branches, each with its length
abbrev pub part_code : BodyItem-F (List ℕ) (List ℕ) → List ℕ
part_code (BodyItem-F.Do command) = code_of_command command
part_code (BodyItem-F.If guard then_code other) = body_byte_of act.If ∷ with_length (with_length (code_of_cond guard) ++ (with_length then_code ++ else_code other))

-- a body's items one after another
abbrev pub body_code : Body-F (List ℕ) (List ℕ) → List ℕ
body_code body = concat body.items

-- the code of an item of a body
abbrev pub code_of_part : BodyItem → List ℕ
code_of_part = fold-BodyItem (List ℕ) (List ℕ) part_code body_code

-- the code of a body
abbrev pub code_of_body : Body → List ℕ
code_of_body = fold-Body (List ℕ) (List ℕ) part_code body_code

-- the code of some items of a body, one after another
abbrev pub code_of_parts : List BodyItem → List ℕ
code_of_parts items = concat (map code_of_part items)
