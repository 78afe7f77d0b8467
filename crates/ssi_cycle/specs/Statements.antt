-- Which statements act in a slot.
use Rattle.std.specs.Prelude.{ℕ, ◌+◌, ◌*◌, ◌/◌, List, length, map, take, drop}
use Rattle.ssi_identities.specs.DataSets.{Plan, StmtPlan}
use Rattle.ssi_identities.specs.Allowed.{body_of_statement}
use Rattle.ssi_cycle.specs.Deeds.{Deed}
use Rattle.ssi_cycle.specs.Deeds.Deed.{Acts}

-- how many of so many statements each slot has: the least number of which 64 slots have enough
abbrev pub share_of : ℕ → ℕ
share_of count = (count + 63) / 64

-- the statements of a slot, in written order: those whose numbers begin at the slot's number times the share, one share of them as far as there are so many
abbrev pub statements_in : List StmtPlan → ℕ → List StmtPlan
statements_in statements slot = let share = share_of (length statements) in take share (drop (slot * share) statements)

-- a statement acts; there is no report, and none has influence on it
abbrev pub deed_of_statement : StmtPlan → Deed
deed_of_statement row = Acts (body_of_statement row) 0

-- the statements of a slot act in written order
abbrev pub deeds_of_statements : Plan → ℕ → List Deed
deeds_of_statements plan slot = map deed_of_statement (statements_in plan.statements slot)
