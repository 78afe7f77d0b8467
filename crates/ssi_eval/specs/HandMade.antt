-- Conditions whose code the tests write by hand: of four facts and a report.
use Rattle.std.specs.Prelude.{◌≡◌, ℕ, false, List}
use Rattle.ssi_identities.specs.declared.rule.Cond.{Cond}
use Rattle.ssi_identities.specs.Allowed.{CondScope, IsWellCond}
use Rattle.ssi_identities.specs.Codes.{code_of_cond}

-- four facts and eight bits may be named, and no points
abbrev pub four_facts : CondScope
four_facts = record { facts = 4; bits = 8; may_ask = λ points lie. false }

-- the code of such a condition
pub record IsHandMade (code : List ℕ) : Type 0 where
  pub cond : Cond
  pub well : IsWellCond four_facts cond
  pub is : code ≡ code_of_cond cond
