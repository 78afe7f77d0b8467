use Rattle.std.proofs.Common.{◌≡◌, ◌+◌, length, drop}
use Rattle.ssi_identities.specs.Codes.{code_of_body}
use Rattle.ssi_identities.specs.Deciding.{capped}
use Rattle.ssi_identities.specs.Steps.{body_of}
use Rattle.ssi_identities.proofs.well_bodies.+size.Given as goal

-- with the code of the items that are left it is the whole
abbrev pub invariant-body_size-loop-item : goal.invariant-body_size-loop-item
invariant-body_size-loop-item l = record {
  few : l.size ≡ capped l.size;
  whole : capped (l.size + length (code_of_body (body_of (drop l.item-index l.item-items)))) ≡ capped (length (code_of_body l.body));
}
