use Rattle.std.proofs.Common.{◌≡◌, ◌+◌, length, drop, map}
use Rattle.std.specs.List.{concat}
use Rattle.ssi_identities.specs.Codes.{code_of_cond, code_of_item, with_length}
use Rattle.ssi_identities.specs.Deciding.{capped}
use Rattle.ssi_identities.specs.Values.{cond_of}
use Rattle.ssi_identities.proofs.well_conditions.+size.Given as goal

-- with the code of what is left it is the whole
abbrev pub invariant-cond_size-loop-item : goal.invariant-cond_size-loop-item
invariant-cond_size-loop-item l = record {
  few : l.size ≡ capped l.size;
  whole : capped (l.size + length (code_of_cond (cond_of (drop l.item-index l.item-items)))) ≡ capped (length (code_of_cond l.cond));
}

abbrev pub invariant-item_size-loop-cond : goal.invariant-item_size-loop-cond
invariant-item_size-loop-cond l = record {
  few : l.size ≡ capped l.size;
  whole : capped (l.size + length (concat (map with_length (map code_of_cond (drop l.cond-index l.cond-items))))) ≡ capped (length (code_of_item l.item));
}
