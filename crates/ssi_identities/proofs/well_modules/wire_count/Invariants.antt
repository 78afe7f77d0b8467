use Rattle.std.proofs.Common.{◌≡◌, ◌+◌, ◌==◌, [], drop}
use Rattle.std.specs.Prelude.{if◌then◌else◌}
use Rattle.std.specs.List.{count_by, flat_map}
use Rattle.ssi_identities.specs.Deciding.{capped}
use Rattle.ssi_identities.specs.Wells.{is_wired_to, pins_of_kind}
use Rattle.ssi_identities.proofs.well_modules.wire_count.Given as goal

-- with the pins of the modules that are left it is the whole
abbrev pub invariant-loop-row : goal.invariant-loop-row
invariant-loop-row l = record {
  few : l.count ≡ capped l.count;
  whole : capped (l.count + count_by (is_wired_to l.identity) (flat_map (λ row. if row.kind == l.kind then row.pins else []) (drop l.row-index l.row-items)))
      ≡ capped (count_by (is_wired_to l.identity) (pins_of_kind l.plan l.kind));
}
