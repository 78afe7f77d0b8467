-- Words for the functions that decide whether a data set is well.
use Rattle.std.specs.Prelude.{ℕ, ◌-◌, ◌^◌, min, if◌then◌else◌}
use Rattle.ssi_identities.specs.declared.place.CondPlace.{CondPlace}
use Rattle.ssi_identities.specs.declared.place.BodyPlace.{BodyPlace}
use Rattle.ssi_identities.specs.Allowed.{is_decided, is_reported, is_number_of, CondScope, BodyScope}
use Rattle.ssi_identities.specs.Wells.{scope_with}

-- what a condition may name in its place
abbrev pub cond_scope_of : CondPlace → CondScope
cond_scope_of place = scope_with place.facts place.bits place.points.now

-- what a body may name in its place
abbrev pub body_scope_of : BodyPlace → BodyScope
body_scope_of place = record { guards = cond_scope_of place.guards; may_command = is_number_of (if place.is_input then is_reported else is_decided) place.counts }

-- a number, or the largest of 64 bits where it is larger
abbrev pub capped : ℕ → ℕ
capped n = min n (2 ^ 64 - 1)
