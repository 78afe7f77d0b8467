use Rattle.std.proofs.Common.{◌≡◌, ◌<◌, map, ℕ, length, ◌%◌}
use Rattle.ssi_trackside.specs.Module.{fresh}
use Rattle.ssi_trackside.specs.Shelf.{module_at}
use Rattle.ssi_trackside.proofs.shelf.is_shelf.Given as goal

abbrev pub invariant-loop-place : goal.invariant-loop-place
invariant-loop-place g l = record {
  full : length l.shelf.items ≡ 189;
  each : (k : ℕ) → k < l.place → module_at (map (λ b. (goal.Trackside-dyn g (b.vtable, b.value)).state b.value) l.shelf.items) k ≡ fresh (k % 3);
}
