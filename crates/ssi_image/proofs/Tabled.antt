-- What the tables of a well data set want of its modules.
use Rattle.std.proofs.Common.{◌≡◌, ℕ, ◌<◌, ◌≤◌, ◌==◌, List, [], ◌∷◌, length, map, refl, ap, sym, subst, ◌∙◌, arith}
use Rattle.std.specs.Prelude.{All, if◌then◌else◌, get_or}
use Rattle.std.proofs.lemmas.List.{length-map}
use Rattle.std.proofs.lemmas.List.Elements.{All-nil, All-cons, All-head, All-tail}
use Rattle.ssi_identities.specs.DataSets.{ModulePlan, Plan}
use Rattle.ssi_identities.specs.Wells.{IsWell, IsWellModule, pin_count}
use Rattle.ssi_image.specs.Packed.{Packed, Wiring, packed_of, packed_points, wiring_of}

pin_count_small : (kind : ℕ) → pin_count kind ≤ 8
pin_count_small kind = grind arith

each_small : (plan : Plan) (rows : List ModulePlan) → All (IsWellModule plan) rows → All (λ (row : Wiring). row.address < 64) (map wiring_of rows)
each_small plan [] all = All-nil (λ (row : Wiring). row.address < 64)
each_small plan (row ∷ rows) all =
    All-cons (λ (row : Wiring). row.address < 64) (wiring_of row) (map wiring_of rows) (All-head (IsWellModule plan) row rows all).few (each_small plan rows (All-tail (IsWellModule plan) row rows all))

each_short : (plan : Plan) (rows : List ModulePlan) → All (IsWellModule plan) rows → All (λ (row : Wiring). length row.pins ≤ 8) (map wiring_of rows)
each_short plan [] all = All-nil (λ (row : Wiring). length row.pins ≤ 8)
each_short plan (row ∷ rows) all =
    let few : length row.pins ≤ 8 = omega (arith, (All-head (IsWellModule plan) row rows all).pins, pin_count_small row.kind) in
    All-cons (λ (row : Wiring). length row.pins ≤ 8) (wiring_of row) (map wiring_of rows) few (each_short plan rows (All-tail (IsWellModule plan) row rows all))

pub addresses_small : (plan : Plan) (packed : Packed) → IsWell plan → packed ≡ packed_of plan → All (λ (row : Wiring). row.address < 64) packed.modules
addresses_small plan packed well is = subst (λ (p : Packed). All (λ (row : Wiring). row.address < 64) p.modules) (sym is) (each_small plan plan.modules well.wiring.modules)

pub pins_few : (plan : Plan) (packed : Packed) → IsWell plan → packed ≡ packed_of plan → All (λ (row : Wiring). length row.pins ≤ 8) packed.modules
pins_few plan packed well is = subst (λ (p : Packed). All (λ (row : Wiring). length row.pins ≤ 8) p.modules) (sym is) (each_short plan plan.modules well.wiring.modules)

pub modules_few : (plan : Plan) (packed : Packed) → IsWell plan → packed ≡ packed_of plan → length packed.modules ≤ 63
modules_few plan packed well is = omega (arith, ap (λ (p : Packed). length p.modules) is, length-map plan.modules wiring_of, well.size.few_modules)

-- so many points, signals and tracks as a layout has at most
pub record AreFew (packed : Packed) : Type 0 where
  pub points : length packed.points ≤ 126
  pub signals : length packed.signals ≤ 504
  pub tracks : length packed.tracks ≤ 504

pub rows_few : (plan : Plan) (packed : Packed) → IsWell plan → packed ≡ packed_of plan → AreFew packed
rows_few plan packed well is = subst AreFew (sym is) (record { points = omega (arith, length-map plan.points packed_points, well.size.limits.points); signals = well.size.limits.signals; tracks = well.size.limits.tracks })
