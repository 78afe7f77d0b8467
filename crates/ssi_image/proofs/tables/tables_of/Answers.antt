use Rattle.std.proofs.Common.{◌≡◌, arith, List, length, map, ap, ◌∙◌}
use Rattle.std.proofs.lemmas.Grind.{common_steps}
use Rattle.std.proofs.lemmas.List.{length-map}
use Rattle.ssi_image.specs.Packed.{Packed, packed_points, wiring_of}
use Rattle.ssi_image.proofs.tables.tables_of.Goals as goal

pub returns : goal.returns
returns c = λ plan is.
    let modules : c.as_slice-modules.result.now ≡ map wiring_of plan.modules = c.as_slice-modules.ensures.value ∙ ap (λ (p : Packed). p.modules) (c.rows.view_is ∙ is) in
    record {
      addresses = c.in_ok-places.ensures.long;
      places_are = c.in_ok-places.ensures.places plan modules;
      points_long = c.in_ok-wires.ensures.long
          ∙ (let view = ap (λ (p : Packed). length p.points) (c.rows.view_is ∙ is) ∙ length-map plan.points packed_points in let own = c.len.ensures in grind (arith, common_steps));
      points_are = c.in_ok-wires.ensures.wires plan modules;
      signals_long = c.in_ok-wires-2.ensures.long ∙ (let view = ap (λ (p : Packed). length p.signals) (c.rows.view_is ∙ is) in let own = c.len-2.ensures in grind (arith, common_steps));
      signals_are = c.in_ok-wires-2.ensures.wires plan modules;
      tracks_long = c.in_ok-wires-3.ensures.long ∙ (let view = ap (λ (p : Packed). length p.tracks) (c.rows.view_is ∙ is) in let own = c.len-3.ensures in grind (arith, common_steps));
      tracks_are = c.in_ok-wires-3.ensures.wires plan modules;
    }
