use Rattle.std.proofs.Common.{ap, ◌∙◌}
use Rattle.ssi_terms.specs.declared.tree.Spot.{Spot}
use Rattle.ssi_terms.specs.Trees.{IdentityText, ModuleText, PointsText, RouteText, SubText}
use Rattle.ssi_names.specs.Declarations.{pins_of}
use Rattle.ssi_names.specs.declared.tables.Tables.{Tables}
use Rattle.ssi_names.specs.Texts.{characters}
use Rattle.ssi_names.proofs.Known.{added}
use Rattle.ssi_names.proofs.tables.add_identities.Goals as goal

pub returns : goal.returns
returns c =
    let text = c.args.text.now in
    let none = c.requires in
    let tree = c.tree.view_is in
    let points = added (λ (e : PointsText). characters text e.name) _ _ _ _ c.in_ok-add_names.ensures (ap (λ (t : Tables). t.points) none)
    (c.as_slice.ensures.value ∙ ap (λ (t : IdentityText). t.points) tree) in
    let signals = added (λ (e : Spot). characters text e) _ _ _ _ c.in_ok-add_names-2.ensures (ap (λ (t : Tables). t.signals) none)
    (c.as_slice-2.ensures.value ∙ ap (λ (t : IdentityText). t.signals) tree) in
    let tracks = added (λ (e : Spot). characters text e) _ _ _ _ c.in_ok-add_names-3.ensures (ap (λ (t : Tables). t.tracks) none)
    (c.as_slice-3.ensures.value ∙ ap (λ (t : IdentityText). t.tracks) tree) in
    let routes = added (λ (e : RouteText). characters text e.name) _ _ _ _ c.in_ok-add_names-4.ensures (ap (λ (t : Tables). t.routes) none)
    (c.as_slice-4.ensures.value ∙ ap (λ (t : IdentityText). t.routes) tree) in
    let subs = added (λ (e : SubText). characters text e.name) _ _ _ _ c.in_ok-add_names-5.ensures (ap (λ (t : Tables). t.subs) none)
    (c.as_slice-5.ensures.value ∙ ap (λ (t : IdentityText). t.subs) tree) in
    let flags = added (λ (e : Spot). characters text e) _ _ _ _ c.in_ok-add_names-6.ensures (ap (λ (t : Tables). t.flags) none)
    (c.as_slice-6.ensures.value ∙ ap (λ (t : IdentityText). t.flags) tree) in
    let wired = added (λ (pin : Spot × Spot). characters text pin.0) _ _ _ _ c.in_ok-add_wired.ensures (ap (λ (t : Tables). t.wired) none)
    (ap pins_of (c.as_slice-7.ensures.value ∙ ap (λ (t : IdentityText). t.modules) tree)) in
    let addresses = added (λ (e : ModuleText). characters text e.address) _ _ _ _ c.in_ok-add_names-7.ensures (ap (λ (t : Tables). t.addresses) none)
    (c.as_slice-8.ensures.value ∙ ap (λ (t : IdentityText). t.modules) tree) in
    (λ i. record {
      points = points i;
      signals = signals i;
      tracks = tracks i;
      routes = routes i;
      subs = subs i;
      flags = flags i;
      requests = ap (λ (t : Tables). t.requests) none i;
      wired = wired i;
      addresses = addresses i;
      free_normal = ap (λ (t : Tables). t.free_normal) none i;
      free_reverse = ap (λ (t : Tables). t.free_reverse) none i;
    })
