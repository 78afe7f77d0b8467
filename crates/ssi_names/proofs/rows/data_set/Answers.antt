use Rattle.std.proofs.Common.{◌≡◌, map, ap, ◌∙◌}
use Rattle.ssi_terms.specs.declared.tree.Spot.{Spot}
use Rattle.ssi_terms.specs.Trees.{IdentityText}
use Rattle.ssi_names.specs.declared.source.SourceTree.TheInside.{Inside}
use Rattle.ssi_names.specs.Rows.{module_row, points_row, route_row, sub_row}
use Rattle.ssi_names.specs.SourceTexts.{SourceText}
use Rattle.ssi_names.specs.Tables.{table_of}
use Rattle.ssi_names.specs.Texts.{characters}
use Rattle.ssi_names.proofs.rows.data_set.Goals as goal

pub returns : goal.returns
returns c =
    let text = c.args.text.now in
    let names = table_of c.args.tables.now in
    let tree = c.args.tree.now in
    let inside = c.tree-inside.view_is in
    let files = c.files.view_is ∙ ap (λ (t : Inside). t.identities) inside ∙ ap (λ (t : SourceText). t.identities) c.tree.view_is in
    let free : c.as_slice-2.result.now ≡ tree.free = c.as_slice-2.ensures.value ∙ ap (λ (t : Inside). t.free) inside ∙ ap (λ (t : SourceText). t.free) c.tree.view_is in
    let outputs : c.as_slice-4.result.now ≡ tree.outputs = c.as_slice-4.ensures.value ∙ ap (λ (t : Inside). t.outputs) inside ∙ ap (λ (t : SourceText). t.outputs) c.tree.view_is in
    let inputs : c.as_slice-5.result.now ≡ tree.inputs = c.as_slice-5.ensures.value ∙ ap (λ (t : Inside). t.inputs) inside ∙ ap (λ (t : SourceText). t.inputs) c.tree.view_is in
    let points = c.in_ok-points.ensures ∙ ap (λ rules. map (points_row text names rules) c.as_slice.result.now) free
    ∙ ap (map (points_row text names tree.free)) (c.as_slice.ensures.value ∙ ap (λ (t : IdentityText). t.points) files) in
    let modules = c.in_ok-modules.ensures ∙ ap (λ os. map (module_row text names os c.as_slice-5.result.now) c.as_slice-3.result.now) outputs
    ∙ ap (λ is. map (module_row text names tree.outputs is) c.as_slice-3.result.now) inputs
    ∙ ap (map (module_row text names tree.outputs tree.inputs)) (c.as_slice-3.ensures.value ∙ ap (λ (t : IdentityText). t.modules) files) in
    let name = λ (spot : Spot). characters text spot in
    let signals = c.in_ok-rows.ensures ∙ ap (map name) (c.as_slice-6.ensures.value ∙ ap (λ (t : IdentityText). t.signals) files) in
    let tracks = c.in_ok-rows-2.ensures ∙ ap (map name) (c.as_slice-7.ensures.value ∙ ap (λ (t : IdentityText). t.tracks) files) in
    let routes = c.in_ok-rows-3.ensures ∙ ap (map (route_row text names)) (c.as_slice-8.ensures.value ∙ ap (λ (t : IdentityText). t.routes) files) in
    let subs = c.in_ok-rows-4.ensures ∙ ap (map (sub_row text names)) (c.as_slice-9.ensures.value ∙ ap (λ (t : IdentityText). t.subs) files) in
    let flags = c.in_ok-rows-5.ensures ∙ ap (map name) (c.as_slice-10.ensures.value ∙ ap (λ (t : IdentityText). t.flags) files) in
    (λ i. record {
      points = points i;
      signals = signals i;
      tracks = tracks i;
      routes = routes i;
      subs = subs i;
      flags = flags i;
      requests = c.requires.rows.requests i;
      statements = c.requires.rows.statements i;
      modules = modules i;
    })
