use Rattle.std.proofs.Common.{◌≡◌, false, true, ap, ◌∙◌}
use Rattle.ssi_names.specs.declared.source.SourceTree.TheInside.{Inside}
use Rattle.ssi_names.specs.declared.tables.Tables.{Tables}
use Rattle.ssi_names.specs.Declarations.{points_with_rules}
use Rattle.ssi_names.specs.SourceTexts.{SourceText}
use Rattle.ssi_names.specs.Tables.{tables_of_identities}
use Rattle.ssi_names.specs.Texts.{characters}
use Rattle.ssi_terms.specs.declared.tree.BodyTree.{BodyTree}
use Rattle.ssi_terms.specs.declared.tree.Spot.{Spot}
use Rattle.ssi_names.proofs.Known.{added, added_names, tables_are}
use Rattle.ssi_names.proofs.tables.tables_of.Goals as goal

pub returns : goal.returns
returns c =
    let text = c.args.text.now in
    let inside = c.tree.inside in
    let seen : SourceText = record {
      identities = inside.identities;
      requests = inside.requests;
      free = inside.free;
      statements = inside.statements;
      outputs = inside.outputs;
      inputs = inside.inputs;
    } in
    let same : seen ≡ c.args.tree.now = c.tree.view_is in
    let files = c.tree-inside.view_is in
    let found = c.in_ok-add_identities.ensures in
    let tables : c.add_identities.new.tables ≡ tables_of_identities text seen.identities = found ∙ ap (λ (t : Inside). tables_of_identities text t.identities) files in
    let requests : c.as_slice-requests.result.now ≡ seen.requests = c.as_slice-requests.ensures.value ∙ ap (λ (t : Inside). t.requests) files in
    let rules : c.as_slice-rules.result.now ≡ seen.free = c.as_slice-rules.ensures.value ∙ ap (λ (t : Inside). t.free) files in
    tables_are text seen c.args.tree.now c.add_identities.new.tables c.add_names.new.names c.add_rules.new.normal c.add_rules.new.reverse same tables
    (added (λ (e : Spot × BodyTree). characters text e.0) _ _ c.as_slice-requests.result.now seen.requests c.in_ok-add_names.ensures (ap (λ (t : Tables). t.requests) found) requests)
    (added_names _ _ _ _ c.in_ok-add_rules.ensures.normal (ap (λ (t : Tables). t.free_normal) found) (ap (λ r. points_with_rules text r false) rules))
    (added_names _ _ _ _ c.in_ok-add_rules.ensures.reverse (ap (λ (t : Tables). t.free_reverse) found) (ap (λ r. points_with_rules text r true) rules))
