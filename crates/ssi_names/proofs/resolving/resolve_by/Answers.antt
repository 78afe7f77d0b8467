use Rattle.std.proofs.Common.{◌≡◌, length, ap, sym, ◌∙◌, arith, rules}
use Rattle.std.proofs.lemmas.Bool.Decides.{nat_tests}
use Rattle.std.proofs.lemmas.Grind.{common_steps}
use Rattle.std.proofs.lemmas.List.{nil_from_length}
use Rattle.ssi_names.specs.Tables.{table_of}
use Rattle.ssi_names.proofs.Fine.{tables_within_limits}
use Rattle.ssi_names.proofs.Known.{same_faults}
use Rattle.ssi_names.proofs.Numbered.{rows_are}
use Rattle.ssi_names.proofs.resolving.resolve_by.Goals as goal

pub judge_source-requires-clause-short : goal.judge_source-requires-clause-short
judge_source-requires-clause-short c = c.requires.formed.requests

pub accept-requires-clause-fine : goal.accept-requires-clause-fine
accept-requires-clause-fine c =
    let faults = c.in-Ok.judged.faults in
    let none : length faults.items ≡ 0 = first_of (search rules, grind (arith, common_steps, nat_tests)) in
    sym (c.in-Ok.ensures.faults ∙ same_faults c.args.text.now c.args.tree.now c.args.tables.now c.requires.tables) ∙ nil_from_length faults.items none

pub accept-requires-clause-rows : goal.accept-requires-clause-rows
accept-requires-clause-rows c =
    let text = c.args.text.now in
    let tree = c.args.tree.now in
    let tables = c.args.tables.now in
    let counts = c.counts_within-counts in
    let judged = c.in-Ok.judged in
    let found = c.in-Ok.ensures in
    let none : length judged.faults.items ≡ 0 = first_of (search rules, grind (arith, common_steps, nat_tests)) in
    let fine = sym (found.faults ∙ same_faults text tree tables c.requires.tables) ∙ nil_from_length judged.faults.items none in
    rows_are text counts.result (table_of tables) tree judged counts.ensures.limited counts.ensures.past (tables_within_limits text tree tables c.requires.tables fine)
    (record { requests = found.requests; moves = found.moves; statements = found.statements; outputs = found.outputs; inputs = found.inputs })

pub returns-else-is_empty : goal.returns-else-is_empty
returns-else-is_empty c =
    let faults = c.in-Ok.judged.faults in
    let same = c.in-Ok.ensures.faults ∙ same_faults c.args.text.now c.args.tree.now c.args.tables.now c.requires.tables in
    (λ none. let no : length faults.items ≡ 0 = ap length (same ∙ none) in grind (arith, common_steps, nat_tests), same)
