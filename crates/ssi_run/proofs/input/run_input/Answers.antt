use Rattle.std.proofs.Common.{◌≤◌, ◌∙◌, List, ℕ, length, refl, subst, sym}
use Rattle.ssi_lexer.specs.Readings.{Reading}
use Rattle.ssi_lexer.specs.Spelling.{Finding, level_too_deep, no_spelling, no_token}
use Rattle.ssi_terms.specs.declared.read_fault.ReadFault.TheVariants as f
use Rattle.ssi_terms.specs.Readers.{FindsWithin}
use Rattle.ssi_terms.specs.Tests.{ends_file}
use Rattle.ssi_names.specs.SourceTexts.{SourceText}
use Rattle.ssi_names.specs.Sources.{SpellsSource}
use Rattle.ssi_run.specs.declared.status.Status.TheVariants.{Faulty}
use Rattle.ssi_run.specs.Answers.{RunsText, ToEnd}
use Rattle.ssi_run.specs.FaultLines.{lexical_line, syntax_line, depth_line}
use Rattle.ssi_run.specs.Statuses.{input_limit}
use Rattle.ssi_run.proofs.Layers.{Tree, in_case, input_of_tree, spelled_still}
use Rattle.ssi_run.proofs.Replying.{mapped, replies_alone}
use Rattle.ssi_run.proofs.input.run_input.Goals as goal

-- what is in the tokens
abbrev Found : Reading → Finding SourceText → Type 0
Found tokens = FindsWithin SourceText SpellsSource ends_file tokens.left tokens.end

pub run_tree-requires-clause-short : goal.run_tree-requires-clause-short
run_tree-requires-clause-short g c = subst (λ (text : List ℕ). length text ≤ input_limit) (sym (c.read_source.ensures.goes_on.text ∙ c.new-tokens.ensures.text)) c.requires.short

pub run_tree-requires-clause-spelled : goal.run_tree-requires-clause-spelled
run_tree-requires-clause-spelled g c = spelled_still c.new-tokens.ensures.text c.new-tokens.ensures.tokens c.in-Ok.ensures.found c.read_source.ensures.goes_on

pub returns-in-Ok-clause-answered : goal.returns-in-Ok-clause-answered
returns-in-Ok-clause-answered g c =
    let new = c.read_source.new.tokens in
    mapped (Tree new.text _ c.in-Ok.tree new.left new.end) (RunsText c.args.input.now _)
    (input_of_tree c.new-tokens.ensures.text c.new-tokens.ensures.tokens c.in-Ok.ensures.found c.read_source.ensures.goes_on) c.run_tree.result c.run_tree.ensures.answered

pub returns-in-Err-Lex-clause-answered : goal.returns-in-Err-Lex-clause-answered
returns-in-Err-Lex-clause-answered g c =
    let inside = in_case (Found c.new-tokens.result) _ _ (f.Lex c.in-Err-Lex.fault) c.in-Err-Lex.field-0-is c.in-Err-Lex.ensures.found in
    let written = rw c.in-Err-Lex.fault-is at c.write_lexical_fault.ensures in
    rw c.told.ensures (replies_alone (RunsText c.args.input.now _) _ Faulty ToEnd (lexical_line c.in-Err-Lex.fault)
    (record { lexemes = _; end = _; tokens = c.new-tokens.ensures.tokens; answered = record { found = no_token c.in-Err-Lex.fault; there = inside; answered = refl } }) c.write_lexical_fault.result written)

pub returns-in-Err-Syntax-clause-answered : goal.returns-in-Err-Syntax-clause-answered
returns-in-Err-Syntax-clause-answered g c =
    let fault = in_case (Found c.new-tokens.result) _ _ (f.Syntax c.in-Err-Syntax.place) c.in-Err-Syntax.field-0-is c.in-Err-Syntax.ensures.found in
    let written = rw c.in-Err-Syntax.place-is at c.write_syntax_fault.ensures in
    rw c.told-in-Err-Syntax.ensures (replies_alone (RunsText c.args.input.now _) _ Faulty ToEnd (syntax_line c.in-Err-Syntax.place)
    (record { lexemes = _; end = _; tokens = c.new-tokens.ensures.tokens; answered = record { found = no_spelling c.in-Err-Syntax.place; there = fault; answered = refl } }) c.write_syntax_fault.result written)

pub returns-in-Err-TooDeep-clause-answered : goal.returns-in-Err-TooDeep-clause-answered
returns-in-Err-TooDeep-clause-answered g c =
    let fault = in_case (Found c.new-tokens.result) _ _ (f.TooDeep c.in-Err-TooDeep.place) c.in-Err-TooDeep.field-0-is c.in-Err-TooDeep.ensures.found in
    let written = rw c.in-Err-TooDeep.place-is at c.write_depth_fault.ensures in
    rw c.told-in-Err-TooDeep.ensures (replies_alone (RunsText c.args.input.now _) _ Faulty ToEnd (depth_line c.in-Err-TooDeep.place)
    (record { lexemes = _; end = _; tokens = c.new-tokens.ensures.tokens; answered = record { found = level_too_deep c.in-Err-TooDeep.place; there = fault; answered = refl } }) c.write_depth_fault.result written)
