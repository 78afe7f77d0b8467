use Rattle.std.proofs.Common.{◌∙◌, drop}
use Rattle.ssi_lexer.specs.Scan.{tokens_of}
use Rattle.ssi_lexer.proofs.Streams.{first_cursor, from_byte, tokens_are, same_tokens, front_formed}
use Rattle.ssi_lexer.proofs.Standing.{stream_stands}
use Rattle.ssi_lexer.proofs.tokens.Tokens.new.Goals as goal

pub invariant_of-result : goal.invariant_of-result
invariant_of-result c =
    let text = c.args.text.now in
    record {
      within = c.front_of.ensures.within;
      characters = c.front_of.ensures.characters;
      formed = front_formed (first_cursor c.args.start) (drop c.args.start text) (tokens_of c.front_of.result) (c.front_of.ensures.tokens ∙ from_byte c.args.start text);
      stand = stream_stands text c.args.start (tokens_of c.front_of.result) c.requires.within (c.front_of.ensures.tokens ∙ from_byte c.args.start text);
    }

pub returns-clause-tokens : goal.returns-clause-tokens
returns-clause-tokens c =
    let text = c.args.text.now in
    tokens_are text c.args.start (tokens_of c.front_of.result) (c.front_of.ensures.tokens ∙ from_byte c.args.start text)

pub returns-clause-only : goal.returns-clause-only
returns-clause-only c = λ lexemes end are.
    let text = c.args.text.now in
    let found = tokens_are text c.args.start (tokens_of c.front_of.result) (c.front_of.ensures.tokens ∙ from_byte c.args.start text) in
    same_tokens text c.args.start lexemes (tokens_of c.front_of.result).0 end (tokens_of c.front_of.result).1 are found
