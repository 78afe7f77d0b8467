use Rattle.std.proofs.Common.{◌+◌, List, ℕ, sym, ap, ◌∙◌, take, drop}
use Rattle.ssi_lexer.specs.Pieces.{A, is_piece}
use Rattle.ssi_lexer.specs.Scan.{stream, code_of, goes_on}
use Rattle.ssi_lexer.proofs.Runs.{take_piece, drop_piece}
use Rattle.ssi_lexer.proofs.Fronts.{kind_at_no_gap, no_feed_no_gap, no_code, a_code, bad_front, token_front, fault_front, its_characters}
use Rattle.ssi_lexer.proofs.scan.cut_token.Goals as goal

pub returns-in_default : goal.returns-in_default
returns-in_default c = record {
  tokens =
      c.fault.ensures.tokens
      ∙ bad_front c.args.front.now.cursor c.args.first c.args.more.now (kind_at_no_gap c.args.first _ c.requires.no_gap (sym c.in_default.is ∙ c.kind_at.ensures))
      ∙ ap (stream c.args.front.now.cursor) (sym c.requires.parts);
  within = c.fault.ensures.within;
  characters = c.fault.ensures.characters;
}

pub returns-in-None : goal.returns-in-None
returns-in-None c =
    let kind = c.in-Some.kind in
    let more = c.args.more.now in
    let is_kind = kind_at_no_gap c.args.first _ c.requires.no_gap (sym c.in-Some.is ∙ c.kind_at.ensures) in
    let chars = c.split_at.ensures.front ∙ ap (take (1 + c.run_len.result)) c.requires.parts ∙ take_piece (A kind) c.run_len.result c.args.first more c.run_len.ensures.value in
    let rest = c.split_at.ensures.back ∙ ap (drop (1 + c.run_len.result)) c.requires.parts ∙ drop_piece (A kind) c.run_len.result c.args.first more c.run_len.ensures.value in
    let piece = no_code (is_piece (A kind) c.split_at.result.0.now) (code_of (A kind)) (sym c.in-None.is ∙ c.code_of.ensures) in
    record {
      tokens =
          ap (λ (cs : List ℕ). goes_on c.one.new.front.ahead cs (stream c.one.new.front.cursor c.one.new.front.rest.now)) c.one.ensures.characters
          ∙ token_front kind c.args.front.now.cursor c.args.first more c.split_at.result.0.now c.one.new.front.rest.now c.one.new.front.ahead c.one.new.front.cursor
          is_kind (no_feed_no_gap c.args.first c.requires.no_gap.no_separator) chars (c.one.ensures.rest ∙ rest) piece c.one.ensures.ahead c.one.ensures.cursor
          ∙ ap (stream c.args.front.now.cursor) (sym c.requires.parts);
      within = c.one.ensures.within;
      characters = its_characters kind c.args.front.now.cursor c.split_at.result.0.now c.one.new.front.characters.now c.one.new.front.ahead c.one.ensures.characters c.one.ensures.ahead;
    }

pub returns-in-Some-code_of : goal.returns-in-Some-code_of
returns-in-Some-code_of c =
    let kind = c.in-Some.kind in
    let more = c.args.more.now in
    let is_kind = kind_at_no_gap c.args.first _ c.requires.no_gap (sym c.in-Some.is ∙ c.kind_at.ensures) in
    let chars = c.split_at.ensures.front ∙ ap (take (1 + c.run_len.result)) c.requires.parts ∙ take_piece (A kind) c.run_len.result c.args.first more c.run_len.ensures.value in
    let bad = a_code (is_piece (A kind) c.split_at.result.0.now) (code_of (A kind)) c.in-Some-code_of.code (sym c.in-Some-code_of.is ∙ c.code_of.ensures) in
    record {
      tokens =
          c.fault-in-Some-code_of.ensures.tokens
          ∙ fault_front kind c.args.front.now.cursor c.args.first more c.split_at.result.0.now c.in-Some-code_of.code is_kind chars bad
          ∙ ap (stream c.args.front.now.cursor) (sym c.requires.parts);
      within = c.fault-in-Some-code_of.ensures.within;
      characters = c.fault-in-Some-code_of.ensures.characters;
    }
