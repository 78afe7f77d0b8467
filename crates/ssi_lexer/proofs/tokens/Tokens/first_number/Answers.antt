use Rattle.std.proofs.Common.{◌≡◌, true, refl}
use Rattle.ssi_lexer.specs.declared.token.TokenKind.TheVariants.{Number}
use Rattle.ssi_lexer.specs.TokenTests.{is_same_kind}
use Rattle.ssi_lexer.proofs.Numbers.{sees_number}
use Rattle.ssi_lexer.proofs.tokens.Tokens.first_number.Goals as goal

pub returns-in-Number-clause-some : goal.returns-in-Number-clause-some
returns-in-Number-clause-some c =
    let kind : is_same_kind c.in-Some.token.kind Number ≡ true = rw c.in-Number.is refl in
    rw (c.value.ensures, c.first_text.ensures.characters) (sees_number c.args.self.now.left c.in-Some.token c.in-Some.ensures.token kind c.first.ensures.formed)
