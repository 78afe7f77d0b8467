-- What the readers of conditions, bodies, entries and a header compute, as functions of the tokens that are left. Proofs
-- go by it, and the parts that are offered to the layers above: Grammar says what is read, and ConditionRules and
-- BodyRules that it is the same.
use Rattle.std.specs.Prelude.{ℕ, zero, suc, Bool, codes, List, [], ◌∷◌, Option}
use Rattle.ssi_lexer.specs.Lexemes.{Lexeme}
use Rattle.ssi_lexer.specs.TokenTests.{word, name, dot}
use Rattle.ssi_lexer.specs.Parsers.{Outcome, Parser, and_then, ◌&◌, pure, mapped, tok, either, maybe, separated, several_by, too_deep}
use Rattle.ssi_terms.specs.declared.tree.Spot.{Spot}
use Rattle.ssi_terms.specs.declared.tree.CommandTree.{CommandTree}
use Rattle.ssi_terms.specs.declared.tree.ItemTree.{ItemTree}
use Rattle.ssi_terms.specs.declared.tree.ItemTree.TheVariants as i
use Rattle.ssi_terms.specs.declared.tree.CondTree.{CondTree}
use Rattle.ssi_terms.specs.declared.tree.PartTree.{PartTree}
use Rattle.ssi_terms.specs.declared.tree.PartTree.TheVariants as p
use Rattle.ssi_terms.specs.declared.tree.BodyTree.{BodyTree}
use Rattle.ssi_terms.specs.Tests.{spot_at, any_identity, any_number, rule_word, bit_word, opens, closes}

-- where a token stands that passes the test
unfoldable pub spot : (Lexeme → Bool) → Parser Spot
spot test = mapped spot_at (tok test)

unfoldable pub test : Parser ItemTree
test = mapped (λ x. i.Test x.0 x.1) (spot any_identity & spot rule_word)

unfoldable pub bit : Parser ItemTree
bit = mapped (λ x. i.Bit x.0 x.1) (spot any_number & spot bit_word)

-- an item and a condition, by the reader of the groups in them
unfoldable pub item_by : Parser (List CondTree) → Parser ItemTree
item_by group = either opens (mapped i.Any group) (either any_number bit test)

-- a condition of the items that were read
abbrev pub cond_of : Outcome (List ItemTree) → Outcome CondTree
cond_of read = and_then read (λ items. pure (record { items = items }))

unfoldable pub cond_by : Parser (List CondTree) → Parser CondTree
cond_by group ts = cond_of (separated (item_by group) ts)

-- a group, by the reader of the conditions in it
unfoldable pub group_by : Parser CondTree → Parser (List CondTree)
group_by cond = mapped (λ x. x.1.0) (tok opens & (several_by (word (codes "or")) cond & tok closes))

-- where so many levels of groups may be opened
unfoldable pub group : ℕ → Parser (List CondTree)
group zero = too_deep
group (suc groups) = group_by (cond_by (group groups))

unfoldable pub cond : ℕ → Parser CondTree
cond groups = cond_by (group groups)

unfoldable pub command : Parser CommandTree
command = mapped (λ x. record { name = x.0; word = x.1 }) (spot any_identity & spot rule_word)

-- a part and a body, by the reader of the choices in them
unfoldable pub part_by : Parser PartTree → Parser PartTree
part_by choice = either (word (codes "if")) choice (mapped p.Do command)

-- a body of the parts that were read
abbrev pub body_of : Outcome (List PartTree) → Outcome BodyTree
body_of read = and_then read (λ parts. pure (record { parts = parts }))

unfoldable pub body_by : Parser PartTree → Parser BodyTree
body_by choice ts = body_of (separated (part_by choice) ts)

unfoldable pub otherwise_by : Parser BodyTree → Parser BodyTree
otherwise_by body = mapped (λ x. x.1) (tok (word (codes "else")) & body)

unfoldable pub maybe_otherwise_by : Parser BodyTree → Parser (Option BodyTree)
maybe_otherwise_by body = maybe (word (codes "else")) (otherwise_by body)

-- a choice, by the readers of its guard and its branches
unfoldable pub choice_by : Parser CondTree → Parser BodyTree → Parser PartTree
choice_by cond body =
    mapped (λ x. p.If x.1.0 x.1.1.1.0 x.1.1.1.1.0)
    (tok (word (codes "if")) & (cond & (tok (word (codes "then")) & (body & (maybe_otherwise_by body & tok (word (codes "end")))))))

-- where so many levels of groups may be opened in each guard, and so many levels of choices
unfoldable pub choice : ℕ → ℕ → Parser PartTree
choice groups zero = too_deep
choice groups (suc choices) = choice_by (cond groups) (body_by (choice groups choices))

unfoldable pub body : ℕ → ℕ → Parser BodyTree
body groups choices = body_by (choice groups choices)

-- an entry that is a name
unfoldable pub name_entry : (Lexeme → Bool) → Parser Spot
name_entry test = mapped (λ x. x.0) (spot test & tok dot)

unfoldable pub header : List ℕ → Parser (Unit {0})
header file = mapped (λ _. tt) (tok (word (codes "file")) & tok (name file))
