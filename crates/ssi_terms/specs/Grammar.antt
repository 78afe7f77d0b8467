-- The grammar of conditions and bodies: which tokens spell which tree, one constructor for each rule. Groups lie in one
-- another, and so do choices: each rule is told of what may stand inside, and then by how deep that goes. Lists and options
-- are those of the reader of tokens: Listed is x { , x }, SeveralBy is x mark x { mark x }, Optional is [ x ].
use Rattle.std.specs.Prelude.{ℕ, zero, suc, codes, List, [], ◌∷◌, ◌++◌, Option}
use Rattle.ssi_lexer.specs.Lexemes.{Lexeme}
use Rattle.ssi_lexer.specs.TokenTests.{Is, word}
use Rattle.ssi_lexer.specs.Languages.{Listed, SeveralBy, Optional}
use Rattle.ssi_terms.specs.declared.tree.CommandTree.{CommandTree}
use Rattle.ssi_terms.specs.declared.tree.ItemTree.{ItemTree}
use Rattle.ssi_terms.specs.declared.tree.ItemTree.TheVariants as i
use Rattle.ssi_terms.specs.declared.tree.CondTree.{CondTree}
use Rattle.ssi_terms.specs.declared.tree.PartTree.{PartTree}
use Rattle.ssi_terms.specs.declared.tree.PartTree.TheVariants as p
use Rattle.ssi_terms.specs.declared.tree.BodyTree.{BodyTree}
use Rattle.ssi_terms.specs.Tests.{spot_of, any_identity, any_number, rule_word, bit_word, opens, closes}

-- how many levels of groups a condition has at most, and how many levels of choices a body
abbrev pub deepest : ℕ
deepest = 8

-- item = X word | N h | N l | group , where X is a name of any kind but Q
pub data ItemOf (Group : List CondTree → List Lexeme → Type 0) : ItemTree → List Lexeme → Type 0 where
  a_test : (n w : Lexeme) → Is any_identity n → Is rule_word w → ItemOf Group (i.Test (spot_of n) (spot_of w)) (n ∷ w ∷ [])
  a_bit : (n w : Lexeme) → Is any_number n → Is bit_word w → ItemOf Group (i.Bit (spot_of n) (spot_of w)) (n ∷ w ∷ [])
  a_group : (conds : List CondTree) (u : List Lexeme) → Group conds u → ItemOf Group (i.Any conds) u

-- cond = item { , item }
abbrev pub CondOf : (List CondTree → List Lexeme → Type 0) → CondTree → List Lexeme → Type 0
CondOf Group cond = Listed ItemTree (ItemOf Group) cond.items

-- group = ( cond or cond { or cond } )
pub data GroupOf (Cond : CondTree → List Lexeme → Type 0) : List CondTree → List Lexeme → Type 0 where
  the_alternatives : (o e : Lexeme) (conds : List CondTree) (u : List Lexeme) → Is opens o → SeveralBy (word (codes "or")) CondTree Cond conds u → Is closes e → GroupOf Cond conds (o ∷ (u ++ (e ∷ [])))

-- a group, where so many levels of groups may be opened
abbrev pub SpellsGroup : ℕ → List CondTree → List Lexeme → Type 0
SpellsGroup zero conds tokens = ⊥
SpellsGroup (suc groups) conds tokens = GroupOf (CondOf (SpellsGroup groups)) conds tokens

-- a condition with so many levels of groups at most
abbrev pub SpellsCond : ℕ → CondTree → List Lexeme → Type 0
SpellsCond groups = CondOf (SpellsGroup groups)

-- command = X word
pub data SpellsCommand : CommandTree → List Lexeme → Type 0 where
  a_command : (n w : Lexeme) → Is any_identity n → Is rule_word w → SpellsCommand (record { name = spot_of n; word = spot_of w }) (n ∷ w ∷ [])

-- part = command | choice
pub data PartOf (Choice : PartTree → List Lexeme → Type 0) : PartTree → List Lexeme → Type 0 where
  a_do : (command : CommandTree) (u : List Lexeme) → SpellsCommand command u → PartOf Choice (p.Do command) u
  an_if : (part : PartTree) (u : List Lexeme) → Choice part u → PartOf Choice part u

-- body = part { , part }
abbrev pub BodyOf : (PartTree → List Lexeme → Type 0) → BodyTree → List Lexeme → Type 0
BodyOf Choice body = Listed PartTree (PartOf Choice) body.parts

-- else body
pub data ElseOf (Body : BodyTree → List Lexeme → Type 0) : BodyTree → List Lexeme → Type 0 where
  an_else : (m : Lexeme) (body : BodyTree) (u : List Lexeme) → Is (word (codes "else")) m → Body body u → ElseOf Body body (m ∷ u)

-- choice = if cond then body [ else body ] end
pub data ChoiceOf (Cond : CondTree → List Lexeme → Type 0) (Body : BodyTree → List Lexeme → Type 0) : PartTree → List Lexeme → Type 0 where
  a_choice : (o m e : Lexeme) (guard : CondTree) (body : BodyTree) (other : Option BodyTree) (u v w : List Lexeme) → Is (word (codes "if")) o
      → Cond guard u → Is (word (codes "then")) m → Body body v → Optional BodyTree (ElseOf Body) other w → Is (word (codes "end")) e
      → ChoiceOf Cond Body (p.If guard body other) (o ∷ (u ++ (m ∷ (v ++ (w ++ (e ∷ []))))))

-- a choice, where so many levels of choices may be opened; each guard has levels of groups of its own
abbrev pub SpellsChoice : ℕ → ℕ → PartTree → List Lexeme → Type 0
SpellsChoice groups zero part tokens = ⊥
SpellsChoice groups (suc choices) part tokens = ChoiceOf (SpellsCond groups) (BodyOf (SpellsChoice groups choices)) part tokens

-- a body with so many levels of groups in each guard at most, and so many levels of choices
abbrev pub SpellsBodyBy : ℕ → ℕ → BodyTree → List Lexeme → Type 0
SpellsBodyBy groups choices = BodyOf (SpellsChoice groups choices)

-- a body with so many levels of each at most
abbrev pub SpellsBody : ℕ → BodyTree → List Lexeme → Type 0
SpellsBody depth = SpellsBodyBy depth depth
