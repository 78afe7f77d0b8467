-- What the grammar says of the tree of a source.
use Rattle.std.specs.Prelude.{ℕ, ◌<◌, ◌≤◌, List, length, All}
use Rattle.ssi_identities.specs.declared.fact.Kind.{Kind}
use Rattle.ssi_identities.specs.IdentityNames.{IsNameOf}
use Rattle.ssi_lexer.specs.Limits.{text_limit}
use Rattle.ssi_lexer.specs.Languages.{Listed}
use Rattle.ssi_lexer.specs.Lexemes.{Lexeme}
use Rattle.ssi_terms.specs.declared.tree.BodyTree.{BodyTree}
use Rattle.ssi_terms.specs.declared.tree.CommandTree.{CommandTree}
use Rattle.ssi_terms.specs.declared.tree.CondTree.{CondTree}
use Rattle.ssi_terms.specs.Grammar.{deepest, SpellsBody, SpellsCommand, SpellsCond}
use Rattle.ssi_names.specs.Declarations.{declared}
use Rattle.ssi_names.specs.SourceTexts.{SourceText}

-- some tokens spell it, no more than 2,097,152
pub record IsSpelledByFew (X : Type 0) (spells : X → List Lexeme → Type 0) (x : X) : Type 0 where
  pub tokens : List Lexeme
  pub spelled : spells x tokens
  pub few : length tokens ≤ text_limit

-- conditions, bodies and lists of commands that are spelled so
abbrev pub IsSpelledCond : CondTree → Type 0
IsSpelledCond = IsSpelledByFew CondTree (SpellsCond deepest)

abbrev pub IsSpelledBody : BodyTree → Type 0
IsSpelledBody = IsSpelledByFew BodyTree (SpellsBody deepest)

abbrev pub AreSpelledCommands : List CommandTree → Type 0
AreSpelledCommands = IsSpelledByFew (List CommandTree) (Listed CommandTree SpellsCommand)

-- names are those of identities of their kind, of 16 characters at most, points have a track and routes a sub-route, and
-- conditions, bodies and commands are spelled by tokens of a text of 2 MiB at most
pub record IsFormed (text : List ℕ) (tree : SourceText) : Type 0 where
  pub points : All (λ entry. entry.name.len ≤ 16) tree.identities.points
  pub signals : All (λ spot. spot.len ≤ 16) tree.identities.signals
  pub tracks : All (λ spot. spot.len ≤ 16) tree.identities.tracks
  pub routes : All (λ entry. entry.name.len ≤ 16) tree.identities.routes
  pub subs : All (λ entry. entry.name.len ≤ 16) tree.identities.subs
  pub flags : All (λ spot. spot.len ≤ 16) tree.identities.flags
  pub requests : All (λ entry. entry.0.len ≤ 16) tree.requests
  pub tracks_of_points : All (λ entry. 0 < length entry.tracks) tree.identities.points
  pub subs_of_routes : All (λ entry. 0 < length entry.subs) tree.identities.routes
  pub bodies : All (λ entry. IsSpelledBody entry.1) tree.requests
  pub moves : All (λ rule. IsSpelledCond rule.2) tree.free
  pub commands : All (λ statement. AreSpelledCommands statement.commands) tree.statements
  pub guards : All (λ statement. IsSpelledCond statement.guard) tree.statements
  pub outputs : All (λ entry. All (λ bit. IsSpelledCond bit.1) entry.bits) tree.outputs
  pub inputs : All (λ entry. IsSpelledBody entry.1) tree.inputs
  pub names : (kind : Kind) → All (IsNameOf kind) (declared text tree kind)
