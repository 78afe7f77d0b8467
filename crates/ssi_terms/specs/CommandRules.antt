-- That the reader of commands is one of their rule of the grammar. No clause cites this file: the trait of readers asks for
-- the law, and the kit takes the proof of a law from specs.
use Rattle.std.proofs.Common.{List, [], ◌∷◌, refl}
use Rattle.ssi_lexer.specs.Lexemes.{Lexeme}
use Rattle.ssi_lexer.specs.Laws.{StartsWith, Always, Good}
use Rattle.ssi_lexer.proofs.Joining.{good_as}
use Rattle.ssi_terms.specs.declared.tree.Spot.{Spot}
use Rattle.ssi_terms.specs.declared.tree.CommandTree.{CommandTree}
use Rattle.ssi_terms.specs.Tests.{any_identity, rule_word}
use Rattle.ssi_terms.specs.Grammar.{SpellsCommand, a_command}
use Rattle.ssi_terms.specs.SpotRules.{TwoSpots, two_spots, good_two, good_any_identity, good_rule_word}
use Rattle.ssi_terms.specs.Read as spec

abbrev command_of : Spot → Spot → CommandTree
command_of name word = record { name = name; word = word }

abbrev CommandText : CommandTree → List Lexeme → Type 0
CommandText = TwoSpots any_identity rule_word CommandTree command_of

to_command : (x : CommandTree) (u : List Lexeme) → CommandText x u → SpellsCommand x u
to_command x u (two_spots n w e h) = a_command n w e h

from_command : (x : CommandTree) (u : List Lexeme) → SpellsCommand x u → CommandText x u
from_command x u (a_command n w e h) = two_spots n w e h

pub good_command : Good CommandTree spec.command SpellsCommand Always Always
unfolding spec.command
good_command =
    good_as CommandTree spec.command CommandText SpellsCommand Always Always Always Always to_command from_command (λ rest k. k) (λ rest k. k)
    (good_two any_identity rule_word CommandTree command_of good_any_identity good_rule_word)

pub command_starts : (x : CommandTree) (u : List Lexeme) → SpellsCommand x u → StartsWith any_identity u
command_starts x u (a_command n w e h) = record { first = n; others = w ∷ []; parts = refl; passes = e }
