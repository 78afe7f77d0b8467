-- The faults of commands, one after another.
use Rattle.std.proofs.Common.{◌≡◌, ℕ, ◌+◌, ◌<◌, Bool, false, List, [], ◌∷◌, ◌++◌, map, length, drop, get_or, refl, ap, sym, ◌∙◌, append_assoc}
use Rattle.std.proofs.lemmas.List.{at_drop_more, append-nil}
use Rattle.ssi_terms.specs.declared.tree.CommandTree.{CommandTree}
use Rattle.ssi_names.specs.Bodies as f
use Rattle.ssi_names.specs.Codes.{too_many}
use Rattle.ssi_names.specs.declared.fault.Fault.{Fault}
use Rattle.ssi_names.specs.declared.scope.Scope.{Scope}
use Rattle.ssi_names.specs.Occurrences.{one_by_one}
use Rattle.ssi_names.specs.Scopes.{known, command_faults, commands_faults}
use Rattle.ssi_names.proofs.Pins.{no_spot}
use Rattle.ssi_names.specs.Texts.{characters}

-- the faults of a command's name, and of its word
abbrev name_part : Scope → Bool → CommandTree → List Fault
name_part scope many tree = f.named_faults (known scope) scope.file ((many, too_many) ∷ []) tree.name

abbrev word_part : Scope → CommandTree → List Fault
word_part scope tree = f.command_word_faults (known scope) scope.file (characters scope.text.now tree.name) tree.word

-- commands of which the name of the first asks nothing else
plain : (scope : Scope) (trees : List CommandTree) → one_by_one (map (command_faults scope []) trees) ≡ commands_faults scope ((false, too_many) ∷ []) trees
plain scope [] = refl
plain scope (tree ∷ trees) = refl

-- the first of some commands, and those after it
first_and_others : (scope : Scope) (many : Bool) (tree : CommandTree) (trees : List CommandTree)
    → commands_faults scope ((many, too_many) ∷ []) (tree ∷ trees) ≡ commands_faults scope ((many, too_many) ∷ []) (tree ∷ []) ++ commands_faults scope ((false, too_many) ∷ []) trees
first_and_others scope many tree trees =
    ap (λ faults. (name_part scope many tree ++ word_part scope tree) ++ faults) (plain scope trees)
    ∙ ap (λ faults. faults ++ commands_faults scope ((false, too_many) ∷ []) trees) (sym (append-nil (name_part scope many tree ++ word_part scope tree)))

-- where no command is written
abbrev pub no_command : CommandTree
no_command = record { name = no_spot; word = no_spot }

-- one more command was judged
pub next_command : (scope : Scope) (trees : List CommandTree) (i : ℕ) (d : CommandTree) (here : Bool) (now after all : List Fault) → i < length trees
    → now ++ commands_faults scope ((here, too_many) ∷ []) (drop i trees) ≡ all
    → after ≡ now ++ commands_faults scope ((here, too_many) ∷ []) (get_or trees i d ∷ [])
    → after ++ commands_faults scope ((false, too_many) ∷ []) (drop (i + 1) trees) ≡ all
next_command scope trees i d here now after all within left more =
    let rest = commands_faults scope ((false, too_many) ∷ []) (drop (i + 1) trees) in
    let one = commands_faults scope ((here, too_many) ∷ []) (get_or trees i d ∷ []) in
    ap (λ faults. faults ++ rest) more ∙ append_assoc now one rest
    ∙ ap (λ faults. now ++ faults) (sym (first_and_others scope here (get_or trees i d) (drop (i + 1) trees)))
    ∙ ap (λ faults. now ++ faults) (sym (at_drop_more (commands_faults scope ((here, too_many) ∷ [])) trees i d within)) ∙ left
