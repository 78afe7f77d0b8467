-- Trackside modules with numbers of identities.
use Rattle.std.specs.Prelude.{ℕ, List, fold, replicate, slice_set, Option, Some, None}
use Rattle.std.specs.List.{position_or_len}
use Rattle.std.specs.Str.{bytes_eq}
use Rattle.ssi_identities.specs.declared.fact.Kind.{Kind}
use Rattle.ssi_identities.specs.declared.rule.Cond.{Cond}
use Rattle.ssi_identities.specs.declared.rule.Body.{Body}
use Rattle.ssi_identities.specs.DataSets.{ModulePlan}
use Rattle.ssi_identities.specs.Wells.{wired_kind, pin_count}
use Rattle.ssi_terms.specs.declared.tree.Spot.{Spot}
use Rattle.ssi_terms.specs.Trees.{ModuleText}
use Rattle.ssi_names.specs.Texts.{characters, number}
use Rattle.ssi_names.specs.Words.{module_kind_of}

module _ (text : List ℕ) where
  -- the pins of a module, of which one more is wired to an identity
  abbrev pub with_pin : List (List ℕ) → List (Option ℕ) → Spot × Spot → List (Option ℕ)
  with_pin names pins pin = slice_set pins (number text pin.1) (Some (position_or_len (bytes_eq (characters text pin.0)) names))

  -- so many pins, each with the number of the identity that it is wired to
  abbrev pub pins_row : List (List ℕ) → ℕ → List (Spot × Spot) → List (Option ℕ)
  pins_row names count pins = fold (with_pin names) (replicate count None) pins

  -- a module, with the bits that are sent to it and what its reports do
  abbrev pub module_by : (Kind → List (List ℕ)) → List (Option Cond) → Option Body → ModuleText → ModulePlan
  module_by names outputs input entry =
      let kind = module_kind_of (characters text entry.kind) in
      record {
        address = number text entry.address;
        kind = kind;
        pins = pins_row (names (wired_kind kind)) (pin_count kind) entry.pins;
        outputs = outputs;
        input = input;
      }
