-- What is noted of the bits of an entry of OPT by marks is what the lists say.
use Rattle.std.proofs.Common.{◌≡◌, ℕ, ◌||◌, Bool, false, List, [], ◌∷◌, ◌++◌, map, min, ap, ◌∙◌, append_assoc, arith}
use Rattle.std.specs.Prelude.{nat_le, slice_index_or}
use Rattle.ssi_terms.specs.declared.tree.Spot.{Spot}
use Rattle.ssi_terms.specs.declared.tree.CondTree.{CondTree}
use Rattle.ssi_names.specs.declared.fault.Fault.{Fault}
use Rattle.ssi_names.specs.declared.rule_file.RuleFile.TheVariants.{Outputs}
use Rattle.ssi_names.specs.Bodies.{cond_faults}
use Rattle.ssi_names.specs.Codes.{bad_pin}
use Rattle.ssi_names.specs.Declarations.{Declared}
use Rattle.ssi_names.specs.Faults.{output_bit_faults}
use Rattle.ssi_names.specs.Occurrences.{at}
use Rattle.ssi_names.specs.Texts.{number, is_number_among}
use Rattle.ssi_names.proofs.Marks.{IsMarked}
use Rattle.ssi_names.proofs.Pins.{pin_test}

-- the faults of one bit
pub bit_is : (d : Declared) (earlier : List (Spot × CondTree)) (bit : Spot × CondTree) (used : List Bool)
    (old middle new : List Fault) → IsMarked 8 used (map (λ e. number d.text e.0) earlier)
    → middle ≡ old ++ at bit.0 ((nat_le 8 (min (number d.text bit.0) 255) || slice_index_or used (min (number d.text bit.0) 255) false, bad_pin) ∷ [])
    → new ≡ middle ++ cond_faults d Outputs bit.1
    → new ≡ old ++ output_bit_faults d earlier bit
bit_is d earlier bit used old middle new marked first second =
    let line = λ (bad : Bool). at bit.0 ((bad, bad_pin) ∷ []) in
    let condition = cond_faults d Outputs bit.1 in
    let taken = pin_test 8 (number d.text bit.0) used (map (λ e. number d.text e.0) earlier) (omega arith) marked in
    second ∙ ap (λ faults. faults ++ condition) (first ∙ ap (λ bad. old ++ line bad) taken)
    ∙ append_assoc old (line (nat_le 8 (number d.text bit.0) || is_number_among (number d.text bit.0) (map (λ e. number d.text e.0) earlier))) condition
