-- The rows of points and of modules, with one entry more of PFM, OPT or IPT.
use Rattle.std.proofs.Common.{◌≡◌, ℕ, ◌+◌, ◌<◌, Bool, true, false, List, ◌∷◌, map, length, drop, get_or, Option, refl, ap, ◌∙◌}
use Rattle.std.specs.Prelude.{position}
use Rattle.std.specs.Str.{bytes_eq}
use Rattle.ssi_identities.specs.declared.fact.Kind.{Kind}
use Rattle.ssi_identities.specs.declared.rule.Body.{Body}
use Rattle.ssi_identities.specs.declared.rule.Cond.{Cond}
use Rattle.ssi_identities.specs.DataSets.{PointsPlan, ModulePlan}
use Rattle.ssi_terms.specs.declared.tree.BodyTree.{BodyTree}
use Rattle.ssi_terms.specs.declared.tree.CondTree.{CondTree}
use Rattle.ssi_terms.specs.declared.tree.Spot.{Spot}
use Rattle.ssi_terms.specs.Trees.{PointsText, ModuleText}
use Rattle.ssi_opt.specs.Outputs.{OutputText}
use Rattle.ssi_names.specs.Declarations.{addresses_of, is_reverse}
use Rattle.ssi_names.specs.Placing.{ArePlaces, changed_at, with_move, with_outputs, with_input}
use Rattle.ssi_names.specs.Rows.{condition, body, outputs_row, points_row, module_row}
use Rattle.ssi_names.specs.Texts.{characters}
use Rattle.ssi_names.proofs.Told.{one_told}

module _ (text : List ℕ) (names : Kind → List (List ℕ)) where
  -- ---- PFM

  -- an entry says nothing of other points
  move_of_others : (rule : Spot × Spot × CondTree) (rules : List (Spot × Spot × CondTree)) (e : PointsText) → bytes_eq (characters text e.name) (characters text rule.0) ≡ false
      → points_row text names (rule ∷ rules) e ≡ points_row text names rules e
  move_of_others rule rules e differ = rw differ refl

  move_by : (rule : Spot × Spot × CondTree) (rules : List (Spot × Spot × CondTree)) (e : PointsText) (reverse : Bool) → is_reverse text rule.1 ≡ reverse
      → bytes_eq (characters text e.name) (characters text rule.0) ≡ true → points_row text names (rule ∷ rules) e ≡ with_move (points_row text names rules e) reverse (condition text names rule.2)
  move_by rule rules e true says same = rw (same, says) refl
  move_by rule rules e false says same = rw (same, says) refl

  -- of its own it says when they are free to go to its lie
  move_of_own : (rule : Spot × Spot × CondTree) (rules : List (Spot × Spot × CondTree)) (e : PointsText) → bytes_eq (characters text e.name) (characters text rule.0) ≡ true
      → points_row text names (rule ∷ rules) e ≡ with_move (points_row text names rules e) (is_reverse text rule.1) (condition text names rule.2)
  move_of_own rule rules e same = move_by rule rules e (is_reverse text rule.1) refl same

  pub move_told : (entries : List PointsText) (rules : List (Spot × Spot × CondTree)) (n : ℕ) (rule : Spot × Spot × CondTree) (table : List (List ℕ)) (name : List ℕ) (place : Option ℕ) (reverse : Bool) (cond : Cond)
      (now after : List PointsPlan) → ArePlaces table (map (λ e. characters text e.name) entries) → n < length rules → rule ≡ get_or rules n rule
      → now ≡ map (points_row text names (drop (n + 1) rules)) entries → name ≡ characters text rule.0 → place ≡ position (bytes_eq name) table → reverse ≡ is_reverse text rule.1
      → cond ≡ condition text names rule.2 → after ≡ changed_at (λ row. with_move row reverse cond) place now → after ≡ map (points_row text names (drop n rules)) entries
  move_told entries rules n rule table name place reverse cond now after places within is so_far named found says made told =
      let change = λ (b : Bool) (c : Cond) (row : PointsPlan). with_move row b c in
      one_told (λ (e : PointsText). characters text e.name) (λ (r : Spot × Spot × CondTree). characters text r.0) (points_row text names) (λ r row. with_move row (is_reverse text r.1) (condition text names r.2))
      move_of_others move_of_own entries rules n rule table now after places within is so_far
      (told ∙ ap (λ p. changed_at (change reverse cond) p now) (found ∙ ap (λ x. position (bytes_eq x) table) named)
      ∙ ap (λ b. changed_at (change b cond) (position (bytes_eq (characters text rule.0)) table) now) says
      ∙ ap (λ c. changed_at (change (is_reverse text rule.1) c) (position (bytes_eq (characters text rule.0)) table) now) made)

  -- ---- OPT

  -- an entry says nothing of what is sent to other modules
  outputs_of_others : (inputs : List (Spot × BodyTree)) (entry : OutputText) (outputs : List OutputText) (e : ModuleText) → bytes_eq (characters text e.address) (characters text entry.address) ≡ false
      → module_row text names (entry ∷ outputs) inputs e ≡ module_row text names outputs inputs e
  outputs_of_others inputs entry outputs e differ = rw differ refl

  -- of its own it says all eight bits
  outputs_of_own : (inputs : List (Spot × BodyTree)) (entry : OutputText) (outputs : List OutputText) (e : ModuleText) → bytes_eq (characters text e.address) (characters text entry.address) ≡ true
      → module_row text names (entry ∷ outputs) inputs e ≡ with_outputs (module_row text names outputs inputs e) (outputs_row text names entry)
  outputs_of_own inputs entry outputs e same = rw same refl

  pub outputs_told : (inputs : List (Spot × BodyTree)) (entries : List ModuleText) (outputs : List OutputText) (n : ℕ) (entry : OutputText) (table : List (List ℕ)) (name : List ℕ) (place : Option ℕ)
      (bits : List (Option Cond)) (now after : List ModulePlan) → ArePlaces table (addresses_of text entries) → n < length outputs → entry ≡ get_or outputs n entry
      → now ≡ map (module_row text names (drop (n + 1) outputs) inputs) entries → name ≡ characters text entry.address → place ≡ position (bytes_eq name) table → bits ≡ outputs_row text names entry
      → after ≡ changed_at (λ row. with_outputs row bits) place now → after ≡ map (module_row text names (drop n outputs) inputs) entries
  outputs_told inputs entries outputs n entry table name place bits now after places within is so_far named found made told =
      let change = λ (bs : List (Option Cond)) (row : ModulePlan). with_outputs row bs in
      one_told (λ (e : ModuleText). characters text e.address) (λ (o : OutputText). characters text o.address) (λ os. module_row text names os inputs) (λ o row. with_outputs row (outputs_row text names o))
      (outputs_of_others inputs) (outputs_of_own inputs) entries outputs n entry table now after places within is so_far
      (told ∙ ap (λ p. changed_at (change bits) p now) (found ∙ ap (λ x. position (bytes_eq x) table) named)
      ∙ ap (λ bs. changed_at (change bs) (position (bytes_eq (characters text entry.address)) table) now) made)

  -- ---- IPT

  -- an entry says nothing of the reports of other modules
  input_of_others : (outputs : List OutputText) (entry : Spot × BodyTree) (inputs : List (Spot × BodyTree)) (e : ModuleText) → bytes_eq (characters text e.address) (characters text entry.0) ≡ false
      → module_row text names outputs (entry ∷ inputs) e ≡ module_row text names outputs inputs e
  input_of_others outputs entry inputs e differ = rw differ refl

  -- of its own it says what their reports do
  input_of_own : (outputs : List OutputText) (entry : Spot × BodyTree) (inputs : List (Spot × BodyTree)) (e : ModuleText) → bytes_eq (characters text e.address) (characters text entry.0) ≡ true
      → module_row text names outputs (entry ∷ inputs) e ≡ with_input (module_row text names outputs inputs e) (body text names entry.1)
  input_of_own outputs entry inputs e same = rw same refl

  pub input_told : (outputs : List OutputText) (entries : List ModuleText) (inputs : List (Spot × BodyTree)) (n : ℕ) (entry : Spot × BodyTree) (table : List (List ℕ)) (name : List ℕ) (place : Option ℕ) (does : Body)
      (now after : List ModulePlan) → ArePlaces table (addresses_of text entries) → n < length inputs → entry ≡ get_or inputs n entry
      → now ≡ map (module_row text names outputs (drop (n + 1) inputs)) entries → name ≡ characters text entry.0 → place ≡ position (bytes_eq name) table → does ≡ body text names entry.1
      → after ≡ changed_at (λ row. with_input row does) place now → after ≡ map (module_row text names outputs (drop n inputs)) entries
  input_told outputs entries inputs n entry table name place does now after places within is so_far named found made told =
      let change = λ (b : Body) (row : ModulePlan). with_input row b in
      one_told (λ (e : ModuleText). characters text e.address) (λ (i : Spot × BodyTree). characters text i.0) (module_row text names outputs) (λ i row. with_input row (body text names i.1))
      (input_of_others outputs) (input_of_own outputs) entries inputs n entry table now after places within is so_far
      (told ∙ ap (λ p. changed_at (change does) p now) (found ∙ ap (λ x. position (bytes_eq x) table) named)
      ∙ ap (λ b. changed_at (change b) (position (bytes_eq (characters text entry.0)) table) now) made)
