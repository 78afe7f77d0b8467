-- A script is what its reader finds: any tokens have one script, and no other.
use Rattle.std.proofs.Common.{◌≡◌, ℕ, zero, suc, ◌+◌, ◌<◌, ◌≤◌, Bool, true, false, List, [], ◌∷◌, ◌++◌, length, Option, Some, None, Result, Ok, Err, refl, sym, ap, subst, ◌∙◌, append_assoc, length-append, arith}
use Rattle.std.specs.Prelude.{if◌then◌else◌}
use Rattle.std.proofs.lemmas.List.{append-nil}
use Rattle.ssi_base.specs.declared.place.Place.{Place}
use Rattle.ssi_lexer.specs.declared.token.TextEnd.{TextEnd}
use Rattle.ssi_lexer.specs.declared.token.TextEnd.TheVariants.{Finished, Faulty}
use Rattle.ssi_lexer.specs.declared.wanted.Stop.{Stop}
use Rattle.ssi_lexer.specs.Lexemes.{Lexeme}
use Rattle.ssi_lexer.specs.Laws.{Always}
use Rattle.ssi_lexer.specs.Parsers.{Outcome}
use Rattle.ssi_lexer.specs.Readings.{Reading}
use Rattle.ssi_lexer.proofs.Joining.{took}
use Rattle.ssi_identities.specs.DataSets.{Plan}
use Rattle.ssi_script.specs.declared.step.StepTree.{StepTree}
use Rattle.ssi_script.specs.declared.step.ScriptFault.{ScriptFault}
use Rattle.ssi_script.specs.declared.step.ScriptStep.{ScriptStep}
use Rattle.ssi_script.specs.Meanings.{cycles_of, misspelled_at, step_of}
use Rattle.ssi_script.specs.Scripts.{AreSteps, IsAtEnd, IsScript, a_fault, a_script, no_header, no_step, the_end}
use Rattle.ssi_script.specs.Scripts as script
use Rattle.ssi_script.specs.StepReading.{IsNext, IsNextBy, a_step, header, is_at_end, stop_place}
use Rattle.ssi_script.specs.Steps.{SpellsHeader, SpellsStep}
use Rattle.ssi_script.proofs.StepLaws.{good_header, good_step, step_some}
use Rattle.ssi_script.proofs.Stopping.{misspelled_by, stops_reader}

-- ---- the end of the text

pub at_end : (left : List Lexeme) (end : TextEnd) → IsAtEnd left end → is_at_end left end ≡ true
at_end [] (Finished place) e = refl
at_end [] (Faulty fault) e = absurd e
at_end (t ∷ ts) end e = absurd e

pub ends_at : (end : TextEnd) → is_at_end [] end ≡ true → IsAtEnd [] end
ends_at (Finished place) e = tt
ends_at (Faulty fault) e = absurd cc

pub none_left : (left : List Lexeme) (end : TextEnd) → is_at_end left end ≡ true → left ≡ []
none_left [] end e = refl
none_left (t ∷ ts) end e = absurd cc

pub not_at_end : (left : List Lexeme) (end : TextEnd) → is_at_end left end ≡ false → ¬ IsAtEnd left end
not_at_end left end e at = let same : true ≡ false = sym (at_end left end at) ∙ e in absurd cc

more_left : (left : List Lexeme) (end : TextEnd) → ¬ IsAtEnd left end → is_at_end left end ≡ false
more_left [] (Finished place) more = absurd (more tt)
more_left [] (Faulty fault) more = refl
more_left (t ∷ ts) end more = refl

some_left : (left : List Lexeme) (end : TextEnd) → 1 ≤ length left → is_at_end left end ≡ false
some_left [] end some = absurd (omega arith)
some_left (t ∷ ts) end some = refl

-- ---- a step that is read

-- what is spelled is read
pub step_read : (tree : StepTree) (used rest : List Lexeme) → SpellsStep tree used → a_step (used ++ rest) ≡ Ok (tree, rest)
step_read tree used rest s = good_step.complete tree used rest s tt

-- a step leaves fewer tokens
pub fewer_left : (tree : StepTree) (used rest : List Lexeme) → SpellsStep tree used → length rest < length (used ++ rest)
fewer_left tree used rest s = omega (arith, length-append used rest, step_some tree used s)

pub step_shorter : (left : List Lexeme) (tree : StepTree) (rest : List Lexeme) → a_step left ≡ Ok (tree, rest) → length rest < length left
step_shorter left tree rest e =
    let t = took StepTree a_step SpellsStep Always Always good_step left tree rest e in
    subst (λ (ts : List Lexeme). length rest < length ts) (sym t.parts) (fewer_left tree t.used rest t.spells)

-- what is found of a script: its steps, and the fault behind them
abbrev Found : Type 0
Found = List ScriptStep × Option ScriptFault

module _ (plan : Plan) (text : List ℕ) where
  -- ---- the forms of a script, by what the reader answers

  pub stopped_steps : (made : ℕ) (left : List Lexeme) (end : TextEnd) (stop : Stop) (rest : List Lexeme) → is_at_end left end ≡ false → a_step left ≡ Err (stop, rest)
      → AreSteps plan text made left end [] (Some (misspelled_at (stop_place rest end)))
  stopped_steps made left end stop rest more e = no_step made left end (stop_place rest end) (not_at_end left end more) (misspelled_by StepTree a_step SpellsStep good_step left end stop rest e)

  pub faulty_steps : (made : ℕ) (left : List Lexeme) (end : TextEnd) (tree : StepTree) (rest : List Lexeme) (fault : ScriptFault) → a_step left ≡ Ok (tree, rest) → step_of plan text made tree ≡ Err fault
      → AreSteps plan text made left end [] (Some fault)
  faulty_steps made left end tree rest fault e is =
      let t = took StepTree a_step SpellsStep Always Always good_step left tree rest e in
      subst (λ (ts : List Lexeme). AreSteps plan text made ts end [] (Some fault)) (sym t.parts) (a_fault made t.used rest end tree fault t.spells is)

  pub more_steps : (made : ℕ) (left : List Lexeme) (end : TextEnd) (tree : StepTree) (rest : List Lexeme) (step : ScriptStep) (steps : List ScriptStep) (fault : Option ScriptFault)
      → a_step left ≡ Ok (tree, rest) → step_of plan text made tree ≡ Ok step → AreSteps plan text (made + cycles_of step) rest end steps fault → AreSteps plan text made left end (step ∷ steps) fault
  more_steps made left end tree rest step steps fault e is are =
      let t = took StepTree a_step SpellsStep Always Always good_step left tree rest e in
      subst (λ (ts : List Lexeme). AreSteps plan text made ts end (step ∷ steps) fault) (sym t.parts) (script.a_step made t.used rest end tree step steps fault t.spells is are)

  pub ended_steps : (made : ℕ) (left : List Lexeme) (end : TextEnd) → is_at_end left end ≡ true → AreSteps plan text made left end [] None
  ended_steps made [] end e = the_end made end (ends_at end e)
  ended_steps made (t ∷ ts) end e = absurd cc

  -- ---- some steps

  abbrev Some-steps : ℕ → List Lexeme → TextEnd → Type 0
  Some-steps made left end = (steps : List ScriptStep) × (fault : Option ScriptFault) × AreSteps plan text made left end steps fault

  by_meaning : (made : ℕ) (left : List Lexeme) (end : TextEnd) (tree : StepTree) (rest : List Lexeme) → a_step left ≡ Ok (tree, rest) → ((made : ℕ) → Some-steps made rest end)
      → (r : Result ScriptStep ScriptFault) → step_of plan text made tree ≡ r → Some-steps made left end
  by_meaning made left end tree rest e next (Ok step) is = let n = next (made + cycles_of step) in (step ∷ n.0, n.1, more_steps made left end tree rest step n.0 n.1 e is n.2)
  by_meaning made left end tree rest e next (Err fault) is = ([], Some fault, faulty_steps made left end tree rest fault e is)

  by_reading : (made : ℕ) (left : List Lexeme) (end : TextEnd) → is_at_end left end ≡ false → ((made : ℕ) (rest : List Lexeme) → length rest < length left → Some-steps made rest end)
      → (o : Outcome StepTree) → a_step left ≡ o → Some-steps made left end
  by_reading made left end more next (Ok r) e =
      let less = step_shorter left r.0 r.1 e in
      by_meaning made left end r.0 r.1 e (λ made. next made r.1 less) (step_of plan text made r.0) refl
  by_reading made left end more next (Err halt) e = ([], Some (misspelled_at (stop_place halt.1 end)), stopped_steps made left end halt.0 halt.1 more e)

  by_end : (made : ℕ) (left : List Lexeme) (end : TextEnd) → ((made : ℕ) (rest : List Lexeme) → length rest < length left → Some-steps made rest end) → (b : Bool) → is_at_end left end ≡ b → Some-steps made left end
  by_end made left end next true e = ([], None, ended_steps made left end e)
  by_end made left end next false e = by_reading made left end e next (a_step left) refl

  some_in : (n made : ℕ) (left : List Lexeme) (end : TextEnd) → length left < n → Some-steps made left end
  some_in zero made left end few = absurd (omega arith)
  some_in (suc n) made left end few = by_end made left end (λ made rest less. some_in n made rest end (omega (arith, less, few))) (is_at_end left end) refl

  -- ---- and no others

  abbrev found_by : (ℕ → List Lexeme → Found) → ℕ → List Lexeme → Result ScriptStep ScriptFault → Found
  found_by next made rest (Err fault) = ([], Some fault)
  found_by next made rest (Ok step) = let n = next (made + cycles_of step) rest in (step ∷ n.0, n.1)

  abbrev found_of : (ℕ → List Lexeme → Found) → TextEnd → ℕ → Outcome StepTree → Found
  found_of next end made (Err halt) = ([], Some (misspelled_at (stop_place halt.1 end)))
  found_of next end made (Ok r) = found_by next made r.1 (step_of plan text made r.0)

  found_in : ℕ → ℕ → List Lexeme → TextEnd → Found
  found_in zero made left end = ([], None)
  found_in (suc n) made left end = if is_at_end left end then ([], None) else found_of (λ made rest. found_in n made rest end) end made (a_step left)

  abbrev misspelled_here : Place → Found
  misspelled_here place = ([], Some (misspelled_at place))

  stopped_there : (a b : Place) → a ≡ b → misspelled_here a ≡ misspelled_here b
  stopped_there a b e = ap misspelled_here e

  found_is : (made : ℕ) (left : List Lexeme) (end : TextEnd) (steps : List ScriptStep) (fault : Option ScriptFault) → AreSteps plan text made left end steps fault
      → (n : ℕ) → length left < n → found_in n made left end ≡ (steps, fault)
  unfolding found_in
  found_is made left end steps fault d zero few = absurd (omega arith)
  found_is made left end steps fault (the_end m e at) (suc n) few = rw (at_end [] e at) refl
  found_is made left end steps fault (script.a_step m used rest e tree step others f spells is are) (suc n) few =
      let less = fewer_left tree used rest spells in
      let later = found_is (m + cycles_of step) rest e others f are n (omega (arith, less, few)) in
      rw (some_left (used ++ rest) e (omega (arith, less)), step_read tree used rest spells, is, later) refl
  found_is made left end steps fault (a_fault m used rest e tree f spells is) (suc n) few =
      let less = fewer_left tree used rest spells in
      rw (some_left (used ++ rest) e (omega (arith, less)), step_read tree used rest spells, is) refl
  found_is made left end steps fault (no_step m ts e place more misspelled) (suc n) few =
      let stops = stops_reader StepTree a_step SpellsStep good_step ts e place misspelled in
      rw (more_left ts e more, stops.answer) (stopped_there (stop_place stops.rest e) place (sym stops.place_there))

  -- ---- the script

  header_read : (used rest : List Lexeme) → SpellsHeader tt used → header (used ++ rest) ≡ Ok (tt, rest)
  header_read used rest s = good_header.complete tt used rest s tt

  pub stopped_header : (left : List Lexeme) (end : TextEnd) (stop : Stop) (rest : List Lexeme) → header left ≡ Err (stop, rest) → IsScript plan text left end [] (Some (misspelled_at (stop_place rest end)))
  stopped_header left end stop rest e = no_header left end (stop_place rest end) (misspelled_by (Unit {0}) header SpellsHeader good_header left end stop rest e)

  pub behind_header : (left : List Lexeme) (end : TextEnd) (x : Unit {0}) (rest : List Lexeme) (steps : List ScriptStep) (fault : Option ScriptFault) → header left ≡ Ok (x, rest) → AreSteps plan text 0 rest end steps fault
      → IsScript plan text left end steps fault
  behind_header left end x rest steps fault e are =
      let t = took (Unit {0}) header SpellsHeader Always Always good_header left x rest e in
      subst (λ (ts : List Lexeme). IsScript plan text ts end steps fault) (sym t.parts) (a_script t.used rest end steps fault t.spells are)

  some_by : (left : List Lexeme) (end : TextEnd) (o : Outcome (Unit {0})) → header left ≡ o → (steps : List ScriptStep) × (fault : Option ScriptFault) × IsScript plan text left end steps fault
  some_by left end (Ok r) e = let found = some_in (length r.1 + 1) 0 r.1 end (omega arith) in (found.0, found.1, behind_header left end r.0 r.1 found.0 found.1 e found.2)
  some_by left end (Err halt) e = ([], Some (misspelled_at (stop_place halt.1 end)), stopped_header left end halt.0 halt.1 e)

  pub some_script : (left : List Lexeme) (end : TextEnd) → (steps : List ScriptStep) × (fault : Option ScriptFault) × IsScript plan text left end steps fault
  some_script left end = some_by left end (header left) refl

  abbrev script_found : TextEnd → Outcome (Unit {0}) → Found
  script_found end (Ok r) = found_in (length r.1 + 1) 0 r.1 end
  script_found end (Err halt) = ([], Some (misspelled_at (stop_place halt.1 end)))

  script_is : (left : List Lexeme) (end : TextEnd) (steps : List ScriptStep) (fault : Option ScriptFault) → IsScript plan text left end steps fault → script_found end (header left) ≡ (steps, fault)
  script_is left end steps fault (a_script used rest e ss f spells are) = rw (header_read used rest spells) (found_is 0 rest e ss f are (length rest + 1) (omega arith))
  script_is left end steps fault (no_header ts e place misspelled) =
      let stops = stops_reader (Unit {0}) header SpellsHeader good_header ts e place misspelled in
      rw stops.answer (stopped_there (stop_place stops.rest e) place (sym stops.place_there))

  pub same_script : (left : List Lexeme) (end : TextEnd) (a b : List ScriptStep) (e f : Option ScriptFault) → IsScript plan text left end a e → IsScript plan text left end b f → (a ≡ b) × (e ≡ f)
  same_script left end a b e f s t =
      let same : (a, e) ≡ (b, f) = sym (script_is left end a e s) ∙ script_is left end b f t in
      (ap (λ (found : Found). found.0) same, ap (λ (found : Found). found.1) same)

-- ---- step by step

module _ (plan : Plan) (text : List ℕ) (end : TextEnd) (tokens : List Lexeme) where
  -- these steps were read, and whatever steps the tokens that are left are come behind them
  abbrev pub ReadSoFar : List ScriptStep → ℕ → List Lexeme → Type 0
  ReadSoFar steps made left = (more : List ScriptStep) (fault : Option ScriptFault) → AreSteps plan text made left end more fault → AreSteps plan text 0 tokens end (steps ++ more) fault

  -- nothing comes behind them
  pub last_of : (steps : List ScriptStep) (made : ℕ) (left : List Lexeme) (fault : Option ScriptFault) → ReadSoFar steps made left → AreSteps plan text made left end [] fault → AreSteps plan text 0 tokens end steps fault
  last_of steps made left fault read are = subst (λ (ss : List ScriptStep). AreSteps plan text 0 tokens end ss fault) (append-nil steps) (read [] fault are)

  module _ (steps : List ScriptStep) (made : ℕ) (old new : Reading) (same_text : old.text ≡ text) (same_end : old.end ≡ end) (read : ReadSoFar steps made old.left) where
    next_by : (step : ScriptStep) (o : Outcome StepTree) → a_step old.left ≡ o → IsNextBy plan made old new o (Ok step) → ReadSoFar (steps ++ step ∷ []) (made + cycles_of step) new.left
    next_by step (Err halt) e next = absurd cc
    next_by step (Ok r) e next = λ more fault are.
        let is : step_of plan text made r.0 ≡ Ok step = ap (λ (ts : List ℕ). step_of plan ts made r.0) (sym same_text) ∙ sym next.1 in
        let behind = subst (λ (ts : List Lexeme). AreSteps plan text (made + cycles_of step) ts end more fault) next.0 are in
        subst (λ (ss : List ScriptStep). AreSteps plan text 0 tokens end ss fault) (sym (append_assoc steps (step ∷ []) more)) (read (step ∷ more) fault (more_steps plan text made old.left end r.0 r.1 step more fault e is behind))

    -- one more is read
    pub one_more : (step : ScriptStep) → IsNext plan made old new (Ok step) → ReadSoFar (steps ++ step ∷ []) (made + cycles_of step) new.left
    one_more step next = next_by step (a_step old.left) refl next

    fault_by : (fault : ScriptFault) → is_at_end old.left old.end ≡ false → (o : Outcome StepTree) → a_step old.left ≡ o → IsNextBy plan made old new o (Err fault) → AreSteps plan text made old.left end [] (Some fault)
    fault_by fault some (Err halt) e next =
        let same : misspelled_at (stop_place halt.1 end) ≡ fault = ap (λ (at : TextEnd). misspelled_at (stop_place halt.1 at)) (sym same_end) ∙ cc in
        subst (λ (f : ScriptFault). AreSteps plan text made old.left end [] (Some f)) same (stopped_steps plan text made old.left end halt.0 halt.1 (ap (is_at_end old.left) (sym same_end) ∙ some) e)
    fault_by fault some (Ok r) e next = faulty_steps plan text made old.left end r.0 r.1 fault e (ap (λ (ts : List ℕ). step_of plan ts made r.0) (sym same_text) ∙ sym next.1)

    -- the next step has a fault
    pub faulty : (fault : ScriptFault) → is_at_end old.left old.end ≡ false → IsNext plan made old new (Err fault) → AreSteps plan text 0 tokens end steps (Some fault)
    faulty fault some next = last_of steps made old.left (Some fault) read (fault_by fault some (a_step old.left) refl next)

    -- no step comes any more
    pub all_read : is_at_end old.left old.end ≡ true → AreSteps plan text 0 tokens end steps None
    all_read none = last_of steps made old.left None read (ended_steps plan text made old.left end (ap (is_at_end old.left) (sym same_end) ∙ none))

-- a step takes a token at least
shorter_by : (plan : Plan) (made : ℕ) (old new : Reading) (step : ScriptStep) (o : Outcome StepTree) → a_step old.left ≡ o → IsNextBy plan made old new o (Ok step) → length new.left < length old.left
shorter_by plan made old new step (Err halt) e next = absurd cc
shorter_by plan made old new step (Ok r) e next = subst (λ (ts : List Lexeme). length ts < length old.left) (sym next.0) (step_shorter old.left r.0 r.1 e)

pub next_shorter : (plan : Plan) (made : ℕ) (old new : Reading) (step : ScriptStep) → IsNext plan made old new (Ok step) → length new.left < length old.left
next_shorter plan made old new step next = shorter_by plan made old new step (a_step old.left) refl next
