-- Whatever the status, members of the shelf that no module of the layout has are as they were.
use Rattle.std.proofs.Common.{◌≡◌, ℕ, ◌≤◌, List, [], ◌∷◌, ◌++◌, length, Option, Some, None, refl, sym, ap, subst, ◌∙◌, ◌⊎◌, inl, inr}
use Rattle.std.specs.Prelude.{All}
use Rattle.std.proofs.lemmas.List.Elements.{All-append, All-cons, All-head, All-nil, All-tail}
use Rattle.ssi_lexer.specs.declared.token.TextEnd.{TextEnd}
use Rattle.ssi_lexer.specs.Lexemes.{Lexeme, AreTokens}
use Rattle.ssi_lexer.specs.Limits.{text_limit}
use Rattle.ssi_lexer.specs.Spelling.{Finding, level_too_deep, no_spelling, no_token, taken}
use Rattle.ssi_terms.specs.Readers.{FindsWithin}
use Rattle.ssi_terms.specs.Tests.{ends_file}
use Rattle.ssi_identities.specs.DataSets.{Plan}
use Rattle.ssi_identities.specs.Wells.{IsWell}
use Rattle.ssi_names.specs.SourceTexts.{SourceText}
use Rattle.ssi_names.specs.Sources.{SpellsSource}
use Rattle.ssi_names.specs.Spelled.{IsSpelledIn}
use Rattle.ssi_names.specs.Faults.{faults_of}
use Rattle.ssi_names.specs.Rows.{resolved}
use Rattle.ssi_trackside.specs.Module.{ModuleState}
use Rattle.ssi_script.specs.declared.step.ScriptFault.{ScriptFault}
use Rattle.ssi_script.specs.declared.step.ScriptStep.{ScriptStep}
use Rattle.ssi_script.specs.Meanings.{IsStepOf}
use Rattle.ssi_script.specs.OthersStay.{OthersStay}
use Rattle.ssi_script.specs.Scripts.{IsScript}
use Rattle.ssi_script.specs.Sessions.{after_steps, session_of}
use Rattle.ssi_script.specs.Traces.{ShelfPiece, steps_pieces}
use Rattle.ssi_run.specs.declared.words.Command.{Command}
use Rattle.ssi_run.specs.declared.words.Command.TheVariants.{Run}
use Rattle.ssi_run.specs.FaultLines.{depth_line, lexical_line, script_fault_line, syntax_line}
use Rattle.ssi_run.specs.Answers.{Answer, Answers, OfFinding, RunsText, Script, Within, a_plan, faulty, name_faults, script_answer, too_large, within}
use Rattle.ssi_run.specs.DataSetOf.{DrivesItsOwn, HasDataSet, LeavesOthers}
use Rattle.ssi_run.specs.Endings.{Ends, IsAnswerTo, Seen, part, starved, unread, whole}
use Rattle.ssi_run.proofs.Layers.{Tree}

-- what is asked of the crates below: a data set without faults is well, the steps of a script can be done, and they leave the others
abbrev pub IsWellData : Type 0
IsWellData = (text : List ℕ) (tree : SourceText) → length text ≤ text_limit → IsSpelledIn text tree → faults_of text tree ≡ [] → IsWell (resolved text tree)

abbrev pub ScriptsCan : Type 0
ScriptsCan = (plan : Plan) (text : List ℕ) (left : List Lexeme) (end : TextEnd) (steps : List ScriptStep) (fault : Option ScriptFault)
    → IsWell plan → IsScript plan text left end steps fault → All (IsStepOf plan) steps

abbrev pub PiecesStay : Type 0
PiecesStay = (plan : Plan) (steps : List ScriptStep) (shelf : List ModuleState) → IsWell plan → All (IsStepOf plan) steps
    → All (λ (piece : ShelfPiece). OthersStay plan shelf piece.standing) (steps_pieces steps (session_of plan shelf))

abbrev pub BehindStay : Type 0
BehindStay = (plan : Plan) (steps : List ScriptStep) (shelf : List ModuleState) → IsWell plan → All (IsStepOf plan) steps
    → OthersStay plan shelf (after_steps steps (session_of plan shelf)).shelf

-- an answer leaves the others at each of its pieces and behind them
record Leaves (plan : Plan) (shelf : List ModuleState) (x : Answer) : Type 0 where
  pieces : All (λ (piece : ShelfPiece). OthersStay plan shelf piece.standing) x.pieces
  behind : OthersStay plan shelf x.left

-- an answer changes no module, or it leaves those that belong to no module of the data set of its input
record Still (shelf : List ModuleState) (x : Answer) : Type 0 where
  pieces : All (λ (piece : ShelfPiece). piece.standing ≡ shelf) x.pieces
  behind : x.left ≡ shelf

abbrev Sort : List ℕ → List ModuleState → Answer → Type 0
Sort input shelf x = Still shelf x ⊎ ((plan : Plan) × HasDataSet input plan × Leaves plan shelf x)

faulty_still : (shelf : List ModuleState) (line : List ℕ) (x : Answer) → x ≡ faulty shelf line → Still shelf x
faulty_still shelf line x is = rw is (record { pieces = All-cons (λ (piece : ShelfPiece). piece.standing ≡ shelf) _ [] refl (All-nil (λ (piece : ShelfPiece). piece.standing ≡ shelf)); behind = refl })

-- the piece in the midst of some has what all have
amid_all : (P : ShelfPiece → Type 0) (front : List ShelfPiece) (piece : ShelfPiece) (back : List ShelfPiece) → All P (front ++ piece ∷ back) → P piece
amid_all P [] piece back each = All-head P piece back each
amid_all P (first ∷ front) piece back each = amid_all P front piece back (All-tail P first (front ++ piece ∷ back) each)

amid : (P : ShelfPiece → Type 0) (front : List ShelfPiece) (piece : ShelfPiece) (back all : List ShelfPiece) → all ≡ front ++ piece ∷ back → All P all → P piece
amid P front piece back all is each = amid_all P front piece back (subst (All P) is each)

module _ (well : IsWellData) (can : ScriptsCan) (pieces : PiecesStay) (behind : BehindStay) where
  module _ (input : List ℕ) (shelf : List ModuleState) where
    script_leaves : (plan : Plan) (steps : List ScriptStep) (fault : Option ScriptFault) → IsWell plan → All (IsStepOf plan) steps → (x : Answer)
        → x ≡ script_answer input steps fault (session_of plan shelf) → Leaves plan shelf x
    script_leaves plan steps None good all x is = rw is (record { pieces = pieces plan steps shelf good all; behind = behind plan steps shelf good all })
    script_leaves plan steps (Some fault) good all x is =
        let last = behind plan steps shelf good all in
        let P : ShelfPiece → Type 0 = λ piece. OthersStay plan shelf piece.standing in
        rw is (record { pieces = All-append P (steps_pieces steps (session_of plan shelf)) _ (pieces plan steps shelf good all) (All-cons P _ [] last (All-nil P)); behind = last })

    module _ (small : length input ≤ text_limit) (lexemes : List Lexeme) (end : TextEnd) (tokens : AreTokens input 0 lexemes end) where
      found_sort : (found : Finding SourceText) → FindsWithin SourceText SpellsSource ends_file lexemes end found → (x : Answer) → OfFinding shelf (Tree input shelf) end found x → Sort input shelf x
      found_sort (taken tree left) takes x (name_faults some) = inl (faulty_still shelf _ x refl)
      found_sort (taken tree left) takes x (a_plan y none p) =
          let spelled : IsSpelledIn input tree = record { lexemes = lexemes; end = end; tokens = tokens; before = []; files = takes.used; after = left; parts = takes.parts; spells = takes.spells } in
          let good = well input tree small spelled none in
          let has : HasDataSet input (resolved input tree) = record { lexemes = lexemes; end = end; tokens = tokens; tree = tree; behind = left; there = takes; no_faults = none; plan_is = refl } in
          inr (resolved input tree, has, script_leaves (resolved input tree) p.steps p.fault good (can (resolved input tree) input left end p.steps p.fault good p.script_is) y p.answer_is)
      found_sort (no_spelling place) fault x e = inl (faulty_still shelf (syntax_line place) x e)
      found_sort (level_too_deep place) fault x e = inl (faulty_still shelf (depth_line place) x e)
      found_sort (no_token fault) inside x e = inl (faulty_still shelf (lexical_line fault) x e)

    run_sort : (x : Answer) → Within input shelf (RunsText input shelf) x → Sort input shelf x
    run_sort x (within y small answers) = found_sort small answers.lexemes answers.end answers.tokens answers.answered.found answers.answered.there y answers.answered.answered
    run_sort x (too_large past) = inl (record { pieces = All-cons (λ (piece : ShelfPiece). piece.standing ≡ shelf) _ [] refl (All-nil (λ (piece : ShelfPiece). piece.standing ≡ shelf)); behind = refl })

  sort_of : (command : Option Command) (input : List ℕ) (shelf : List ModuleState) (x : Answer) → Answers command input shelf x → Sort input shelf x
  sort_of None input shelf x is = inl (rw is (record { pieces = All-cons (λ (piece : ShelfPiece). piece.standing ≡ shelf) _ [] refl (All-nil (λ (piece : ShelfPiece). piece.standing ≡ shelf)); behind = refl }))
  sort_of (Some Run) input shelf x answers = run_sort input shelf x answers

  module _ (command : Option Command) (seen : Seen) where
    whole_by : (x : Answer) (is : IsAnswerTo command seen x) → seen.shelf_after ≡ x.left → Sort is.input seen.shelf_before x → DrivesItsOwn seen
    whole_by x is left (inl still) = inl (left ∙ still.behind)
    whole_by x is left (inr some) = inr (record { input = is.input; is_input = is.is_input; plan = some.0; has = some.1; stay = rw left some.2.behind })

    part_by : (x : Answer) (is : IsAnswerTo command seen x) (front : List ShelfPiece) (piece : ShelfPiece) (back : List ShelfPiece) → x.pieces ≡ front ++ piece ∷ back → seen.shelf_after ≡ piece.standing
        → Sort is.input seen.shelf_before x → DrivesItsOwn seen
    part_by x is front piece back parts left (inl still) = inl (left ∙ amid (λ (piece : ShelfPiece). piece.standing ≡ seen.shelf_before) front piece back x.pieces parts still.pieces)
    part_by x is front piece back parts left (inr some) =
        let stay = amid (λ (piece : ShelfPiece). OthersStay some.0 seen.shelf_before piece.standing) front piece back x.pieces parts some.2.pieces in
        inr (record { input = is.input; is_input = is.is_input; plan = some.0; has = some.1; stay = rw left stay })

    pub drives_its_own : (n : ℕ) → Ends command seen n → DrivesItsOwn seen
    drives_its_own n (whole x is appended left) = whole_by x is left (sort_of command is.input seen.shelf_before x is.is_answer)
    drives_its_own n (part x is stops failed) = part_by x is stops.before stops.piece stops.after stops.parts stops.standing (sort_of command is.input seen.shelf_before x is.is_answer)
    drives_its_own n (unread reads failed small nothing still) = inl still
    drives_its_own n (starved reads small nothing still) = inl still
