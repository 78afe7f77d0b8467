-- The ways to end, by what was read and by what became of the answer.
use Rattle.std.proofs.Common.{◌≡◌, ℕ, ◌≤◌, ◌<◌, List, [], length, Option, Some, None, Result, Ok, Err, refl, sym, ap, subst, ◌∙◌}
use Rattle.std.specs.Option.{IfSome}
use Rattle.std.specs.Io.KnownBytes.{IsAtEnd}
use Rattle.std.proofs.KnownBytes.{Consumes-nil}
use Rattle.ssi_base.specs.declared.outside.Failed.{Failed}
use Rattle.ssi_base.specs.Faults.{Faults}
use Rattle.ssi_base.specs.Streams.{GivesPast, ReadsToEnd, Writes}
use Rattle.ssi_base.proofs.Reading.{whole_input, long_input}
use Rattle.ssi_lexer.specs.declared.token.TextEnd.{TextEnd}
use Rattle.ssi_lexer.specs.Spelling.{Finding, level_too_deep, no_spelling, no_token, taken}
use Rattle.ssi_names.specs.SourceTexts.{SourceText}
use Rattle.ssi_trackside.specs.Module.{ModuleState}
use Rattle.ssi_script.specs.declared.step.ScriptFault.{ScriptFault}
use Rattle.ssi_script.specs.declared.step.ScriptStep.{ScriptStep}
use Rattle.ssi_script.specs.Sessions.{Session}
use Rattle.ssi_run.specs.declared.status.Status.{Status}
use Rattle.ssi_run.specs.declared.status.Status.TheVariants.{NoShape, PastLimit}
use Rattle.ssi_run.specs.declared.status.Failure.TheVariants.{Source, Sink, Memory}
use Rattle.ssi_run.specs.declared.status.Failure.{Failure}
use Rattle.ssi_run.specs.declared.words.Command.{Command}
use Rattle.ssi_run.specs.declared.words.Command.TheVariants.{Run}
use Rattle.ssi_run.specs.Answers.{Answer, OfFinding, Reading, RunsText, ToEnd, TooMuch, Unread, alone, a_plan, name_faults, script_answer, too_large, within}
use Rattle.ssi_run.specs.Endings.{Ends, HasRead, IsAnswerTo, ReadWithin, Seen, SourceFailed, part, starved, unread, whole}
use Rattle.ssi_run.specs.Outcomes.{Gives, GivesNothing, Replies, told_of}
use Rattle.ssi_run.specs.Statuses.{failure_number, input_limit, number_after, number_of, too_large_line, usage_line}
use Rattle.ssi_run.proofs.Layers.{Tree}
use Rattle.ssi_run.proofs.LastLine.{writes_alone}

-- ---- how much is read for an answer

script_reads : (input : List ℕ) (steps : List ScriptStep) (fault : Option ScriptFault) (session : Session) (x : Answer) → x ≡ script_answer input steps fault session → x.reading ≡ ToEnd
script_reads input steps None session x e = ap (λ (y : Answer). y.reading) e
script_reads input steps (Some fault) session x e = ap (λ (y : Answer). y.reading) e

module _ (input : List ℕ) (shelf : List ModuleState) where
  tree_reads : {tree : _} {behind : _} {end : _} (x : Answer) → Tree input shelf tree behind end x → x.reading ≡ ToEnd
  tree_reads x (name_faults some) = refl
  tree_reads x (a_plan y none p) = script_reads input p.steps p.fault _ y p.answer_is

  found_reads : (end : TextEnd) (found : Finding SourceText) (x : Answer) → OfFinding shelf (Tree input shelf) end found x → x.reading ≡ ToEnd
  found_reads end (taken tree behind) x t = tree_reads x t
  found_reads end (no_spelling place) x e = ap (λ (y : Answer). y.reading) e
  found_reads end (level_too_deep place) x e = ap (λ (y : Answer). y.reading) e
  found_reads end (no_token fault) x e = ap (λ (y : Answer). y.reading) e

  -- a text within the limit is read to its end
  pub text_reads : (x : Answer) → RunsText input shelf x → x.reading ≡ ToEnd
  text_reads x answers = found_reads answers.end answers.answered.found x answers.answered.answered

-- ---- inputs

-- some input that the source may have had
some_input : (left : Option (List ℕ)) → (input : List ℕ) × IfSome left (λ all. input ≡ all)
some_input None = ([], tt)
some_input (Some all) = (all, refl)

-- what was read to the end is the input
read_input : (old new : Option (List ℕ)) (bytes : List ℕ) → ReadsToEnd old new input_limit bytes → IfSome old (λ all. bytes ≡ all)
read_input None new bytes r = tt
read_input (Some all) new bytes r = whole_input all bytes new input_limit r

-- a source that gave a byte past the limit has a longer input
past_input : (old new : Option (List ℕ)) → GivesPast old new input_limit → (input : List ℕ) × IfSome old (λ all. input ≡ all) × (input_limit < length input)
past_input None new g = (g.0, tt, g.2)
past_input (Some all) new g = (all, refl, long_input all new input_limit g)

-- ---- what became of an answer

-- a text that was to be written alone
told : (command : Option Command) (seen : Seen) (status : Status) (reading : Reading) (text : List ℕ) → IsAnswerTo command seen (alone seen.shelf_before status reading text)
    → seen.shelf_after ≡ seen.shelf_before → (written : Result (Unit {0}) Failed)
    → Writes seen.sink.written_before seen.sink.written_after seen.sink.faults_before seen.sink.faults_after text written
    → Ends command seen (number_after (told_of written status))
told command seen status reading text is same (Ok x) w = whole (alone seen.shelf_before status reading text) is (writes_alone {T = Unit {0}} {E = Failed} seen.shelf_before text (Ok x) w).whole.appended same
told command seen status reading text is same (Err failed) w =
    let stopped = writes_alone {T = Unit {0}} seen.shelf_before text (Err failed) w in
    part (alone seen.shelf_before status reading text) is (rw same stopped.part) w.cause.failed

module _ (command : Option Command) (seen : Seen) (IsSuch : Answer → Type 0) (answers : (x : Answer) → IsSuch x → IsAnswerTo command seen x) where
  -- an answer is given whole or in part, or memory runs out before anything is done
  ended : (result : Result Status Failure)
      → Gives IsSuch seen.sink.written_before seen.sink.written_after seen.sink.faults_before seen.sink.faults_after seen.shelf_before seen.shelf_after result
      → (GivesNothing seen.sink.written_before seen.sink.written_after seen.shelf_before seen.shelf_after → Ends command seen (failure_number Memory)) → Ends command seen (number_after result)
  ended (Ok status) g memory = subst (λ (s : Status). Ends command seen (number_of s)) (sym g.status_is) (whole g.answer (answers g.answer g.is_such) g.appended g.left_is)
  ended (Err Source) g memory = absurd g
  ended (Err Sink) g memory = part g.answer (answers g.answer g.is_such) g.stops g.failed
  ended (Err Memory) g memory = memory g

module _ (seen : Seen) where
  -- an input that was read to its end is answered
  pub ended_input : (input : List ℕ) → ReadsToEnd seen.source.left_before seen.source.left_after input_limit input → (result : Result Status Failure)
      → Replies (RunsText input seen.shelf_before) seen.sink.written_before seen.sink.written_after seen.sink.faults_before seen.sink.faults_after seen.shelf_before seen.shelf_after result
      → Ends (Some Run) seen (number_after result)
  ended_input input read result replies = ended (Some Run) seen (RunsText input seen.shelf_before) is result replies.gives (λ n. starved tt (input, read.given, read.within) n.written n.modules)
    where
      is : (x : Answer) → RunsText input seen.shelf_before x → IsAnswerTo (Some Run) seen x
      is x such = record {
        input = input;
        is_input = read_input _ seen.source.left_after input read;
        is_answer = within x read.within such;
        has_read = subst (λ (reading : Reading). HasRead reading seen) (sym (text_reads input seen.shelf_before x such)) ((input, read.given, read.within), read.end);
      }

  -- an input that is too large is told so
  pub ended_large : GivesPast seen.source.left_before seen.source.left_after input_limit → (written : Result (Unit {0}) Failed)
      → Writes seen.sink.written_before seen.sink.written_after seen.sink.faults_before seen.sink.faults_after too_large_line written
      → seen.shelf_after ≡ seen.shelf_before → Ends (Some Run) seen (number_after (told_of written PastLimit))
  ended_large past written w same =
      let answer = alone seen.shelf_before PastLimit TooMuch too_large_line in
      let long = past_input _ seen.source.left_after past in
      let is : IsAnswerTo (Some Run) seen answer = record { input = long.0; is_input = long.1; is_answer = too_large long.2; has_read = past } in
      told (Some Run) seen PastLimit TooMuch too_large_line is same written w

  -- words that ask for nothing are told how to ask
  pub ended_usage : seen.source.left_after ≡ seen.source.left_before → (written : Result (Unit {0}) Failed)
      → Writes seen.sink.written_before seen.sink.written_after seen.sink.faults_before seen.sink.faults_after usage_line written
      → seen.shelf_after ≡ seen.shelf_before → Ends None seen (number_after (told_of written NoShape))
  ended_usage still written w same =
      let answer = alone seen.shelf_before NoShape Unread usage_line in
      let some = some_input seen.source.left_before in
      let is : IsAnswerTo None seen answer = record { input = some.0; is_input = some.1; is_answer = refl; has_read = still } in
      told None seen NoShape Unread usage_line is same written w

  -- reading failed, or memory ran out over it
  pub ended_unread : SourceFailed seen → ReadWithin seen → seen.sink.written_after ≡ seen.sink.written_before → seen.shelf_after ≡ seen.shelf_before → Ends (Some Run) seen (failure_number Source)
  ended_unread failed small written modules = unread tt failed small written modules

  pub ended_starved : ReadWithin seen → seen.sink.written_after ≡ seen.sink.written_before → seen.shelf_after ≡ seen.shelf_before → Ends (Some Run) seen (failure_number Memory)
  ended_starved small written modules = starved tt small written modules
