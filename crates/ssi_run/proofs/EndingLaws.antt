-- What each way to end comes to, number by number.
use Rattle.std.proofs.Common.{◌≡◌, ◌≢◌, ℕ, List, [], Option, Some, None, refl, sym, ap, subst, ◌∙◌, ◌⊎◌, inl, inr, arith}
use Rattle.std.specs.Prelude.{Bool, true, false, if◌then◌else◌, ◌==◌, ◌||◌, Result, Ok, Err}
use Rattle.std.specs.Io.KnownBytes.{IsAtEnd}
use Rattle.std.proofs.KnownBytes.{Consumes-nil}
use Rattle.ssi_base.specs.declared.outside.Failed.{Failed}
use Rattle.ssi_base.specs.Streams.{GivesPast}
use Rattle.ssi_lexer.specs.declared.token.TextEnd.{TextEnd}
use Rattle.ssi_lexer.specs.Spelling.{Finding, level_too_deep, no_spelling, no_token, taken}
use Rattle.ssi_names.specs.SourceTexts.{SourceText}
use Rattle.ssi_trackside.specs.Module.{ModuleState}
use Rattle.ssi_script.specs.declared.step.ScriptFault.{ScriptFault}
use Rattle.ssi_script.specs.declared.step.ScriptStep.{ScriptStep}
use Rattle.ssi_script.specs.Sessions.{Session}
use Rattle.ssi_run.specs.declared.status.Status.{Status}
use Rattle.ssi_run.specs.declared.status.Status.TheVariants.{Done, Faulty, NoShape, BadScript, PastLimit}
use Rattle.ssi_run.specs.declared.status.Failure.{Failure}
use Rattle.ssi_run.specs.declared.status.Failure.TheVariants.{Source, Sink, Memory}
use Rattle.ssi_run.specs.declared.words.Command.{Command}
use Rattle.ssi_run.specs.declared.words.Command.TheVariants.{Run}
use Rattle.ssi_run.specs.Answers.{Answer, Answers, OfFinding, Reading, RunsText, ToEnd, TooMuch, Unread, Within, a_plan, faulty, name_faults, script_answer, too_large, within}
use Rattle.ssi_run.specs.Endings.{Ends, HasRead, IsAnswerTo, LeftModules, ReadWithin, Seen, SinkFailed, SourceFailed, WroteNothing, part, starved, unread, whole}
use Rattle.ssi_run.specs.EndingLaws.{GivesAnswer, GivesPart, IsAnswered}
use Rattle.ssi_run.specs.FaultLines.{depth_line, lexical_line, syntax_line}
use Rattle.ssi_run.specs.Outcomes.{told_of}
use Rattle.ssi_run.specs.Statuses.{failure_number, input_limit, number_after, number_of}
use Rattle.ssi_run.proofs.Layers.{Tree}

-- ---- numbers of statuses and failures differ

-- each number is that of one status
abbrev at : ℕ → Status
at n = if n == 0 then Done else (if n == 1 then Faulty else (if n == 2 then NoShape else (if n == 7 then BadScript else PastLimit)))

at_number : (status : Status) → at (number_of status) ≡ status
at_number Done = refl
at_number Faulty = refl
at_number NoShape = refl
at_number BadScript = refl
at_number PastLimit = refl

one_status : (a b : Status) → number_of a ≡ number_of b → a ≡ b
one_status a b e = sym (at_number a) ∙ subst (λ n. at (number_of a) ≡ at n) e refl ∙ at_number b

-- no number of a status is one of a failure
abbrev is_failure : ℕ → Bool
is_failure n = n == 3 || n == 4 || n == 8

no_failure : (status : Status) → is_failure (number_of status) ≡ false
no_failure Done = refl
no_failure Faulty = refl
no_failure NoShape = refl
no_failure BadScript = refl
no_failure PastLimit = refl

a_failure : (failure : Failure) → is_failure (failure_number failure) ≡ true
a_failure Source = refl
a_failure Sink = refl
a_failure Memory = refl

apart : (status : Status) (failure : Failure) → number_of status ≢ failure_number failure
apart status failure e = let h : false ≡ true = sym (no_failure status) ∙ ap is_failure e ∙ a_failure failure in cc

-- a failure's number tells that it was met
pub failure_told : (result : Result Status Failure) (failure : Failure) → number_after result ≡ failure_number failure → result ≡ Err failure
failure_told (Ok status) failure e = absurd (apart status failure e)
failure_told (Err Source) Source e = refl
failure_told (Err Source) Sink e = absurd cc
failure_told (Err Source) Memory e = absurd cc
failure_told (Err Sink) Source e = absurd cc
failure_told (Err Sink) Sink e = refl
failure_told (Err Sink) Memory e = absurd cc
failure_told (Err Memory) Source e = absurd cc
failure_told (Err Memory) Sink e = absurd cc
failure_told (Err Memory) Memory e = refl

-- a number of the source or of memory is that of their failure
pub source_or_memory : (result : Result Status Failure) (n : ℕ) → n ≡ number_after result → (n ≡ failure_number Source) ⊎ (n ≡ failure_number Memory) → (result ≡ Err Source) ⊎ (result ≡ Err Memory)
source_or_memory result n is (inl e) = inl (failure_told result Source (sym is ∙ e))
source_or_memory result n is (inr e) = inr (failure_told result Memory (sym is ∙ e))

-- what is told of a text that was to be written is neither
pub not_told : (written : Result (Unit {0}) Failed) (status : Status) (n : ℕ) → n ≡ number_after (told_of written status) → (n ≡ failure_number Source) ⊎ (n ≡ failure_number Memory) → ⊥
not_told (Ok x) status n is (inl e) = apart status Source (sym is ∙ e)
not_told (Ok x) status n is (inr e) = apart status Memory (sym is ∙ e)
not_told (Err failed) status n is (inl e) = cc
not_told (Err failed) status n is (inr e) = cc

-- ---- the sorts of answers

-- An answer tells that the words have no shape, what the script was, that the data part has faults, or that the input is too large. All but a script leave the modules as they were.
data Sort (command : Option Command) (shelf : List ModuleState) (x : Answer) : Type 0 where
  no_shape : command ≡ None → x.status ≡ NoShape → x.reading ≡ Unread → x.left ≡ shelf → Sort command shelf x
  all_done : x.status ≡ Done → x.reading ≡ ToEnd → Sort command shelf x
  bad_script : x.status ≡ BadScript → x.reading ≡ ToEnd → Sort command shelf x
  has_faults : x.status ≡ Faulty → x.reading ≡ ToEnd → x.left ≡ shelf → Sort command shelf x
  past_limit : x.status ≡ PastLimit → x.reading ≡ TooMuch → x.left ≡ shelf → Sort command shelf x

module _ (command : Option Command) (shelf : List ModuleState) where
  script_sort : (input : List ℕ) (steps : List ScriptStep) (fault : Option ScriptFault) (session : Session) (x : Answer) → x ≡ script_answer input steps fault session → Sort command shelf x
  script_sort input steps None session x e = all_done (ap (λ (y : Answer). y.status) e) (ap (λ (y : Answer). y.reading) e)
  script_sort input steps (Some fault) session x e = bad_script (ap (λ (y : Answer). y.status) e) (ap (λ (y : Answer). y.reading) e)

  fault_sort : (line : List ℕ) (x : Answer) → x ≡ faulty shelf line → Sort command shelf x
  fault_sort line x e = has_faults (ap (λ (y : Answer). y.status) e) (ap (λ (y : Answer). y.reading) e) (ap (λ (y : Answer). y.left) e)

  tree_sort : {input : List ℕ} {tree : _} {behind : _} {end : _} (x : Answer) → Tree input shelf tree behind end x → Sort command shelf x
  tree_sort x (name_faults some) = has_faults refl refl refl
  tree_sort {input = input} x (a_plan y none p) = script_sort input p.steps p.fault _ y p.answer_is

  found_sort : (input : List ℕ) (end : TextEnd) (found : Finding SourceText) (x : Answer) → OfFinding shelf (Tree input shelf) end found x → Sort command shelf x
  found_sort input end (taken tree behind) x t = tree_sort x t
  found_sort input end (no_spelling place) x e = fault_sort (syntax_line place) x e
  found_sort input end (level_too_deep place) x e = fault_sort (depth_line place) x e
  found_sort input end (no_token fault) x e = fault_sort (lexical_line fault) x e

  run_sort : (input : List ℕ) (x : Answer) → Within input shelf (RunsText input shelf) x → Sort command shelf x
  run_sort input x (within y small answers) = found_sort input answers.end answers.answered.found y answers.answered.answered
  run_sort input x (too_large past) = past_limit refl refl refl

sort_of : (command : Option Command) (input : List ℕ) (shelf : List ModuleState) (x : Answer) → Answers command input shelf x → Sort command shelf x
sort_of None input shelf x e = no_shape refl (ap (λ (y : Answer). y.status) e) (ap (λ (y : Answer). y.reading) e) (ap (λ (y : Answer). y.left) e)
sort_of (Some Run) input shelf x answers = run_sort (Some Run) shelf input x answers

-- ---- laws

module _ (command : Option Command) (seen : Seen) where
  sort : (x : Answer) → IsAnswerTo command seen x → Sort command seen.shelf_before x
  sort x is = sort_of command is.input seen.shelf_before x is.is_answer

  pub answer : (n : ℕ) → Ends command seen n → IsAnswered n → GivesAnswer command seen n
  answer n (whole x is appended left) answered = record { answer = x; is_answer = is; status = refl; appended = appended; left = left }
  answer n (part x is stops failed) answered = absurd (answered.written refl)
  answer n (unread reads failed small nothing still) answered = absurd (answered.read refl)
  answer n (starved reads small nothing still) answered = absurd (answered.memory refl)

  no_shape_by : (n : ℕ) → Ends command seen n → n ≡ number_of NoShape → command ≡ None
  no_shape_by n (whole x is appended left) e = by (sort x is)
    where
      same : x.status ≡ NoShape
      same = one_status x.status NoShape e

      by : Sort command seen.shelf_before x → command ≡ None
      by (no_shape none s r l) = none
      by (all_done s r) = absurd (let h : Done ≡ NoShape = sym s ∙ same in cc)
      by (bad_script s r) = absurd (let h : BadScript ≡ NoShape = sym s ∙ same in cc)
      by (has_faults s r l) = absurd (let h : Faulty ≡ NoShape = sym s ∙ same in cc)
      by (past_limit s r l) = absurd (let h : PastLimit ≡ NoShape = sym s ∙ same in cc)
  no_shape_by n (part x is stops failed) e = absurd (apart NoShape Sink (sym e))
  no_shape_by n (unread reads failed small nothing still) e = absurd (apart NoShape Source (sym e))
  no_shape_by n (starved reads small nothing still) e = absurd (apart NoShape Memory (sym e))

  pub no_shape_is : Ends command seen (number_of NoShape) → command ≡ None
  no_shape_is ends = no_shape_by (number_of NoShape) ends refl

  -- an answer that is read to its end
  read_all : (x : Answer) → IsAnswerTo command seen x → x.reading ≡ ToEnd → ReadWithin seen × IsAtEnd seen.source.left_after
  read_all x is r = subst (λ (reading : Reading). HasRead reading seen) r is.has_read

  pub to_end : (n : ℕ) → Ends command seen n → (n ≡ number_of Done) ⊎ (n ≡ number_of Faulty) ⊎ (n ≡ number_of BadScript) → IsAtEnd seen.source.left_after
  to_end n (whole x is appended left) h = by (sort x is)
    where
      neither : (s : Status) → x.status ≡ s → s ≢ Done → s ≢ Faulty → s ≢ BadScript → (number_of x.status ≡ number_of Done) ⊎ (number_of x.status ≡ number_of Faulty) ⊎ (number_of x.status ≡ number_of BadScript) → ⊥
      neither s is d f b (inl e) = d (sym is ∙ one_status x.status Done e)
      neither s is d f b (inr (inl e)) = f (sym is ∙ one_status x.status Faulty e)
      neither s is d f b (inr (inr e)) = b (sym is ∙ one_status x.status BadScript e)

      by : Sort command seen.shelf_before x → IsAtEnd seen.source.left_after
      by (no_shape none s r l) = absurd (neither NoShape s (λ e. cc) (λ e. cc) (λ e. cc) h)
      by (all_done s r) = (read_all x is r).1
      by (bad_script s r) = (read_all x is r).1
      by (has_faults s r l) = (read_all x is r).1
      by (past_limit s r l) = absurd (neither PastLimit s (λ e. cc) (λ e. cc) (λ e. cc) h)
  to_end n (part x is stops failed) h = absurd (by h)
    where
      by : (failure_number Sink ≡ number_of Done) ⊎ (failure_number Sink ≡ number_of Faulty) ⊎ (failure_number Sink ≡ number_of BadScript) → ⊥
      by (inl e) = apart Done Sink (sym e)
      by (inr (inl e)) = apart Faulty Sink (sym e)
      by (inr (inr e)) = apart BadScript Sink (sym e)
  to_end n (unread reads failed small nothing still) h = absurd (by h)
    where
      by : (failure_number Source ≡ number_of Done) ⊎ (failure_number Source ≡ number_of Faulty) ⊎ (failure_number Source ≡ number_of BadScript) → ⊥
      by (inl e) = apart Done Source (sym e)
      by (inr (inl e)) = apart Faulty Source (sym e)
      by (inr (inr e)) = apart BadScript Source (sym e)
  to_end n (starved reads small nothing still) h = absurd (by h)
    where
      by : (failure_number Memory ≡ number_of Done) ⊎ (failure_number Memory ≡ number_of Faulty) ⊎ (failure_number Memory ≡ number_of BadScript) → ⊥
      by (inl e) = apart Done Memory (sym e)
      by (inr (inl e)) = apart Faulty Memory (sym e)
      by (inr (inr e)) = apart BadScript Memory (sym e)

  past_limit_by : (n : ℕ) → Ends command seen n → n ≡ number_of PastLimit → GivesPast seen.source.left_before seen.source.left_after input_limit
  past_limit_by n (whole x is appended left) e = by (sort x is)
    where
      same : x.status ≡ PastLimit
      same = one_status x.status PastLimit e

      by : Sort command seen.shelf_before x → GivesPast seen.source.left_before seen.source.left_after input_limit
      by (no_shape none s r l) = absurd (let h : NoShape ≡ PastLimit = sym s ∙ same in cc)
      by (all_done s r) = absurd (let h : Done ≡ PastLimit = sym s ∙ same in cc)
      by (bad_script s r) = absurd (let h : BadScript ≡ PastLimit = sym s ∙ same in cc)
      by (has_faults s r l) = absurd (let h : Faulty ≡ PastLimit = sym s ∙ same in cc)
      by (past_limit s r l) = subst (λ (reading : Reading). HasRead reading seen) r is.has_read
  past_limit_by n (part x is stops failed) e = absurd (apart PastLimit Sink (sym e))
  past_limit_by n (unread reads failed small nothing still) e = absurd (apart PastLimit Source (sym e))
  past_limit_by n (starved reads small nothing still) e = absurd (apart PastLimit Memory (sym e))

  pub past_limit_is : Ends command seen (number_of PastLimit) → GivesPast seen.source.left_before seen.source.left_after input_limit
  past_limit_is ends = past_limit_by (number_of PastLimit) ends refl

  -- a source that isn't asked gives nothing
  nothing_read : seen.source.left_after ≡ seen.source.left_before → ReadWithin seen
  nothing_read same = rw same ([], Consumes-nil seen.source.left_before, omega arith)

  pub within_is : (n : ℕ) → Ends command seen n → n ≢ number_of PastLimit → n ≢ failure_number Sink → ReadWithin seen
  within_is n (whole x is appended left) p f = by (sort x is)
    where
      by : Sort command seen.shelf_before x → ReadWithin seen
      by (no_shape none s r l) = nothing_read (subst (λ (reading : Reading). HasRead reading seen) r is.has_read)
      by (all_done s r) = (read_all x is r).0
      by (bad_script s r) = (read_all x is r).0
      by (has_faults s r l) = (read_all x is r).0
      by (past_limit s r l) = absurd (p (ap number_of s))
  within_is n (part x is stops failed) p f = absurd (f refl)
  within_is n (unread reads failed small nothing still) p f = small
  within_is n (starved reads small nothing still) p f = small

  source_fault_by : (n : ℕ) → Ends command seen n → n ≡ failure_number Source → SourceFailed seen
  source_fault_by n (whole x is appended left) e = absurd (apart x.status Source e)
  source_fault_by n (part x is stops failed) e = absurd cc
  source_fault_by n (unread reads failed small nothing still) e = failed
  source_fault_by n (starved reads small nothing still) e = absurd cc

  pub source_fault : Ends command seen (failure_number Source) → SourceFailed seen
  source_fault ends = source_fault_by (failure_number Source) ends refl

  part_by : (n : ℕ) → Ends command seen n → n ≡ failure_number Sink → SinkFailed seen × GivesPart command seen
  part_by n (whole x is appended left) e = absurd (apart x.status Sink e)
  part_by n (part x is stops failed) e = (failed, record { answer = x; is_answer = is; part = stops })
  part_by n (unread reads failed small nothing still) e = absurd cc
  part_by n (starved reads small nothing still) e = absurd cc

  pub part_is : Ends command seen (failure_number Sink) → SinkFailed seen × GivesPart command seen
  part_is ends = part_by (failure_number Sink) ends refl

  pub nothing_is : (n : ℕ) → Ends command seen n → (n ≡ failure_number Source) ⊎ (n ≡ failure_number Memory) → WroteNothing seen
  nothing_is n (whole x is appended left) (inl e) = absurd (apart x.status Source e)
  nothing_is n (whole x is appended left) (inr e) = absurd (apart x.status Memory e)
  nothing_is n (part x is stops failed) (inl e) = absurd cc
  nothing_is n (part x is stops failed) (inr e) = absurd cc
  nothing_is n (unread reads failed small nothing still) e = nothing
  nothing_is n (starved reads small nothing still) e = nothing

  pub untouched : (n : ℕ) → Ends command seen n → n ≢ number_of Done → n ≢ number_of BadScript → n ≢ failure_number Sink → LeftModules seen
  untouched n (whole x is appended left) d b f = by (sort x is)
    where
      by : Sort command seen.shelf_before x → LeftModules seen
      by (no_shape none s r l) = left ∙ l
      by (all_done s r) = absurd (d (ap number_of s))
      by (bad_script s r) = absurd (b (ap number_of s))
      by (has_faults s r l) = left ∙ l
      by (past_limit s r l) = left ∙ l
  untouched n (part x is stops failed) d b f = absurd (f refl)
  untouched n (unread reads failed small nothing still) d b f = still
  untouched n (starved reads small nothing still) d b f = still

  pub complete : (n : ℕ) → Ends command seen n → ¬ SourceFailed seen → ¬ SinkFailed seen → (n ≡ failure_number Memory) ⊎ IsAnswered n
  complete n (whole x is appended left) s k = inr (record { read = apart x.status Source; written = apart x.status Sink; memory = apart x.status Memory })
  complete n (part x is stops failed) s k = absurd (k failed)
  complete n (unread reads failed small nothing still) s k = absurd (s failed)
  complete n (starved reads small nothing still) s k = inl refl

module _ (seen : Seen) where
  pub shapeless : (n : ℕ) → Ends None seen n → (n ≡ number_of NoShape) ⊎ (n ≡ failure_number Sink)
  shapeless n (whole x is appended left) = inl (ap (λ (y : Answer). number_of y.status) is.is_answer)
  shapeless n (part x is stops failed) = inr refl
  shapeless n (unread reads failed small nothing still) = absurd reads
  shapeless n (starved reads small nothing still) = absurd reads
