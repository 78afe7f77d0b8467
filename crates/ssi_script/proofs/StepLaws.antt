-- That the reader of a step is one of its rule, and that of the header of a script too.
use Rattle.std.proofs.Common.{◌≡◌, ℕ, ◌≤◌, Bool, false, codes, List, [], ◌∷◌, ◌++◌, length, None, is_some, refl, sym, ap, subst, arith}
use Rattle.std.specs.Str.{bytes_eq}
use Rattle.ssi_lexer.specs.declared.token.Token.{Token}
use Rattle.ssi_lexer.specs.declared.token.TokenKind.TheVariants as k
use Rattle.ssi_lexer.specs.Lexemes.{Lexeme, token_of}
use Rattle.ssi_lexer.specs.TokenTests.{Is, of_kind, word, name, number, dot}
use Rattle.ssi_lexer.specs.Languages.{One, one}
use Rattle.ssi_lexer.specs.Parsers.{Parser, ◌&◌, tok, valued, either}
use Rattle.ssi_lexer.specs.Laws.{StartsWith, Lacks, Always, Good}
use Rattle.ssi_lexer.proofs.OneToken.{good_tok, Valued, a_value, good_valued}
use Rattle.ssi_lexer.proofs.Joining.{Both, both, good_both, good_mapped, good_as}
use Rattle.ssi_lexer.proofs.Choosing.{OneOf, the_one, the_other, good_either}
use Rattle.ssi_lexer.proofs.Starting.{some_token, some_word, some_name, other_word, lacks_after, good_dot}
use Rattle.ssi_script.specs.declared.step.EventWord.{EventWord}
use Rattle.ssi_script.specs.declared.step.EventWord.TheVariants as event
use Rattle.ssi_script.specs.declared.step.ModuleWord.{ModuleWord}
use Rattle.ssi_script.specs.declared.step.ModuleWord.TheVariants as becomes
use Rattle.ssi_script.specs.declared.step.StepTree.{StepTree}
use Rattle.ssi_script.specs.declared.step.StepTree.TheVariants as tree
use Rattle.ssi_script.specs.declared.words.Number.{Number}
use Rattle.ssi_script.specs.Steps.{IsByte, SpellsHeader, SpellsStep, a_put, at_a_module, letters_of_event, letters_of_module, the_header}
use Rattle.ssi_script.specs.Steps as steps
use Rattle.ssi_script.specs.StepReading.{byte, event_word_at, event_words, header, is_module_word, largest, module_word_at, module_words, number_told}
use Rattle.ssi_script.specs.StepReading as spec
use Rattle.ssi_script.proofs.StepWords.{AByte, a_byte, among, event_no_module, event_told, good_byte, good_number, module_told, no_other, number_one, number_small, number_told_is, number_zero, told_is, told_number, told_within}

-- readers one after the other, whatever follows
in_a_row : (A B : Type 0) (p : Parser A) (q : Parser B) (S : A → List Lexeme → Type 0) (T : B → List Lexeme → Type 0) → Good A p S Always Always → Good B q T Always Always → Good (A × B) (p & q) (Both A B S T) Always Always
in_a_row A B p q S T g h = good_both A B p q S T Always Always Always Always (λ y v rest t k. tt) g h

abbrev is_word : List ℕ → Lexeme → Bool
is_word letters = word letters

good_word : (letters : List ℕ) → Good Token (tok (word letters)) (One (word letters)) Always Always
good_word letters = good_tok (word letters) (some_token k.Word letters) (some_word letters)

-- ---- the end of a step

good_name : Good Token (tok (of_kind k.Name)) (One (of_kind k.Name)) Always Always
good_name = good_tok (of_kind k.Name) (some_token k.Name (codes "Q1")) refl

abbrev FromName : Token × Token → List Lexeme → Type 0
FromName = Both Token Token (One (of_kind k.Name)) (One dot)

good_from_name : Good (Token × Token) (tok (of_kind k.Name) & tok dot) FromName Always Always
good_from_name = in_a_row Token Token (tok (of_kind k.Name)) (tok dot) (One (of_kind k.Name)) (One dot) good_name good_dot

abbrev Numbered : ℕ → ℕ → Number → List Lexeme → Type 0
Numbered least most = Valued Number (number_told least most)

abbrev FromNumber : ℕ → ℕ → Number × Token → List Lexeme → Type 0
FromNumber least most = Both Number Token (Numbered least most) (One dot)

good_from_number : (least most n : ℕ) → Good Number (valued (number_told least most)) (Numbered least most) Always Always → Good (Number × Token) (valued (number_told least most) & tok dot) (FromNumber least most) Always Always
good_from_number least most n g = in_a_row Number Token (valued (number_told least most)) (tok dot) (Numbered least most) (One dot) g good_dot

-- ---- a put

abbrev PutTokens : Type 0
PutTokens = Token × (Number × (Token × Token))

abbrev PutText : PutTokens → List Lexeme → Type 0
PutText = Both Token (Number × (Token × Token)) (One (is_word (codes "panel"))) (Both Number (Token × Token) (Numbered 0 0) FromName)

-- a step that is a put
data APut : StepTree → List Lexeme → Type 0 where
  the_put : (w p q d : Lexeme) → Is (is_word (codes "panel")) w → Is (number 0) p → Is (of_kind k.Name) q → Is dot d → APut (tree.Panel 0 (token_of q)) (w ∷ p ∷ q ∷ d ∷ [])

abbrev put_of : PutTokens → StepTree
put_of x = tree.Panel 0 x.1.1.0

to_put : (x : PutTokens) (u : List Lexeme) → PutText x u → APut (put_of x) u
to_put x u (both a b v v2 (one w e) (both c y z z2 (a_value p n h) (both s t l l2 (one q m) (one d i)))) =
    let is = number_told_is 0 0 p n h in
    let zero : n.value ≡ 0 = omega (arith, is.high) in
    the_put w p q d e (subst (λ (n : ℕ). Is (number n) p) zero is.is) m i

from_put : (y : StepTree) (u : List Lexeme) → APut y u → (x : PutTokens) × (y ≡ put_of x) × PutText x u
from_put y u (the_put w p q d e h m i) = (
  (token_of w, (told_number 0 p, (token_of q, token_of d))),
  refl,
  both (token_of w) _ (w ∷ []) _ (one w e)
      (both (told_number 0 p) _ (p ∷ []) _ (a_value p (told_number 0 p) (told_within 0 0 p 0 (omega arith) (omega arith) h)) (both (token_of q) (token_of d) (q ∷ []) (d ∷ []) (one q m) (one d i))),
)

good_put : Good StepTree spec.put APut Always Always
unfolding spec.put
good_put =
    good_mapped PutTokens StepTree put_of (tok (is_word (codes "panel")) & (valued (number_told 0 0) & (tok (of_kind k.Name) & tok dot))) PutText APut Always Always to_put from_put
    (in_a_row Token (Number × (Token × Token)) (tok (is_word (codes "panel"))) (valued (number_told 0 0) & (tok (of_kind k.Name) & tok dot)) (One (is_word (codes "panel"))) (Both Number (Token × Token) (Numbered 0 0) FromName)
    (good_word (codes "panel"))
    (in_a_row Number (Token × Token) (valued (number_told 0 0)) (tok (of_kind k.Name) & tok dot) (Numbered 0 0) FromName (good_number 0 0 0 (omega arith) (omega arith) number_zero) good_from_name))

put_starts : (x : StepTree) (u : List Lexeme) → APut x u → StartsWith (is_word (codes "panel")) u
put_starts x u (the_put w p q d e h m i) = record { first = w; others = p ∷ q ∷ d ∷ []; parts = refl; passes = e }

-- ---- minor cycles

abbrev CyclesTokens : Type 0
CyclesTokens = Token × (Number × Token)

abbrev CyclesText : CyclesTokens → List Lexeme → Type 0
CyclesText = Both Token (Number × Token) (One (is_word (codes "cycle"))) (FromNumber 1 largest)

-- a step that makes minor cycles
data ACycle : StepTree → List Lexeme → Type 0 where
  the_cycles : (w n d : Lexeme) (count : ℕ) → Is (is_word (codes "cycle")) w → 1 ≤ count → Is (number count) n → Is dot d → ACycle (tree.Cycle count (token_of n)) (w ∷ n ∷ d ∷ [])

abbrev cycles_of : CyclesTokens → StepTree
cycles_of x = tree.Cycle x.1.0.value x.1.0.token

to_cycles : (x : CyclesTokens) (u : List Lexeme) → CyclesText x u → ACycle (cycles_of x) u
to_cycles x u (both a b v v2 (one w e) (both c y z z2 (a_value n count h) (one d m))) =
    let is = number_told_is 1 largest n count h in
    subst (λ (t : Token). ACycle (tree.Cycle count.value t) (w ∷ n ∷ d ∷ [])) (sym is.token_is) (the_cycles w n d count.value e is.low is.is m)

from_cycles : (y : StepTree) (u : List Lexeme) → ACycle y u → (x : CyclesTokens) × (y ≡ cycles_of x) × CyclesText x u
from_cycles y u (the_cycles w n d count e some h m) = (
  (token_of w, (told_number count n, token_of d)),
  refl,
  both (token_of w) _ (w ∷ []) _ (one w e)
      (both (told_number count n) (token_of d) (n ∷ []) (d ∷ []) (a_value n (told_number count n) (told_within 1 largest n count some (number_small n count h) h)) (one d m)),
)

good_cycles : Good StepTree spec.some_cycles ACycle Always Always
unfolding spec.some_cycles
good_cycles =
    good_mapped CyclesTokens StepTree cycles_of (tok (is_word (codes "cycle")) & (valued (number_told 1 largest) & tok dot)) CyclesText ACycle Always Always to_cycles from_cycles
    (in_a_row Token (Number × Token) (tok (is_word (codes "cycle"))) (valued (number_told 1 largest) & tok dot) (One (is_word (codes "cycle"))) (FromNumber 1 largest) (good_word (codes "cycle"))
    (good_from_number 1 largest 1 (good_number 1 largest 1 (omega arith) (omega arith) number_one)))

cycles_start : (x : StepTree) (u : List Lexeme) → ACycle x u → StartsWith (is_word (codes "cycle")) u
cycles_start x u (the_cycles w n d count e some h m) = record { first = w; others = n ∷ d ∷ []; parts = refl; passes = e }

-- ---- an event

abbrev EventTokens : Type 0
EventTokens = EventWord × (Token × Token)

abbrev EventText : EventTokens → List Lexeme → Type 0
EventText = Both EventWord (Token × Token) (Valued EventWord event_word_at) FromName

-- a step by which something happens to an identity
data AnEvent : StepTree → List Lexeme → Type 0 where
  the_event : (w x d : Lexeme) (what : EventWord) → Is (word (letters_of_event what)) w → Is (of_kind k.Name) x → Is dot d → AnEvent (tree.Happen what (token_of x)) (w ∷ x ∷ d ∷ [])

abbrev event_of : EventTokens → StepTree
event_of x = tree.Happen x.0 x.1.0

to_event : (x : EventTokens) (u : List Lexeme) → EventText x u → AnEvent (event_of x) u
to_event x u (both a b v v2 (a_value w what e) (both s t l l2 (one q m) (one d i))) = the_event w q d what (told_is EventWord letters_of_event event_words w what e) m i

from_event : (y : StepTree) (u : List Lexeme) → AnEvent y u → (x : EventTokens) × (y ≡ event_of x) × EventText x u
from_event y u (the_event w q d what e m i) = (
  (what, (token_of q, token_of d)),
  refl,
  both what _ (w ∷ []) _ (a_value w what (event_told what w e)) (both (token_of q) (token_of d) (q ∷ []) (d ∷ []) (one q m) (one d i)),
)

good_event : Good StepTree spec.an_event AnEvent Always Always
unfolding spec.an_event
good_event =
    good_mapped EventTokens StepTree event_of (valued event_word_at & (tok (of_kind k.Name) & tok dot)) EventText AnEvent Always Always to_event from_event
    (in_a_row EventWord (Token × Token) (valued event_word_at) (tok (of_kind k.Name) & tok dot) (Valued EventWord event_word_at) FromName
    (good_valued EventWord event_word_at (some_token k.Word (codes "occupy")) event.Occupy (event_told event.Occupy (some_token k.Word (codes "occupy")) (some_word (codes "occupy")))) good_from_name)

-- ---- what becomes of a module

abbrev ModuleTokens : Type 0
ModuleTokens = ModuleWord × (Number × Token)

abbrev ModuleText : ModuleTokens → List Lexeme → Type 0
ModuleText = Both ModuleWord (Number × Token) (Valued ModuleWord module_word_at) (FromNumber 0 largest)

-- a step that tells the address of a module
data AtModule : StepTree → List Lexeme → Type 0 where
  the_module : (w a d : Lexeme) (what : ModuleWord) (address : ℕ) → Is (word (letters_of_module what)) w → Is (number address) a → Is dot d
      → AtModule (tree.Module what address (token_of a)) (w ∷ a ∷ d ∷ [])

abbrev module_of : ModuleTokens → StepTree
module_of x = tree.Module x.0 x.1.0.value x.1.0.token

to_module : (x : ModuleTokens) (u : List Lexeme) → ModuleText x u → AtModule (module_of x) u
to_module x u (both a b v v2 (a_value w what e) (both c y z z2 (a_value n address h) (one d m))) =
    let is = number_told_is 0 largest n address h in
    subst (λ (t : Token). AtModule (tree.Module what address.value t) (w ∷ n ∷ d ∷ [])) (sym is.token_is) (the_module w n d what address.value (told_is ModuleWord letters_of_module module_words w what e) is.is m)

-- a number of any size, for a reader
any_number : (t : Lexeme) (n : ℕ) → Is (number n) t → Numbered 0 largest (told_number n t) (t ∷ [])
any_number t n is = a_value t (told_number n t) (told_within 0 largest t n (omega arith) (number_small t n is) is)

from_module : (y : StepTree) (u : List Lexeme) → AtModule y u → (x : ModuleTokens) × (y ≡ module_of x) × ModuleText x u
from_module y u (the_module w a d what address e h m) = (
  (what, (told_number address a, token_of d)),
  refl,
  both what _ (w ∷ []) _ (a_value w what (module_told what w e)) (both (told_number address a) (token_of d) (a ∷ []) (d ∷ []) (any_number a address h) (one d m)),
)

good_address : Good Number (valued (number_told 0 largest)) (Numbered 0 largest) Always Always
good_address = good_number 0 largest 0 (omega arith) (omega arith) number_zero

good_module : Good StepTree spec.at_a_module AtModule Always Always
unfolding spec.at_a_module
good_module =
    good_mapped ModuleTokens StepTree module_of (valued module_word_at & (valued (number_told 0 largest) & tok dot)) ModuleText AtModule Always Always to_module from_module
    (in_a_row ModuleWord (Number × Token) (valued module_word_at) (valued (number_told 0 largest) & tok dot) (Valued ModuleWord module_word_at) (FromNumber 0 largest)
    (good_valued ModuleWord module_word_at (some_token k.Word (codes "dead")) becomes.Dead (module_told becomes.Dead (some_token k.Word (codes "dead")) (some_word (codes "dead"))))
    (good_from_number 0 largest 0 good_address))

module_starts : (x : StepTree) (u : List Lexeme) → AtModule x u → StartsWith is_module_word u
module_starts x u (the_module w a d what address e h m) = record { first = w; others = a ∷ d ∷ []; parts = refl; passes = ap is_some (module_told what w e) }

-- ---- four bytes in place of a report

abbrev FourText : ℕ × (ℕ × (ℕ × ℕ)) → List Lexeme → Type 0
FourText = Both ℕ (ℕ × (ℕ × ℕ)) AByte (Both ℕ (ℕ × ℕ) AByte (Both ℕ ℕ AByte AByte))

data FourBytes : List ℕ → List Lexeme → Type 0 where
  the_bytes : (b c e f : Lexeme) (first second third fourth : ℕ) → IsByte first b → IsByte second c → IsByte third e → IsByte fourth f
      → FourBytes (first ∷ second ∷ third ∷ fourth ∷ []) (b ∷ c ∷ e ∷ f ∷ [])

abbrev bytes_of : ℕ × (ℕ × (ℕ × ℕ)) → List ℕ
bytes_of x = x.0 ∷ x.1.0 ∷ x.1.1.0 ∷ x.1.1.1 ∷ []

to_bytes : (x : ℕ × (ℕ × (ℕ × ℕ))) (u : List Lexeme) → FourText x u → FourBytes (bytes_of x) u
to_bytes x u (both p0 q0 u0 v0 (a_byte b first h) (both p1 q1 u1 v1 (a_byte c second i) (both p2 q2 u2 v2 (a_byte e third j) (a_byte f fourth l)))) = the_bytes b c e f first second third fourth h i j l

from_bytes : (y : List ℕ) (u : List Lexeme) → FourBytes y u → (x : ℕ × (ℕ × (ℕ × ℕ))) × (y ≡ bytes_of x) × FourText x u
from_bytes y u (the_bytes b c e f first second third fourth h i j l) = (
  (first, (second, (third, fourth))),
  refl,
  both first _ (b ∷ []) _ (a_byte b first h) (both second _ (c ∷ []) _ (a_byte c second i) (both third fourth (e ∷ []) (f ∷ []) (a_byte e third j) (a_byte f fourth l))),
)

good_bytes : Good (List ℕ) spec.four_bytes FourBytes Always Always
unfolding spec.four_bytes
good_bytes =
    good_mapped (ℕ × (ℕ × (ℕ × ℕ))) (List ℕ) bytes_of (byte & (byte & (byte & byte))) FourText FourBytes Always Always to_bytes from_bytes
    (in_a_row ℕ (ℕ × (ℕ × ℕ)) byte (byte & (byte & byte)) AByte (Both ℕ (ℕ × ℕ) AByte (Both ℕ ℕ AByte AByte)) good_byte
    (in_a_row ℕ (ℕ × ℕ) byte (byte & byte) AByte (Both ℕ ℕ AByte AByte) good_byte (in_a_row ℕ ℕ byte byte AByte AByte good_byte good_byte)))

abbrev RawTokens : Type 0
RawTokens = Token × (Number × (List ℕ × Token))

abbrev FromBytes : List ℕ × Token → List Lexeme → Type 0
FromBytes = Both (List ℕ) Token FourBytes (One dot)

abbrev RawText : RawTokens → List Lexeme → Type 0
RawText = Both Token (Number × (List ℕ × Token)) (One (is_word (codes "raw"))) (Both Number (List ℕ × Token) (Numbered 0 largest) FromBytes)

-- a step that tells four bytes
data ARaw : StepTree → List Lexeme → Type 0 where
  the_raw : (w a b c e f d : Lexeme) (address first second third fourth : ℕ)
      → Is (is_word (codes "raw")) w → Is (number address) a → IsByte first b → IsByte second c → IsByte third e → IsByte fourth f → Is dot d
      → ARaw (tree.Raw address (token_of a) (first ∷ second ∷ third ∷ fourth ∷ [])) (w ∷ a ∷ b ∷ c ∷ e ∷ f ∷ d ∷ [])

abbrev raw_of : RawTokens → StepTree
raw_of x = tree.Raw x.1.0.value x.1.0.token x.1.1.0

to_raw : (x : RawTokens) (u : List Lexeme) → RawText x u → ARaw (raw_of x) u
to_raw x u (both p0 q0 u0 v0 (one w g) (both p1 q1 u1 v1 (a_value a address h) (both p2 q2 u2 v2 (the_bytes b c e f first second third fourth i j l m) (one d n)))) =
    let is = number_told_is 0 largest a address h in
    let bytes = first ∷ second ∷ third ∷ fourth ∷ [] in
    subst (λ (t : Token). ARaw (tree.Raw address.value t bytes) (w ∷ a ∷ b ∷ c ∷ e ∷ f ∷ d ∷ [])) (sym is.token_is) (the_raw w a b c e f d address.value first second third fourth g is.is i j l m n)

from_raw : (y : StepTree) (u : List Lexeme) → ARaw y u → (x : RawTokens) × (y ≡ raw_of x) × RawText x u
from_raw y u (the_raw w a b c e f d address first second third fourth g h i j l m n) = (
  (token_of w, (told_number address a, (first ∷ second ∷ third ∷ fourth ∷ [], token_of d))),
  refl,
  both (token_of w) _ (w ∷ []) _ (one w g)
      (both (told_number address a) _ (a ∷ []) _ (any_number a address h)
      (both (first ∷ second ∷ third ∷ fourth ∷ []) (token_of d) (b ∷ c ∷ e ∷ f ∷ []) (d ∷ []) (the_bytes b c e f first second third fourth i j l m) (one d n))),
)

good_raw : Good StepTree spec.raw ARaw Always Always
unfolding spec.raw
good_raw =
    good_mapped RawTokens StepTree raw_of (tok (is_word (codes "raw")) & (valued (number_told 0 largest) & (spec.four_bytes & tok dot))) RawText ARaw Always Always to_raw from_raw
    (in_a_row Token (Number × (List ℕ × Token)) (tok (is_word (codes "raw"))) (valued (number_told 0 largest) & (spec.four_bytes & tok dot)) (One (is_word (codes "raw"))) (Both Number (List ℕ × Token) (Numbered 0 largest) FromBytes)
    (good_word (codes "raw"))
    (in_a_row Number (List ℕ × Token) (valued (number_told 0 largest)) (spec.four_bytes & tok dot) (Numbered 0 largest) FromBytes good_address (in_a_row (List ℕ) Token spec.four_bytes (tok dot) FourBytes (One dot) good_bytes good_dot)))

raw_starts : (x : StepTree) (u : List Lexeme) → ARaw x u → StartsWith (is_word (codes "raw")) u
raw_starts x u (the_raw w a b c e f d address first second third fourth g h i j l m n) = record { first = w; others = a ∷ b ∷ c ∷ e ∷ f ∷ d ∷ []; parts = refl; passes = g }

-- ---- a step

event_no_word : (letters : List ℕ) → among EventWord letters_of_event event_words letters ≡ None → (x : StepTree) (u rest : List Lexeme) → AnEvent x u → Lacks (is_word letters) (u ++ rest)
event_no_word letters none x u rest (the_event w q d what e m i) = no_other EventWord letters_of_event event_words w what letters (event_told what w e) none

module_no_word : (letters : List ℕ) → among ModuleWord letters_of_module module_words letters ≡ None → (x : StepTree) (u rest : List Lexeme) → AtModule x u → Lacks (is_word letters) (u ++ rest)
module_no_word letters none x u rest (the_module w a d what address e h m) = no_other ModuleWord letters_of_module module_words w what letters (module_told what w e) none

no_module_word : (x : StepTree) (u rest : List Lexeme) → AnEvent x u → Lacks is_module_word (u ++ rest)
no_module_word x u rest (the_event w q d what e m i) = ap is_some (event_no_module what w e)

-- by its word, or by an address
abbrev ByWord : StepTree → List Lexeme → Type 0
ByWord = OneOf StepTree AtModule AnEvent

good_by_word : Good StepTree (either is_module_word spec.at_a_module spec.an_event) ByWord Always Always
good_by_word = good_either StepTree is_module_word spec.at_a_module spec.an_event AtModule AnEvent Always Always module_starts (λ x u rest s k. no_module_word x u rest s) good_module good_event

by_no_word : (letters : List ℕ) → among EventWord letters_of_event event_words letters ≡ None → among ModuleWord letters_of_module module_words letters ≡ None
    → (x : StepTree) (u rest : List Lexeme) → ByWord x u → Lacks (is_word letters) (u ++ rest)
by_no_word letters none nor x u rest (the_one y v s) = module_no_word letters nor y v rest s
by_no_word letters none nor x u rest (the_other y v s) = event_no_word letters none y v rest s

abbrev FromRaw : StepTree → List Lexeme → Type 0
FromRaw = OneOf StepTree ARaw ByWord

abbrev from_raw_word : Parser StepTree
from_raw_word = either (is_word (codes "raw")) spec.raw (either is_module_word spec.at_a_module spec.an_event)

good_from_raw : Good StepTree from_raw_word FromRaw Always Always
good_from_raw =
    good_either StepTree (is_word (codes "raw")) spec.raw (either is_module_word spec.at_a_module spec.an_event) ARaw ByWord Always Always raw_starts (λ x u rest s k. by_no_word (codes "raw") refl refl x u rest s) good_raw good_by_word

raw_no_word : (letters : List ℕ) → bytes_eq (codes "raw") letters ≡ false → (x : StepTree) (u rest : List Lexeme) → ARaw x u → Lacks (is_word letters) (u ++ rest)
raw_no_word letters apart x u rest s = lacks_after (is_word (codes "raw")) (is_word letters) u rest (raw_starts x u s) (λ t e. other_word (codes "raw") letters t apart e)

from_raw_no_cycle : (x : StepTree) (u rest : List Lexeme) → FromRaw x u → Lacks (is_word (codes "cycle")) (u ++ rest)
from_raw_no_cycle x u rest (the_one y v s) = raw_no_word (codes "cycle") refl y v rest s
from_raw_no_cycle x u rest (the_other y v s) = by_no_word (codes "cycle") refl refl y v rest s

from_raw_no_panel : (x : StepTree) (u rest : List Lexeme) → FromRaw x u → Lacks (is_word (codes "panel")) (u ++ rest)
from_raw_no_panel x u rest (the_one y v s) = raw_no_word (codes "panel") refl y v rest s
from_raw_no_panel x u rest (the_other y v s) = by_no_word (codes "panel") refl refl y v rest s

abbrev FromCycles : StepTree → List Lexeme → Type 0
FromCycles = OneOf StepTree ACycle FromRaw

abbrev from_cycles_word : Parser StepTree
from_cycles_word = either (is_word (codes "cycle")) spec.some_cycles from_raw_word

good_from_cycles : Good StepTree from_cycles_word FromCycles Always Always
good_from_cycles =
    good_either StepTree (is_word (codes "cycle")) spec.some_cycles from_raw_word ACycle FromRaw Always Always cycles_start (λ x u rest s k. from_raw_no_cycle x u rest s) good_cycles good_from_raw

from_cycles_no_panel : (x : StepTree) (u rest : List Lexeme) → FromCycles x u → Lacks (is_word (codes "panel")) (u ++ rest)
from_cycles_no_panel x u rest (the_one y v s) = lacks_after (is_word (codes "cycle")) (is_word (codes "panel")) v rest (cycles_start y v s) (λ t e. other_word (codes "cycle") (codes "panel") t refl e)
from_cycles_no_panel x u rest (the_other y v s) = from_raw_no_panel y v rest s

abbrev AnyStep : StepTree → List Lexeme → Type 0
AnyStep = OneOf StepTree APut FromCycles

to_step : (x : StepTree) (u : List Lexeme) → AnyStep x u → SpellsStep x u
to_step x u (the_one y v (the_put w p q d e h m i)) = steps.a_put w p q d e h m i
to_step x u (the_other y v (the_one z t (the_cycles w n d count e some h m))) = steps.some_cycles w n d count e some h m
to_step x u (the_other y v (the_other z t (the_one s r (the_raw w a b c e f d address first second third fourth g h i j l m n)))) = steps.four_bytes w a b c e f d address first second third fourth g h i j l m n
to_step x u (the_other y v (the_other z t (the_other s r (the_one o l (the_module w a d what address e h m))))) = steps.at_a_module w a d what address e h m
to_step x u (the_other y v (the_other z t (the_other s r (the_other o l (the_event w q d what e m i))))) = steps.an_event w q d what e m i

from_step : (x : StepTree) (u : List Lexeme) → SpellsStep x u → AnyStep x u
from_step x u (steps.a_put w p q d e h m i) = the_one _ _ (the_put w p q d e h m i)
from_step x u (steps.some_cycles w n d count e some h m) = the_other _ _ (the_one _ _ (the_cycles w n d count e some h m))
from_step x u (steps.four_bytes w a b c e f d address first second third fourth g h i j l m n) = the_other _ _ (the_other _ _ (the_one _ _ (the_raw w a b c e f d address first second third fourth g h i j l m n)))
from_step x u (steps.at_a_module w a d what address e h m) = the_other _ _ (the_other _ _ (the_other _ _ (the_one _ _ (the_module w a d what address e h m))))
from_step x u (steps.an_event w q d what e m i) = the_other _ _ (the_other _ _ (the_other _ _ (the_other _ _ (the_event w q d what e m i))))

-- the reader of a step is one of its rule, whatever follows
pub good_step : Good StepTree spec.a_step SpellsStep Always Always
unfolding spec.a_step
good_step =
    good_as StepTree (either (is_word (codes "panel")) spec.put from_cycles_word) AnyStep SpellsStep Always Always Always Always to_step from_step (λ rest k. k) (λ rest k. k)
    (good_either StepTree (is_word (codes "panel")) spec.put from_cycles_word APut FromCycles Always Always put_starts (λ x u rest s k. from_cycles_no_panel x u rest s) good_put good_from_cycles)

-- a step has a token at least
pub step_some : (x : StepTree) (u : List Lexeme) → SpellsStep x u → 1 ≤ length u
step_some x u (steps.a_put w p q d e h m i) = omega arith
step_some x u (steps.some_cycles w n d count e some h m) = omega arith
step_some x u (steps.four_bytes w a b c e f d address first second third fourth g h i j l m n) = omega arith
step_some x u (steps.at_a_module w a d what address e h m) = omega arith
step_some x u (steps.an_event w q d what e m i) = omega arith

-- ---- the header

abbrev is_run : Lexeme → Bool
is_run = name (codes "RUN")

abbrev HeaderText : Token × Token → List Lexeme → Type 0
HeaderText = Both Token Token (One (is_word (codes "file"))) (One is_run)

to_header : (x : Token × Token) (u : List Lexeme) → HeaderText x u → SpellsHeader tt u
to_header x u (both a b v w (one f e) (one n h)) = the_header f n e h

from_header : (y : Unit {0}) (u : List Lexeme) → SpellsHeader y u → (x : Token × Token) × (y ≡ tt) × HeaderText x u
from_header y u (the_header f n e h) = ((token_of f, token_of n), refl, both (token_of f) (token_of n) (f ∷ []) (n ∷ []) (one f e) (one n h))

-- the reader of the header is one of its rule, whatever follows
pub good_header : Good (Unit {0}) header SpellsHeader Always Always
unfolding header
good_header =
    good_mapped (Token × Token) (Unit {0}) (λ _. tt) (tok (is_word (codes "file")) & tok is_run) HeaderText SpellsHeader Always Always to_header from_header
    (in_a_row Token Token (tok (is_word (codes "file"))) (tok is_run) (One (is_word (codes "file"))) (One is_run) (good_word (codes "file")) (good_tok is_run (some_token k.Name (codes "RUN")) (some_name (codes "RUN"))))
