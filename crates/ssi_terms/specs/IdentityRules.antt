-- That each reader of an entry of the files of identities is one of its rule of the grammar. No clause cites this file: the
-- traits of readers ask for these laws, and the kit takes the proof of a law from specs.
use Rattle.std.proofs.Common.{◌≡◌, ℕ, Bool, false, codes, List, [], ◌∷◌, ◌++◌, Option, refl}
use Rattle.ssi_lexer.specs.declared.token.Token.{Token}
use Rattle.ssi_lexer.specs.declared.token.TokenKind.TheVariants as k
use Rattle.ssi_lexer.specs.Lexemes.{Lexeme, token_of}
use Rattle.ssi_lexer.specs.TokenTests.{Is, word, dot, comma, identity}
use Rattle.ssi_lexer.specs.Languages.{One, one, Listed, last, and_more, Optional}
use Rattle.ssi_lexer.specs.Parsers.{Parser, ◌&◌, tok, either, maybe, separated}
use Rattle.ssi_lexer.specs.Laws.{StartsWith, Lacks, Always, Good}
use Rattle.ssi_lexer.proofs.Joining.{Both, both, good_both, good_mapped, good_as}
use Rattle.ssi_lexer.proofs.Choosing.{Without, OneOf, the_one, the_other, good_maybe, good_either}
use Rattle.ssi_lexer.proofs.Listing.{good_separated}
use Rattle.ssi_lexer.proofs.Sequences.{good_then, joined_by}
use Rattle.ssi_lexer.proofs.Starting.{some_token, some_word, dot_not_comma, other_word, lacks_after, without_after, starts_one, some_identity, dot_not_word, dot_not_identity, good_dot}
use Rattle.ssi_terms.specs.declared.tree.Spot.{Spot}
use Rattle.ssi_terms.specs.Trees.{PointsText, RouteText, SubText, WiringText, ModuleText}
use Rattle.ssi_terms.specs.Tests.{spot_of, points, signal, track, route, subroute, lie_word, any_number}
use Rattle.ssi_terms.specs.Identities.{SpotOf, spot_is, SpellsName, a_name, SpellsPoints, the_points, SpellsRoute, a_route, SpellsLie, a_lie, SpellsLies, the_lies, listed_or_none, SpellsSub, a_sub, SpellsPin, a_pin, SpellsPins, SpellsModule, of_points, of_signals, of_tracks}
use Rattle.ssi_terms.specs.Read.{spot, name_entry}
use Rattle.ssi_terms.specs.ReadIdentities as spec
use Rattle.ssi_terms.specs.SpotRules.{good_spot, good_word}

-- ---- names

pub good_named : (letter : ℕ) → Good Spot (spot (identity (letter ∷ []))) (SpotOf (identity (letter ∷ []))) Always Always
good_named letter = good_spot (identity (letter ∷ [])) (some_token k.Name (letter ∷ 49 ∷ [])) (some_identity letter)

abbrev NameForm : (Lexeme → Bool) → Spot × Token → List Lexeme → Type 0
NameForm test = Both Spot Token (SpotOf test) (One dot)

to_name : (test : Lexeme → Bool) (x : Spot × Token) (u : List Lexeme) → NameForm test x u → SpellsName test x.0 u
to_name test x u (both a b v w (spot_is n e) (one d h)) = a_name n d e h

from_name : (test : Lexeme → Bool) (y : Spot) (u : List Lexeme) → SpellsName test y u → (x : Spot × Token) × (y ≡ x.0) × NameForm test x u
from_name test y u (a_name n d e h) = ((spot_of n, token_of d), refl, both (spot_of n) (token_of d) (n ∷ []) (d ∷ []) (spot_is n e) (one d h))

pub good_name_entry : (letter : ℕ) → Good Spot (name_entry (identity (letter ∷ []))) (SpellsName (identity (letter ∷ []))) Always Always
unfolding name_entry
good_name_entry letter =
    let test = identity (letter ∷ []) in
    good_mapped (Spot × Token) Spot (λ x. x.0) (spot test & tok dot) (NameForm test) (SpellsName test) Always Always (to_name test) (from_name test) (good_then (good_named letter) good_dot)

pub name_starts : (test : Lexeme → Bool) (x : Spot) (u : List Lexeme) → SpellsName test x u → StartsWith test u
name_starts test x u (a_name n d e h) = record { first = n; others = d ∷ []; parts = refl; passes = e }

-- names with a comma between, up to `.`
abbrev NamesForm : (Lexeme → Bool) → List Spot × Token → List Lexeme → Type 0
NamesForm test = Both (List Spot) Token (Listed Spot (SpotOf test)) (One dot)

good_names : (letter : ℕ) → Good (List Spot × Token) (separated (spot (identity (letter ∷ []))) & tok dot) (NamesForm (identity (letter ∷ []))) Always Always
good_names letter =
    joined_by comma dot (starts_one dot) dot_not_comma
    (good_separated Spot (spot (identity (letter ∷ []))) (SpotOf (identity (letter ∷ []))) Always Always (λ ts e. tt) (good_named letter)) good_dot

-- ---- points

abbrev PointsParts : Type 0
PointsParts = Spot × (Token × (List Spot × Token))

abbrev PointsForm : PointsParts → List Lexeme → Type 0
PointsForm = Both Spot (Token × (List Spot × Token)) (SpotOf points) (Both Token (List Spot × Token) (One (word (codes "over"))) (NamesForm track))

abbrev points_of : PointsParts → PointsText
points_of x = record { name = x.0; tracks = x.1.1.0 }

to_points : (x : PointsParts) (u : List Lexeme) → PointsForm x u → SpellsPoints (points_of x) u
to_points x u (both a b v w (spot_is n e) (both c g h i (one o j) (both tracks t l m s (one d q)))) = the_points n o d tracks l e j s q

from_points : (y : PointsText) (u : List Lexeme) → SpellsPoints y u → (x : PointsParts) × (y ≡ points_of x) × PointsForm x u
from_points y u (the_points n o d tracks v e j s q) = (
  (spot_of n, (token_of o, (tracks, token_of d))),
  refl,
  both (spot_of n) _ (n ∷ []) _ (spot_is n e) (both (token_of o) _ (o ∷ []) _ (one o j) (both tracks (token_of d) v (d ∷ []) s (one d q))),
)

pub good_points : Good PointsText spec.points_entry SpellsPoints Always Always
unfolding spec.points_entry
good_points =
    good_mapped PointsParts PointsText points_of (spot points & (tok (word (codes "over")) & (separated (spot track) & tok dot))) PointsForm SpellsPoints Always Always to_points from_points
    (good_then (good_named 80) (good_then (good_word (codes "over")) (good_names 84)))

pub points_start : (x : PointsText) (u : List Lexeme) → SpellsPoints x u → StartsWith points u
points_start x u (the_points n o d tracks v e j s q) = record { first = n; others = _; parts = refl; passes = e }

-- ---- routes

abbrev RouteParts : Type 0
RouteParts = Spot × (Token × (Spot × (Token × (List Spot × Token))))

abbrev RouteForm : RouteParts → List Lexeme → Type 0
RouteForm =
    Both Spot (Token × (Spot × (Token × (List Spot × Token)))) (SpotOf route)
    (Both Token (Spot × (Token × (List Spot × Token))) (One (word (codes "from")))
    (Both Spot (Token × (List Spot × Token)) (SpotOf signal)
    (Both Token (List Spot × Token) (One (word (codes "by"))) (NamesForm subroute))))

abbrev route_of : RouteParts → RouteText
route_of x = record { name = x.0; signal = x.1.1.0; subs = x.1.1.1.1.0 }

to_route : (x : RouteParts) (u : List Lexeme) → RouteForm x u → SpellsRoute (route_of x) u
to_route x u (both a b v w (spot_is n e) (both c g h i (one f j) (both l m o q (spot_is s r) (both t z aa ab (one b1 ac) (both subs ad ae af ag (one d ah)))))) = a_route n f s b1 d subs ae e j r ac ag ah

from_route : (y : RouteText) (u : List Lexeme) → SpellsRoute y u → (x : RouteParts) × (y ≡ route_of x) × RouteForm x u
from_route y u (a_route n f s b d subs v e j r c l q) = (
  (spot_of n, (token_of f, (spot_of s, (token_of b, (subs, token_of d))))),
  refl,
  both (spot_of n) _ (n ∷ []) _ (spot_is n e)
      (both (token_of f) _ (f ∷ []) _ (one f j)
      (both (spot_of s) _ (s ∷ []) _ (spot_is s r)
      (both (token_of b) _ (b ∷ []) _ (one b c)
      (both subs (token_of d) v (d ∷ []) l (one d q))))),
)

pub good_route : Good RouteText spec.route_entry SpellsRoute Always Always
unfolding spec.route_entry
good_route =
    good_mapped RouteParts RouteText route_of (spot route & (tok (word (codes "from")) & (spot signal & (tok (word (codes "by")) & (separated (spot subroute) & tok dot))))) RouteForm SpellsRoute Always Always to_route from_route
    (good_then (good_named 82) (good_then (good_word (codes "from")) (good_then (good_named 83) (good_then (good_word (codes "by")) (good_names 85)))))

pub route_starts : (x : RouteText) (u : List Lexeme) → SpellsRoute x u → StartsWith route u
route_starts x u (a_route n f s b d subs v e j r c l q) = record { first = n; others = _; parts = refl; passes = e }

-- ---- lists that need not be written

abbrev Pairs : Type 0
Pairs = List (Spot × Spot)

data Perhaps (S : Pairs → List Lexeme → Type 0) : Pairs → List Lexeme → Type 0 where
  perhaps_is : (pairs : Option Pairs) (u : List Lexeme) → Optional Pairs S pairs u → Perhaps S (listed_or_none pairs) u

module _ (test : Lexeme → Bool) (p : Parser Pairs) (S : Pairs → List Lexeme → Type 0) (E F : List Lexeme → Type 0) (starts : (x : Pairs) (u : List Lexeme) → S x u → StartsWith test u) (g : Good Pairs p S E F) where
  from_perhaps : (y : Pairs) (u : List Lexeme) → Perhaps S y u → (x : Option Pairs) × (y ≡ listed_or_none x) × Optional Pairs S x u
  from_perhaps y u (perhaps_is pairs v o) = (pairs, refl, o)

  good_perhaps : Good Pairs (spec.perhaps test p) (Perhaps S) Always (Without test F)
  unfolding spec.perhaps
  good_perhaps = good_mapped (Option Pairs) Pairs listed_or_none (maybe test p) (Optional Pairs S) (Perhaps S) Always (Without test F) perhaps_is from_perhaps (good_maybe Pairs test p S E F starts g)

-- a list that `.` ends, whether it is written or not
abbrev PairsForm : (Pairs → List Lexeme → Type 0) → Pairs × Token → List Lexeme → Type 0
PairsForm S = Both Pairs Token (Perhaps S) (One dot)

dot_ends : (test : Lexeme → Bool) → ((t : Lexeme) → Is dot t → test t ≡ false) → (y : Token) (v rest : List Lexeme) → One dot y v → Always rest → Without test (Without comma Always) (v ++ rest)
dot_ends test differs y v rest t k = record {
  lacks = lacks_after dot test v rest (starts_one dot y v t) differs;
  too = without_after dot comma v rest (starts_one dot y v t) dot_not_comma;
}

good_pairs : (test : Lexeme → Bool) (p : Parser Pairs) (S : Pairs → List Lexeme → Type 0) → ((t : Lexeme) → Is dot t → test t ≡ false) → ((x : Pairs) (u : List Lexeme) → S x u → StartsWith test u)
    → Good Pairs p S (Lacks comma) (Without comma Always) → Good (Pairs × Token) (spec.perhaps test p & tok dot) (PairsForm S) Always Always
good_pairs test p S differs starts g =
    good_both Pairs Token (spec.perhaps test p) (tok dot) (Perhaps S) (One dot) Always (Without test (Without comma Always)) Always Always (dot_ends test differs)
    (good_perhaps test p S (Lacks comma) (Without comma Always) starts g) good_dot

-- ---- sub-routes

good_lie_word : Good Spot (spot lie_word) (SpotOf lie_word) Always Always
good_lie_word = good_spot lie_word (some_token k.Word (codes "cn")) refl

abbrev LieForm : Spot × Spot → List Lexeme → Type 0
LieForm = Both Spot Spot (SpotOf points) (SpotOf lie_word)

to_lie : (x : Spot × Spot) (u : List Lexeme) → LieForm x u → SpellsLie x u
to_lie x u (both a b v w (spot_is n e) (spot_is m h)) = a_lie n m e h

from_lie : (x : Spot × Spot) (u : List Lexeme) → SpellsLie x u → LieForm x u
from_lie x u (a_lie n m e h) = both (spot_of n) (spot_of m) (n ∷ []) (m ∷ []) (spot_is n e) (spot_is m h)

pub good_lie : Good (Spot × Spot) spec.lie SpellsLie Always Always
unfolding spec.lie
good_lie =
    good_as (Spot × Spot) (spot points & spot lie_word) LieForm SpellsLie Always Always Always Always to_lie from_lie (λ rest e. e) (λ rest e. e)
    (good_then (good_named 80) good_lie_word)

abbrev LiesForm : Token × Pairs → List Lexeme → Type 0
LiesForm = Both Token Pairs (One (word (codes "with"))) (Listed (Spot × Spot) SpellsLie)

to_lies : (x : Token × Pairs) (u : List Lexeme) → LiesForm x u → SpellsLies x.1 u
to_lies x u (both a b v w (one m e) s) = the_lies m b w e s

from_lies : (y : Pairs) (u : List Lexeme) → SpellsLies y u → (x : Token × Pairs) × (y ≡ x.1) × LiesForm x u
from_lies y u (the_lies m lies v e s) = ((token_of m, lies), refl, both (token_of m) lies (m ∷ []) v (one m e) s)

good_lies : Good Pairs spec.lies SpellsLies (Lacks comma) (Without comma Always)
unfolding spec.lies
good_lies =
    good_mapped (Token × Pairs) Pairs (λ x. x.1) (tok (word (codes "with")) & separated spec.lie) LiesForm SpellsLies (Lacks comma) (Without comma Always) to_lies from_lies
    (good_then (good_word (codes "with")) (good_separated (Spot × Spot) spec.lie SpellsLie Always Always (λ ts e. tt) good_lie))

lies_start : (x : Pairs) (u : List Lexeme) → SpellsLies x u → StartsWith (word (codes "with")) u
lies_start x u (the_lies m lies v e s) = record { first = m; others = v; parts = refl; passes = e }

abbrev SubParts : Type 0
SubParts = Spot × (Token × (Spot × (Pairs × Token)))

abbrev SubForm : SubParts → List Lexeme → Type 0
SubForm =
    Both Spot (Token × (Spot × (Pairs × Token))) (SpotOf subroute)
    (Both Token (Spot × (Pairs × Token)) (One (word (codes "on")))
    (Both Spot (Pairs × Token) (SpotOf track) (PairsForm SpellsLies)))

abbrev sub_of : SubParts → SubText
sub_of x = record { name = x.0; track = x.1.1.0; lies = x.1.1.1.0 }

to_sub : (x : SubParts) (u : List Lexeme) → SubForm x u → SpellsSub (sub_of x) u
to_sub x u (both a b v w (spot_is n e) (both c g h i (one o j) (both l m q r (spot_is t s) (both z aa ab ac (perhaps_is lies ad ae) (one d af))))) = a_sub n o t d lies ad e j s ae af

from_sub : (y : SubText) (u : List Lexeme) → SpellsSub y u → (x : SubParts) × (y ≡ sub_of x) × SubForm x u
from_sub y u (a_sub n o t d lies v e j s c q) = (
  (spot_of n, (token_of o, (spot_of t, (listed_or_none lies, token_of d)))),
  refl,
  both (spot_of n) _ (n ∷ []) _ (spot_is n e)
      (both (token_of o) _ (o ∷ []) _ (one o j)
      (both (spot_of t) _ (t ∷ []) _ (spot_is t s)
      (both (listed_or_none lies) (token_of d) v (d ∷ []) (perhaps_is lies v c) (one d q)))),
)

pub good_sub : Good SubText spec.sub_entry SpellsSub Always Always
unfolding spec.sub_entry
good_sub =
    good_mapped SubParts SubText sub_of (spot subroute & (tok (word (codes "on")) & (spot track & (spec.perhaps (word (codes "with")) spec.lies & tok dot)))) SubForm SpellsSub Always Always to_sub from_sub
    (good_then (good_named 85) (good_then (good_word (codes "on")) (good_then (good_named 84)
    (good_pairs (word (codes "with")) spec.lies SpellsLies (dot_not_word (codes "with")) lies_start good_lies))))

pub sub_starts : (x : SubText) (u : List Lexeme) → SpellsSub x u → StartsWith subroute u
sub_starts x u (a_sub n o t d lies v e j s c q) = record { first = n; others = _; parts = refl; passes = e }

-- ---- modules

good_number : Good Spot (spot any_number) (SpotOf any_number) Always Always
good_number = good_spot any_number (some_token k.Number (codes "0")) refl

abbrev PinForm : (Lexeme → Bool) → Spot × (Token × Spot) → List Lexeme → Type 0
PinForm test = Both Spot (Token × Spot) (SpotOf test) (Both Token Spot (One (word (codes "at"))) (SpotOf any_number))

abbrev pin_of : Spot × (Token × Spot) → Spot × Spot
pin_of x = (x.0, x.1.1)

to_pin : (test : Lexeme → Bool) (x : Spot × (Token × Spot)) (u : List Lexeme) → PinForm test x u → SpellsPin test (pin_of x) u
to_pin test x u (both a b v w (spot_is n e) (both c g h i (one m j) (spot_is p q))) = a_pin n m p e j q

from_pin : (test : Lexeme → Bool) (y : Spot × Spot) (u : List Lexeme) → SpellsPin test y u → (x : Spot × (Token × Spot)) × (y ≡ pin_of x) × PinForm test x u
from_pin test y u (a_pin n m p e j q) =
    ((spot_of n, (token_of m, spot_of p)), refl, both (spot_of n) _ (n ∷ []) _ (spot_is n e) (both (token_of m) (spot_of p) (m ∷ []) (p ∷ []) (one m j) (spot_is p q)))

pub good_pin : (letter : ℕ) → Good (Spot × Spot) (spec.pin (identity (letter ∷ []))) (SpellsPin (identity (letter ∷ []))) Always Always
unfolding spec.pin
good_pin letter =
    let test = identity (letter ∷ []) in
    good_mapped (Spot × (Token × Spot)) (Spot × Spot) pin_of (spot test & (tok (word (codes "at")) & spot any_number)) (PinForm test) (SpellsPin test) Always Always (to_pin test) (from_pin test)
    (good_then (good_named letter) (good_then (good_word (codes "at")) good_number))

pins_start : (test : Lexeme → Bool) (x : Pairs) (u : List Lexeme) → Listed (Spot × Spot) (SpellsPin test) x u → StartsWith test u
pins_start test x u (last y v (a_pin n m p e j q)) = record { first = n; others = _; parts = refl; passes = e }
pins_start test x u (and_more y ys c v w (a_pin n m p e j q) h r) = record { first = n; others = _; parts = refl; passes = e }

-- what stands from the kind on
data Wired (kind : List ℕ) (test : Lexeme → Bool) : WiringText → List Lexeme → Type 0 where
  wired_is : (m d : Lexeme) (pins : Option Pairs) (u : List Lexeme) → Is (word kind) m → SpellsPins test pins u → Is dot d → Wired kind test (record { kind = spot_of m; pins = listed_or_none pins }) (m ∷ (u ++ (d ∷ [])))

abbrev WiredForm : List ℕ → (Lexeme → Bool) → Spot × (Pairs × Token) → List Lexeme → Type 0
WiredForm kind test = Both Spot (Pairs × Token) (SpotOf (word kind)) (PairsForm (Listed (Spot × Spot) (SpellsPin test)))

abbrev wired_of : Spot × (Pairs × Token) → WiringText
wired_of x = record { kind = x.0; pins = x.1.0 }

to_wired : (kind : List ℕ) (test : Lexeme → Bool) (x : Spot × (Pairs × Token)) (u : List Lexeme) → WiredForm kind test x u → Wired kind test (wired_of x) u
to_wired kind test x u (both a b v w (spot_is m e) (both c g h i (perhaps_is pins j o) (one d q))) = wired_is m d pins j e o q

from_wired : (kind : List ℕ) (test : Lexeme → Bool) (y : WiringText) (u : List Lexeme) → Wired kind test y u → (x : Spot × (Pairs × Token)) × (y ≡ wired_of x) × WiredForm kind test x u
from_wired kind test y u (wired_is m d pins v e o q) = (
  (spot_of m, (listed_or_none pins, token_of d)),
  refl,
  both (spot_of m) _ (m ∷ []) _ (spot_is m e) (both (listed_or_none pins) (token_of d) v (d ∷ []) (perhaps_is pins v o) (one d q)),
)

good_wired : (kind : List ℕ) (letter : ℕ) → Good WiringText (spec.wired kind (identity (letter ∷ []))) (Wired kind (identity (letter ∷ []))) Always Always
unfolding spec.wired
good_wired kind letter =
    let test = identity (letter ∷ []) in
    good_mapped (Spot × (Pairs × Token)) WiringText wired_of (spot (word kind) & (spec.perhaps test (separated (spec.pin test)) & tok dot)) (WiredForm kind test) (Wired kind test) Always Always (to_wired kind test) (from_wired kind test)
    (good_then (good_spot (word kind) (some_token k.Word kind) (some_word kind))
    (good_pairs test (separated (spec.pin test)) (Listed (Spot × Spot) (SpellsPin test)) (dot_not_identity (letter ∷ [])) (pins_start test)
    (good_separated (Spot × Spot) (spec.pin test) (SpellsPin test) Always Always (λ ts e. tt) (good_pin letter))))

wired_starts : (kind : List ℕ) (test : Lexeme → Bool) (x : WiringText) (u : List Lexeme) → Wired kind test x u → StartsWith (word kind) u
wired_starts kind test x u (wired_is m d pins v e o q) = record { first = m; others = _; parts = refl; passes = e }

abbrev WiredSignals : WiringText → List Lexeme → Type 0
WiredSignals = Wired (codes "signal") signal

abbrev WiredTracks : WiringText → List Lexeme → Type 0
WiredTracks = Wired (codes "track") track

abbrev NoPoints : WiringText → List Lexeme → Type 0
NoPoints = OneOf WiringText WiredSignals WiredTracks

abbrev WiringForm : WiringText → List Lexeme → Type 0
WiringForm = OneOf WiringText (Wired (codes "points") points) NoPoints

tracks_no_signal : (x : WiringText) (u rest : List Lexeme) → WiredTracks x u → Always rest → Lacks (word (codes "signal")) (u ++ rest)
tracks_no_signal x u rest s e = lacks_after (word (codes "track")) (word (codes "signal")) u rest (wired_starts (codes "track") track x u s) (λ t h. other_word (codes "track") (codes "signal") t refl h)

no_points : (x : WiringText) (u rest : List Lexeme) → NoPoints x u → Always rest → Lacks (word (codes "points")) (u ++ rest)
no_points x u rest (the_one y v s) e = lacks_after (word (codes "signal")) (word (codes "points")) v rest (wired_starts (codes "signal") signal y v s) (λ t h. other_word (codes "signal") (codes "points") t refl h)
no_points x u rest (the_other y v s) e = lacks_after (word (codes "track")) (word (codes "points")) v rest (wired_starts (codes "track") track y v s) (λ t h. other_word (codes "track") (codes "points") t refl h)

good_wiring : Good WiringText spec.wiring WiringForm Always Always
unfolding spec.wiring
good_wiring =
    good_either WiringText (word (codes "points")) (spec.wired (codes "points") points) (either (word (codes "signal")) (spec.wired (codes "signal") signal) (spec.wired (codes "track") track)) (Wired (codes "points") points) NoPoints Always Always
    (wired_starts (codes "points") points) no_points (good_wired (codes "points") 80)
    (good_either WiringText (word (codes "signal")) (spec.wired (codes "signal") signal) (spec.wired (codes "track") track) WiredSignals WiredTracks Always Always
    (wired_starts (codes "signal") signal) tracks_no_signal (good_wired (codes "signal") 83) (good_wired (codes "track") 84))

abbrev ModuleForm : Spot × WiringText → List Lexeme → Type 0
ModuleForm = Both Spot WiringText (SpotOf any_number) WiringForm

abbrev module_of : Spot × WiringText → ModuleText
module_of x = record { address = x.0; kind = x.1.kind; pins = x.1.pins }

to_module : (x : Spot × WiringText) (u : List Lexeme) → ModuleForm x u → SpellsModule (module_of x) u
to_module x u (both a b v w (spot_is n e) (the_one y z (wired_is m d pins c f g h))) = of_points n m d pins c e f g h
to_module x u (both a b v w (spot_is n e) (the_other y z (the_one i j (wired_is m d pins c f g h)))) = of_signals n m d pins c e f g h
to_module x u (both a b v w (spot_is n e) (the_other y z (the_other i j (wired_is m d pins c f g h)))) = of_tracks n m d pins c e f g h

numbered : (n : Lexeme) → Is any_number n → (x : WiringText) (u : List Lexeme) → WiringForm x u → ModuleForm (spot_of n, x) (n ∷ u)
numbered n e x u w = both (spot_of n) x (n ∷ []) u (spot_is n e) w

from_module : (y : ModuleText) (u : List Lexeme) → SpellsModule y u → (x : Spot × WiringText) × (y ≡ module_of x) × ModuleForm x u
from_module y u (of_points n m d pins v e f g h) = ((spot_of n, record { kind = spot_of m; pins = listed_or_none pins }), refl, numbered n e _ _ (the_one _ _ (wired_is m d pins v f g h)))
from_module y u (of_signals n m d pins v e f g h) = ((spot_of n, record { kind = spot_of m; pins = listed_or_none pins }), refl, numbered n e _ _ (the_other _ _ (the_one _ _ (wired_is m d pins v f g h))))
from_module y u (of_tracks n m d pins v e f g h) = ((spot_of n, record { kind = spot_of m; pins = listed_or_none pins }), refl, numbered n e _ _ (the_other _ _ (the_other _ _ (wired_is m d pins v f g h))))

pub good_module : Good ModuleText spec.module_entry SpellsModule Always Always
unfolding spec.module_entry
good_module =
    good_mapped (Spot × WiringText) ModuleText module_of (spot any_number & spec.wiring) ModuleForm SpellsModule Always Always to_module from_module
    (good_then good_number good_wiring)

pub module_starts : (x : ModuleText) (u : List Lexeme) → SpellsModule x u → StartsWith any_number u
module_starts x u (of_points n m d pins v e f g h) = record { first = n; others = _; parts = refl; passes = e }
module_starts x u (of_signals n m d pins v e f g h) = record { first = n; others = _; parts = refl; passes = e }
module_starts x u (of_tracks n m d pins v e f g h) = record { first = n; others = _; parts = refl; passes = e }
