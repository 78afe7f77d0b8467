-- What the grammar says of a tree that a text spells: names are those of identities, lists have an item at least, and no part has more tokens than the text has bytes.
use Rattle.std.proofs.Common.{◌≡◌, ℕ, ◌+◌, ◌-◌, ◌<◌, ◌≤◌, ◌&&◌, ◌||◌, ◌==◌, Bool, true, List, [], ◌∷◌, ◌++◌, length, map, take, drop, get_or, Option, refl, ap, sym, subst, ◌∙◌, arith}
use Rattle.std.specs.Prelude.{All, codes}
use Rattle.std.proofs.Math.Bool.{or_assoc}
use Rattle.std.proofs.lemmas.Bool.Decides.{nat_tests}
use Rattle.std.proofs.lemmas.List.{length-append}
use Rattle.std.proofs.lemmas.List.Elements.{All-nil, All-cons, All-head, All-tail, All-map}
use Rattle.ssi_identities.specs.declared.fact.Kind.{Kind}
use Rattle.ssi_identities.specs.declared.fact.Kind.TheVariants.{Points, Signal, Track, Route, Subroute, Flag, Request}
use Rattle.ssi_identities.specs.IdentityNames.{IsNameOf, is_name_character, letter_of}
use Rattle.ssi_lexer.specs.declared.token.TokenKind.{TokenKind}
use Rattle.ssi_lexer.specs.declared.token.TokenKind.TheVariants.{Name}
use Rattle.ssi_lexer.specs.Languages.{Repeated, none, some, Listed, ListedBy, last, and_more}
use Rattle.ssi_lexer.specs.Pieces.{PieceKind, Separator, Comment, A, Piece, IsRun, is_piece, is_capital, is_digit, lengthens, IsCutting, text_ends, bad_character, long_name, bad_number, a_piece}
use Rattle.ssi_lexer.specs.Lexemes.{Lexeme, IsLexeme, StandsIn, lexeme_at, lexemes_of}
use Rattle.ssi_lexer.specs.TokenTests.{Is, word, identity, is_same_kind, begins_with}
use Rattle.ssi_lexer.proofs.Streams.{tokens_formed}
use Rattle.ssi_lexer.proofs.Standing.{tokens_stand_in}
use Rattle.ssi_terms.specs.declared.tree.Spot.{Spot}
use Rattle.ssi_terms.specs.declared.tree.BodyTree.{BodyTree}
use Rattle.ssi_terms.specs.declared.tree.CondTree.{CondTree}
use Rattle.ssi_terms.specs.Grammar.{deepest}
use Rattle.ssi_terms.specs.Identities.{SpotOf, SpellsPoints, the_points, SpellsRoute, a_route, SpellsSub, a_sub, SpellsName, a_name, SpellsFile, a_file, SpellsIdentities, the_files}
use Rattle.ssi_terms.specs.Tests.{spot_of, signal, track, subroute, flag}
use Rattle.ssi_terms.specs.Trees.{PointsText, RouteText, SubText, IdentityText}
use Rattle.ssi_prr.specs.Requests.{SpellsRequest, a_request}
use Rattle.ssi_pfm.specs.Rules.{SpellsRule, a_rule}
use Rattle.ssi_fop.specs.Statements.{StatementText, SpellsStatement, a_statement}
use Rattle.ssi_opt.specs.Outputs.{OutputText, SpellsBit, a_bit, SpellsOutput, an_output}
use Rattle.ssi_ipt.specs.Inputs.{SpellsInput, an_input}
use Rattle.ssi_names.specs.Declarations.{declared}
use Rattle.ssi_names.specs.Formed.{IsSpelledCond, IsSpelledBody, AreSpelledCommands, IsFormed}
use Rattle.ssi_names.specs.SourceTexts.{SourceText}
use Rattle.ssi_names.specs.Sources.{SpellsSource, the_source}
use Rattle.ssi_names.specs.Spelled.{IsSpelledIn}
use Rattle.ssi_names.specs.Texts.{characters}

-- ---- how many tokens there are

one_at_most : (kind : PieceKind) (start number : ℕ) (before bytes : List ℕ) → length (lexeme_at start number before kind bytes) ≤ 1
one_at_most Separator start number before bytes = omega arith
one_at_most Comment start number before bytes = omega arith
one_at_most (A kind) start number before bytes = omega arith

-- a run has a byte at least
run_some : (kind : PieceKind) (run rest : List ℕ) → IsRun kind run rest → 1 ≤ length run
run_some kind run rest is = omega (arith, ap length is.bytes_are)

-- no more than bytes
few_lexemes : (pieces : List Piece) (bytes : List ℕ) (fault : Option ℕ) → IsCutting pieces bytes fault → (start number : ℕ) (before : List ℕ) → length (lexemes_of start number before pieces) ≤ length bytes
few_lexemes _ _ _ text_ends start number before = omega arith
few_lexemes _ _ _ (bad_character byte rest no_piece) start number before = omega arith
few_lexemes _ _ _ (long_name run rest is long) start number before = omega arith
few_lexemes _ _ _ (bad_number run rest is bad) start number before = omega arith
few_lexemes _ _ _ (a_piece kind run rest pieces fault is good cut) start number before =
    let here = lexeme_at start number before kind run in
    let others = few_lexemes pieces rest fault cut start (number + length here) (before ++ run) in
    omega (arith, others, one_at_most kind start number before run, run_some kind run rest is, length-append run rest, length-append here (lexemes_of start (number + length here) (before ++ run) pieces))

-- ---- tokens of a text

-- a token of the text: by itself a piece of its kind, and it stands there
record IsToken (text : List ℕ) (lexeme : Lexeme) : Type 0 where
  formed : IsLexeme lexeme
  stands : StandsIn text lexeme

-- tokens of the text, no more than 2,097,152
record AreFewTokens (text : List ℕ) (tokens : List Lexeme) : Type 0 where
  each : All (IsToken text) tokens
  few : length tokens ≤ 2097152

-- so are those behind the first
behind : (text : List ℕ) (t : Lexeme) (tokens : List Lexeme) → AreFewTokens text (t ∷ tokens) → AreFewTokens text tokens
behind text t tokens all = record { each = All-tail (IsToken text) t tokens all.each; few = omega (arith, all.few) }

-- and those of the second of two lists
later : (text : List ℕ) (us vs : List Lexeme) → AreFewTokens text (us ++ vs) → AreFewTokens text vs
later text [] vs all = all
later text (t ∷ us) vs all = later text us vs (behind text t (us ++ vs) all)

earlier_all : (text : List ℕ) (us vs : List Lexeme) → All (IsToken text) (us ++ vs) → All (IsToken text) us
earlier_all text [] vs all = All-nil (IsToken text)
earlier_all text (t ∷ us) vs all = All-cons (IsToken text) t us (All-head (IsToken text) t (us ++ vs) all) (earlier_all text us vs (All-tail (IsToken text) t (us ++ vs) all))

-- and of the first
earlier : (text : List ℕ) (us vs : List Lexeme) → AreFewTokens text (us ++ vs) → AreFewTokens text us
earlier text us vs all = record { each = earlier_all text us vs all.each; few = omega (arith, all.few, length-append us vs) }

first : (text : List ℕ) (t : Lexeme) (tokens : List Lexeme) → AreFewTokens text (t ∷ tokens) → IsToken text t
first text t tokens all = All-head (IsToken text) t tokens all.each

-- what the tokens of each entry say of it, holds of all entries
each_entry : (text : List ℕ) (X : Type 0) (S : X → List Lexeme → Type 0) (P : X → Type 0) → ((x : X) (tokens : List Lexeme) → S x tokens → AreFewTokens text tokens → P x)
    → (xs : List X) (tokens : List Lexeme) → Repeated X S xs tokens → AreFewTokens text tokens → All P xs
each_entry text X S P each xs tokens none all = All-nil P
each_entry text X S P each xs tokens (some y ys u v spells rest) all =
    All-cons P y ys (each y u spells (earlier text u v all)) (each_entry text X S P each ys v rest (later text u v all))

-- so it does of all entries of a file
each_of_file : (text file : List ℕ) (X : Type 0) (S : X → List Lexeme → Type 0) (P : X → Type 0) → ((x : X) (tokens : List Lexeme) → S x tokens → AreFewTokens text tokens → P x)
    → (xs : List X) (tokens : List Lexeme) → SpellsFile file X S xs tokens → AreFewTokens text tokens → All P xs
each_of_file text file X S P each xs tokens (a_file f n entries u word name spells) all = each_entry text X S P each entries u spells (behind text n u (behind text f (n ∷ u) all))

-- and of all that are listed
each_listed : (text : List ℕ) (mark : Lexeme → Bool) (X : Type 0) (S : X → List Lexeme → Type 0) (P : X → Type 0) → ((x : X) (tokens : List Lexeme) → S x tokens → AreFewTokens text tokens → P x)
    → (xs : List X) (tokens : List Lexeme) → ListedBy mark X S xs tokens → AreFewTokens text tokens → All P xs
each_listed text mark X S P each xs tokens (last y u spells) all = All-cons P y [] (each y u spells all) (All-nil P)
each_listed text mark X S P each xs tokens (and_more y ys m u v spells between rest) all =
    All-cons P y ys (each y u spells (earlier text u (m ∷ v) all)) (each_listed text mark X S P each ys v rest (behind text m v (later text u (m ∷ v) all)))

-- ---- names

name_by : (kind : TokenKind) (more : Bool) (characters : List ℕ) → (is_same_kind kind Name && more) ≡ true → is_piece (A kind) characters ≡ true → length characters ≤ 16
name_by Name more characters e h = grind (arith, nat_tests)
name_by _ more characters e h = absurd cc

kind_by : (kind : TokenKind) (more : Bool) → (is_same_kind kind Name && more) ≡ true → kind ≡ Name
kind_by Name more e = refl
kind_by _ more e = absurd cc

begins_by : (kind : TokenKind) (more : Bool) → (is_same_kind kind Name && more) ≡ true → more ≡ true
begins_by Name more e = e
begins_by _ more e = absurd cc

-- the characters at a token's place are its own
text_of : (text : List ℕ) (n : Lexeme) → StandsIn text n → characters text (spot_of n) ≡ n.text
text_of text n stands =
    let same : length n.text ≡ (n.start + length n.text) - n.start = omega arith in
    ap (λ len. take len (drop n.start text)) same ∙ stands.there

-- a name that begins with a letter has that letter first
first_letter : (letter : ℕ) (name : List ℕ) → begins_with (letter ∷ []) name ≡ true → take 1 name ≡ letter ∷ []
first_letter letter [] e = absurd cc
first_letter letter (c ∷ []) e = absurd cc
first_letter letter (c ∷ d ∷ name) e = let same : c ≡ letter = grind (arith, nat_tests) in ap (λ x. x ∷ []) same

first_of_kind : (kind : Kind) (name : List ℕ) → begins_with (letter_of kind) name ≡ true → take 1 name ≡ letter_of kind
first_of_kind kind name = elim kind as (λ k. begins_with (letter_of k) name ≡ true → take 1 name ≡ letter_of k) [
  | Points ↦ first_letter 80 name
  | Signal ↦ first_letter 83 name
  | Track ↦ first_letter 84 name
  | Route ↦ first_letter 82 name
  | Subroute ↦ first_letter 85 name
  | Flag ↦ first_letter 76 name
  | Request ↦ first_letter 81 name
]

-- and two characters at least
two_characters : (letters name : List ℕ) → begins_with letters name ≡ true → 2 ≤ length name
two_characters letters [] e = absurd cc
two_characters letters (c ∷ []) e = absurd cc
two_characters letters (c ∷ d ∷ name) e = omega arith

-- a capital is a name's character
capital_named : (c : ℕ) → is_capital c ≡ true → is_name_character c ≡ true
capital_named c e = ap (λ b. b || (is_digit c || c == 45)) e

-- so is what makes a name longer
longer_named : (c : ℕ) → lengthens (A Name) c ≡ true → is_name_character c ≡ true
longer_named c e = sym (or_assoc (is_capital c) (is_digit c) (c == 45)) ∙ e

-- the characters of a run of a name
run_named : (name : List ℕ) → IsRun (A Name) name [] → All (λ c. is_name_character c ≡ true) name
run_named name run =
    subst (All (λ c. is_name_character c ≡ true)) (sym run.bytes_are)
    (All-cons (λ c. is_name_character c ≡ true) run.first run.more (capital_named run.first run.begun)
    (λ k d within. longer_named (get_or run.more k d) (run.longer k d within)))

-- a name in the text: of an identity of the kind, and of 16 characters at most
record IsNamed (text : List ℕ) (kind : Kind) (spot : Spot) : Type 0 where
  short : spot.len ≤ 16
  name : IsNameOf kind (characters text spot)

-- such is a token that names an identity of the kind
named : (text : List ℕ) (kind : Kind) (n : Lexeme) → Is (identity (letter_of kind)) n → IsToken text n → IsNamed text kind (spot_of n)
named text kind n is token =
    let run : IsRun (A Name) n.text [] = subst (λ k. IsRun (A k) n.text []) (kind_by n.kind (begins_with (letter_of kind) n.text) is) token.formed.run in
    let begins = begins_by n.kind (begins_with (letter_of kind) n.text) is in
    let short = name_by n.kind (begins_with (letter_of kind) n.text) n.text is token.formed.piece in
    record {
      short = short;
      name = subst (IsNameOf kind) (sym (text_of text n token.stands))
          (record { begins = first_of_kind kind n.text begins; characters = run_named n.text run; long = two_characters (letter_of kind) n.text begins; short = short });
    }

plain_named : (text : List ℕ) (kind : Kind) (x : Spot) (tokens : List Lexeme) → SpellsName (identity (letter_of kind)) x tokens → AreFewTokens text tokens → IsNamed text kind x
plain_named text kind x tokens (a_name n d is dot) all = named text kind n is (first text n (d ∷ []) all)

points_named : (text : List ℕ) (x : PointsText) (tokens : List Lexeme) → SpellsPoints x tokens → AreFewTokens text tokens → IsNamed text Points x.name
points_named text x tokens (the_points n o d tracks u is over listed dot) all = named text Points n is (first text n (o ∷ (u ++ (d ∷ []))) all)

route_named : (text : List ℕ) (x : RouteText) (tokens : List Lexeme) → SpellsRoute x tokens → AreFewTokens text tokens → IsNamed text Route x.name
route_named text x tokens (a_route n f s b d subs u is from signal by listed dot) all = named text Route n is (first text n (f ∷ s ∷ b ∷ (u ++ (d ∷ []))) all)

sub_named : (text : List ℕ) (x : SubText) (tokens : List Lexeme) → SpellsSub x tokens → AreFewTokens text tokens → IsNamed text Subroute x.name
sub_named text x tokens (a_sub n o t d lies u is on track listed dot) all = named text Subroute n is (first text n (o ∷ t ∷ (u ++ (d ∷ []))) all)

request_named : (text : List ℕ) (x : Spot × BodyTree) (tokens : List Lexeme) → SpellsRequest deepest x tokens → AreFewTokens text tokens → IsNamed text Request x.0
request_named text x tokens (a_request n d body u is spells dot) all = named text Request n is (first text n (u ++ (d ∷ [])) all)

-- ---- lists, conditions and bodies

-- x { , x } has one x at least
one_listed : (X : Type 0) (S : X → List Lexeme → Type 0) (xs : List X) (tokens : List Lexeme) → Listed X S xs tokens → 0 < length xs
one_listed X S xs tokens (last y u spells) = omega arith
one_listed X S xs tokens (and_more y ys m u v spells comma rest) = omega arith

points_some : (text : List ℕ) (x : PointsText) (tokens : List Lexeme) → SpellsPoints x tokens → AreFewTokens text tokens → 0 < length x.tracks
points_some text x tokens (the_points n o d tracks u is over listed dot) all = one_listed Spot (SpotOf track) tracks u listed

route_some : (text : List ℕ) (x : RouteText) (tokens : List Lexeme) → SpellsRoute x tokens → AreFewTokens text tokens → 0 < length x.subs
route_some text x tokens (a_route n f s b d subs u is from signal by listed dot) all = one_listed Spot (SpotOf subroute) subs u listed

request_spelled : (text : List ℕ) (x : Spot × BodyTree) (tokens : List Lexeme) → SpellsRequest deepest x tokens → AreFewTokens text tokens → IsSpelledBody x.1
request_spelled text x tokens (a_request n d body u is spells dot) all =
    record { tokens = u; spelled = spells; few = (earlier text u (d ∷ []) (behind text n (u ++ (d ∷ [])) all)).few }

move_spelled : (text : List ℕ) (x : Spot × Spot × CondTree) (tokens : List Lexeme) → SpellsRule deepest x tokens → AreFewTokens text tokens → IsSpelledCond x.2
move_spelled text x tokens (a_rule n l i d cond u is lie by spells dot) all =
    let rest = u ++ (d ∷ []) in
    record { tokens = u; spelled = spells; few = (earlier text u (d ∷ []) (behind text i rest (behind text l (i ∷ rest) (behind text n (l ∷ i ∷ rest) all)))).few }

commands_spelled : (text : List ℕ) (x : StatementText) (tokens : List Lexeme) → SpellsStatement deepest x tokens → AreFewTokens text tokens → AreSpelledCommands x.commands
commands_spelled text x tokens (a_statement i d commands guard u v spells by guarded dot) all =
    record { tokens = u; spelled = spells; few = (earlier text u (i ∷ (v ++ (d ∷ []))) all).few }

guard_spelled : (text : List ℕ) (x : StatementText) (tokens : List Lexeme) → SpellsStatement deepest x tokens → AreFewTokens text tokens → IsSpelledCond x.guard
guard_spelled text x tokens (a_statement i d commands guard u v spells by guarded dot) all =
    let rest = v ++ (d ∷ []) in
    record { tokens = v; spelled = guarded; few = (earlier text v (d ∷ []) (behind text i rest (later text u (i ∷ rest) all))).few }

bit_spelled : (text : List ℕ) (x : Spot × CondTree) (tokens : List Lexeme) → SpellsBit deepest x tokens → AreFewTokens text tokens → IsSpelledCond x.1
bit_spelled text x tokens (a_bit n i cond u is by spells) all = record { tokens = u; spelled = spells; few = (behind text i u (behind text n (i ∷ u) all)).few }

output_spelled : (text : List ℕ) (x : OutputText) (tokens : List Lexeme) → SpellsOutput deepest x tokens → AreFewTokens text tokens → All (λ bit. IsSpelledCond bit.1) x.bits
output_spelled text x tokens (an_output n b d bits u is by spells dot) all =
    let rest = u ++ (d ∷ []) in
    each_listed text (word (codes "bit")) (Spot × CondTree) (SpellsBit deepest) (λ bit. IsSpelledCond bit.1) (bit_spelled text) bits u spells
    (earlier text u (d ∷ []) (behind text b rest (behind text n (b ∷ rest) all)))

input_spelled : (text : List ℕ) (x : Spot × BodyTree) (tokens : List Lexeme) → SpellsInput deepest x tokens → AreFewTokens text tokens → IsSpelledBody x.1
input_spelled text x tokens (an_input n d body u is spells dot) all =
    record { tokens = u; spelled = spells; few = (earlier text u (d ∷ []) (behind text n (u ++ (d ∷ [])) all)).few }

-- ---- the source

-- the files of identities that are spelled
record AreFormedIdentities (text : List ℕ) (tree : IdentityText) : Type 0 where
  points : All (λ e. IsNamed text Points e.name) tree.points
  signals : All (IsNamed text Signal) tree.signals
  tracks : All (IsNamed text Track) tree.tracks
  routes : All (λ e. IsNamed text Route e.name) tree.routes
  subs : All (λ e. IsNamed text Subroute e.name) tree.subs
  flags : All (IsNamed text Flag) tree.flags
  tracks_of_points : All (λ e. 0 < length e.tracks) tree.points
  subs_of_routes : All (λ e. 0 < length e.subs) tree.routes

identities_formed : (text : List ℕ) (tree : IdentityText) (tokens : List Lexeme) → SpellsIdentities tree tokens → AreFewTokens text tokens → AreFormedIdentities text tree
identities_formed text tree tokens (the_files read pts sig tcs rte sub flg tfm points signals tracks routes subs flags modules) all =
    let after_sub = flg ++ tfm in
    let after_rte = sub ++ after_sub in
    let after_tcs = rte ++ after_rte in
    let after_sig = tcs ++ after_tcs in
    let after_pts = sig ++ after_sig in
    let in_pts = earlier text pts after_pts all in
    let from_sig = later text pts after_pts all in
    let from_tcs = later text sig after_sig from_sig in
    let from_rte = later text tcs after_tcs from_tcs in
    let in_rte = earlier text rte after_rte from_rte in
    let from_sub = later text rte after_rte from_rte in
    let from_flg = later text sub after_sub from_sub in
    record {
      points = each_of_file text (codes "PTS") PointsText SpellsPoints (λ e. IsNamed text Points e.name) (points_named text) read.points pts points in_pts;
      signals = each_of_file text (codes "SIG") Spot (SpellsName signal) (IsNamed text Signal) (plain_named text Signal) read.signals sig signals (earlier text sig after_sig from_sig);
      tracks = each_of_file text (codes "TCS") Spot (SpellsName track) (IsNamed text Track) (plain_named text Track) read.tracks tcs tracks (earlier text tcs after_tcs from_tcs);
      routes = each_of_file text (codes "RTE") RouteText SpellsRoute (λ e. IsNamed text Route e.name) (route_named text) read.routes rte routes in_rte;
      subs = each_of_file text (codes "SUB") SubText SpellsSub (λ e. IsNamed text Subroute e.name) (sub_named text) read.subs sub subs (earlier text sub after_sub from_sub);
      flags = each_of_file text (codes "FLG") Spot (SpellsName flag) (IsNamed text Flag) (plain_named text Flag) read.flags flg flags (earlier text flg tfm from_flg);
      tracks_of_points = each_of_file text (codes "PTS") PointsText SpellsPoints (λ e. 0 < length e.tracks) (points_some text) read.points pts points in_pts;
      subs_of_routes = each_of_file text (codes "RTE") RouteText SpellsRoute (λ e. 0 < length e.subs) (route_some text) read.routes rte routes in_rte;
    }

-- the names of entries
names_formed : (text : List ℕ) (kind : Kind) (X : Type 0) (name_of : X → Spot) (xs : List X) → All (λ x. IsNamed text kind (name_of x)) xs → All (IsNameOf kind) (map (λ x. characters text (name_of x)) xs)
names_formed text kind X name_of xs all = All-map (IsNameOf kind) (λ x. characters text (name_of x)) xs (λ k d within. (all k d within).name)

-- the source that is spelled
source_formed : (text : List ℕ) (tree : SourceText) (tokens : List Lexeme) → SpellsSource deepest tree tokens → AreFewTokens text tokens → IsFormed text tree
source_formed text tree tokens (the_source read ids prr pfm fop opt ipt identities requests free statements outputs inputs) all =
    let after_fop = opt ++ ipt in
    let after_pfm = fop ++ after_fop in
    let after_prr = pfm ++ after_pfm in
    let after_ids = prr ++ after_prr in
    let from_prr = later text ids after_ids all in
    let from_pfm = later text prr after_prr from_prr in
    let from_fop = later text pfm after_pfm from_pfm in
    let from_opt = later text fop after_fop from_fop in
    let in_prr = earlier text prr after_prr from_prr in
    let in_fop = earlier text fop after_fop from_fop in
    let of_identities = identities_formed text read.identities ids identities (earlier text ids after_ids all) in
    let of_requests = each_of_file text (codes "PRR") (Spot × BodyTree) (SpellsRequest deepest) (λ e. IsNamed text Request e.0) (request_named text) read.requests prr requests in_prr in
    record {
      points = λ k d within. (of_identities.points k d within).short;
      signals = λ k d within. (of_identities.signals k d within).short;
      tracks = λ k d within. (of_identities.tracks k d within).short;
      routes = λ k d within. (of_identities.routes k d within).short;
      subs = λ k d within. (of_identities.subs k d within).short;
      flags = λ k d within. (of_identities.flags k d within).short;
      requests = λ k d within. (of_requests k d within).short;
      tracks_of_points = of_identities.tracks_of_points;
      subs_of_routes = of_identities.subs_of_routes;
      bodies = each_of_file text (codes "PRR") (Spot × BodyTree) (SpellsRequest deepest) (λ e. IsSpelledBody e.1) (request_spelled text) read.requests prr requests in_prr;
      moves = each_of_file text (codes "PFM") (Spot × Spot × CondTree) (SpellsRule deepest) (λ e. IsSpelledCond e.2) (move_spelled text) read.free pfm free (earlier text pfm after_pfm from_pfm);
      commands = each_of_file text (codes "FOP") StatementText (SpellsStatement deepest) (λ e. AreSpelledCommands e.commands) (commands_spelled text) read.statements fop statements in_fop;
      guards = each_of_file text (codes "FOP") StatementText (SpellsStatement deepest) (λ e. IsSpelledCond e.guard) (guard_spelled text) read.statements fop statements in_fop;
      outputs = each_of_file text (codes "OPT") OutputText (SpellsOutput deepest) (λ e. All (λ bit. IsSpelledCond bit.1) e.bits) (output_spelled text) read.outputs opt outputs (earlier text opt ipt from_opt);
      inputs = each_of_file text (codes "IPT") (Spot × BodyTree) (SpellsInput deepest) (λ e. IsSpelledBody e.1) (input_spelled text) read.inputs ipt inputs (later text opt ipt from_opt);
      names = λ kind. elim kind as (λ k. All (IsNameOf k) (declared text read k)) [
        | Points ↦ names_formed text Points PointsText (λ e. e.name) read.identities.points of_identities.points
        | Signal ↦ names_formed text Signal Spot (λ e. e) read.identities.signals of_identities.signals
        | Track ↦ names_formed text Track Spot (λ e. e) read.identities.tracks of_identities.tracks
        | Route ↦ names_formed text Route RouteText (λ e. e.name) read.identities.routes of_identities.routes
        | Subroute ↦ names_formed text Subroute SubText (λ e. e.name) read.identities.subs of_identities.subs
        | Flag ↦ names_formed text Flag Spot (λ e. e) read.identities.flags of_identities.flags
        | Request ↦ names_formed text Request (Spot × BodyTree) (λ e. e.0) read.requests of_requests
      ];
    }

-- so it is where it is a piece of a text of 2 MiB at most
pub text_formed : (text : List ℕ) (tree : SourceText) → length text ≤ 2097152 → IsSpelledIn text tree → IsFormed text tree
text_formed text tree small spelled =
    let formed = tokens_formed text 0 spelled.lexemes spelled.end spelled.tokens in
    let stand = tokens_stand_in text 0 spelled.lexemes spelled.end (omega arith) spelled.tokens in
    let count = few_lexemes spelled.tokens.pieces (drop 0 text) spelled.tokens.fault spelled.tokens.cut 0 0 [] in
    let all : AreFewTokens text spelled.lexemes = record {
      each = λ k d within. record { formed = formed k d within; stands = stand k d within };
      few = omega (arith, count, ap length spelled.tokens.lexemes_are, small);
    } in
    let from_files = later text spelled.before (spelled.files ++ spelled.after) (subst (AreFewTokens text) spelled.parts all) in
    source_formed text tree spelled.files spelled.spells (earlier text spelled.files spelled.after from_files)
