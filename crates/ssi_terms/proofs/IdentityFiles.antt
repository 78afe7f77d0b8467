-- The files of identities: the reader reads their rule of the grammar.
use Rattle.std.proofs.Common.{◌≡◌, ℕ, Bool, false, codes, List, [], ◌∷◌, refl}
use Rattle.ssi_lexer.specs.declared.token.TokenKind.TheVariants as k
use Rattle.ssi_lexer.specs.Lexemes.{Lexeme}
use Rattle.ssi_lexer.specs.TokenTests.{Is, identity}
use Rattle.ssi_lexer.specs.Languages.{Repeated}
use Rattle.ssi_lexer.specs.Parsers.{Parser, ◌&◌, turns}
use Rattle.ssi_lexer.specs.Laws.{StartsWith, Lacks, Always, Good, Deep}
use Rattle.ssi_lexer.proofs.Joining.{Both, both, good_mapped}
use Rattle.ssi_lexer.proofs.Choosing.{Without}
use Rattle.ssi_lexer.proofs.Repeating.{good_turns}
use Rattle.ssi_lexer.proofs.Sequences.{good_then, joined_by}
use Rattle.ssi_lexer.proofs.Spellings.{Follows}
use Rattle.ssi_lexer.proofs.Starting.{some_token, word_not_identity, word_not_number, starts_both}
use Rattle.ssi_terms.specs.declared.tree.Spot.{Spot}
use Rattle.ssi_terms.specs.Trees.{PointsText, RouteText, SubText, ModuleText, IdentityText}
use Rattle.ssi_terms.specs.Tests.{signal, track, flag, any_number, ends_file}
use Rattle.ssi_terms.specs.Identities.{SpellsName, SpellsPoints, SpellsRoute, SpellsSub, SpellsModule, SpellsFile, a_file, SpellsIdentities, the_files}
use Rattle.ssi_terms.specs.Read as read
use Rattle.ssi_terms.specs.ReadIdentities as spec
use Rattle.ssi_terms.specs.IdentityRules.{good_name_entry, name_starts, good_points, points_start, good_route, route_starts, good_sub, sub_starts, good_module, module_starts}
use Rattle.ssi_terms.proofs.Deepening.{deep_file}
use Rattle.ssi_terms.proofs.FileHeaders.{AHeader, the_header, good_header}

-- ---- one file

module _ (file : List ℕ) (A : Type 0) (test : Lexeme → Bool) (p : Parser A) (S : A → List Lexeme → Type 0) where
  abbrev FileForm : Unit {0} × List A → List Lexeme → Type 0
  FileForm = Both (Unit {0}) (List A) (AHeader file) (Repeated A S)

  to_file : (x : Unit {0} × List A) (u : List Lexeme) → FileForm x u → SpellsFile file A S x.1 u
  to_file x u (both a entries v w (the_header f n e h) r) = a_file f n entries w e h r

  from_file : (y : List A) (u : List Lexeme) → SpellsFile file A S y u → (x : Unit {0} × List A) × (y ≡ x.1) × FileForm x u
  from_file y u (a_file f n entries v e h r) = ((tt, entries), refl, both tt entries (f ∷ n ∷ []) v (the_header f n e h) r)

  pub file_starts : (x : List A) (u : List Lexeme) → SpellsFile file A S x u → StartsWith ends_file u
  file_starts x u (a_file f n entries v e h r) = record { first = f; others = n ∷ v; parts = refl; passes = e }

  pub good_file : ((x : A) (u : List Lexeme) → S x u → StartsWith test u) → Good A p S Always Always → Good (List A) (spec.file file test p) (SpellsFile file A S) (Lacks test) (Without test Always)
  unfolding spec.file
  good_file starts g =
      good_mapped (Unit {0} × List A) (List A) (λ x. x.1) (read.header file & turns test p []) FileForm (SpellsFile file A S) (Lacks test) (Without test Always) to_file from_file
      (good_then (good_header file) (good_turns A test p S Always Always starts (λ ts e. tt) g))

-- ---- files one after another

-- a reader of files, of which the last ends where no such token comes
record Files (A : Type 0) (p : Parser A) (S : A → List Lexeme → Type 0) (test : Lexeme → Bool) : Type 0 where
  good : Good A p S (Lacks test) (Without test Always)
  starts : (x : A) (u : List Lexeme) → S x u → StartsWith ends_file u

last_file : {A : Type 0} {p : Parser A} {S : A → List Lexeme → Type 0} {test : Lexeme → Bool} (file : List ℕ) → ((x : A) (u : List Lexeme) → S x u → StartsWith test u) → Good A p S Always Always
    → Files (List A) (spec.file file test p) (SpellsFile file A S) test
last_file {A = A} {p = p} {S = S} {test = test} file starts g = record { good = good_file file A test p S starts g; starts = file_starts file A test p S }

one_more : {A B : Type 0} {p : Parser A} {q : Parser B} {S : A → List Lexeme → Type 0} {T : B → List Lexeme → Type 0} {test other : Lexeme → Bool} (file : List ℕ)
    → ((x : A) (u : List Lexeme) → S x u → StartsWith test u) → Good A p S Always Always → ((t : Lexeme) → Is ends_file t → test t ≡ false) → Files B q T other
    → Files (List A × B) (spec.file file test p & q) (Both (List A) B (SpellsFile file A S) T) other
one_more {A = A} {B = B} {p = p} {q = q} {S = S} {T = T} {test = test} {other = other} file starts g differs rest = record {
  good = joined_by test ends_file rest.starts differs (good_file file A test p S starts g) rest.good;
  starts = starts_both (List A) B ends_file (SpellsFile file A S) T (file_starts file A test p S);
}

-- `file` is no name
pub no_identity : (kinds : List ℕ) (t : Lexeme) → Is ends_file t → identity kinds t ≡ false
no_identity kinds t e = word_not_identity kinds (codes "file") t e

-- ---- the seven files

abbrev Lists : Type 0
Lists = List PointsText × (List Spot × (List Spot × (List RouteText × (List SubText × (List Spot × List ModuleText)))))

abbrev SevenFiles : Lists → List Lexeme → Type 0
SevenFiles =
    Both _ _ (SpellsFile (codes "PTS") PointsText SpellsPoints)
    (Both _ _ (SpellsFile (codes "SIG") Spot (SpellsName signal))
    (Both _ _ (SpellsFile (codes "TCS") Spot (SpellsName track))
    (Both _ _ (SpellsFile (codes "RTE") RouteText SpellsRoute)
    (Both _ _ (SpellsFile (codes "SUB") SubText SpellsSub)
    (Both _ _ (SpellsFile (codes "FLG") Spot (SpellsName flag))
    (SpellsFile (codes "TFM") ModuleText SpellsModule))))))

abbrev tree_of : Lists → IdentityText
tree_of x = record { points = x.0; signals = x.1.0; tracks = x.1.1.0; routes = x.1.1.1.0; subs = x.1.1.1.1.0; flags = x.1.1.1.1.1.0; modules = x.1.1.1.1.1.1 }

to_identities : (x : Lists) (u : List Lexeme) → SevenFiles x u → SpellsIdentities (tree_of x) u
to_identities x u (both a b pts c pp (both d e sig f ss (both g h tcs i t (both j l rte m r (both n o sub q uu (both v w flg tfm ll mm)))))) =
    the_files (tree_of (a, (d, (g, (j, (n, (v, w))))))) pts sig tcs rte sub flg tfm pp ss t r uu ll mm

from_identities : (y : IdentityText) (u : List Lexeme) → SpellsIdentities y u → (x : Lists) × (y ≡ tree_of x) × SevenFiles x u
from_identities y u (the_files tree pts sig tcs rte sub flg tfm pp ss t r uu ll mm) = (
  (tree.points, (tree.signals, (tree.tracks, (tree.routes, (tree.subs, (tree.flags, tree.modules)))))),
  refl,
  both tree.points _ pts _ pp
      (both tree.signals _ sig _ ss
      (both tree.tracks _ tcs _ t
      (both tree.routes _ rte _ r
      (both tree.subs _ sub _ uu
      (both tree.flags tree.modules flg tfm ll mm))))),
)

pub good_identities : Good IdentityText spec.identities SpellsIdentities (Lacks any_number) (Without any_number Always)
unfolding spec.identities
good_identities =
    let files =
    one_more (codes "PTS") points_start good_points (no_identity (codes "P"))
    (one_more (codes "SIG") (name_starts signal) (good_name_entry 83) (no_identity (codes "S"))
    (one_more (codes "TCS") (name_starts track) (good_name_entry 84) (no_identity (codes "T"))
    (one_more (codes "RTE") route_starts good_route (no_identity (codes "R"))
    (one_more (codes "SUB") sub_starts good_sub (no_identity (codes "U"))
    (one_more (codes "FLG") (name_starts flag) (good_name_entry 76) (no_identity (codes "L"))
    (last_file (codes "TFM") module_starts good_module)))))) in
    good_mapped Lists IdentityText tree_of _ SevenFiles SpellsIdentities (Lacks any_number) (Without any_number Always) to_identities from_identities files.good

-- a file whose entries begin with such a token ends before `file` and at the end of the text
pub follows_file : (test : Lexeme → Bool) → ((t : Lexeme) → Is ends_file t → test t ≡ false) → Follows (Without test Always) ends_file
follows_file test differs = record {
  at_end = record { lacks = refl; too = tt };
  before = λ t ts e. record { lacks = differs t e; too = tt };
  some = some_token k.Word (codes "file");
  some_is = refl;
}

pub file_follows : Follows (Without any_number Always) ends_file
file_follows = follows_file any_number (λ t e. word_not_number (codes "file") t e)

-- a file, by the depth of its entries
pub file_by_depth : {A : Type 0} {p : ℕ → Parser A} {S : ℕ → A → List Lexeme → Type 0} (file : List ℕ) (test : Lexeme → Bool) → ((depth : ℕ) (x : A) (u : List Lexeme) → S depth x u → StartsWith test u)
    → Deep A p S Always Always → Deep (List A) (λ depth. spec.file file test (p depth)) (λ depth. SpellsFile file A (S depth)) (Lacks test) (Without test Always)
file_by_depth {A = A} {p = p} {S = S} file test starts deep = record {
  good = λ depth. good_file file A test (p depth) (S depth) (starts depth) (deep.good depth);
  deepens = λ depth. deep_file file test (deep.deepens depth);
}
