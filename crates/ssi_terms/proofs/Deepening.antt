-- The readers of the files of identities stop at no level; a file is as deep as its entries.
use Rattle.std.proofs.Common.{ℕ, Bool, codes, List, [], ◌∷◌}
use Rattle.ssi_lexer.specs.Lexemes.{Lexeme}
use Rattle.ssi_lexer.specs.TokenTests.{word, name, dot}
use Rattle.ssi_lexer.specs.Parsers.{Parser}
use Rattle.ssi_lexer.specs.Laws.{Deepens}
use Rattle.ssi_lexer.proofs.Deepening.{deep_pure, deep_mapped, deep_both, deep_tok, deep_either, deep_maybe, deep_turns, deep_separated}
use Rattle.ssi_terms.specs.declared.tree.Spot.{Spot}
use Rattle.ssi_terms.specs.Trees.{PointsText, RouteText, SubText, WiringText, ModuleText, IdentityText}
use Rattle.ssi_terms.specs.Tests.{points, signal, track, route, subroute, flag, lie_word, any_number}
use Rattle.ssi_terms.specs.Identities.{listed_or_none}
use Rattle.ssi_terms.specs.SpotRules.{deep_spot}
use Rattle.ssi_terms.specs.Read as read
use Rattle.ssi_terms.specs.ReadIdentities as spec

-- ---- a header and files

pub deep_header : (file : List ℕ) → Deepens (Unit {0}) (read.header file) (read.header file)
unfolding read.header
deep_header file = deep_mapped (λ _. tt) (deep_both (deep_tok (word (codes "file"))) (deep_tok (name file)))

pub deep_file : {A : Type 0} {p q : Parser A} (file : List ℕ) (test : Lexeme → Bool) → Deepens A p q → Deepens (List A) (spec.file file test p) (spec.file file test q)
unfolding spec.file
deep_file file test d = deep_mapped (λ x. x.1) (deep_both (deep_header file) (deep_turns test d []))

-- ---- entries

deep_name_entry : (test : Lexeme → Bool) → Deepens Spot (read.name_entry test) (read.name_entry test)
unfolding read.name_entry
deep_name_entry test = deep_mapped (λ x. x.0) (deep_both (deep_spot test) (deep_tok dot))

deep_points : Deepens PointsText spec.points_entry spec.points_entry
unfolding spec.points_entry
deep_points =
    deep_mapped (λ x. record { name = x.0; tracks = x.1.1.0 })
    (deep_both (deep_spot points) (deep_both (deep_tok (word (codes "over"))) (deep_both (deep_separated (deep_spot track)) (deep_tok dot))))

deep_route : Deepens RouteText spec.route_entry spec.route_entry
unfolding spec.route_entry
deep_route =
    deep_mapped (λ x. record { name = x.0; signal = x.1.1.0; subs = x.1.1.1.1.0 })
    (deep_both (deep_spot route) (deep_both (deep_tok (word (codes "from"))) (deep_both (deep_spot signal) (deep_both (deep_tok (word (codes "by"))) (deep_both (deep_separated (deep_spot subroute)) (deep_tok dot))))))

deep_lie : Deepens (Spot × Spot) spec.lie spec.lie
unfolding spec.lie
deep_lie = deep_both (deep_spot points) (deep_spot lie_word)

deep_perhaps : {p : Parser (List (Spot × Spot))} (test : Lexeme → Bool) → Deepens (List (Spot × Spot)) p p → Deepens (List (Spot × Spot)) (spec.perhaps test p) (spec.perhaps test p)
unfolding spec.perhaps
deep_perhaps test d = deep_mapped listed_or_none (deep_maybe test d)

deep_lies : Deepens (List (Spot × Spot)) spec.lies spec.lies
unfolding spec.lies
deep_lies = deep_mapped (λ x. x.1) (deep_both (deep_tok (word (codes "with"))) (deep_separated deep_lie))

deep_sub : Deepens SubText spec.sub_entry spec.sub_entry
unfolding spec.sub_entry
deep_sub =
    deep_mapped (λ x. record { name = x.0; track = x.1.1.0; lies = x.1.1.1.0 })
    (deep_both (deep_spot subroute) (deep_both (deep_tok (word (codes "on"))) (deep_both (deep_spot track) (deep_both (deep_perhaps (word (codes "with")) deep_lies) (deep_tok dot)))))

deep_pin : (test : Lexeme → Bool) → Deepens (Spot × Spot) (spec.pin test) (spec.pin test)
unfolding spec.pin
deep_pin test = deep_mapped (λ x. (x.0, x.1.1)) (deep_both (deep_spot test) (deep_both (deep_tok (word (codes "at"))) (deep_spot any_number)))

deep_wired : (kind : List ℕ) (test : Lexeme → Bool) → Deepens WiringText (spec.wired kind test) (spec.wired kind test)
unfolding spec.wired
deep_wired kind test =
    deep_mapped (λ x. record { kind = x.0; pins = x.1.0 }) (deep_both (deep_spot (word kind)) (deep_both (deep_perhaps test (deep_separated (deep_pin test))) (deep_tok dot)))

deep_wiring : Deepens WiringText spec.wiring spec.wiring
unfolding spec.wiring
deep_wiring =
    deep_either (word (codes "points")) (deep_wired (codes "points") points)
    (deep_either (word (codes "signal")) (deep_wired (codes "signal") signal) (deep_wired (codes "track") track))

deep_module : Deepens ModuleText spec.module_entry spec.module_entry
unfolding spec.module_entry
deep_module = deep_mapped (λ x. record { address = x.0; kind = x.1.kind; pins = x.1.pins }) (deep_both (deep_spot any_number) deep_wiring)

pub deep_identities : Deepens IdentityText spec.identities spec.identities
unfolding spec.identities
deep_identities =
    deep_mapped
    (λ x. record {
      points = x.0;
      signals = x.1.0;
      tracks = x.1.1.0;
      routes = x.1.1.1.0;
      subs = x.1.1.1.1.0;
      flags = x.1.1.1.1.1.0;
      modules = x.1.1.1.1.1.1;
    })
    (deep_both (deep_file (codes "PTS") points deep_points)
    (deep_both (deep_file (codes "SIG") signal (deep_name_entry signal))
    (deep_both (deep_file (codes "TCS") track (deep_name_entry track))
    (deep_both (deep_file (codes "RTE") route deep_route)
    (deep_both (deep_file (codes "SUB") subroute deep_sub)
    (deep_both (deep_file (codes "FLG") flag (deep_name_entry flag)) (deep_file (codes "TFM") any_number deep_module)))))))
