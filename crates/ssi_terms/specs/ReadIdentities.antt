-- What the readers of the files of identities compute, as functions of the tokens that are left. Proofs go by it,
-- and the parts that are offered to the layers above; no clause of `read_identities` cites it, since Identities says what
-- is read.
use Rattle.std.specs.Prelude.{ℕ, Bool, codes, List, []}
use Rattle.ssi_lexer.specs.Lexemes.{Lexeme}
use Rattle.ssi_lexer.specs.TokenTests.{word, dot}
use Rattle.ssi_lexer.specs.Parsers.{Parser, ◌&◌, mapped, tok, either, maybe, turns, separated}
use Rattle.ssi_terms.specs.declared.tree.Spot.{Spot}
use Rattle.ssi_terms.specs.Trees.{PointsText, RouteText, SubText, WiringText, ModuleText, IdentityText}
use Rattle.ssi_terms.specs.Tests.{points, signal, track, route, subroute, flag, lie_word, any_number}
use Rattle.ssi_terms.specs.Identities.{listed_or_none}
use Rattle.ssi_terms.specs.Read.{spot, name_entry, header}

unfoldable pub points_entry : Parser PointsText
points_entry = mapped (λ x. record { name = x.0; tracks = x.1.1.0 }) (spot points & (tok (word (codes "over")) & (separated (spot track) & tok dot)))

unfoldable pub route_entry : Parser RouteText
route_entry =
    mapped (λ x. record { name = x.0; signal = x.1.1.0; subs = x.1.1.1.1.0 })
    (spot route & (tok (word (codes "from")) & (spot signal & (tok (word (codes "by")) & (separated (spot subroute) & tok dot)))))

unfoldable pub lie : Parser (Spot × Spot)
lie = spot points & spot lie_word

-- a list if such a token comes next, and else an empty list
unfoldable pub perhaps : (Lexeme → Bool) → Parser (List (Spot × Spot)) → Parser (List (Spot × Spot))
perhaps test p = mapped listed_or_none (maybe test p)

unfoldable pub lies : Parser (List (Spot × Spot))
lies = mapped (λ x. x.1) (tok (word (codes "with")) & separated lie)

unfoldable pub sub_entry : Parser SubText
sub_entry =
    mapped (λ x. record { name = x.0; track = x.1.1.0; lies = x.1.1.1.0 })
    (spot subroute & (tok (word (codes "on")) & (spot track & (perhaps (word (codes "with")) lies & tok dot))))

unfoldable pub pin : (Lexeme → Bool) → Parser (Spot × Spot)
pin test = mapped (λ x. (x.0, x.1.1)) (spot test & (tok (word (codes "at")) & spot any_number))

unfoldable pub wired : List ℕ → (Lexeme → Bool) → Parser WiringText
wired kind test = mapped (λ x. record { kind = x.0; pins = x.1.0 }) (spot (word kind) & (perhaps test (separated (pin test)) & tok dot))

unfoldable pub wiring : Parser WiringText
wiring =
    either (word (codes "points")) (wired (codes "points") points)
    (either (word (codes "signal")) (wired (codes "signal") signal) (wired (codes "track") track))

unfoldable pub module_entry : Parser ModuleText
module_entry = mapped (λ x. record { address = x.0; kind = x.1.kind; pins = x.1.pins }) (spot any_number & wiring)

unfoldable pub file : {A : Type 0} → List ℕ → (Lexeme → Bool) → Parser A → Parser (List A)
file name test entry = mapped (λ x. x.1) (header name & turns test entry [])

unfoldable pub identities : Parser IdentityText
identities =
    mapped
    (λ x. record {
      points = x.0;
      signals = x.1.0;
      tracks = x.1.1.0;
      routes = x.1.1.1.0;
      subs = x.1.1.1.1.0;
      flags = x.1.1.1.1.1.0;
      modules = x.1.1.1.1.1.1;
    })
    (file (codes "PTS") points points_entry
    & (file (codes "SIG") signal (name_entry signal)
    & (file (codes "TCS") track (name_entry track)
    & (file (codes "RTE") route route_entry
    & (file (codes "SUB") subroute sub_entry
    & (file (codes "FLG") flag (name_entry flag)
    & file (codes "TFM") any_number module_entry))))))
