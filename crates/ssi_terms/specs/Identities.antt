-- The grammar of the files of identities, PTS to TFM: which tokens spell which tree, one constructor for each rule.
use Rattle.std.specs.Prelude.{ℕ, Bool, codes, List, [], ◌∷◌, ◌++◌, Option, Some, None}
use Rattle.ssi_lexer.specs.Lexemes.{Lexeme}
use Rattle.ssi_lexer.specs.TokenTests.{Is, word, name, dot}
use Rattle.ssi_lexer.specs.Languages.{Listed, Repeated, Optional}
use Rattle.ssi_terms.specs.declared.tree.Spot.{Spot}
use Rattle.ssi_terms.specs.Trees.{PointsText, RouteText, SubText, ModuleText, IdentityText}
use Rattle.ssi_terms.specs.Tests.{spot_of, points, signal, track, route, subroute, flag, lie_word, any_number}

-- one token that passes a test, as its place
pub data SpotOf (test : Lexeme → Bool) : Spot → List Lexeme → Type 0 where
  spot_is : (t : Lexeme) → Is test t → SpotOf test (spot_of t) (t ∷ [])

-- an entry of SIG = S . , of TCS = T . , of FLG = L .
pub data SpellsName (test : Lexeme → Bool) : Spot → List Lexeme → Type 0 where
  a_name : (n d : Lexeme) → Is test n → Is dot d → SpellsName test (spot_of n) (n ∷ d ∷ [])

-- an entry of PTS = P over T { , T } .
pub data SpellsPoints : PointsText → List Lexeme → Type 0 where
  the_points : (n o d : Lexeme) (tracks : List Spot) (u : List Lexeme) → Is points n → Is (word (codes "over")) o → Listed Spot (SpotOf track) tracks u → Is dot d
      → SpellsPoints (record { name = spot_of n; tracks = tracks }) (n ∷ o ∷ (u ++ (d ∷ [])))

-- an entry of RTE = R from S by U { , U } .
pub data SpellsRoute : RouteText → List Lexeme → Type 0 where
  a_route : (n f s b d : Lexeme) (subs : List Spot) (u : List Lexeme) → Is route n → Is (word (codes "from")) f → Is signal s → Is (word (codes "by")) b
      → Listed Spot (SpotOf subroute) subs u → Is dot d
      → SpellsRoute (record { name = spot_of n; signal = spot_of s; subs = subs }) (n ∷ f ∷ s ∷ b ∷ (u ++ (d ∷ [])))

-- P lie
pub data SpellsLie : Spot × Spot → List Lexeme → Type 0 where
  a_lie : (n w : Lexeme) → Is points n → Is lie_word w → SpellsLie (spot_of n, spot_of w) (n ∷ w ∷ [])

-- with P lie { , P lie }
pub data SpellsLies : List (Spot × Spot) → List Lexeme → Type 0 where
  the_lies : (w : Lexeme) (lies : List (Spot × Spot)) (u : List Lexeme) → Is (word (codes "with")) w → Listed (Spot × Spot) SpellsLie lies u → SpellsLies lies (w ∷ u)

-- a list that need not be written: empty where it is not
abbrev pub listed_or_none : Option (List (Spot × Spot)) → List (Spot × Spot)
listed_or_none None = []
listed_or_none (Some pairs) = pairs

-- an entry of SUB = U on T [ with P lie { , P lie } ] .
pub data SpellsSub : SubText → List Lexeme → Type 0 where
  a_sub : (n o t d : Lexeme) (lies : Option (List (Spot × Spot))) (u : List Lexeme) → Is subroute n → Is (word (codes "on")) o → Is track t
      → Optional (List (Spot × Spot)) SpellsLies lies u → Is dot d
      → SpellsSub (record { name = spot_of n; track = spot_of t; lies = listed_or_none lies }) (n ∷ o ∷ t ∷ (u ++ (d ∷ [])))

-- X at N, where X is a name of the module's kind
pub data SpellsPin (test : Lexeme → Bool) : Spot × Spot → List Lexeme → Type 0 where
  a_pin : (n a p : Lexeme) → Is test n → Is (word (codes "at")) a → Is any_number p → SpellsPin test (spot_of n, spot_of p) (n ∷ a ∷ p ∷ [])

-- [ X at N { , X at N } ]
abbrev pub SpellsPins : (Lexeme → Bool) → Option (List (Spot × Spot)) → List Lexeme → Type 0
SpellsPins test = Optional (List (Spot × Spot)) (Listed (Spot × Spot) (SpellsPin test))

-- an entry of TFM = N kind pins . , where the kind is `points`, `signal` or `track`
pub data SpellsModule : ModuleText → List Lexeme → Type 0 where
  of_points : (n k d : Lexeme) (pins : Option (List (Spot × Spot))) (u : List Lexeme) → Is any_number n → Is (word (codes "points")) k → SpellsPins points pins u → Is dot d
      → SpellsModule (record { address = spot_of n; kind = spot_of k; pins = listed_or_none pins }) (n ∷ k ∷ (u ++ (d ∷ [])))
  of_signals : (n k d : Lexeme) (pins : Option (List (Spot × Spot))) (u : List Lexeme) → Is any_number n → Is (word (codes "signal")) k → SpellsPins signal pins u → Is dot d
      → SpellsModule (record { address = spot_of n; kind = spot_of k; pins = listed_or_none pins }) (n ∷ k ∷ (u ++ (d ∷ [])))
  of_tracks : (n k d : Lexeme) (pins : Option (List (Spot × Spot))) (u : List Lexeme) → Is any_number n → Is (word (codes "track")) k → SpellsPins track pins u → Is dot d
      → SpellsModule (record { address = spot_of n; kind = spot_of k; pins = listed_or_none pins }) (n ∷ k ∷ (u ++ (d ∷ [])))

-- a file: the word `file`, its name, and any number of entries
pub data SpellsFile (file : List ℕ) (A : Type 0) (S : A → List Lexeme → Type 0) : List A → List Lexeme → Type 0 where
  a_file : (f n : Lexeme) (entries : List A) (u : List Lexeme) → Is (word (codes "file")) f → Is (name file) n → Repeated A S entries u → SpellsFile file A S entries (f ∷ n ∷ u)

-- the files of identities, in this order
pub data SpellsIdentities : IdentityText → List Lexeme → Type 0 where
  the_files : (tree : IdentityText) (pts sig tcs rte sub flg tfm : List Lexeme)
      → SpellsFile (codes "PTS") PointsText SpellsPoints tree.points pts
      → SpellsFile (codes "SIG") Spot (SpellsName signal) tree.signals sig
      → SpellsFile (codes "TCS") Spot (SpellsName track) tree.tracks tcs
      → SpellsFile (codes "RTE") RouteText SpellsRoute tree.routes rte
      → SpellsFile (codes "SUB") SubText SpellsSub tree.subs sub
      → SpellsFile (codes "FLG") Spot (SpellsName flag) tree.flags flg
      → SpellsFile (codes "TFM") ModuleText SpellsModule tree.modules tfm
      → SpellsIdentities tree (pts ++ (sig ++ (tcs ++ (rte ++ (sub ++ (flg ++ tfm))))))
