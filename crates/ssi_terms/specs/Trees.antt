-- Trees that hold vectors, as plain lists.
use Rattle.std.specs.Prelude.{List}
use Rattle.ssi_terms.specs.declared.tree.Spot.{Spot}

-- an entry of PTS: points and the tracks that they lie over
pub record PointsText : Type 0 where
  pub name : Spot
  pub tracks : List Spot

-- an entry of RTE: a route, its signal and its sub-routes
pub record RouteText : Type 0 where
  pub name : Spot
  pub signal : Spot
  pub subs : List Spot

-- an entry of SUB: a sub-route, its track, and its points, each with the word for its lie
pub record SubText : Type 0 where
  pub name : Spot
  pub track : Spot
  pub lies : List (Spot × Spot)

-- an entry of TFM: a module's address, the word for its kind, and the names that it has, each with its pin
pub record ModuleText : Type 0 where
  pub address : Spot
  pub kind : Spot
  pub pins : List (Spot × Spot)

-- what stands behind a module's address
pub record WiringText : Type 0 where
  pub kind : Spot
  pub pins : List (Spot × Spot)

-- the files PTS, SIG, TCS, RTE, SUB, FLG and TFM
pub record IdentityText : Type 0 where
  pub points : List PointsText
  pub signals : List Spot
  pub tracks : List Spot
  pub routes : List RouteText
  pub subs : List SubText
  pub flags : List Spot
  pub modules : List ModuleText
