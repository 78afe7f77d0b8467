-- What is answered to a text with the tree of its source.
use Rattle.std.specs.Prelude.{◌≡◌, ◌≢◌, ⊤, ℕ, List, [], Result, Ok, Err}
use Rattle.ssi_identities.specs.DataSets.{Plan}
use Rattle.ssi_names.specs.SourceTexts.{SourceText}
use Rattle.ssi_names.specs.declared.fault.ResolveFault.{ResolveFault}
use Rattle.ssi_names.specs.declared.fault.ResolveFault.TheVariants.{Faults, Memory}
use Rattle.ssi_names.specs.Faults.{faults_of}
use Rattle.ssi_names.specs.Rows.{resolved}
use Rattle.ssi_identities.specs.Wells.{IsWell}

-- the data set, which is well, where there are no faults; else all faults; want of memory is free
abbrev pub IsAnswer : List ℕ → SourceText → Result Plan ResolveFault → Type 0
IsAnswer text tree (Ok plan) = (faults_of text tree ≡ []) × (plan ≡ resolved text tree) × IsWell plan
IsAnswer text tree (Err (Faults list)) = (faults_of text tree ≢ []) × (list.items.items ≡ faults_of text tree)
IsAnswer text tree (Err Memory) = ⊤
