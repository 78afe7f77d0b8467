-- The codes of name faults.
use Rattle.std.specs.Prelude.{ℕ}

-- a name that isn't declared, or an address that no module has
abbrev pub unknown : ℕ
unknown = 1

-- a name or an address that an earlier entry has
abbrev pub twice : ℕ
twice = 2

-- a word that isn't one of the identity's kind
abbrev pub wrong_word : ℕ
wrong_word = 3

-- a command or a number that isn't allowed in this file
abbrev pub not_in_this_file : ℕ
not_in_this_file = 4

-- a test whether points are free to go where no entry of PFM says when
abbrev pub no_pfm : ℕ
no_pfm = 5

-- a block that an earlier entry has
abbrev pub block_twice : ℕ
block_twice = 6

-- an address, a pin or a bit out of its range, or a pin or a bit that is used earlier in the entry
abbrev pub bad_pin : ℕ
bad_pin = 7

-- an identity that no module names
abbrev pub not_wired : ℕ
not_wired = 8

-- an identity that a module names earlier
abbrev pub wired_twice : ℕ
wired_twice = 9

-- a test in PFM whether points are free to go
abbrev pub free_test_in_pfm : ℕ
free_test_in_pfm = 10

-- one more than the limit
abbrev pub too_many : ℕ
too_many = 11

-- points that are named earlier in the sub-route
abbrev pub points_twice_in_subroute : ℕ
points_twice_in_subroute = 12
