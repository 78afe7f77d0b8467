-- The limit of a text.
use Rattle.std.specs.Prelude.{ℕ}

-- how many bytes a text has at most
abbrev pub text_limit : ℕ
text_limit = 2097152
