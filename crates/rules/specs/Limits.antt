-- The limits of a sheet, each in this one place: atom count 0 to 512, rule count 0 to 2,048, a sheet of at most 65,536 bytes,
-- a weight 0 to 1,000,000, and a number of four groups of seven bits, so at most 268,435,455.
use Rattle.std.specs.Prelude.{ℕ}

unfoldable pub atoms_most : ℕ
atoms_most = 512

unfoldable pub rules_most : ℕ
rules_most = 2048

unfoldable pub bytes_most : ℕ
bytes_most = 65536

unfoldable pub weight_most : ℕ
weight_most = 1000000

unfoldable pub number_most : ℕ
number_most = 268435455

-- the refusals are numbered from 1 to this
abbrev pub highest_refusal : ℕ
highest_refusal = 16
