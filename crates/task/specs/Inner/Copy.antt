-- "Bytes past n are never read or written": the first n bytes of a map, laid over another.
use Rattle.std.specs.Prelude.{ℕ, List, ◌++◌, take, drop}

abbrev pub first_bytes : ℕ → List ℕ → List ℕ → List ℕ
first_bytes n from m = take n from ++ drop n m
