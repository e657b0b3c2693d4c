-- A line has room for every text: a sheet has few atoms, and a number of 64 bits few digits. What std writes for a number is its digits.
use Prim.Native.Nat.{ℕ, ◌+◌, ◌*◌, ◌-◌, ◌^◌, ◌%◌, ◌≤◌, ◌<◌}
use mathlib.Core.Path.{◌≡◌, sym, ap, ◌∙◌}
use mathlib.Core.List.{List, [], ◌∷◌, ◌++◌}
use native.Mathlib.Omega.{arith}
use native.Mathlib.Nat.{mul-le-mul_right}
use lib.ListN.{length}
use lib.Dec.{lit≤}
use Rattle.std.specs.Prelude.{decimal}
use Rattle.std.proofs.lemmas.Fmt.{decimal_by_steps}
use Rattle.std.proofs.lemmas.Str.{encode_ascii}
use lib.Utf8.{encode}
use Rattle.rules.specs.Limits.{atoms_most}
use Rattle.text.specs.Line.{spaced, spaced_all, in_atoms, model_word, digits, digits_in}
use Rattle.text.specs.Inner.Put.{line_most}
use Rattle.text.proofs.Lines.{digits_small, digits_large, spaced_grows, all_fit}

-- what std writes for a number is its digits
pub decimal_digits : (x : ℕ) → x < 2 ^ 64 → decimal x ≡ digits x
decimal_digits =
    decimal_by_steps (λ x ds. ds ≡ digits x) (λ x h. sym (digits_small x h))
    (λ x ds h e. ap (λ (high : List ℕ). high ++ ((48 + x % 10) ∷ [])) e ∙ sym (digits_large x h))

-- a number after a space is short
pub spaced_short : (x : ℕ) → x < 2 ^ 64 → length (spaced x) ≤ 21
unfolding spaced digits digits_in
spaced_short x h =
    let most : length (spaced (2 ^ 64 - 1)) ≤ 21 = lit≤ tt in
    omega (arith, most, spaced_grows x (2 ^ 64 - 1) (omega arith))

-- the atoms of a model fit, and a line feed after them
pub atoms_room :
    (m : List ℕ) (i : ℕ) → i ≤ atoms_most
    → length model_word + length (spaced_all (in_atoms i m)) + 21 ≤ line_most
unfolding atoms_most spaced digits digits_in
atoms_room m i h =
    let most : length model_word + atoms_most * length (spaced atoms_most) + 21 ≤ line_most = lit≤ tt in
    omega (arith, most, all_fit m i atoms_most h, mul-le-mul_right {m = i} {n = atoms_most} (length (spaced atoms_most)) h)

-- what ends a line takes one byte
pub one_byte : (c : ℕ) → c < 128 → length (encode c) ≡ 1
one_byte c h = ap length (encode_ascii c h)
