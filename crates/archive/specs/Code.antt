-- The coding of the calls' answers for Rust and C: one number of 64 bits, a top of 24 bits times 2^40 and a value of 40. No
-- refusal of a call has a number above 16 or a place above 65,536 (gate: proofs/Places.antt), no accepted sheet more than 512 atoms or 2,048
-- rules (sheet: proofs/Accepted.antt `well_formed_law`), and a margin lies from -268,435,455 to 1,024,000,000 (sheet: proofs/Limits.antt
-- `margin_range`). So no remainder here loses anything of an answer that meets its promise: its number tells it (proofs/Exact.antt, a
-- theorem for each call, `check_exact` to `rule_exact`).
use Rattle.std.specs.Prelude.{ℕ, suc, ◌+◌, ◌-◌, ◌*◌, ◌%◌, ◌^◌, ◌≡◌, ℤ, pos, negsuc, Bool, true, false, Option, Some, None, Result, Ok, Err}
use Rattle.numbers.specs.Answer.{reason_number}
use Rattle.numbers.specs.declared.Refusal.{Refusal}
use Rattle.desk.specs.Promise.{Checked, PartRead, Opened, Searched, Tested, MarginRead}
use Rattle.desk.specs.declared.Counts.{Counts}
use Rattle.desk.specs.declared.Solved.{Solved}
use Rattle.desk.specs.declared.Solved.TheVariants.{Model, NoModel}

-- top * 2^40 + value
unfoldable pub coded : ℕ → ℕ → ℕ
coded top value = top % 2 ^ 24 * 2 ^ 40 + value % 2 ^ 40

-- n * 2^16 + rules
unfoldable pub counts : ℕ → ℕ → ℕ
counts n rules = n % 2 ^ 16 * 2 ^ 16 + rules % 2 ^ 16

-- margin + 2^32
unfoldable pub raised : ℤ → ℕ
raised (pos k) = 2 ^ 32 + k
raised (negsuc k) = 2 ^ 32 - suc k

-- refusal k at place p
abbrev pub code_refusal : Refusal → ℕ
code_refusal why = coded (reason_number why.reason) why.place

-- an answer by the coding of its value
abbrev pub code_answer : {A : Type 0} → (A → ℕ) → Result A Refusal → ℕ
code_answer coding (Ok x) = coding x
code_answer coding (Err why) = code_refusal why

-- a number under a top of its own, and nothing under another
abbrev pub code_found : ℕ → ℕ → Option ℕ → ℕ
code_found top nothing (Some value) = coded top value
code_found top nothing None = coded nothing 0

abbrev pub code_counts : Counts → ℕ
code_counts c = coded 32 (counts c.atoms c.rules)

abbrev pub code_search : Solved → ℕ
code_search Model = coded 35 0
code_search NoModel = coded 36 0

abbrev pub code_test : Bool → ℕ
code_test true = coded 37 0
code_test false = coded 38 0

-- the coding of each call's answer
abbrev pub code_checked : Checked → ℕ
code_checked = code_answer code_counts

abbrev pub code_opened : Opened → ℕ
code_opened = code_answer (code_found 33 34)

abbrev pub code_solved : Searched → ℕ
code_solved = code_answer code_search

abbrev pub code_tested : Tested → ℕ
code_tested = code_answer code_test

abbrev pub code_margin : MarginRead → ℕ
code_margin = code_answer (λ margin. coded 39 (raised margin))

abbrev pub code_part : PartRead → ℕ
code_part = code_answer (code_found 40 41)

-- r hands on an answer that meets the call's promise
pub record HandsOn {A : Type 0} (Promised : A → Type 0) (coding : A → ℕ) (r : ℕ) : Type 0 where
  pub answer : A
  pub promised : Promised answer
  pub coded : r ≡ coding answer
