-- "In order: edition (1); atom count n (0 to 512); rule count (0 to 2,048); the rules; the compute-in list; the compute-out list;
-- nothing more." "Number 9 is tested first, then the sheet in reading order (for each number 1 or 2, then its value; 6 before 7)."
-- Refusal 3: "edition not 1", at its first byte. 8: "bytes after the compute-out list", at the first such byte. 9: "sheet longer than
-- 65,536 bytes", at 65,536.
use Rattle.std.specs.Prelude.{ℕ, List, length, ltb, eqb, Result, Ok, Err}
use Rattle.rules.specs.Limits.{atoms_most, rules_most, bytes_most}
use Rattle.rules.specs.Sum.{pick}
use Rattle.numbers.specs.Answer.{refusal, read_then}
use Rattle.numbers.specs.Number.{number_at, within_at}
use Rattle.numbers.specs.Lists.{list_at}
use Rattle.numbers.specs.declared.reason.Reason.TheVariants.{Edition, BytesLeft, TooLong}
use Rattle.numbers.specs.declared.Refusal.{Refusal}
use Rattle.numbers.specs.declared.Span.{Span}
use Rattle.sheet.specs.Rule.{rules_at}
use Rattle.sheet.specs.declared.Outline.{Outline}

unfoldable pub edition_at : List ℕ → Result Span Refusal
edition_at s =
    read_then Err (number_at s 0) (λ edition. pick (eqb edition.value 1) (Ok edition) (Err (refusal Edition 0)))

-- the compute lists after the rules, and nothing more
unfoldable pub tail_at : List ℕ → ℕ → Span → Result Outline Refusal
tail_at s n rules =
    read_then Err (list_at s 0 n rules.next)
    (λ ins. read_then Err (list_at s 0 n ins.next)
    (λ outs. pick (ltb outs.next (length s)) (Err (refusal BytesLeft outs.next))
    (Ok (record { atoms = n; rules = rules; ins = ins; outs = outs }))))

-- the rule count at a place, the rules, and what comes after them
unfoldable pub rest_at : List ℕ → ℕ → ℕ → Result Outline Refusal
rest_at s n at =
    read_then Err (within_at s 0 rules_most at)
    (λ count. read_then Err (rules_at s n count.value count.next) (λ rules. tail_at s n rules))

unfoldable pub whole_at : List ℕ → Result Outline Refusal
whole_at s =
    read_then Err (edition_at s)
    (λ edition. read_then Err (within_at s 0 atoms_most edition.next)
    (λ atoms. rest_at s atoms.value atoms.next))

-- "Check a sheet: accepted with n and the rule count, or a refusal."
unfoldable pub sheet_read : List ℕ → Result Outline Refusal
sheet_read s = pick (ltb bytes_most (length s)) (Err (refusal TooLong bytes_most)) (whole_at s)
