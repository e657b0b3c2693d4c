-- An accepted sheet has a byte for each head, literal and compute atom and three more for each rule, so its rules and lists find room in
-- the table.
use Prim.Native.Nat.{ℕ, ◌+◌}
use mathlib.Core.Path.{◌≡◌, ◌∙◌, ap}
use mathlib.Core.List.{List, [], ◌∷◌, ◌++◌}
use native.Mathlib.Omega.{arith}
use lib.ListN.{length, length-append, length-map}
use Rattle.rules.specs.Limits.{bytes_most, number_most}
use Rattle.rules.specs.Rule.{Rule, Sheet, one}
use Rattle.sheet.specs.Meaning.{sheet_meant}
use Rattle.sheet.specs.Shown.Encode.{rules_size}
use Rattle.sheet.specs.declared.Outline.{Outline}
use Rattle.sheet.proofs.sheet.Ran.{SheetRan, sheet_ran}
use Rattle.table.specs.Inner.Words.{row_width, pair_width}
use Rattle.decode.specs.Inner.Rows.{first_pair, lists_rule, TableRoom}
use Rattle.decode.specs.Inner.Decode.{table_words, Decodable}

-- the pairs of some rules and of one more
size_more : (rs : List Rule) (r : Rule) → rules_size (rs ++ (r ∷ [])) ≡ rules_size rs + rules_size (r ∷ [])
unfolding rules_size
size_more [] r = omega arith
size_more (q ∷ rs) r = omega (arith, size_more rs r)

module _ (s : List ℕ) (o : Outline) (c : List ℕ) (ready : Decodable s o c) where
  abbrev sh : Sheet
  sh = sheet_meant s o

  ran : SheetRan s o
  ran = sheet_ran s o ready.accepted

  lists_size : rules_size (lists_rule sh ∷ []) ≡ length sh.compute_in + length sh.compute_out
  unfolding rules_size
  lists_size = omega (arith, length-map sh.compute_in one, length-map sh.compute_out one)

  abbrev written : List Rule
  written = sh.rules ++ (lists_rule sh ∷ [])

  all_count : length written ≡ o.rules.value + 1
  all_count = omega (arith, length-append sh.rules (lists_rule sh ∷ []), ran.count)

  pub table_room : TableRoom c 0 (first_pair o.rules.value) written
  unfolding first_pair table_words row_width pair_width bytes_most number_most
  table_room =
      let size : rules_size written ≡ rules_size sh.rules + (length sh.compute_in + length sh.compute_out) =
      size_more sh.rules (lists_rule sh) ∙ ap (◌+◌ (rules_size sh.rules)) lists_size in
      record {
        rows = omega (arith, all_count);
        pairs = omega (arith, ran.count, ran.far, ready.room);
        few = omega (arith, ran.count, ran.far, ran.short);
      }
