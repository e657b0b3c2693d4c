-- What the search's steps say of models: a closed map that decides every atom is its own first model; the first model of a closed
-- guess is the first that has the guessed literal; and the first with the lowest undecided atom in comes before those with it out.
use Prim.Native.Nat.{ℕ, ◌+◌, ◌-◌}
use mathlib.Core.Path.{◌≡◌, sym, ◌∙◌}
use mathlib.Core.Bool.{Bool, true, false, true≢false, false≢true}
use Rattle.std.specs.Prelude.{Option, Some, None, Ok, Err, is_some}
use mathlib.Core.List.{List, [], ◌∷◌}
use native.Mathlib.Omega.{arith}
use lib.ListN.{get_or}
use Rattle.rules.specs.Rule.{Within}
use Rattle.rules.specs.Map.{Over, Whole, side, signed}
use Rattle.rules.specs.Forcing.{Closed, Contradiction, computed}
use Rattle.rules.proofs.Fits.{Numbered}
use Rattle.rules.proofs.Bytes.{side_at, side_index, index_within}
use Rattle.rules.proofs.Least.{holding_up}
use Rattle.rules.proofs.First.{Lowest, leaf, try_in, try_out, try_none, branch_first, branch_none, branch_clash}
use Rattle.table.specs.Inner.Rows.{table_rules, table_sheet, Laid}
use Rattle.table.proofs.Rows.{laid_numbered}
use Rattle.forcing.specs.Inner.Rounds.{NoneWith}
use Rattle.search.specs.Inner.Search.{Standing, Open, ClosedGuess, Answers, Follows}

module _ {c : List ℕ} {n count : ℕ} (laid : Laid c n count) where
  ok : Numbered (table_sheet c n count)
  ok = laid_numbered c n count laid

module _ {c : List ℕ} {n count : ℕ} (laid : Laid c n count) {m : List ℕ} where
  -- nothing is left to decide
  pub decided_all : Standing c n count m → NoneWith 0 n m → Answers c n count m (Some m)
  decided_all st none = record { answer = (leaf (ok laid) st.closed decided st.held, whole) }
    where
      decided : (a : ℕ) → Within n a → side n m a ≡ 0 → ⊥
      decided a w z = none (a - 1) (omega (arith, w.low, w.high)) (sym (side_at n m a w) ∙ z)

      whole : Whole n m
      whole k h =
          let low : get_or m k 0 ≡ 0 → ⊥ = none k h in
          record { low = omega (arith, low); high = st.proper.sides k h }

  module _ {i : ℕ} (op : Open c n count m i) where
    pub within : Within n (i + 1)
    within = index_within n i op.lowest.inside

    pub lowest_low : Lowest n (side n m) (i + 1)
    lowest_low =
        record {
          within = within;
          undecided = side_index n m i op.lowest.inside ∙ op.lowest.here;
          lower = λ b w l z. op.lowest.lower (b - 1) (omega (arith, l, w.low)) (sym (side_at n m b w) ∙ z);
        }

    module _ (s : Bool) where
      -- the answer for the closed guess is the answer for the branch
      pub followed :
          {q : List ℕ} (r : Option (List ℕ)) → ClosedGuess c n count m (i + 1) s q → Answers c n count q r
          → Follows c n count m (i + 1) s r
      followed (Some _) g a =
          record {
            answer = (branch_first (ok laid) (side n m) (i + 1) within s g.least a.answer.0, a.answer.1);
          }
      followed None g a =
          record { answer = branch_none (ok laid) (side n m) (i + 1) within s g.least a.answer }

      pub clashed :
          Contradiction (Closed (table_rules c count) n) (Over (side n m) (signed s (i + 1) ∷ []))
          → Follows c n count m (i + 1) s None
      clashed k = record { answer = branch_clash (ok laid) (side n m) (i + 1) within s k }

    -- in, where there is one
    pub answered_in :
        (r : Option (List ℕ)) → is_some r ≡ true → Follows c n count m (i + 1) true r → Answers c n count m r
    answered_in (Some _) e f =
        record { answer = (try_in (ok laid) op.stands.closed.is_map lowest_low f.answer.0, f.answer.1) }
    answered_in None e f = absurd (false≢true e)
