-- "A rule is one of four kinds, each with its own head part." "Each rule has a need and each body literal a weight."
-- Row i of a table stands for rule i + 1: kind, need, and the places of its heads, its positive and its negated literals, which end
-- where the next row's heads begin.
use Rattle.std.specs.Prelude.{ℕ, zero, suc, ◌+◌, ◌*◌, ◌≤◌, ◌<◌, ◌≡◌, Bool, true, false, not, List, [], ◌∷◌, T}
use Rattle.rules.specs.Limits.{atoms_most, rules_most, number_most}
use Rattle.rules.specs.Rule.{Rule, Sheet, kind_of, chooses, atoms_of}
use Rattle.rules.specs.declared.kind.Kind.{Kind}
use Rattle.table.specs.Inner.Words.{row_width, word_at, pair_atom, seg, seg_atoms, Seg}

-- word k of row i
abbrev pub cell : List ℕ → ℕ → ℕ → ℕ
cell c i k = word_at c (row_width * i + k)

unfoldable pub kind_at : List ℕ → ℕ → Kind
kind_at c i = kind_of (word_at c (row_width * i))

unfoldable pub need_at : List ℕ → ℕ → ℕ
need_at c i = cell c i 1

unfoldable pub heads_at : List ℕ → ℕ → ℕ
heads_at c i = cell c i 2

unfoldable pub positives_at : List ℕ → ℕ → ℕ
positives_at c i = cell c i 3

unfoldable pub negatives_at : List ℕ → ℕ → ℕ
negatives_at c i = cell c i 4

abbrev pub end_at : List ℕ → ℕ → ℕ
end_at c i = heads_at c (i + 1)

-- where the literals of a sign begin and end
abbrev pub from : List ℕ → ℕ → Bool → ℕ
from c i true = positives_at c i
from c i false = negatives_at c i

abbrev pub to : List ℕ → ℕ → Bool → ℕ
to c i true = negatives_at c i
to c i false = end_at c i

abbrev pub row_rule : List ℕ → ℕ → Rule
row_rule c i =
    record {
      kind = kind_at c i;
      heads = seg_atoms c (heads_at c i) (positives_at c i);
      need = need_at c i;
      pos = seg c (positives_at c i) (negatives_at c i);
      neg = seg c (negatives_at c i) (end_at c i);
    }

-- the k rules from row i on
unfoldable pub row_rules : List ℕ → ℕ → ℕ → List Rule
row_rules c zero i = []
row_rules c (suc k) i = row_rule c i ∷ row_rules c k (suc i)

-- the first count rules
abbrev pub table_rules : List ℕ → ℕ → List Rule
table_rules c count = row_rules c count 0

-- the sheet of n atoms that a table holds: after its count rules stand the compute lists, as the body of one row more
abbrev pub table_sheet : List ℕ → ℕ → ℕ → Sheet
table_sheet c n count =
    record {
      atoms = n;
      rules = table_rules c count;
      compute_in = atoms_of (row_rule c count).pos;
      compute_out = atoms_of (row_rule c count).neg;
    }

-- row i is well formed for n atoms: its runs are, its need is a number of a sheet, and only a choice rule has a list of heads,
-- "strictly increasing"
pub record Row (c : List ℕ) (n i : ℕ) : Type 0 where
  pub heads : Seg c n (heads_at c i) (positives_at c i)
  pub literals : (s : Bool) → Seg c n (from c i s) (to c i s)
  pub increasing : (j : ℕ) → heads_at c i ≤ j → j + 1 < positives_at c i → pair_atom c j < pair_atom c (j + 1)
  pub need : need_at c i ≤ number_most
  pub single : T (not (chooses (kind_at c i))) → positives_at c i ≡ heads_at c i + 1

-- the table holds count rules over n atoms, each once, and two compute lists
pub record Laid (c : List ℕ) (n count : ℕ) : Type 0 where
  pub few_atoms : n ≤ atoms_most
  pub few_rules : count ≤ rules_most
  pub rows : (i : ℕ) → i < count → Row c n i
  pub apart : (i k : ℕ) → i < count → k < count → row_rule c i ≡ row_rule c k → i ≡ k
  pub lists : Row c n count
