-- Tight: two numbers that hand on a call's answer are equal, and so are the maps, since the desk's promise has one answer and one map
-- and the coding is a function of the answer.
use Prim.Native.Nat.{ℕ}
use mathlib.Core.Path.{◌≡◌, sym, ◌∙◌, ap}
use mathlib.Core.List.{List}
use Rattle.desk.specs.Promise.{Checks, Opens, Pins, Solves, Tests, Margins, Parts}
use Rattle.desk.proofs.Tight.{checks_tight, opens_tight, pins_tight, solves_tight, tests_tight, margins_tight, parts_tight}
use Rattle.archive.specs.Code.{HandsOn, code_checked, code_opened, code_solved, code_tested, code_margin, code_part}

-- of answers that are equal, and of whatever else is so of them
both :
    {A : Type 0} {C : Type 0} (P P' : A → Type 0) (coding : A → ℕ) (r r' : ℕ) → ((a a' : A) → P a → P' a' → (a ≡ a') × C)
    → HandsOn P coding r → HandsOn P' coding r' → (r ≡ r') × C
both P P' coding r r' same h h' =
    let e = same h.answer h'.answer h.promised h'.promised in
    (h.coded ∙ ap coding e.0 ∙ sym h'.coded, e.1)

alone :
    {A : Type 0} (P : A → Type 0) (coding : A → ℕ) (r r' : ℕ) → ((a a' : A) → P a → P a' → a ≡ a')
    → HandsOn P coding r → HandsOn P coding r' → r ≡ r'
alone P coding r r' same h h' =
    h.coded ∙ ap coding (same h.answer h'.answer h.promised h'.promised) ∙ sym h'.coded

pub check_tight : (s : List ℕ) (r r' : ℕ) → HandsOn (Checks s) code_checked r → HandsOn (Checks s) code_checked r' → r ≡ r'
check_tight s r r' = alone (Checks s) code_checked r r' (λ a a'. checks_tight s a a')

pub open_tight :
    (s m m' m'' : List ℕ) (r r' : ℕ) → HandsOn (Opens s m m') code_opened r → HandsOn (Opens s m m'') code_opened r'
    → (r ≡ r') × (m' ≡ m'')
open_tight s m m' m'' r r' = both (Opens s m m') (Opens s m m'') code_opened r r' (λ a a'. opens_tight s m m' m'' a a')

pub pin_tight :
    (s m : List ℕ) (a v : ℕ) (m' m'' : List ℕ) (r r' : ℕ) → HandsOn (Pins s m a v m') code_opened r
    → HandsOn (Pins s m a v m'') code_opened r' → (r ≡ r') × (m' ≡ m'')
pin_tight s m a v m' m'' r r' =
    both (Pins s m a v m') (Pins s m a v m'') code_opened r r' (λ x x'. pins_tight s m a v m' m'' x x')

pub solve_tight :
    (s m m' m'' : List ℕ) (r r' : ℕ) → HandsOn (Solves s m m') code_solved r → HandsOn (Solves s m m'') code_solved r'
    → (r ≡ r') × (m' ≡ m'')
solve_tight s m m' m'' r r' = both (Solves s m m') (Solves s m m'') code_solved r r' (λ a a'. solves_tight s m m' m'' a a')

pub test_tight : (s m : List ℕ) (r r' : ℕ) → HandsOn (Tests s m) code_tested r → HandsOn (Tests s m) code_tested r' → r ≡ r'
test_tight s m r r' = alone (Tests s m) code_tested r r' (λ a a'. tests_tight s m a a')

pub margin_tight :
    (s m : List ℕ) (k r r' : ℕ) → HandsOn (Margins s m k) code_margin r → HandsOn (Margins s m k) code_margin r' → r ≡ r'
margin_tight s m k r r' = alone (Margins s m k) code_margin r r' (λ a a'. margins_tight s m k a a')

pub rule_tight :
    (s : List ℕ) (k p i r r' : ℕ) → HandsOn (Parts s k p i) code_part r → HandsOn (Parts s k p i) code_part r' → r ≡ r'
rule_tight s k p i r r' = alone (Parts s k p i) code_part r r' (λ a a'. parts_tight s k p i a a')
