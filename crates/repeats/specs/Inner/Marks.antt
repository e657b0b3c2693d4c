-- The mark of a rule, by which it is found: a number that rules have in common when they are the same. It is summed up list by list: each
-- number of a list times an odd number made of it and its place, and the whole sum times another number where the next list begins, so that
-- rules that differ in little seldom share a slot. What is multiplied is cut down first, and a sum is what a word has of it.
use Rattle.std.specs.Prelude.{ℕ, ◌+◌, ◌*◌, ◌%◌, ◌^◌, Bool, List, [], ◌∷◌, ◌==◌}
use Rattle.rules.specs.Sum.{pick}
use Rattle.rules.specs.Rule.{Rule, Weighted, kind_number, atoms_of, weights_of}
use Rattle.rules.specs.declared.kind.Kind.TheVariants.{Weight as weight}

-- how many slots rules are entered in
unfoldable pub slot_count : ℕ
slot_count = 8192

-- marks and places are cut down to so many
unfoldable pub mark_count : ℕ
mark_count = 4294967296

-- a mark and one number more, at its place in a list
unfoldable pub mixed : ℕ → ℕ → ℕ → ℕ
mixed mark place x = (mark + x * ((place % mark_count + x) * 2 + 1)) % 2 ^ 64

-- a mark, where the next list begins
unfoldable pub carried : ℕ → ℕ
carried mark = mark % mark_count * 487

-- with the numbers of a list, whose places are so far apart
unfoldable pub mixed_all : ℕ → ℕ → ℕ → List ℕ → ℕ
mixed_all step mark place [] = mark
mixed_all step mark place (x ∷ xs) = mixed_all step (mixed mark place x) (place + step) xs

abbrev pub list_mark : ℕ → ℕ → List ℕ → ℕ
list_mark step mark xs = mixed_all step (carried mark) 0 xs

-- the atoms of a list go up, so that their places say nothing more; weights do not
abbrev pub atoms_mark : ℕ → List ℕ → ℕ
atoms_mark = list_mark 0

abbrev pub weights_mark : ℕ → List ℕ → ℕ
weights_mark = list_mark 1

-- with the literals of a body, and with their weights where it is weighed
unfoldable pub body_mark : ℕ → Bool → List Weighted → List Weighted → ℕ
body_mark mark weighs pos neg =
    pick weighs (weights_mark (weights_mark (atoms_mark (atoms_mark mark (atoms_of pos)) (atoms_of neg)) (weights_of pos)) (weights_of neg))
    (atoms_mark (atoms_mark mark (atoms_of pos)) (atoms_of neg))

-- of heads, body and need, which is a list of one number
unfoldable pub rule_mark : Rule → ℕ
rule_mark r =
    atoms_mark
    (body_mark (atoms_mark 0 r.heads) (kind_number r.kind == kind_number weight) r.pos r.neg)
    (r.need ∷ [])
