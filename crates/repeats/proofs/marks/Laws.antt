-- A list's mark is summed up number by number: the mark so far, mixed with what is left of the list, is the mark of the whole list.
use Rattle.std.proofs.Common.{◌≡◌, ℕ, ◌+◌, ◌*◌, ◌%◌, ◌≤◌, List, [], ◌∷◌, sym, ap, ◌∙◌, mul-le-mul_right}
use Rattle.rules.specs.Limits.{number_most}
use Rattle.repeats.specs.Inner.Marks.{mark_count, mixed, mixed_all}

-- a number at its place, at most
pub placed_most : (place x : ℕ) → x ≤ number_most → x * ((place % mark_count + x) * 2 + 1) ≤ number_most * ((place % mark_count + x) * 2 + 1)
placed_most place x h = mul-le-mul_right ((place % mark_count + x) * 2 + 1) h

module _ (step mark place : ℕ) {left : List ℕ} where
  pub mark_turn :
      {x next : ℕ} {xs : List ℕ} → left ≡ x ∷ xs → next ≡ mixed mark place x
      → mixed_all step next (place + step) xs ≡ mixed_all step mark place left
  unfolding mixed_all
  mark_turn {xs = xs} e f = ap (λ (m : ℕ). mixed_all step m (place + step) xs) f ∙ sym (ap (mixed_all step mark place) e)

  pub mark_done : left ≡ [] → mark ≡ mixed_all step mark place left
  unfolding mixed_all
  mark_done e = sym (ap (mixed_all step mark place) e)
