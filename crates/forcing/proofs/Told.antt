-- What a count tells: 0 and 1 are told as they are and any more as 2, so numbers that tell the same go on telling the same when as much
-- is added to each.
use Prim.Native.Nat.{ℕ, zero, suc, ◌+◌, ◌≤◌}
use mathlib.Core.Path.{◌≡◌, refl, sym, ◌∙◌, ap}
use mathlib.Core.Logic.{◌⊎◌, inl, inr, ⊎_elim}
use native.Mathlib.Omega.{arith}
use Rattle.forcing.specs.Inner.Support.{up_to_two}

told : (k : ℕ) → ((k ≤ 1) × (up_to_two k ≡ k)) ⊎ ((2 ≤ k) × (up_to_two k ≡ 2))
unfolding up_to_two
told zero = inl (omega arith, refl)
told (suc zero) = inl (omega arith, refl)
told (suc (suc k)) = inr (omega arith, refl)

pub told_more : (k : ℕ) → 2 ≤ k → up_to_two k ≡ 2
told_more k h =
    ⊎_elim (λ (few : (k ≤ 1) × (up_to_two k ≡ k)). absurd (omega (arith, few.0))) (λ (more : (2 ≤ k) × (up_to_two k ≡ 2)). more.1) (told k)

pub told_one : (k : ℕ) → up_to_two k ≡ 1 → k ≡ 1
told_one k e =
    ⊎_elim (λ (few : (k ≤ 1) × (up_to_two k ≡ k)). sym few.1 ∙ e)
    (λ (more : (2 ≤ k) × (up_to_two k ≡ 2)). absurd (omega (arith, more.1, e))) (told k)

pub told_twice : (k : ℕ) → up_to_two (up_to_two k) ≡ up_to_two k
told_twice k =
    ⊎_elim (λ (few : (k ≤ 1) × (up_to_two k ≡ k)). ap up_to_two few.1)
    (λ (more : (2 ≤ k) × (up_to_two k ≡ 2)). ap up_to_two more.1 ∙ told_more 2 (omega arith) ∙ sym more.1) (told k)

pub told_add : (x y k : ℕ) → up_to_two x ≡ up_to_two y → up_to_two (x + k) ≡ up_to_two (y + k)
told_add x y k e = ⊎_elim fewer more (told x)
  where
    fewer : (x ≤ 1) × (up_to_two x ≡ x) → up_to_two (x + k) ≡ up_to_two (y + k)
    fewer a =
        ⊎_elim (λ (b : (y ≤ 1) × (up_to_two y ≡ y)). ap (λ (z : ℕ). up_to_two (z + k)) (sym a.1 ∙ e ∙ b.1))
        (λ (b : (2 ≤ y) × (up_to_two y ≡ 2)). absurd (omega (arith, a.0, a.1, b.1, e))) (told y)

    more : (2 ≤ x) × (up_to_two x ≡ 2) → up_to_two (x + k) ≡ up_to_two (y + k)
    more a =
        ⊎_elim (λ (b : (y ≤ 1) × (up_to_two y ≡ y)). absurd (omega (arith, a.1, b.0, b.1, e)))
        (λ (b : (2 ≤ y) × (up_to_two y ≡ 2)).
        told_more (x + k) (omega (arith, a.0)) ∙ sym (told_more (y + k) (omega (arith, b.0)))) (told y)
