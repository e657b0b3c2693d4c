-- The bytes that stand at a place, up to the next: what stands there and what stands next stand there one after the other.
use Prim.Native.Nat.{ℕ}
use mathlib.Core.Path.{◌≡◌, sym, ap, subst, ◌∙◌}
use mathlib.Core.List.{List, [], ◌++◌, append_assoc}
use lib.ListN.{drop}

pub record Stands (s : List ℕ) (at : ℕ) (bytes : List ℕ) (next : ℕ) : Type 0 where
  pub is : drop at s ≡ bytes ++ drop next s

pub nothing : {s : List ℕ} (at next : ℕ) → at ≡ next → Stands s at [] next
nothing {s} at next e = record { is = ap (λ (k : ℕ). drop k s) e }

pub joined : {s h x : List ℕ} {at mid next : ℕ} → Stands s at h mid → Stands s mid x next → Stands s at (h ++ x) next
joined {s} {h} {x} {next = next} a b =
    record { is = a.is ∙ ap (λ (q : List ℕ). h ++ q) b.is ∙ sym (append_assoc h x (drop next s)) }

pub stands_as : {s h x : List ℕ} {at next : ℕ} → h ≡ x → Stands s at h next → Stands s at x next
stands_as {s} {at = at} {next = next} e a = subst (λ (l : List ℕ). Stands s at l next) e a

pub stands_to : {s h : List ℕ} {at mid next : ℕ} → mid ≡ next → Stands s at h mid → Stands s at h next
stands_to {s} {h} {at} e a = subst (λ (k : ℕ). Stands s at h k) e a
