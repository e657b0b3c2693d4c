-- An answer that is said to equal what a definition gives is fixed: any other that meets the contract equals it.
use mathlib.Core.Path.{◌≡◌, sym, ◌∙◌}

pub fixed : {A : Type 0} {x : A} (r r' : A) → r ≡ x → r' ≡ x → r ≡ r'
fixed r r' e e' = e ∙ sym e'
