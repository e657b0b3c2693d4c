-- Links lead down, so a row that is met from a number is met from each number on the way until it is passed, and what is written at a
-- higher index changes nothing. A row is entered in front of those that its slot had, so all of them are met as before.
use Rattle.std.specs.Prelude.{None}
use Rattle.std.proofs.Common.{◌≡◌, ℕ, ◌+◌, ◌-◌, ◌%◌, ◌<◌, ◌≤◌, not, T, eqb, ◌⊎◌, List, length, get_or, set, sym, refl, ap, ◌∙◌, subst, inl, inr, ⊎_elim, arith, length-set, get_or-set_other, get_or-set_same, below_more}
use Rattle.rules.specs.Limits.{rules_most}
use Rattle.rules.specs.Rule.{Rule}
use Rattle.rules.proofs.Tests.{T_eq, T_ne, decided}
use Rattle.table.specs.Inner.Rows.{row_rule}
use Rattle.repeats.specs.Inner.Marks.{slot_count, rule_mark}
use Rattle.repeats.specs.declared.slots.Kept.{Kept}
use Rattle.repeats.specs.Inner.Slots.{Reaches, here, onward, Entered, Indexed, FindAsks, Finds, entered_in, KeepAsks, KeptOnce}

none_from_zero : {links : List ℕ} {p q : ℕ} → q ≡ 0 → Reaches links p q → ⊥
none_from_zero z (here q e) = omega arith
none_from_zero z (onward q j e r) = omega arith

-- from a row's number the row is met, and what its link leads to
next_met :
    {links : List ℕ} {p q : ℕ} (row : ℕ) → q ≡ row + 1 → Reaches links p q → (p ≡ row) ⊎ Reaches links p (get_or links row 0)
next_met row z (here q e) = inl (omega arith)
next_met {links} {p} row z (onward q j e r) = inr (subst (λ (x : ℕ). Reaches links p (get_or links x 0)) (omega arith) r)

-- a link at k or above is not on the way from k or below
still_met :
    {links : List ℕ} {k p q : ℕ} (v : ℕ) → ((x : ℕ) → x < k → get_or links x 0 ≤ x) → q ≤ k → Reaches links p q → Reaches (set links k v) p q
still_met v down h (here q e) = here q e
still_met {links} {k} {p} v down h (onward q j e r) =
    onward q j e
    (subst (Reaches (set links k v) p) (sym (get_or-set_other links k j v 0 (λ same. omega arith)))
    (still_met v down (omega (arith, down j (omega arith))) r))

-- a search for row k's rule has come to a number: what was to be met from where it began is met from there
pub record Finding (c : List ℕ) (kept : Kept) (k from number : ℕ) : Type 0 where
  pub low : number ≤ k
  pub left : (p : ℕ) → p < k → row_rule c p ≡ row_rule c k → Reaches kept.links p from → Reaches kept.links p number

module _ (c : List ℕ) (kept : Kept) (k from : ℕ) where
  pub find_done : (number : ℕ) → number ≡ 0 → Finding c kept k from number → Finds c kept k from None
  find_done number z finding p h r same = none_from_zero z (finding.left p h same r)

  pub find_goes_on :
      (number : ℕ) → (number ≡ 0 → ⊥) → Finding c kept k from number → FindAsks c kept k from
      → (row_rule c (number - 1) ≡ row_rule c k → ⊥) → Finding c kept k from (get_or kept.links (number - 1) 0)
  find_goes_on number some finding asks apart =
      record {
        low = omega (arith, asks.down (number - 1) (omega (arith, finding.low)));
        left =
            λ p h same r.
            ⊎_elim (λ (e : p ≡ number - 1). absurd (apart (subst (λ (x : ℕ). row_rule c x ≡ row_rule c k) e same)))
            (λ (n : Reaches kept.links p (get_or kept.links (number - 1) 0)). n)
            (next_met (number - 1) (omega arith) (finding.left p h same r));
      }

-- what stands at a place after a write, there or at another
after_set :
    (P : ℕ → Type 0) (l : List ℕ) (i v x : ℕ) → i < length l → (x ≡ i → P v) → ((x ≡ i → ⊥) → P (get_or l x 0)) → P (get_or (set l i v) x 0)
after_set P l i v x h new old =
    ⊎_elim
    (λ (t : T (eqb x i)).
    subst P (sym (ap (λ (y : ℕ). get_or (set l i v) y 0) (T_eq t) ∙ get_or-set_same l i v 0 h)) (new (T_eq t)))
    (λ (t : T (not (eqb x i))). subst P (sym (get_or-set_other l i x v 0 (T_ne t))) (old (T_ne t))) (decided (eqb x i))

-- the slot of a rule's mark
abbrev pub slot_of : Rule → ℕ
slot_of r = rule_mark r % slot_count

module _ (c : List ℕ) (kept : Kept) (k slot : ℕ) (index : Indexed c kept k) (low : slot < slot_count) (few : k < rules_most) where
  -- the slots and the links after row k is entered
  abbrev slots' : List ℕ
  slots' = (entered_in kept slot k).slots

  abbrev links' : List ℕ
  links' = (entered_in kept slot k).links

  -- after a row is entered, each row is met from its slot as before
  slot_kept : (p x : ℕ) → Reaches kept.links p (get_or kept.slots x 0) → Reaches links' p (get_or slots' x 0)
  slot_kept p x r =
      after_set (Reaches links' p) kept.slots slot (k + 1) x (omega (arith, index.slots_long))
      (λ e.
      onward (k + 1) k refl
      (subst (Reaches links' p)
      (ap (λ (y : ℕ). get_or kept.slots y 0) e ∙ sym (get_or-set_same kept.links k (get_or kept.slots slot 0) 0 (omega (arith, index.links_long)))) met))
      (λ e. met)
    where
      met : Reaches links' p (get_or kept.slots x 0)
      met = still_met (get_or kept.slots slot 0) index.down (index.top x) r

  -- the row is met from its own
  slot_own : (x : ℕ) → slot ≡ x → Reaches links' k (get_or slots' x 0)
  slot_own x e =
      here (get_or slots' x 0)
      (ap (λ (y : ℕ). get_or slots' y 0) (sym e)
      ∙ get_or-set_same kept.slots slot (k + 1) 0 (omega (arith, index.slots_long)))

  pub index_more : slot ≡ slot_of (row_rule c k) → Indexed c (entered_in kept slot k) (k + 1)
  index_more belongs =
      record {
        slots_long = length-set kept.slots slot (k + 1) ∙ index.slots_long;
        links_long = length-set kept.links k (get_or kept.slots slot 0) ∙ index.links_long;
        top =
            λ x.
            after_set (λ (y : ℕ). y ≤ k + 1) kept.slots slot (k + 1) x (omega (arith, index.slots_long)) (λ e. omega arith)
            (λ e. omega (arith, index.top x));
        down =
            λ p h.
            after_set (λ (y : ℕ). y ≤ p) kept.links k (get_or kept.slots slot 0) p (omega (arith, index.links_long))
            (λ e. omega (arith, index.top slot, e)) (λ e. index.down p (omega arith));
        entered =
            below_more (Entered c (entered_in kept slot k)) k
            (λ p h. slot_kept p (slot_of (row_rule c p)) (index.entered p h)) (slot_own (slot_of (row_rule c k)) belongs);
      }

module _ (c : List ℕ) (kept : Kept) (k mark : ℕ) (asks : KeepAsks c kept k mark) where
  -- the slot is that of the rule's mark, and a row of row k's rule is met from there
  its_slot : mark % slot_count ≡ slot_of (row_rule c k)
  its_slot = ap (λ (m : ℕ). m % slot_count) asks.mark_is

  met_there : (p : ℕ) → p < k → row_rule c p ≡ row_rule c k → Reaches kept.links p (get_or kept.slots (mark % slot_count) 0)
  met_there p h same =
      subst (λ (x : ℕ). Reaches kept.links p (get_or kept.slots x 0)) (ap slot_of same ∙ sym its_slot) (asks.index.entered p h)

  pub slot_low : mark % slot_count < slot_count
  unfolding slot_count
  slot_low = omega arith

  -- no row with the rule is met, and row k is entered
  pub was_new :
      Finds c kept k (get_or kept.slots (mark % slot_count) 0) None → KeptOnce c k kept (entered_in kept (mark % slot_count) k) k
  was_new finds =
      record {
        low = omega arith;
        repeat = λ h. absurd (omega arith);
        new =
            λ e.
            record {
              apart = λ p h same. finds p h (met_there p h same) same;
              index = index_more c kept k (mark % slot_count) asks.index slot_low asks.few its_slot;
            };
      }
