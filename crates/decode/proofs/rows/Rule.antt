-- A rule is written head part first, then its body, and then its row: what is taken on the way is what the rule has, so the words are
-- those of the rule, and each part finds the room that the whole rule has.
use Prim.Native.Nat.{ℕ, ◌+◌, ◌-◌, ◌≤◌}
use mathlib.Core.Path.{◌≡◌, refl, sym, ◌∙◌, ap, ap₂, subst}
use mathlib.Core.Bool.{Bool, true, false}
use mathlib.Core.List.{List, [], ◌∷◌}
use native.Mathlib.Omega.{arith}
use lib.Dec.{eqb}
use lib.ListN.{length, length-map}
use Rattle.rules.specs.Sum.{pick}
use Rattle.rules.specs.Limits.{number_most}
use Rattle.rules.specs.Rule.{Rule, one, ones, kind_number, kind_of}
use Rattle.rules.specs.declared.kind.Kind.{Kind}
use Rattle.rules.specs.declared.kind.Kind.TheVariants.{Basic as basic, Constraint as constraint, Choice as choice, Weight as weight}
use Rattle.numbers.specs.Number.{taken_at}
use Rattle.numbers.specs.declared.Span.{Span}
use Rattle.numbers.proofs.number.Taken.{taken_most}
use Rattle.sheet.specs.Shown.Encode.{rules_size}
use Rattle.table.specs.Inner.Words.{row_width, pair_width}
use Rattle.repeats.specs.Inner.Marks.{mixed, carried, mixed_all, atoms_mark, body_mark, rule_mark}
use Rattle.decode.specs.Inner.Taken.{list_taken, list_past, Body, body_length, rest_taken, has_bound, weighs, kind_taken, heads_taken, heads_past, bound_taken, need_taken, rule_of, rule_bound, rule_taken, rule_past}
use Rattle.decode.specs.Inner.Pairs.{with_pairs, PairsFit, PairsCopied, ListCopied}
use Rattle.decode.specs.Inner.Rows.{positives_from, negatives_from, end_from, with_body, with_row, with_rule, BodyPut, RowAsks, RestAsks, RestPut, RuleAsks, RulePut}
use Rattle.decode.specs.declared.pairs.Reached.{Reached}
use Rattle.decode.specs.declared.rows.BodyEnds.{BodyEnds}
use Rattle.decode.proofs.pairs.Laws.{pairs_long}
use Rattle.decode.proofs.pairs.Copy.{asks_as, copied_as, copied_long}

need_most_law : (kind : Kind) (bound length : ℕ) → bound ≤ number_most → length ≤ number_most → need_taken kind bound length ≤ number_most
unfolding need_taken pick
need_most_law kind bound length h l = by (has_bound kind)
  where
    by : (b : Bool) → pick b bound length ≤ number_most
    by true = h
    by false = l

bound_most_law : (s : List ℕ) (kind : Kind) (at : ℕ) → (bound_taken s kind at).value ≤ number_most
unfolding bound_taken pick number_most
bound_most_law s kind at = by (has_bound kind)
  where
    by : (b : Bool) → (pick b (taken_at s at) (record { value = 0; first = at; next = at })).value ≤ number_most
    by true = taken_most s at
    by false = omega arith

-- the heads: of a choice a list, and of every other kind one atom
module _ (s : List ℕ) (at : ℕ) where
  pub list_heads : (kind : Kind) → kind ≡ choice → heads_taken s kind at ≡ list_taken s at
  unfolding heads_taken pick
  list_heads kind e = ap (λ (k : Kind). heads_taken s k at) e

  pub list_past_law : (kind : Kind) → kind ≡ choice → heads_past s kind at ≡ list_past s at
  unfolding heads_past pick
  list_past_law kind e = ap (λ (k : Kind). heads_past s k at) e

  module _ (head : Span) (e : head ≡ taken_at s at) where
    pub one_head : (kind : Kind) → (kind ≡ choice → ⊥) → heads_taken s kind at ≡ head.value ∷ []
    unfolding heads_taken pick
    one_head basic other = ap (λ (p : Span). p.value ∷ []) (sym e)
    one_head constraint other = ap (λ (p : Span). p.value ∷ []) (sym e)
    one_head choice other = absurd (other refl)
    one_head weight other = ap (λ (p : Span). p.value ∷ []) (sym e)

    pub one_past : (kind : Kind) → (kind ≡ choice → ⊥) → head.next ≡ heads_past s kind at
    unfolding heads_past pick
    one_past basic other = ap (λ (p : Span). p.next) e
    one_past constraint other = ap (λ (p : Span). p.next) e
    one_past choice other = absurd (other refl)
    one_past weight other = ap (λ (p : Span). p.next) e

-- the weights of a kind are told by its number too
weighs_number : (kind : Kind) → weighs kind ≡ eqb (kind_number kind) (kind_number weight)
weighs_number basic = refl
weighs_number constraint = refl
weighs_number choice = refl
weighs_number weight = refl

-- the body and the row
module _ (s : List ℕ) (kind : Kind) (bound : Span) (c : List ℕ) (i heads j before : ℕ) (asks : RestAsks s kind bound c i heads j) where
  abbrev body : Body
  body = rest_taken s kind bound

  module _
      {c₁ : List ℕ}
      (ends : BodyEnds)
      (put : BodyPut s (weighs kind) bound.next c j before c₁ ends)
      {need : ℕ}
      (due : need ≡ need_taken kind bound.value (ends.end.pair - j))
    where
      need_is_law : need ≡ need_taken kind bound.value (body_length body)
      need_is_law = due ∙ ap (need_taken kind bound.value) (omega (arith, put.end))

      long : length c₁ ≡ length c
      long = ap length put.code ∙ pairs_long _ _ body.neg ∙ pairs_long c j body.pos

      pub need_fits : need ≤ number_most
      need_fits =
          subst (λ (k : ℕ). k ≤ number_most) (sym need_is_law)
          (need_most_law kind bound.value (body_length body) asks.bound_most (omega (arith, asks.few)))

      pub row_asks : RowAsks c₁ i need heads j ends.negatives
      row_asks =
          record {
            room = omega (arith, asks.row, long);
            need_most = need_fits;
            order = (asks.order, omega (arith, put.negatives), omega (arith, put.negatives, asks.few));
          }

      pub rest_put :
          {d : List ℕ} {last mark : ℕ} → d ≡ with_row c₁ i (kind_number kind) need heads j ends.negatives → last ≡ carried ends.end.mark
          → mark ≡ mixed last 0 need
          → RestPut s kind bound c i heads j before d (record { pair = ends.end.pair; next = ends.end.next; mark = mark })
      unfolding mixed_all
      rest_put e l m =
          record {
            code =
                e
                ∙ ap₂ (λ (x : List ℕ) (k : ℕ). with_row x i (kind_number kind) k heads j ends.negatives) put.code need_is_law
                ∙ ap (with_row _ i (kind_number kind) _ heads j) put.negatives;
            pair = put.end;
            place = put.next;
            mark = m ∙ ap₂ (λ (x k : ℕ). mixed x 0 k) (l ∙ ap carried put.mark) need_is_law;
          }

-- the whole rule
module _ (s : List ℕ) (at : ℕ) (c : List ℕ) (i j : ℕ) (asks : RuleAsks s at c i j) where
  abbrev rule : Rule
  rule = rule_taken s at

  module _ (k : Span) (taken : k ≡ taken_at s at) (kind : Kind) (is : kind ≡ kind_of k.value) where
    kind_here : kind ≡ kind_taken s at
    kind_here = is ∙ ap (λ (q : Span). kind_of q.value) taken

    next_here : k.next ≡ (taken_at s at).next
    next_here = ap (λ (q : Span). q.next) taken

    heads_are : heads_taken s kind k.next ≡ rule.heads
    unfolding rule_taken
    heads_are = ap₂ (heads_taken s) kind_here next_here

    pub heads_fit : PairsFit c j (ones (heads_taken s kind k.next))
    unfolding rules_size pair_width
    heads_fit =
        asks_as (ap ones (sym heads_are)) (record { room = omega (arith, asks.pairs, length-map rule.heads one) })

    module _
        {c₁ : List ℕ}
        (h : Reached)
        (heads : ListCopied c j (heads_taken s kind k.next) (heads_past s kind k.next) 0 c₁ h)
        (b : Span)
        (bound : b ≡ bound_taken s kind h.next)
      where
        written : PairsCopied c j (ones rule.heads) c₁ h.pair
        written = copied_as (ap ones (sym heads_are)) heads.pairs

        first : h.pair ≡ positives_from j rule
        unfolding positives_from
        first = omega (arith, written.end, length-map rule.heads one)

        bound_is : b ≡ rule_bound s at
        unfolding rule_bound
        bound_is =
            bound ∙ ap₂ (bound_taken s) kind_here heads.next
            ∙ ap (bound_taken s (kind_taken s at)) (ap₂ (heads_past s) kind_here next_here)

        body_is : rest_taken s kind b ≡ rest_taken s (kind_taken s at) (rule_bound s at)
        body_is = ap₂ (rest_taken s) kind_here bound_is

        pub rest_asks : RestAsks s kind b c₁ i j h.pair
        unfolding rule_taken rules_size row_width pair_width positives_from
        rest_asks =
            let l = ap body_length body_is in
            record {
              row = omega (arith, asks.rows, asks.pairs, copied_long written);
              order = omega (arith, first);
              pairs = omega (arith, asks.pairs, first, l, copied_long written);
              few = omega (arith, asks.few, first, l);
              bound_most = subst (λ (q : Span). q.value ≤ number_most) (sym bound) (bound_most_law s kind h.next);
            }

        -- the mark of the heads, with the body and the need, is that of the rule
        rest_mark :
            atoms_mark
            (body_mark h.mark (weighs kind) (rest_taken s kind b).pos (rest_taken s kind b).neg)
            (need_taken kind b.value (body_length (rest_taken s kind b)) ∷ [])
            ≡ rule_mark rule
        unfolding rule_mark rule_taken
        rest_mark =
            let x : h.mark ≡ atoms_mark 0 rule.heads = heads.mark ∙ ap (atoms_mark 0) heads_are in
            let y = body_is in
            let z = bound_is in
            let v = kind_here in
            let u = weighs_number kind in
            cc

        pub rule_put : {d : List ℕ} (end : Reached) → RestPut s kind b c₁ i j h.pair h.mark d end → RulePut s at c i j d end
        unfolding rule_taken rule_past with_rule with_body positives_from negatives_from end_from
        rule_put end rest =
            let x = written.code in
            let y = body_is in
            let z = bound_is in
            let f = first in
            let v = kind_here in
            record {
              code = cc rest.code;
              pair = omega (arith, rest.pair, first, ap body_length body_is);
              place = rest.place ∙ ap (λ (d : Body). d.next) body_is;
              mark = rest.mark ∙ rest_mark;
            }

-- a rule with no heads, of which only the rest is written
pub headless :
    (s : List ℕ) (bound : Span) (c : List ℕ) (i j : ℕ) {before : ℕ} {d : List ℕ} (end : Reached)
    → RestPut s choice bound c i j j before d end
    → (d ≡ with_rule c i j (rule_of s choice [] bound)) × (end.pair ≡ end_from j (rule_of s choice [] bound))
unfolding with_rule with_body with_pairs positives_from negatives_from end_from
headless s bound c i j end rest =
    let z : j ≡ j + 0 = omega arith in
    (cc rest.code, omega (arith, rest.pair))
