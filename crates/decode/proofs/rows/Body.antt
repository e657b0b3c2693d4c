-- A body is written list by list, each literal with weight 1, and then, where it is weighed, weight by weight: so its pairs are its
-- literals, its mark is made of what was taken, and each list finds the room that the whole body has.
use Prim.Native.Nat.{ℕ, ◌+◌, ◌*◌, ◌-◌, ◌≤◌}
use mathlib.Core.Path.{◌≡◌, refl, sym, ◌∙◌, ap, ap₂, subst}
use mathlib.Core.Bool.{Bool, true, false}
use mathlib.Core.List.{List}
use native.Mathlib.Omega.{arith}
use lib.ListN.{length, length-map}
use Rattle.rules.specs.Sum.{pick}
use Rattle.rules.specs.Rule.{one, ones, atoms_of, weights_of}
use Rattle.numbers.specs.Lists.{numbers_from}
use Rattle.numbers.proofs.lists.Numbers.{numbers_count}
use Rattle.sheet.specs.RuleMeaning.{paired}
use Rattle.sheet.proofs.rule.Apart.{ones_atoms, weigh_atoms, weigh_weights, weigh_length}
use Rattle.table.specs.Inner.Words.{pair_width}
use Rattle.repeats.specs.Inner.Marks.{atoms_mark, weights_mark, body_mark}
use Rattle.decode.specs.Inner.Taken.{numbers_past, list_taken, list_past, literals_taken, literals_past, body_taken}
use Rattle.decode.specs.Inner.Pairs.{with_pairs, with_weights, PairsFit, PairsCopied, ListCopied, WeightsCopied}
use Rattle.decode.specs.Inner.Rows.{BodyAsks, BodyPut}
use Rattle.decode.specs.declared.pairs.Reached.{Reached}
use Rattle.decode.specs.declared.rows.BodyEnds.{BodyEnds}
use Rattle.decode.proofs.pairs.Copy.{asks_as, list_as, copied_long}
use Rattle.decode.proofs.pairs.Weights.{weights_on, weights_below, weights_long}

-- weights over those of two lists, one after the other
weigh_both :
    (c : List ℕ) (j k : ℕ) (xs ys vs ws : List ℕ) → k ≡ j + length xs → length xs ≡ length vs → length ys ≡ length ws
    → with_weights (with_weights (with_pairs (with_pairs c j (ones xs)) k (ones ys)) j vs) k ws
    ≡ with_pairs (with_pairs c j (paired xs vs)) k (paired ys ws)
weigh_both c j k xs ys vs ws e f g =
    ap (λ (d : List ℕ). with_weights d k ws)
    (weights_below (with_pairs c j (ones xs)) j vs k (ones ys) (omega arith)
    ∙ ap (λ (d : List ℕ). with_pairs d k (ones ys)) (weights_on c j xs vs f))
    ∙ weights_on (with_pairs c j (paired xs vs)) k ys ws g

pub literals_length : (s : List ℕ) (weighs : Bool) (xs : List ℕ) (at : ℕ) → length (literals_taken s weighs xs at) ≡ length xs
unfolding literals_taken pick
literals_length s true xs at = weigh_length xs (numbers_from (length xs) s at) (sym (numbers_count s (length xs) at))
literals_length s false xs at = length-map xs one

-- the mark of literals is that of the lists they were taken from
literals_mark :
    (s : List ℕ) (before : ℕ) (weighs : Bool) (xs ys : List ℕ) (m n : ℕ)
    → body_mark before weighs (literals_taken s weighs xs m) (literals_taken s weighs ys n)
    ≡ pick weighs
    (weights_mark (weights_mark (atoms_mark (atoms_mark before xs) ys) (numbers_from (length xs) s m)) (numbers_from (length ys) s n))
    (atoms_mark (atoms_mark before xs) ys)
unfolding body_mark literals_taken pick
literals_mark s before true xs ys m n =
    let vs = numbers_from (length xs) s m in
    let ws = numbers_from (length ys) s n in
    let e : length xs ≡ length vs = sym (numbers_count s (length xs) m) in
    let f : length ys ≡ length ws = sym (numbers_count s (length ys) n) in
    let a : atoms_of (paired xs vs) ≡ xs = weigh_atoms xs vs e in
    let b : atoms_of (paired ys ws) ≡ ys = weigh_atoms ys ws f in
    let v : weights_of (paired xs vs) ≡ vs = weigh_weights xs vs e in
    let w : weights_of (paired ys ws) ≡ ws = weigh_weights ys ws f in
    cc
literals_mark s before false xs ys m n =
    ap₂ (λ (us vs : List ℕ). atoms_mark (atoms_mark before us) vs) (ones_atoms xs) (ones_atoms ys)

abbrev pub ends : ℕ → ℕ → ℕ → ℕ → BodyEnds
ends negatives end next mark = record { negatives = negatives; end = record { pair = end; next = next; mark = mark } }

module _ (s : List ℕ) (weighs : Bool) (at : ℕ) (c : List ℕ) (j before : ℕ) (asks : BodyAsks s weighs at c j) where
  abbrev xs : List ℕ
  xs = list_taken s at

  abbrev ys : List ℕ
  ys = list_taken s (list_past s at)

  pos_length : length (body_taken s weighs at).pos ≡ length xs
  unfolding body_taken
  pos_length = literals_length s weighs xs (list_past s (list_past s at))

  neg_length : length (body_taken s weighs at).neg ≡ length ys
  unfolding body_taken
  neg_length = literals_length s weighs ys _

  room : pair_width * (j + (length xs + length ys)) ≤ length c
  room = subst (λ (k : ℕ). pair_width * (j + k) ≤ length c) (ap₂ ◌+◌ pos_length neg_length) asks.room

  pub first_fits : PairsFit c j (ones xs)
  unfolding pair_width
  first_fits = record { room = omega (arith, room, length-map xs one) }

  module _ {c₁ : List ℕ} (p : Reached) (first : ListCopied c j xs (list_past s at) before c₁ p) where
    middle : p.pair ≡ j + length xs
    middle = omega (arith, first.pairs.end, length-map xs one)

    next_list : list_taken s p.next ≡ ys
    next_list = ap (list_taken s) first.next

    pub second_fits : PairsFit c₁ p.pair (ones (list_taken s p.next))
    unfolding pair_width
    second_fits =
        asks_as (ap ones (sym next_list)) (record { room = omega (arith, room, middle, length-map ys one, copied_long first.pairs) })

    module _ {c₂ : List ℕ} (q : Reached) (next : ListCopied c₁ p.pair (list_taken s p.next) (list_past s p.next) p.mark c₂ q) where
      second : ListCopied c₁ p.pair ys (list_past s (list_past s at)) p.mark c₂ q
      second = list_as next_list (ap (list_past s) first.next) next

      written : PairsCopied c₁ p.pair (ones ys) c₂ q.pair
      written = second.pairs

      end : q.pair ≡ p.pair + length ys
      end = omega (arith, written.end, length-map ys one)

      abbrev place : ℕ
      place = list_past s (list_past s at)

      lists : c₂ ≡ with_pairs (with_pairs c j (ones xs)) p.pair (ones ys)
      lists = written.code ∙ ap (λ (d : List ℕ). with_pairs d p.pair (ones ys)) first.pairs.code

      made :
          {d : List ℕ} {next mark : ℕ} → d ≡ with_pairs (with_pairs c j (body_taken s weighs at).pos) p.pair (body_taken s weighs at).neg
          → next ≡ (body_taken s weighs at).next
          → mark ≡ body_mark before weighs (body_taken s weighs at).pos (body_taken s weighs at).neg
          → BodyPut s weighs at c j before d (ends p.pair q.pair next mark)
      made e f g =
          let z : p.pair ≡ j + length (body_taken s weighs at).pos = omega (arith, middle, pos_length) in
          record {
            code = e ∙ ap (λ (k : ℕ). with_pairs (with_pairs c j (body_taken s weighs at).pos) k (body_taken s weighs at).neg) z;
            negatives = z;
            end = omega (arith, end, middle, pos_length, neg_length);
            next = f;
            mark = g;
          }

      module _ (e : weighs ≡ false) where
        plain_code : c₂ ≡ with_pairs (with_pairs c j (body_taken s weighs at).pos) p.pair (body_taken s weighs at).neg
        unfolding body_taken literals_taken pick
        plain_code = simp e lists

        plain_next : q.next ≡ (body_taken s weighs at).next
        unfolding body_taken literals_past pick
        plain_next = simp e second.next

        plain_mark : q.mark ≡ body_mark before weighs (body_taken s weighs at).pos (body_taken s weighs at).neg
        unfolding body_taken literals_past pick
        plain_mark =
            second.mark ∙ ap (λ (m : ℕ). atoms_mark m ys) first.mark
            ∙ sym (literals_mark s before weighs xs ys place (literals_past s weighs xs place) ∙ simp e refl)

        pub plain_put : BodyPut s weighs at c j before c₂ (record { negatives = p.pair; end = q })
        plain_put = made plain_code plain_next plain_mark

      pub above_low : j ≤ p.pair
      above_low = omega (arith, middle)

      pub above_room : pair_width * p.pair ≤ length c₂
      unfolding pair_width
      above_room = omega (arith, room, middle, copied_long first.pairs, copied_long written)

      module _
          {c₃ : List ℕ}
          (v : Reached)
          (above : WeightsCopied s q.next c₂ j p.pair q.mark c₃ v)
        where
          pub below_low : v.pair ≤ q.pair
          below_low = omega (arith, end, above.pair)

          pub below_room : pair_width * q.pair ≤ length c₃
          unfolding pair_width
          below_room =
              omega (
                arith,
                room,
                middle,
                end,
                copied_long first.pairs,
                copied_long written,
                ap length above.code ∙ weights_long c₂ j _,
              )

          abbrev vs : List ℕ
          vs = numbers_from (length xs) s place

          abbrev ws : List ℕ
          ws = numbers_from (length ys) s (numbers_past (length xs) s place)

          vs_are : numbers_from (p.pair - j) s q.next ≡ vs
          vs_are = ap₂ (λ (k m : ℕ). numbers_from k s m) (omega (arith, middle)) second.next

          v_is : v.next ≡ numbers_past (length xs) s place
          v_is = above.next ∙ ap₂ (λ (k m : ℕ). numbers_past k s m) (omega (arith, middle)) second.next

          ws_are : numbers_from (q.pair - p.pair) s v.next ≡ ws
          ws_are = ap₂ (λ (k m : ℕ). numbers_from k s m) (omega (arith, end)) v_is

          module _ (e : weighs ≡ true) {d : List ℕ} (w : Reached) (put : WeightsCopied s v.next c₃ v.pair q.pair v.mark d w) where
            below : WeightsCopied s v.next c₃ p.pair q.pair v.mark d w
            below = subst (λ (k : ℕ). WeightsCopied s v.next c₃ k q.pair v.mark d w) above.pair put

            weighed_code : d ≡ with_pairs (with_pairs c j (body_taken s weighs at).pos) p.pair (body_taken s weighs at).neg
            unfolding body_taken literals_taken literals_past pick
            weighed_code =
                below.code
                ∙ ap₂ (λ (d ws : List ℕ). with_weights d p.pair ws)
                (above.code ∙ ap₂ (λ (d vs : List ℕ). with_weights d j vs) lists vs_are)
                ws_are
                ∙ weigh_both c j p.pair xs ys vs ws middle (sym (numbers_count s (length xs) _)) (sym (numbers_count s (length ys) _))
                ∙ sym (simp e refl)

            weighed_next : w.next ≡ (body_taken s weighs at).next
            unfolding body_taken literals_past pick
            weighed_next = simp e (below.next ∙ ap₂ (λ (k m : ℕ). numbers_past k s m) (omega (arith, end)) v_is)

            weighed_mark : w.mark ≡ body_mark before weighs (body_taken s weighs at).pos (body_taken s weighs at).neg
            unfolding body_taken literals_past pick
            weighed_mark =
                let a : p.mark ≡ atoms_mark before xs = first.mark in
                let b : q.mark ≡ atoms_mark p.mark ys = second.mark in
                let f : v.mark ≡ weights_mark q.mark vs = above.mark ∙ ap (weights_mark q.mark) vs_are in
                let g : w.mark ≡ weights_mark v.mark ws = below.mark ∙ ap (weights_mark v.mark) ws_are in
                let h : w.mark ≡ weights_mark (weights_mark (atoms_mark (atoms_mark before xs) ys) vs) ws = cc in
                h ∙ sym (literals_mark s before weighs xs ys place (literals_past s weighs xs place) ∙ simp e refl)

            pub weighed_put : BodyPut s weighs at c j before d (record { negatives = p.pair; end = w })
            weighed_put =
                subst (λ (k : ℕ). BodyPut s weighs at c j before d (ends p.pair k w.next w.mark)) (sym below.pair)
                (made weighed_code weighed_next weighed_mark)
