-- The rules of a sheet are taken and written one by one: each is the rule that was read there when the sheet was accepted, and is then in
-- one of the rows that are kept; and what is left of the rules, with the compute lists, has room.
use Prim.Native.Nat.{ℕ, suc, ◌+◌, ◌-◌, ◌*◌, ◌≤◌, ◌<◌}
use mathlib.Core.Path.{◌≡◌, refl, sym, ◌∙◌, ap, ap₂, subst}
use mathlib.Core.Logic.{◌⊎◌, inl, inr}
use mathlib.Core.List.{List, [], ◌∷◌, ◌++◌, Memᴰ}
use Rattle.std.specs.Prelude.{Ok}
use native.Mathlib.Omega.{arith}
use native.Mathlib.Nat.{sub-zero, eq-or-lt_of_le}
use native.Mathlib.Numerals.{add-one}
use lib.ListN.{length, get_or, drop}
use lib.Seq.{drop-cons}
use Rattle.rules.specs.Limits.{rules_most}
use Rattle.rules.specs.Rule.{Rule, no_rule}
use Rattle.rules.proofs.Members.{index_mem}
use Rattle.numbers.specs.Answer.{span}
use Rattle.numbers.specs.Lists.{in_turn, up_to}
use Rattle.numbers.specs.declared.Span.{Span}
use Rattle.numbers.proofs.Answer.{one_left, same_ok}
use Rattle.numbers.proofs.lists.Laws.{turned}
use Rattle.sheet.specs.Rule.{rule_at, rule_step, rules_at}
use Rattle.sheet.specs.Sheet.{sheet_read}
use Rattle.sheet.specs.Meaning.{rules_from, sheet_meant}
use Rattle.sheet.specs.Shown.Encode.{rules_size}
use Rattle.sheet.specs.declared.Outline.{Outline}
use Rattle.sheet.specs.declared.SheetRule.{SheetRule}
use Rattle.sheet.proofs.Sound.{each_proper, proper_headed}
use Rattle.sheet.proofs.sheet.Rules.{rules_more, rules_next}
use Rattle.sheet.proofs.sheet.Ran.{SheetRan, sheet_ran}
use Rattle.table.specs.Inner.Words.{row_width, pair_width}
use Rattle.table.specs.Inner.Rows.{row_rule}
use Rattle.repeats.specs.Inner.Same.{Filled}
use Rattle.repeats.specs.Inner.Marks.{rule_mark}
use Rattle.repeats.specs.declared.slots.Kept.{Kept}
use Rattle.repeats.specs.Inner.Slots.{Indexed, KeepAsks, KeptOnce, nothing_kept}
use Rattle.repeats.proofs.Index.{index_begin, index_kept}
use Rattle.decode.specs.declared.pairs.Reached.{Reached}
use Rattle.decode.specs.Inner.Taken.{rule_taken}
use Rattle.decode.specs.Inner.Rows.{positives_from, negatives_from, end_from, first_pair, lists_rule, with_end, with_last, RowWritten, TableRoom, RuleAsks, RulePut, RowHas, Stood}
use Rattle.decode.specs.Inner.Decode.{Decodable, WritesRules}
use Rattle.decode.proofs.Taken.{RuleIs, rule_taken_law}
use Rattle.decode.proofs.rows.Laws.{room_next, last_long}
use Rattle.decode.proofs.rows.Written.{row_written}
use Rattle.decode.proofs.rows.Stood.{row_filled, last_row, rule_kept, stood_kept, stood_repeat, stood_new}
use Rattle.decode.proofs.Room.{table_room}

-- the first i rules stand in k rows, and the next was read at a place
pub record Writing (s : List ℕ) (o : Outline) (wanted : ℕ) (c₀ c : List ℕ) (kept : Kept) (i k j row at : ℕ) : Type 0 where
  pub low : i ≤ o.rules.value
  pub few : k ≤ i
  pub room : TableRoom c k j (rules_from (o.rules.value - i) s o.atoms at ++ (lists_rule (sheet_meant s o) ∷ []))
  pub stood : Stood (sheet_meant s o).rules (first_pair o.rules.value) c i k j
  pub stays : wanted < i → RowHas c k (get_or (sheet_meant s o).rules wanted no_rule) row
  pub row_most : row ≤ i
  pub rest : drop i (sheet_meant s o).rules ≡ rules_from (o.rules.value - i) s o.atoms at
  pub reads :
      in_turn (rule_step s o.atoms) (o.rules.value - i) 0 (span o.rules.value o.rules.first at) ≡ Ok o.rules
  pub index : Indexed c kept k
  pub long : length c ≡ length c₀

-- the same of the one sheet that these bytes are accepted as: a loop that does not look at the sheet says so much
pub record WritingOne (s : List ℕ) (wanted : ℕ) (c₀ c : List ℕ) (kept : Kept) (i k j row at : ℕ) : Type 0 where
  pub sheet : Outline
  pub accepted : sheet_read s ≡ Ok sheet
  pub writing : Writing s sheet wanted c₀ c kept i k j row at

module _ {s : List ℕ} {o : Outline} {c₀ : List ℕ} (ready : Decodable s o c₀) where
  pub writing_one :
      {wanted : ℕ} {c : List ℕ} {kept : Kept} {i k j row at : ℕ} → Writing s o wanted c₀ c kept i k j row at
      → WritingOne s wanted c₀ c kept i k j row at
  writing_one w = record { sheet = o; accepted = ready.accepted; writing = w }

  pub this_one :
      {wanted : ℕ} {c : List ℕ} {kept : Kept} {i k j row at : ℕ} → WritingOne s wanted c₀ c kept i k j row at
      → Writing s o wanted c₀ c kept i k j row at
  this_one {wanted} {c} {kept} {i} {k} {j} {row} {at} w =
      subst (λ (t : Outline). Writing s t wanted c₀ c kept i k j row at) (same_ok (sym w.accepted ∙ ready.accepted))
      w.writing

  abbrev lists : List Rule
  lists = lists_rule (sheet_meant s o) ∷ []

  ran : SheetRan s o
  ran = sheet_ran s o ready.accepted

  pub writing_begin :
      {wanted j : ℕ} → j ≡ first_pair o.rules.value
      → Writing s o wanted c₀ c₀ nothing_kept 0 0 j 0 o.rules.first
  unfolding sheet_meant rules_at
  writing_begin {wanted} {j} e =
      let all : rules_from (o.rules.value - 0) s o.atoms o.rules.first ≡ rules_from o.rules.value s o.atoms o.rules.first =
      ap (λ (k : ℕ). rules_from k s o.atoms o.rules.first) (sub-zero _) in
      record {
        low = omega arith;
        few = omega arith;
        room =
            subst (λ (rs : List Rule). TableRoom c₀ 0 j (rs ++ lists)) (sym all)
            (subst (λ (m : ℕ). TableRoom c₀ 0 m ((sheet_meant s o).rules ++ lists)) (sym e) (table_room s o c₀ ready));
        stood =
            record {
              from = omega arith;
              rows = λ q h. absurd (omega (arith, h));
              top = λ q h. absurd (omega (arith, h));
              all = λ x h. absurd (omega (arith, h));
              apart = λ p q h. absurd (omega (arith, h));
            };
        stays = λ h. absurd (omega (arith, h));
        row_most = omega arith;
        rest = sym all;
        reads =
            ap (λ (k : ℕ). in_turn (rule_step s o.atoms) k 0 (span o.rules.value o.rules.first o.rules.first)) (sub-zero _)
            ∙ ran.reads;
        index = index_begin c₀;
        long = refl;
      }

  module _
      {wanted : ℕ}
      {c : List ℕ}
      {kept : Kept}
      {i k j row at : ℕ}
      (w : Writing s o wanted c₀ c kept i k j row at)
    where
      abbrev rules : List Rule
      rules = (sheet_meant s o).rules

      abbrev first : ℕ
      first = first_pair o.rules.value

      module _ (h : i < o.rules.value) where
        abbrev after : ℕ
        after = o.rules.value - (i + 1)

        abbrev done : Span
        done = span o.rules.value o.rules.first at

        abbrev r : Rule
        r = rule_taken s at

        next :
            (r : SheetRule) × (rule_at s o.atoms at ≡ Ok r)
            × (in_turn (rule_step s o.atoms) after 0 (up_to done r.next) ≡ Ok o.rules)
        next =
            rules_next s o.atoms after 0 done o.rules
            (ap (λ (k : ℕ). in_turn (rule_step s o.atoms) k 0 done) (sym (one_left o.rules.value i h)) ∙ w.reads)

        taken : RuleIs s at next.0
        taken = rule_taken_law s o.atoms at next.0 next.1

        abbrev left : List Rule
        left = rules_from after s o.atoms next.0.next

        here_left : rules_from (o.rules.value - i) s o.atoms at ≡ r ∷ left
        here_left =
            ap (λ (k : ℕ). rules_from k s o.atoms at) (one_left o.rules.value i h)
            ∙ rules_more s o.atoms after at next.0 next.1
            ∙ ap (λ (r : Rule). r ∷ rules_from after s o.atoms next.0.next) (sym taken.rule)

        inside : i < length rules
        inside = omega (arith, ran.count, h)

        opened : get_or rules i no_rule ∷ drop (suc i) rules ≡ r ∷ left
        opened = sym (drop-cons rules i no_rule inside) ∙ w.rest ∙ here_left

        here : get_or rules i no_rule ≡ r
        here = let e = opened in cc

        rest : drop (i + 1) rules ≡ left
        rest = let e = opened in let f : drop (suc i) rules ≡ left = cc in ap (λ (x : ℕ). drop x rules) (add-one i) ∙ f

        among : Memᴰ r rules
        among = subst (λ (x : Rule). Memᴰ x rules) here (index_mem rules i no_rule inside)

        room : TableRoom c k j (r ∷ (left ++ lists))
        room = subst (λ (rs : List Rule). TableRoom c k j (rs ++ lists)) here_left w.room

        room_one : TableRoom c k j (r ∷ [])
        unfolding row_width pair_width rules_size
        room_one = record { rows = omega (arith, room.rows); pairs = omega (arith, room.pairs); few = omega (arith, room.few) }

        pub next_asks : RuleAsks s at c k j
        next_asks = room_one

        below : row_width * (k + 2) ≤ pair_width * first
        unfolding row_width pair_width first_pair
        below = omega (arith, w.few, h)

        abbrev d : List ℕ
        d = with_last c k j r

        stood : Stood rules first d i k j
        stood = stood_kept r room_one below w.stood

        row_last : RowWritten d k j r
        row_last = last_row r room_one below w.stood

        pub few_rows : k < rules_most
        few_rows = omega (arith, w.few, h, ran.count, ran.well_formed.count)

        headed : {q : Rule} → Memᴰ q rules → 1 ≤ length q.heads
        unfolding sheet_meant
        headed m = proper_headed o.atoms _ (each_proper o.atoms ran.well_formed.atoms ran.well_formed.rules m)

        filled : (p : ℕ) → (p ≡ k) ⊎ (p < k) → Filled d p
        unfolding rules_size positives_from negatives_from end_from
        filled p (inl e) = subst (Filled d) (sym e) (row_filled row_last (headed among) (omega (arith, room_one.few)))
        filled p (inr l) =
            let t = stood.rows p l in row_filled t.written (headed t.among) (omega (arith, t.high, room_one.few))

        index_on : Indexed d kept k
        index_on = index_kept (rule_kept r room_one below w.stood) w.index

        module _ {c₁ : List ℕ} (end : Reached) (put : RulePut s at c k j c₁ end) where
          pub end_asks : TableRoom c₁ (k + 1) end.pair []
          end_asks =
              let t = room_next c k j r [] room_one in
              subst (λ (m : ℕ). TableRoom c₁ (k + 1) m []) (sym put.pair)
              (subst (λ (x : List ℕ). TableRoom x (k + 1) (end_from j r) []) (sym put.code) t)

          module _ {c₂ : List ℕ} (ended : c₂ ≡ with_end c₁ (k + 1) end.pair) where
            is_last : c₂ ≡ d
            unfolding with_last
            is_last = ended ∙ ap₂ (λ (x : List ℕ) (m : ℕ). with_end x (k + 1) m) put.code put.pair

            pub keep_asks : KeepAsks c₂ kept k end.mark
            keep_asks =
                subst (λ (x : List ℕ). KeepAsks x kept k end.mark) (sym is_last)
                (record {
                  mark_is = put.mark ∙ ap rule_mark (sym (row_written row_last));
                  filled = λ p l. filled p (eq-or-lt_of_le l);
                  few = few_rows;
                  index = index_on;
                })

            module _ {kept' : Kept} {x : ℕ} (keeps : KeptOnce c₂ k kept kept' x) where
              once : KeptOnce d k kept kept' x
              once = subst (λ (y : List ℕ). KeptOnce y k kept kept' x) is_last keeps

              place : end.next ≡ next.0.next
              place = put.place ∙ taken.next

              -- which row has the rule, and how many rows there are now, up to which pair
              record Turned (k' j' : ℕ) : Type 0 where
                fewer : k' ≤ i + 1
                room' : TableRoom d k' j' (left ++ lists)
                stood' : Stood rules first d (i + 1) k' j'
                index' : Indexed d kept' k'
                row' : (x < k') × (row_rule d x ≡ r)
                more : k ≤ k'

              repeated : (x ≡ k → ⊥) → Turned k j
              unfolding row_width pair_width rules_size
              repeated other =
                  let l : x < k = omega (arith, once.low) in
                  let (same, all-same) = once.repeat l in
                  let rule : row_rule d x ≡ r = same ∙ row_written row_last in
                  record {
                    fewer = omega (arith, w.few);
                    room' =
                        record {
                          rows = omega (arith, room.rows);
                          pairs = omega (arith, room.pairs, last_long c k j r);
                          few = omega (arith, room.few);
                        };
                    stood' = stood_repeat stood (x, record { low = l; same = rule ∙ sym here });
                    index' = subst (λ (y : Kept). Indexed d y k) (sym all-same) index_on;
                    row' = (l, rule);
                    more = omega arith;
                  }

              new : x ≡ k → Turned (k + 1) end.pair
              unfolding row_width pair_width rules_size positives_from negatives_from end_from
              new e =
                  let n = once.new e in
                  subst (λ (m : ℕ). Turned (k + 1) m) (sym put.pair)
                  (record {
                    fewer = omega (arith, w.few);
                    room' =
                        record {
                          rows = omega (arith, room.rows);
                          pairs = omega (arith, room.pairs, last_long c k j r);
                          few = omega (arith, room.few);
                        };
                    stood' = stood_new stood row_last among here n.apart;
                    index' = n.index;
                    row' = (omega (arith, e), ap (row_rule d) e ∙ row_written row_last);
                    more = omega arith;
                  })

              -- the row of the rule that was asked for: this one, or the one before
              abbrev pub Asked : ℕ → Type 0
              Asked row' = ((i ≡ wanted) × (row' ≡ x)) ⊎ ((i ≡ wanted → ⊥) × (row' ≡ row))

              stays_on : (k' j' row' : ℕ) → Turned k' j' → Asked row' → wanted < i + 1 → RowHas d k' (get_or rules wanted no_rule) row'
              stays_on k' j' row' t (inl a) l =
                  subst (RowHas d k' (get_or rules wanted no_rule)) (sym a.1)
                  (record { low = t.row'.0; same = t.row'.1 ∙ sym here ∙ ap (λ (y : ℕ). get_or rules y no_rule) a.0 })
              stays_on k' j' row' t (inr a) l =
                  let old = w.stays (omega (arith, l, a.0)) in
                  subst (RowHas d k' (get_or rules wanted no_rule)) (sym a.1)
                  (record {
                    low = omega (arith, old.low, t.more);
                    same = rule_kept r room_one below w.stood row old.low ∙ old.same;
                  })

              row_low : (row' : ℕ) → Asked row' → row' ≤ i + 1
              row_low row' (inl a) = omega (arith, once.low, w.few, a.1)
              row_low row' (inr a) = omega (arith, w.row_most, a.1)

              writing_next :
                  (k' j' row' : ℕ) → Turned k' j' → Asked row' → Writing s o wanted c₀ c₂ kept' (i + 1) k' j' row' end.next
              writing_next k' j' row' t a =
                  subst
                  (λ (y : List ℕ). Writing s o wanted c₀ y kept' (i + 1) k' j' row' end.next)
                  (sym is_last)
                  (record {
                    low = omega (arith, h);
                    few = t.fewer;
                    room = subst (λ (p : ℕ). TableRoom d k' j' (rules_from after s o.atoms p ++ lists)) (sym place) t.room';
                    stood = t.stood';
                    stays = stays_on _ _ _ t a;
                    row_most = row_low _ a;
                    rest = rest ∙ ap (λ (p : ℕ). rules_from after s o.atoms p) (sym place);
                    reads = ap (λ (p : ℕ). in_turn (rule_step s o.atoms) after 0 (up_to done p)) place ∙ next.2;
                    index = t.index';
                    long = last_long c k j r ∙ w.long;
                  })

              -- a rule that is new has one row more, and a repeat none
              pub writing_new :
                  (row' : ℕ) → x ≡ k → Asked row' → Writing s o wanted c₀ c₂ kept' (i + 1) (k + 1) end.pair row' end.next
              writing_new row' e a = writing_next _ _ _ (new e) a

              pub writing_repeat :
                  (row' : ℕ) → (x ≡ k → ⊥) → Asked row' → Writing s o wanted c₀ c₂ kept' (i + 1) k j row' end.next
              writing_repeat row' e a = writing_next _ _ _ (repeated e) a

      pub writing_done :
          o.rules.value ≤ i → WritesRules s o wanted c₀ c (record { count = k; row = row; pair = j; next = at })
      unfolding rules_from
      writing_done h =
          let e : i ≡ o.rules.value = omega (arith, w.low, h) in
          let z : o.rules.value - i ≡ 0 = omega arith in
          record {
            stood = subst (λ (x : ℕ). Stood rules first c x k j) e w.stood;
            few = omega (arith, w.few, w.low);
            room = subst (λ (m : ℕ). TableRoom c k j (rules_from m s o.atoms at ++ lists)) z w.room;
            row = λ l. w.stays (omega (arith, l, h));
            row_most = omega (arith, w.row_most, w.low);
            place = ap (λ (p : Span). p.next) (same_ok (turned _ _ i 0 _ w.reads h));
            long = w.long;
          }
