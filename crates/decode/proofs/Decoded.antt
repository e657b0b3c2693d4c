-- After the rules the compute lists are written as one rule more, and the row that ends them. The rows of the rules go on standing, so the
-- table has just the rules of the sheet, each once, and its lists.
use Prim.Native.Nat.{ℕ, ◌+◌, ◌*◌, ◌≤◌, ◌<◌}
use mathlib.Core.Path.{◌≡◌, refl, sym, ◌∙◌, ap, ap₂, subst}
use mathlib.Core.List.{List, [], ◌∷◌, Memᴰ}
use native.Mathlib.Omega.{arith}
use lib.ListN.{get_or}
use Rattle.rules.specs.Limits.{number_most}
use Rattle.rules.specs.Rule.{Rule, Sheet, SameSet, no_rule, atoms_of}
use Rattle.rules.specs.declared.kind.Kind.TheVariants.{Choice as choice}
use Rattle.rules.proofs.Members.{mem_index}
use Rattle.numbers.specs.Answer.{span}
use Rattle.numbers.specs.Shown.Encode.{none}
use Rattle.numbers.specs.declared.Span.{Span}
use Rattle.sheet.specs.Meaning.{sheet_meant}
use Rattle.sheet.specs.Shown.Encode.{rules_size}
use Rattle.sheet.specs.declared.Outline.{Outline}
use Rattle.sheet.proofs.Sound.{Sound, each_sound, choice_sound}
use Rattle.sheet.proofs.rule.Apart.{ones_atoms}
use Rattle.sheet.proofs.sheet.Ran.{SheetParts, parts, SheetRan, sheet_ran}
use Rattle.table.specs.Inner.Words.{row_width, pair_width}
use Rattle.table.specs.Inner.Rows.{row_rule, table_rules, Row}
use Rattle.table.proofs.Rows.{rule_stands, rule_mem}
use Rattle.decode.specs.declared.pairs.Reached.{Reached}
use Rattle.decode.specs.declared.rows.Rows.{Rows}
use Rattle.decode.specs.Inner.Taken.{rule_of}
use Rattle.decode.specs.Inner.Rows.{end_from, first_pair, lists_rule, with_rule, with_end, with_last, RowWritten, TableRoom, RowHas, Stood, RestAsks, RestPut}
use Rattle.decode.specs.Inner.Decode.{Decodable, WritesRules, Decoded}
use Rattle.decode.proofs.Taken.{lists_taken}
use Rattle.decode.proofs.Laid.{written_row}
use Rattle.decode.proofs.rows.Laws.{room_next, last_long}
use Rattle.decode.proofs.rows.Rule.{headless}
use Rattle.decode.proofs.rows.Written.{row_written}
use Rattle.decode.proofs.rows.Stood.{last_row, rule_kept, stood_kept}

module _
    {s : List ℕ}
    {o : Outline}
    {wanted : ℕ}
    {c : List ℕ}
    (ready : Decodable s o c)
    {c₁ : List ℕ}
    (rules : Rows)
    (wrote : WritesRules s o wanted c c₁ rules)
  where
    abbrev sh : Sheet
    sh = sheet_meant s o

    -- where the bound of a rule would end, the lists begin
    abbrev unbound : Span
    unbound = span 0 rules.next rules.next

    abbrev lists : Rule
    lists = rule_of s choice [] unbound

    read : SheetParts s o
    read = parts s o ready.accepted

    ran : SheetRan s o
    ran = sheet_ran s o ready.accepted

    lists_are : lists_rule sh ≡ lists
    unfolding sheet_meant
    lists_are =
        sym
        (ap (λ (p : ℕ). rule_of s choice [] (span 0 p p)) wrote.place
        ∙ (lists_taken s o.atoms o.rules.next o.ins o.outs read.fifth read.sixth).rule)

    room : TableRoom c₁ rules.count rules.pair (lists ∷ [])
    room = subst (λ (r : Rule). TableRoom c₁ rules.count rules.pair (r ∷ [])) lists_are wrote.room

    pub lists_ask : RestAsks s choice unbound c₁ rules.count rules.pair rules.pair
    unfolding number_most rules_size row_width pair_width
    lists_ask =
        let h = room in
        record {
          row = omega (arith, h.rows, h.pairs);
          order = omega arith;
          pairs = omega (arith, h.pairs);
          few = omega (arith, h.few);
          bound_most = omega arith;
        }

    below : row_width * (rules.count + 2) ≤ pair_width * first_pair o.rules.value
    unfolding row_width pair_width first_pair
    below = omega (arith, wrote.few)

    -- the whole table
    abbrev d : List ℕ
    d = with_last c₁ rules.count rules.pair lists

    stood : Stood sh.rules (first_pair o.rules.value) d o.rules.value rules.count rules.pair
    stood = stood_kept lists room below wrote.stood

    lists_row : RowWritten d rules.count rules.pair lists
    lists_row = last_row lists room below wrote.stood

    lists_sound : Sound o.atoms lists
    unfolding sheet_meant
    lists_sound =
        subst (Sound o.atoms) lists_are
        (choice_sound o.atoms ran.well_formed.atoms [] _ _ none ran.well_formed.compute_in ran.well_formed.compute_out)

    row : (i : ℕ) → i < rules.count → Row d o.atoms i
    unfolding sheet_meant
    row i h =
        let t = stood.rows i h in
        written_row d o.atoms ran.well_formed.atoms i t.place t.rule t.written
        (each_sound o.atoms ran.well_formed.atoms ran.well_formed.rules t.among)

    same_rules : SameSet (table_rules d rules.count) sh.rules
    same_rules =
        record {
          onto =
              λ r m.
              let t = rule_stands d rules.count r m in
              let u = stood.rows t.row t.among.high in
              subst (λ (q : Rule). Memᴰ q sh.rules) (sym (t.same ∙ row_written u.written)) u.among;
          back =
              λ r m.
              let t = mem_index no_rule m in
              let u = stood.all t.0 (omega (arith, t.1, ran.count)) in
              subst (λ (q : Rule). Memᴰ q (table_rules d rules.count)) (u.1.same ∙ t.2) (rule_mem d rules.count u.0 u.1.low);
        }

    listed : row_rule d rules.count ≡ lists_rule sh
    listed = row_written lists_row ∙ sym lists_are

    stays : wanted < o.rules.value → RowHas d rules.count (get_or sh.rules wanted no_rule) rules.row
    stays h =
        let t = wrote.row h in
        record { low = t.low; same = rule_kept lists room below wrote.stood rules.row t.low ∙ t.same }

    whole : Decoded s o wanted c d (record { rules = rules.count; row = rules.row })
    unfolding sheet_meant
    whole =
        record {
          laid =
              record {
                few_atoms = ran.well_formed.atoms;
                few_rules = omega (arith, wrote.few, ran.count, ran.well_formed.count);
                rows = row;
                apart = stood.apart;
                lists =
                    written_row d o.atoms ran.well_formed.atoms rules.count rules.pair lists lists_row lists_sound;
              };
          sheet =
              record {
                atoms = refl;
                rules = same_rules;
                compute_in = ap (λ (r : Rule). atoms_of r.pos) listed ∙ ones_atoms sh.compute_in;
                compute_out = ap (λ (r : Rule). atoms_of r.neg) listed ∙ ones_atoms sh.compute_out;
              };
          row = stays;
          row_most = wrote.row_most;
          long = last_long c₁ rules.count rules.pair lists ∙ wrote.long;
        }

    module _ {c₂ : List ℕ} (end : Reached) (put : RestPut s choice unbound c₁ rules.count rules.pair rules.pair 0 c₂ end) where
      put_rule : (c₂ ≡ with_rule c₁ rules.count rules.pair lists) × (end.pair ≡ end_from rules.pair lists)
      put_rule = headless s unbound c₁ rules.count rules.pair end put

      pub ending_room : TableRoom c₂ (rules.count + 1) end.pair []
      ending_room =
          subst (λ (m : ℕ). TableRoom c₂ (rules.count + 1) m []) (sym put_rule.1)
          (subst (λ (x : List ℕ). TableRoom x (rules.count + 1) (end_from rules.pair lists) []) (sym put_rule.0)
          (room_next c₁ rules.count rules.pair lists [] room))

      pub ended :
          {f : List ℕ} → f ≡ with_end c₂ (rules.count + 1) end.pair
          → Decoded s o wanted c f (record { rules = rules.count; row = rules.row })
      unfolding with_last
      ended code =
          subst (λ (x : List ℕ). Decoded s o wanted c x (record { rules = rules.count; row = rules.row }))
          (sym (code ∙ ap₂ (λ (x : List ℕ) (m : ℕ). with_end x (rules.count + 1) m) put_rule.0 put_rule.1))
          whole
