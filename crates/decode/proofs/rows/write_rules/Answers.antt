-- `write_rules` meets its contract. The loop's invariant: the rules before this one stand in the rows that are kept, each once, and what is
-- left of them has room.
use mathlib.Core.Path.{◌∙◌, sym, ap, refl}
use mathlib.Core.Logic.{inl, inr}
use native.Mathlib.Omega.{arith}
use Rattle.rules.specs.Limits.{rules_most}
use Rattle.sheet.proofs.sheet.Ran.{sheet_ran}
use Rattle.decode.proofs.rows.Writing.{writing_one, this_one, writing_begin, next_asks, few_rows, end_asks, keep_asks, writing_new, writing_repeat, writing_done}
use Rattle.decode.specs.declared.rows.Rows.{Rows}
use Rattle.decode.proofs.rows.write_rules.Goals.{then-is_wanted, else-is_wanted, then-found-rows, else-found-rows}
use Rattle.decode.proofs.rows.write_rules.Goals as goal

pub first_pair-requires : goal.first_pair-requires
first_pair-requires c =
    let ran = sheet_ran c.args.s.now c.args.sheet c.requires.accepted in
    omega (arith, ran.count, ran.well_formed.count)

pub loop-i-init : goal.loop-i-init
loop-i-init c =
    let ready = c.requires in
    rw c.new-kept.ensures (writing_one ready (writing_begin ready c.first_pair.ensures))

pub write_rule-rule-requires : goal.write_rule-rule-requires
write_rule-rule-requires c =
    let ready = c.requires in
    next_asks ready (this_one ready c.loop-i.invariant) c.loop-i-test.true

pub end_rows-requires : goal.end_rows-requires
end_rows-requires c =
    let ready = c.requires in
    end_asks ready (this_one ready c.loop-i.invariant) c.loop-i-test.true c.write_rule-rule.result c.write_rule-rule.ensures

pub overflow_cast-rows : goal.overflow_cast-rows
unfolding rules_most
overflow_cast-rows c =
    let ready = c.requires in
    omega (arith, few_rows ready (this_one ready c.loop-i.invariant) c.loop-i-test.true)

pub keep-found-requires : goal.keep-found-requires
keep-found-requires c =
    let ready = c.requires in
    keep_asks ready (this_one ready c.loop-i.invariant) c.loop-i-test.true c.write_rule-rule.result c.write_rule-rule.ensures
    c.end_rows.ensures

pub overflow_step-i : goal.overflow_step-i
unfolding rules_most
overflow_step-i c =
    let ran = sheet_ran c.args.s.now c.args.sheet c.requires.accepted in
    omega (arith, c.loop-i-test.true, ran.count, ran.well_formed.count)

pub loop-i-preserved : goal.loop-i-preserved
loop-i-preserved c =
    let ready = c.requires in
    let this = this_one ready c.loop-i.invariant in
    let wrote = c.write_rule-rule.ensures in
    let keeps = c.keep-found.ensures in
    elim c.if-is_wanted.branch [
      | then-is_wanted v ↦
          elim c.if-found-rows.branch [
            | then-found-rows w ↦
                rw (w.rows-is, v.rows-is)
                (writing_one ready
                (writing_new ready this c.loop-i-test.true _ wrote c.end_rows.ensures keeps _
                (w.if-found-rows.true ∙ ap (λ (r : Rows). r.count) v.rows-is)
                (inl (v.if-is_wanted.true, refl))))
            | else-found-rows w ↦
                rw (w.rows-is, v.rows-is)
                (writing_one ready
                (writing_repeat ready this c.loop-i-test.true _ wrote c.end_rows.ensures keeps _
                (λ e. w.if-found-rows.false (e ∙ sym (ap (λ (r : Rows). r.count) v.rows-is)))
                (inl (v.if-is_wanted.true, refl))))
          ]
      | else-is_wanted v ↦
          elim c.if-found-rows.branch [
            | then-found-rows w ↦
                rw (w.rows-is, v.rows-is)
                (writing_one ready
                (writing_new ready this c.loop-i-test.true _ wrote c.end_rows.ensures keeps _
                (w.if-found-rows.true ∙ ap (λ (r : Rows). r.count) v.rows-is)
                (inr (v.if-is_wanted.false, refl))))
            | else-found-rows w ↦
                rw (w.rows-is, v.rows-is)
                (writing_one ready
                (writing_repeat ready this c.loop-i-test.true _ wrote c.end_rows.ensures keeps _
                (λ e. w.if-found-rows.false (e ∙ sym (ap (λ (r : Rows). r.count) v.rows-is)))
                (inr (v.if-is_wanted.false, refl))))
          ]
    ]

pub shape_of-code : goal.shape_of-code
shape_of-code c = c.loop-i.invariant.writing.long

pub returns : goal.returns
returns c =
    let ready = c.requires in
    writing_done ready (this_one ready c.loop-i.invariant) c.loop-i-test.false
