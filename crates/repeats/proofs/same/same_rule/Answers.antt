-- `repeats::same::same_rule`: the tests are of the parts of the two rules, one after another; the last is of their pairs.
use Rattle.std.proofs.Common.{◌≡◌, sym, ◌∙◌, arith, rules}
use Rattle.repeats.proofs.same.Laws.{as_far, rule_differs, rule_told}
use Rattle.repeats.proofs.same.same_rule.Goals as goal

pub returns-then-ne : goal.returns-then-ne
returns-then-ne c =
    rule_differs c.args.code.now c.args.i c.args.k c.requires.one c.requires.other
    (λ parts.
    let e : c.kind_at.result ≡ c.kind_at-2.result = c.kind_at.ensures ∙ parts.kind ∙ sym c.kind_at-2.ensures in search rules)

pub returns-then-need_at : goal.returns-then-need_at
returns-then-need_at c =
    rule_differs c.args.code.now c.args.i c.args.k c.requires.one c.requires.other
    (λ parts. omega (arith, parts.need, c.if-need_at.true, c.need_at-2.ensures, c.need_at.ensures))

pub returns-then-positives_at-from : goal.returns-then-positives_at-from
returns-then-positives_at-from c =
    rule_differs c.args.code.now c.args.i c.args.k c.requires.one c.requires.other
    (λ parts.
    omega (
      arith,
      parts.positives,
      c.if-positives_at-from.true,
      c.positives_at-2.ensures,
      c.positives_at.ensures,
      c.heads_at-other.ensures,
      c.heads_at-from.ensures,
    ))

pub returns-then-negatives_at-from : goal.returns-then-negatives_at-from
returns-then-negatives_at-from c =
    rule_differs c.args.code.now c.args.i c.args.k c.requires.one c.requires.other
    (λ parts.
    omega (
      arith,
      parts.negatives,
      c.if-negatives_at-from.true,
      c.negatives_at-2.ensures,
      c.negatives_at.ensures,
      c.heads_at-other.ensures,
      c.heads_at-from.ensures,
    ))

pub returns-then-to-from : goal.returns-then-to-from
returns-then-to-from c =
    rule_differs c.args.code.now c.args.i c.args.k c.requires.one c.requires.other
    (λ parts.
    omega (
      arith,
      parts.count,
      c.if-to-from.true,
      c.end_at.ensures,
      c.end_at-to.ensures,
      c.heads_at-other.ensures,
      c.heads_at-from.ensures,
    ))

pub returns : goal.returns
returns c =
    let code = c.args.code.now in
    let same : c.kind_at.result ≡ c.kind_at-2.result = search rules in
    rule_told code c.args.i c.args.k c.requires.one c.requires.other c.same_pairs.result
    (λ runs. record {
      kind = sym c.kind_at.ensures ∙ same ∙ c.kind_at-2.ensures;
      need = sym c.need_at.ensures ∙ c.if-need_at.false ∙ c.need_at-2.ensures;
      positives =
          as_far c.positives_at.ensures c.heads_at-from.ensures c.positives_at-2.ensures
          c.heads_at-other.ensures c.if-positives_at-from.false;
      negatives =
          as_far c.negatives_at.ensures c.heads_at-from.ensures c.negatives_at-2.ensures
          c.heads_at-other.ensures c.if-negatives_at-from.false;
      count =
          as_far c.end_at-to.ensures c.heads_at-from.ensures c.end_at.ensures c.heads_at-other.ensures
          c.if-to-from.false;
      runs = runs;
    })
    (rw (c.end_at-to.ensures, c.heads_at-other.ensures, c.heads_at-from.ensures) at c.same_pairs.ensures)
